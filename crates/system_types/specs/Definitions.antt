-- What holds of each definition that is read.
use Rattle.std.specs.Prelude.{◌≤◌, Bool, true, false, ◌&&◌, ◌||◌, List, [], ◌∷◌, length, All, IsTrue}
use Rattle.model_system.specs.declared.code.Transaction.{Transaction}
use Rattle.system_types.specs.declared.definition.Macro.{Macro}
use Rattle.system_types.specs.declared.definition.Macro.TheVariants as macro
use Rattle.system_types.specs.declared.definition.Macro.TheVariants.{Control, Database, Segment, End}
use Rattle.system_types.specs.declared.definition.MacroLine.{MacroLine}

-- A code has a name of at most 8 bytes, a class of 1 to 255 and priorities of at most 14. A unit sends at most 32 segments, of at most 2,000 bytes.
pub record IsTransaction (transaction : Transaction) : Type 0 where
  pub name : length transaction.code ≤ 8
  pub some_class : 1 ≤ transaction.class
  pub class : transaction.class ≤ 255
  pub normal_priority : transaction.normal_priority ≤ 14
  pub limit_priority : transaction.limit_priority ≤ 14
  pub segment_count : transaction.segment_count ≤ 32
  pub segment_size : transaction.segment_size ≤ 2000

-- the numbers of a macro lie in their ranges
abbrev pub IsInRange : Macro → Type 0
IsInRange (Control qbytes logs) = (131072 ≤ qbytes) × (qbytes ≤ 8388608) × (64 ≤ logs) × (logs ≤ 2048)
IsInRange (Database name roots sectors) = (1 ≤ roots) × (roots ≤ 4096) × (1 ≤ sectors) × (sectors ≤ 8)
IsInRange (Segment name parent key bytes) = (1 ≤ key) × (key ≤ 32) × (bytes ≤ 1900)
IsInRange (macro.Transaction transaction) = IsTransaction transaction
IsInRange _ = Unit {0}

abbrev pub is_control : Macro → Bool
is_control (Control qbytes logs) = true
is_control _ = false

abbrev pub is_end_macro : Macro → Bool
is_end_macro End = true
is_end_macro _ = false

-- the first macro is IMSCTRL
abbrev pub begins_well : List MacroLine → Bool
begins_well [] = false
begins_well (line ∷ lines) = is_control line.content

-- the last macro is END
abbrev pub ends_well : List MacroLine → Bool
ends_well [] = false
ends_well (line ∷ []) = is_end_macro line.content
ends_well (line ∷ next ∷ lines) = ends_well (next ∷ lines)

abbrev pub is_application : Macro → Bool
is_application (macro.Application psb) = true
is_application _ = false

-- TRANSACT stands where an APPLCTN has come
abbrev pub may_stand : Bool → Macro → Bool
may_stand applied (macro.Transaction transaction) = applied
may_stand applied _ = true

-- each does, where one has come before these macros or not
abbrev pub are_applied : Bool → List MacroLine → Bool
are_applied applied [] = true
are_applied applied (line ∷ lines) = may_stand applied line.content && are_applied (applied || is_application line.content) lines

pub record IsDefinition (lines : List MacroLine) : Type 0 where
  pub first : IsTrue (begins_well lines)
  pub last : IsTrue (ends_well lines)
  pub applied : IsTrue (are_applied false lines)
  pub in_range : All (λ line. IsInRange line.content) lines
