-- The PCBs of a definition, which have one of three forms.
use Rattle.std.specs.Prelude.{ℕ, Bool, true, false, List, [], ◌∷◌, codes, Result, Ok, Err, if◌then◌else◌}
use Rattle.std.specs.Str.{bytes_eq}
use Rattle.text_rows.specs.LowestRule.{both, also}
use Rattle.text_rows.specs.Names.{name_of}
use Rattle.text_rows.specs.Operands.{needed, or_as, stands}
use Rattle.system_types.specs.declared.definition.Macro.{Macro}
use Rattle.system_types.specs.declared.definition.Macro.TheVariants as macro
use Rattle.sysdef_rows.specs.declared.pcbs.PcbForm.{PcbForm}
use Rattle.sysdef_rows.specs.declared.pcbs.PcbForm.TheVariants.{OnDatabase, ToDestination, Modifiable}
use Rattle.sysdef_rows.specs.Values.{options_of, modify_of}

-- TYPE: DB or TP. A PCB of TYPE=TP has the destination that LTERM names, or sets one where there is
-- no LTERM.
abbrev pub output_form : Bool → PcbForm
output_form true = ToDestination
output_form false = Modifiable

unfoldable pub form_in : Bool → List ℕ → Result PcbForm ℕ
form_in named word = if bytes_eq word (codes "DB") then Ok OnDatabase else (if bytes_eq word (codes "TP") then Ok (output_form named) else Err 9)

unfoldable pub pcb_form : List (List ℕ) → Result PcbForm ℕ
pcb_form ops = needed (codes "TYPE") (form_in (stands (codes "LTERM") ops)) ops

-- The keys of a form; so LTERM and MODIFY don't stand together. Where TYPE tells no form all keys
-- are known.
abbrev pub pcb_keys : List (List ℕ)
pcb_keys = codes "TYPE" ∷ codes "DBDNAME" ∷ codes "PROCOPT" ∷ codes "LTERM" ∷ codes "MODIFY" ∷ []

abbrev pub form_keys : Result PcbForm ℕ → List (List ℕ)
form_keys (Ok OnDatabase) = codes "TYPE" ∷ codes "DBDNAME" ∷ codes "PROCOPT" ∷ []
form_keys (Ok ToDestination) = codes "TYPE" ∷ codes "LTERM" ∷ []
form_keys (Ok Modifiable) = codes "TYPE" ∷ codes "MODIFY" ∷ []
form_keys (Err rule) = pcb_keys

-- PCB TYPE, DBDNAME, PROCOPT
abbrev pub database_pcb : Result (List ℕ × ℕ) ℕ → Result Macro ℕ
database_pcb (Ok (database, options)) = Ok (macro.DatabasePcb database options)
database_pcb (Err rule) = Err rule

unfoldable pub database_part : List (List ℕ) → Result (List ℕ × ℕ) ℕ
database_part ops = both (needed (codes "DBDNAME") name_of ops) (needed (codes "PROCOPT") options_of ops)

-- PCB TYPE, LTERM
abbrev pub destination_pcb : Result (List ℕ) ℕ → Result Macro ℕ
destination_pcb (Ok destination) = Ok (macro.DestinationPcb destination)
destination_pcb (Err rule) = Err rule

-- PCB TYPE, MODIFY
abbrev pub modifiable_pcb : Result (Unit {0}) ℕ → Result Macro ℕ
modifiable_pcb (Ok _) = Ok macro.ModifiablePcb
modifiable_pcb (Err rule) = Err rule

-- whether a value is one, apart from which
abbrev pub judged_operand : {A : Type 0} → Result A ℕ → Result (Unit {0}) ℕ
judged_operand (Ok value) = Ok tt
judged_operand (Err rule) = Err rule

-- the operands that stand there, of which none is missing
unfoldable pub standing_database : List (List ℕ) → Result (Unit {0}) ℕ
standing_database ops = also (or_as (codes "DBDNAME") (λ text. judged_operand (name_of text)) tt ops) (or_as (codes "PROCOPT") (λ text. judged_operand (options_of text)) tt ops)

unfoldable pub standing_output : List (List ℕ) → Result (Unit {0}) ℕ
standing_output ops = also (or_as (codes "LTERM") (λ text. judged_operand (name_of text)) tt ops) (or_as (codes "MODIFY") modify_of tt ops)

-- Where TYPE tells no form no other operand is missing.
abbrev pub pcb_of : Result PcbForm ℕ → List (List ℕ) → Result Macro ℕ
pcb_of (Ok OnDatabase) ops = database_pcb (database_part ops)
pcb_of (Ok ToDestination) ops = destination_pcb (needed (codes "LTERM") name_of ops)
pcb_of (Ok Modifiable) ops = modifiable_pcb (needed (codes "MODIFY") modify_of ops)
pcb_of (Err rule) ops = also (also (Err rule) (standing_database ops)) (standing_output ops)

unfoldable pub pcb_row : List (List ℕ) → Result Macro ℕ
pcb_row ops = pcb_of (pcb_form ops) ops
