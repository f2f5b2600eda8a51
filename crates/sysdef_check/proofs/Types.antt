-- The type of a segment that keeps the rules on its parent and its key may stand behind those before it.
use Rattle.std.proofs.Common.{ℕ, suc, ◌≡◌, ◌+◌, ◌<◌, ◌≤◌, ◌↔◌, ◌||◌, nat_lt, not, cond, Bool, true, false, List, [], ◌∷◌, ◌++◌, length, take, drop, get_or, Option, Some, None, IfSome, refl, sym, subst, ap, ◌∙◌, append_assoc, arith}
use Rattle.std.specs.List.{list_any, position_or_len}
use Rattle.std.specs.Option.{option_map_or}
use Rattle.std.proofs.lemmas.Bool.{false≢true, ltb-false}
use Rattle.tm_types.specs.declared.dbd.SegType.{SegType}
use Rattle.tm_types.specs.SegTypes.{IsTypeAt}
use Rattle.system_types.specs.declared.definition.Macro.{Macro}
use Rattle.system_types.specs.declared.definition.Macro.TheVariants.{Segment}
use Rattle.system_types.specs.declared.definition.MacroLine.{MacroLine}
use Rattle.system_types.specs.Definitions.{IsInRange}
use Rattle.sysdef_rules.specs.Lookups.{is_segment_named}
use Rattle.sysdef_rules.specs.Segments.{breaks_key, breaks_parent}
use Rattle.sysdef_check.specs.Systems.{value_and_then, parent_number, type_in, types_in, database_in, databases_in}
use Rattle.sysdef_rules.proofs.Cuts.{cut_at, more_at}
use Rattle.tm_types.specs.declared.dbd.Dbd.{Dbd}

-- a place within a list as a number from 1
place_number : (n len : ℕ) (b : Bool) → nat_lt n len ≡ b → n < len → option_map_or (λ place. place + 1) (cond b (Some n) None) 0 ≡ n + 1
place_number n len true e h = refl
place_number n len false e h = absurd (omega (arith, h, ltb-false n len e))

-- where one passes, the first that passes stands within the list
within_by : (b more : Bool) (n len : ℕ) → (more ≡ true → n < len) → (b || more) ≡ true → cond (not b) (1 + n) 0 < suc len
within_by true more n len h e = omega arith
within_by false more n len h e = omega (arith, h e)

passes_within : (test : MacroLine → Bool) (lines : List MacroLine) → list_any test lines ≡ true → position_or_len test lines < length lines
passes_within test [] e = absurd (false≢true e)
passes_within test (line ∷ lines) e = within_by (test line) (list_any test lines) (position_or_len test lines) (length lines) (passes_within test lines) e

abbrev Numbers : ℕ → ℕ → Type 0
Numbers number place = ((number ≡ 0) ↔ (place ≡ 0)) × (number ≤ place)

numbers_by : (number n place : ℕ) → number ≡ n + 1 → n < place → Numbers number place
numbers_by number n place e h = (((λ z. absurd (omega (arith, e, z))), (λ z. absurd (omega (arith, h, z)))), omega (arith, e, h))

not_false : (b : Bool) → not b ≡ false → b ≡ true
not_false true e = refl
not_false false e = absurd (false≢true (sym e))

parent_numbers : (before : List MacroLine) (name : List ℕ) (parent : Option (List ℕ)) (key bytes : ℕ) → breaks_parent before (Segment name parent key bytes) ≡ false
    → Numbers (parent_number before parent) (length before)
unfolding breaks_parent
parent_numbers [] name None key bytes p = (((λ z. refl), (λ z. refl)), omega arith)
parent_numbers [] name (Some parent) key bytes p = absurd (false≢true (sym p))
parent_numbers (line ∷ before) name None key bytes p = absurd (false≢true (sym p))
parent_numbers (line ∷ before) name (Some parent) key bytes p =
    let test : MacroLine → Bool = λ l. is_segment_named parent l.content in
    let h : position_or_len test (line ∷ before) < length (line ∷ before) = passes_within test (line ∷ before) (not_false (list_any test (line ∷ before)) p) in
    numbers_by (parent_number (line ∷ before) (Some parent)) (position_or_len test (line ∷ before)) (length (line ∷ before))
    (place_number (position_or_len test (line ∷ before)) (length (line ∷ before)) (nat_lt (position_or_len test (line ∷ before)) (length (line ∷ before))) refl h) h

pub type_fits : (before : List MacroLine) (content : Macro) → breaks_parent before content ≡ false → breaks_key content ≡ false → IsInRange content
    → IfSome (type_in before content) (IsTypeAt (length before))
unfolding breaks_key
type_fits before (Segment name parent key bytes) p k range =
    let n = parent_numbers before name parent key bytes p in
    record { root = n.0; parent = n.1; key_least = range.0; key_most = range.1; key_within = ltb-false bytes key k }
type_fits before _ p k range = tt

before_rest : {A : Type 0} (value : Option A) (values : List A) → value_and_then value [] ++ values ≡ value_and_then value values
before_rest (Some value) values = refl
before_rest None values = refl

-- values with one more, where there is one, and those that are still to come
pub one_more : {A : Type 0} (before after rest whole : List A) (value : Option A) → after ≡ before ++ value_and_then value [] → before ++ value_and_then value rest ≡ whole → after ++ rest ≡ whole
one_more before after rest whole value e h =
    ap (λ xs. xs ++ rest) e ∙ (append_assoc before (value_and_then value []) rest ∙ (ap (λ xs. before ++ xs) (before_rest value rest) ∙ h))

-- a segment more has its type
pub types_step : (segments : List MacroLine) (index : ℕ) (line : MacroLine) (before after whole : List SegType) → index < length segments → line ≡ get_or segments index line
    → after ≡ before ++ value_and_then (type_in (take index segments) line.content) [] → before ++ types_in (take index segments) (drop index segments) ≡ whole
    → after ++ types_in (take (index + 1) segments) (drop (index + 1) segments) ≡ whole
types_step segments index line before after whole h e more so =
    let cut = cut_at segments index line h e in
    let taken = more_at segments index line h e in
    let here : before ++ value_and_then (type_in (take index segments) line.content) (types_in (take index segments ++ line ∷ []) (drop (index + 1) segments)) ≡ whole =
    subst (λ (ls : List MacroLine). before ++ types_in (take index segments) ls ≡ whole) cut so in
    subst (λ (ls : List MacroLine). after ++ types_in ls (drop (index + 1) segments) ≡ whole) (sym taken)
    (one_more before after (types_in (take index segments ++ line ∷ []) (drop (index + 1) segments)) whole (type_in (take index segments) line.content) more here)

-- a line more has its database, if it is a DBD
pub databases_step : (lines : List MacroLine) (index : ℕ) (line : MacroLine) (before after whole : List Dbd) → index < length lines → line ≡ get_or lines index line
    → after ≡ before ++ value_and_then (database_in line.content (drop (index + 1) lines)) [] → before ++ databases_in (drop index lines) ≡ whole → after ++ databases_in (drop (index + 1) lines) ≡ whole
databases_step lines index line before after whole h e more so =
    let cut = cut_at lines index line h e in
    let here : before ++ value_and_then (database_in line.content (drop (index + 1) lines)) (databases_in (drop (index + 1) lines)) ≡ whole =
    subst (λ (ls : List MacroLine). before ++ databases_in ls ≡ whole) cut so in
    one_more before after (databases_in (drop (index + 1) lines)) whole (database_in line.content (drop (index + 1) lines)) more here
