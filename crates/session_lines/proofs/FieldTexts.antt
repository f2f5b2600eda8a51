-- The value of a field line that breaks no rule is printable.
use Rattle.std.proofs.Common.{◌≡◌, ℕ, suc, cond, Bool, true, false, Bor, List, drop, take, refl, subst}
use Rattle.std.specs.Prelude.{if◌then◌else◌, Option, Some, None, Result, Ok, Err, IfOk, MatchResult, position, ◌==◌}
use Rattle.std.specs.Option.{option_map}
use Rattle.tm_types.specs.Segment.{is_printable, are_printable}
use Rattle.tm_types.specs.Words.{operands}
use Rattle.text_rows.specs.Lines.{split_at}
use Rattle.text_rows.specs.LowestRule.{also}
use Rattle.model_system.specs.declared.fields.FieldValue.{FieldValue}
use Rattle.model_session.specs.Blocks.{field_of, field_parts, has_operand, with_field_text}
use Rattle.model_session.specs.Numbers.{name_operand}
use Rattle.session_lines.proofs.Printable.{all_drop, printable_operands}

-- the text of a field is printable
abbrev HasText : Result FieldValue ℕ → Type 0
HasText read = IfOk read (λ value. are_printable value.text ≡ true)

named_text : (name : Result (List ℕ) ℕ) (text : List ℕ) → are_printable text ≡ true → HasText (with_field_text text name)
named_text (Ok name) text h = h
named_text (Err rule) text h = tt

parts_text : (place : Option ℕ) (text : List ℕ) → are_printable text ≡ true → HasText (field_parts (option_map (λ n. (take n text, drop (suc n) text)) place))
parts_text None text h = tt
parts_text (Some n) text h = named_text (name_operand (take n text)) (drop (suc n) text) (all_drop is_printable (suc n) text h)

there_text : (there : Bool) (read : Result FieldValue ℕ) → HasText read → HasText (cond there read (Err 2))
there_text true read h = h
there_text false read h = tt

also_text : (read : Result FieldValue ℕ) (printable : Bool) → (printable ≡ true → HasText read) → HasText (also {B = Unit {0}} read (if printable then Ok tt else Err 6))
unfolding also
also_text (Ok value) true h = h refl
also_text (Ok value) false h = tt
also_text (Err rule) true h = tt
also_text (Err rule) false h = tt

field_text : (line : List ℕ) → HasText (field_of line)
unfolding field_of
field_text line =
    also_text (if has_operand line then field_parts (split_at 61 (operands line)) else Err 2) (are_printable line)
    (λ h. there_text (has_operand line) (field_parts (split_at 61 (operands line))) (parts_text (position (λ b. b == 61) (operands line)) (operands line) (printable_operands line h)))

printable_value : (line : List ℕ) (value : FieldValue) → field_of line ≡ Ok value → are_printable value.text ≡ true
printable_value line value e = subst (λ (r : Result FieldValue ℕ). HasText r) e (field_text line)

pub printable_text : (line : List ℕ) (result : Result (List ℕ × Bor (List ℕ)) ℕ)
    → MatchResult result (λ field. field_of line ≡ Ok (record { name = field.0; text = field.1.now })) (λ rule. field_of line ≡ Err rule) → IfOk result (λ field. are_printable field.1.now ≡ true)
printable_text line (Ok field) h = printable_value line (record { name = field.0; text = field.1.now }) h
printable_text line (Err rule) h = tt
