-- Of a screen's field lines the last values for the first 1,921 names are kept, and the lowest rule that one breaks: this is enough.
use Rattle.std.proofs.Common.{◌≡◌, ◌∙◌, refl, sym, ap, ℕ, ◌≤◌, Bool, true, List, [], ◌∷◌, length, take, arith}
use Rattle.std.specs.Prelude.{Option, Some, None, Result, Ok, Err, IfSome, min, if◌then◌else◌}
use Rattle.text_rows.specs.LowestRule.{also}
use Rattle.model_machine.specs.CommandText.{command_of}
use Rattle.model_system.specs.declared.fields.FieldValue.{FieldValue}
use Rattle.model_system.specs.ScreenInput.{entered}
use Rattle.model_system.specs.FormatLines.{FormatLines}
use Rattle.model_system.specs.SystemFormats.{format_of}
use Rattle.model_system.specs.System.{System}
use Rattle.model_session.specs.declared.asked.Asked.{Asked}
use Rattle.model_session.specs.declared.asked.Form.{Form}
use Rattle.model_session.specs.declared.asked.Form.TheVariants.{Screen as ScreenForm}
use Rattle.model_session.specs.Blocks.{Block, block_alone, and_field, and_line, and_text, and_value, field_of, first_values, is_screen, judged_field, no_others}
use Rattle.model_session.specs.Lines.{asked_by, asked_of, block_form, command_asked, entered_asked, further_forms, is_command, printable_block, screen_asked}
use Rattle.model_session.specs.BoundedBlocks.{HasScreens, fields_in, value_before, values_in, whole_screen, with_lines}
use Rattle.model_session.proofs.Putting.{entered_kept, keep_all}

abbrev screen_block : List ℕ → List FieldValue → Result (Unit {0}) ℕ → Block
screen_block line values fields = record { line = line; further = []; values = values; others = record no_others { fields = fields } }

-- ---- the lowest rule, from the first line on

abbrev kept : Result (Unit {0}) ℕ
kept = Ok tt

abbrev broken : ℕ → Result (Unit {0}) ℕ
broken rule = Err rule

min_more : (a b c : ℕ) → min (min a b) c ≡ min a (min b c)
min_more a b c = omega arith

also_more : (a b c : Result (Unit {0}) ℕ) → also (also a b) c ≡ also a (also b c)
unfolding also
also_more (Ok a) (Ok b) (Ok c) = refl
also_more (Ok a) (Ok b) (Err r) = refl
also_more (Ok a) (Err q) (Ok c) = refl
also_more (Ok a) (Err q) (Err r) = refl
also_more (Err p) (Ok b) (Ok c) = refl
also_more (Err p) (Ok b) (Err r) = refl
also_more (Err p) (Err q) (Ok c) = refl
also_more (Err p) (Err q) (Err r) = ap broken (min_more p q r)

also_end : (a : Result (Unit {0}) ℕ) → also a kept ≡ a
unfolding also
also_end (Ok a) = refl
also_end (Err p) = refl

also_begin : (a : Result (Unit {0}) ℕ) → also kept a ≡ a
unfolding also
also_begin (Ok a) = refl
also_begin (Err p) = refl

abbrev folded : Result (Unit {0}) ℕ → List (List ℕ) → Result (Unit {0}) ℕ
folded fields [] = fields
folded fields (line ∷ lines) = folded (also fields (judged_field (field_of line))) lines

folded_is : (fields : Result (Unit {0}) ℕ) (lines : List (List ℕ)) → folded fields lines ≡ also fields (fields_in lines)
folded_is fields [] = sym (also_end fields)
folded_is fields (line ∷ lines) = folded_is (also fields (judged_field (field_of line))) lines ∙ also_more fields (judged_field (field_of line)) (fields_in lines)

-- ---- the block that the lines make

and_screen : (line : List ℕ) (values : List FieldValue) (fields : Result (Unit {0}) ℕ) (next : List ℕ) → is_screen line ≡ true
    → and_line (screen_block line values fields) next ≡ screen_block line (and_value values (field_of next)) (also fields (judged_field (field_of next)))
and_screen line values fields next screen =
    ap (λ (b : Bool). if b then and_field (screen_block line values fields) next else and_text (screen_block line values fields) next) screen

value_step : (values : List FieldValue) (read : Result FieldValue ℕ) (rest : List FieldValue)
    → keep_all first_values (and_value values read) rest ≡ keep_all first_values values (value_before read rest)
value_step values (Ok value) rest = refl
value_step values (Err rule) rest = refl

screen_lines : (line : List ℕ) (values : List FieldValue) (fields : Result (Unit {0}) ℕ) (lines : List (List ℕ)) → is_screen line ≡ true
    → with_lines (screen_block line values fields) lines ≡ screen_block line (keep_all first_values values (values_in lines)) (folded fields lines)
screen_lines line values fields [] screen = refl
screen_lines line values fields (next ∷ lines) screen =
    let more = also fields (judged_field (field_of next)) in
    ap (λ (b : Block). with_lines b lines) (and_screen line values fields next screen)
    ∙ screen_lines line (and_value values (field_of next)) more lines screen
    ∙ ap (λ (l : List FieldValue). screen_block line l (folded more lines)) (value_step values (field_of next) (values_in lines))

block_is : (line : List ℕ) (lines : List (List ℕ)) → is_screen line ≡ true
    → with_lines (block_alone line) lines ≡ screen_block line (keep_all first_values [] (values_in lines)) (fields_in lines)
block_is line lines screen =
    screen_lines line [] kept lines screen
    ∙ ap (λ (r : Result (Unit {0}) ℕ). screen_block line (keep_all first_values [] (values_in lines)) r) (folded_is kept lines ∙ also_begin (fields_in lines))

-- ---- what it asks for

keeps : (n : ℕ) → n ≡ 1921 → (values : List FieldValue) → first_values values ≡ take n values
unfolding first_values
keeps n is values = ap (λ (m : ℕ). take m values) (sym is)

kept_same : (n : ℕ) → n ≡ 1921 → (format : FormatLines) (values : List FieldValue) → length format.fields ≤ 1920
    → entered format (keep_all first_values [] values) ≡ entered format values
kept_same n is format values few = entered_kept n first_values (keeps n is) format values (omega (arith, is, few))

screen_same : (n : ℕ) → n ≡ 1921 → (system : System) (terminal : List ℕ) (number : ℕ) (values : List FieldValue) (format : Option FormatLines)
    → IfSome format (λ f. length f.fields ≤ 1920)
    → screen_asked system terminal number (keep_all first_values [] values) format ≡ screen_asked system terminal number values format
screen_same n is system terminal number values (Some format) few = ap (λ (r : Result (List (List ℕ)) (List ℕ)). entered_asked system terminal number r) (kept_same n is format values few)
screen_same n is system terminal number values None few = refl

-- two screens that enter the same
abbrev EnterSame : System → List FieldValue → List FieldValue → Type 0
EnterSame system values others =
    (terminal : List ℕ) (number : ℕ) → screen_asked system terminal number values (format_of system terminal) ≡ screen_asked system terminal number others (format_of system terminal)

asked_by_same : (system : System) (line : List ℕ) (values others : List FieldValue) (fields : Result (Unit {0}) ℕ) → EnterSame system values others → (form : Result Form ℕ)
    → asked_by system (screen_block line values fields) form ≡ asked_by system (screen_block line others fields) form
asked_by_same system line values others fields same (Ok (ScreenForm terminal number)) = same terminal number
asked_by_same system line values others fields same (Ok form) = refl
asked_by_same system line values others fields same (Err rule) = refl

asked_same : (system : System) (line : List ℕ) (values others : List FieldValue) (fields : Result (Unit {0}) ℕ) → EnterSame system values others
    → asked_of system (screen_block line values fields) ≡ asked_of system (screen_block line others fields)
unfolding asked_of block_form further_forms printable_block
asked_same system line values others fields same =
    ap (λ (a : Asked). if is_command line then command_asked (command_of line) else a)
    (asked_by_same system line values others fields same (block_form (length system.regions) (screen_block line values fields)))

-- whatever field lines stand behind SCREEN
pub screen_enough : (system : System) (line : List ℕ) (lines : List (List ℕ)) → HasScreens system → is_screen line ≡ true
    → asked_of system (with_lines (block_alone line) lines) ≡ asked_of system (whole_screen line lines)
screen_enough system line lines screens screen =
    ap (λ (b : Block). asked_of system b) (block_is line lines screen)
    ∙ asked_same system line (keep_all first_values [] (values_in lines)) (values_in lines) (fields_in lines)
    (λ terminal number. screen_same 1921 refl system terminal number (values_in lines) (format_of system terminal) (screens terminal))
