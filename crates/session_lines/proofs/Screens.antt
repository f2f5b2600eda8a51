-- What the values of a screen ask for.
use Rattle.std.proofs.Common.{◌≡◌, ℕ, ◌∙◌, Bool, true, false, cond, List, [], ◌∷◌, length, nat_le, nat_lt, refl, sym, ap, arith}
use Rattle.std.specs.Prelude.{Option, Some, None, Result, Ok, Err, IfOk, IsTrue}
use Rattle.std.specs.List.{list_all}
use Rattle.std.proofs.lemmas.Bool.Decides.{nat_tests}
use Rattle.tm_types.specs.Segment.{are_printable}
use Rattle.model_system.specs.declared.fields.FieldValue.{FieldValue}
use Rattle.model_system.specs.ScreenInput.{entered}
use Rattle.model_system.specs.FormatLines.{FormatLines}
use Rattle.model_machine.specs.declared.entry.ControlCall.TheVariants.{Input}
use Rattle.model_system.specs.System.{System}
use Rattle.model_session.specs.declared.asked.Asked.{Asked}
use Rattle.model_session.specs.declared.asked.Asked.TheVariants.{Call}
use Rattle.model_session.specs.Lines.{entered_asked, first_long, screen_asked, unless_long}
use Rattle.mfs_edit.specs.Texts.{is_text}
use Rattle.session_lines.proofs.Printable.{both_of}

not_long : (n : ℕ) (b : Bool) → nat_lt 1996 n ≡ b → nat_le n 1996 ≡ true → b ≡ false
not_long n true e h = absurd (grind (arith, nat_tests))
not_long n false e h = refl

skips : (b : Bool) (long rest : Option ℕ) → b ≡ false → rest ≡ None → cond b long rest ≡ None
skips true long rest e h = cc
skips false long rest e h = h

-- no text is too long
none_long : (texts : List (List ℕ)) → list_all is_text texts ≡ true → first_long texts ≡ None
none_long [] h = refl
none_long (text ∷ texts) h =
    let both = both_of (is_text text) (list_all is_text texts) h in
    let short = both_of (nat_le (length text) 1996) (are_printable text) both.0 in
    skips (nat_lt 1996 (length text)) (Some (length text)) (first_long texts) (not_long (length text) (nat_lt 1996 (length text)) refl short.0) (none_long texts both.1)

pub segments_asked : (system : System) (terminal : List ℕ) (number : ℕ) (values : List FieldValue) (format : FormatLines) (found : Option FormatLines) (segments : List (List ℕ))
    → found ≡ Some format → entered format values ≡ Ok segments → IsTrue (list_all is_text segments)
    → Call (Input terminal number segments) ≡ screen_asked system terminal number values found
segments_asked system terminal number values format found segments there made texts =
    sym (ap (screen_asked system terminal number values) there ∙ ap (entered_asked system terminal number) made ∙ ap (unless_long system terminal number segments) (none_long segments texts))

pub refusal_asked : (system : System) (terminal : List ℕ) (number : ℕ) (values : List FieldValue) (format : FormatLines) (found : Option FormatLines) (asked : Asked)
    → found ≡ Some format → asked ≡ entered_asked system terminal number (entered format values) → asked ≡ screen_asked system terminal number values found
refusal_asked system terminal number values format found asked there e = e ∙ sym (ap (screen_asked system terminal number values) there)

pub if_asked : {E : Type 0} (P Q : Asked → Type 0) (result : Result Asked E) → ((asked : Asked) → P asked → Q asked) → IfOk result P → IfOk result Q
if_asked P Q (Ok asked) goes h = goes asked h
if_asked P Q (Err error) goes h = tt
