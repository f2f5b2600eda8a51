-- Parts of printable texts are printable.
use Rattle.std.proofs.Common.{◌≡◌, ℕ, suc, Bool, true, ◌&&◌, List, [], ◌∷◌, take, drop, Result, Ok, Err, refl, ap, sym, ◌∙◌}
use Rattle.std.specs.Prelude.{◌==◌, Option, Some, None, position, IfOk}
use Rattle.std.specs.List.{list_all}
use Rattle.std.specs.Option.{option_map}
use Rattle.std.proofs.lemmas.List.Folds.{list_all-append}
use Rattle.std.proofs.lemmas.Option.{same_Some}
use Rattle.text_rows.specs.Lines.{split_at}
use Rattle.model_system.specs.Programs.{is_plain}
use Rattle.model_system.specs.declared.text.Text.{Text}
use Rattle.script_text.specs.WordLists.{and_last}
use Rattle.tm_types.proofs.Truths.{both_true, take_all_pass}

front_by : (p : ℕ → Bool) (text front behind : List ℕ) (found : Option ℕ) → option_map {U = List ℕ × List ℕ} (λ n. (take n text, drop (suc n) text)) found ≡ Some (front, behind) → list_all p text ≡ true → list_all p front ≡ true
front_by p text front behind (Some n) e all = let same : take n text ≡ front = ap (λ q. q.0) (same_Some (take n text, drop (suc n) text) (front, behind) e) in ap (list_all p) (sym same) ∙ take_all_pass p n text all
front_by p text front behind None e all = cc

-- what stands before a byte
pub front_passes : (p : ℕ → Bool) (byte : ℕ) (text front behind : List ℕ) → split_at byte text ≡ Some (front, behind) → list_all p text ≡ true → list_all p front ≡ true
front_passes p byte text front behind e all = front_by p text front behind (position (λ b. b == byte) text) e all

-- one text more is plain
pub plain_more : (P : Type 0) (texts : Result (List Text) ℕ) (text : Result Text ℕ)
    → IfOk texts (λ ts. P → list_all is_plain ts ≡ true) → IfOk text (λ t. P → is_plain t ≡ true) → IfOk (and_last texts text) (λ ts. P → list_all is_plain ts ≡ true)
plain_more P (Ok texts) (Ok text) all one = λ p. list_all-append is_plain texts (text ∷ []) ∙ both_true (list_all is_plain texts) (is_plain text && true) (all p) (both_true (is_plain text) true (one p) refl)
plain_more P (Ok texts) (Err rule) all one = tt
plain_more P (Err rule) (Ok text) all one = tt
plain_more P (Err rule) (Err other) all one = tt

pub plain_given : (P Q : Type 0) (text : Result Text ℕ) → (P → Q) → IfOk text (λ t. Q → is_plain t ≡ true) → IfOk text (λ t. P → is_plain t ≡ true)
plain_given P Q (Ok text) given one = λ p. one (given p)
plain_given P Q (Err rule) given one = tt
