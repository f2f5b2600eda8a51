-- Words that are read one after another.
use Rattle.std.proofs.Common.{◌≡◌, ℕ, List, [], ◌∷◌, Result, Ok, Err, refl, ap, append_assoc, append-nil, arith}
use Rattle.text_rows.specs.LowestRule.{both}
use Rattle.model_system.specs.declared.script_ssa.ScriptSsa.{ScriptSsa}
use Rattle.model_system.specs.declared.text.Text.{Text}
use Rattle.script_text.specs.Values.{with_read_text, with_ssa}
use Rattle.script_text.specs.WordLists.{and_last, and_more}

pub one_text : (texts : Result (List Text) ℕ) (text : Result Text ℕ) (more : Result (List Text) ℕ) → and_more (and_last texts text) more ≡ and_more texts (with_read_text (both text more))
unfolding both
one_text (Ok texts) (Ok text) (Ok more) = ap Ok (append_assoc texts (text ∷ []) more)
one_text (Ok texts) (Ok text) (Err rule) = refl
one_text (Ok texts) (Err rule) (Ok more) = refl
one_text (Ok texts) (Err rule) (Err other) = refl
one_text (Err rule) (Ok text) (Ok more) = refl
one_text (Err rule) (Ok text) (Err other) = refl
one_text (Err rule) (Err other) (Ok more) = refl
one_text (Err rule) (Err other) (Err third) = ap Err (omega arith)

pub one_ssa : (ssas : Result (List ScriptSsa) ℕ) (ssa : Result ScriptSsa ℕ) (more : Result (List ScriptSsa) ℕ) → and_more (and_last ssas ssa) more ≡ and_more ssas (with_ssa (both ssa more))
unfolding both
one_ssa (Ok ssas) (Ok ssa) (Ok more) = ap Ok (append_assoc ssas (ssa ∷ []) more)
one_ssa (Ok ssas) (Ok ssa) (Err rule) = refl
one_ssa (Ok ssas) (Err rule) (Ok more) = refl
one_ssa (Ok ssas) (Err rule) (Err other) = refl
one_ssa (Err rule) (Ok ssa) (Ok more) = refl
one_ssa (Err rule) (Ok ssa) (Err other) = refl
one_ssa (Err rule) (Err other) (Ok more) = refl
one_ssa (Err rule) (Err other) (Err third) = ap Err (omega arith)

pub nothing_left : {A : Type 0} → (values : Result (List A) ℕ) → and_more values (Ok []) ≡ values
nothing_left (Ok values) = ap Ok (append-nil values)
nothing_left (Err rule) = refl

pub first_text : (text : Result Text ℕ) (more : Result (List Text) ℕ) → and_more (and_last (Ok []) text) more ≡ with_read_text (both text more)
unfolding both
first_text (Ok text) (Ok more) = refl
first_text (Ok text) (Err rule) = refl
first_text (Err rule) (Ok more) = refl
first_text (Err rule) (Err other) = refl

pub ruleset text_steps = (one_text, first_text, nothing_left)

pub ruleset ssa_steps = (one_ssa, nothing_left)
