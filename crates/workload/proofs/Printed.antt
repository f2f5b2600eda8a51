-- Printed lines, one after another.
use Rattle.std.proofs.Common.{◌≡◌, ℕ, suc, ◌<◌, ◌≤◌, ◌==◌, Bool, true, false, List, [], ◌∷◌, length, take, drop, length-drop, refl, sym, ap, subst, ◌∙◌, arith}
use Rattle.std.proofs.lemmas.Bool.Decides.{nat_tests}
use Rattle.std.specs.Prelude.{Option, Some, None, nat_lt, if◌then◌else◌}
use Rattle.std.specs.List.{position_or_len}
use Rattle.text_rows.specs.Lines.{split_at}
use Rattle.workload.specs.ShownReply.{printed_lines, with_line_front, last_shown, later, shown_on}

-- where the first LF stands, or the length where there is none
abbrev lf_at : List ℕ → ℕ
lf_at text = position_or_len (λ b. b == 10) text

lf_here : (b : ℕ) (bytes : List ℕ) → (b == 10) ≡ true → lf_at (b ∷ bytes) ≡ 0
lf_here b bytes lf = rw lf refl

lf_later : (b : ℕ) (bytes : List ℕ) → (b == 10) ≡ false → lf_at (b ∷ bytes) ≡ suc (lf_at bytes)
lf_later b bytes no_lf = rw no_lf (omega arith)

lines_here : (b : ℕ) (bytes : List ℕ) → (b == 10) ≡ true → printed_lines (b ∷ bytes) ≡ [] ∷ printed_lines bytes
unfolding printed_lines
lines_here b bytes lf = rw lf refl

lines_later : (b : ℕ) (bytes : List ℕ) → (b == 10) ≡ false → printed_lines (b ∷ bytes) ≡ with_line_front b (printed_lines bytes)
unfolding printed_lines
lines_later b bytes no_lf = rw no_lf refl

no_lines : printed_lines [] ≡ []
unfolding printed_lines
no_lines = refl

-- the first line, and those behind it
abbrev IsCut : List ℕ → ℕ → Type 0
IsCut text n = printed_lines text ≡ take n text ∷ printed_lines (drop (suc n) text)

cut_by : (b : ℕ) (bytes : List ℕ) (test : Bool) → (b == 10) ≡ test → (lf_at bytes < length bytes → IsCut bytes (lf_at bytes)) → lf_at (b ∷ bytes) < length (b ∷ bytes) → IsCut (b ∷ bytes) (lf_at (b ∷ bytes))
cut_by b bytes true lf on within = subst (IsCut (b ∷ bytes)) (sym (lf_here b bytes lf)) (lines_here b bytes lf)
cut_by b bytes false no_lf on within =
    let less : lf_at bytes < length bytes = omega (arith, lf_later b bytes no_lf) in
    subst (IsCut (b ∷ bytes)) (sym (lf_later b bytes no_lf)) (lines_later b bytes no_lf ∙ ap (with_line_front b) (on less))

cut : (text : List ℕ) → lf_at text < length text → IsCut text (lf_at text)
cut [] within = absurd (omega arith)
cut (b ∷ bytes) within = cut_by b bytes (b == 10) refl (cut bytes) within

uncut_by : (b : ℕ) (bytes : List ℕ) (test : Bool) → (b == 10) ≡ test → (length bytes ≤ lf_at bytes → printed_lines bytes ≡ []) → length (b ∷ bytes) ≤ lf_at (b ∷ bytes) → printed_lines (b ∷ bytes) ≡ []
uncut_by b bytes true lf on past = absurd (omega (arith, lf_here b bytes lf))
uncut_by b bytes false no_lf on past =
    let more : length bytes ≤ lf_at bytes = omega (arith, lf_later b bytes no_lf) in
    lines_later b bytes no_lf ∙ ap (with_line_front b) (on more)

uncut : (text : List ℕ) → length text ≤ lf_at text → printed_lines text ≡ []
uncut [] past = no_lines
uncut (b ∷ bytes) past = uncut_by b bytes (b == 10) refl (uncut bytes) past

-- ---- by the cut

abbrev cut_if : Bool → List ℕ → Option (List ℕ × List ℕ)
cut_if test text = if test then Some (take (lf_at text) text, drop (suc (lf_at text)) text) else None

split_is : (text : List ℕ) (test : Bool) → nat_lt (lf_at text) (length text) ≡ test → split_at 10 text ≡ cut_if test text
split_is text true is = rw is refl
split_is text false is = rw is refl

pub record IsFirst (text line behind : List ℕ) : Type 0 where
  pub lines : printed_lines text ≡ line ∷ printed_lines behind
  pub shorter : length behind < length text

first_by : (text line behind : List ℕ) (test : Bool) → nat_lt (lf_at text) (length text) ≡ test → Some (line, behind) ≡ cut_if test text → IsFirst text line behind
first_by text line behind true is found =
    let within : lf_at text < length text = grind (arith, nat_tests) in
    let same : ◌≡◌ {A = List ℕ × List ℕ} (line, behind) (take (lf_at text) text, drop (suc (lf_at text)) text) = cc in
    let at : line ≡ take (lf_at text) text = ap (λ p. p.0) same in
    let past : behind ≡ drop (suc (lf_at text)) text = ap (λ p. p.1) same in
    rw (at, past) (record { lines = cut text within; shorter = omega (arith, length-drop (suc (lf_at text)) text) })
first_by text line behind false is found = cc

pub first_line : (text line behind : List ℕ) → Some (line, behind) ≡ split_at 10 text → IsFirst text line behind
first_line text line behind found = first_by text line behind (nat_lt (lf_at text) (length text)) refl (found ∙ split_is text _ refl)

none_by : (text : List ℕ) (test : Bool) → nat_lt (lf_at text) (length text) ≡ test → None ≡ cut_if test text → printed_lines text ≡ []
none_by text true is found = cc
none_by text false is found = uncut text (grind (arith, nat_tests))

pub no_line : (text : List ℕ) → None ≡ split_at 10 text → printed_lines text ≡ []
no_line text found = none_by text (nat_lt (lf_at text) (length text)) refl (found ∙ split_is text _ refl)

-- ---- the last reply so far

later_later : (a b c : Option (List ℕ)) → later a (later b c) ≡ later (later a b) c
later_later a b None = refl
later_later a b (Some text) = refl

pub line_more : (kept next total : Option (List ℕ)) (text line behind : List ℕ) → Some (line, behind) ≡ split_at 10 text → next ≡ later kept (shown_on line)
    → later kept (last_shown (printed_lines text)) ≡ total → later next (last_shown (printed_lines behind)) ≡ total
line_more kept next total text line behind found is so_far =
    ap (λ n. later n (last_shown (printed_lines behind))) is
    ∙ sym (later_later kept (shown_on line) (last_shown (printed_lines behind)))
    ∙ ap (λ l. later kept (last_shown l)) (sym (first_line text line behind found).lines)
    ∙ so_far

pub line_shorter : (text line behind : List ℕ) → Some (line, behind) ≡ split_at 10 text → length behind < length text
line_shorter text line behind found = (first_line text line behind found).shorter

pub line_end : (kept total : Option (List ℕ)) (text : List ℕ) → None ≡ split_at 10 text → later kept (last_shown (printed_lines text)) ≡ total → kept ≡ total
line_end kept total text found so_far = ap (λ l. later kept (last_shown l)) (sym (no_line text found)) ∙ so_far

later_none : (a : Option (List ℕ)) → later None a ≡ a
later_none None = refl
later_none (Some text) = refl

pub line_start : (text : List ℕ) → later None (last_shown (printed_lines text)) ≡ last_shown (printed_lines text)
line_start text = later_none (last_shown (printed_lines text))

pub ruleset line_steps = (line_more, line_shorter, line_end, line_start)
