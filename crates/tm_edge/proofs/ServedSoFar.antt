-- The lines that a run of calls has served, and those that are still to come.
use Rattle.std.proofs.Common.{◌≡◌, ℕ, ◌≤◌, true, ◌&&◌, List, [], ◌∷◌, ◌++◌, refl, sym, ap, ◌∙◌, arith, append_assoc}
use Rattle.std.specs.Prelude.{nat_le}
use Rattle.std.proofs.lemmas.List.{append-nil}
use Rattle.std.proofs.lemmas.List.Folds.{list_all-append}
use Rattle.std.proofs.lemmas.Bool.Decides.{nat_tests}
use Rattle.tm_edge.specs.Lines.{line_size, line_text, behind_line, IsLineTooLong, CutLine, cut_lines, is_short_line, ServesLine, HasServed}
use Rattle.tm_edge.proofs.CutLines.{cut_first}
use Rattle.tm_edge.proofs.FirstLine.{size_within}

-- before the first call
pub none_served : (bytes : List ℕ) → HasServed bytes [] bytes
none_served bytes = record { short = refl; cut = refl }

short_line : (size : ℕ) → size ≤ 4096 → (nat_le size 4096 && true) ≡ true
short_line size fits = (let e : nat_le size 4096 ≡ true = grind (arith, nat_tests) in rw e refl)

-- after one more line
pub one_served : (bytes : List ℕ) (lines : List CutLine) (rest text after : List ℕ) → HasServed bytes lines rest → ServesLine rest text after →
    HasServed bytes (lines ++ record { text = text; size = line_size rest } ∷ []) after
one_served bytes lines rest text after served serves = record {
  short = list_all-append is_short_line lines (record { text = text; size = line_size rest } ∷ [])
      ∙ ap (λ all. all && (nat_le (line_size rest) 4096 && true)) served.short ∙ short_line (line_size rest) serves.short;
  cut = served.cut ∙ ap (λ more. lines ++ more) serves.lines ∙ sym (append_assoc lines (record { text = text; size = line_size rest } ∷ []) (cut_lines after));
}

no_lines : cut_lines [] ≡ []
unfolding cut_lines
no_lines = refl

-- at the end of the input
pub all_served : (bytes : List ℕ) (lines : List CutLine) → HasServed bytes lines [] → cut_lines bytes ≡ lines
all_served bytes lines served = served.cut ∙ ap (λ more. lines ++ more) no_lines ∙ append-nil lines

-- a line that is too long is the first of those that are still to come
pub long_first : (bytes : List ℕ) → IsLineTooLong bytes →
    cut_lines bytes ≡ record { text = line_text bytes; size = line_size bytes } ∷ cut_lines (behind_line bytes)
long_first bytes long = cut_first bytes (let within = size_within bytes in omega arith)
