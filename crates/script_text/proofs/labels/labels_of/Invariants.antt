-- the labels so far, before those of the lines that are left
use Rattle.std.proofs.Common.{◌≡◌, ◌≤◌, ℕ, List, drop}
use Rattle.script_text.specs.GoodStatement.{places_in}
use Rattle.script_text.specs.Scripts.{first_or, label_in_lines}
use Rattle.script_text.proofs.labels.labels_of.Given as goal

abbrev pub invariant-loop-line : goal.invariant-loop-line
invariant-loop-line l = record {
  short : l.place ≤ l.line-index;
  so_far : (name : List ℕ) → first_or (places_in l.labels name) (label_in_lines l.place (drop l.line-index l.lines) name) ≡ label_in_lines 0 l.lines name;
}
