-- what was read, before what is still to be read
use Rattle.std.proofs.Common.{◌≡◌, ◌≤◌, ◌+◌, drop, length}
use Rattle.text_rows.specs.Refusals.{values_behind}
use Rattle.script_text.specs.GoodStatement.{places_in}
use Rattle.script_text.specs.KeptLines.{AreLinesKept}
use Rattle.script_text.specs.Scripts as scripts
use Rattle.script_text.proofs.reader.script.Given as goal

abbrev pub invariant-loop-index : goal.invariant-loop-index
invariant-loop-index l = record {
  read : values_behind l.items.items (scripts.script (places_in l.labels) (l.first + l.index) (length l.items.items) l.statements (drop l.index l.lines)) ≡ scripts.script (places_in l.labels) l.first 0 0 l.lines;
  kept : AreLinesKept (places_in l.labels) l.items.items l.statements (drop l.index l.lines) l.lines;
  short : length l.items.items ≤ l.index;
}
