-- the rows so far, and those that are still to come, for which there is room
use Rattle.std.proofs.Common.{◌≡◌, ◌+◌, ◌-◌, ◌*◌, ◌≤◌, ◌++◌, drop}
use Rattle.model_session.specs.Text.{rows_text}
use Rattle.session_text.proofs.page.add_rows.Given as goal

abbrev pub invariant-loop-index : goal.invariant-loop-index
invariant-loop-index l =
    (l.out.text ++ rows_text (1 + l.index) (drop l.index l.rows) ≡ l.fn.out.text ++ rows_text 1 l.rows)
    × ((24 - l.index) * 86 ≤ l.out.room)
