use Rattle.std.proofs.Common.{◌≡◌, ◌≤◌, ap, length, arith}
use Rattle.tm_edge.specs.Buffer.{held_bytes}
use Rattle.tm_edge.specs.Lines.{line_size}
use Rattle.tm_edge.proofs.FirstLine.{still_clear}
use Rattle.tm_edge.proofs.lines.read_line.Goals as goal

pub whole_line-requires-clause-clear : goal.whole_line-requires-clause-clear
whole_line-requires-clause-clear g c =
    let clear : length (held_bytes c.loop-buffer.buffer) ≤ line_size (held_bytes c.fill.new.self) = still_clear _ _ c.fill.ensures.front c.loop-buffer.invariant.open_line in
    let seen : length c.held-seen.result.now ≡ length (held_bytes c.loop-buffer.buffer) = ap length c.held-seen.ensures in
    let now : line_size c.held.result.now ≡ line_size (held_bytes c.fill.new.self) = ap line_size c.held.ensures in
    omega arith
