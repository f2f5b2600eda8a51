use Rattle.std.proofs.Common.{◌≡◌, ◌<◌, ◌≤◌, ◌-◌, length, vec_len}
use Rattle.std.specs.Io.KnownBytes.{prepend_known}
use Rattle.tm_edge.specs.Buffer.{held_bytes}
use Rattle.tm_edge.specs.Lines.{line_size}
use Rattle.tm_edge.proofs.lines.read_line.Given as goal

abbrev pub invariant-loop-buffer : goal.invariant-loop-buffer
invariant-loop-buffer g l = record {
  told : prepend_known (held_bytes l.buffer) (g.S.Source.left l.source) ≡ prepend_known (held_bytes l.initial.buffer) (g.S.Source.left l.initial.source);
  open_line : line_size (held_bytes l.buffer) ≡ length (held_bytes l.buffer);
  held : length (held_bytes l.buffer) ≤ 4096;
  room : 4096 < vec_len l.buffer.bytes;
  no_fault : g.S.Source.faults l.source ≡ g.S.Source.faults l.initial.source;
}

abbrev pub decreases-loop-buffer : goal.decreases-loop-buffer
decreases-loop-buffer g l = 4097 - length (held_bytes l.buffer)
