use Rattle.std.proofs.Common.{◌≡◌, ◌<◌, ◌+◌, drop, min, length, rules}
use Rattle.tm_edge.specs.Buffer.{held_bytes}
use Rattle.tm_edge.specs.Lines.{line_text}
use Rattle.tm_edge.proofs.Served.{serves_line}
use Rattle.tm_edge.proofs.lines.serve.Goals as goal

pub returns : goal.returns
returns c =
    let some : 0 < length (held_bytes c.args.buffer.now) = search rules in
    let line : c.shrink_to_fit.new.self.items ≡ line_text (held_bytes c.args.buffer.now) = search rules in
    let after : held_bytes c.skip.new.self ≡ drop (min (c.args.size + 1) (length (held_bytes c.args.buffer.now))) (held_bytes c.args.buffer.now) = search rules in
    serves_line _ _ _ c.args.size some c.requires.size c.requires.short line after
