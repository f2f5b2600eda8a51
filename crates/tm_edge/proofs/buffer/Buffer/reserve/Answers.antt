use Rattle.std.proofs.Common.{◌≡◌, List, ℕ, ◌≤◌, ◌∙◌, ap, drop, take, length, rules}
use Rattle.tm_edge.proofs.Held.{held_grown}
use Rattle.tm_edge.proofs.buffer.Buffer.reserve.Goals as goal

pub returns-in_ok-resize-clause-held : goal.returns-in_ok-resize-clause-held
returns-in_ok-resize-clause-held c =
    let grown : c.resize.new.self.items ≡ _ = c.in_ok-resize.ensures.items in
    let within : c.args.self.now.end ≤ length c.args.self.now.bytes.items = search rules in
    let fits : length c.args.self.now.bytes.items ≤ 8192 = search rules in
    ap (λ (xs : List ℕ). drop c.args.self.now.start (take c.args.self.now.end xs)) grown
    ∙ held_grown c.args.self.now.start c.args.self.now.end _ c.args.self.now.bytes.items _ within fits
