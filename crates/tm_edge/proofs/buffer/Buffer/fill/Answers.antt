use Rattle.std.proofs.Common.{◌≡◌, List, ℕ, ◌+◌, ◌∙◌, ap, drop, take, length, vec_len, rules}
use Rattle.std.specs.Io.KnownBytes.{prepend_known}
use Rattle.std.proofs.lemmas.List.{take_at}
use Rattle.tm_edge.proofs.Held.{told_held}
use Rattle.tm_edge.proofs.buffer.Buffer.fill.Goals as goal

pub returns-in-Ok-clause-told : goal.returns-in-Ok-clause-told
returns-in-Ok-clause-told g c =
    let whole : length c.take_behind.new.bytes ≡ vec_len c.compact.new.self.bytes = search rules in
    ap (λ (xs : List ℕ). prepend_known (drop c.compact.new.self.start (take (c.compact.new.self.end + c.in-Ok.n) xs)) (g.S.Source.left c.take_behind.new.source))
    (take_at c.take_behind.new.bytes _ _ whole)
    ∙ told_held c.compact.new.self.start c.compact.new.self.end _ c.compact.new.self.bytes.items c.take_behind.new.bytes _ _ _
    c.compact.ensures.front c.compact.ensures.held
    (c.in-Ok.ensures.told ∙ ap (λ (xs : List ℕ). prepend_known (take c.compact.new.self.end xs) (g.S.Source.left c.args.source.now)) c.deref_mut.ensures.value)

pub returns-in-Err-clause-told : goal.returns-in-Err-clause-told
returns-in-Err-clause-told g c =
    let whole : length c.take_behind.new.bytes ≡ vec_len c.compact.new.self.bytes = search rules in
    ap (λ (xs : List ℕ). prepend_known (drop c.compact.new.self.start (take c.compact.new.self.end xs)) (g.S.Source.left c.take_behind.new.source))
    (take_at c.take_behind.new.bytes _ _ whole)
    ∙ told_held c.compact.new.self.start c.compact.new.self.end _ c.compact.new.self.bytes.items c.take_behind.new.bytes _ _ _
    c.compact.ensures.front c.compact.ensures.held
    (ap (λ (xs : List ℕ). prepend_known xs (g.S.Source.left c.take_behind.new.source)) (c.take_behind.ensures.front ∙ ap (λ (xs : List ℕ). take c.compact.new.self.end xs) c.deref_mut.ensures.value)
    ∙ ap (λ left. prepend_known (take c.compact.new.self.end c.compact.new.self.bytes.items) left) c.in-Err.ensures.kept)
