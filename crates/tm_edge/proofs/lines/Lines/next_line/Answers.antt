use Rattle.std.proofs.Common.{◌≡◌, ◌<◌, ◌∙◌, ap, sym, subst, List, ℕ, length, rules, arith}
use Rattle.std.specs.Prelude.{Option, IfSome}
use Rattle.std.specs.Io.KnownBytes.{prepend_known, IsAtEnd}
use Rattle.tm_edge.specs.Buffer.{held_bytes}
use Rattle.tm_edge.specs.Lines.{line_size, unread, IsLineTooLong, ServesTold}
use Rattle.tm_edge.proofs.Served.{serves_told, too_long_told}
use Rattle.tm_edge.proofs.lines.Lines.next_line.Goals as goal

pub returns-in-Ok-read_line-clause-line : goal.returns-in-Ok-read_line-clause-line
returns-in-Ok-read_line-clause-line g c =
    let left : Option (List ℕ) = g.S.Source.left c.read_line.new.source in
    let before : prepend_known (held_bytes c.read_line.new.buffer) left ≡ unread c.args.self.now (g.S.Source.left c.args.source.now) =
    c.read_line.ensures.told ∙ ap (λ (xs : List ℕ). prepend_known xs (g.S.Source.left c.args.source.now)) (c.reserve.ensures.held ∙ c.self.view_is) in
    let whole : line_size (held_bytes c.read_line.new.buffer) ≡ length (held_bytes c.read_line.new.buffer) → IsAtEnd left =
    λ h. c.in-Ok-read_line.ensures.whole (c.in-Ok-read_line.ensures.size ∙ h) in
    let P : Option (List ℕ) → Type 0 = λ told. ServesTold told c.serve-in-Ok-read_line.result (prepend_known (held_bytes c.serve-in-Ok-read_line.new.buffer) left) in
    subst P before (serves_told _ _ c.serve-in-Ok-read_line.result left whole c.serve-in-Ok-read_line.ensures)

pub returns-in-Some-clause-line : goal.returns-in-Some-clause-line
returns-in-Some-clause-line g c =
    let left : Option (List ℕ) = g.S.Source.left c.args.source.now in
    let same : held_bytes c.reserve.new.self ≡ c.args.self.now = c.reserve.ensures.held ∙ c.self.view_is in
    let held : List ℕ = c.held.result.now in
    let is_held : held ≡ held_bytes c.reserve.new.self = c.held.ensures ∙ sym c.reserve.ensures.held in
    let size : (c.in-Some.size ≡ line_size held) × (c.in-Some.size < length held) = search rules in
    let within : line_size (held_bytes c.reserve.new.self) < length (held_bytes c.reserve.new.self) =
    subst (λ (xs : List ℕ). line_size xs < length xs) is_held (omega (arith, size.0, size.1)) in
    let P : Option (List ℕ) → Type 0 = λ told. ServesTold told c.serve.result (prepend_known (held_bytes c.serve.new.buffer) left) in
    subst P (ap (λ (xs : List ℕ). prepend_known xs left) same) (serves_told _ _ c.serve.result left (λ h. absurd (omega (arith, h, within))) c.serve.ensures)

pub returns-in-Err-clause-too_long : goal.returns-in-Err-clause-too_long
returns-in-Err-clause-too_long g c = λ _.
    let long : IsLineTooLong c.held.result.now = c.in-Err.ensures.too_long in
    too_long_told c.args.self.now (g.S.Source.left c.args.source.now) (subst IsLineTooLong (c.held.ensures ∙ c.self.view_is) long)

pub returns-clause-too_long : goal.returns-clause-too_long
returns-clause-too_long g c = λ _.
    let left : Option (List ℕ) = g.S.Source.left c.read_line.new.source in
    let before : prepend_known (held_bytes c.read_line.new.buffer) left ≡ unread c.args.self.now (g.S.Source.left c.args.source.now) =
    c.read_line.ensures.told ∙ ap (λ (xs : List ℕ). prepend_known xs (g.S.Source.left c.args.source.now)) (c.reserve.ensures.held ∙ c.self.view_is) in
    let long : IsLineTooLong (held_bytes c.read_line.new.buffer) = search rules in
    let P : Option (List ℕ) → Type 0 = λ told. IfSome told IsLineTooLong in
    subst P before (too_long_told _ left long)
