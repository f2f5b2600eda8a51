-- a line more of what was kept
use Rattle.std.proofs.Common.{◌≡◌, true, false, sym, ◌∙◌, ap, subst}
use Rattle.std.specs.Prelude.{Some, None, IfSome}
use Rattle.text_rows.specs.Lines.{is_passed_over}
use Rattle.model_session.specs.Blocks.{and_line, is_further}
use Rattle.session_lives.proofs.Leading.{leads_same, leads_map}
use Rattle.tm_session.specs.declared.outcome.Ended.TheVariants.{Memory}
use Rattle.tm_session.specs.DrivenSession.{SessionGoes, SessionEnds, IsBlockOpen}
use Rattle.tm_session.proofs.Steps.{goes_passed, goes_longer, ends_longer, kept_goes}
use Rattle.tm_session.proofs.driver.serve_read.Goals as goal

pub returns-then-is_passed_over-clause-step : goal.returns-then-is_passed_over-clause-step
returns-then-is_passed_over-clause-step g c =
    let passed : is_passed_over c.args.line ≡ true = sym (ap is_passed_over c.bytes.ensures) ∙ sym c.is_passed_over.ensures ∙ c.if-is_passed_over.true in
    leads_same g.D.Disk.state _ c.args.session.now (λ setting x. goes_passed setting c.args.pending.now c.args.line (g.K.Sink.written c.args.sink.now) x passed)

pub returns-in_default-clause-step : goal.returns-in_default-clause-step
returns-in_default-clause-step g c =
    let none : c.args.pending.now ≡ None = cc in
    leads_map g.D.Disk.state _ _ c.args.session.now c.begin_block.new.session
    (λ setting x y one. kept_goes setting c.args.pending.now None c.args.line c.begin_block.result c.begin_block.new.pending (g.K.Sink.written c.args.sink.now) (g.K.Sink.written c.begin_block.new.sink) x y none one)
    c.begin_block.ensures.step

pub returns-then-lengthen-clause-step : goal.returns-then-lengthen-clause-step
returns-then-lengthen-clause-step g c =
    let some : c.args.pending.now ≡ Some c.in-Some.block = cc in
    let seen : is_passed_over c.args.line ≡ false = sym (ap is_passed_over c.bytes.ensures) ∙ sym c.is_passed_over.ensures ∙ c.if-is_passed_over.false in
    let plus : is_further c.args.line ≡ true = sym (ap is_further c.bytes-2.ensures) ∙ sym c.is_further.ensures ∙ c.if-is_further.true in
    let takes : IsBlockOpen c.in-Some.block = subst (λ p. IfSome p IsBlockOpen) some c.requires.begun in
    let longer : c.lengthen.new.pending ≡ Some (and_line c.in-Some.block c.args.line) = c.lengthen.ensures.added c.if-lengthen.true in
    leads_same g.D.Disk.state _ c.args.session.now
    (λ setting x. subst (λ p. SessionGoes setting p c.args.line c.lengthen.new.pending (g.K.Sink.written c.args.sink.now) (g.K.Sink.written c.args.sink.now) x x) (sym some)
    (subst (λ q. SessionGoes setting (Some c.in-Some.block) c.args.line q (g.K.Sink.written c.args.sink.now) (g.K.Sink.written c.args.sink.now) x x) (sym longer)
    (goes_longer setting c.in-Some.block c.args.line (g.K.Sink.written c.args.sink.now) x seen plus takes)))

pub returns-then-is_further-clause-step : goal.returns-then-is_further-clause-step
returns-then-is_further-clause-step g c =
    let some : c.args.pending.now ≡ Some c.in-Some.block = cc in
    let seen : is_passed_over c.args.line ≡ false = sym (ap is_passed_over c.bytes.ensures) ∙ sym c.is_passed_over.ensures ∙ c.if-is_passed_over.false in
    let plus : is_further c.args.line ≡ true = sym (ap is_further c.bytes-2.ensures) ∙ sym c.is_further.ensures ∙ c.if-is_further.true in
    let takes : IsBlockOpen c.in-Some.block = subst (λ p. IfSome p IsBlockOpen) some c.requires.begun in
    leads_same g.D.Disk.state _ c.args.session.now
    (λ setting x. subst (λ p. SessionEnds setting Memory p c.args.line (g.K.Sink.written c.args.sink.now) (g.K.Sink.written c.args.sink.now) x x) (sym some)
    (ends_longer setting c.in-Some.block c.args.line (g.K.Sink.written c.args.sink.now) x seen plus takes))

pub returns-clause-step : goal.returns-clause-step
returns-clause-step g c =
    let some : c.args.pending.now ≡ Some c.in-Some.block = cc in
    leads_map g.D.Disk.state _ _ c.args.session.now c.serve_both.new.session
    (λ setting x y one. kept_goes setting c.args.pending.now (Some c.in-Some.block) c.args.line c.serve_both.result c.serve_both.new.pending (g.K.Sink.written c.args.sink.now) (g.K.Sink.written c.serve_both.new.sink) x y some one)
    c.serve_both.ensures.step
