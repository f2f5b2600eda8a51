-- a line alone, kept or served
use Rattle.std.proofs.Common.{◌≡◌, true, false, sym, ◌∙◌, ap}
use Rattle.model_session.specs.Blocks.{takes_further}
use Rattle.session_lives.proofs.Leading.{leads_same, leads_map}
use Rattle.tm_session.proofs.Steps.{open_step, alone_step}
use Rattle.tm_session.proofs.driver.begin_block.Goals as goal

pub returns-then-takes_further-clause-step : goal.returns-then-takes_further-clause-step
returns-then-takes_further-clause-step g c =
    let takes : takes_further c.args.line ≡ true =
    sym (ap takes_further (c.line.ensures ∙ ap (λ b. b.line) c.alone-block.ensures)) ∙ sym c.takes_further.ensures ∙ c.if-takes_further.true in
    leads_same g.D.Disk.state _ c.args.session.now (λ setting x. open_step setting c.args.line c.alone-block.result (g.K.Sink.written c.args.sink.now) x c.requires.seen takes c.alone-block.ensures)

pub returns-clause-step : goal.returns-clause-step
returns-clause-step g c =
    let plain : takes_further c.args.line ≡ false =
    sym (ap takes_further (c.line.ensures ∙ ap (λ b. b.line) c.alone-block.ensures)) ∙ sym c.takes_further.ensures ∙ c.if-takes_further.false in
    leads_map g.D.Disk.state _ _ c.args.session.now c.serve_whole.new.session
    (λ setting x y one. alone_step setting c.serve_whole.result c.args.line c.alone-block.result c.args.pending.now (g.K.Sink.written c.args.sink.now) (g.K.Sink.written c.serve_whole.new.sink) x y
    c.requires.seen plain c.alone-block.ensures c.requires.none one)
    c.serve_whole.ensures.step
