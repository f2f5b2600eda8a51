-- the text of the block was written, or not
use Rattle.session_lives.proofs.Leading.{leads_map}
use Rattle.tm_session.proofs.Driven.{whole_block}
use Rattle.tm_session.proofs.driver.serve_whole.Goals as goal

pub returns-clause-step : goal.returns-clause-step
returns-clause-step g c =
    leads_map g.D.Disk.state _ _ c.args.session.now c.serve_block-served.new.session
    (λ setting x y one. whole_block setting c.args.block.now (g.K.Sink.written c.args.sink.now) (g.K.Sink.written c.finish.new.sink) x y c.serve_block-served.result c.serve_block-served.new.printed.text c.finish.result one c.finish.ensures.finished)
    c.serve_block-served.ensures.served
