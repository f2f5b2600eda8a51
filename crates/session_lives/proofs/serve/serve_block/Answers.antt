-- of a session that was up
use Rattle.std.proofs.Common.{sym, subst, refl}
use Rattle.model_session.specs.Lines.{asked_of}
use Rattle.session_lives.specs.Openings.{CutsAt, PicksAt}
use Rattle.session_lives.proofs.Blocks.{served_at, endable_at, alone_at, ready_at}
use Rattle.session_lives.proofs.Picks.{cuts_up, picks_up}
use Rattle.session_lives.proofs.serve.serve_block.Goals as goal

pub returns-in-Up-clause-served : goal.returns-in-Up-clause-served
returns-in-Up-clause-served g c =
    served_at g.D.Disk.state c.args.block.now c.ask_block-called.new.printed.text c.in-Up.control c.ask_block-called.new.control c.args.session.now
    (record { lives = c.args.session.now.kept.lives; stops = c.args.session.now.kept.stops; pick = c.ask_block-called.new.picked }) c.settle.new.session c.ask_block-called.result c.settle.result
    c.in-Up.is c.ask_block-called.ensures.stays refl refl c.ask_block-called.ensures.picks c.ask_block-called.ensures.pace c.is_up.ensures.lasts c.ask_block-called.ensures.asked c.settle.ensures

pub returns-in-Up-clause-ready : goal.returns-in-Up-clause-ready
returns-in-Up-clause-ready g c =
    ready_at g.D.Disk.state c.args.block.now c.ask_block-called.new.printed.text c.in-Up.control c.ask_block-called.new.control c.args.session.now
    (record { lives = c.args.session.now.kept.lives; stops = c.args.session.now.kept.stops; pick = c.ask_block-called.new.picked }) c.ask_block-called.result
    c.in-Up.is c.requires.ready c.ask_block-called.ensures.stays refl refl c.settle.new.session c.settle.result c.ask_block-called.ensures.asked c.settle.ensures

pub settle-requires-clause-may_end : goal.settle-requires-clause-may_end
settle-requires-clause-may_end g c =
    endable_at g.D.Disk.state c.args.block.now c.ask_block-called.new.printed.text c.in-Up.control c.ask_block-called.new.control c.args.session.now
    (record { lives = c.args.session.now.kept.lives; stops = c.args.session.now.kept.stops; pick = c.ask_block-called.new.picked }) c.ask_block-called.result
    c.in-Up.is c.requires.ready c.ask_block-called.ensures.stays refl refl

pub settle-requires-clause-alone : goal.settle-requires-clause-alone
settle-requires-clause-alone g c =
    alone_at g.D.Disk.state c.args.block.now c.ask_block-called.new.printed.text c.in-Up.control c.ask_block-called.new.control c.args.session.now
    (record { lives = c.args.session.now.kept.lives; stops = c.args.session.now.kept.stops; pick = c.ask_block-called.new.picked }) c.ask_block-called.result
    c.in-Up.is c.requires.ready c.ask_block-called.ensures.stays refl refl c.ask_block-called.ensures.asked

pub returns-in-Up-clause-power : goal.returns-in-Up-clause-power
returns-in-Up-clause-power g c =
    subst (λ p. CutsAt g.D.Disk.state c.args.block.now p c.args.session.now.kept.pick c.settle.result c.settle.new.session.place) (sym c.in-Up.is)
    (cuts_up g.D.Disk.state c.in-Up.control c.ask_block-called.new.control (record { lives = c.args.session.now.kept.lives; stops = c.args.session.now.kept.stops; pick = c.ask_block-called.new.picked })
    c.settle.new.session c.ask_block-called.new.printed.text (asked_of c.in-Up.control.control.system c.args.block.now) c.ask_block-called.result c.settle.result
    (g.D.Disk.state c.in-Up.control.disk).can_arm c.args.session.now.kept.pick c.ask_block-called.ensures.asked c.ask_block-called.ensures.stays c.ask_block-called.ensures.picks c.settle.ensures)

pub returns-in-Up-clause-pick : goal.returns-in-Up-clause-pick
returns-in-Up-clause-pick g c =
    subst (λ p. PicksAt g.D.Disk.state c.args.block.now p c.settle.result c.args.session.now.kept.pick c.settle.new.session.kept.pick) (sym c.in-Up.is)
    (picks_up g.D.Disk.state c.in-Up.control c.ask_block-called.new.control (record { lives = c.args.session.now.kept.lives; stops = c.args.session.now.kept.stops; pick = c.ask_block-called.new.picked })
    c.settle.new.session c.ask_block-called.new.printed.text (asked_of c.in-Up.control.control.system c.args.block.now) c.ask_block-called.result c.settle.result
    (g.D.Disk.state c.in-Up.control.disk).can_arm c.args.session.now.kept.pick c.ask_block-called.ensures.asked c.ask_block-called.ensures.picks c.settle.ensures)

pub returns-in-Down-clause-pick : goal.returns-in-Down-clause-pick
returns-in-Down-clause-pick g c =
    subst (λ p. PicksAt g.D.Disk.state c.args.block.now p c.serve_down.result c.args.session.now.kept.pick c.serve_down.new.session.kept.pick) (sym c.in-Down.is) c.serve_down.ensures.pick
