-- by where the session stands
use Rattle.std.proofs.Common.{refl}
use Rattle.session_lives.proofs.Blocks.{ended_at, ended_down, endable_ended, pick_ended_at, place_ended, ready_ended_at}
use Rattle.session_lives.proofs.serve.end_source.Goals as goal

pub end_forced-requires : goal.end_forced-requires
end_forced-requires g c =
    endable_ended g.D.Disk.state c.in-Up.control c.force-ending.new.control c.args.session.now c.args.session.now.kept c.in-Up.is c.requires.ready c.force-ending.ensures.stays refl refl

pub returns-in-Up-clause-ended : goal.returns-in-Up-clause-ended
returns-in-Up-clause-ended g c =
    ended_at g.D.Disk.state c.in-Up.control c.force-ending.new.control c.args.session.now c.args.session.now.kept c.end_forced.new.session c.force-ending.result c.in-Up.is c.force-ending.ensures.stays refl refl
    c.force-ending.ensures.forced c.end_forced.ensures refl c.force-ending.ensures.pace c.is_up.ensures.lasts

pub returns-in-Up-clause-ready : goal.returns-in-Up-clause-ready
returns-in-Up-clause-ready g c =
    ready_ended_at g.D.Disk.state c.in-Up.control c.force-ending.new.control c.args.session.now c.args.session.now.kept c.end_forced.new.session c.force-ending.result c.in-Up.is c.force-ending.ensures.stays refl refl
    c.force-ending.ensures.forced c.end_forced.ensures c.requires.ready

pub returns-in-Up-clause-place : goal.returns-in-Up-clause-place
returns-in-Up-clause-place g c =
    place_ended g.D.Disk.state c.in-Up.control c.force-ending.new.control c.args.session.now c.args.session.now.kept c.end_forced.new.session c.force-ending.result c.in-Up.is c.force-ending.ensures.stays refl refl
    c.force-ending.ensures.forced c.end_forced.ensures

pub returns-in-Up-clause-pick : goal.returns-in-Up-clause-pick
returns-in-Up-clause-pick g c =
    pick_ended_at g.D.Disk.state c.in-Up.control c.force-ending.new.control c.args.session.now c.args.session.now.kept c.end_forced.new.session c.force-ending.result c.in-Up.is c.force-ending.ensures.stays refl refl
    c.force-ending.ensures.forced c.end_forced.ensures

pub returns-in-Down-clause-ended : goal.returns-in-Down-clause-ended
returns-in-Down-clause-ended g c = ended_down g.D.Disk.state c.in-Down.field-0 c.args.session.now c.in-Down.is
