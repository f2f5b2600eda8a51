-- nothing is counted on where nothing is written
use Rattle.std.proofs.Common.{length, ap, arith}
use Rattle.model_machine.specs.History.{ControlState}
use Rattle.session_lives.proofs.Counting.{pace_log}
use Rattle.session_lives.proofs.asking.arm.Goals as goal

pub returns-clause-pace : goal.returns-clause-pace
returns-clause-pace g c =
    pace_log g.D.Disk.state c.args.control.now c.arm-is_armed.new.self c.requires.up (omega (arith, ap (λ (k : ControlState). length k.history) c.arm-is_armed.ensures.control)) c.arm-is_armed.ensures.arms.same.system
    c.arm-is_armed.ensures.log c.arm-is_armed.ensures.arms.told.no_more
