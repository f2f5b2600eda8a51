use Rattle.system_types.specs.Indexes.{has_program_name}
use Rattle.system_types.proofs.Indexed.{one_more}
use Rattle.system_types.proofs.indexes.programs_by_name.Goals as goal

pub loop-place-preserved : goal.loop-place-preserved
loop-place-preserved c =
    one_more has_program_name c.loop-place.index c.add_name.new.index c.args.programs.now c.loop-place.place c.index-programs-place.result c.loop-place-test.true c.index-programs-place.is c.loop-place.invariant c.in_ok-add_name.ensures.ok
