use Rattle.std.proofs.Common.{◌≡◌, ◌++◌, take}
use Rattle.std.specs.List.{flat_map}
use Rattle.model_machine.specs.AnswerText.{next_region}
use Rattle.oper_cmds.proofs.printing.add_further_regions.Given as goal

abbrev pub invariant-loop-region : goal.invariant-loop-region
invariant-loop-region l = record {
  text : l.out.items ≡ l.fn.out.items ++ flat_map next_region (take l.region-index l.regions);
}
