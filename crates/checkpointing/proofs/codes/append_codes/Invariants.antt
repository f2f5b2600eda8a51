use Rattle.std.proofs.Common.{drop, map}
use Rattle.model_machine.specs.Machine.{setting_of}
use Rattle.checkpointing.specs.SnapshotRecords.{code_record}
use Rattle.checkpointing.proofs.Adding.{Comes}
use Rattle.checkpointing.proofs.codes.append_codes.Given as goal

abbrev pub invariant-loop-code : goal.invariant-loop-code
invariant-loop-code l =
    Comes (map code_record (map setting_of (drop l.code-index l.codes))) (map code_record (map setting_of l.codes)) l.fn.out.items l.out.items
