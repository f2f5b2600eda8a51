use Rattle.std.proofs.Common.{map, drop, ◌+◌, ap, List, length, refl, arith}
use Rattle.std.proofs.lemmas.Option.{slice_get_read}
use Rattle.model_system.specs.declared.code_state.CodeState.{CodeState}
use Rattle.model_machine.specs.Machine.{setting_of}
use Rattle.checkpointing.specs.SnapshotRecords.{code_record}
use Rattle.checkpointing.proofs.Adding.{comes_more}
use Rattle.checkpointing.proofs.codes.append_codes.Goals as goal
use Rattle.tm_types.proofs.Parted.{drop_more}

pub loop-code-preserved : goal.loop-code-preserved
loop-code-preserved c =
    let cs = c.args.codes.now in
    let i = c.loop-code.code-index in
    comes_more (code_record (setting_of c.code-item.result)) (map code_record (map setting_of (drop (i + 1) cs))) (map code_record (map setting_of (drop i cs))) (map code_record (map setting_of cs)) c.args.out.now.items c.loop-code.out.items c.append_code.new.out.items
    (ap (λ (l : List CodeState). map code_record (map setting_of l)) (drop_more cs i c.code-item.result (slice_get_read cs (length cs) i c.code-item.result refl (omega arith) c.code-item.is))) c.in_ok-append_code.ensures.ok c.in_ok-append_code.ensures.valid c.loop-code.invariant
