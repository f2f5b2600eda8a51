use Rattle.std.proofs.Common.{◌≡◌, List, ℕ, [], ◌∷◌, ◌++◌, map, rules}
use Rattle.log_records.specs.declared.record.Record.{Record}
use Rattle.log_records.specs.declared.record.Record.TheVariants.{Checkpoint}
use Rattle.log_records.specs.RecordSpelling.{record_spelling}
use Rattle.model_machine.specs.Machine.{setting_of}
use Rattle.checkpointing.specs.SnapshotRecords.{terminal_records, code_record}
use Rattle.checkpointing.proofs.Adding.{adds_one, adds_both}
use Rattle.checkpointing.proofs.writing.write_first.Goals as goal

pub returns : goal.returns
returns c =
    let b1 : List ℕ = c.append_checkpoint.new.out.items in
    let b2 : List ℕ = c.append_terminals.new.out.items in
    let b3 : List ℕ = c.append_codes.new.out.items in
    let terminals : List Record = terminal_records c.args.terminals.now c.args.outputs.now c.args.conversations.now in
    let codes : List Record = map code_record (map setting_of c.args.codes.now) in
    let begun : b1 ≡ [] ++ record_spelling (Checkpoint 1 1 1 0) = search rules in
    adds_both (Checkpoint 1 1 1 0 ∷ []) (terminals ++ codes) [] b1 b3 (adds_one (Checkpoint 1 1 1 0) [] b1 begun c.in_ok-append_checkpoint.ensures.valid)
    (adds_both terminals codes b1 b2 b3 c.in_ok-append_terminals.ensures c.in_ok-append_codes.ensures)
