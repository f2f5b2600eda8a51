use Rattle.std.proofs.Common.{◌≡◌, drop, ◌+◌, length, refl, Some}
use Rattle.std.proofs.lemmas.Option.{slice_get_read}
use Rattle.std.specs.Prelude.{slice_get}
use Rattle.log_records.specs.declared.record.Record.TheVariants.{Terminal}
use Rattle.checkpointing.specs.SnapshotRecords.{terminal_records}
use Rattle.checkpointing.proofs.Adding.{comes_more, terminals_more}
use Rattle.checkpointing.proofs.terminals.append_terminals.Goals as goal

pub loop-place-preserved : goal.loop-place-preserved
loop-place-preserved c =
    let ts = c.args.terminals.now in
    let os = c.args.outputs.now in
    let cs = c.args.conversations.now in
    let i = c.loop-place.place in
    let t = c.in-Some.terminal.now in
    let o = c.in-Some-get.output.now in
    let v = c.in-Some-get-2.conversation.now in
    let here_t : slice_get ts i ≡ Some t = slice_get_read ts (length ts) i t refl c.in-Some.ensures.lookup.3.0 c.in-Some.ensures.lookup.1 in
    let here_o : slice_get os i ≡ Some o = slice_get_read os (length os) i o refl c.in-Some-get.ensures.lookup.3.0 c.in-Some-get.ensures.lookup.1 in
    let here_c : slice_get cs i ≡ Some v = slice_get_read cs (length cs) i v refl c.in-Some-get-2.ensures.lookup.3.0 c.in-Some-get-2.ensures.lookup.1 in
    comes_more (Terminal t.name t.last o.next t.stopped v.conversation) (terminal_records (drop (i + 1) ts) (drop (i + 1) os) (drop (i + 1) cs)) (terminal_records (drop i ts) (drop i os) (drop i cs)) (terminal_records ts os cs)
    c.args.out.now.items c.loop-place.out.items c.append_terminal.new.out.items
    (terminals_more ts os cs i t o v here_t here_o here_c) c.in_ok-append_terminal.ensures.ok c.in_ok-append_terminal.ensures.valid c.loop-place.invariant
