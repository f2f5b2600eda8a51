use Rattle.log_records.specs.declared.record.Record.{Record}
use Rattle.log_records.specs.declared.record.Record.TheVariants.{Terminal}
use Rattle.std.proofs.Common.{arith}
use Rattle.std.proofs.lemmas.Result.{on_ok_weaker}
use Rattle.log_records.proofs.Lengths.{is_record}
use Rattle.log_records.proofs.WithLength.{short_from, on_same, terminal_short, short_pad}
use Rattle.log_records.proofs.appending.append_terminal.Goals as goal

pub end_record-requires-clause-short : goal.end_record-requires-clause-short
end_record-requires-clause-short c =
    let r : Record = Terminal c.args.terminal.now c.args.last_input c.args.next_output c.args.stopped c.args.conversation.now in
    short_from c.put_terminal-written.result c.args.out.now.items c.extend_from_slice.new.self.items c.put_terminal-written.new.out.items r c.len-start.result c.in_ok-extend_from_slice.ensures.items (omega arith) c.put_terminal-written.ensures.ok (on_ok_weaker c.put_terminal-written.result (λ h. is_record r h (terminal_short c.args.terminal.now c.args.last_input c.args.next_output c.args.stopped c.args.conversation.now h c.requires.pad)) c.put_terminal-written.ensures.valid)

pub returns-clause-valid : goal.returns-clause-valid
returns-clause-valid c =
    let r : Record = Terminal c.args.terminal.now c.args.last_input c.args.next_output c.args.stopped c.args.conversation.now in
    on_same _ c.end_record.result c.put_terminal-written.result c.end_record.ensures.same (on_ok_weaker c.put_terminal-written.result (λ h. is_record r h (terminal_short c.args.terminal.now c.args.last_input c.args.next_output c.args.stopped c.args.conversation.now h c.requires.pad)) c.put_terminal-written.ensures.valid)

pub put_terminal-written-requires : goal.put_terminal-written-requires
put_terminal-written-requires c = short_pad c.args.conversation.now c.requires.pad
