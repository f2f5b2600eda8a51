use Rattle.std.proofs.Common.{◌+◌, refl, sym, subst, arith}
use Rattle.std.specs.Map.{values_of}
use Rattle.msg_queues.specs.Places.{IsIdBehind}
use Rattle.msg_queues.proofs.Free.{total_few}
use Rattle.msg_queues.proofs.Indexed.{places_behind, conversing_behind, kept_added, kept_same, kept_undone}
use Rattle.msg_queues.proofs.queues.Queues.add.Goals as goal

pub put-requires-clause-code : goal.put-requires-clause-code
put-requires-clause-code c =
    let fresh = rw (← c.self.view_is) at c.requires.above in
    subst (IsIdBehind c.args.message.id) (sym (c.self.invariant.indexed c.args.message.code)) (places_behind c.args.message.code c.args.message.id (values_of c.self.inside.messages.entries) fresh)

pub put-requires-clause-terminal : goal.put-requires-clause-terminal
put-requires-clause-terminal c =
    let fresh = rw (← c.self.view_is) at c.requires.above in
    subst (IsIdBehind c.args.message.id) (sym (c.self.invariant.conversing c.args.message.origin)) (conversing_behind c.args.message.origin c.args.message.id (values_of c.self.inside.messages.entries) fresh)

pub invariant_of-self : goal.invariant_of-self
invariant_of-self c =
    kept_same c.self.inside.messages.entries c.self.inside.messages.entries c.self.inside.content c.self.inside.free c.self.inside.by_code.entries c.put.new.by_code.entries c.self.inside.by_terminal.entries c.put.new.by_terminal.entries
    c.self.invariant refl c.in_default.ensures.code_err c.in_default.ensures.terminal_err

pub invariant_of-self-in-Err : goal.invariant_of-self-in-Err
invariant_of-self-in-Err c =
    kept_undone c.self.inside.messages.entries c.add.new.messages.entries c.self.inside.content c.self.inside.free c.self.inside.by_code.entries c.take.new.by_code.entries c.self.inside.by_terminal.entries c.take.new.by_terminal.entries
    c.self.invariant c.put.new.by_code.entries c.put.new.by_terminal.entries c.args.message c.in-Err.failed.value (rw (← c.self.view_is) at c.requires.above) c.in-Err.ensures.err c.in-Err.ensures.back
    c.in-Ok.ensures.code c.in-Ok.ensures.terminal c.take.ensures.code c.take.ensures.terminal

pub overflow_add-self-in-Ok-add : goal.overflow_add-self-in-Ok-add
overflow_add-self-in-Ok-add c =
    omega (arith, total_few (values_of c.self.inside.messages.entries), c.self.invariant.free, c.self.invariant.counted, c.self.invariant.small)

pub invariant_of-self-in-Ok-add : goal.invariant_of-self-in-Ok-add
invariant_of-self-in-Ok-add c =
    kept_added c.self.inside.messages.entries c.add.new.messages.entries c.self.inside.content c.self.inside.free c.self.inside.by_code.entries c.put.new.by_code.entries c.self.inside.by_terminal.entries c.put.new.by_terminal.entries
    c.self.invariant c.args.message c.counted_bytes-bytes.result c.in-Ok-add.ensures.ok c.add.ensures.keyed c.in-Ok.ensures.code c.in-Ok.ensures.terminal c.counted_bytes-bytes.ensures
    (rw (← c.self.view_is) at c.requires.fits) (c.self.inside.free + 1) refl
