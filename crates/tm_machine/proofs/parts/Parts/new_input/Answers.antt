use Rattle.std.proofs.Common.{◌≡◌, sym, ap, ◌∙◌, refl}
use Rattle.std.specs.Prelude.{Ok, slice_get}
use Rattle.model_messages.specs.Queue.{messages_of}
use Rattle.model_messages.specs.ConversationInput.{busy_id}
use Rattle.model_messages.specs.Terminals.{conversation_at}
use Rattle.conversation.specs.Refusals.{conversation_answer as conversation_answer}
use Rattle.tm_machine.proofs.Asked.{unknown_input, stopped_input, halted_input, numbered_input, busy_input, uncoded_input, many_input, new_input}
use Rattle.tm_machine.proofs.parts.Parts.new_input.Goals as goal

pub returns-in_default-clause-refused : goal.returns-in_default-clause-refused
returns-in_default-clause-refused c =
    rw (sym c.self.view_is) (unknown_input c.self.inside.system c.self.inside.tables c.self.inside.codes c.self.inside.regions.items c.self.invariant c.args.terminal.now c.args.number c.args.segments.now c.in_default.ensures.value)

pub returns-then-is_stopped-clause-refused : goal.returns-then-is_stopped-clause-refused
returns-then-is_stopped-clause-refused c =
    rw (sym c.self.view_is) (stopped_input c.self.inside.system c.self.inside.tables c.self.inside.codes c.self.inside.regions.items c.self.invariant c.args.terminal.now c.args.number c.args.segments.now
    c.in-Some.place c.in-Some.ensures.value c.is_stopped.result c.is_stopped.ensures c.if-is_stopped.true)

pub returns-in-Some-by_number-clause-refused : goal.returns-in-Some-by_number-clause-refused
returns-in-Some-by_number-clause-refused c =
    rw (sym c.self.view_is) (numbered_input c.self.inside.system c.self.inside.tables c.self.inside.codes c.self.inside.regions.items c.self.invariant c.args.terminal.now c.args.number c.args.segments.now
    c.in-Some.place c.in-Some.ensures.value c.is_stopped.result c.is_stopped.ensures c.if-is_stopped.false c.last_input.result c.last_input.ensures c.in-Some-by_number.answer c.in-Some-by_number.ensures)

pub returns-in-Err-clause-refused : goal.returns-in-Err-clause-refused
returns-in-Err-clause-refused c =
    rw (sym c.self.view_is) (busy_input c.self.inside.system c.self.inside.tables c.self.inside.codes c.self.inside.regions.items c.self.invariant c.args.terminal.now c.args.number c.args.segments.now
    c.in-Some.place c.in-Some.ensures.value c.is_stopped.result c.is_stopped.ensures c.if-is_stopped.false c.last_input.result c.last_input.ensures c.in_default-by_number.ensures c.in-Err.field-0.id
    (c.in-Err.ensures ∙ ap (λ cs. conversation_answer (conversation_at c.args.terminal.now cs) (busy_id c.args.terminal.now (messages_of c.queues.result.now.queued))) c.conversations.ensures
    ∙ ap (λ q. conversation_answer (conversation_at c.args.terminal.now c.self.inside.tables.conversations) (busy_id c.args.terminal.now (messages_of q.queued))) c.queues.ensures))

pub returns-in_default-code_for-clause-refused : goal.returns-in_default-code_for-clause-refused
returns-in_default-code_for-clause-refused c =
    let says : Ok c.in-Ok.conversation ≡ conversation_answer (conversation_at c.args.terminal.now c.self.inside.tables.conversations) (busy_id c.args.terminal.now (messages_of c.self.inside.tables.queues.queued)) =
    c.in-Ok.ensures ∙ ap (λ cs. conversation_answer (conversation_at c.args.terminal.now cs) (busy_id c.args.terminal.now (messages_of c.queues.result.now.queued))) c.conversations.ensures
    ∙ ap (λ q. conversation_answer (conversation_at c.args.terminal.now c.self.inside.tables.conversations) (busy_id c.args.terminal.now (messages_of q.queued))) c.queues.ensures in
    rw (sym c.self.view_is) (uncoded_input c.self.inside.system c.self.inside.tables c.self.inside.codes c.self.inside.regions.items c.self.invariant c.args.terminal.now c.args.number c.args.segments.now
    c.in-Some.place c.in-Some.ensures.value c.is_stopped.result c.is_stopped.ensures c.if-is_stopped.false c.last_input.result c.last_input.ensures c.in_default-by_number.ensures c.in-Ok.conversation says
    c.in_default-code_for.ensures.value)

pub returns-then-is_code_stopped-clause-refused : goal.returns-then-is_code_stopped-clause-refused
returns-then-is_code_stopped-clause-refused c =
    let says : Ok c.in-Ok.conversation ≡ conversation_answer (conversation_at c.args.terminal.now c.self.inside.tables.conversations) (busy_id c.args.terminal.now (messages_of c.self.inside.tables.queues.queued)) =
    c.in-Ok.ensures ∙ ap (λ cs. conversation_answer (conversation_at c.args.terminal.now cs) (busy_id c.args.terminal.now (messages_of c.queues.result.now.queued))) c.conversations.ensures
    ∙ ap (λ q. conversation_answer (conversation_at c.args.terminal.now c.self.inside.tables.conversations) (busy_id c.args.terminal.now (messages_of q.queued))) c.queues.ensures in
    rw (sym c.self.view_is) (halted_input c.self.inside.system c.self.inside.tables c.self.inside.codes c.self.inside.regions.items c.self.invariant c.args.terminal.now c.args.number c.args.segments.now
    c.in-Some.place c.in-Some.ensures.value c.is_stopped.result c.is_stopped.ensures c.if-is_stopped.false c.last_input.result c.last_input.ensures c.in_default-by_number.ensures c.in-Ok.conversation says
    c.in-Some-code_for.code_index c.in-Some-code_for.ensures.value c.code_at-code.result.now (ap (λ k. slice_get k c.in-Some-code_for.code_index) (sym c.codes.ensures.value) ∙ c.code_at-code.ensures)
    c.named-name.result c.named-name.ensures.value c.is_code_stopped.result c.is_code_stopped.ensures c.if-is_code_stopped.true)

pub returns-then-count-most-clause-refused : goal.returns-then-count-most-clause-refused
returns-then-count-most-clause-refused c =
    let says : Ok c.in-Ok.conversation ≡ conversation_answer (conversation_at c.args.terminal.now c.self.inside.tables.conversations) (busy_id c.args.terminal.now (messages_of c.self.inside.tables.queues.queued)) =
    c.in-Ok.ensures ∙ ap (λ cs. conversation_answer (conversation_at c.args.terminal.now cs) (busy_id c.args.terminal.now (messages_of c.queues.result.now.queued))) c.conversations.ensures
    ∙ ap (λ q. conversation_answer (conversation_at c.args.terminal.now c.self.inside.tables.conversations) (busy_id c.args.terminal.now (messages_of q.queued))) c.queues.ensures in
    rw (sym c.self.view_is) (many_input c.self.inside.system c.self.inside.tables c.self.inside.codes c.self.inside.regions.items c.self.invariant c.args.terminal.now c.args.number c.args.segments.now
    c.in-Some.place c.in-Some.ensures.value c.is_stopped.result c.is_stopped.ensures c.if-is_stopped.false c.last_input.result c.last_input.ensures c.in_default-by_number.ensures c.in-Ok.conversation says
    c.in-Some-code_for.code_index c.in-Some-code_for.ensures.value c.code_at-code.result.now (ap (λ k. slice_get k c.in-Some-code_for.code_index) (sym c.codes.ensures.value) ∙ c.code_at-code.ensures)
    c.named-name.result c.named-name.ensures.value c.is_code_stopped.result c.is_code_stopped.ensures c.if-is_code_stopped.false
    c.most_segments-most.result c.args.count c.most_segments-most.ensures c.requires.count c.if-count-most.true)

pub returns-clause-new : goal.returns-clause-new
returns-clause-new c =
    let says : Ok c.in-Ok.conversation ≡ conversation_answer (conversation_at c.args.terminal.now c.self.inside.tables.conversations) (busy_id c.args.terminal.now (messages_of c.self.inside.tables.queues.queued)) =
    c.in-Ok.ensures ∙ ap (λ cs. conversation_answer (conversation_at c.args.terminal.now cs) (busy_id c.args.terminal.now (messages_of c.queues.result.now.queued))) c.conversations.ensures
    ∙ ap (λ q. conversation_answer (conversation_at c.args.terminal.now c.self.inside.tables.conversations) (busy_id c.args.terminal.now (messages_of q.queued))) c.queues.ensures in
    rw (sym c.self.view_is) (new_input c.self.inside.system c.self.inside.tables c.self.inside.codes c.self.inside.regions.items c.self.invariant c.args.terminal.now c.args.number c.args.segments.now
    c.in-Some.place c.in-Some.ensures.value c.is_stopped.result c.is_stopped.ensures c.if-is_stopped.false c.last_input.result c.last_input.ensures c.in_default-by_number.ensures c.in-Ok.conversation says
    c.in-Some-code_for.code_index c.in-Some-code_for.ensures.value c.code_at-code.result.now (ap (λ k. slice_get k c.in-Some-code_for.code_index) (sym c.codes.ensures.value) ∙ c.code_at-code.ensures)
    c.named-name.result c.named-name.ensures.value c.is_code_stopped.result c.is_code_stopped.ensures c.if-is_code_stopped.false
    c.most_segments-most.result c.args.count c.most_segments-most.ensures c.requires.count
    c.if-count-most.false (record { place = c.in-Some.place; code = c.named-name.result; code_index = c.in-Some-code_for.code_index; way = c.way_by-way.result }) refl c.in-Some.ensures.within
    refl c.in-Some-code_for.ensures.within c.way_by-way.ensures refl c.named-name.ensures.name)
