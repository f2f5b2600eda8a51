use Rattle.std.proofs.Common.{◌≡◌, ◌∙◌, refl, sym, ap, subst}
use Rattle.program_rows.specs.CallAnswers.{IsGivenUp}
use Rattle.model_machine.specs.LastingSteps.{abend_outputs, discarded_pad, with_pad_changed}
use Rattle.lasting_state.specs.Tables.{TablesState}
use Rattle.lasting_state.proofs.Finished.{closes, discards_is, found_message_and}
use Rattle.lasting_state.proofs.tables.Tables.back_out.Goals as goal

pub returns-clause-step : goal.returns-clause-step
returns-clause-step c =
    let left : TablesState = record { databases = c.give_up.new.self; queues = c.self-2.inside.queues; next_id = c.self-2.inside.next_id; terminals = c.self-2.inside.terminals.items; outputs = c.self-2.inside.outputs; conversations = c.change_pad.new.conversations; steps = c.self-2.inside.steps } in
    let is : left ≡ record c.finish.new.self { databases = c.give_up.new.self; conversations = c.change_pad.new.conversations } = rw (sym c.self-2.view_is) refl in
    let back : IsGivenUp c.args.region c.args.self.now.databases c.give_up.new.self =
    subst (λ d. IsGivenUp c.args.region d c.give_up.new.self) (ap (λ t. t.databases) c.self-2.view_is ∙ c.in_ok-origin.ensures.databases) c.give_up.ensures.value in
    let pad : c.change_pad.new.conversations ≡ with_pad_changed c.discarded_pad-pad.result c.in_ok-origin.origin c.finish.new.self.conversations =
    c.change_pad.ensures ∙ ap (λ t. with_pad_changed c.discarded_pad-pad.result c.in_ok-origin.origin t.conversations) c.self-2.view_is in
    discards_is c.args.region c.args.self.now left c.args.id c.args.abend back
    (closes c.give_up.new.self c.change_pad.new.conversations discarded_pad (λ message. abend_outputs message c.args.abend) c.discarded_pad-pad.result c.in_ok-outputs.outputs.items c.in_ok-origin.origin c.args.self.now c.finish.new.self left c.args.id
    (found_message_and c.args.id c.args.self.now.queues.queued c.in-Some.message.now (λ message. (c.in_ok-outputs.outputs.items ≡ abend_outputs message c.args.abend) × (c.discarded_pad-pad.result ≡ discarded_pad message)) (rw (sym c.self.view_is) c.in-Some.ensures) (c.in_ok-outputs.ensures, c.discarded_pad-pad.ensures))
    c.in_ok-origin.ensures.ok c.in_ok-origin.ensures.origin pad is)
