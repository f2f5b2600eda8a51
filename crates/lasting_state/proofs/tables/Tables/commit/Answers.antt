use Rattle.std.proofs.Common.{◌≡◌, ◌∙◌, refl, sym, ap, subst}
use Rattle.program_rows.specs.CallAnswers.{IsCommitted}
use Rattle.model_machine.specs.LastingSteps.{with_pad_changed}
use Rattle.lasting_state.specs.Tables.{TablesState}
use Rattle.lasting_state.proofs.Finished.{closes, completes_is, some_message}
use Rattle.lasting_state.proofs.tables.Tables.commit.Goals as goal

pub returns-clause-step : goal.returns-clause-step
returns-clause-step c =
    let left : TablesState = record { databases = c.commit.new.self; queues = c.self.inside.queues; next_id = c.self.inside.next_id; terminals = c.self.inside.terminals.items; outputs = c.self.inside.outputs; conversations = c.change_pad.new.conversations; steps = c.self.inside.steps } in
    let is : left ≡ record c.finish.new.self { databases = c.commit.new.self; conversations = c.change_pad.new.conversations } = rw (sym c.self.view_is) refl in
    let stays : IsCommitted c.args.region c.args.self.now.databases c.commit.new.self =
    subst (λ d. IsCommitted c.args.region d c.commit.new.self) (ap (λ t. t.databases) c.self.view_is ∙ c.in_ok-origin.ensures.databases) c.commit.ensures.value in
    let pad : c.change_pad.new.conversations ≡ with_pad_changed c.args.pad c.in_ok-origin.origin c.finish.new.self.conversations =
    c.change_pad.ensures ∙ ap (λ t. with_pad_changed c.args.pad c.in_ok-origin.origin t.conversations) c.self.view_is in
    completes_is c.args.region c.args.self.now left c.args.id c.args.outputs.items c.args.pad stays
    (closes c.commit.new.self c.change_pad.new.conversations (λ _. c.args.pad) (λ _. c.args.outputs.items) c.args.pad c.args.outputs.items c.in_ok-origin.origin c.args.self.now c.finish.new.self left c.args.id
    (some_message c.args.id c.args.self.now.queues.queued (λ _. (c.args.outputs.items ≡ c.args.outputs.items) × (c.args.pad ≡ c.args.pad)) c.requires.found (λ _. (refl, refl))) c.in_ok-origin.ensures.ok c.in_ok-origin.ensures.origin pad is)
