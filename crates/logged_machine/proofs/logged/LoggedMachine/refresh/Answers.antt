-- a checkpoint, by what it wrote
use Rattle.std.proofs.Common.{◌∙◌, sym, ap, subst, List, [], ◌∷◌, ℕ}
use Rattle.model_machine.specs.Machine.{Moment}
use Rattle.logged_machine.specs.LoggedParts.{IsLogged}
use Rattle.logged_machine.specs.LoggedState.{LoggedState}
use Rattle.logged_machine.proofs.Checkpointed.{pending_by, refreshed, unrefreshed_by}
use Rattle.logged_machine.proofs.logged.LoggedMachine.refresh.Goals as goal

pub checkpoint-requires-clause-logged : goal.checkpoint-requires-clause-logged
checkpoint-requires-clause-logged g c =
    let p = c.self.invariant (ap (λ (v : LoggedState _). v.served) c.self.view_is ∙ c.requires.served) in
    record {
      text = c.self.inside.text;
      states = p.states;
      is = subst (λ (us : List ℕ). IsLogged c.self.inside.parts us c.self.inside.next_unit c.self.inside.journal c.self.inside.text p.states (g.D.Disk.state c.self.inside.disk)) (sym c.as_slice.ensures.value) p.logged;
    }

pub invariant_of-self : goal.invariant_of-self
invariant_of-self g c =
    λ up. record {
      states = c.self.inside.parts.moment.lasting ∷ [];
      logged = (subst (λ (us : List ℕ). IsLogged c.checkpoint.new.parts us c.self.inside.next_unit c.checkpoint.new.journal c.self.inside.text (c.self.inside.parts.moment.lasting ∷ []) (g.D.Disk.state c.checkpoint.new.disk)) c.as_slice.ensures.value
          (c.in-Ok.ensures.logged c.self.inside.text (c.self.invariant (ap (λ (v : LoggedState _). v.served) c.self.view_is ∙ c.requires.served)).states
          (subst (λ (us : List ℕ). IsLogged c.self.inside.parts us c.self.inside.next_unit c.self.inside.journal c.self.inside.text (c.self.invariant (ap (λ (v : LoggedState _). v.served) c.self.view_is ∙ c.requires.served)).states (g.D.Disk.state c.self.inside.disk)) (sym c.as_slice.ensures.value) (c.self.invariant (ap (λ (v : LoggedState _). v.served) c.self.view_is ∙ c.requires.served)).logged)));
      steps = c.steps-self-inside.ensures ∙ ap (λ (m : Moment). m.lasting.steps) c.checkpoint.ensures.moment;
    }

pub returns-in-Ok-clause-done : goal.returns-in-Ok-clause-done
returns-in-Ok-clause-done g c =
    rw (sym c.self.view_is) (refreshed g.D.Disk.state c.self.inside.parts c.checkpoint.new.parts c.self.inside.text c.self.inside.journal c.checkpoint.new.journal c.self.inside.units.items c.self.inside.next_unit c.self.inside.disk c.checkpoint.new.disk c.self.inside.served c.self.inside.forced
    c.checkpoint.ensures.system c.checkpoint.ensures.moment c.checkpoint.ensures.stays c.checkpoint.ensures.any_moment c.checkpoint.ensures.texts c.checkpoint.ensures.counts c.checkpoint.ensures.writes
    c.steps-self-inside.result (ap (λ (v : LoggedState _). v.served) c.self.view_is ∙ c.requires.served) c.in-Ok.ensures.settled c.in-Ok.ensures.takes c.in-Ok.ensures.synced c.in-Ok.ensures.no_fault
    (c.steps-self-inside.ensures ∙ ap (λ (m : Moment). m.lasting.steps) c.checkpoint.ensures.moment)
    (subst (λ (us : List ℕ). IsLogged c.checkpoint.new.parts us c.self.inside.next_unit c.checkpoint.new.journal c.self.inside.text (c.self.inside.parts.moment.lasting ∷ []) (g.D.Disk.state c.checkpoint.new.disk)) c.as_slice.ensures.value
    (c.in-Ok.ensures.logged c.self.inside.text (c.self.invariant (ap (λ (v : LoggedState _). v.served) c.self.view_is ∙ c.requires.served)).states
    (subst (λ (us : List ℕ). IsLogged c.self.inside.parts us c.self.inside.next_unit c.self.inside.journal c.self.inside.text (c.self.invariant (ap (λ (v : LoggedState _). v.served) c.self.view_is ∙ c.requires.served)).states (g.D.Disk.state c.self.inside.disk)) (sym c.as_slice.ensures.value) (c.self.invariant (ap (λ (v : LoggedState _). v.served) c.self.view_is ∙ c.requires.served)).logged))))

pub invariant_of-self-in-Err : goal.invariant_of-self-in-Err
invariant_of-self-in-Err g c =
    λ up. pending_by g.D.Disk.state c.self.inside.parts c.checkpoint.new.parts c.self.inside.text c.self.inside.journal c.checkpoint.new.journal c.self.inside.units.items c.self.inside.next_unit c.self.inside.disk c.checkpoint.new.disk c.self.inside.served c.self.inside.forced
    c.checkpoint.ensures.system c.checkpoint.ensures.stays c.checkpoint.ensures.any_moment c.checkpoint.ensures.texts c.checkpoint.ensures.counts c.checkpoint.ensures.writes c.in-Err.fault c.in-Err.ensures.cause (sym c.is_memory-self-inside.ensures ∙ up) (c.self.invariant (ap (λ (v : LoggedState _). v.served) c.self.view_is ∙ c.requires.served))

pub returns-in-Err-clause-fault : goal.returns-in-Err-clause-fault
returns-in-Err-clause-fault g c =
    rw (sym c.self.view_is, c.is_memory-self-inside.ensures) (unrefreshed_by g.D.Disk.state c.self.inside.parts c.checkpoint.new.parts c.self.inside.text c.self.inside.journal c.checkpoint.new.journal c.self.inside.units.items c.self.inside.next_unit c.self.inside.disk c.checkpoint.new.disk c.self.inside.served c.self.inside.forced
    c.checkpoint.ensures.system c.checkpoint.ensures.stays c.checkpoint.ensures.any_moment c.checkpoint.ensures.texts c.checkpoint.ensures.counts c.checkpoint.ensures.writes c.in-Err.fault c.in-Err.ensures.cause (ap (λ (v : LoggedState _). v.served) c.self.view_is ∙ c.requires.served))
