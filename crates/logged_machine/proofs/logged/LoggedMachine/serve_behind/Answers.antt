-- behind a checkpoint
use Rattle.std.proofs.Common.{◌∙◌, sym, ap, subst, List, ℕ}
use Rattle.journal.specs.UnspentCounts.{AreUnspent}
use Rattle.logged_machine.specs.LoggedParts.{IsLogged}
use Rattle.logged_machine.specs.LoggedState.{LoggedState}
use Rattle.logged_machine.proofs.DueAnswered.{behind_call, done_by, pending_behind}
use Rattle.logged_machine.proofs.DueCalls.{done_refused, pending_refused}
use Rattle.logged_machine.proofs.logged.LoggedMachine.serve_behind.Goals as goal

pub due-done-requires-clause-logged : goal.due-done-requires-clause-logged
due-done-requires-clause-logged g c =
    let p = c.self.invariant (ap (λ (v : LoggedState _). v.served) c.self.view_is ∙ c.requires.served) in
    record {
      text = c.self.inside.text;
      states = p.states;
      is = subst (λ (us : List ℕ). IsLogged c.self.inside.parts us c.self.inside.next_unit c.self.inside.journal c.self.inside.text p.states (g.D.Disk.state c.self.inside.disk)) (sym c.as_slice.ensures.value) p.logged;
    }

pub invariant_of-self-2 : goal.invariant_of-self-2
invariant_of-self-2 g c =
    λ up. pending_behind g.D.Disk.state
    (behind_call g.D.Disk.state (ap (λ (v : LoggedState _). v.served) c.self.view_is ∙ c.requires.served) (c.self.invariant (ap (λ (v : LoggedState _). v.served) c.self.view_is ∙ c.requires.served))
    (subst (λ (v : LoggedState _). AreUnspent v.machine.moment.lasting) (sym c.self.view_is) c.requires.counted.counts)
    c.due-done.ensures.keeps c.due-done.ensures.counts c.due-done.ensures.writes c.as_slice.ensures.value c.in-Ok.ensures.before c.in-Ok.ensures.slots
    (g.C.Call.entry c.args.call.now c.in-Ok.answer) c.note.new.units.items c.note.new.next (g.met.C.Call.of_call c.args.call.now c.in-Ok.answer) (g.met.C.Call.last c.args.call.now) c.requires.within c.in-Ok.ensures.behind c.in-Ok.ensures.does c.note.ensures)
    c.steps-steps.ensures

pub returns : goal.returns
returns g c =
    rw (sym c.self.view_is) (record {
      did = done_by g.D.Disk.state
          (behind_call g.D.Disk.state (ap (λ (v : LoggedState _). v.served) c.self.view_is ∙ c.requires.served) (c.self.invariant (ap (λ (v : LoggedState _). v.served) c.self.view_is ∙ c.requires.served))
          (subst (λ (v : LoggedState _). AreUnspent v.machine.moment.lasting) (sym c.self.view_is) c.requires.counted.counts)
          c.due-done.ensures.keeps c.due-done.ensures.counts c.due-done.ensures.writes c.as_slice.ensures.value c.in-Ok.ensures.before c.in-Ok.ensures.slots
          (g.C.Call.entry c.args.call.now c.in-Ok.answer) c.note.new.units.items c.note.new.next (g.met.C.Call.of_call c.args.call.now c.in-Ok.answer) (g.met.C.Call.last c.args.call.now) c.requires.within c.in-Ok.ensures.behind c.in-Ok.ensures.does c.note.ensures)
          c.steps-steps.ensures;
    })

pub invariant_of-self : goal.invariant_of-self
invariant_of-self g c =
    λ up. pending_refused g.D.Disk.state c.self.inside.parts c.due-done.new.parts c.self.inside.text c.self.inside.journal c.due-done.new.journal c.self.inside.units.items c.self.inside.next_unit c.self.inside.disk c.due-done.new.disk c.self.inside.served c.self.inside.forced
    c.due-done.ensures.keeps c.due-done.ensures.counts c.due-done.ensures.writes c.due-done.ensures.system c.in-Err.fault c.in-Err.ensures.cause (sym c.is_memory-self-inside.ensures ∙ up) (c.self.invariant (ap (λ (v : LoggedState _). v.served) c.self.view_is ∙ c.requires.served))

pub returns-in-Err : goal.returns-in-Err
returns-in-Err g c =
    rw (sym c.self.view_is, c.is_memory-self-inside.ensures, c.fault.ensures) (record {
      did =
          done_refused g.D.Disk.state c.self.inside.parts c.due-done.new.parts c.self.inside.text c.self.inside.journal c.due-done.new.journal c.self.inside.units.items c.self.inside.next_unit c.self.inside.disk c.due-done.new.disk c.self.inside.served c.self.inside.forced
          c.due-done.ensures.keeps c.due-done.ensures.counts c.due-done.ensures.writes c.due-done.ensures.system c.in-Err.fault (g.C.Call.entry c.args.call.now c.fault.result) (ap (λ (v : LoggedState _). v.served) c.self.view_is ∙ c.requires.served) c.in-Err.ensures.cause;
    })
