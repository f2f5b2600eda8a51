-- the control region goes on as its machine does
use Rattle.std.proofs.Common.{◌≡◌, ◌≤◌, ◌+◌, ◌-◌, ◌∙◌, refl, sym, ap, subst, List, arith}
use Rattle.model_machine.specs.declared.entry.Entry.{Entry}
use Rattle.model_machine.specs.declared.entry.Entry.TheVariants.{Accept}
use Rattle.openings.specs.Faults.{fault_in}
use Rattle.tm_control.specs.ControlCalls.{is_noted, noted}
use Rattle.tm_control.specs.ControlOnDisk.{ControlOnDisk}
use Rattle.model_machine.specs.declared.entry.ControlCall.TheVariants.{Input}
use Rattle.tm_control.proofs.Going.{called, forces_by, frugal_too, is_served, lasts_now, pends_served, seen, stays_still, still, still_counts}
use Rattle.tm_control.specs.ControlParts.{HoldsControl}
use Rattle.tm_disk.proofs.States.{at_ok}
use Rattle.tm_control.proofs.Room.{room_kept, room_saved}
use Rattle.tm_control.proofs.control.Control.input.Goals as goal

pub invariant_of-self-2 : goal.invariant_of-self-2
invariant_of-self-2 g c = record {
  holds =
      (called g.D.Disk.state c.self.inside.machine c.serve-answer.new.self c.self.inside.opening c.self.inside.checkpoint c.self.inside.history.items c.note.new.history.items (Accept c.args.terminal.now c.args.number c.args.segments c.serve-answer.result) 0 0 c.self.inside.began c.self.inside.steps c.steps_of-self-inside.result
      (record {
        served = ap (λ (v : ControlOnDisk _). v.up) c.self.view_is ∙ c.requires.up;
        holds = is_served g.D.Disk.state c.self.inside.machine c.self.inside.opening c.self.inside.checkpoint c.self.inside.history.items c.self.inside.steps (ap (λ (v : ControlOnDisk _). v.up) c.self.view_is ∙ c.requires.up) c.self.invariant.holds;
        call = c.requires.some;
        keeps = c.serve-answer.ensures.keeps;
        lasts = c.serve-answer.ensures.lasts;
        disk = g.met.D.Disk.is_disk c.serve-answer.new.self.disk;
        numbers = λ served. tt;
        pends = λ none answered. pends_served g.D.Disk.state c.self.inside.machine c.serve-answer.new.self c.self.inside.opening c.self.inside.checkpoint c.self.inside.history.items c.self.inside.steps
            (is_served g.D.Disk.state c.self.inside.machine c.self.inside.opening c.self.inside.checkpoint c.self.inside.history.items c.self.inside.steps (ap (λ (v : ControlOnDisk _). v.up) c.self.view_is ∙ c.requires.up) c.self.invariant.holds)
            (Accept c.args.terminal.now c.args.number c.args.segments c.serve-answer.result) answered (fault_in (Accept c.args.terminal.now c.args.number c.args.segments c.serve-answer.result)) none c.serve-answer.ensures.pends;
      })
      c.steps_of-self-inside.ensures c.serve-answer.ensures.goes c.serve-answer.ensures.crash
      (subst (λ (e : Entry). c.note.new.history.items ≡ noted (is_noted (fault_in e)) c.self.inside.history.items e) c.input_entry.ensures
      (c.note.ensures.items ∙ ap (λ (es : List Entry). noted (is_noted (fault_in c.input_entry.result)) es c.input_entry.result) c.reserve.ensures.items))).1;
  room = λ served.
      room_kept (seen c.self.inside.machine c.self.inside.opening c.self.inside.checkpoint c.self.inside.history.items (c.self.inside.history.cap - c.self.inside.history.len - 1) c.self.inside.began)
      (seen c.serve-answer.new.self c.self.inside.opening c.self.inside.checkpoint c.note.new.history.items (c.note.new.history.cap - c.note.new.history.len - 1) c.self.inside.began)
      c.self.inside.history.items c.note.new.history.items c.self.inside.history.len c.note.new.history.len c.self.inside.history.cap c.note.new.history.cap
      refl refl c.self.inside.history.ok.0 c.note.new.history.ok.0 (omega (arith, c.reserve.ensures.capacity, c.note.ensures.capacity))
      (fault_in (Accept c.args.terminal.now c.args.number c.args.segments c.serve-answer.result)) (Accept c.args.terminal.now c.args.number c.args.segments c.serve-answer.result)
      (subst (λ (e : Entry). c.note.new.history.items ≡ noted (is_noted (fault_in e)) c.self.inside.history.items e) c.input_entry.ensures
      (c.note.ensures.items ∙ ap (λ (es : List Entry). noted (is_noted (fault_in c.input_entry.result)) es c.input_entry.result) c.reserve.ensures.items))
      (omega (arith, at_ok c.reserve.result (c.reserve.new.self.len + 2 ≤ c.reserve.new.self.cap) (sym c.if-is_err.ensures.value) c.reserve.ensures.ok, c.reserve.ensures.len, c.note.ensures.capacity));
}

pub returns-clause-crash : goal.returns-clause-crash
returns-clause-crash g c = rw (sym c.self.view_is)
    (called g.D.Disk.state c.self.inside.machine c.serve-answer.new.self c.self.inside.opening c.self.inside.checkpoint c.self.inside.history.items c.note.new.history.items (Accept c.args.terminal.now c.args.number c.args.segments c.serve-answer.result) (c.self.inside.history.cap - c.self.inside.history.len - 1) (c.note.new.history.cap - c.note.new.history.len - 1) c.self.inside.began c.self.inside.steps c.steps_of-self-inside.result
    (record {
      served = ap (λ (v : ControlOnDisk _). v.up) c.self.view_is ∙ c.requires.up;
      holds = is_served g.D.Disk.state c.self.inside.machine c.self.inside.opening c.self.inside.checkpoint c.self.inside.history.items c.self.inside.steps (ap (λ (v : ControlOnDisk _). v.up) c.self.view_is ∙ c.requires.up) c.self.invariant.holds;
      call = c.requires.some;
      keeps = c.serve-answer.ensures.keeps;
      lasts = c.serve-answer.ensures.lasts;
      disk = g.met.D.Disk.is_disk c.serve-answer.new.self.disk;
      numbers = λ served. tt;
      pends = λ none answered. pends_served g.D.Disk.state c.self.inside.machine c.serve-answer.new.self c.self.inside.opening c.self.inside.checkpoint c.self.inside.history.items c.self.inside.steps
          (is_served g.D.Disk.state c.self.inside.machine c.self.inside.opening c.self.inside.checkpoint c.self.inside.history.items c.self.inside.steps (ap (λ (v : ControlOnDisk _). v.up) c.self.view_is ∙ c.requires.up) c.self.invariant.holds)
          (Accept c.args.terminal.now c.args.number c.args.segments c.serve-answer.result) answered (fault_in (Accept c.args.terminal.now c.args.number c.args.segments c.serve-answer.result)) none c.serve-answer.ensures.pends;
    })
    c.steps_of-self-inside.ensures c.serve-answer.ensures.goes c.serve-answer.ensures.crash
    (subst (λ (e : Entry). c.note.new.history.items ≡ noted (is_noted (fault_in e)) c.self.inside.history.items e) c.input_entry.ensures
    (c.note.ensures.items ∙ ap (λ (es : List Entry). noted (is_noted (fault_in c.input_entry.result)) es c.input_entry.result) c.reserve.ensures.items))).0.crash

pub returns-clause-adds : goal.returns-clause-adds
returns-clause-adds g c = rw (sym c.self.view_is)
    (called g.D.Disk.state c.self.inside.machine c.serve-answer.new.self c.self.inside.opening c.self.inside.checkpoint c.self.inside.history.items c.note.new.history.items (Accept c.args.terminal.now c.args.number c.args.segments c.serve-answer.result) (c.self.inside.history.cap - c.self.inside.history.len - 1) (c.note.new.history.cap - c.note.new.history.len - 1) c.self.inside.began c.self.inside.steps c.steps_of-self-inside.result
    (record {
      served = ap (λ (v : ControlOnDisk _). v.up) c.self.view_is ∙ c.requires.up;
      holds = is_served g.D.Disk.state c.self.inside.machine c.self.inside.opening c.self.inside.checkpoint c.self.inside.history.items c.self.inside.steps (ap (λ (v : ControlOnDisk _). v.up) c.self.view_is ∙ c.requires.up) c.self.invariant.holds;
      call = c.requires.some;
      keeps = c.serve-answer.ensures.keeps;
      lasts = c.serve-answer.ensures.lasts;
      disk = g.met.D.Disk.is_disk c.serve-answer.new.self.disk;
      numbers = λ served. tt;
      pends = λ none answered. pends_served g.D.Disk.state c.self.inside.machine c.serve-answer.new.self c.self.inside.opening c.self.inside.checkpoint c.self.inside.history.items c.self.inside.steps
          (is_served g.D.Disk.state c.self.inside.machine c.self.inside.opening c.self.inside.checkpoint c.self.inside.history.items c.self.inside.steps (ap (λ (v : ControlOnDisk _). v.up) c.self.view_is ∙ c.requires.up) c.self.invariant.holds)
          (Accept c.args.terminal.now c.args.number c.args.segments c.serve-answer.result) answered (fault_in (Accept c.args.terminal.now c.args.number c.args.segments c.serve-answer.result)) none c.serve-answer.ensures.pends;
    })
    c.steps_of-self-inside.ensures c.serve-answer.ensures.goes c.serve-answer.ensures.crash
    (subst (λ (e : Entry). c.note.new.history.items ≡ noted (is_noted (fault_in e)) c.self.inside.history.items e) c.input_entry.ensures
    (c.note.ensures.items ∙ ap (λ (es : List Entry). noted (is_noted (fault_in c.input_entry.result)) es c.input_entry.result) c.reserve.ensures.items))).0.adds

pub returns-clause-nothing : goal.returns-clause-nothing
returns-clause-nothing g c = rw (sym c.self.view_is)
    (called g.D.Disk.state c.self.inside.machine c.serve-answer.new.self c.self.inside.opening c.self.inside.checkpoint c.self.inside.history.items c.note.new.history.items (Accept c.args.terminal.now c.args.number c.args.segments c.serve-answer.result) (c.self.inside.history.cap - c.self.inside.history.len - 1) (c.note.new.history.cap - c.note.new.history.len - 1) c.self.inside.began c.self.inside.steps c.steps_of-self-inside.result
    (record {
      served = ap (λ (v : ControlOnDisk _). v.up) c.self.view_is ∙ c.requires.up;
      holds = is_served g.D.Disk.state c.self.inside.machine c.self.inside.opening c.self.inside.checkpoint c.self.inside.history.items c.self.inside.steps (ap (λ (v : ControlOnDisk _). v.up) c.self.view_is ∙ c.requires.up) c.self.invariant.holds;
      call = c.requires.some;
      keeps = c.serve-answer.ensures.keeps;
      lasts = c.serve-answer.ensures.lasts;
      disk = g.met.D.Disk.is_disk c.serve-answer.new.self.disk;
      numbers = λ served. tt;
      pends = λ none answered. pends_served g.D.Disk.state c.self.inside.machine c.serve-answer.new.self c.self.inside.opening c.self.inside.checkpoint c.self.inside.history.items c.self.inside.steps
          (is_served g.D.Disk.state c.self.inside.machine c.self.inside.opening c.self.inside.checkpoint c.self.inside.history.items c.self.inside.steps (ap (λ (v : ControlOnDisk _). v.up) c.self.view_is ∙ c.requires.up) c.self.invariant.holds)
          (Accept c.args.terminal.now c.args.number c.args.segments c.serve-answer.result) answered (fault_in (Accept c.args.terminal.now c.args.number c.args.segments c.serve-answer.result)) none c.serve-answer.ensures.pends;
    })
    c.steps_of-self-inside.ensures c.serve-answer.ensures.goes c.serve-answer.ensures.crash
    (subst (λ (e : Entry). c.note.new.history.items ≡ noted (is_noted (fault_in e)) c.self.inside.history.items e) c.input_entry.ensures
    (c.note.ensures.items ∙ ap (λ (es : List Entry). noted (is_noted (fault_in c.input_entry.result)) es c.input_entry.result) c.reserve.ensures.items))).0.nothing

pub returns-clause-forced : goal.returns-clause-forced
returns-clause-forced g c = rw (sym c.self.view_is)
    (forces_by g.D.Disk.state c.self.inside.machine c.serve-answer.new.self c.self.inside.opening c.self.inside.checkpoint c.self.inside.history.items c.note.new.history.items (Accept c.args.terminal.now c.args.number c.args.segments c.serve-answer.result) (c.self.inside.history.cap - c.self.inside.history.len - 1) (c.note.new.history.cap - c.note.new.history.len - 1) c.self.inside.began c.self.inside.steps
    (is_served g.D.Disk.state c.self.inside.machine c.self.inside.opening c.self.inside.checkpoint c.self.inside.history.items c.self.inside.steps (ap (λ (v : ControlOnDisk _). v.up) c.self.view_is ∙ c.requires.up) c.self.invariant.holds)
    (fault_in (Accept c.args.terminal.now c.args.number c.args.segments c.serve-answer.result)) c.serve-answer.ensures.goes c.serve-answer.ensures.pends)

pub returns-clause-undone : goal.returns-clause-undone
returns-clause-undone g c = rw (sym c.self.view_is)
    (called g.D.Disk.state c.self.inside.machine c.serve-answer.new.self c.self.inside.opening c.self.inside.checkpoint c.self.inside.history.items c.note.new.history.items (Accept c.args.terminal.now c.args.number c.args.segments c.serve-answer.result) _ _ c.self.inside.began c.self.inside.steps c.steps_of-self-inside.result
    (record {
      served = ap (λ (v : ControlOnDisk _). v.up) c.self.view_is ∙ c.requires.up;
      holds = is_served g.D.Disk.state c.self.inside.machine c.self.inside.opening c.self.inside.checkpoint c.self.inside.history.items c.self.inside.steps (ap (λ (v : ControlOnDisk _). v.up) c.self.view_is ∙ c.requires.up) c.self.invariant.holds;
      call = c.requires.some;
      keeps = c.serve-answer.ensures.keeps;
      lasts = c.serve-answer.ensures.lasts;
      disk = g.met.D.Disk.is_disk c.serve-answer.new.self.disk;
      numbers = λ served. tt;
      pends = λ none answered. pends_served g.D.Disk.state c.self.inside.machine c.serve-answer.new.self c.self.inside.opening c.self.inside.checkpoint c.self.inside.history.items c.self.inside.steps
          (is_served g.D.Disk.state c.self.inside.machine c.self.inside.opening c.self.inside.checkpoint c.self.inside.history.items c.self.inside.steps (ap (λ (v : ControlOnDisk _). v.up) c.self.view_is ∙ c.requires.up) c.self.invariant.holds)
          (Accept c.args.terminal.now c.args.number c.args.segments c.serve-answer.result) answered (fault_in (Accept c.args.terminal.now c.args.number c.args.segments c.serve-answer.result)) none c.serve-answer.ensures.pends;
    })
    c.steps_of-self-inside.ensures c.serve-answer.ensures.goes c.serve-answer.ensures.crash
    (subst (λ (e : Entry). c.note.new.history.items ≡ noted (is_noted (fault_in e)) c.self.inside.history.items e) c.input_entry.ensures
    (c.note.ensures.items ∙ ap (λ (es : List Entry). noted (is_noted (fault_in c.input_entry.result)) es c.input_entry.result) c.reserve.ensures.items))).0.undone

pub returns-clause-room : goal.returns-clause-room
returns-clause-room g c = rw (sym c.self.view_is)
    (room_saved (seen c.self.inside.machine c.self.inside.opening c.self.inside.checkpoint c.self.inside.history.items (c.self.inside.history.cap - c.self.inside.history.len - 1) c.self.inside.began)
    (seen c.serve-answer.new.self c.self.inside.opening c.self.inside.checkpoint c.note.new.history.items (c.note.new.history.cap - c.note.new.history.len - 1) c.self.inside.began)
    c.self.inside.history.items c.note.new.history.items c.self.inside.history.len c.note.new.history.len c.self.inside.history.cap c.note.new.history.cap
    refl refl c.self.inside.history.ok.0 c.note.new.history.ok.0 (omega (arith, c.reserve.ensures.capacity, c.note.ensures.capacity))
    (fault_in (Accept c.args.terminal.now c.args.number c.args.segments c.serve-answer.result)) (Accept c.args.terminal.now c.args.number c.args.segments c.serve-answer.result)
    (subst (λ (e : Entry). c.note.new.history.items ≡ noted (is_noted (fault_in e)) c.self.inside.history.items e) c.input_entry.ensures
    (c.note.ensures.items ∙ ap (λ (es : List Entry). noted (is_noted (fault_in c.input_entry.result)) es c.input_entry.result) c.reserve.ensures.items)))

pub returns-clause-lasts : goal.returns-clause-lasts
returns-clause-lasts g c =
    (called g.D.Disk.state c.self.inside.machine c.serve-answer.new.self c.self.inside.opening c.self.inside.checkpoint c.self.inside.history.items c.note.new.history.items (Accept c.args.terminal.now c.args.number c.args.segments c.serve-answer.result) 0 _ c.self.inside.began c.self.inside.steps c.steps_of-self-inside.result
    (record {
      served = ap (λ (v : ControlOnDisk _). v.up) c.self.view_is ∙ c.requires.up;
      holds = is_served g.D.Disk.state c.self.inside.machine c.self.inside.opening c.self.inside.checkpoint c.self.inside.history.items c.self.inside.steps (ap (λ (v : ControlOnDisk _). v.up) c.self.view_is ∙ c.requires.up) c.self.invariant.holds;
      call = c.requires.some;
      keeps = c.serve-answer.ensures.keeps;
      lasts = c.serve-answer.ensures.lasts;
      disk = g.met.D.Disk.is_disk c.serve-answer.new.self.disk;
      numbers = λ served. tt;
      pends = λ none answered. pends_served g.D.Disk.state c.self.inside.machine c.serve-answer.new.self c.self.inside.opening c.self.inside.checkpoint c.self.inside.history.items c.self.inside.steps
          (is_served g.D.Disk.state c.self.inside.machine c.self.inside.opening c.self.inside.checkpoint c.self.inside.history.items c.self.inside.steps (ap (λ (v : ControlOnDisk _). v.up) c.self.view_is ∙ c.requires.up) c.self.invariant.holds)
          (Accept c.args.terminal.now c.args.number c.args.segments c.serve-answer.result) answered (fault_in (Accept c.args.terminal.now c.args.number c.args.segments c.serve-answer.result)) none c.serve-answer.ensures.pends;
    })
    c.steps_of-self-inside.ensures c.serve-answer.ensures.goes c.serve-answer.ensures.crash
    (subst (λ (e : Entry). c.note.new.history.items ≡ noted (is_noted (fault_in e)) c.self.inside.history.items e) c.input_entry.ensures
    (c.note.ensures.items ∙ ap (λ (es : List Entry). noted (is_noted (fault_in c.input_entry.result)) es c.input_entry.result) c.reserve.ensures.items))).0.lasts

pub returns-clause-frugal : goal.returns-clause-frugal
returns-clause-frugal g c = rw (sym c.self.view_is)
    (frugal_too g.D.Disk.state c.self.inside.machine c.self.inside.opening c.self.inside.checkpoint c.self.inside.history.items 0 c.self.inside.began c.self.inside.steps
    (is_served g.D.Disk.state c.self.inside.machine c.self.inside.opening c.self.inside.checkpoint c.self.inside.history.items c.self.inside.steps (ap (λ (v : ControlOnDisk _). v.up) c.self.view_is ∙ c.requires.up) c.self.invariant.holds)
    (fault_in (Accept c.args.terminal.now c.args.number c.args.segments c.serve-answer.result)) (Input c.args.terminal.now c.args.number c.args.segments) c.serve-answer.new.self.journal c.serve-answer.new.self.disk c.serve-answer.ensures.frugal)

pub returns-clause-raises : goal.returns-clause-raises
returns-clause-raises g c = rw (sym c.self.view_is) c.serve-answer.ensures.raises

pub returns-clause-counts : goal.returns-clause-counts
returns-clause-counts g c = rw (sym c.self.view_is) c.serve-answer.ensures.counts

pub returns-in-Some-clause-counts : goal.returns-in-Some-clause-counts
returns-in-Some-clause-counts g c = rw (sym c.self.view_is)
    (still_counts g.D.Disk.state c.self.inside.machine c.self.inside.opening c.self.inside.checkpoint c.self.inside.history.items 0 0 c.self.inside.began (ap (λ (v : ControlOnDisk _). v.up) c.self.view_is ∙ c.requires.up) c.spent.ensures.lasts (g.met.D.Disk.is_disk c.self.inside.machine.disk))

pub returns-then-is_err-clause-counts : goal.returns-then-is_err-clause-counts
returns-then-is_err-clause-counts g c = rw (sym c.self.view_is)
    (still_counts g.D.Disk.state c.self.inside.machine c.self.inside.opening c.self.inside.checkpoint c.self.inside.history.items 0 0 c.self.inside.began (ap (λ (v : ControlOnDisk _). v.up) c.self.view_is ∙ c.requires.up) c.spent.ensures.lasts (g.met.D.Disk.is_disk c.self.inside.machine.disk))

pub returns-in-Some-clause-crash : goal.returns-in-Some-clause-crash
returns-in-Some-clause-crash g c = rw (sym c.self.view_is)
    (still g.D.Disk.state c.self.inside.machine c.self.inside.opening c.self.inside.checkpoint c.self.inside.history.items 0 0 c.self.inside.began c.self.inside.steps (ap (λ (v : ControlOnDisk _). v.up) c.self.view_is ∙ c.requires.up) c.self.invariant.holds c.spent.ensures.lasts (g.met.D.Disk.is_disk c.self.inside.machine.disk))

pub returns-in-Some-clause-lasts : goal.returns-in-Some-clause-lasts
returns-in-Some-clause-lasts g c = rw (sym c.self.view_is)
    (lasts_now g.D.Disk.state c.self.inside.machine c.self.inside.opening c.self.inside.checkpoint c.self.inside.history.items _ c.self.inside.began c.self.inside.steps c.self.invariant.holds c.spent.ensures.lasts)

pub returns-then-is_err-clause-crash : goal.returns-then-is_err-clause-crash
returns-then-is_err-clause-crash g c = rw (sym c.self.view_is)
    (still g.D.Disk.state c.self.inside.machine c.self.inside.opening c.self.inside.checkpoint c.self.inside.history.items 0 0 c.self.inside.began c.self.inside.steps (ap (λ (v : ControlOnDisk _). v.up) c.self.view_is ∙ c.requires.up) c.self.invariant.holds c.spent.ensures.lasts (g.met.D.Disk.is_disk c.self.inside.machine.disk))

pub returns-then-is_err-clause-lasts : goal.returns-then-is_err-clause-lasts
returns-then-is_err-clause-lasts g c =
    lasts_now g.D.Disk.state c.self.inside.machine c.self.inside.opening c.self.inside.checkpoint c.reserve.new.self.items _ c.self.inside.began c.self.inside.steps
    (subst (λ (es : List Entry). HoldsControl g.D.Disk.state c.self.inside.machine c.self.inside.opening c.self.inside.checkpoint es c.self.inside.steps) (sym c.reserve.ensures.items) c.self.invariant.holds) c.spent.ensures.lasts

pub returns-then-is_err-clause-stays : goal.returns-then-is_err-clause-stays
returns-then-is_err-clause-stays g c = rw (sym c.self.view_is) (stays_still g.D.Disk.state c.self.inside.machine c.self.inside.opening c.self.inside.checkpoint c.self.inside.history.items c.reserve.new.self.items (c.self.inside.history.cap - c.self.inside.history.len - 1) (c.reserve.new.self.cap - c.reserve.new.self.len - 1) c.self.inside.began)
