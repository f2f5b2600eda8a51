use Rattle.std.proofs.Common.{sym, subst, arith, List, ℕ, ◌+◌}
use Rattle.tm_disk.specs.Disk.{Within}
use Rattle.restart_data.specs.declared.restart.RestartSector.{RestartSector}
use Rattle.program_rows.specs.SlotsState.{slots_stores}
use Rattle.tm_machine.specs.SlotChanges.{slots_now}
use Rattle.journal.specs.CheckpointFor.{CanCheckpoint, TakesBehindForce, parts_for}
use Rattle.logged_machine.specs.UntakenCheckpoint.{IsSnapshot}
use Rattle.logged_machine.proofs.Taken.{can, within_up_to}
use Rattle.logged_machine.proofs.writing.checkpoint.Goals as goal

pub take-requires : goal.take-requires
take-requires g c = record {
  can =
      subst (λ (b : List ℕ). CanCheckpoint c.args.parts.now.system c.args.journal.now (slots_stores (slots_now c.args.parts.now)) b (g.D.Disk.state c.args.disk.now)) (sym c.as_slice.ensures.value)
      (can c.args.parts.now c.args.units.now c.args.next_unit c.args.journal.now c.requires.logged.text c.requires.logged.states (g.D.Disk.state c.args.disk.now) c.requires.logged.is c.stores-stores.ensures.has c.requires.counted c.in-Ok.bytes.items
      (subst (λ (r : RestartSector). IsSnapshot c.args.parts.now c.args.units.now c.args.next_unit (r.checkpoint + 1) c.in-Ok.bytes.items) c.restart.ensures c.in-Ok.ensures));
}

pub returns-in-Ok-take-clause-counts : goal.returns-in-Ok-take-clause-counts
returns-in-Ok-take-clause-counts g c =
    within_up_to c.args.parts.now c.args.units.now c.args.next_unit c.args.journal.now c.requires.logged.text c.requires.logged.states (g.D.Disk.state c.args.disk.now) c.requires.logged.is c.stores-stores.ensures.has c.requires.counted c.in-Ok.bytes.items
    (subst (λ (r : RestartSector). IsSnapshot c.args.parts.now c.args.units.now c.args.next_unit (r.checkpoint + 1) c.in-Ok.bytes.items) c.restart.ensures c.in-Ok.ensures) (omega (arith, c.stores-stores.ensures.has.defined.least_logs)) (g.D.Disk.state c.take.new.disk)
    (subst (λ (b : List ℕ). Within (TakesBehindForce (parts_for c.args.parts.now.system c.args.journal.now.restart b) c.args.journal.now.log (slots_stores (slots_now c.args.parts.now))) (g.D.Disk.state c.args.disk.now) (g.D.Disk.state c.take.new.disk)) c.as_slice.ensures.value c.take.ensures.steps)

pub returns-clause-counts : goal.returns-clause-counts
returns-clause-counts g c =
    within_up_to c.args.parts.now c.args.units.now c.args.next_unit c.args.journal.now c.requires.logged.text c.requires.logged.states (g.D.Disk.state c.args.disk.now) c.requires.logged.is c.stores-stores.ensures.has c.requires.counted c.in-Ok.bytes.items
    (subst (λ (r : RestartSector). IsSnapshot c.args.parts.now c.args.units.now c.args.next_unit (r.checkpoint + 1) c.in-Ok.bytes.items) c.restart.ensures c.in-Ok.ensures) (omega (arith, c.stores-stores.ensures.has.defined.least_logs)) (g.D.Disk.state c.take.new.disk)
    (subst (λ (b : List ℕ). Within (TakesBehindForce (parts_for c.args.parts.now.system c.args.journal.now.restart b) c.args.journal.now.log (slots_stores (slots_now c.args.parts.now))) (g.D.Disk.state c.args.disk.now) (g.D.Disk.state c.take.new.disk)) c.as_slice.ensures.value c.take.ensures.steps)

pub returns-in-Ok-take-clause-takes : goal.returns-in-Ok-take-clause-takes
returns-in-Ok-take-clause-takes g c = record { bytes = c.as_slice.result.now; restart = c.in-Ok-take.ensures.restart; log = c.in-Ok-take.ensures.log }
