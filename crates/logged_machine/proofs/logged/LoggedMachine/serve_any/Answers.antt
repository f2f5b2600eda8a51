-- a first attempt, and one behind a checkpoint
use Rattle.std.proofs.Common.{◌<◌, ◌≤◌, length, refl, sym, subst}
use Rattle.std.specs.Prelude.{Option}
use Rattle.model_machine.specs.History.{IsCall}
use Rattle.model_machine.specs.declared.entry.ControlCall.{ControlCall}
use Rattle.model_machine.specs.declared.entry.ControlFault.{ControlFault}
use Rattle.openings.specs.Faults.{fault_in}
use Rattle.logged_machine.specs.ToldCalls.{own_bytes}
use Rattle.logged_machine.specs.RecordsBehindLog.{IsAllBut, StayFree}
use Rattle.logged_machine.specs.Attempts.{DoneFrugally}
use Rattle.logged_machine.specs.LoggedState.{LoggedState}
use Rattle.logged_machine.proofs.Checkpointed.{counted_same, served_same}
use Rattle.logged_machine.proofs.Frugality.{done_due, done_nothing, done_once, longer}
use Rattle.logged_machine.proofs.logged.LoggedMachine.serve_any.Goals as goal

pub serve_behind-requires-clause-call : goal.serve_behind-requires-clause-call
serve_behind-requires-clause-call g c = subst (λ (l : LoggedState _). IsCall l.machine.system (g.C.Call.call c.args.call.now)) (sym c.in-Err-Full.ensures.same) c.requires.call

pub serve_behind-requires-clause-served : goal.serve_behind-requires-clause-served
serve_behind-requires-clause-served g c = served_same c.args.self.now c.serve_once.new.self c.in-Err-Full.ensures.same c.requires.served

pub serve_behind-requires-clause-counted : goal.serve_behind-requires-clause-counted
serve_behind-requires-clause-counted g c = counted_same 0 c.args.self.now c.serve_once.new.self c.in-Err-Full.ensures.same c.requires.counted

pub returns-in-Ok : goal.returns-in-Ok
returns-in-Ok g c = record {
  did =
      done_once g.D.Disk.state c.args.self.now c.serve_once.new.self (g.C.Call.entry c.args.call.now c.in-Ok.answer) c.room_left-room.result
      (subst (λ (v : LoggedState _). StayFree c.room_left-room.result v.journal.log) c.self.view_is c.room_left-room.ensures.kept)
      (subst (λ (call : ControlCall). length (own_bytes c.args.self.now.machine c.args.self.now.units call) ≤ c.room_left-room.result) (sym (g.met.C.Call.of_call c.args.call.now c.in-Ok.answer)) c.in-Ok.ensures.fits) c.in-Ok.ensures.did;
}

pub returns-in-Err-Memory : goal.returns-in-Err-Memory
returns-in-Err-Memory g c = record {
  did =
      subst (λ (f : Option ControlFault). DoneFrugally g.D.Disk.state f c.args.self.now c.serve_once.new.self (g.C.Call.entry c.args.call.now c.fault-in-Err-Memory.result)) (sym c.fault-in-Err-Memory.ensures)
      (done_nothing g.D.Disk.state c.args.self.now c.serve_once.new.self (g.C.Call.entry c.args.call.now c.fault-in-Err-Memory.result) c.in-Err-Memory.ensures.same c.requires.served);
}

pub returns-in-Err-Full : goal.returns-in-Err-Full
returns-in-Err-Full g c = record {
  did =
      done_due g.D.Disk.state (fault_in (g.C.Call.entry c.args.call.now c.serve_behind.result)) c.args.self.now c.serve_once.new.self c.serve_behind.new.self
      (g.C.Call.entry c.args.call.now c.serve_behind.result) c.room_left-room.result c.in-Err-Full.ensures.same
      (subst (λ (v : LoggedState _). IsAllBut c.room_left-room.result v.journal.log) c.self.view_is c.room_left-room.ensures.all)
      (subst (λ (call : ControlCall). c.room_left-room.result < length (own_bytes c.args.self.now.machine c.args.self.now.units call)) (sym (g.met.C.Call.of_call c.args.call.now c.serve_behind.result))
      (longer _ c.in-Err-Full.field-0 c.in-Err-Full.field-0-is c.in-Err-Full.ensures.full)) c.serve_behind.ensures.did;
}

pub returns-then-not-is_within : goal.returns-then-not-is_within
returns-then-not-is_within g c = record {
  did =
      subst (λ (f : Option ControlFault). DoneFrugally g.D.Disk.state f c.args.self.now c.args.self.now (g.C.Call.entry c.args.call.now c.fault.result)) (sym c.fault.ensures)
      (done_nothing g.D.Disk.state c.args.self.now c.args.self.now (g.C.Call.entry c.args.call.now c.fault.result) refl c.requires.served);
}
