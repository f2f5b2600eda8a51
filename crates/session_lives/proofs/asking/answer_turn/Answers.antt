-- the line of a turn
use Rattle.std.proofs.Common.{◌≡◌, [], ◌++◌, ◌∙◌, ap, refl, ◌*◌, arith}
use Rattle.std.specs.Prelude.{Ok, Err}
use Rattle.model_machine.specs.declared.entry.Entry.TheVariants.{Turn}
use Rattle.model_session.specs.Text.{turned_text}
use Rattle.model_machine.specs.declared.entry.ControlCall.TheVariants.{Turn as TurnCall}
use Rattle.session_lives.proofs.Asked.{asked_fault}
use Rattle.session_lives.proofs.Bound.{bound_least, least_by, most_up}
use Rattle.model_machine.specs.declared.entry.Entry.{Entry}
use Rattle.openings.specs.Faults.{fault_in}
use Rattle.session_lives.proofs.Counting.{pace_call}
use Rattle.session_lives.proofs.asking.answer_turn.Goals as goal

pub returns-in-Ok-clause-asked : goal.returns-in-Ok-clause-asked
returns-in-Ok-clause-asked g c =
    let system : c.system.result.now ≡ c.args.control.now.control.system = c.system.ensures ∙ c.turn-answer.ensures.stays.system in
    let databases : c.databases.result.now ≡ c.args.control.now.control.system.databases = c.databases.ensures.value ∙ ap (λ s. s.databases) system in
    let empty : c.make_room.new.self.text ≡ [] = c.make_room.ensures.text ∙ c.requires.empty in
    record {
      entry = Turn c.args.region (Ok c.in-Ok.turned);
      asked = refl;
      answered = rw c.in-Ok.is at c.turn-answer.ensures.adds;
      goes_on = refl;
      forced = bound_least c.args.control.now c.turn-answer.new.self
          (least_by (fault_in (Turn c.args.region c.turn-answer.result)) (TurnCall c.args.region) c.args.control.now c.turn-answer.new.self (most_up g.D.Disk.state c.args.control.now c.requires.up c.is_up.ensures.lasts) c.turn-answer.ensures.forced);
      printed = c.turned_line.ensures ∙ ap (λ t. t ++ turned_text c.databases.result.now c.args.region c.in-Ok.turned) empty ∙ ap (λ d. turned_text d c.args.region c.in-Ok.turned) databases;
      told = tt;
    }

pub returns-in-Err-clause-asked : goal.returns-in-Err-clause-asked
returns-in-Err-clause-asked g c =
    asked_fault g.D.Disk.state c.in-Err.fault (Turn c.args.region (Err c.in-Err.fault)) c.args.control.now c.turn-answer.new.self c.make_room.new.self.text c.called.result refl c.called.ensures
    (rw c.in-Err.is at c.turn-answer.ensures.spent) (rw c.in-Err.is at c.turn-answer.ensures.nothing) (rw c.in-Err.is at c.turn-answer.ensures.adds) (rw c.in-Err.is at c.turn-answer.ensures.forced)

pub returns-in-Ok-clause-pace : goal.returns-in-Ok-clause-pace
returns-in-Ok-clause-pace g c =
    let entry : Entry = Turn c.args.region c.turn-answer.result in
    pace_call g.D.Disk.state (2 * c.args.control.now.control.system.logs) (fault_in entry) entry c.args.control.now c.turn-answer.new.self (omega arith) c.requires.up (g.met.D.Disk.is_disk c.turn-answer.new.self.disk) c.turn-answer.ensures.stays
    c.turn-answer.ensures.raises c.turn-answer.ensures.counts c.turn-answer.ensures.adds c.turn-answer.ensures.nothing c.turn-answer.ensures.undone

pub returns-in-Err-clause-pace : goal.returns-in-Err-clause-pace
returns-in-Err-clause-pace g c =
    let entry : Entry = Turn c.args.region c.turn-answer.result in
    pace_call g.D.Disk.state (2 * c.args.control.now.control.system.logs) (fault_in entry) entry c.args.control.now c.turn-answer.new.self (omega arith) c.requires.up (g.met.D.Disk.is_disk c.turn-answer.new.self.disk) c.turn-answer.ensures.stays
    c.turn-answer.ensures.raises c.turn-answer.ensures.counts c.turn-answer.ensures.adds c.turn-answer.ensures.nothing c.turn-answer.ensures.undone
