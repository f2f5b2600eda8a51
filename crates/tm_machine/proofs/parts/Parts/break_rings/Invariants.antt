use Rattle.std.proofs.Common.{◌≡◌, ◌+◌, ◌≤◌, ◌++◌, List, length}
use Rattle.model_data.specs.declared.victim.Victim.{Victim}
use Rattle.model_data.specs.Cycle.{Breaks}
use Rattle.model_machine.specs.Machine.{busy_slots}
use Rattle.tm_machine.specs.SlotChanges.{slots_now, VictimsGiveUp}
use Rattle.tm_machine.specs.Victims.{all_gave_way}
use Rattle.tm_machine.proofs.parts.Parts.break_rings.Given as goal

abbrev pub invariant-loop-victim : goal.invariant-loop-victim
invariant-loop-victim l = record {
  system : l.self.system ≡ l.initial.self.system;
  moment : l.self.moment ≡ all_gave_way l.initial.self.system l.initial.self.moment l.victims;
  slots : VictimsGiveUp l.initial.self l.victims (slots_now l.initial.self) (slots_now l.self);
  right : (more : List Victim) → Breaks l.changes l.region l.self.moment.enqueues more → Breaks l.changes l.region l.initial.self.moment.enqueues (l.victims ++ more);
  few : length l.victims + busy_slots l.self.moment.slots ≤ 8;
}

abbrev pub decreases-loop-victim : goal.decreases-loop-victim
decreases-loop-victim l = busy_slots l.self.moment.slots
