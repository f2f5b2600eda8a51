use Rattle.std.proofs.Common.{◌≡◌, ◌+◌, ◌-◌, ◌++◌, ◌∷◌, [], length, sym, ap, subst, ◌∙◌, arith, length-append}
use Rattle.std.specs.Prelude.{None, slice_set}
use Rattle.std.proofs.lemmas.List.{append-nil}
use Rattle.model_data.specs.Cycle.{Breaks}
use Rattle.model_machine.specs.Machine.{busy_slots}
use Rattle.tm_machine.specs.SlotChanges.{slots_now, VictimsGiveUp}
use Rattle.tm_machine.specs.Victims.{all_gave_way, gave_way}
use Rattle.tm_machine.proofs.Slotting.{gives_more}
use Rattle.tm_machine.proofs.Breaking.{breaks_on, busy_less, gave_more}
use Rattle.tm_machine.proofs.parts.Parts.break_rings.Goals as goal

pub push-requires : goal.push-requires
push-requires c =
    let less = busy_less c.loop-victim.self.moment.slots (c.in-Some.victim.region - 1) c.in-Some.ensures.busy in
    omega (arith, less, c.loop-victim.invariant.few)

pub loop-victim-smaller : goal.loop-victim-smaller
loop-victim-smaller c =
    let less = busy_less c.loop-victim.self.moment.slots (c.in-Some.victim.region - 1) c.in-Some.ensures.busy in
    let now : busy_slots c.give_way.new.self.moment.slots ≡ busy_slots (slice_set c.loop-victim.self.moment.slots (c.in-Some.victim.region - 1) None) =
    ap (λ m. busy_slots m.slots) c.give_way.ensures.moment in
    omega (arith, less, now)

pub loop-victim-preserved : goal.loop-victim-preserved
loop-victim-preserved c =
    let less = busy_less c.loop-victim.self.moment.slots (c.in-Some.victim.region - 1) c.in-Some.ensures.busy in
    let now : busy_slots c.give_way.new.self.moment.slots ≡ busy_slots (slice_set c.loop-victim.self.moment.slots (c.in-Some.victim.region - 1) None) =
    ap (λ m. busy_slots m.slots) c.give_way.ensures.moment in
    let longer : length c.push.new.self ≡ length c.loop-victim.victims + 1 = ap length c.push.ensures ∙ length-append c.loop-victim.victims (c.in-Some.victim ∷ []) in
    record {
      system = c.give_way.ensures.system ∙ c.loop-victim.invariant.system;
      moment =
          c.give_way.ensures.moment
          ∙ ap (λ s. gave_way s c.loop-victim.self.moment c.in-Some.victim.region) c.loop-victim.invariant.system
          ∙ ap (λ m. gave_way c.args.self.now.system m c.in-Some.victim.region) c.loop-victim.invariant.moment
          ∙ sym (gave_more c.args.self.now.system c.args.self.now.moment c.loop-victim.victims c.in-Some.victim)
          ∙ ap (all_gave_way c.args.self.now.system c.args.self.now.moment) (sym c.push.ensures);
      slots = subst (λ vs. VictimsGiveUp c.args.self.now vs (slots_now c.args.self.now) (slots_now c.give_way.new.self)) (sym c.push.ensures)
          (gives_more c.args.self.now c.loop-victim.self c.give_way.new.self c.loop-victim.victims c.in-Some.victim c.loop-victim.invariant.system c.give_way.ensures.system c.loop-victim.invariant.moment
          c.loop-victim.invariant.slots c.in-Some.ensures.there.0 c.in-Some.ensures.busy c.give_way.ensures.slots c.give_way.ensures.have);
      right = λ more h. subst (λ vs. Breaks c.changes-changes.result c.args.region c.args.self.now.moment.enqueues (vs ++ more)) (sym c.push.ensures)
          (breaks_on c.changes-changes.result c.args.region c.args.self.now.moment.enqueues c.loop-victim.self.moment.enqueues c.give_way.new.self.moment.enqueues
          c.loop-victim.victims c.in-Some.victim c.loop-victim.invariant.right (ap (λ m. m.enqueues) c.give_way.ensures.moment)
          (λ rest g. (c.in-Some.ensures.ring, c.in-Some.ensures.chosen, g)) more h);
      few = omega (arith, less, now, longer, c.loop-victim.invariant.few);
    }

pub returns-clause-slots : goal.returns-clause-slots
returns-clause-slots c = c.loop-victim.invariant.slots

pub returns-clause-breaks : goal.returns-clause-breaks
returns-clause-breaks c = record {
  right = subst (λ changes. Breaks changes c.args.region c.args.self.now.moment.enqueues c.loop-victim.victims) c.changes-changes.ensures.value
      (subst (Breaks c.changes-changes.result c.args.region c.args.self.now.moment.enqueues) (append-nil c.loop-victim.victims)
      (c.loop-victim.invariant.right [] (rw c.in_default.is at c.next_victim.ensures)));
  moment = c.loop-victim.invariant.moment;
  system = c.loop-victim.invariant.system;
}
