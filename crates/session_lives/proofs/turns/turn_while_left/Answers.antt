-- where something is left to do there is a region, which turns next
use Rattle.std.specs.Prelude.{None, Ok, Err}
use Rattle.model_machine.specs.declared.entry.ControlCall.TheVariants.{Turn as TurnCall}
use Rattle.std.proofs.Common.{◌≡◌, ◌+◌, ◌%◌, false, length, ap, sym, ◌∙◌, refl, arith}
use Rattle.model_session.specs.QuietTurns.{region_behind_turns}
use Rattle.session_lives.proofs.Asked.{spent_up, stays_so_on}
use Rattle.session_lives.proofs.Bound.{least_by, most_up}
use Rattle.session_lives.proofs.Counting.{pace_on, pace_turn}
use Rattle.session_lives.proofs.Turned.{turned_next, turned_fails, turns_end, turns_stand}
use Rattle.session_lives.proofs.turns.turn_while_left.Goals as goal

pub returns-then-quiet-clause-turned : goal.returns-then-quiet-clause-turned
returns-then-quiet-clause-turned g c =
    turns_end g.D.Disk.state c.args.most c.loop-turns.turns _ c.args.control.now c.loop-turns.control c.loop-turns.invariant (omega arith) (sym c.quiet.ensures ∙ c.if-quiet.true) (λ e. cc)

pub returns-in-Err-Disk-clause-turned : goal.returns-in-Err-Disk-clause-turned
returns-in-Err-Disk-clause-turned g c =
    let next : (c.loop-turns.turns % length c.regions-regions.result.now) + 1 ≡ region_behind_turns c.loop-turns.control.control.system c.loop-turns.turns =
    ap (λ rs. c.loop-turns.turns % length rs + 1) (c.regions-regions.ensures.value ∙ ap (λ s. s.regions) c.system.ensures) in
    turned_fails g.D.Disk.state c.args.most c.loop-turns.turns c.args.control.now c.loop-turns.control c.turn.new.self _ c.loop-turns.invariant c.loop-turns-test.true
    (sym c.quiet.ensures ∙ c.if-quiet.false) next (rw c.in-Err-Disk.field-0-is at c.in-Err-Disk.ensures.adds) c.in-Err-Disk.ensures.forced

pub returns-in-Err-Memory-clause-turned : goal.returns-in-Err-Memory-clause-turned
returns-in-Err-Memory-clause-turned g c =
    turns_stand g.D.Disk.state c.args.most c.loop-turns.turns c.args.control.now c.loop-turns.control c.turn.new.self c.loop-turns.invariant c.loop-turns-test.true
    (sym c.quiet.ensures ∙ c.if-quiet.false) (rw c.in-Err-Memory.field-0-is at c.in-Err-Memory.ensures.adds) c.in-Err-Memory.ensures.forced

pub returns-in-Err-Spent-clause-turned : goal.returns-in-Err-Spent-clause-turned
returns-in-Err-Spent-clause-turned g c = (
  turns_stand g.D.Disk.state c.args.most c.loop-turns.turns c.args.control.now c.loop-turns.control c.turn.new.self c.loop-turns.invariant c.loop-turns-test.true
      (sym c.quiet.ensures ∙ c.if-quiet.false) (rw c.in-Err-Spent.field-0-is at c.in-Err-Spent.ensures.adds) c.in-Err-Spent.ensures.forced,
  spent_up c.loop-turns.control c.turn.new.self _ (rw c.in-Err-Spent.field-0-is at c.in-Err-Spent.ensures.spent) (rw c.in-Err-Spent.field-0-is at c.in-Err-Spent.ensures.nothing),
)

pub loop-turns-preserved : goal.loop-turns-preserved
loop-turns-preserved g c =
    let next : (c.loop-turns.turns % length c.regions-regions.result.now) + 1 ≡ region_behind_turns c.loop-turns.control.control.system c.loop-turns.turns =
    ap (λ rs. c.loop-turns.turns % length rs + 1) (c.regions-regions.ensures.value ∙ ap (λ s. s.regions) c.system.ensures) in
    turned_next g.D.Disk.state c.loop-turns.turns c.args.control.now c.loop-turns.control c.turn.new.self c.in-Ok.field-0 _ c.loop-turns.invariant
    (sym c.quiet.ensures ∙ c.if-quiet.false) next c.in-Ok.ensures.adds c.turn.ensures.stays
    (pace_turn g.D.Disk.state ((c.loop-turns.turns % length c.regions-regions.result.now) + 1) (Ok c.in-Ok.field-0) c.loop-turns.control c.turn.new.self c.loop-turns.invariant.up (g.met.D.Disk.is_disk c.turn.new.self.disk) c.turn.ensures.stays c.turn.ensures.raises
    c.turn.ensures.counts c.in-Ok.ensures.adds c.in-Ok.ensures.nothing c.in-Ok.ensures.undone)
    (least_by None (TurnCall ((c.loop-turns.turns % length c.regions-regions.result.now) + 1)) c.loop-turns.control c.turn.new.self
    (most_up g.D.Disk.state c.loop-turns.control c.loop-turns.invariant.up c.is_up.ensures.lasts) c.in-Ok.ensures.forced)

pub returns-clause-turned : goal.returns-clause-turned
returns-clause-turned g c =
    let all : c.loop-turns.turns ≡ c.args.most = omega arith in
    turns_end g.D.Disk.state c.args.most c.args.most c.quiet-2.result c.args.control.now c.loop-turns.control
    (rw all at c.loop-turns.invariant) (omega arith) (sym c.quiet-2.ensures) (λ e. refl)

pub returns-in-Err-Disk-clause-pace : goal.returns-in-Err-Disk-clause-pace
returns-in-Err-Disk-clause-pace g c =
    pace_on g.D.Disk.state c.args.control.now c.loop-turns.control c.turn.new.self c.loop-turns.invariant.stays c.loop-turns.invariant.pace
    (pace_turn g.D.Disk.state ((c.loop-turns.turns % length c.regions-regions.result.now) + 1) (Err c.in-Err-Disk.field-0) c.loop-turns.control c.turn.new.self c.loop-turns.invariant.up (g.met.D.Disk.is_disk c.turn.new.self.disk) c.turn.ensures.stays c.turn.ensures.raises
    c.turn.ensures.counts c.in-Err-Disk.ensures.adds c.in-Err-Disk.ensures.nothing c.in-Err-Disk.ensures.undone)

pub returns-in-Err-Memory-clause-pace : goal.returns-in-Err-Memory-clause-pace
returns-in-Err-Memory-clause-pace g c =
    pace_on g.D.Disk.state c.args.control.now c.loop-turns.control c.turn.new.self c.loop-turns.invariant.stays c.loop-turns.invariant.pace
    (pace_turn g.D.Disk.state ((c.loop-turns.turns % length c.regions-regions.result.now) + 1) (Err c.in-Err-Memory.field-0) c.loop-turns.control c.turn.new.self c.loop-turns.invariant.up (g.met.D.Disk.is_disk c.turn.new.self.disk) c.turn.ensures.stays c.turn.ensures.raises
    c.turn.ensures.counts c.in-Err-Memory.ensures.adds c.in-Err-Memory.ensures.nothing c.in-Err-Memory.ensures.undone)

pub returns-in-Err-Spent-clause-pace : goal.returns-in-Err-Spent-clause-pace
returns-in-Err-Spent-clause-pace g c =
    pace_on g.D.Disk.state c.args.control.now c.loop-turns.control c.turn.new.self c.loop-turns.invariant.stays c.loop-turns.invariant.pace
    (pace_turn g.D.Disk.state ((c.loop-turns.turns % length c.regions-regions.result.now) + 1) (Err c.in-Err-Spent.field-0) c.loop-turns.control c.turn.new.self c.loop-turns.invariant.up (g.met.D.Disk.is_disk c.turn.new.self.disk) c.turn.ensures.stays c.turn.ensures.raises
    c.turn.ensures.counts c.in-Err-Spent.ensures.adds c.in-Err-Spent.ensures.nothing c.in-Err-Spent.ensures.undone)

pub returns-in-Err-Disk-clause-stays : goal.returns-in-Err-Disk-clause-stays
returns-in-Err-Disk-clause-stays g c = stays_so_on g.D.Disk.state c.args.control.now c.loop-turns.control c.turn.new.self c.loop-turns.invariant.stays c.turn.ensures.stays
