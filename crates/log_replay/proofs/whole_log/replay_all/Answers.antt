use Rattle.std.proofs.Common.{◌≡◌, List, [], ◌∷◌, Some, length, sym, subst, ap, ◌∙◌, arith}
use Rattle.std.specs.Vec.Iter.{into_iter_items}
use Rattle.log_records.specs.declared.record.Record.{Record}
use Rattle.model_image.specs.Replay.{replay_of, replay_one}
use Rattle.image_records.specs.KeptState.{KeptState}
use Rattle.log_replay.specs.ReplayRules.{lasting_in}
use Rattle.log_replay.specs.WorkState.{WorkState, ReplayComesTo}
use Rattle.log_replay.specs.ReplayedLog.{ReplayEnds}
use Rattle.log_replay.proofs.Done.{IsOn, begins, ends, goes_on, stops, nothing_left}
use Rattle.log_replay.proofs.whole_log.replay_all.Goals as goal

pub loop-r-init : goal.loop-r-init
loop-r-init c = (
  subst (λ (rest : List Record). IsOn c.args.system.now c.args.kept c.args.records.items rest c.in_ok-working.working) (sym c.into_iter-r-iterator.ensures.into_iter_gives.0)
      (begins c.args.system.now c.args.kept c.args.records.items c.in_ok-working.working c.requires c.in_ok-working.ensures.kept c.in_ok-working.ensures.units
      c.in_ok-working.ensures.counts c.in_ok-working.ensures.faults),
  let lengths = c.into_iter-r-iterator.ensures.into_iter_gives.1 in
      let items = ap (λ (xs : List Record). length xs) c.into_iter-r-iterator.ensures.into_iter_gives.0 in
      omega arith,
)

pub loop-r-preserved : goal.loop-r-preserved
loop-r-preserved c =
    let steps : into_iter_items c.loop-r.r-iterator ≡ c.in-Some.r ∷ into_iter_items c.next.new.self = c.in-Some.ensures.steps.0 in
    let on : IsOn c.args.system.now c.args.kept c.args.records.items (c.in-Some.r ∷ into_iter_items c.next.new.self) c.loop-r.working =
    subst (λ (rest : List Record). IsOn c.args.system.now c.args.kept c.args.records.items rest c.loop-r.working) steps c.loop-r.invariant.0 in (
      goes_on c.args.system.now c.args.kept c.args.records.items (into_iter_items c.next.new.self) c.in-Some.r c.loop-r.working c.in-Some-2.next on
          (subst (ReplayComesTo c.args.system.now (replay_one c.args.system.now c.in-Some.r on.replay)) c.in-Some-2.is (c.in_ok-next.ensures on.replay on.at)),
      let was = c.loop-r.invariant.1 in
          let gone = c.in-Some.ensures.steps.1 in
          let short = ap (λ (xs : List Record). length xs) steps in
          omega arith,
    )

pub returns-in-None-2 : goal.returns-in-None-2
returns-in-None-2 c =
    let steps : into_iter_items c.loop-r.r-iterator ≡ c.in-Some.r ∷ into_iter_items c.next.new.self = c.in-Some.ensures.steps.0 in
    let on : IsOn c.args.system.now c.args.kept c.args.records.items (c.in-Some.r ∷ into_iter_items c.next.new.self) c.loop-r.working =
    subst (λ (rest : List Record). IsOn c.args.system.now c.args.kept c.args.records.items rest c.loop-r.working) steps c.loop-r.invariant.0 in
    stops c.args.system.now c.args.kept c.args.records.items (into_iter_items c.next.new.self) c.in-Some.r c.loop-r.working c.loop-r.working on
    (subst (ReplayComesTo c.args.system.now (replay_one c.args.system.now c.in-Some.r on.replay)) c.in-None-2.is (c.in_ok-next.ensures on.replay on.at))

pub returns : goal.returns
returns c =
    let none : into_iter_items c.loop-r.r-iterator ≡ [] = nothing_left _ (sym c.loop-r.invariant.1 ∙ c.in-None.ensures.steps.0) in
    subst (λ (k : KeptState). ReplayEnds c.args.system.now (replay_of c.args.system.now c.args.records.items (lasting_in c.args.system.now c.args.kept)) (Some k)) (sym (ap (λ (w : WorkState). w.kept) c.working.view_is))
    (ends c.args.system.now c.args.kept c.args.records.items c.loop-r.working
    (subst (λ (rest : List Record). IsOn c.args.system.now c.args.kept c.args.records.items rest c.loop-r.working) none c.loop-r.invariant.0))
