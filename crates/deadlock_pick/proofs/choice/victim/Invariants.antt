use Rattle.std.proofs.Common.{◌≡◌, drop}
use Rattle.std.specs.Prelude.{fold}
use Rattle.model_data.specs.Cycle.{gives_way}
use Rattle.deadlock_pick.specs.Weights.{IsWeighed}
use Rattle.deadlock_pick.proofs.choice.victim.Given as goal

abbrev pub invariant-loop-region : goal.invariant-loop-region
invariant-loop-region l = record {
  ahead : fold (gives_way l.weights) l.victim (drop l.region-index l.region-items) ≡ fold (gives_way l.weights) l.initial.victim l.initial.region-items;
  weighed : IsWeighed l.weights l.victim;
}
