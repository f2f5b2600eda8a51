use Rattle.std.proofs.Common.{◌≡◌, ◌+◌, ◌*◌, ◌≤◌, ◌++◌, ◌∷◌, take}
use Rattle.std.specs.Prelude.{decimal}
use Rattle.std.specs.List.{flat_map}
use Rattle.session_text.proofs.isolation.add_parted.Given as goal

abbrev pub invariant-loop-region : goal.invariant-loop-region
invariant-loop-region l = record {
  text : l.out.text ≡ l.initial.out.text ++ flat_map (λ next. 44 ∷ decimal next) (take l.region-index l.others);
  room : l.initial.out.room ≤ l.out.room + 21 * l.region-index;
}
