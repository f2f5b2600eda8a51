use Rattle.std.proofs.Common.{◌≡◌, ◌+◌, ◌*◌, ◌≤◌, ◌++◌, take}
use Rattle.std.specs.List.{flat_map}
use Rattle.model_session.specs.Text.{region_line, victim_text}
use Rattle.session_text.proofs.isolation.add_victims.Given as goal

abbrev pub invariant-loop-victim : goal.invariant-loop-victim
invariant-loop-victim l = record {
  text : l.out.text ≡ l.fn.out.text ++ flat_map (λ victim. region_line l.region (victim_text victim)) (take l.victim-index l.victims);
  room : l.fn.out.room ≤ l.out.room + 240 * l.victim-index;
}
