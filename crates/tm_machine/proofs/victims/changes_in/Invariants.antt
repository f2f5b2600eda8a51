use Rattle.std.proofs.Common.{◌≡◌, length, map, take}
use Rattle.tm_machine.proofs.victims.changes_in.Given as goal

abbrev pub invariant-loop-place : goal.invariant-loop-place
invariant-loop-place l = l.changes ≡ map (λ rows. length rows.changed) (take l.place l.databases.regions)
