-- One step up from a segment.
use Rattle.std.proofs.Common.{ℕ, suc, ◌≡◌, ◌+◌, ◌-◌, ◌<◌, ◌≤◌, ◌||◌, List, Some, None, Option, false, refl, arith}
use Rattle.std.specs.Str.{bytes_eq}
use Rattle.system_types.specs.declared.definition.MacroLine.{MacroLine}
use Rattle.sysdef_rules.specs.Lookups.{parent_named}
use Rattle.sysdef_rules.specs.Calls.{is_above}

pub above_step : (segments : List MacroLine) (above : List ℕ) (n k : ℕ) (name : List ℕ) → k < n
    → is_above segments above (n - k) (Some name) ≡ (bytes_eq name above || is_above segments above (n - (k + 1)) (parent_named segments name))
above_step segments above n k name h = let e : n - k ≡ suc (n - (k + 1)) = omega (arith, h) in rw e refl

none_by : (segments : List MacroLine) (above : List ℕ) (n : ℕ) (parent : Option (List ℕ)) → n ≡ 0 → is_above segments above n parent ≡ false
none_by segments above n None h = refl
none_by segments above n (Some name) h = rw h refl

pub above_end : (segments : List MacroLine) (above : List ℕ) (n k : ℕ) (parent : Option (List ℕ)) → n ≤ k → is_above segments above (n - k) parent ≡ false
above_end segments above n k parent h = none_by segments above (n - k) parent (omega (arith, h))

pub ruleset above_steps = (above_step, above_end)
