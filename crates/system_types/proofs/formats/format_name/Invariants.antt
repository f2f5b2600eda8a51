use Rattle.std.proofs.Common.{◌≡◌, drop}
use Rattle.model_system.specs.SystemFormats as spec
use Rattle.system_types.proofs.formats.format_name.Given as goal

abbrev pub invariant-loop-screen : goal.invariant-loop-screen
invariant-loop-screen l = spec.format_name (drop l.screen-index l.screens) l.terminal ≡ spec.format_name l.screens l.terminal
