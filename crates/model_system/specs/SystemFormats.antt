-- The formats of a system, and the terminals that have one.
use Rattle.std.specs.Prelude.{ℕ, List, Option, find}
use Rattle.std.specs.Option.{option_map, option_and_then}
use Rattle.std.specs.Str.{bytes_eq}
use Rattle.model_system.specs.FormatLines.{FormatLines}
use Rattle.model_system.specs.declared.screen.Screen.{Screen}
use Rattle.model_system.specs.declared.screen.SystemFormat.{SystemFormat}
use Rattle.model_system.specs.System.{System}

-- the format of this name
abbrev pub format_named : List SystemFormat → List ℕ → Option FormatLines
format_named formats name = option_map (λ found. found.format) (find (λ format. bytes_eq format.name name) formats)

-- the name of the format that a terminal has
abbrev pub format_name : List Screen → List ℕ → Option (List ℕ)
format_name screens terminal = option_map (λ screen. screen.format) (find (λ screen. bytes_eq screen.terminal terminal) screens)

-- the format of a terminal, if it has one
abbrev pub format_of : System → List ℕ → Option FormatLines
format_of system terminal = option_and_then (format_named system.formats) (format_name system.screens terminal)
