-- Whether a format keeps its rule doesn't hang on the line of its FMT.
use Rattle.std.proofs.Common.{ℕ, ◌≡◌, List, [], ◌∷◌}
use Rattle.std.specs.Prelude.{Option, Some, None, IfNone}
use Rattle.std.specs.Option.{option_or}
use Rattle.model_system.specs.declared.segment_line.SegmentLine.{SegmentLine}
use Rattle.model_system.specs.FormatRule.{broken_format_line, no_input, KeepsRule}
use Rattle.model_system.specs.FormatLines.{FormatLines}

other_line : (line other : ℕ) (segments : List SegmentLine) (rest : Option ℕ) → option_or (no_input line segments) rest ≡ None → option_or (no_input other segments) rest ≡ None
other_line line other [] rest h = cc
other_line line other (segment ∷ segments) rest h = h

pub kept_from : (line : ℕ) (format : FormatLines) → broken_format_line line format ≡ None → KeepsRule format
unfolding broken_format_line
kept_from line format h other = other_line line other format.input _ h

pub kept_by_all : (line : ℕ) (format : FormatLines) (answer : Option ℕ) → answer ≡ broken_format_line line format → IfNone answer (KeepsRule format)
kept_by_all line format (Some n) e = tt
kept_by_all line format None e = kept_from line format (cc e)
