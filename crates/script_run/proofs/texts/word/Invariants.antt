-- the words behind those that were passed
use Rattle.std.proofs.Common.{◌≡◌, ◌-◌, drop}
use Rattle.tm_types.specs.Segment.{IsSegmentText}
use Rattle.model_system.specs.Texts.{words}
use Rattle.script_run.proofs.texts.word.Given as goal

abbrev pub invariant-loop-passed : goal.invariant-loop-passed
invariant-loop-passed l = record {
  words : words l.rest ≡ drop (l._passed - 1) (words l.text);
  is_text : IsSegmentText l.text → IsSegmentText l.rest;
}
