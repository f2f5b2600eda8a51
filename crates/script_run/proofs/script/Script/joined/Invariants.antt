-- the texts so far, joined and cut
use Rattle.std.proofs.Common.{◌≡◌, take}
use Rattle.std.specs.List.{flat_map}
use Rattle.tm_types.specs.Segment.{IsSegmentText}
use Rattle.model_system.specs.Script.{script_text_of}
use Rattle.script_run.proofs.script.Script.joined.Given as goal

abbrev pub invariant-loop-text : goal.invariant-loop-text
invariant-loop-text l = record {
  is_text : IsSegmentText l.joined;
  so_far : l.joined ≡ take 1996 (flat_map (script_text_of l.self.here) (take l.text-index l.texts));
}
