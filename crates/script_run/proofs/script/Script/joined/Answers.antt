use Rattle.std.proofs.Common.{◌++◌, take, ap, ◌∙◌}
use Rattle.model_system.specs.Script.{script_text_of}
use Rattle.script_run.proofs.Joining.{joined_more}
use Rattle.script_run.proofs.script.Script.joined.Goals as goal

pub loop-text-preserved : goal.loop-text-preserved
loop-text-preserved c = record {
  is_text = c.append_cut.ensures.cut;
  so_far =
      c.in_ok-append_cut.ensures.ok ∙ ap (λ t. take 1996 (c.loop-text.joined ++ t)) c.text.ensures.value
      ∙ joined_more (script_text_of c.args.self.now.here) c.args.texts.now c.loop-text.text-index c.text-item.result c.loop-text.joined c.loop-text-test.true c.text-item.is c.loop-text.invariant.so_far;
}
