use Rattle.std.proofs.Common.{◌∷◌, [], ◌++◌, List, map, take, ap, sym, ◌∙◌}
use Rattle.std.proofs.lemmas.List.{map_more}
use Rattle.tm_types.specs.declared.ssa.Ssa.{Ssa}
use Rattle.model_system.specs.Script.{call_ssa}
use Rattle.script_run.specs.RunningScript.{IsKeyText, AreKeyTexts}
use Rattle.script_run.proofs.statements.call_ssas.Goals as goal

one_more : (made : List Ssa) (ssa : Ssa) → AreKeyTexts made → IsKeyText ssa.test → AreKeyTexts (made ++ ssa ∷ [])
one_more [] ssa texts here = (here, tt)
one_more (first ∷ made) ssa texts here = (texts.0, one_more made ssa texts.1 here)

pub loop-ssa-preserved : goal.loop-ssa-preserved
loop-ssa-preserved c =
    let state = c.args.script.now.here in
    let ssas = c.args.ssas.now in
    let item = c.ssa-item.result in
    let i = c.loop-ssa.ssa-index in
    record {
      so_far =
          c.in_ok-push.ensures.ok ∙ ap (λ m. m ++ c.in_ok-call_ssa.field-0 ∷ []) c.loop-ssa.invariant.so_far
          ∙ ap (λ s. map (call_ssa state) (take i ssas) ++ s ∷ []) (c.in_ok-call_ssa.ensures.value ∙ ap (call_ssa state) c.ssa-item.is)
          ∙ sym (map_more (call_ssa state) ssas i item c.loop-ssa-test.true);
      texts = rw c.in_ok-push.ensures.ok (one_more c.loop-ssa.made c.in_ok-call_ssa.field-0 c.loop-ssa.invariant.texts c.in_ok-call_ssa.ensures.text);
    }
