use Rattle.std.specs.Slice.Iter.{iter_rest}
use Rattle.std.specs.Iterator.Adapters.{zip_first, zip_second}
use Rattle.std.proofs.lemmas.Slice.Zip.{Zip-more, either_empty_from_Zip}
use Rattle.model_messages.specs.Queue.{free_count}
use Rattle.openings.proofs.Opened.{states_more, states_all}
use Rattle.openings.proofs.codes.opening_states.Goals as goal

pub loop-code-preserved : goal.loop-code-preserved
loop-code-preserved c =
    let m = Zip-more c.loop-code.code-iterator c.next.new.self c.next.result (c.in-Some.code, c.in-Some.setting) c.in-Some.is c.next.ensures.steps in
    states_more (λ name. free_count name c.args.queues.now.queued) c.loop-code.states.items _ c.in-Some.code.now c.in-Some.setting.now _ _ _ _ _ m.0 m.1 c.in_ok-add_state.ensures c.loop-code.invariant

pub returns : goal.returns
returns c =
    states_all (λ name. free_count name c.args.queues.now.queued) c.loop-code.states.items (iter_rest (zip_first c.loop-code.code-iterator)) (iter_rest (zip_second c.loop-code.code-iterator)) _
    (either_empty_from_Zip c.loop-code.code-iterator c.next.new.self c.next.result c.in-None.is c.next.ensures.steps) c.loop-code.invariant
