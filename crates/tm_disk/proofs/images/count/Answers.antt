use Rattle.std.proofs.Common.{◌≡◌, ℕ, ◌+◌, ◌<◌, List, length, drop, get_or, arith, sym, ◌∙◌, ap}
use Rattle.std.proofs.lemmas.List.{length-set, length-drop, get_or-drop, get_or_read}
use Rattle.tm_disk.specs.Record.{nothing_written}
use Rattle.tm_disk.specs.Written.{Written}
use Rattle.tm_disk.proofs.Picks.{counted, counted-few}
use Rattle.tm_disk.proofs.images.count.Goals as goal

pub overflow_add-index_mut : goal.overflow_add-index_mut
overflow_add-index_mut c =
    let writes : List Written = c.args.writes.now.items in
    let since : List Written = drop c.args.settled writes in
    let i : ℕ = c.loop-index.index in
    let is : c.at.result ≡ (get_or since i nothing_written).at = c.at.ensures ∙ ap (λ (w : Written). w.at) (sym (get_or-drop c.args.settled writes i nothing_written)) in
    let lt : i < length since = omega (arith, c.loop-index-test.true, c.len.ensures, length-drop c.args.settled writes, c.requires.settled_in) in
    let within : c.at.result < length c.args.counts.now.items = omega (arith, c.at.ensures, c.requires.in_range (c.args.settled + i) nothing_written (omega (arith, lt, length-drop c.args.settled writes))) in
    let now : get_or c.loop-index.counts.items c.at.result 0 ≡ c.index_mut.result.now = sym (get_or_read c.loop-index.counts.items c.at.result c.index_mut.result.now (omega (arith, within, c.loop-index.invariant.size)) c.index_mut.ensures.value 0) in
    omega (arith, counted-few c.loop-index.counts.items since i c.at.result (length c.args.counts.now.items) c.index_mut.result.now nothing_written lt is c.loop-index.invariant.size within now c.loop-index.invariant.counts, lt, c.requires.few, length-drop c.args.settled writes)

pub loop-index-preserved : goal.loop-index-preserved
loop-index-preserved c =
    let writes : List Written = c.args.writes.now.items in
    let since : List Written = drop c.args.settled writes in
    let i : ℕ = c.loop-index.index in
    let is : c.at.result ≡ (get_or since i nothing_written).at = c.at.ensures ∙ ap (λ (w : Written). w.at) (sym (get_or-drop c.args.settled writes i nothing_written)) in
    let lt : i < length since = omega (arith, c.loop-index-test.true, c.len.ensures, length-drop c.args.settled writes, c.requires.settled_in) in
    let within : c.at.result < length c.args.counts.now.items = omega (arith, c.at.ensures, c.requires.in_range (c.args.settled + i) nothing_written (omega (arith, lt, length-drop c.args.settled writes))) in
    let now : get_or c.loop-index.counts.items c.at.result 0 ≡ c.index_mut.result.now = sym (get_or_read c.loop-index.counts.items c.at.result c.index_mut.result.now (omega (arith, within, c.loop-index.invariant.size)) c.index_mut.ensures.value 0) in
    record {
      size = length-set c.loop-index.counts.items c.at.result (c.index_mut.result.now + 1) ∙ c.loop-index.invariant.size;
      counts = counted c.loop-index.counts.items since i c.at.result (length c.args.counts.now.items) c.index_mut.result.now nothing_written lt is c.loop-index.invariant.size within now c.loop-index.invariant.counts;
    }
