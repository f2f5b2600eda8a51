use Rattle.std.proofs.Common.{◌+◌, ◌<◌, ◌/◌, ◌-◌, ℕ, length, ap, sym, ◌∙◌, arith}
use Rattle.std.specs.Ordering.{is_lt}
use Rattle.std.proofs.lemmas.List.{get_or_default}
use Rattle.model_data.specs.Path.{key_cmp}
use Rattle.seg_store.proofs.Places.{prefix_is}
use Rattle.seg_store.proofs.Entries.{front_more, back_more}
use Rattle.seg_store.proofs.index.place_among.Goals as goal

pub loop-low-preserved-then-is_lt : goal.loop-low-preserved-then-is_lt
loop-low-preserved-then-is_lt c =
    let m : ℕ = c.loop-low.low + (c.loop-low.high - c.loop-low.low) / 2 in
    let within : m < length c.args.index.now = omega arith in
    record {
      within = c.loop-low.invariant.within;
      ordered = omega arith;
      front = front_more c.args.index.now c.args.root.now m c.requires within
          (λ d. ap (λ e. is_lt (key_cmp e.0 c.args.root.now)) (get_or_default c.args.index.now m d c.index-index-middle.result within)
          ∙ (ap is_lt (sym c.cmp.ensures) ∙ (sym c.is_lt.ensures ∙ c.if-is_lt.true)));
      back = c.loop-low.invariant.back;
    }

pub loop-low-preserved : goal.loop-low-preserved
loop-low-preserved c =
    let m : ℕ = c.loop-low.low + (c.loop-low.high - c.loop-low.low) / 2 in
    let within : m < length c.args.index.now = omega arith in
    record {
      within = omega arith;
      ordered = omega arith;
      front = c.loop-low.invariant.front;
      back = back_more c.args.index.now c.args.root.now m c.requires within
          (λ d. ap (λ e. is_lt (key_cmp e.0 c.args.root.now)) (get_or_default c.args.index.now m d c.index-index-middle.result within)
          ∙ (ap is_lt (sym c.cmp.ensures) ∙ (sym c.is_lt.ensures ∙ c.if-is_lt.false)));
    }

pub returns : goal.returns
returns c =
    prefix_is (λ entry. is_lt (key_cmp entry.0 c.args.root.now)) c.args.index.now c.loop-low.low (omega arith) c.loop-low.invariant.front
    (λ d h. c.loop-low.invariant.back c.loop-low.low d (omega arith) h)
