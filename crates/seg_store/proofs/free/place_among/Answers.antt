use Rattle.std.proofs.Common.{◌+◌, ◌<◌, ◌/◌, ◌-◌, ℕ, length, arith, get_or, ltb}
use Rattle.std.proofs.lemmas.List.{get_or_default}
use Rattle.std.proofs.lemmas.Bool.{lt-ltb, le-ltb}
use Rattle.seg_store.proofs.Places.{prefix_is}
use Rattle.seg_store.proofs.Numbers.{numbers_front, numbers_back}
use Rattle.seg_store.proofs.free.place_among.Goals as goal

pub loop-low-preserved-then-free-middle : goal.loop-low-preserved-then-free-middle
loop-low-preserved-then-free-middle c =
    let m : ℕ = c.loop-low.low + (c.loop-low.high - c.loop-low.low) / 2 in
    let within : m < length c.args.free.now = omega arith in
    record {
      within = c.loop-low.invariant.within;
      ordered = omega arith;
      front = numbers_front c.args.free.now c.args.slot m c.requires within (λ d. omega (arith, get_or_default c.args.free.now m d 0 within, c.if-free-middle.true));
      back = c.loop-low.invariant.back;
    }

pub loop-low-preserved : goal.loop-low-preserved
loop-low-preserved c =
    let m : ℕ = c.loop-low.low + (c.loop-low.high - c.loop-low.low) / 2 in
    let within : m < length c.args.free.now = omega arith in
    record {
      within = omega arith;
      ordered = omega arith;
      front = c.loop-low.invariant.front;
      back = numbers_back c.args.free.now c.args.slot m c.requires within (λ d. omega (arith, get_or_default c.args.free.now m d 0 within, c.if-free-middle.false));
    }

pub returns : goal.returns
returns c =
    prefix_is (λ n. ltb n c.args.slot) c.args.free.now c.loop-low.low (omega arith)
    (λ k d h. lt-ltb (get_or c.args.free.now k d) c.args.slot (c.loop-low.invariant.front k d h))
    (λ d h. le-ltb (get_or c.args.free.now c.loop-low.low d) c.args.slot (c.loop-low.invariant.back c.loop-low.low d (omega arith) h))
