use Rattle.std.proofs.Common.{sym, ◌∙◌}
use Rattle.pi_enqueue.proofs.Keys.{runs, against_is, passed, met, met_none}
use Rattle.model_data.specs.Table.{holders_against}
use Rattle.std.specs.Prelude.{slice_get}
use Rattle.pi_enqueue.proofs.holds.first_against.Goals as goal

pub range-holder-items-requires : goal.range-holder-items-requires
range-holder-items-requires c = runs c.args.last c.args.request.now.resource

pub loop-holder-init : goal.loop-holder-init
loop-holder-init c =
    against_is c.args.last c.args.request.now c.args.holds.now.entries c.into_iter-holder-iterator.result c.requires
    (c.into_iter-holder-iterator.ensures.into_iter_gives ∙ c.range-holder-items.ensures.between tt)

pub loop-holder-preserved : goal.loop-holder-preserved
loop-holder-preserved c =
    passed c.args.request.now c.in-Some.holder.now c.in-Some.mode.now c.loop-holder.holder-iterator c.next.new.self (slice_get (holders_against c.args.request.now c.args.holds.now.entries) 0)
    c.in-Some.ensures.steps (sym c.is_other.ensures ∙ c.if-is_other.false) c.loop-holder.invariant

pub returns-then-is_other : goal.returns-then-is_other
returns-then-is_other c =
    met c.args.request.now c.in-Some.holder.now c.in-Some.mode.now c.loop-holder.holder-iterator c.next.new.self (slice_get (holders_against c.args.request.now c.args.holds.now.entries) 0)
    c.in-Some.ensures.steps (sym c.is_other.ensures ∙ c.if-is_other.true) c.loop-holder.invariant

pub returns : goal.returns
returns c = met_none c.args.request.now c.loop-holder.holder-iterator (slice_get (holders_against c.args.request.now c.args.holds.now.entries) 0) c.in-None.ensures.steps.0 c.loop-holder.invariant
