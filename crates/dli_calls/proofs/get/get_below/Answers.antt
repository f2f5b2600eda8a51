use Rattle.std.proofs.Common.{None, Some, refl, ap, ◌∙◌}
use Rattle.model_data.specs.declared.call.Reach.TheVariants.{Parent}
use Rattle.model_data.specs.GetCalls.{row_reached}
use Rattle.dli_calls.proofs.OwnRecord.{below_is, missed_is, plan_reached, plan_missed, position_reached, text_reached, told_by}
use Rattle.dli_calls.proofs.get.get_below.Goals as goal

pub returns-in-Some-clause-planned : goal.returns-in-Some-clause-planned
returns-in-Some-clause-planned c = λ rows h.
    plan_reached c.args.dbd.now Parent c.args.call.now c.args.at.now (Some c.in-Some.row.now) rows
    (below_is c.args.dbd.now c.args.call.now.ssas c.args.at.now (Some c.in-Some.row.now) c.args.seen.now rows c.requires.position h
    (c.in-Some.ensures ∙ ap (λ s. row_reached Parent c.args.dbd.now.types s c.args.at.now c.args.seen.now) c.as_slice-ssas.ensures))
    c.args.hold c.in-Some.row.now c.get_reached.result refl
    (told_by Parent c.args.hold c.args.at.now c.in-Some.row.now c.as_slice-ssas.result.now c.args.call.now.ssas c.get_reached.result c.as_slice-ssas.ensures c.get_reached.ensures)

pub returns-in-Some-clause-valid : goal.returns-in-Some-clause-valid
returns-in-Some-clause-valid c = λ rows h.
    position_reached c.args.dbd.now Parent c.args.call.now c.args.at.now (Some c.in-Some.row.now) rows
    (below_is c.args.dbd.now c.args.call.now.ssas c.args.at.now (Some c.in-Some.row.now) c.args.seen.now rows c.requires.position h
    (c.in-Some.ensures ∙ ap (λ s. row_reached Parent c.args.dbd.now.types s c.args.at.now c.args.seen.now) c.as_slice-ssas.ensures))
    c.args.hold c.in-Some.row.now c.get_reached.result refl c.requires.position
    (told_by Parent c.args.hold c.args.at.now c.in-Some.row.now c.as_slice-ssas.result.now c.args.call.now.ssas c.get_reached.result c.as_slice-ssas.ensures c.get_reached.ensures)

pub returns-in-Some-clause-text : goal.returns-in-Some-clause-text
returns-in-Some-clause-text c = λ rows h short.
    text_reached c.args.dbd.now Parent c.args.call.now c.args.at.now (Some c.in-Some.row.now) rows
    (below_is c.args.dbd.now c.args.call.now.ssas c.args.at.now (Some c.in-Some.row.now) c.args.seen.now rows c.requires.position h
    (c.in-Some.ensures ∙ ap (λ s. row_reached Parent c.args.dbd.now.types s c.args.at.now c.args.seen.now) c.as_slice-ssas.ensures))
    c.args.hold c.in-Some.row.now c.get_reached.result refl short
    (told_by Parent c.args.hold c.args.at.now c.in-Some.row.now c.as_slice-ssas.result.now c.args.call.now.ssas c.get_reached.result c.as_slice-ssas.ensures c.get_reached.ensures)

pub returns-in-None-clause-planned : goal.returns-in-None-clause-planned
returns-in-None-clause-planned c = λ rows h.
    plan_missed c.args.dbd.now Parent c.args.call.now c.args.at.now None rows
    (below_is c.args.dbd.now c.args.call.now.ssas c.args.at.now None c.args.seen.now rows c.requires.position h
    (c.in-None.ensures ∙ ap (λ s. row_reached Parent c.args.dbd.now.types s c.args.at.now c.args.seen.now) c.as_slice-ssas.ensures))
    c.args.hold c.missed_below.result c.get_missed.result refl
    (c.missed_below.ensures c.args.dbd.now.types c.args.call.now.ssas ∙ missed_is c.args.dbd.now c.args.call.now.ssas c.args.at.now c.args.seen.now rows h)
    c.get_missed.ensures.planned
