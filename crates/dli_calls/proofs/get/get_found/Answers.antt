use Rattle.std.proofs.Common.{ap}
use Rattle.std.specs.Option.{option_copied}
use Rattle.dli_calls.proofs.OwnRecord.{position_reached, text_reached, told_by}
use Rattle.dli_calls.proofs.get.get_found.Goals as goal

pub returns-in-Some-clause-valid : goal.returns-in-Some-clause-valid
returns-in-Some-clause-valid c = λ rows h.
    position_reached c.args.dbd.now c.args.reach c.args.call.now c.args.at.now (option_copied c.args.row) rows h c.args.hold c.in-Some.row.now c.get_reached.result (ap option_copied c.in-Some.is) c.requires.position
    (told_by c.args.reach c.args.hold c.args.at.now c.in-Some.row.now c.as_slice-ssas.result.now c.args.call.now.ssas c.get_reached.result c.as_slice-ssas.ensures c.get_reached.ensures)

pub returns-in-Some-clause-text : goal.returns-in-Some-clause-text
returns-in-Some-clause-text c = λ rows h short.
    text_reached c.args.dbd.now c.args.reach c.args.call.now c.args.at.now (option_copied c.args.row) rows h c.args.hold c.in-Some.row.now c.get_reached.result (ap option_copied c.in-Some.is) short
    (told_by c.args.reach c.args.hold c.args.at.now c.in-Some.row.now c.as_slice-ssas.result.now c.args.call.now.ssas c.get_reached.result c.as_slice-ssas.ensures c.get_reached.ensures)
