use Rattle.std.proofs.Common.{◌∙◌, rules}
use Rattle.region_work.proofs.Found.{ends, found_here, goes}
use Rattle.region_work.proofs.next.next_message.Goals as goal

pub returns-then-not-may_go_on-clause-value : goal.returns-then-not-may_go_on-clause-value
returns-then-not-may_go_on-clause-value c =
    let code = c.index-codes-place.result in
    let state = c.index-states-place.result in
    ends c.args.system.now.qbytes c.args.tables.now c.args.code.now c.args.taken c.args.busy code state (search rules)
    ∙ found_here c.args.system.now.qbytes c.args.tables.now c.args.code.now c.args.taken c.args.busy code state c.args.system.now.codes c.args.codes.now c.in-Some.place
    (search rules) (search rules) (search rules) (search rules) (search rules)

pub returns-clause-value : goal.returns-clause-value
returns-clause-value c =
    let code = c.index-codes-place.result in
    let state = c.index-states-place.result in
    goes c.args.system.now.qbytes c.args.tables.now c.args.code.now c.args.taken c.args.busy code state c.first_free.result (search rules) (search rules) (search rules)
    ∙ found_here c.args.system.now.qbytes c.args.tables.now c.args.code.now c.args.taken c.args.busy code state c.args.system.now.codes c.args.codes.now c.in-Some.place
    (search rules) (search rules) (search rules) (search rules) (search rules)
