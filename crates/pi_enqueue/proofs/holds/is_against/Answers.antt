use Rattle.std.proofs.Common.{sym, ◌∙◌}
use Rattle.pi_enqueue.proofs.Granting.{found_against, absent_against}
use Rattle.pi_enqueue.proofs.holds.is_against.Goals as goal

pub returns-in-Some : goal.returns-in-Some
returns-in-Some c =
    c.is_other.ensures
    ∙ found_against c.args.request.now c.args.region c.in-Some.mode.now c.args.holds.now.entries c.len-count.ensures.ordered (sym c.in-Some.ensures.value)

pub returns-in-None : goal.returns-in-None
returns-in-None c = absent_against c.args.request.now c.args.region c.args.holds.now.entries (sym c.in-None.ensures.value)
