use Rattle.std.proofs.Common.{sym, ap, ◌∙◌}
use Rattle.msg_queues.proofs.Places.{flag_set, set_none, open_set}
use Rattle.std.specs.BTreeMap.{is_at}
use Rattle.std.specs.Ordering.{nat_cmp}
use Rattle.msg_queues.proofs.id_queue.set_flag.Goals as goal

pub returns-in-Some-clause-value : goal.returns-in-Some-clause-value
returns-in-Some-clause-value c = (c.get_mut.follows.holds _).0 ∙ flag_set c.args.id c.args.held c.args.ids.now.entries c.get_mut.ensures.ordered

pub returns-in-Some-clause-count : goal.returns-in-Some-clause-count
returns-in-Some-clause-count c =
    open_set c.args.id c.args.ids.now.entries _ c.args.held c.in-Some.flag.now (sym c.in-Some.ensures.value) (c.get_mut.follows.holds _).0

pub returns-in-None-clause-value : goal.returns-in-None-clause-value
returns-in-None-clause-value c =
    let es = c.args.ids.now.entries in
    ap (λ m. m.entries) c.get_mut.follows.holds-at-none
    ∙ (sym (set_none (is_at (nat_cmp c.args.id)) c.args.held es (sym c.in-None.ensures.value)) ∙ flag_set c.args.id c.args.held es c.get_mut.ensures.ordered)
