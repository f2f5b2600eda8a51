use Rattle.std.proofs.Common.{sym, ap, ◌∙◌}
use Rattle.std.specs.Map.{values_of}
use Rattle.msg_queues.proofs.ById.{found_is, holder_set, holder_none, keyed_set}
use Rattle.msg_queues.proofs.Indexed.{has_code}
use Rattle.msg_queues.proofs.entries.set_holder.Goals as goal

pub returns-in-Some-clause-value : goal.returns-in-Some-clause-value
returns-in-Some-clause-value c =
    let es = c.args.messages.now.entries in
    ap values_of (c.get_mut.follows.holds _).0 ∙ holder_set c.args.id c.args.holder es c.in-Some.queued.now c.requires.each c.requires.ascending (sym c.in-Some.ensures.value)

pub returns-in-Some-clause-code : goal.returns-in-Some-clause-code
returns-in-Some-clause-code c = has_code c.args.id c.args.messages.now.entries c.in-Some.queued.now c.requires (sym c.in-Some.ensures.value)

pub returns-in-Some-clause-keyed : goal.returns-in-Some-clause-keyed
returns-in-Some-clause-keyed c =
    keyed_set c.args.id c.args.holder c.args.messages.now.entries _ c.in-Some.queued.now c.requires (sym c.in-Some.ensures.value) (c.get_mut.follows.holds _).0

pub returns-in-None-clause-value : goal.returns-in-None-clause-value
returns-in-None-clause-value c =
    let es = c.args.messages.now.entries in
    ap (λ m. values_of m.entries) c.get_mut.follows.holds-at-none ∙ sym (holder_none c.args.id c.args.holder es c.requires.each (sym c.in-None.ensures.value))

pub returns-in-None-clause-absent : goal.returns-in-None-clause-absent
returns-in-None-clause-absent c = found_is c.args.id c.args.messages.now.entries c.requires.each ∙ sym c.in-None.ensures.value
