use Rattle.std.proofs.Common.{sym, ap, ◌∙◌}
use Rattle.model_messages.specs.Queue.{QueuesState, free_count}
use Rattle.model_machine.specs.Machine.{waiting_now}
use Rattle.tm_machine.specs.Parts.{PartsState, work_slots}
use Rattle.tm_machine.proofs.Linked.{free_count_is}
use Rattle.tm_machine.proofs.parts.Parts.waiting.Goals as goal

pub returns : goal.returns
returns c =
    c.waiting.ensures
    ∙ ap (λ (q : QueuesState). free_count c.args.code.now q.queued) c.queues.ensures
    ∙ sym (free_count_is c.args.code.now (work_slots c.self.inside.regions.items) c.self.inside.tables.queues.queued c.self.invariant.told)
    ∙ ap (λ (p : PartsState). waiting_now p.moment.lasting p.moment.slots c.args.code.now) c.self.view_is
