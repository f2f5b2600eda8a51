use Rattle.std.proofs.Common.{sym, ap, ◌∙◌}
use Rattle.std.specs.Option.{option_map}
use Rattle.msg_queues.proofs.ById.{found_is}
use Rattle.msg_queues.proofs.queues.Queues.find.Goals as goal

pub returns-in-Some : goal.returns-in-Some
returns-in-Some c =
    rw (← c.self.view_is) (sym (ap (option_map (λ q. q.message)) (found_is c.args.id c.self.inside.messages.entries c.self.invariant.keyed.each ∙ sym c.in-Some.ensures.value)))

pub returns-in-None : goal.returns-in-None
returns-in-None c =
    rw (← c.self.view_is) (sym (ap (option_map (λ q. q.message)) (found_is c.args.id c.self.inside.messages.entries c.self.invariant.keyed.each ∙ sym c.in-None.ensures.value)))
