use Rattle.std.proofs.Common.{sym, ◌∙◌, ap, ◌==◌}
use Rattle.std.specs.Prelude.{find}
use Rattle.pi_enqueue.proofs.Waiting.{found_first, found_second}
use Rattle.pi_enqueue.proofs.lists.Lists.wait_of.Goals as goal

pub returns-in-Some : goal.returns-in-Some
returns-in-Some c =
    sym (found_first (λ w. w.region == c.args.region) c.args.self.now.upgrades.items c.args.self.now.waits.items c.in-Some.request.now
    (sym (c.in-Some.ensures ∙ ap (find (λ w. w.region == c.args.region)) c.deref.ensures.value)))

pub returns-in-None : goal.returns-in-None
returns-in-None c =
    c.wait_of-in-None.ensures
    ∙ (ap (find (λ w. w.region == c.args.region)) c.deref-in-None.ensures.value
    ∙ sym (found_second (λ w. w.region == c.args.region) c.args.self.now.upgrades.items c.args.self.now.waits.items
    (sym (c.in-None.ensures ∙ ap (find (λ w. w.region == c.args.region)) c.deref.ensures.value))))
