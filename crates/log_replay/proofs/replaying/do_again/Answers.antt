use Rattle.std.proofs.Common.{sym, ◌∙◌}
use Rattle.std.proofs.lemmas.Result.{IfOk-weaker}
use Rattle.log_replay.proofs.Coming.{unknown, waits, done_now}
use Rattle.log_replay.proofs.replaying.do_again.Goals as goal

pub returns-then-not-known : goal.returns-then-not-known
returns-then-not-known c replay at = unknown c.args.system.now c.args.r replay c.args.working.now c.args.working.now at (sym c.in_ok-known.ensures ∙ c.if-not-known.true)

pub returns-in-Some : goal.returns-in-Some
returns-in-Some c =
    IfOk-weaker c.wait.result _ _
    (λ fine w replay at. waits c.args.system.now c.args.r replay c.args.working.now c.wait.new.working at (sym c.in_ok-known.ensures ∙ c.if-not-known.false) c.in-Some.unit (sym c.waits_for.ensures ∙ c.in-Some.is) fine w)
    c.wait.ensures

pub returns-in-None : goal.returns-in-None
returns-in-None c =
    IfOk-weaker c.do_now.result _ _
    (λ fine done replay at. done_now c.args.system.now c.args.r replay c.args.working.now c.do_now.new.working at (sym c.in_ok-known.ensures ∙ c.if-not-known.false) (sym c.waits_for.ensures ∙ c.in-None.is) fine done)
    c.do_now.ensures
