-- an attempt, by what it told
use Rattle.std.proofs.Common.{◌∙◌, ◌≤◌, List, ℕ, length, sym, ap, subst}
use Rattle.journal.specs.UnspentCounts.{AreUnspent}
use Rattle.logged_machine.specs.LoggedState.{LoggedState}
use Rattle.logged_machine.specs.ToldCalls.{own_bytes}
use Rattle.logged_machine.proofs.Attempts.{attempt, pend_on, tried}
use Rattle.logged_machine.proofs.logged.LoggedMachine.serve_once.Goals as goal

pub invariant_of-self-2 : goal.invariant_of-self-2
invariant_of-self-2 g c =
    λ up. pend_on g.D.Disk.state
    (λ states h.
    attempt g.D.Disk.state h (subst (λ (v : LoggedState _). AreUnspent v.machine.moment.lasting) (sym c.self.view_is) c.requires.counted.counts) c.in_ok-answer.ensures.before c.in_ok-answer.ensures.behind
    (g.C.Call.entry c.args.call.now c.in_ok-answer.answer) c.note.new.units.items c.note.new.next c.as_slice.ensures.value (g.met.C.Call.of_call c.args.call.now c.in_ok-answer.answer) (g.met.C.Call.last c.args.call.now) c.requires.within c.in_ok-answer.ensures.does c.note.ensures c.in_ok-answer.ensures.told)
    (c.self.invariant (ap (λ (v : LoggedState _). v.served) c.self.view_is ∙ c.requires.served))

pub returns-clause-did : goal.returns-clause-did
returns-clause-did g c =
    rw (sym c.self.view_is) (tried g.D.Disk.state
    (λ states h.
    attempt g.D.Disk.state h (subst (λ (v : LoggedState _). AreUnspent v.machine.moment.lasting) (sym c.self.view_is) c.requires.counted.counts) c.in_ok-answer.ensures.before c.in_ok-answer.ensures.behind
    (g.C.Call.entry c.args.call.now c.in_ok-answer.answer) c.note.new.units.items c.note.new.next c.as_slice.ensures.value (g.met.C.Call.of_call c.args.call.now c.in_ok-answer.answer) (g.met.C.Call.last c.args.call.now) c.requires.within c.in_ok-answer.ensures.does c.note.ensures c.in_ok-answer.ensures.told)
    (c.self.invariant (ap (λ (v : LoggedState _). v.served) c.self.view_is ∙ c.requires.served)) (ap (λ (v : LoggedState _). v.served) c.self.view_is ∙ c.requires.served))

pub returns-clause-fits : goal.returns-clause-fits
returns-clause-fits g c =
    rw (sym c.self.view_is) (subst (λ (us : List ℕ). length (own_bytes c.self.inside.parts us (g.C.Call.call c.args.call.now)) ≤ c.args.room) c.as_slice.ensures.value c.in_ok-answer.ensures.fits)
