use Rattle.std.proofs.Common.{◌+◌, sym, ap, refl, subst, ◌∙◌}
use Rattle.system_types.specs.Jobs.{lent_job}
use Rattle.model_machine.specs.Trial.WorkEnd.{Ends, Abends}
use Rattle.program_rows.specs.DatabasesState.{DatabasesState}
use Rattle.message_run.specs.RunState.{IsBetweenTurns}
use Rattle.message_run.proofs.Calls.{is_call}
use Rattle.message_run.proofs.Steps.{stops_so, syncs, abends, waits_for, goes_by, still, taken_back, rests_on}
use Rattle.message_run.proofs.NextTold.{silent_on, sync_on, told_on, untold_on}
use Rattle.message_run.proofs.progress.Progress.advance.Goals as goal

pub answer-requires-clause-call : goal.answer-requires-clause-call
answer-requires-clause-call c =
    is_call c.args.system.now.databases c.args.job.now.pcbs.now c.args.job.now.program.now c.self.inside.machine.limit c.self.inside.machine.script c.in-Call.call c.requires.servable
    (sym c.in-Ok.ensures.need ∙ c.in-Call.is)

pub returns-in-Ended-clause-advances : goal.returns-in-Ended-clause-advances
returns-in-Ended-clause-advances c =
    rw (sym c.self.view_is) (λ given ahead.
    stops_so
    (lent_job c.args.system.now c.args.job.now) given c.args.region c.args.databases.now
    (record { calls = c.self.inside.calls; machine = c.self.inside.machine; work = c.self.inside.work; positions = c.self.inside.positions.items })
    ahead c.in-Ok.need c.in-Ok.ensures.need
    (record { calls = c.self.inside.calls; machine = c.next.new.self; work = c.self.inside.work; positions = c.self.inside.positions.items }) Ends
    (still (record { calls = c.self.inside.calls; machine = c.self.inside.machine; work = c.self.inside.work; positions = c.self.inside.positions.items }) c.args.self.now c.next.new.self c.self.view_is c.in-Ok.ensures.script c.in-Ok.ensures.limit (rw c.in-Ended.is at c.in-Ok.ensures.waits) c.requires.rests)
    (rw c.in-Ended.is refl) (rw c.in-Ended.is refl))

pub returns-in-Ended-clause-rests : goal.returns-in-Ended-clause-rests
returns-in-Ended-clause-rests c =
    subst IsBetweenTurns (sym (still (record { calls = c.self.inside.calls; machine = c.self.inside.machine; work = c.self.inside.work; positions = c.self.inside.positions.items }) c.args.self.now c.next.new.self c.self.view_is c.in-Ok.ensures.script c.in-Ok.ensures.limit (rw c.in-Ended.is at c.in-Ok.ensures.waits) c.requires.rests ∙ c.self.view_is)) c.requires.rests

pub returns-in-Abend-clause-advances : goal.returns-in-Abend-clause-advances
returns-in-Abend-clause-advances c =
    rw (sym c.self.view_is) (λ given ahead.
    stops_so
    (lent_job c.args.system.now c.args.job.now) given c.args.region c.args.databases.now
    (record { calls = c.self.inside.calls; machine = c.self.inside.machine; work = c.self.inside.work; positions = c.self.inside.positions.items })
    ahead c.in-Ok.need c.in-Ok.ensures.need
    (record { calls = c.self.inside.calls; machine = c.next.new.self; work = c.self.inside.work; positions = c.self.inside.positions.items }) (Abends c.in-Abend.abend)
    (still (record { calls = c.self.inside.calls; machine = c.self.inside.machine; work = c.self.inside.work; positions = c.self.inside.positions.items }) c.args.self.now c.next.new.self c.self.view_is c.in-Ok.ensures.script c.in-Ok.ensures.limit (rw c.in-Abend.is at c.in-Ok.ensures.waits) c.requires.rests)
    (rw c.in-Abend.is refl) (rw c.in-Abend.is refl))

pub returns-in-Abend-clause-rests : goal.returns-in-Abend-clause-rests
returns-in-Abend-clause-rests c =
    subst IsBetweenTurns (sym (still (record { calls = c.self.inside.calls; machine = c.self.inside.machine; work = c.self.inside.work; positions = c.self.inside.positions.items }) c.args.self.now c.next.new.self c.self.view_is c.in-Ok.ensures.script c.in-Ok.ensures.limit (rw c.in-Abend.is at c.in-Ok.ensures.waits) c.requires.rests ∙ c.self.view_is)) c.requires.rests

pub returns-then-is_sync-clause-advances : goal.returns-then-is_sync-clause-advances
returns-then-is_sync-clause-advances c =
    rw (sym c.self.view_is) (λ given ahead.
    syncs
    (lent_job c.args.system.now c.args.job.now) given c.args.region c.args.databases.now
    (record { calls = c.self.inside.calls; machine = c.self.inside.machine; work = c.self.inside.work; positions = c.self.inside.positions.items })
    ahead c.in-Ok.need c.in-Ok.ensures.need
    (record { calls = c.self.inside.calls; machine = c.take_back.new.self; work = c.self.inside.work; positions = c.self.inside.positions.items }) c.in-Call.call
    (taken_back (record { calls = c.self.inside.calls; machine = c.self.inside.machine; work = c.self.inside.work; positions = c.self.inside.positions.items }) c.args.self.now (record { calls = c.self.inside.calls; machine = c.next.new.self; work = c.self.inside.work; positions = c.self.inside.positions.items }) c.next.new.self c.take_back.new.self c.self.view_is refl c.in-Ok.ensures.script c.in-Ok.ensures.limit c.take_back.ensures c.requires.rests)
    c.in-Call.is (sym c.is_sync.ensures ∙ c.if-is_sync.true))

pub returns-then-is_sync-clause-rests : goal.returns-then-is_sync-clause-rests
returns-then-is_sync-clause-rests c =
    subst IsBetweenTurns (sym (taken_back (record { calls = c.self.inside.calls; machine = c.self.inside.machine; work = c.self.inside.work; positions = c.self.inside.positions.items }) c.args.self.now (record { calls = c.self.inside.calls; machine = c.next.new.self; work = c.self.inside.work; positions = c.self.inside.positions.items }) c.next.new.self c.take_back.new.self c.self.view_is refl c.in-Ok.ensures.script c.in-Ok.ensures.limit c.take_back.ensures c.requires.rests ∙ c.self.view_is)) c.requires.rests

pub returns-in-Ok-Answered-clause-advances : goal.returns-in-Ok-Answered-clause-advances
returns-in-Ok-Answered-clause-advances c =
    let comes = rw (← c.self-in-Call.view_is) at (rw c.in-Ok-Answered.field-0-is at c.in-Ok-Answered.ensures.ok) in
    rw (sym c.self.view_is) (λ given ahead.
    goes_by
    (lent_job c.args.system.now c.args.job.now) given c.args.region c.args.databases.now
    (record { calls = c.self.inside.calls; machine = c.self.inside.machine; work = c.self.inside.work; positions = c.self.inside.positions.items })
    ahead c.in-Ok.need c.in-Ok.ensures.need
    c.answer.new.databases c.in-Call.call c.in-Call.is c.next.new.self
    (record { calls = c.self-in-Call.inside.calls; machine = c.self-in-Call.inside.machine; work = c.self-in-Call.inside.work; positions = c.self-in-Call.inside.positions.items })
    (c.self-in-Call.inside.calls + 1) c.in-Ok-Answered.status (rw c.in-Call.is at c.in-Ok.ensures.texts)
    c.in-Ok.ensures.limit c.in-Ok.ensures.waiting (rw c.in-Call.is at c.in-Ok.ensures.waits)
    (sym c.is_sync.ensures ∙ c.if-is_sync.false)
    (ap (λ n. n + 1) comes.1.calls)
    comes.0
    comes.1
    c.in-Ok-Answered.ensures.others.committed
    c.in-Ok-Answered.ensures.others.dbds
    (rw (← c.self-in-Call.view_is) at c.answer.ensures.standing))

pub returns-in-Ok-Answered-clause-rests : goal.returns-in-Ok-Answered-clause-rests
returns-in-Ok-Answered-clause-rests c =
    let comes = rw (← c.self-in-Call.view_is) at (rw c.in-Ok-Answered.field-0-is at c.in-Ok-Answered.ensures.ok) in
    rests_on c.args.job.now.program.now
    (record { calls = c.self.inside.calls; machine = c.self.inside.machine; work = c.self.inside.work; positions = c.self.inside.positions.items })
    c.next.new.self c.self-in-Call.inside.machine _ (c.self-in-Call.inside.calls + 1) (subst IsBetweenTurns (sym c.self.view_is) c.requires.rests)
    c.in-Ok.ensures.waiting (rw c.in-Call.is at c.in-Ok.ensures.waits) comes.1.machine (ap (λ n. n + 1) comes.1.calls)

pub returns-in-Ok-Waits-clause-advances : goal.returns-in-Ok-Waits-clause-advances
returns-in-Ok-Waits-clause-advances c =
    let comes = rw c.in-Ok-Waits.field-0-is at c.in-Ok-Waits.ensures.ok in
    rw (sym c.self.view_is) (λ given ahead.
    waits_for
    (lent_job c.args.system.now c.args.job.now) given c.args.region c.args.databases.now
    (record { calls = c.self.inside.calls; machine = c.self.inside.machine; work = c.self.inside.work; positions = c.self.inside.positions.items })
    ahead c.in-Ok.need c.in-Ok.ensures.need
    c.answer.new.databases c.in-Call.call c.in-Call.is
    (record { calls = c.self-in-Call.inside.calls; machine = c.take_back-in-Ok-Waits.new.self; work = c.self-in-Call.inside.work; positions = c.self-in-Call.inside.positions.items }) c.in-Ok-Waits.resource c.in-Ok-Waits.by
    (taken_back (record { calls = c.self.inside.calls; machine = c.self.inside.machine; work = c.self.inside.work; positions = c.self.inside.positions.items }) c.args.self.now (record { calls = c.self-in-Call.inside.calls; machine = c.self-in-Call.inside.machine; work = c.self-in-Call.inside.work; positions = c.self-in-Call.inside.positions.items }) c.next.new.self c.take_back-in-Ok-Waits.new.self c.self.view_is (c.self-in-Call.view_is ∙ comes.1) c.in-Ok.ensures.script c.in-Ok.ensures.limit c.take_back-in-Ok-Waits.ensures c.requires.rests)
    comes.0 c.in-Ok-Waits.ensures.others.committed (ap (λ (d : DatabasesState). d.regions) (rw c.in-Ok-Waits.field-0-is at c.in-Ok-Waits.ensures.stays)) c.in-Ok-Waits.ensures.others.dbds)

pub returns-in-Ok-Waits-clause-rests : goal.returns-in-Ok-Waits-clause-rests
returns-in-Ok-Waits-clause-rests c =
    let comes = rw c.in-Ok-Waits.field-0-is at c.in-Ok-Waits.ensures.ok in
    subst IsBetweenTurns (sym (taken_back (record { calls = c.self.inside.calls; machine = c.self.inside.machine; work = c.self.inside.work; positions = c.self.inside.positions.items }) c.args.self.now (record { calls = c.self-in-Call.inside.calls; machine = c.self-in-Call.inside.machine; work = c.self-in-Call.inside.work; positions = c.self-in-Call.inside.positions.items }) c.next.new.self c.take_back-in-Ok-Waits.new.self c.self.view_is (c.self-in-Call.view_is ∙ comes.1) c.in-Ok.ensures.script c.in-Ok.ensures.limit c.take_back-in-Ok-Waits.ensures c.requires.rests ∙ c.self.view_is)) c.requires.rests

pub returns-in-Ok-Abended-clause-advances : goal.returns-in-Ok-Abended-clause-advances
returns-in-Ok-Abended-clause-advances c =
    let comes = rw c.in-Ok-Abended.field-0-is at c.in-Ok-Abended.ensures.ok in
    rw (comes.2, sym c.self.view_is) (λ given ahead.
    abends
    (lent_job c.args.system.now c.args.job.now) given c.args.region c.args.databases.now
    (record { calls = c.self.inside.calls; machine = c.self.inside.machine; work = c.self.inside.work; positions = c.self.inside.positions.items })
    ahead c.in-Ok.need c.in-Ok.ensures.need
    (record { calls = c.self-in-Call.inside.calls; machine = c.take_back-in-Ok-Abended.new.self; work = c.self-in-Call.inside.work; positions = c.self-in-Call.inside.positions.items }) c.in-Call.call c.in-Ok-Abended.abend
    (taken_back (record { calls = c.self.inside.calls; machine = c.self.inside.machine; work = c.self.inside.work; positions = c.self.inside.positions.items }) c.args.self.now (record { calls = c.self-in-Call.inside.calls; machine = c.self-in-Call.inside.machine; work = c.self-in-Call.inside.work; positions = c.self-in-Call.inside.positions.items }) c.next.new.self c.take_back-in-Ok-Abended.new.self c.self.view_is (c.self-in-Call.view_is ∙ comes.1) c.in-Ok.ensures.script c.in-Ok.ensures.limit c.take_back-in-Ok-Abended.ensures c.requires.rests)
    c.in-Call.is (sym c.is_sync.ensures ∙ c.if-is_sync.false) comes.0 comes.3)

pub returns-in-Ok-Abended-clause-rests : goal.returns-in-Ok-Abended-clause-rests
returns-in-Ok-Abended-clause-rests c =
    let comes = rw c.in-Ok-Abended.field-0-is at c.in-Ok-Abended.ensures.ok in
    subst IsBetweenTurns (sym (taken_back (record { calls = c.self.inside.calls; machine = c.self.inside.machine; work = c.self.inside.work; positions = c.self.inside.positions.items }) c.args.self.now (record { calls = c.self-in-Call.inside.calls; machine = c.self-in-Call.inside.machine; work = c.self-in-Call.inside.work; positions = c.self-in-Call.inside.positions.items }) c.next.new.self c.take_back-in-Ok-Abended.new.self c.self.view_is (c.self-in-Call.view_is ∙ comes.1) c.in-Ok.ensures.script c.in-Ok.ensures.limit c.take_back-in-Ok-Abended.ensures c.requires.rests ∙ c.self.view_is)) c.requires.rests

pub returns-in-Err-answer-clause-unchanged : goal.returns-in-Err-answer-clause-unchanged
returns-in-Err-answer-clause-unchanged c =
    taken_back (record { calls = c.self.inside.calls; machine = c.self.inside.machine; work = c.self.inside.work; positions = c.self.inside.positions.items }) c.args.self.now (record { calls = c.self-in-Call.inside.calls; machine = c.self-in-Call.inside.machine; work = c.self-in-Call.inside.work; positions = c.self-in-Call.inside.positions.items }) c.next.new.self c.take_back-in-Err-answer.new.self c.self.view_is (c.self-in-Call.view_is ∙ c.in-Err-answer.ensures.err) c.in-Ok.ensures.script c.in-Ok.ensures.limit c.take_back-in-Err-answer.ensures c.requires.rests
    ∙ c.self.view_is

pub returns-in-Err-answer-clause-rests : goal.returns-in-Err-answer-clause-rests
returns-in-Err-answer-clause-rests c =
    subst IsBetweenTurns
    (sym (taken_back (record { calls = c.self.inside.calls; machine = c.self.inside.machine; work = c.self.inside.work; positions = c.self.inside.positions.items }) c.args.self.now (record { calls = c.self-in-Call.inside.calls; machine = c.self-in-Call.inside.machine; work = c.self-in-Call.inside.work; positions = c.self-in-Call.inside.positions.items }) c.next.new.self c.take_back-in-Err-answer.new.self c.self.view_is (c.self-in-Call.view_is ∙ c.in-Err-answer.ensures.err) c.in-Ok.ensures.script c.in-Ok.ensures.limit c.take_back-in-Err-answer.ensures c.requires.rests ∙ c.self.view_is))
    c.requires.rests

pub returns-in-Ended-clause-tells : goal.returns-in-Ended-clause-tells
returns-in-Ended-clause-tells c =
    rw (sym c.self.view_is)
    (silent_on c.args.telling.now.unit c.args.telling.now.room (lent_job c.args.system.now c.args.job.now) c.args.region c.args.databases.now
    (record { calls = c.self.inside.calls; machine = c.self.inside.machine; work = c.self.inside.work; positions = c.self.inside.positions.items })
    c.in-Ok.need c.in-Ok.ensures.need
    c.args.telling.now.told.items (λ trial. rw c.in-Ended.is refl))

pub returns-in-Abend-clause-tells : goal.returns-in-Abend-clause-tells
returns-in-Abend-clause-tells c =
    rw (sym c.self.view_is)
    (silent_on c.args.telling.now.unit c.args.telling.now.room (lent_job c.args.system.now c.args.job.now) c.args.region c.args.databases.now
    (record { calls = c.self.inside.calls; machine = c.self.inside.machine; work = c.self.inside.work; positions = c.self.inside.positions.items })
    c.in-Ok.need c.in-Ok.ensures.need
    c.args.telling.now.told.items (λ trial. rw c.in-Abend.is refl))

pub returns-then-is_sync-clause-tells : goal.returns-then-is_sync-clause-tells
returns-then-is_sync-clause-tells c =
    rw (sym c.self.view_is)
    (sync_on c.args.telling.now.unit c.args.telling.now.room (lent_job c.args.system.now c.args.job.now) c.args.region c.args.databases.now
    (record { calls = c.self.inside.calls; machine = c.self.inside.machine; work = c.self.inside.work; positions = c.self.inside.positions.items })
    c.in-Ok.need c.in-Ok.ensures.need
    c.in-Call.call c.in-Call.is c.args.telling.now.told.items (sym c.is_sync.ensures ∙ c.if-is_sync.true))

pub returns-in-Ok-Answered-clause-tells : goal.returns-in-Ok-Answered-clause-tells
returns-in-Ok-Answered-clause-tells c =
    rw (sym c.self.view_is)
    (told_on c.args.telling.now.unit c.args.telling.now.room (lent_job c.args.system.now c.args.job.now) c.args.region c.args.databases.now
    (record { calls = c.self.inside.calls; machine = c.self.inside.machine; work = c.self.inside.work; positions = c.self.inside.positions.items })
    c.in-Ok.need c.in-Ok.ensures.need
    c.in-Call.call c.in-Call.is c.answer.new.databases c.args.telling.now.told.items c.answer.new.telling.told.items c.in-Ok-Answered.ensures.tells)

pub returns-in-Ok-Waits-clause-tells : goal.returns-in-Ok-Waits-clause-tells
returns-in-Ok-Waits-clause-tells c =
    rw (sym c.self.view_is)
    (told_on c.args.telling.now.unit c.args.telling.now.room (lent_job c.args.system.now c.args.job.now) c.args.region c.args.databases.now
    (record { calls = c.self.inside.calls; machine = c.self.inside.machine; work = c.self.inside.work; positions = c.self.inside.positions.items })
    c.in-Ok.need c.in-Ok.ensures.need
    c.in-Call.call c.in-Call.is c.answer.new.databases c.args.telling.now.told.items c.answer.new.telling.told.items c.in-Ok-Waits.ensures.tells)

pub returns-in-Ok-Abended-clause-tells : goal.returns-in-Ok-Abended-clause-tells
returns-in-Ok-Abended-clause-tells c =
    rw (sym c.self.view_is)
    (told_on c.args.telling.now.unit c.args.telling.now.room (lent_job c.args.system.now c.args.job.now) c.args.region c.args.databases.now
    (record { calls = c.self.inside.calls; machine = c.self.inside.machine; work = c.self.inside.work; positions = c.self.inside.positions.items })
    c.in-Ok.need c.in-Ok.ensures.need
    c.in-Call.call c.in-Call.is c.answer.new.databases c.args.telling.now.told.items c.answer.new.telling.told.items c.in-Ok-Abended.ensures.tells)

pub returns-in-Err-answer-clause-full : goal.returns-in-Err-answer-clause-full
returns-in-Err-answer-clause-full c =
    rw (sym c.self.view_is)
    (untold_on c.args.telling.now.unit c.args.telling.now.room (lent_job c.args.system.now c.args.job.now) c.args.region c.args.databases.now
    (record { calls = c.self.inside.calls; machine = c.self.inside.machine; work = c.self.inside.work; positions = c.self.inside.positions.items })
    c.in-Ok.need c.in-Ok.ensures.need
    c.in-Call.call c.in-Call.is c.in-Err-answer.error c.in-Err-answer.ensures.full)
