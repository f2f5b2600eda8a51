use Rattle.std.proofs.Common.{sym, ap, ◌∙◌}
use Rattle.std.specs.List.{count_by}
use Rattle.std.specs.Option.{is_some}
use Rattle.tm_machine.proofs.Raising.{follow_one, followed_at}
use Rattle.tm_machine.proofs.Started.{follows_enqueued, parts_enqueued}
use Rattle.lasting_state.proofs.Told.{where_full}
use Rattle.tm_machine.proofs.Roomed.{full_tells, kept_counts, new_longer, new_tells, code_here, full_answer, joined_here, kept_here, new_answer}
use Rattle.tm_machine.proofs.parts.Parts.enqueue.Goals as goal

pub invariant_of-self : goal.invariant_of-self
invariant_of-self c =
    let ok = (rw c.in-Ok-New.field-0-is at c.in-Ok-New.ensures.ok) in
    let new = (rw (← c.self.view_is) at c.requires.new) in
    let code = code_here c.self.inside.system c.self.inside.tables c.self.inside.codes c.self.inside.regions.items c.self.invariant c.args.terminal.now c.args.number c.args.segments.now c.args.input c.in-Ok.kept new c.in-Ok.ensures in
    let joined = joined_here c.self.inside.system c.self.inside.tables c.self.inside.codes c.self.inside.regions.items c.self.invariant c.args.terminal.now c.args.number c.args.segments.now c.args.input c.in-Ok.kept new c.in-Ok.ensures in
    let follow = follow_one c.self.inside.system.codes c.args.input.code c.waiting-waiting.result c.self.inside.codes c.follow_at.new.codes c.queues.result.now c.enqueue.new.self.queues
    (followed_at c.self.inside.system.codes c.args.input.code c.args.input.code_index c.waiting-waiting.result c.self.inside.codes c.follow_at.new.codes new.coded c.follow_at.ensures) c.waiting-waiting.ensures c.queues.ensures in
    let follows = follows_enqueued c.self.inside.system c.self.inside.tables c.self.inside.codes c.self.inside.regions.items c.args.terminal.now c.args.number c.in-Ok.kept c.self.invariant c.in-Ok-New.ensures.above c.enqueue.new.self ok.2 c.follow_at.new.codes c.args.input.code (sym code) follow in
    parts_enqueued c.self.inside.system c.self.inside.tables c.self.inside.codes c.self.inside.regions.items c.args.terminal.now c.args.number c.in-Ok.kept c.self.invariant c.in-Ok-New.ensures.above c.enqueue.new.self ok.2 joined c.follow_at.new.codes follows

pub returns-in-Ok-New-clause-answer : goal.returns-in-Ok-New-clause-answer
returns-in-Ok-New-clause-answer c =
    let ok = (rw c.in-Ok-New.field-0-is at c.in-Ok-New.ensures.ok) in
    let new = (rw (← c.self.view_is) at c.requires.new) in
    let code = code_here c.self.inside.system c.self.inside.tables c.self.inside.codes c.self.inside.regions.items c.self.invariant c.args.terminal.now c.args.number c.args.segments.now c.args.input c.in-Ok.kept new c.in-Ok.ensures in
    let kept = kept_here c.self.inside.system c.self.inside.tables c.self.inside.codes c.self.inside.regions.items c.self.invariant c.args.terminal.now c.args.number c.args.segments.now c.args.input c.in-Ok.kept new c.in-Ok.ensures in
    let follow = follow_one c.self.inside.system.codes c.args.input.code c.waiting-waiting.result c.self.inside.codes c.follow_at.new.codes c.queues.result.now c.enqueue.new.self.queues
    (followed_at c.self.inside.system.codes c.args.input.code c.args.input.code_index c.waiting-waiting.result c.self.inside.codes c.follow_at.new.codes new.coded c.follow_at.ensures) c.waiting-waiting.ensures c.queues.ensures in
    let follows = follows_enqueued c.self.inside.system c.self.inside.tables c.self.inside.codes c.self.inside.regions.items c.args.terminal.now c.args.number c.in-Ok.kept c.self.invariant c.in-Ok-New.ensures.above c.enqueue.new.self ok.2 c.follow_at.new.codes c.args.input.code (sym code) follow in
    rw (sym c.self.view_is) (new_answer c.self.inside.system c.self.inside.tables c.self.inside.codes c.self.inside.regions.items c.self.invariant c.args.terminal.now c.args.number c.args.segments.now c.in-Ok.kept kept c.args.input c.requires.segment c.count_busy-busy.result (c.count_busy-busy.ensures ∙ ap (count_by is_some) c.deref.ensures.value)
    new c.in-Ok-New.ensures.above c.enqueue.new.self c.follow_at.new.codes c.in-Ok-New.id ok.0 ok.1 ok.2 ok.3 follows)

pub returns-in-Ok-Full-clause-answer : goal.returns-in-Ok-Full-clause-answer
returns-in-Ok-Full-clause-answer c =
    let ok = (rw c.in-Ok-Full.field-0-is at c.in-Ok-Full.ensures.ok) in
    let new = (rw (← c.self.view_is) at c.requires.new) in
    let kept = kept_here c.self.inside.system c.self.inside.tables c.self.inside.codes c.self.inside.regions.items c.self.invariant c.args.terminal.now c.args.number c.args.segments.now c.args.input c.in-Ok.kept new c.in-Ok.ensures in
    rw (sym c.self.view_is) (full_answer c.self.inside.system c.self.inside.tables c.self.inside.codes c.self.inside.regions.items c.self.invariant c.args.terminal.now c.args.number c.args.segments.now c.in-Ok.kept kept c.args.input c.requires.segment c.count_busy-busy.result (c.count_busy-busy.ensures ∙ ap (count_by is_some) c.deref.ensures.value)
    new c.enqueue.new.self c.in-Ok-Full.need c.in-Ok-Full.limit ok.0 ok.1 ok.2 ok.3)

pub follow_at-requires-clause-within : goal.follow_at-requires-clause-within
follow_at-requires-clause-within c =
    let new = (rw (← c.self.view_is) at c.requires.new) in
    new.code_within

pub enqueue-requires-clause-count : goal.enqueue-requires-clause-count
enqueue-requires-clause-count c = kept_counts c.args.input c.args.segments.now c.in-Ok.kept c.in-Ok.ensures c.requires.segment c.requires.new.few

pub returns-in-Ok-New-clause-told : goal.returns-in-Ok-New-clause-told
returns-in-Ok-New-clause-told c =
    let ok = (rw c.in-Ok-New.field-0-is at c.in-Ok-New.ensures.ok) in
    let told = (rw c.in-Ok-New.field-0-is at c.in-Ok-New.ensures.told) in
    let new = (rw (← c.self.view_is) at c.requires.new) in
    let kept = kept_here c.self.inside.system c.self.inside.tables c.self.inside.codes c.self.inside.regions.items c.self.invariant c.args.terminal.now c.args.number c.args.segments.now c.args.input c.in-Ok.kept new c.in-Ok.ensures in
    rw (sym c.self.view_is) (new_tells c.self.inside.system c.self.inside.tables c.self.inside.codes c.self.inside.regions.items c.self.invariant c.args.terminal.now c.args.number c.args.segments.now c.in-Ok.kept kept c.args.input c.requires.segment c.count_busy-busy.result (c.count_busy-busy.ensures ∙ ap (count_by is_some) c.deref.ensures.value) new c.args.telling.now.room c.in-Ok-New.id ok.0 ok.1 c.args.telling.now.told.items c.enqueue.new.telling.told.items told)

pub returns-in-Ok-Full-clause-told : goal.returns-in-Ok-Full-clause-told
returns-in-Ok-Full-clause-told c =
    let ok = (rw c.in-Ok-Full.field-0-is at c.in-Ok-Full.ensures.ok) in
    let told = (rw c.in-Ok-Full.field-0-is at c.in-Ok-Full.ensures.told) in
    let new = (rw (← c.self.view_is) at c.requires.new) in
    let kept = kept_here c.self.inside.system c.self.inside.tables c.self.inside.codes c.self.inside.regions.items c.self.invariant c.args.terminal.now c.args.number c.args.segments.now c.args.input c.in-Ok.kept new c.in-Ok.ensures in
    rw (sym c.self.view_is) (full_tells c.self.inside.system c.self.inside.tables c.self.inside.codes c.self.inside.regions.items c.self.invariant c.args.terminal.now c.args.number c.args.segments.now c.in-Ok.kept kept c.args.input c.requires.segment c.count_busy-busy.result (c.count_busy-busy.ensures ∙ ap (count_by is_some) c.deref.ensures.value) new c.args.telling.now.room c.in-Ok-Full.need c.in-Ok-Full.limit ok.0 ok.1 ok.2 c.args.telling.now.told.items c.enqueue.new.telling.told.items told)

pub returns-in-Err-clause-full : goal.returns-in-Err-clause-full
returns-in-Err-clause-full c =
    let new = (rw (← c.self.view_is) at c.requires.new) in
    let kept = kept_here c.self.inside.system c.self.inside.tables c.self.inside.codes c.self.inside.regions.items c.self.invariant c.args.terminal.now c.args.number c.args.segments.now c.args.input c.in-Ok.kept new c.in-Ok.ensures in
    rw (sym c.self.view_is) (where_full c.in-Err.untold (new_longer c.self.inside.system c.self.inside.tables c.self.inside.codes c.self.inside.regions.items c.self.invariant c.args.terminal.now c.args.number c.args.segments.now c.in-Ok.kept kept c.args.input c.requires.segment c.count_busy-busy.result (c.count_busy-busy.ensures ∙ ap (count_by is_some) c.deref.ensures.value) new c.args.telling.now.room) c.in-Err.ensures.full)

pub returns-in-Ok-New-clause-databases : goal.returns-in-Ok-New-clause-databases
returns-in-Ok-New-clause-databases c =
    let ok = (rw c.in-Ok-New.field-0-is at c.in-Ok-New.ensures.ok) in
    rw (sym c.self.view_is) (ap (λ t. t.databases) ok.2)

pub returns-in-Ok-Full-clause-databases : goal.returns-in-Ok-Full-clause-databases
returns-in-Ok-Full-clause-databases c =
    let ok = (rw c.in-Ok-Full.field-0-is at c.in-Ok-Full.ensures.ok) in
    rw (sym c.self.view_is) (ap (λ t. t.databases) ok.3)
