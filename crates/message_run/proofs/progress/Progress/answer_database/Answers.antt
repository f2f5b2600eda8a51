use Rattle.std.proofs.Common.{◌≡◌, ◌-◌, List, Some, sym, ap, refl, ◌∙◌}
use Rattle.std.specs.Prelude.{slice_get}
use Rattle.model_system.specs.declared.pcb.Pcb.TheVariants.{Database}
use Rattle.model_data.specs.declared.call.Position.{Position}
use Rattle.message_run.specs.RunState.{RunState}
use Rattle.message_run.proofs.Database.{is_db_call, is_numbered, few_types, short_types, few_sectors, has_position, leads, are_free, are_granted, are_blocked, answers, tells_so, told_stand}
use Rattle.message_run.proofs.NextTold.{quiet_abend, quiet_blocked}
use Rattle.message_run.proofs.progress.Progress.answer_database.Goals as goal

pub database_numbered-dbd-requires-clause-most : goal.database_numbered-dbd-requires-clause-most
database_numbered-dbd-requires-clause-most c = is_numbered c.args.system.now.databases c.args.call c.args.number c.args.options c.requires.call

pub call-requires-clause-few : goal.call-requires-clause-few
call-requires-clause-few c = few_types c.database_numbered-dbd.result.now c.database_numbered-dbd.ensures.valid

pub call-requires-clause-short : goal.call-requires-clause-short
call-requires-clause-short c = short_types c.database_numbered-dbd.result.now c.database_numbered-dbd.ensures.valid

pub call-requires-clause-position : goal.call-requires-clause-position
call-requires-clause-position c =
    let stands : slice_get c.args.self.now.positions (c.args.call.pcb - 1) ≡ Some c.position_of-at.result.now =
    ap (λ (ps : List Position). slice_get ps (c.args.call.pcb - 1)) (sym (ap (λ (r : RunState). r.positions) c.self.view_is) ∙ sym c.deref.ensures.value) ∙ c.position_of-at.ensures in
    c.requires.standing.each (c.args.call.pcb - 1) c.args.number c.args.options c.database_numbered-dbd.result.now c.position_of-at.result.now c.requires.pcb c.database_numbered-dbd.ensures.value stands

pub call-requires-clause-call : goal.call-requires-clause-call
call-requires-clause-call c = is_db_call c.args.system.now.databases c.args.call c.args.number c.args.options c.database_numbered-dbd.result.now c.requires.call c.database_numbered-dbd.ensures.value c.requires.text

pub returns-in-Ok-Abend-clause-ok : goal.returns-in-Ok-Abend-clause-ok
returns-in-Ok-Abend-clause-ok c =
    let stands : slice_get c.args.self.now.positions (c.args.call.pcb - 1) ≡ Some c.position_of-at.result.now =
    ap (λ (ps : List Position). slice_get ps (c.args.call.pcb - 1)) (sym (ap (λ (r : RunState). r.positions) c.self.view_is) ∙ sym c.deref.ensures.value) ∙ c.position_of-at.ensures in (
      are_free c.args.system.now c.args.region c.args.databases.now c.args.self.now c.args.call c.args.number c.args.options c.database_numbered-dbd.result.now c.position_of-at.result.now c.database_numbered-dbd.ensures.value stands
          (rw c.in-Ok-Abend.field-0-is at c.in-Ok-Abend.ensures.blocked),
      refl,
      rw c.in-Ok-Abend.field-0-is at c.in-Ok-Abend.ensures.stays,
      leads c.args.system.now c.args.region c.args.databases.now c.args.self.now c.args.call c.args.number c.args.options c.database_numbered-dbd.result.now c.position_of-at.result.now c.database_numbered-dbd.ensures.value stands
          c.in-Ok-Abend.abend (rw c.in-Ok-Abend.field-0-is at c.in-Ok-Abend.ensures.abend),
    )

pub returns-in-Ok-Blocked-clause-ok : goal.returns-in-Ok-Blocked-clause-ok
returns-in-Ok-Blocked-clause-ok c =
    let stands : slice_get c.args.self.now.positions (c.args.call.pcb - 1) ≡ Some c.position_of-at.result.now =
    ap (λ (ps : List Position). slice_get ps (c.args.call.pcb - 1)) (sym (ap (λ (r : RunState). r.positions) c.self.view_is) ∙ sym c.deref.ensures.value) ∙ c.position_of-at.ensures in (
      are_blocked c.args.system.now c.args.region c.args.databases.now c.args.self.now c.args.call c.args.number c.args.options c.database_numbered-dbd.result.now c.position_of-at.result.now c.database_numbered-dbd.ensures.value stands
          c.call.new.self c.in-Ok-Blocked.blocked.resource c.in-Ok-Blocked.blocked.by (rw c.in-Ok-Blocked.field-0-is at c.in-Ok-Blocked.ensures.blocked) (rw c.in-Ok-Blocked.field-0-is at c.in-Ok-Blocked.ensures.asks),
      refl,
    )

pub returns-in-Ok-Answered-clause-ok : goal.returns-in-Ok-Answered-clause-ok
returns-in-Ok-Answered-clause-ok c =
    let stands : slice_get c.args.self.now.positions (c.args.call.pcb - 1) ≡ Some c.position_of-at.result.now =
    ap (λ (ps : List Position). slice_get ps (c.args.call.pcb - 1)) (sym (ap (λ (r : RunState). r.positions) c.self.view_is) ∙ sym c.deref.ensures.value) ∙ c.position_of-at.ensures in
    rw (c.tell_answer.ensures.told, c.tell_answer.ensures.state) (
      are_granted c.args.system.now c.args.region c.args.databases.now c.args.self.now c.args.call c.args.number c.args.options c.database_numbered-dbd.result.now c.position_of-at.result.now c.database_numbered-dbd.ensures.value stands
          c.call.new.self (rw c.in-Ok-Answered.field-0-is at c.in-Ok-Answered.ensures.blocked) (rw c.in-Ok-Answered.field-0-is at c.in-Ok-Answered.ensures.asks),
      answers c.args.system.now c.args.region c.args.databases.now c.args.self.now c.args.call c.args.number c.args.options c.database_numbered-dbd.result.now c.position_of-at.result.now c.database_numbered-dbd.ensures.value stands
          c.call.new.self c.in-Ok-Answered.answered c.requires.region
          (rw c.in-Ok-Answered.field-0-is at c.in-Ok-Answered.ensures.abend)
          (rw c.in-Ok-Answered.field-0-is at c.in-Ok-Answered.ensures.gives)
          (rw c.in-Ok-Answered.field-0-is at c.in-Ok-Answered.ensures.leaves),
    )

pub returns-in-Ok-Answered-clause-standing : goal.returns-in-Ok-Answered-clause-standing
returns-in-Ok-Answered-clause-standing c =
    rw c.tell_answer.ensures.state (told_stand c.args.system.now.databases c.args._pcbs.now c.args.self.now c.args.call.pcb c.args.number c.args.options c.database_numbered-dbd.result.now c.in-Ok-Answered.answered
    c.requires.standing c.requires.pcb c.database_numbered-dbd.ensures.value (rw c.in-Ok-Answered.field-0-is at c.in-Ok-Answered.ensures.stands))

pub tell_answer-requires-clause-pcbs : goal.tell_answer-requires-clause-pcbs
tell_answer-requires-clause-pcbs c =
    has_position c.args.system.now.databases c.args._pcbs.now c.args.self.now.positions c.args.call.pcb (Database c.args.number c.args.options) c.requires.standing c.requires.some c.requires.pcb

pub call-requires-clause-sectors : goal.call-requires-clause-sectors
call-requires-clause-sectors c = few_sectors c.database_numbered-dbd.result.now c.database_numbered-dbd.ensures.valid

pub returns-in-Ok-Abend-clause-tells : goal.returns-in-Ok-Abend-clause-tells
returns-in-Ok-Abend-clause-tells c =
    let stands : slice_get c.args.self.now.positions (c.args.call.pcb - 1) ≡ Some c.position_of-at.result.now =
    ap (λ (ps : List Position). slice_get ps (c.args.call.pcb - 1)) (sym (ap (λ (r : RunState). r.positions) c.self.view_is) ∙ sym c.deref.ensures.value) ∙ c.position_of-at.ensures in
    tells_so c.args.system.now c.args.region c.args.databases.now c.args.self.now c.args.call c.args.number c.args.options c.database_numbered-dbd.result.now c.position_of-at.result.now c.database_numbered-dbd.ensures.value stands
    c.args.telling.now.unit c.args.telling.now.room c.call.new.self c.args.telling.now.told.items c.call.new.telling.told.items c.in-Ok-Abend.ensures.tells c.in-Ok-Abend.ensures.slots

pub returns-in-Ok-Blocked-clause-tells : goal.returns-in-Ok-Blocked-clause-tells
returns-in-Ok-Blocked-clause-tells c =
    let stands : slice_get c.args.self.now.positions (c.args.call.pcb - 1) ≡ Some c.position_of-at.result.now =
    ap (λ (ps : List Position). slice_get ps (c.args.call.pcb - 1)) (sym (ap (λ (r : RunState). r.positions) c.self.view_is) ∙ sym c.deref.ensures.value) ∙ c.position_of-at.ensures in
    tells_so c.args.system.now c.args.region c.args.databases.now c.args.self.now c.args.call c.args.number c.args.options c.database_numbered-dbd.result.now c.position_of-at.result.now c.database_numbered-dbd.ensures.value stands
    c.args.telling.now.unit c.args.telling.now.room c.call.new.self c.args.telling.now.told.items c.call.new.telling.told.items c.in-Ok-Blocked.ensures.tells c.in-Ok-Blocked.ensures.slots

pub returns-in-Ok-Answered-clause-tells : goal.returns-in-Ok-Answered-clause-tells
returns-in-Ok-Answered-clause-tells c =
    let stands : slice_get c.args.self.now.positions (c.args.call.pcb - 1) ≡ Some c.position_of-at.result.now =
    ap (λ (ps : List Position). slice_get ps (c.args.call.pcb - 1)) (sym (ap (λ (r : RunState). r.positions) c.self.view_is) ∙ sym c.deref.ensures.value) ∙ c.position_of-at.ensures in
    tells_so c.args.system.now c.args.region c.args.databases.now c.args.self.now c.args.call c.args.number c.args.options c.database_numbered-dbd.result.now c.position_of-at.result.now c.database_numbered-dbd.ensures.value stands
    c.args.telling.now.unit c.args.telling.now.room c.call.new.self c.args.telling.now.told.items c.call.new.telling.told.items c.in-Ok-Answered.ensures.tells c.in-Ok-Answered.ensures.slots

pub returns-in-Ok-Abend-clause-quiet : goal.returns-in-Ok-Abend-clause-quiet
returns-in-Ok-Abend-clause-quiet c =
    quiet_abend _ _ c.in-Ok-Abend.abend _ c.args.telling.now.room c.args.telling.now.told.items c.call.new.telling.told.items (rw c.in-Ok-Abend.field-0-is at c.in-Ok-Abend.ensures.abend) c.in-Ok-Abend.ensures.tells

pub returns-in-Ok-Blocked-clause-quiet : goal.returns-in-Ok-Blocked-clause-quiet
returns-in-Ok-Blocked-clause-quiet c =
    quiet_blocked _ (c.in-Ok-Blocked.blocked.resource, c.in-Ok-Blocked.blocked.by) _ _ c.args.telling.now.room c.args.telling.now.told.items c.call.new.telling.told.items
    (rw c.in-Ok-Blocked.field-0-is at c.in-Ok-Blocked.ensures.blocked) c.in-Ok-Blocked.ensures.tells
