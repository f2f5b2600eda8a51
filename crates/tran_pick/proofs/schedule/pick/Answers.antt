use Rattle.std.proofs.Common.{◌-◌, [], sym, ◌∙◌, subst, slice_index_or}
use Rattle.std.specs.Option.{IfSome, IsSome}
use Rattle.model_system.specs.Codes.{code_at}
use Rattle.tran_pick.specs.RegionPick.{offered_in, IsUnheldIfSerial}
use Rattle.tran_pick.proofs.Found.{picked_code}
use Rattle.tran_pick.proofs.Law.{picked_from, nothing_from}
use Rattle.tran_pick.proofs.Serial.{picked_serial}
use Rattle.tran_pick.proofs.schedule.pick.Goals as goal

pub returns-in-Some-clause-picked : goal.returns-in-Some-clause-picked
returns-in-Some-clause-picked c = (
  c.in-Some.candidate,
  sym c.code.ensures,
  sym c.id.ensures,
  picked_from (offered_in c.args.queues.now.queued) c.args.system.now.codes c.args.state.now (slice_index_or c.args.system.now.regions (c.args.region - 1) []) c.in-Some.candidate
      (sym c.in-Some.ensures.value),
)

pub returns-in-Some-clause-code : goal.returns-in-Some-clause-code
returns-in-Some-clause-code c =
    subst (λ name. IsSome (code_at c.args.system.now.codes name)) (sym c.code.ensures)
    (subst (λ picked. IfSome picked (λ one. IsSome (code_at c.args.system.now.codes one.code))) (sym c.candidate_for.ensures.value ∙ c.in-Some.is)
    (picked_code (offered_in c.args.queues.now.queued) (slice_index_or c.args.system.now.regions (c.args.region - 1) []) c.args.system.now.codes c.args.state.now))

pub returns-in-Some-clause-serial : goal.returns-in-Some-clause-serial
returns-in-Some-clause-serial c =
    subst (λ name. IfSome (code_at c.args.system.now.codes name) (IsUnheldIfSerial c.args.queues.now.queued)) (sym c.code.ensures)
    (subst (λ picked. IfSome picked (λ one. IfSome (code_at c.args.system.now.codes one.code) (IsUnheldIfSerial c.args.queues.now.queued))) (sym c.candidate_for.ensures.value ∙ c.in-Some.is)
    (picked_serial c.args.queues.now.queued (slice_index_or c.args.system.now.regions (c.args.region - 1) []) c.args.system.now.codes c.args.state.now c.candidate_for.ensures.valid.apart))

pub returns-in-None-clause-none : goal.returns-in-None-clause-none
returns-in-None-clause-none c =
    nothing_from (offered_in c.args.queues.now.queued) c.args.system.now.codes c.args.state.now (slice_index_or c.args.system.now.regions (c.args.region - 1) [])
    (sym c.in-None.ensures.value)
