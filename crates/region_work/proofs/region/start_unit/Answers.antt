use Rattle.std.proofs.Common.{◌≡◌, sym, ap, ◌∙◌, subst}
use Rattle.std.specs.Prelude.{IfOk, IfSome}
use Rattle.std.specs.Option.{option_copied}
use Rattle.model_system.specs.System.{System}
use Rattle.system_types.specs.Jobs.{lent_job}
use Rattle.io_pcb.specs.Pads.{IsPadText}
use Rattle.message_run.specs.WorkAhead.{IsStart, given_with}
use Rattle.region_work.specs.RegionWork.{given_in}
use Rattle.region_work.proofs.Going.{starts}
use Rattle.region_work.proofs.region.start_unit.Goals as goal

pub start-requires : goal.start-requires
start-requires c = subst (λ o. IfSome o IsPadText) (sym c.pad_of-pad.ensures) c.requires.pad.text

pub returns : goal.returns
returns c =
    let same : given_with c.args.message.now (option_copied c.pad_of-pad.result) ≡ given_in c.args.tables.now.conversations c.args.message.now =
    ap (given_with c.args.message.now) c.pad_of-pad.ensures ∙ c.requires.pad.given in
    starts c.args.system.now c.args.code.now (given_in c.args.tables.now.conversations c.args.message.now) c.job_of.result c.start.result c.job_of.ensures.value
    (subst (λ g. IfOk c.start.result (λ run. (other : System) → IsStart (lent_job other c.job_of.result) g run)) same c.start.ensures)
