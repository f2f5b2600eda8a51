-- all is as it was handed back
use Rattle.std.proofs.Common.{sym, ◌∙◌, refl}
use Rattle.session_lives.proofs.Refusals.{refused_back}
use Rattle.session_lives.proofs.opening.refuse.Goals as goal

pub returns-clause-refused : goal.returns-clause-refused
returns-clause-refused g c =
    refused_back g.D.Disk.state c.args.refused.disk c.args.refused.system c.args.refused.text c.args.last c.args.emptied c.args.stopped c.args.cold c.args.began c.args.kept c.args.refused.error _
    (sym c.is_disk.ensures ∙ c.if-is_disk.false)
    (record {
      after = record { disk = c.args.refused.disk; system = c.args.refused.system; text = c.args.refused.text; last = c.args.last; emptied = c.args.emptied; stopped = c.args.stopped };
      place = refl;
      disk_is = refl;
      system_is = refl;
      text_is = refl;
      last_is = refl;
      emptied_is = refl;
      stopped_is = refl;
      kept_is = refl;
    })
