use Rattle.std.proofs.Common.{sym, ap, ◌∙◌}
use Rattle.sysdef_rows.specs.Values.{capped_pad}
use Rattle.sysdef_rows.proofs.Pads.{pad_is}
use Rattle.sysdef_rows.proofs.values.pad_of.Goals as goal

pub returns-in-Ok : goal.returns-in-Ok
returns-in-Ok c = ap capped_pad (sym c.in-Ok.is ∙ c.number_between.ensures.value) ∙ pad_is c.args.text.now

pub returns-in-Err : goal.returns-in-Err
returns-in-Err c = c.capped.ensures ∙ ap capped_pad (sym c.in-Err.is ∙ c.number_between.ensures.value) ∙ pad_is c.args.text.now
