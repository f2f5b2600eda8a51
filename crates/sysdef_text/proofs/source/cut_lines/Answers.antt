use Rattle.std.proofs.Common.{arith}
use Rattle.std.proofs.lemmas.Grind.{common_steps}
use Rattle.sysdef_text.proofs.FirstLine.{first_line, last_line}
use Rattle.sysdef_text.proofs.source.cut_lines.Goals as goal

pub loop-line-preserved : goal.loop-line-preserved
loop-line-preserved c =
    grind (arith, common_steps, first_line c.loop-line.rest.now c.in-Some.line.now c.in-Some.behind.now c.in-Some.ensures)

pub returns : goal.returns
returns c =
    grind (arith, common_steps, last_line c.loop-line.rest.now c.in_default.ensures)
