use Rattle.std.proofs.Common.{sym}
use Rattle.script_run.proofs.AllowedLines.{allowed_at}
use Rattle.script_run.proofs.steps.step.Goals as goal

pub execute-requires-clause-allowed : goal.execute-requires-clause-allowed
execute-requires-clause-allowed c = allowed_at c.args.program.now c.place-2.result c.in-Some.line.now c.in-Some.ensures.valid (sym c.in-Some.ensures.value)
