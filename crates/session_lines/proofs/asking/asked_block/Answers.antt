use Rattle.std.proofs.Common.{length}
use Rattle.session_lines.proofs.asking.asked_block.Goals as goal

pub returns-then-is_command-clause-can : goal.returns-then-is_command-clause-can
returns-then-is_command-clause-can c = c.command_asked.ensures.can (length c.args.system.now.regions)
