use Rattle.std.proofs.Common.{◌≡◌, sym, subst}
use Rattle.std.specs.Prelude.{◌↔◌, Some}
use Rattle.tm_types.specs.Commands.{SpellsCommand}
use Rattle.tm_types.proofs.Commands.{reads_spelled}
use Rattle.tm_types.proofs.command.LastingCommand.read.Goals as goal

pub returns-clause-spelled : goal.returns-clause-spelled
returns-clause-spelled c = λ command. subst (λ r. (r ≡ Some command) ↔ SpellsCommand c.args.text.now command) (sym c.command_of.ensures) (reads_spelled c.args.text.now command)
