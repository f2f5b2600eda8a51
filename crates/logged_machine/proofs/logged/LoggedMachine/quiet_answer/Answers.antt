-- the machine stands where it stood
use Rattle.std.proofs.Common.{sym}
use Rattle.logged_machine.proofs.AskedQuiet.{quiet_answer}
use Rattle.logged_machine.proofs.logged.LoggedMachine.quiet_answer.Goals as goal

pub returns-clause-answers : goal.returns-clause-answers
returns-clause-answers g c = rw (sym c.self.view_is) (quiet_answer c.self.inside.parts c.is_quiet.result c.region_count-regions.ensures.stays c.is_quiet.ensures)
