use Rattle.sysdef_check.proofs.Defines.{defines_system}
use Rattle.sysdef_check.proofs.build.system_of.Goals as goal

pub new-requires : goal.new-requires
new-requires c = rw c.in_ok-parts_in.ensures (defines_system c.args.lines.items c.requires.definition c.requires.kept)
