use Rattle.std.proofs.Common.{◌≡◌, Ok, arith}
use Rattle.std.proofs.lemmas.Grind.{common_steps}
use Rattle.sysdef_text.specs.declared.modes.Mode.TheVariants.{Start}
use Rattle.sysdef_text.specs.Definitions.{definition}
use Rattle.sysdef_text.proofs.Ranges.{is_definition}
use Rattle.sysdef_text.proofs.reader.definition.Goals as goal

pub of-requires : goal.of-requires
of-requires c =
    let read : definition Start c.args.over 1 c.args.lines.now ≡ Ok c.push-in-Last.new.self.items = grind (arith, common_steps) in
    is_definition c.args.over c.args.lines.now c.push-in-Last.new.self.items read
