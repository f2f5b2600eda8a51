use Rattle.std.proofs.Common.{◌≡◌, ◌∙◌, refl, arith}
use Rattle.std.proofs.lemmas.Grind.{common_steps}
use Rattle.sysdef_rules.specs.declared.cross.CrossRule.TheVariants.{OfSegments, WrongCount}
use Rattle.sysdef_rules.specs.declared.segments.SegmentRule.TheVariants.{ParentAstray, KeyTooLong}
use Rattle.sysdef_check.specs.Systems.{databases_in, programs_in}
use Rattle.sysdef_check.proofs.Kept.{rule_kept}
use Rattle.sysdef_check.proofs.Limits.{few_databases, programs_listed}
use Rattle.sysdef_check.proofs.build.parts_in.Goals as goal

pub databases_in-requires-clause-parents : goal.databases_in-requires-clause-parents
databases_in-requires-clause-parents c = rw c.deref-2.ensures.value (rule_kept c.args.lines.items 2 (OfSegments ParentAstray) c.requires.kept refl)

pub databases_in-requires-clause-keys : goal.databases_in-requires-clause-keys
databases_in-requires-clause-keys c = rw c.deref-2.ensures.value (rule_kept c.args.lines.items 3 (OfSegments KeyTooLong) c.requires.kept refl)

pub databases_in-requires-clause-counts : goal.databases_in-requires-clause-counts
databases_in-requires-clause-counts c = rw c.deref-2.ensures.value (rule_kept c.args.lines.items 16 WrongCount c.requires.kept refl)

pub databases_in-requires-clause-range : goal.databases_in-requires-clause-range
databases_in-requires-clause-range c = rw c.deref-2.ensures.value c.requires.definition.in_range

pub pcb_lists-requires : goal.pcb_lists-requires
pcb_lists-requires c =
    let made = rw c.deref-2.ensures.value at c.in_ok-databases.ensures in
    let few = few_databases c.args.lines.items (rule_kept c.args.lines.items 16 WrongCount c.requires.kept refl) in
    rw (c.deref-7.ensures.value, made) (omega (arith, few))

pub returns : goal.returns
returns c =
    let made = rw c.deref-2.ensures.value at c.in_ok-databases.ensures in
    let pcbs = rw (c.deref-7.ensures.value, c.deref-8.ensures.value, made) at c.in_ok-pcbs.ensures in
    let programs : c.in_ok-programs.programs.items ≡ programs_in (databases_in c.args.lines.items) c.args.lines.items c.args.lines.items =
    (rw pcbs at c.in_ok-programs.ensures.programs) ∙ programs_listed (databases_in c.args.lines.items) c.args.lines.items c.args.lines.items in
    rw (made, programs) (grind (arith, common_steps))
