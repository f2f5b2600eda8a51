use Rattle.std.proofs.Common.{Option, IfSome, length, sym, subst}
use Rattle.tm_types.specs.declared.dbd.SegType.{SegType}
use Rattle.tm_types.specs.SegTypes.{IsTypeAt}
use Rattle.sysdef_check.proofs.Types.{type_fits}
use Rattle.sysdef_check.proofs.databases.add_type.Goals as goal

pub push-requires : goal.push-requires
push-requires c =
    let fits = type_fits c.args.before.now c.args.content.now c.requires.parent c.requires.key c.requires.range in
    let same : IsTypeAt (length c.args.before.now) c.in-Some.segment = subst (λ (o : Option SegType). IfSome o (IsTypeAt (length c.args.before.now))) (sym c.in-Some.ensures) fits in
    rw c.requires.place same
