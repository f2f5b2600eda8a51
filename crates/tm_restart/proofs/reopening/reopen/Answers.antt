use Rattle.std.proofs.Common.{sym, subst}
use Rattle.tm_restart.specs.GivenSlots.{GivenSlots}
use Rattle.tm_restart.specs.PreparedLife.{IsMadeOf}
use Rattle.tm_restart.proofs.reopening.reopen.Goals as goal

pub lay-requires-clause-made_of : goal.lay-requires-clause-made_of
lay-requires-clause-made_of g c tells =
    let shown = (g.D.Disk.state c.args.disk.now).shown in
    subst (λ (l : GivenSlots). IsMadeOf c.args.system.now c.args.text.now l c.in-Ok.made.parts c.in-Ok.made.lasting c.in-Ok.made.now shown) (sym c.deref.ensures.value) (c.in-Ok.ensures.made_of shown (c.requires.seen tells))
