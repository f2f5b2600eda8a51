use Rattle.std.proofs.Common.{sym, ap, ◌∙◌}
use Rattle.std.specs.BTreeMap.{is_at}
use Rattle.model_data.specs.Modes.{holder_cmp}
use Rattle.pi_enqueue.proofs.Holding.{reset_absent}
use Rattle.pi_enqueue.proofs.holds.reset.Goals as goal

pub returns-in-None : goal.returns-in-None
returns-in-None c =
    ap (λ m. m.entries) c.get_mut.follows.holds-at-none ∙ sym (reset_absent (is_at (holder_cmp c.args.holder.now)) c.args.mode c.args.holds.now.entries (sym c.in-None.ensures.value))
