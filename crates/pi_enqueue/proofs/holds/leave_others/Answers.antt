use Rattle.std.proofs.Common.{◌==◌, not, rules}
use Rattle.std.proofs.lemmas.Map.Made.{filter_same_pairs}
use Rattle.pi_enqueue.proofs.holds.leave_others.Goals as goal

pub returns : goal.returns
returns c = filter_same_pairs _ (λ hold. not (hold.0.region == c.args.region)) _ (λ k v b w g h. search rules) _ _ c.retain.ensures.filtered
