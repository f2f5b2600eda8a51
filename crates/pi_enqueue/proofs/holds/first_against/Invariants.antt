use Rattle.std.proofs.Common.{◌≡◌, filter, map, slice_get}
use Rattle.model_data.specs.Table.{holders_against}
use Rattle.pi_enqueue.proofs.Keys.{is_other}
use Rattle.pi_enqueue.proofs.holds.first_against.Given as goal

abbrev pub invariant-loop-holder : goal.invariant-loop-holder
invariant-loop-holder l =
    slice_get (map (λ e. e.0.region) (filter (is_other l.request) l.holder-iterator)) 0 ≡ slice_get (holders_against l.request l.holds.entries) 0
