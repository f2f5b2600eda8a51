-- Hierarchic order is a total order, and paths that compare alike are one.
use Rattle.std.specs.Ordering.{nat_cmp}
use Rattle.std.specs.Cmp.{IsTotalOrder}
use Rattle.std.specs.Cmp.Lexicographic.{nat_list_cmp_total}
use Rattle.std.specs.FinMap.{slice_cmp-IsAntisymmetric}
use Rattle.std.proofs.lemmas.Cmp.{nat_cmp_total, on_total, then_total, lists_total}
use Rattle.std.proofs.lemmas.Map.Lookups.{CmpEqualImpliesEq, exact_unsigned, exact_bytes, exact_pairs}
use Rattle.model_data.specs.Path.{key_cmp, pair_cmp, path_cmp}

pub key_total : IsTotalOrder key_cmp
key_total = nat_list_cmp_total

pub pair_total : IsTotalOrder pair_cmp
pair_total = then_total (on_total (λ p. p.0) nat_cmp_total) (on_total (λ p. p.1) nat_list_cmp_total)

pub path_total : IsTotalOrder path_cmp
path_total = lists_total pair_total

pub exact_pair : CmpEqualImpliesEq pair_cmp
exact_pair = exact_pairs nat_cmp key_cmp exact_unsigned exact_bytes

pub exact_path : CmpEqualImpliesEq path_cmp
exact_path = slice_cmp-IsAntisymmetric exact_pair
