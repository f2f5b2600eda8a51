-- One region more is counted.
use Rattle.std.proofs.Common.{◌≡◌, ℕ, ◌+◌, ◌<◌, true, false, List, length, take, get_or, sym, ap, ◌∙◌}
use Rattle.std.specs.Prelude.{Option, count_by, is_some}
use Rattle.std.proofs.lemmas.List.Sums.{count_by_more_yes, count_by_more_no}
use Rattle.region_work.specs.declared.region.Busy.{Busy}

pub counted_region : (regions : List (Option Busy)) (index n : ℕ) (region : Option Busy) → index < length regions → region ≡ get_or regions index region
    → n ≡ count_by is_some (take index regions) → is_some region ≡ true → n + 1 ≡ count_by is_some (take (index + 1) regions)
counted_region regions index n region below here so counted =
    ap (λ k. k + 1) so ∙ sym (count_by_more_yes is_some regions index region below (ap is_some (sym here) ∙ counted))

pub passed_region : (regions : List (Option Busy)) (index n : ℕ) (region : Option Busy) → index < length regions → region ≡ get_or regions index region
    → n ≡ count_by is_some (take index regions) → is_some region ≡ false → n ≡ count_by is_some (take (index + 1) regions)
passed_region regions index n region below here so passed =
    so ∙ sym (count_by_more_no is_some regions index region below (ap is_some (sym here) ∙ passed))

pub ruleset counted_steps = (counted_region, passed_region)
