-- What regions hold alone, behind requests and releases.
use Rattle.std.proofs.Common.{◌≡◌, ℕ, false, true, List, refl, ◌∙◌, ap, Some, None}
use Rattle.std.specs.Prelude.{Option, ◌==◌}
use Rattle.std.specs.Option.{option_map_or}
use Rattle.tm_types.specs.declared.resource.Resource.{Resource}
use Rattle.tm_types.specs.declared.resource.Mode.{Mode}
use Rattle.tm_types.specs.declared.resource.Mode.TheVariants.{Shared, Exclusive}
use Rattle.model_data.specs.declared.request.Request.{Request}
use Rattle.model_data.specs.Modes.{mode_serves}
use Rattle.model_data.specs.Table.{EnqueueTable}
use Rattle.model_data.specs.EnqueueRequests.{after_asks, released}
use Rattle.pi_enqueue.specs.KeptTable.{IsTableKept, held_mode}
use Rattle.pi_enqueue.proofs.Laws.{all_stay, released_others}
use Rattle.program_rows.specs.OpenUnits.{HoldsAlone}

alone_by : (o : Option Mode) → option_map_or (λ m. mode_serves m Exclusive) o false ≡ true → o ≡ Some Exclusive
alone_by None e = absurd cc
alone_by (Some Shared) e = absurd cc
alone_by (Some Exclusive) e = refl

-- what a region holds alone it holds alone behind requests of its own or of others
pub asks_leave : (region other : ℕ) (requests : List Request) (table : EnqueueTable) (resource : Resource) → HoldsAlone table other resource → HoldsAlone (after_asks region requests table) other resource
asks_leave region other requests table resource alone =
    alone_by (held_mode other resource (after_asks region requests table).holds)
    (all_stay region other resource Exclusive requests table (ap (λ (o : Option Mode). option_map_or (λ m. mode_serves m Exclusive) o false) alone))

-- a release takes nothing from others
pub release_leaves : (region other : ℕ) (table : EnqueueTable) (resource : Resource) → other == region ≡ false → HoldsAlone table other resource → HoldsAlone (released region table) other resource
release_leaves region other table resource apart alone = released_others region other resource table apart ∙ alone

-- two regions that hold one resource alone are the same
pub one_holder : (table : EnqueueTable) → IsTableKept table → (one other : ℕ) (resource : Resource) → HoldsAlone table one resource → HoldsAlone table other resource → one ≡ other
one_holder table kept one other resource first second = kept.alone resource one other Exclusive first second
