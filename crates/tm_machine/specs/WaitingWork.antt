-- What a region does that works on a message, by its code and id.
use Rattle.std.specs.Prelude.{ℕ, ◌-◌, Option, Some, List, slice_get}
use Rattle.std.specs.Option.{option_map_or}
use Rattle.tm_types.specs.declared.dbd.Dbd.{Dbd}
use Rattle.tm_types.specs.declared.resource.Resource.{Resource}
use Rattle.model_machine.specs.declared.active.RegionWork.{RegionWork}
use Rattle.model_machine.specs.declared.active.RegionWork.TheVariants.{Working, Waiting}

abbrev pub wait_on : List Dbd → List ℕ → ℕ → Resource → ℕ → RegionWork
wait_on databases code id resource by =
    option_map_or (λ dbd. Waiting code id dbd.name resource.root by) (slice_get databases (resource.db - 1)) (Working code id)

abbrev pub work_on : List Dbd → List ℕ → ℕ → Option Resource → Option ℕ → RegionWork
work_on databases code id (Some resource) (Some by) = wait_on databases code id resource by
work_on databases code id _ _ = Working code id
