-- Resources, the modes in which regions hold them, and the order in which holders stand.
use Rattle.std.specs.Prelude.{◌==◌, Bool, true, false, ◌&&◌, nat_eq}
use Rattle.std.specs.Option.{option_eq, option_cmp}
use Rattle.std.specs.Ordering.{nat_cmp, ordering_then}
use Rattle.std.specs.declared.cmp.Ordering.{Ordering}
use Rattle.std.specs.Cmp.Lexicographic.{pointwise, slice_cmp}
use Rattle.tm_types.specs.declared.resource.Resource.{Resource}
use Rattle.tm_types.specs.declared.resource.Mode.{Mode}
use Rattle.tm_types.specs.declared.resource.Mode.TheVariants.{Shared, Exclusive}
use Rattle.model_data.specs.declared.request.Holder.{Holder}

-- the same record of the same database, or its sequence resource both times
abbrev pub same_resource : Resource → Resource → Bool
same_resource a b = (a.db == b.db) && option_eq (pointwise nat_eq) a.root b.root

-- shared holders go together, and an exclusive one goes alone
abbrev pub excludes : Mode → Mode → Bool
excludes Shared Shared = false
excludes Shared Exclusive = true
excludes Exclusive Shared = true
excludes Exclusive Exclusive = true

-- who holds in the first mode needs not ask for the second: it is the same or a weaker one
abbrev pub mode_serves : Mode → Mode → Bool
mode_serves Shared Shared = true
mode_serves Shared Exclusive = false
mode_serves Exclusive Shared = true
mode_serves Exclusive Exclusive = true

-- the stronger of two modes
abbrev pub stronger : Mode → Mode → Mode
stronger Shared mode = mode
stronger Exclusive mode = Exclusive

-- resources stand by database, the sequence resource first, and then by the bytes of the root key
abbrev pub resource_cmp : Resource → Resource → Ordering
resource_cmp a b = ordering_then (nat_cmp a.db b.db) (option_cmp (slice_cmp nat_cmp) a.root b.root)

-- holders stand by resource, and those of one resource by region
abbrev pub holder_cmp : Holder → Holder → Ordering
holder_cmp a b = ordering_then (resource_cmp a.resource b.resource) (nat_cmp a.region b.region)
