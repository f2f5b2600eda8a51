-- How an enqueue table is kept in lists.
use Rattle.std.specs.Prelude.{◌≡◌, ℕ, ◌-◌, ◌<◌, ◌≤◌, Bool, true, false, List, [], ◌∷◌, Option, None, Some, length, slice_index_or}
use Rattle.std.specs.List.{AllByRecursion, list_any}
use Rattle.std.specs.BTreeMap.{is_at}
use Rattle.std.specs.Map.{keys_of, set_value, remove_entry}
use Rattle.std.specs.Vec.{vec_len, vec_capacity}
use Rattle.tm_types.specs.declared.resource.Resource.{Resource}
use Rattle.tm_types.specs.declared.resource.Mode.{Mode}
use Rattle.tm_types.specs.declared.resource.Mode.TheVariants.{Shared, Exclusive}
use Rattle.model_data.specs.declared.request.Holder.{Holder}
use Rattle.model_data.specs.Modes.{same_resource, holder_cmp}
use Rattle.model_data.specs.Table.{EnqueueTable}
use Rattle.pi_enqueue.specs.declared.holds.Change.{Change}
use Rattle.pi_enqueue.specs.declared.lists.Lists.{Lists}
use Rattle.pi_enqueue.specs.KeptTable.{IsTableKept}

-- the table that the lists make
abbrev pub table_of_lists : Lists → EnqueueTable
table_of_lists l = record { regions = l.regions; holds = l.holds.entries; upgrades = l.upgrades.items; waits = l.waits.items }

-- regions go up to the last one
abbrev pub IsUpTo : ℕ → Holder → Type 0
IsUpTo last holder = (1 ≤ holder.region) × (holder.region ≤ last)

-- the resource is on a list
abbrev pub is_on : List Resource → Resource → Bool
is_on list resource = list_any (λ other. same_resource other resource) list

-- the resource is on the list of the region that holds it; the first list is that of region 1
abbrev pub is_listed : List (List Resource) → Holder → Bool
is_listed index holder = is_on (slice_index_or index (holder.region - 1) []) holder.resource

-- all holders are listed
abbrev pub AreListed : List (List Resource) → List (Holder × Mode) → Type 0
AreListed index holds = AllByRecursion (λ holder. is_listed index holder ≡ true) (keys_of holds)

-- nothing is on these lists
abbrev pub AreEmpty : List (List Resource) → Type 0
AreEmpty index = AllByRecursion (λ list. list ≡ []) index

-- what is listed stays so
abbrev pub StayListed : List (List Resource) → List (List Resource) → Type 0
StayListed old new = (holder : Holder) → is_listed old holder ≡ true → is_listed new holder ≡ true

-- a table that is kept in lists, with a list of what it holds for each region
pub record AreListsKept (l : Lists) : Type 0 where
  pub kept : IsTableKept (table_of_lists l)
  pub listed : AreListed l.held.items l.holds.entries
  pub all : length l.held.items ≡ l.regions

-- both queues have room for one more
abbrev pub HasRoomInQueues : Lists → Type 0
HasRoomInQueues l = (vec_len l.upgrades < vec_capacity l.upgrades) × (vec_len l.waits < vec_capacity l.waits)

-- a holder that had this mode, or none, has it again
abbrev pub with_mode : Option Mode → Holder → List (Holder × Mode) → List (Holder × Mode)
with_mode None holder holds = remove_entry (is_at (holder_cmp holder)) holds
with_mode (Some mode) holder holds = set_value (is_at (holder_cmp holder)) holds mode

-- the holders before these changes, of which the last one is taken back first
abbrev pub before_all : List Change → List (Holder × Mode) → List (Holder × Mode)
before_all [] holds = holds
before_all (change ∷ changes) holds = with_mode change.mode change.holder (before_all changes holds)

-- whether a holder had a stronger mode than this one
abbrev pub is_more : Option Mode → Mode → Bool
is_more (Some Exclusive) Shared = true
is_more (Some Exclusive) Exclusive = false
is_more (Some Shared) mode = false
is_more None mode = false
