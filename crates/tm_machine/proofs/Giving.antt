-- A region gives way.
use Rattle.std.proofs.Common.{◌≡◌, ℕ, zero, suc, ◌+◌, ◌-◌, ◌≤◌, Bool, true, false, ◌||◌, List, [], ◌∷◌, length, get_or, map, refl, sym, ap, ◌∙◌, subst, arith}
use Rattle.std.specs.Prelude.{Option, Some, None, IsSome, IsSomeAnd, IsTrue, ◌==◌, ◌&&◌, nat_lt, fold, if◌then◌else◌, slice_get, slice_set}
use Rattle.std.specs.Option.{option_map, option_map_or, is_some}
use Rattle.std.specs.List.{AllByRecursion, count_by, list_any}
use Rattle.std.specs.Ordering.{nat_cmp}
use Rattle.std.specs.declared.cmp.Ordering.TheVariants.{Less}
use Rattle.std.specs.Str.{bytes_eq}
use Rattle.std.proofs.lemmas.Bool.{eqb-true}
use Rattle.std.proofs.lemmas.List.Elements.{recursion_from_All}
use Rattle.std.proofs.lemmas.List.Sums.{count_by-le-length}
use Rattle.std.proofs.lemmas.Map.Keys.{sorted_head, sorted_tail}
use Rattle.std.proofs.lemmas.Option.{get_or_from_slice_get}
use Rattle.tm_types.specs.declared.message.Message.{Message}
use Rattle.model_messages.specs.declared.queued.Queued.{Queued}
use Rattle.model_messages.specs.Queue.{AreInOrder, has_id, ids_of, queued_message, messages_of, queued_at, with_holder, free_count}
use Rattle.model_messages.proofs.Laws.{messages_held}
use Rattle.model_data.specs.Table.{blockers, wait_of, waits_for}
use Rattle.model_data.specs.EnqueueRequests.{released}
use Rattle.model_data.specs.Cycle.{IsTableRegion as IsTableRegion, IsCycle, WaitsAlong, changed_count_of, gives_way, victim_of}
use Rattle.model_data.specs.declared.request.Request.{Request}
use Rattle.model_system.specs.declared.code_state.CodeState.{CodeState}
use Rattle.model_system.specs.System.{System}
use Rattle.model_system.specs.Jobs.{Job}
use Rattle.model_machine.specs.Machine.{Moment, Slot, IsRegion, slot_at}
use Rattle.model_machine.specs.Requests.{changes_by, changes_now}
use Rattle.model_machine.specs.WorkSoFar.{slot_trial}
use Rattle.model_machine.specs.Flags.{all_followed}
use Rattle.program_rows.specs.DatabasesState.{RegionRows, IsRegionOf, dbds_of, no_rows, region_at, rows_of_stores}
use Rattle.program_rows.specs.CallAnswers.{IsGivenUp}
use Rattle.lasting_state.specs.Tables.{TablesState, lasting_of, given_back, with_databases}
use Rattle.deadlock_pick.specs.Weights.{IsWeighed}
use Rattle.region_work.specs.declared.region.Busy.{Busy}
use Rattle.region_work.specs.RegionWork.{given_in, calls_made}
use Rattle.tm_machine.specs.Parts.{work_slot, work_slots, settings_of, flags_of, AreHoldersTold, AreConversations, AreParts}
use Rattle.tm_machine.specs.Victims.{gave_way}
use Rattle.tm_machine.proofs.Others.{IsKeptBeside, are_beside, beside_given_up, idle_ended, idle_given_up, rows_stay, stay_at_work}
use Rattle.tm_machine.proofs.Free.{count_held, or_none}
use Rattle.tm_machine.proofs.Leaving.{moment_is}
use Rattle.tm_machine.proofs.Linked.{back_told, back_at_work, set_length, set_slots}
use Rattle.tm_machine.proofs.Raising.{IsFollowed, followed_all, followed_settled}
use Rattle.tm_machine.proofs.Resting.{slots_length}
use Rattle.tm_machine.proofs.Stepped.{slot_is, trial_is}
use Rattle.tm_machine.proofs.Tried.{IsTried, unit_trial}
use Rattle.tran_pick.proofs.Found.{none_above}

-- all messages that have the id of one are of its code
same_code : (code : List ℕ) (id : ℕ) (qs : List Queued) → AreInOrder qs → IsSomeAnd (queued_message id qs) (λ m. code ≡ m.code) → AllByRecursion (λ q. has_id id q ≡ true → q.message.code ≡ code) qs
same_code code id [] ordered e = tt
same_code code id (p ∷ qs) ordered e =
    by (has_id id p) refl e (same_code code id qs (sorted_tail nat_cmp p.message.id (ids_of qs) ordered))
  where
    by : (b : Bool) → has_id id p ≡ b → IsSomeAnd (option_map (λ (q : Queued). q.message) (if b then Some p else queued_at id qs)) (λ m. code ≡ m.code)
        → (IsSomeAnd (queued_message id qs) (λ m. code ≡ m.code) → AllByRecursion (λ q. has_id id q ≡ true → q.message.code ≡ code) qs)
        → (has_id id p ≡ true → p.message.code ≡ code) × AllByRecursion (λ q. has_id id q ≡ true → q.message.code ≡ code) qs
    by true h f rest = (
      λ same. sym f,
      none_above code id qs (subst (λ n. AllByRecursion (λ k. nat_cmp n k ≡ Less) (ids_of qs)) (eqb-true p.message.id id h) (sorted_head nat_cmp p.message.id (ids_of qs) ordered)),
    )
    by false h f rest = (λ same. absurd (no-both (sym same ∙ h)), rest f)
      where
        no-both : true ≡ false → ⊥
        no-both g = cc

-- ---- a region gives way
module _ (system : System) (tables : TablesState) (states : List CodeState) (regions : List (Option Busy)) (region : ℕ)
    (parts : AreParts system tables states regions) (busy : Busy) (e : slice_get regions (region - 1) ≡ Some (Some busy)) (there : IsRegion system region) where
  abbrev moment_with_tables : TablesState → List CodeState → List (Option Busy) → Moment
  moment_with_tables t ss rs = record { lasting = lasting_of (settings_of ss) t; slots = work_slots rs; enqueues = t.databases.table; raised = flags_of ss }

  abbrev left : List (Option Busy)
  left = slice_set regions (region - 1) None

  count : length tables.databases.regions ≡ length regions
  count = parts.databases.regions ∙ sym parts.regions_are

  pub held_there : IsSomeAnd (queued_at busy.id tables.queues.queued) (λ q. IsSome q.holder)
  held_there = rw (parts.at_work (region - 1) busy e).found cc

  module _ (tables' : TablesState) (is : tables' ≡ with_databases (given_back tables busy.id) tables'.databases)
      (back : IsGivenUp region tables.databases tables'.databases) (dbds : dbds_of tables'.databases ≡ dbds_of tables.databases) where
    beside : IsKeptBeside region tables.databases tables'.databases
    beside = beside_given_up region tables.databases tables'.databases there.0 back dbds

    works_there : IsRegionOf tables.databases region
    works_there = record { least = there.0; most = omega (arith, there.1, parts.databases.regions) }

    queued_is : tables'.queues.queued ≡ with_holder busy.id None tables.queues.queued
    queued_is = ap (λ t. t.queues.queued) is

    told_left : AreHoldersTold (work_slots left) tables'.queues.queued
    told_left = rw queued_is (back_told system tables.databases tables.conversations tables.queues.queued tables.queues.queued regions (region - 1) busy parts.at_work e parts.told)

    pub parts_given : (states' : List CodeState) → IsFollowed system (λ name. free_count name tables'.queues.queued) states states' → AreParts system tables' states' left
    parts_given states' follows = record {
      valid = parts.valid;
      limit = ap (λ t. t.queues.limit) is ∙ parts.limit;
      names = ap (λ t. map (λ n. n.name) t.terminals) is ∙ parts.names;
      regions_are = set_length regions (region - 1) None ∙ parts.regions_are;
      states_are = follows.size ∙ parts.states_are;
      settled = followed_settled system (λ name. free_count name tables'.queues.queued) states states' follows;
      told = told_left;
      at_work = rw (ap (λ t. t.conversations) is, queued_is) (back_at_work system tables.databases tables'.databases tables.conversations tables.queues.queued regions (region - 1) busy e
          (stay_at_work system parts.valid tables.databases tables'.databases regions region beside count there.0) parts.at_work);
      conversations = subst (λ cs. AreConversations system cs (messages_of tables'.queues.queued)) (sym (ap (λ t. t.conversations) is))
          (subst (AreConversations system tables.conversations) (sym (ap messages_of queued_is ∙ messages_held busy.id None tables.queues.queued)) parts.conversations);
      databases = are_beside system region tables.databases tables'.databases parts.databases beside dbds (rows_stay tables.databases tables'.databases back.committed dbds parts.databases.rows);
      idle = idle_ended system parts.valid tables.databases tables'.databases regions region beside count there.0
          (idle_given_up region tables.databases tables'.databases works_there back) parts.idle;
    }

    -- the flag of the message's code follows, and no other is to
    pub follows_given : (states' : List CodeState) (code : List ℕ) → AreInOrder tables.queues.queued → IsSomeAnd (queued_message busy.id tables.queues.queued) (λ message. code ≡ message.code)
        → states' ≡ all_followed system.codes (λ name. free_count name tables'.queues.queued) (code ∷ []) states
        → IsFollowed system (λ name. free_count name tables'.queues.queued) states states'
    follows_given states' code ordered of follow =
        followed_all system (λ name. free_count name tables.queues.queued) (λ name. free_count name tables'.queues.queued) (code ∷ []) states states' parts.valid parts.states_are parts.settled
        (λ name none. ap (free_count name) queued_is
        ∙ count_held name code busy.id None tables.queues.queued (or_none (bytes_eq name code) false none).0 (same_code code busy.id tables.queues.queued ordered of)) follow

    pub moment_given : (states' : List CodeState) → IsFollowed system (λ name. free_count name tables'.queues.queued) states states'
        → moment_with_tables tables' states' left ≡ gave_way system (moment_with_tables tables states regions) region
    moment_given states' follows =
        moment_is system (lasting_of (settings_of states) tables) (slice_set (work_slots regions) (region - 1) None) tables' states states' left (released region tables.databases.table) follows told_left
        (ap (lasting_of (settings_of states)) is
        ∙ ap {A = List Message} (λ ms. record (lasting_of (settings_of states) (with_databases tables tables'.databases)) { messages = ms }) (messages_held busy.id None tables.queues.queued)
        ∙ ap (λ c. record (lasting_of (settings_of states) tables) { rows = rows_of_stores c }) back.committed)
        (set_slots regions (region - 1) None) back.table

-- ---- how many records each region has changed
same_lists : (f : Option Busy → ℕ) (g : RegionRows → ℕ) (rs : List (Option Busy)) (ds : List RegionRows) → length ds ≡ length rs
    → ((place : ℕ) (r : Option Busy) (d : RegionRows) → slice_get rs place ≡ Some r → slice_get ds place ≡ Some d → f r ≡ g d) → map f rs ≡ map g ds
same_lists f g [] [] l each = refl
same_lists f g [] (d ∷ ds) l each = cc
same_lists f g (r ∷ rs) [] l each = cc
same_lists f g (r ∷ rs) (d ∷ ds) l each = λ i. each 0 r d refl refl i ∷ same_lists f g rs ds (suc_same l) (λ place. each (suc place)) i
  where
    suc_same : {m n : ℕ} → suc m ≡ suc n → m ≡ n
    suc_same h = omega (arith, h)

map_twice : (f : Option Slot → ℕ) (rs : List (Option Busy)) → map f (work_slots rs) ≡ map (λ r. f (work_slot r)) rs
map_twice f [] = refl
map_twice f (r ∷ rs) = ap (λ ns. f (work_slot r) ∷ ns) (map_twice f rs)

module _ (system : System) (tables : TablesState) (states : List CodeState) (regions : List (Option Busy)) (parts : AreParts system tables states regions) where
  abbrev moment_now : Moment
  moment_now = record { lasting = lasting_of (settings_of states) tables; slots = work_slots regions; enqueues = tables.databases.table; raised = flags_of states }

  -- what a region has changed, by its number less one
  changes_at : (place : ℕ) (r : Option Busy) (d : RegionRows) → slice_get regions place ≡ Some r → slice_get tables.databases.regions place ≡ Some d
      → changes_by system (lasting_of (settings_of states) tables) (work_slot r) ≡ length d.changed
  changes_at place None d e f =
      sym (ap (λ (x : RegionRows). length x.changed) (sym here) ∙ ap length (parts.idle place e).clean.changed)
    where
      one : place + 1 - 1 ≡ place
      one = omega arith

      here : region_at (place + 1) tables.databases ≡ d
      here = ap (λ p. get_or tables.databases.regions p no_rows) one ∙ get_or_from_slice_get tables.databases.regions place d no_rows f
  changes_at place (Some busy) d e f =
      ap (λ t. option_map_or (λ trial. length trial.databases.changed) t 0) trial
      ∙ ap length tried.changed ∙ ap (λ (x : RegionRows). length x.changed) here
    where
      one : place + 1 - 1 ≡ place
      one = omega arith

      here : region_at (place + 1) tables.databases ≡ d
      here = ap (λ p. get_or tables.databases.regions p no_rows) one ∙ get_or_from_slice_get tables.databases.regions place d no_rows f

      job : Job
      job = (parts.at_work place busy e).work.job

      message : Message
      message = (parts.at_work place busy e).message

      tried : IsTried job (given_in tables.conversations message) (place + 1) tables.databases busy.unit
      tried = unit_trial job (given_in tables.conversations message) (place + 1) tables.databases busy.unit (parts.at_work place busy e).work.unit

      trial : slot_trial system (lasting_of (settings_of states) tables) (record { code = busy.code; taken = busy.taken; id = busy.id; calls = calls_made busy.unit }) ≡ Some tried.trial
      trial = trial_is system tables states regions (place + 1) parts (record { code = busy.code; taken = busy.taken; id = busy.id; calls = calls_made busy.unit }) message job tried.trial
          (ap (option_map (λ q. q.message)) (parts.at_work place busy e).found) (parts.at_work place busy e).work.serves tried.made

  pub changes_are : map (λ rows. length rows.changed) tables.databases.regions ≡ changes_now system moment_now
  changes_are =
      sym (map_twice (changes_by system (lasting_of (settings_of states) tables)) regions
      ∙ same_lists (λ r. changes_by system (lasting_of (settings_of states) tables) (work_slot r)) (λ rows. length rows.changed) regions tables.databases.regions
      (parts.databases.regions ∙ sym parts.regions_are) changes_at)

  pub few_busy : count_by is_some (work_slots regions) ≤ 8
  few_busy =
      let most = count_by-le-length is_some (work_slots regions) in
      let size : length (work_slots regions) ≡ length regions = slots_length regions in
      omega (arith, most, size, parts.regions_are, parts.valid.few_regions)

  pub changes_count : length (map (λ (rows : RegionRows). length rows.changed) tables.databases.regions) ≡ length system.regions
  changes_count = map_length tables.databases.regions ∙ parts.databases.regions
    where
      map_length : (ds : List RegionRows) → length (map (λ (rows : RegionRows). length rows.changed) ds) ≡ length ds
      map_length [] = refl
      map_length (d ∷ ds) = ap suc (map_length ds)

  -- ---- who gives way
  -- a region that waits has a message
  waits_busy : (region : ℕ) → IsTableRegion tables.databases.table region → IsTrue (is_some (wait_of region tables.databases.table))
      → IsRegion system region × IsSome (slot_at moment_now region)
  waits_busy region is waits =
      (there, by (slice_get regions (region - 1)) refl)
    where
      there : IsRegion system region
      there = (is.0, omega (arith, is.1, parts.databases.table))

      back : region - 1 + 1 ≡ region
      back = omega (arith, is.0)

      clash : is_some {T = Request} None ≡ true → ⊥
      clash h = cc

      past : (rs : List (Option Busy)) (place : ℕ) → slice_get rs place ≡ None → length rs ≤ place
      past [] place h = omega arith
      past (r ∷ rs) zero h = cc
      past (r ∷ rs) (suc place) h = let rest = past rs place h in omega (arith, rest)

      by : (found : Option (Option Busy)) → slice_get regions (region - 1) ≡ found → IsSome (slot_at moment_now region)
      by None e = let far = past regions (region - 1) e in absurd (omega (arith, far, there.0, there.1, parts.regions_are))
      by (Some None) e =
          let none : wait_of region tables.databases.table ≡ None = subst (λ n. wait_of n tables.databases.table ≡ None) back (parts.idle (region - 1) e).waits in
          absurd (clash (sym (ap is_some none) ∙ waits))
      by (Some (Some busy)) e = rw (slot_is system tables states regions region parts (Some busy) e) cc

  abbrev IsWaiting : ℕ → Type 0
  IsWaiting region = IsTableRegion tables.databases.table region × IsTrue (is_some (wait_of region tables.databases.table))

  some_waits : (region next : ℕ) → IsTrue (waits_for region next tables.databases.table) → IsTrue (is_some (wait_of region tables.databases.table))
  some_waits region next h = by (wait_of region tables.databases.table) h
    where
      by : (found : Option Request) → IsTrue (option_map_or (λ request. list_any (λ blocker. blocker == next) (blockers request tables.databases.table)) found false) → IsTrue (is_some found)
      by None g = absurd (cc)
      by (Some request) g = cc

  along : (region : ℕ) (others : List ℕ) (end : ℕ) → IsTableRegion tables.databases.table region → AllByRecursion (IsTableRegion tables.databases.table) others
      → WaitsAlong tables.databases.table region others end → AllByRecursion IsWaiting (region ∷ others)
  along region [] end is those waits = ((is, some_waits region end waits), tt)
  along region (next ∷ others) end is those waits = ((is, some_waits region next waits.0), along next others end those.0 those.1 waits.1)

  pub cycle_waits : (region : ℕ) (cycle : List ℕ) → IsTableRegion tables.databases.table region → IsCycle tables.databases.table region cycle → AllByRecursion IsWaiting cycle
  cycle_waits region [] is ring = absurd ring
  cycle_waits region (first ∷ others) is ring =
      along first others first (subst (IsTableRegion tables.databases.table) (sym ring.0) is) (recursion_from_All (IsTableRegion tables.databases.table) others ring.1.regions) ring.1.waits

  gives_one : (weights : List ℕ) (a b : ℕ) → IsWaiting a → IsWaiting b → IsWaiting (gives_way weights a b)
  gives_one weights a b x y = by (nat_lt (changed_count_of weights a) (changed_count_of weights b) || ((changed_count_of weights a == changed_count_of weights b) && nat_lt b a))
    where
      by : (c : Bool) → IsWaiting (if c then a else b)
      by true = x
      by false = y

  among : (weights : List ℕ) (region : ℕ) (others : List ℕ) → IsWaiting region → AllByRecursion IsWaiting others → IsWaiting (fold (gives_way weights) region others)
  among weights region [] x those = x
  among weights region (next ∷ others) x those = among weights (gives_way weights region next) others (gives_one weights region next x those.0) those.1

  -- the one that gives way has a message
  pub victim_busy : (weights : List ℕ) (region chosen : ℕ) (cycle : List ℕ) → IsTableRegion tables.databases.table region → IsCycle tables.databases.table region cycle → chosen ≡ victim_of weights cycle
      → IsRegion system chosen × IsSome (slot_at moment_now chosen)
  victim_busy weights region chosen [] is ring same = absurd ring
  victim_busy weights region chosen (first ∷ others) is ring same =
      let those = cycle_waits region (first ∷ others) is ring in
      let waits : IsWaiting chosen = subst IsWaiting (sym same) (among weights first others those.0 those.1) in
      waits_busy chosen waits.0 waits.1

  -- a ring isn't empty, and each of its regions has a weight
  pub weighed : (weights : List ℕ) (region : ℕ) (cycle : List ℕ) → length weights ≡ length system.regions → IsTableRegion tables.databases.table region → IsCycle tables.databases.table region cycle
      → AllByRecursion (IsWeighed weights) cycle
  weighed weights region cycle size is ring = by cycle (cycle_waits region cycle is ring)
    where
      by : (xs : List ℕ) → AllByRecursion IsWaiting xs → AllByRecursion (IsWeighed weights) xs
      by [] h = tt
      by (x ∷ xs) h = (record { first = h.0.0.0; last = let most = h.0.0.1 in omega (arith, most, size, parts.databases.table) }, by xs h.1)

  pub some_ring : (region : ℕ) (cycle : List ℕ) → IsCycle tables.databases.table region cycle → 1 ≤ length cycle
  some_ring region [] ring = absurd ring
  some_ring region (first ∷ others) ring = omega arith

  pub table_region : (region : ℕ) → IsRegion system region → IsTableRegion tables.databases.table region
  table_region region there = (there.0, let most = there.1 in omega (arith, most, parts.databases.table))

  pub few_table : tables.databases.table.regions ≤ 8
  few_table = omega (arith, parts.databases.table, parts.valid.few_regions)
