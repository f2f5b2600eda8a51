-- Regions, and the messages that the queues keep for them.
use Rattle.std.proofs.Common.{◌≡◌, ◌≢◌, ℕ, zero, suc, ◌+◌, ◌<◌, Bool, true, false, not, ◌||◌, ◌&&◌, List, [], ◌∷◌, length, refl, sym, ap, ◌∙◌, subst, arith, ◌⊎◌, inl, inr, ⊎_elim}
use Rattle.std.specs.Prelude.{Option, Some, None, if◌then◌else◌, ◌==◌, slice_get, slice_set}
use Rattle.std.specs.Option.{option_map, is_some, is_none}
use Rattle.std.specs.Str.{bytes_eq}
use Rattle.std.specs.List.{AllByRecursion, find, filter, count_by}
use Rattle.std.proofs.lemmas.List.Sums.{length-filter}
use Rattle.std.proofs.lemmas.Bool.{eqb-true, eq-eqb, ne_eqb}
use Rattle.tm_types.specs.declared.message.Message.{Message}
use Rattle.model_messages.specs.declared.queued.Queued.{Queued}
use Rattle.model_messages.specs.Queue.{IsNewId, has_id, is_free_of, queued_at, queued_message, messages_of, with_message, with_holder, without_id_queued, first_free, free_count, any_held}
use Rattle.model_messages.specs.Waiting.{is_waiting, first_waiting, count_waiting, any_worked_on}
use Rattle.model_messages.proofs.Laws.{message_found, found_behind, found_without, found_held, found_own}
use Rattle.model_messages.specs.declared.conversation.TerminalConversation.{TerminalConversation}
use Rattle.model_system.specs.System.{System}
use Rattle.model_system.specs.declared.code.Code.{Code}
use Rattle.program_rows.specs.DatabasesState.{DatabasesState}
use Rattle.model_machine.specs.Trial.{Given}
use Rattle.model_machine.specs.Machine.{Slot, has_message, is_held}
use Rattle.model_machine.specs.MachineCalls.{offered_among}
use Rattle.model_machine.specs.Pick.{offered_by}
use Rattle.tran_pick.specs.RegionPick.{offered_in}
use Rattle.region_work.specs.declared.region.Busy.{Busy}
use Rattle.region_work.specs.RegionWork.{IsWork, given_in}
use Rattle.tm_machine.specs.Parts.{work_slot, work_slots, IsAtWork, AreHoldersTold, AreAtWork}
use Rattle.region_work.proofs.Kept.{all_found}

-- A message waits where no region has it, by the slots or by the queues.
free_is : (code : List ℕ) (slots : List (Option Slot)) (q : Queued) → is_held slots q.message.id ≡ is_some q.holder
    → is_waiting (is_held slots) code q.message ≡ is_free_of code q
free_is code slots q told = ap (λ held. bytes_eq q.message.code code && not held) told ∙ ap (λ b. bytes_eq q.message.code code && b) (none-is q.holder)
  where
    none-is : (holder : Option ℕ) → not (is_some holder) ≡ is_none holder
    none-is (Some r) = refl
    none-is None = refl

pub first_free_is : (code : List ℕ) (slots : List (Option Slot)) (queued : List Queued) → AreHoldersTold slots queued
    → first_waiting (is_held slots) code (messages_of queued) ≡ first_free code queued
first_free_is code slots [] told = refl
first_free_is code slots (q ∷ qs) told =
    rw (free_is code slots q told.0) (by (is_free_of code q) (first_free_is code slots qs told.1))
  where
    by : (b : Bool) → first_waiting (is_held slots) code (messages_of qs) ≡ first_free code qs
        → option_map (λ (m : Message). m.id) (if b then Some q.message else find (is_waiting (is_held slots) code) (messages_of qs))
        ≡ option_map (λ (p : Queued). p.message.id) (if b then Some q else find (is_free_of code) qs)
    by true rest = refl
    by false rest = rest

-- a region has a message of the code by the slots exactly where it has one by the queues
any_held_is : (code : List ℕ) (slots : List (Option Slot)) (queued : List Queued) → AreHoldersTold slots queued
    → any_worked_on (is_held slots) code (messages_of queued) ≡ any_held code queued
any_held_is code slots [] told = refl
any_held_is code slots (q ∷ qs) told = λ i. (bytes_eq q.message.code code && told.0 i) || any_held_is code slots qs told.1 i

-- a code offers the same by the slots and by the queues
pub offered_is : (slots : List (Option Slot)) (queued : List Queued) → AreHoldersTold slots queued → (code : Code)
    → offered_among slots (messages_of queued) code ≡ offered_in queued code
offered_is slots queued told code =
    let name : List ℕ = code.transaction.code in
    λ i. offered_by code.transaction (any_held_is name slots queued told i) (first_free_is name slots queued told i)

free_length : (code : List ℕ) (slots : List (Option Slot)) (queued : List Queued) → AreHoldersTold slots queued
    → length (filter (is_waiting (is_held slots) code) (messages_of queued)) ≡ length (filter (is_free_of code) queued)
free_length code slots [] told = refl
free_length code slots (q ∷ qs) told = rw (free_is code slots q told.0) (by (is_free_of code q) (free_length code slots qs told.1))
  where
    by : (b : Bool) → length (filter (is_waiting (is_held slots) code) (messages_of qs)) ≡ length (filter (is_free_of code) qs)
        → length (if b then q.message ∷ filter (is_waiting (is_held slots) code) (messages_of qs) else filter (is_waiting (is_held slots) code) (messages_of qs))
        ≡ length (if b then q ∷ filter (is_free_of code) qs else filter (is_free_of code) qs)
    by true rest = ap suc rest
    by false rest = rest

pub free_count_is : (code : List ℕ) (slots : List (Option Slot)) (queued : List Queued) → AreHoldersTold slots queued
    → count_waiting (is_held slots) code (messages_of queued) ≡ free_count code queued
free_count_is code slots queued told =
    sym (length-filter (is_waiting (is_held slots) code) (messages_of queued)) ∙ free_length code slots queued told ∙ length-filter (is_free_of code) queued

-- as many slots are busy as regions
busy_length : (regions : List (Option Busy)) → length (filter is_some (work_slots regions)) ≡ length (filter is_some regions)
busy_length [] = refl
busy_length (Some busy ∷ regions) = ap suc (busy_length regions)
busy_length (None ∷ regions) = busy_length regions

pub busy_is : (regions : List (Option Busy)) → count_by is_some (work_slots regions) ≡ count_by is_some regions
busy_is regions = sym (length-filter is_some (work_slots regions)) ∙ busy_length regions ∙ length-filter is_some regions

-- A region that changes its work.
held_here : (id : ℕ) (regions : List (Option Busy)) (place : ℕ) (old new : Option Busy) → slice_get regions place ≡ Some old
    → has_message id (work_slot new) ≡ true → is_held (work_slots (slice_set regions place new)) id ≡ true
held_here id [] place old new e h = cc
held_here id (r ∷ regions) zero old new e h = rw h refl
held_here id (r ∷ regions) (suc place) old new e h = or-true (has_message id (work_slot r)) _ (held_here id regions place old new e h)
  where
    or-true : (a b : Bool) → b ≡ true → (a || b) ≡ true
    or-true true b e = refl
    or-true false b e = e

held_same : (id : ℕ) (regions : List (Option Busy)) (place : ℕ) (old new : Option Busy) → slice_get regions place ≡ Some old
    → has_message id (work_slot new) ≡ has_message id (work_slot old) → is_held (work_slots (slice_set regions place new)) id ≡ is_held (work_slots regions) id
held_same id [] place old new e h = cc
held_same id (r ∷ regions) zero old new e h =
    let here : r ≡ old = cc in ap (λ b. b || is_held (work_slots regions) id) (h ∙ sym (ap (λ o. has_message id (work_slot o)) here))
held_same id (r ∷ regions) (suc place) old new e h = ap (λ b. has_message id (work_slot r) || b) (held_same id regions place old new e h)

-- no region has a message of this id
not_held : (id : ℕ) (regions : List (Option Busy)) → ((place : ℕ) (busy : Busy) → slice_get regions place ≡ Some (Some busy) → busy.id ≢ id)
    → is_held (work_slots regions) id ≡ false
not_held id [] others = refl
not_held id (Some busy ∷ regions) others =
    rw (ne_eqb busy.id id (others zero busy refl)) (not_held id regions (λ place b e. others (suc place) b e))
not_held id (None ∷ regions) others = not_held id regions (λ place b e. others (suc place) b e)

set_get : (regions : List (Option Busy)) (place other : ℕ) (new : Option Busy) (busy : Busy)
    → slice_get (slice_set regions place new) other ≡ Some (Some busy) → ((place ≡ other) × (new ≡ Some busy)) ⊎ ((place ≢ other) × (slice_get regions other ≡ Some (Some busy)))
set_get [] place other new busy e = cc
set_get (r ∷ regions) zero zero new busy e = let here : new ≡ Some busy = cc in inl (refl, here)
set_get (r ∷ regions) zero (suc other) new busy e = inr (λ h. cc, e)
set_get (r ∷ regions) (suc place) zero new busy e = inr (λ h. cc, e)
set_get (r ∷ regions) (suc place) (suc other) new busy e =
    ⊎_elim (λ h. inl (ap suc h.0, h.1)) (λ h. inr (λ s. h.0 (pred-same s), h.1)) (set_get regions place other new busy e)
  where
    pred-same : suc place ≡ suc other → place ≡ other
    pred-same s = omega (arith, s)

no-both : true ≡ false → ⊥
no-both e = cc

-- What a region works on is found in the queues under its number.
module _ (system : System) (databases : DatabasesState) (conversations : List TerminalConversation) (queued : List Queued) (regions : List (Option Busy))
    (at_work : AreAtWork system databases conversations queued regions) where
  -- two regions never have one message
  pub one_each : (place other : ℕ) (a b : Busy) → slice_get regions place ≡ Some (Some a) → slice_get regions other ≡ Some (Some b) → place ≢ other → a.id ≢ b.id
  one_each place other a b ea eb apart same =
      apart (by (at_work place a ea).found (at_work other b eb).found)
    where
      holder-of : (p q : Queued) → Some p ≡ Some q → p.holder ≡ q.holder
      holder-of p q e = let here : p ≡ q = cc in ap (λ r. r.holder) here

      number-of : (p q : ℕ) → Some (p + 1) ≡ Some (q + 1) → p ≡ q
      number-of p q e = let here : p + 1 ≡ q + 1 = cc in omega (arith, here)

      by : {m n : Message} → queued_at a.id queued ≡ Some (record { message = m; holder = Some (place + 1) })
          → queued_at b.id queued ≡ Some (record { message = n; holder = Some (other + 1) }) → place ≡ other
      by {m} {n} x y =
          number-of place other (holder-of (record { message = m; holder = Some (place + 1) }) (record { message = n; holder = Some (other + 1) })
          (sym x ∙ ap (λ id. queued_at id queued) same ∙ y))

-- a slot whose message stays
pub slot_told : (queued : List Queued) (regions : List (Option Busy)) (place : ℕ) (old : Busy) (slot : Slot) → slice_get regions place ≡ Some (Some old) → slot.id ≡ old.id
    → AreHoldersTold (work_slots regions) queued → AreHoldersTold (slice_set (work_slots regions) place (Some slot)) queued
slot_told [] regions place old slot e same told = tt
slot_told (q ∷ qs) regions place old slot e same told =
    (slot_held q.message.id regions place e ∙ told.0, slot_told qs regions place old slot e same told.1)
  where
    slot_held : (id : ℕ) (rs : List (Option Busy)) (at : ℕ) → slice_get rs at ≡ Some (Some old) → is_held (slice_set (work_slots rs) at (Some slot)) id ≡ is_held (work_slots rs) id
    slot_held id [] at f = cc
    slot_held id (r ∷ rs) zero f =
        let here : r ≡ Some old = cc in
        ap (λ n. (n == id) || is_held (work_slots rs) id) same ∙ sym (ap (λ o. has_message id (work_slot o) || is_held (work_slots rs) id) here)
    slot_held id (r ∷ rs) (suc at) f = ap (λ b. has_message id (work_slot r) || b) (slot_held id rs at f)

-- a region that makes a step keeps its message
pub step_told : (queued : List Queued) (regions : List (Option Busy)) (place : ℕ) (old new : Busy) → slice_get regions place ≡ Some (Some old) → new.id ≡ old.id
    → AreHoldersTold (work_slots regions) queued → AreHoldersTold (work_slots (slice_set regions place (Some new))) queued
step_told [] regions place old new e same told = tt
step_told (q ∷ qs) regions place old new e same told = (
  held_same q.message.id regions place (Some old) (Some new) e (ap (λ id. id == q.message.id) same) ∙ told.0,
  step_told qs regions place old new e same told.1,
)

-- the work of the other regions stays as it was
abbrev pub StayAtWork : System → DatabasesState → DatabasesState → List (Option Busy) → ℕ → Type 0
StayAtWork system databases databases' regions place =
    (other : ℕ) (busy : Busy) → place ≢ other → slice_get regions other ≡ Some (Some busy) → (given : Given)
    → IsWork system databases (other + 1) given busy → IsWork system databases' (other + 1) given busy

-- other messages are given as they were
abbrev pub StayGiven : ℕ → List Queued → List TerminalConversation → List TerminalConversation → Type 0
StayGiven id queued conversations conversations' =
    (other : ℕ) (message : Message) → queued_message other queued ≡ Some message → (other ≡ id → ⊥) → given_in conversations' message ≡ given_in conversations message

pub step_at_work : (system : System) (databases databases' : DatabasesState) (conversations : List TerminalConversation) (queued : List Queued) (regions : List (Option Busy)) (place : ℕ) (old new : Busy) → slice_get regions place ≡ Some (Some old)
    → new.id ≡ old.id → ((message : Message) → queued_message old.id queued ≡ Some message → IsWork system databases' (place + 1) (given_in conversations message) new)
    → StayAtWork system databases databases' regions place
    → AreAtWork system databases conversations queued regions → AreAtWork system databases' conversations queued (slice_set regions place (Some new))
step_at_work system databases databases' conversations queued regions place old new e same works stay at_work other busy f =
    ⊎_elim here there (set_get regions place other (Some new) busy f)
  where
    some-is : (a b : Busy) → Some a ≡ Some b → a ≡ b
    some-is a b e = cc

    here : (place ≡ other) × (Some new ≡ Some busy) → IsAtWork system databases' conversations queued (other + 1) busy
    here h =
        let was = at_work place old e in
        let is : new ≡ busy = some-is new busy h.1 in
        subst (λ b. IsAtWork system databases' conversations queued (other + 1) b) is (record {
          message = was.message;
          found = ap (λ id. queued_at id queued) same ∙ was.found ∙ ap (λ n. Some (record { message = was.message; holder = Some (n + 1) })) h.0;
          work = subst (λ n. IsWork system databases' (n + 1) (given_in conversations was.message) new) h.0 (works was.message (ap (option_map (λ q. q.message)) was.found));
        })

    there : (place ≢ other) × (slice_get regions other ≡ Some (Some busy)) → IsAtWork system databases' conversations queued (other + 1) busy
    there h =
        let was = at_work other busy h.1 in
        record { message = was.message; found = was.found; work = stay other busy h.0 h.1 (given_in conversations was.message) was.work }

-- an empty region takes a message that no region has
pub take_told : (id holder : ℕ) (queued : List Queued) (regions : List (Option Busy)) (place : ℕ) (new : Busy) → slice_get regions place ≡ Some None → new.id ≡ id
    → AreHoldersTold (work_slots regions) queued → AreHoldersTold (work_slots (slice_set regions place (Some new))) (with_holder id (Some holder) queued)
take_told id holder [] regions place new e same told = tt
take_told id holder (q ∷ qs) regions place new e same told =
    (by (has_id id q) refl, take_told id holder qs regions place new e same told.1)
  where
    by : (b : Bool) → has_id id q ≡ b
        → is_held (work_slots (slice_set regions place (Some new))) (if b then record q { holder = Some holder } else q).message.id
        ≡ is_some (if b then record q { holder = Some holder } else q).holder
    by true h = held_here q.message.id regions place None (Some new) e (eq-eqb new.id q.message.id (same ∙ sym (eqb-true q.message.id id h)))
    by false h =
        held_same q.message.id regions place None (Some new) e (ne_eqb new.id q.message.id (λ s. no-both (sym (eq-eqb q.message.id id (sym s ∙ same)) ∙ h)))
        ∙ told.0

pub take_at_work : (system : System) (databases : DatabasesState) (conversations : List TerminalConversation) (id : ℕ) (queued : List Queued) (regions : List (Option Busy)) (place : ℕ) (new : Busy) (message : Message)
    → slice_get regions place ≡ Some None → new.id ≡ id
    → queued_at id queued ≡ Some (record { message = message; holder = None }) → IsWork system databases (place + 1) (given_in conversations message) new
    → AreAtWork system databases conversations queued regions → AreAtWork system databases conversations (with_holder id (Some (place + 1)) queued) (slice_set regions place (Some new))
take_at_work system databases conversations id queued regions place new message e same free work at_work other busy f =
    ⊎_elim here there (set_get regions place other (Some new) busy f)
  where
    some-is : (a b : Busy) → Some a ≡ Some b → a ≡ b
    some-is a b e = cc

    here : (place ≡ other) × (Some new ≡ Some busy) → IsAtWork system databases conversations (with_holder id (Some (place + 1)) queued) (other + 1) busy
    here h =
        let is : new ≡ busy = some-is new busy h.1 in
        subst (λ b. IsAtWork system databases conversations (with_holder id (Some (place + 1)) queued) (other + 1) b) is (record {
          message = message;
          found = ap (λ n. queued_at n (with_holder id (Some (place + 1)) queued)) same
              ∙ found_own id (Some (place + 1)) queued (record { message = message; holder = None }) free
              ∙ ap (λ n. Some (record { message = message; holder = Some (n + 1) })) h.0;
          work = subst (λ n. IsWork system databases (n + 1) (given_in conversations message) new) h.0 work;
        })

    holder-of : (p q : Queued) → Some p ≡ Some q → p.holder ≡ q.holder
    holder-of p q e = let here : p ≡ q = cc in ap (λ r. r.holder) here

    no-holder : (r : ℕ) → Some r ≡ None → ⊥
    no-holder r e = cc

    taken : (a : Message) (r : ℕ) → ◌≡◌ {A = Option Queued} (Some (record { message = a; holder = Some r })) (Some (record { message = message; holder = None })) → ⊥
    taken a r e = no-holder r (holder-of (record { message = a; holder = Some r }) (record { message = message; holder = None }) e)

    there : (place ≢ other) × (slice_get regions other ≡ Some (Some busy)) → IsAtWork system databases conversations (with_holder id (Some (place + 1)) queued) (other + 1) busy
    there h =
        let was = at_work other busy h.1 in
        let apart : busy.id ≢ id = λ s. taken was.message (other + 1) (sym was.found ∙ ap (λ n. queued_at n queued) s ∙ free) in
        record { message = was.message; found = found_held busy.id id (Some (place + 1)) queued apart ∙ was.found; work = was.work }

-- a region gives its message up, which goes
pub end_told : (queued : List Queued) (regions : List (Option Busy)) (place : ℕ) (old : Busy) → slice_get regions place ≡ Some (Some old)
    → AreHoldersTold (work_slots regions) queued → AreHoldersTold (work_slots (slice_set regions place None)) (without_id_queued old.id queued)
end_told [] regions place old e told = tt
end_told (q ∷ qs) regions place old e told = by (has_id old.id q) refl (end_told qs regions place old e told.1)
  where
    by : (b : Bool) → has_id old.id q ≡ b → AreHoldersTold (work_slots (slice_set regions place None)) (without_id_queued old.id qs)
        → AreHoldersTold (work_slots (slice_set regions place None)) (if not b then q ∷ without_id_queued old.id qs else without_id_queued old.id qs)
    by true h rest = rest
    by false h rest = (
      held_same q.message.id regions place (Some old) None e (sym (ne_eqb old.id q.message.id (λ s. no-both (sym (eq-eqb q.message.id old.id (sym s)) ∙ h)))) ∙ told.0,
      rest,
    )

pub end_at_work : (system : System) (databases databases' : DatabasesState) (conversations conversations' : List TerminalConversation) (queued : List Queued) (regions : List (Option Busy)) (place : ℕ) (old : Busy)
    → slice_get regions place ≡ Some (Some old) → StayAtWork system databases databases' regions place → StayGiven old.id queued conversations conversations'
    → AreAtWork system databases conversations queued regions → AreAtWork system databases' conversations' (without_id_queued old.id queued) (slice_set regions place None)
end_at_work system databases databases' conversations conversations' queued regions place old e stay given at_work other busy f =
    ⊎_elim (λ h. absurd (none-is busy h.1)) there (set_get regions place other None busy f)
  where
    none-is : (b : Busy) → None ≡ Some b → ⊥
    none-is b e = cc

    there : (place ≢ other) × (slice_get regions other ≡ Some (Some busy)) → IsAtWork system databases' conversations' (without_id_queued old.id queued) (other + 1) busy
    there h =
        let was = at_work other busy h.1 in
        let apart : busy.id ≢ old.id = one_each system databases conversations queued regions at_work other place busy old h.1 e (λ s. h.0 (sym s)) in
        record {
          message = was.message;
          found = found_without busy.id old.id queued apart ∙ was.found;
          work = subst (λ g. IsWork system databases' (other + 1) g busy) (sym (given busy.id was.message (ap (option_map (λ q. q.message)) was.found) apart))
              (stay other busy h.0 h.1 (given_in conversations was.message) was.work);
        }

-- a region gives its message back, which keeps its place
pub back_told : (system : System) (databases : DatabasesState) (conversations : List TerminalConversation) (whole queued : List Queued) (regions : List (Option Busy)) (place : ℕ) (old : Busy) → AreAtWork system databases conversations whole regions
    → slice_get regions place ≡ Some (Some old) → AreHoldersTold (work_slots regions) queued → AreHoldersTold (work_slots (slice_set regions place None)) (with_holder old.id None queued)
back_told system databases conversations whole [] regions place old at_work e told = tt
back_told system databases conversations whole (q ∷ qs) regions place old at_work e told =
    (by (has_id old.id q) refl, back_told system databases conversations whole qs regions place old at_work e told.1)
  where
    none-is : (b : Busy) → None ≡ Some b → ⊥
    none-is b f = cc

    apart : (other : ℕ) (busy : Busy) → slice_get (slice_set regions place None) other ≡ Some (Some busy) → busy.id ≢ old.id
    apart other busy f =
        ⊎_elim (λ h. absurd (none-is busy h.1))
        (λ h. one_each system databases conversations whole regions at_work other place busy old h.1 e (λ s. h.0 (sym s)))
        (set_get regions place other None busy f)

    by : (b : Bool) → has_id old.id q ≡ b
        → is_held (work_slots (slice_set regions place None)) (if b then record q { holder = None } else q).message.id ≡ is_some (if b then record q { holder = None } else q).holder
    by true h =
        let same : q.message.id ≡ old.id = eqb-true q.message.id old.id h in
        not_held q.message.id (slice_set regions place None) (λ other busy f s. apart other busy f (s ∙ same))
    by false h = held_same q.message.id regions place (Some old) None e (sym (ne_eqb old.id q.message.id (λ s. no-both (sym (eq-eqb q.message.id old.id (sym s)) ∙ h)))) ∙ told.0

pub back_at_work : (system : System) (databases databases' : DatabasesState) (conversations : List TerminalConversation) (queued : List Queued) (regions : List (Option Busy)) (place : ℕ) (old : Busy)
    → slice_get regions place ≡ Some (Some old) → StayAtWork system databases databases' regions place
    → AreAtWork system databases conversations queued regions → AreAtWork system databases' conversations (with_holder old.id None queued) (slice_set regions place None)
back_at_work system databases databases' conversations queued regions place old e stay at_work other busy f =
    ⊎_elim (λ h. absurd (none-is busy h.1)) there (set_get regions place other None busy f)
  where
    none-is : (b : Busy) → None ≡ Some b → ⊥
    none-is b e = cc

    there : (place ≢ other) × (slice_get regions other ≡ Some (Some busy)) → IsAtWork system databases' conversations (with_holder old.id None queued) (other + 1) busy
    there h =
        let was = at_work other busy h.1 in
        let apart : busy.id ≢ old.id = one_each system databases conversations queued regions at_work other place busy old h.1 e (λ s. h.0 (sym s)) in
        record {
          message = was.message;
          found = found_held busy.id old.id None queued apart ∙ was.found;
          work = stay other busy h.0 h.1 (given_in conversations was.message) was.work;
        }

-- an input comes, which no region has
pub new_told : (queued : List Queued) (slots : List (Option Slot)) (message : Message) → is_held slots message.id ≡ false
    → AreHoldersTold slots queued → AreHoldersTold slots (with_message message queued)
new_told [] slots message free told = (free, tt)
new_told (q ∷ qs) slots message free told = (told.0, new_told qs slots message free told.1)

below_new : (id next : ℕ) (queued : List Queued) (q : Queued) → IsNewId next queued → queued_at id queued ≡ Some q → id < next
below_new id next [] q above e = cc
below_new id next (p ∷ qs) q above e = by (has_id id p) refl e (λ h. below_new id next qs q above.1 h)
  where
    by : (b : Bool) → has_id id p ≡ b → (if b then Some p else queued_at id qs) ≡ Some q → (queued_at id qs ≡ Some q → id < next) → id < next
    by true h f rest = subst (λ n. n < next) (eqb-true p.message.id id h) above.0
    by false h f rest = rest f

pub new_free : (system : System) (databases : DatabasesState) (conversations : List TerminalConversation) (next : ℕ) (queued : List Queued) (regions : List (Option Busy)) → IsNewId next queued → AreAtWork system databases conversations queued regions
    → is_held (work_slots regions) next ≡ false
new_free system databases conversations next queued regions above at_work =
    not_held next regions (λ place busy e same.
    let small : busy.id < next = below_new busy.id next queued (record { message = (at_work place busy e).message; holder = Some (place + 1) }) above (at_work place busy e).found in
    absurd (omega (arith, small, same)))

pub new_at_work : (system : System) (databases : DatabasesState) (conversations conversations' : List TerminalConversation) (queued : List Queued) (regions : List (Option Busy)) (message : Message)
    → AllByRecursion (λ n. given_in conversations' n ≡ given_in conversations n) (messages_of queued)
    → AreAtWork system databases conversations queued regions → AreAtWork system databases conversations' (with_message message queued) regions
new_at_work system databases conversations conversations' queued regions message given at_work place busy e =
    let was = at_work place busy e in
    let same : given_in conversations' was.message ≡ given_in conversations was.message =
    all_found (λ n. given_in conversations' n ≡ given_in conversations n) (messages_of queued) busy.id was.message given (message_found busy.id queued ∙ ap (option_map (λ q. q.message)) was.found) in
    record {
      message = was.message;
      found = found_behind busy.id queued (record { message = message; holder = None } ∷ []) _ was.found;
      work = subst (λ g. IsWork system databases (place + 1) g busy) (sym same) was.work;
    }

pub told_without : (id : ℕ) (queued : List Queued) (slots : List (Option Slot)) → AreHoldersTold slots queued → AreHoldersTold slots (without_id_queued id queued)
told_without id [] slots told = tt
told_without id (q ∷ qs) slots told = by (not (has_id id q)) (told_without id qs slots told.1)
  where
    by : (b : Bool) → AreHoldersTold slots (without_id_queued id qs) → AreHoldersTold slots (if b then q ∷ without_id_queued id qs else without_id_queued id qs)
    by true rest = (told.0, rest)
    by false rest = rest

-- the slots of regions of which one changed
pub set_slots : (regions : List (Option Busy)) (place : ℕ) (new : Option Busy) → work_slots (slice_set regions place new) ≡ slice_set (work_slots regions) place (work_slot new)
set_slots [] place new = refl
set_slots (r ∷ regions) zero new = refl
set_slots (r ∷ regions) (suc place) new = ap (λ ss. work_slot r ∷ ss) (set_slots regions place new)

pub get_slots : (regions : List (Option Busy)) (place : ℕ) → slice_get (work_slots regions) place ≡ option_map work_slot (slice_get regions place)
get_slots [] place = refl
get_slots (r ∷ regions) zero = refl
get_slots (r ∷ regions) (suc place) = get_slots regions place

pub set_length : (regions : List (Option Busy)) (place : ℕ) (new : Option Busy) → length (slice_set regions place new) ≡ length regions
set_length [] place new = refl
set_length (r ∷ regions) zero new = refl
set_length (r ∷ regions) (suc place) new = ap suc (set_length regions place new)

pub set_set : (regions : List (Option Busy)) (place : ℕ) (a b : Option Busy) → slice_set (slice_set regions place a) place b ≡ slice_set regions place b
set_set [] place a b = refl
set_set (r ∷ regions) zero a b = refl
set_set (r ∷ regions) (suc place) a b = ap (λ rs. r ∷ rs) (set_set regions place a b)

pub get_set : (regions : List (Option Busy)) (place : ℕ) (old new : Option Busy) → slice_get regions place ≡ Some old → slice_get (slice_set regions place new) place ≡ Some new
get_set [] place old new e = cc
get_set (r ∷ regions) zero old new e = refl
get_set (r ∷ regions) (suc place) old new e = get_set regions place old new e
