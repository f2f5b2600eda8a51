-- All rings through a region are broken, and the turn is answered.
use Rattle.std.proofs.Common.{◌≡◌, ℕ, zero, suc, ◌+◌, ◌-◌, ◌≤◌, Bool, true, false, not, ◌&&◌, ◌||◌, cond, List, [], ◌∷◌, ◌++◌, length, refl, sym, ap, ◌∙◌, subst, arith, append_assoc}
use Rattle.std.specs.Prelude.{Option, Some, None, IsSome, Ok, ◌==◌, nat_le, filter, if◌then◌else◌, slice_get, slice_set}
use Rattle.std.specs.Option.{option_map_or, is_some, unwrap_or}
use Rattle.std.specs.Str.{bytes_eq}
use Rattle.std.proofs.lemmas.Bool.{eqb-true, leb-true, le-leb}
use Rattle.std.proofs.lemmas.List.Sums.{length-filter}
use Rattle.tm_types.specs.declared.message.Message.{Message}
use Rattle.tm_types.specs.declared.resource.Resource.{Resource}
use Rattle.model_messages.specs.Waiting.{is_waiting}
use Rattle.model_data.specs.declared.request.Request.{Request}
use Rattle.model_data.specs.declared.victim.Victim.{Victim}
use Rattle.model_data.specs.Table.{EnqueueTable}
use Rattle.model_data.specs.EnqueueRequests.{released}
use Rattle.model_data.specs.Cycle.{Breaks, after_victims}
use Rattle.model_system.specs.declared.code.Code.{Code}
use Rattle.model_system.specs.declared.code.Transaction.{Transaction}
use Rattle.model_system.specs.System.{System}
use Rattle.model_machine.specs.declared.entry.ControlCall.TheVariants.{Turn}
use Rattle.model_machine.specs.declared.entry.Entry.TheVariants.{Turn as TurnEntry}
use Rattle.model_machine.specs.declared.entry.Turned.{Turned}
use Rattle.model_machine.specs.declared.entry.Turned.TheVariants.{Scheduled, Called, Next, QC, Done, Abended, Idle, Held, Waits, Backed}
use Rattle.model_machine.specs.Machine.{LastingState, Moment, Slot, IsRegion, has_message, is_held, slot_at, raised_by, raised_now, waiting_now, moment_with, busy_slots}
use Rattle.model_machine.specs.Requests.{BreaksRingsAt, asked_table, blocked_now, changes_now, table_after, table_by, without_victims}
use Rattle.model_machine.specs.MachineCalls.{After, blocked_answer, slot_after, slot_answer, turn_answer, turn_by, turn_step, unless_blocked}
use Rattle.model_machine.specs.History.{victims_in}
use Rattle.program_rows.specs.CallAnswers.{told_blocked}
use Rattle.tm_machine.specs.Answers.{IsAnswered}
use Rattle.tm_machine.specs.Parts.{PartsState}
use Rattle.tm_machine.specs.Turns.{IsRegionTurned, WaitsSo, gave_way_in, waited}
use Rattle.tm_machine.specs.Victims.{BreaksRings, all_gave_way, gave_way}
use Rattle.tm_machine.proofs.Leaving.{turn_leaves}
use Rattle.tm_types.proofs.Ordered.{both_true}

-- ---- flags that follow on more messages that wait
raised_more : (transaction : Transaction) (w w' : ℕ) (raised : Bool) → w ≤ w' → (w ≡ 0 → raised ≡ false)
    → raised_by transaction w' (raised_by transaction w raised) ≡ raised_by transaction w' raised
raised_more transaction w w' raised more low = by (w == 0) refl (not (transaction.limit_count == 65535) && nat_le transaction.limit_count w) refl
  where
    limit : ℕ → Bool
    limit n = not (transaction.limit_count == 65535) && nat_le transaction.limit_count n

    zero_is : (w == 0) ≡ true → w ≡ 0
    zero_is e = eqb-true w 0 e

    both : (a b : Bool) → a && b ≡ true → (a ≡ true) × (b ≡ true)
    both true b h = (refl, h)
    both false b h = absurd (cc)

    over : limit w ≡ true → limit w' ≡ true
    over h =
        let parts = both (not (transaction.limit_count == 65535)) (nat_le transaction.limit_count w) h in
        let fits = leb-true transaction.limit_count w parts.1 in
        ap (λ b. b && nat_le transaction.limit_count w') parts.0 ∙ le-leb transaction.limit_count w' (omega (arith, fits, more))

    by : (a : Bool) → (w == 0) ≡ a → (b : Bool) → limit w ≡ b → raised_by transaction w' (cond a false (cond b true raised)) ≡ raised_by transaction w' raised
    by true e b f = ap (raised_by transaction w') (sym (low (zero_is e)))
    by false e true f = ap (λ l. cond (w' == 0) false (cond l true true)) (over f) ∙ sym (ap (λ l. cond (w' == 0) false (cond l true raised)) (over f))
    by false e false f = refl

-- flags settled for fewer messages, that follow on more and then on more still
now_more : (less w w' : List ℕ → ℕ) (codes : List Code) (flags : List Bool) → ((name : List ℕ) → less name ≤ w name) → ((name : List ℕ) → w name ≤ w' name)
    → raised_now less codes flags ≡ flags → raised_now w' codes (raised_now w codes flags) ≡ raised_now w' codes flags
now_more less w w' [] flags low more settled = refl
now_more less w w' (code ∷ codes) [] low more settled = refl
now_more less w w' (code ∷ codes) (f ∷ flags) low more settled =
    λ i. raised_more code.transaction (w name) (w' name) f (more name) none i ∷ now_more less w w' codes flags low more (ap tail_of settled) i
  where
    name : List ℕ
    name = code.transaction.code

    tail_of : List Bool → List Bool
    tail_of [] = []
    tail_of (b ∷ bs) = bs

    head_of : List Bool → Bool
    head_of [] = false
    head_of (b ∷ bs) = b

    none : w name ≡ 0 → f ≡ false
    none e =
        let zeroed : less name ≡ 0 = let l = low name in omega (arith, l, e) in
        sym (ap head_of settled) ∙ ap (λ n. raised_by code.transaction n f) zeroed

-- ---- more messages wait where a slot is emptied
or_false : (a b : Bool) → a || b ≡ false → (a ≡ false) × (b ≡ false)
or_false true b h = absurd (cc)
or_false false b h = (refl, h)

free_still : (slots : List (Option Slot)) (place id : ℕ) → is_held slots id ≡ false → is_held (slice_set slots place None) id ≡ false
free_still [] place id h = h
free_still (s ∷ slots) zero id h = (or_false (has_message id s) (is_held slots id) h).1
free_still (s ∷ slots) (suc place) id h =
    let parts = or_false (has_message id s) (is_held slots id) h in
    ap (λ b. b || is_held (slice_set slots place None) id) parts.0 ∙ free_still slots place id parts.1

count_more : (p q : Message → Bool) (messages : List Message) → ((m : Message) → p m ≡ true → q m ≡ true) → length (filter p messages) ≤ length (filter q messages)
count_more p q [] h = omega arith
count_more p q (m ∷ messages) h = by (p m) refl (q m) refl (count_more p q messages h)
  where
    clash : true ≡ false → ⊥
    clash e = cc

    by : (a : Bool) → p m ≡ a → (b : Bool) → q m ≡ b → length (filter p messages) ≤ length (filter q messages)
        → length (if a then m ∷ filter p messages else filter p messages) ≤ length (if b then m ∷ filter q messages else filter q messages)
    by true e true f rest = omega (arith, rest)
    by true e false f rest = absurd (clash (sym (h m e) ∙ f))
    by false e true f rest = omega (arith, rest)
    by false e false f rest = rest

not_true : (b : Bool) → not b ≡ true → b ≡ false
not_true true h = absurd (cc)
not_true false h = refl

more_wait : (lasting : LastingState) (slots : List (Option Slot)) (place : ℕ) (name : List ℕ) → waiting_now lasting slots name ≤ waiting_now lasting (slice_set slots place None) name
more_wait lasting slots place name =
    let fewer = count_more (is_waiting (is_held slots) name) (is_waiting (is_held (slice_set slots place None)) name) lasting.messages
    (λ m h.
    let parts = both_true (bytes_eq m.code name) (not (is_held slots m.id)) h in
    ap (λ b. b && not (is_held (slice_set slots place None) m.id)) parts.0 ∙ ap not (free_still slots place m.id (not_true (is_held slots m.id) parts.1))) in
    omega (arith, fewer, length-filter (is_waiting (is_held slots) name) lasting.messages, length-filter (is_waiting (is_held (slice_set slots place None)) name) lasting.messages)

-- ---- all victims
module _ (system : System) (lasting : LastingState) (flags : List Bool) (less : List ℕ → ℕ) (settled : raised_now less system.codes flags ≡ flags) where
  all_with : (victims : List Victim) (slots : List (Option Slot)) (table : EnqueueTable) → ((name : List ℕ) → less name ≤ waiting_now lasting slots name)
      → all_gave_way system (moment_with system lasting slots table flags) victims ≡ moment_with system lasting (without_victims victims slots) (after_victims victims table) flags
  all_with [] slots table low = refl
  all_with (v ∷ victims) slots table low =
      ap (λ f. all_gave_way system (record { lasting = lasting; slots = slice_set slots (v.region - 1) None; enqueues = released v.region table; raised = f }) victims)
      (now_more less (waiting_now lasting slots) (waiting_now lasting (slice_set slots (v.region - 1) None)) system.codes flags low (more_wait lasting slots (v.region - 1)) settled)
      ∙ all_with victims (slice_set slots (v.region - 1) None) (released v.region table)
      (λ name. let a = low name in let b = more_wait lasting slots (v.region - 1) name in omega (arith, a, b))

all_gave : (system : System) (moment : Moment) (victims : List Victim) → raised_now (waiting_now moment.lasting moment.slots) system.codes moment.raised ≡ moment.raised
    → all_gave_way system moment victims ≡ moment_with system moment.lasting (without_victims victims moment.slots) (after_victims victims moment.enqueues) moment.raised
all_gave system moment victims settled =
    ap (λ f. all_gave_way system (record moment { raised = f }) victims) (sym settled)
    ∙ all_with system moment.lasting moment.raised (waiting_now moment.lasting moment.slots) settled victims moment.slots moment.enqueues (λ name. omega arith)

-- ---- the loop
pub gave_more : (system : System) (moment : Moment) (victims : List Victim) (v : Victim) → all_gave_way system moment (victims ++ v ∷ []) ≡ gave_way system (all_gave_way system moment victims) v.region
gave_more system moment [] v = refl
gave_more system moment (w ∷ victims) v = gave_more system (gave_way system moment w.region) victims v

pub breaks_on : (changes : List ℕ) (region : ℕ) (start now after : EnqueueTable) (victims : List Victim) (v : Victim)
    → ((more : List Victim) → Breaks changes region now more → Breaks changes region start (victims ++ more))
    → after ≡ released v.region now
    → ((more : List Victim) → Breaks changes region (released v.region now) more → Breaks changes region now (v ∷ more))
    → (more : List Victim) → Breaks changes region after more → Breaks changes region start ((victims ++ v ∷ []) ++ more)
breaks_on changes region start now after victims v so left one more h =
    subst (Breaks changes region start) (sym (append_assoc victims (v ∷ []) more))
    (so (v ∷ more) (one more (subst (λ t. Breaks changes region t more) left h)))

-- a slot less is busy
pub busy_less : (slots : List (Option Slot)) (place : ℕ) → IsSome (unwrap_or (slice_get slots place) None) → busy_slots (slice_set slots place None) + 1 ≡ busy_slots slots
busy_less slots place h =
    let fewer = filtered slots place h in
    omega (arith, fewer, length-filter {X = Option Slot} is_some slots, length-filter {X = Option Slot} is_some (slice_set slots place None))
  where
    filtered : (xs : List (Option Slot)) (p : ℕ) → IsSome (unwrap_or (slice_get xs p) None) → length (filter is_some (slice_set xs p None)) + 1 ≡ length (filter is_some xs)
    filtered [] p g = let none : false ≡ true = g in absurd (cc)
    filtered (Some s ∷ xs) zero g = omega arith
    filtered (None ∷ xs) zero g = let none : false ≡ true = g in absurd (cc)
    filtered (Some s ∷ xs) (suc p) g = let rest = filtered xs p g in omega (arith, rest)
    filtered (None ∷ xs) (suc p) g = filtered xs p g

-- ---- the answer
gave_in : (resource : Resource) (by : ℕ) (victims : List Victim) → gave_way_in (waited resource by victims) ≡ victims
gave_in resource by [] = refl
gave_in resource by (v ∷ victims) = refl

pub victims_told : (region : ℕ) (turned : Turned) → victims_in (TurnEntry region (Ok turned)) ≡ gave_way_in turned
victims_told region (Scheduled code id) = refl
victims_told region (Called function pcb status) = refl
victims_told region (Next code id next) = refl
victims_told region (QC code id) = refl
victims_told region (Done code id) = refl
victims_told region (Abended code id abend) = refl
victims_told region Idle = refl
victims_told region (Held need limit) = refl
victims_told region (Waits resource by) = refl
victims_told region (Backed victims) = refl

pub turned_answered : (old new : PartsState) (region : ℕ) (turned : Turned) → IsRegion old.system region → IsRegionTurned old new region turned → IsAnswered old new (TurnEntry region (Ok turned))
turned_answered old new region turned there h = record {
  may = record {
    call = there;
    victims = subst (λ vs. BreaksRingsAt old.system old.moment region vs (slot_at old.moment region)) (sym (victims_told region turned)) h.victims;
    answer = ap (λ t. TurnEntry region (Ok t)) (h.answer ∙ ap (turn_answer old.system old.moment region) (sym (victims_told region turned)));
  };
  after = h.after ∙ ap (After old.system old.moment (Turn region)) (sym (victims_told region turned));
  system = h.system;
}

set_slot : (slots : List (Option Slot)) (place : ℕ) (slot : Slot) → unwrap_or (slice_get slots place) None ≡ Some slot → slice_set slots place (Some slot) ≡ slots
set_slot [] place slot e = refl
set_slot (s ∷ slots) zero slot e = ap (λ o. o ∷ slots) (sym e)
set_slot (s ∷ slots) (suc place) slot e = ap (λ ss. s ∷ ss) (set_slot slots place slot e)

waited_answer : (resource : Resource) (by : ℕ) (blocked : Request × ℕ) (victims : List Victim) → ◌≡◌ {A = Resource × ℕ} (blocked.0.resource, blocked.1) (resource, by)
    → waited resource by victims ≡ blocked_answer blocked victims
waited_answer resource by blocked [] same = ap (λ (p : Resource × ℕ). Waits p.0 p.1) (sym same)
waited_answer resource by blocked (v ∷ victims) same = refl

waited_slot : (resource : Resource) (by : ℕ) (victims : List Victim) (slot : Option Slot) → slot_after (waited resource by victims) slot ≡ slot
waited_slot resource by [] slot = refl
waited_slot resource by (v ∷ victims) slot = refl

waited_table : (resource : Resource) (by region : ℕ) (victims : List Victim) (table : EnqueueTable) → table_after (waited resource by victims) region table ≡ after_victims victims table
waited_table resource by region [] table = refl
waited_table resource by region (v ∷ victims) table = refl

-- a region waited, and all rings through it were broken
pub turned_waits : (old middle new : PartsState) (region : ℕ) (resource : Resource) (by : ℕ) (victims : List Victim) → WaitsSo old middle region resource by → BreaksRings middle new region victims
    → IsRegionTurned old new region (waited resource by victims)
turned_waits old middle new region resource by victims w b = found (blocked_now old.system old.moment region w.slot) refl w.blocked
  where
    abbrev_changes : changes_now middle.system middle.moment ≡ changes_now old.system old.moment
    abbrev_changes = ap (λ s. changes_now s middle.moment) w.system ∙ ap (λ m. changes_now old.system m) w.moment

    right : Breaks (changes_now old.system old.moment) region (asked_table old.system old.moment region) victims
    right = subst (λ t. Breaks (changes_now old.system old.moment) region t victims) (ap (λ m. m.enqueues) w.moment)
        (subst (λ c. Breaks c region middle.moment.enqueues victims) abbrev_changes b.right)

    left : new.moment ≡ moment_with old.system old.moment.lasting (without_victims victims old.moment.slots) (after_victims victims (asked_table old.system old.moment region)) old.moment.raised
    left =
        b.moment ∙ ap (λ s. all_gave_way s middle.moment victims) w.system ∙ ap (λ m. all_gave_way old.system m victims) w.moment
        ∙ all_gave old.system (record old.moment { enqueues = asked_table old.system old.moment region }) victims w.settled

    found : (blocked : Option (Request × ℕ)) → blocked_now old.system old.moment region w.slot ≡ blocked → told_blocked blocked ≡ Some (resource, by) → IsRegionTurned old new region (waited resource by victims)
    found None e told = cc
    found (Some blocked) e told = record {
      victims = rw (gave_in resource by victims) (rw w.here (rw e right));
      answer = rw (gave_in resource by victims) (sym answer);
      after = rw (gave_in resource by victims)
          (left
          ∙ ap (λ ss. moment_with old.system old.moment.lasting (without_victims victims ss) (after_victims victims (asked_table old.system old.moment region)) old.moment.raised)
          (sym (ap (slice_set old.moment.slots (region - 1)) (waited_slot resource by victims (Some w.slot)) ∙ set_slot old.moment.slots (region - 1) w.slot w.here))
          ∙ ap (λ t. moment_with old.system old.moment.lasting (without_victims victims (slice_set old.moment.slots (region - 1) (slot_after (waited resource by victims) (Some w.slot)))) t old.moment.raised)
          (sym (waited_table resource by region victims (asked_table old.system old.moment region)))
          ∙ sym (turn_leaves old.system old.moment region victims (Some w.slot) (waited resource by victims) None (asked_table old.system old.moment region) w.here answer
          (ap (λ o. unless_blocked o (turn_step old.system old.moment.lasting w.slot)) e) (sym (ap (table_by old.system old.moment region) w.here))));
      system = b.system ∙ w.system;
    }
      where
        some_is : (x y : Resource × ℕ) → Some x ≡ Some y → x ≡ y
        some_is x y h = cc

        same : ◌≡◌ {A = Resource × ℕ} (blocked.0.resource, blocked.1) (resource, by)
        same = some_is (blocked.0.resource, blocked.1) (resource, by) told

        answer : turn_answer old.system old.moment region victims ≡ waited resource by victims
        answer =
            ap (turn_by old.system old.moment region victims) w.here
            ∙ ap (λ o. option_map_or (λ x. blocked_answer x victims) o (slot_answer old.system old.moment w.slot)) e
            ∙ sym (waited_answer resource by blocked victims same)
