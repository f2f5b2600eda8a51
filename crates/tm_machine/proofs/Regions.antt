-- The regions, one after another.
use Rattle.std.proofs.Common.{◌≡◌, ℕ, zero, suc, ◌+◌, ◌-◌, ◌≤◌, ◌<◌, List, [], ◌∷◌, ◌++◌, drop, length, refl, sym, ap, ◌∙◌, arith, add-one, append_assoc}
use Rattle.std.specs.Prelude.{Option, Some, None, slice_get}
use Rattle.std.specs.Option.{option_map, unwrap_or}
use Rattle.std.proofs.Math.ListN.{drop_of_length-le}
use Rattle.tm_types.specs.declared.dbd.Dbd.{Dbd}
use Rattle.tm_types.specs.declared.resource.Resource.{Resource}
use Rattle.model_machine.specs.declared.active.ActiveRegion.{ActiveRegion}
use Rattle.model_machine.specs.declared.active.RegionWork.{RegionWork}
use Rattle.model_machine.specs.declared.active.RegionWork.TheVariants.{Idle}
use Rattle.model_data.specs.Table.{EnqueueTable, wait_of, waits_by}
use Rattle.model_machine.specs.CommandAnswers.{active_from, first_busy, waiting_work, work_of}
use Rattle.model_machine.specs.Machine.{Slot, slot_in}
use Rattle.tm_machine.specs.RegionMessage.{region_message}
use Rattle.tm_machine.specs.WaitingWork.{work_on}

-- ---- the work of one

work_same : (databases : List Dbd) (s : Slot) (resource : Option Resource) (by : Option ℕ) → work_on databases s.code s.id resource by ≡ waiting_work databases s resource by
work_same databases s (Some resource) (Some by) = refl
work_same databases s (Some resource) None = refl
work_same databases s None by = refl

pub idle_work : (databases : List Dbd) (table : EnqueueTable) (region : ℕ) (slot : Option Slot) → None ≡ region_message slot → Idle ≡ work_of databases table region slot
idle_work databases table region None e = refl
idle_work databases table region (Some s) e = cc

taken : (a b : List ℕ × ℕ) → Some a ≡ Some b → a ≡ b
taken a b e = cc

pub busy_work : (databases : List Dbd) (table : EnqueueTable) (region : ℕ) (slot : Option Slot) (code : List ℕ) (id : ℕ) (work : RegionWork) → Some (code, id) ≡ region_message slot
    → work ≡ work_on databases code id (option_map (λ request. request.resource) (wait_of region table)) (waits_by region table) → work ≡ work_of databases table region slot
busy_work databases table region None code id work e is = cc
busy_work databases table region (Some s) code id work e is =
    let same = taken (code, id) (s.code, s.id) e in
    is
    ∙ ap (λ c. work_on databases c id (option_map (λ request. request.resource) (wait_of region table)) (waits_by region table)) (ap (λ x. x.0) same)
    ∙ ap (λ i. work_on databases s.code i (option_map (λ request. request.resource) (wait_of region table)) (waits_by region table)) (ap (λ x. x.1) same)
    ∙ work_same databases s (option_map (λ request. request.resource) (wait_of region table)) (waits_by region table)

pub ruleset work_answers = (idle_work, busy_work)

-- ---- all of them

slot_from : (slots : List (Option Slot)) (place : ℕ) → unwrap_or (slice_get slots (place + 1 - 1)) None ≡ unwrap_or (slice_get slots place) None
slot_from slots place = let same : place + 1 - 1 ≡ place = omega arith in ap (λ p. unwrap_or (slice_get slots p) None) same

active_at : (databases : List Dbd) (table : EnqueueTable) (region : ℕ) (slots : List (Option Slot)) (place : ℕ) → place < length slots
    → active_from databases table region (drop place slots)
    ≡ record { region = region; work = work_of databases table region (unwrap_or (slice_get slots place) None) } ∷ active_from databases table (suc region) (drop (suc place) slots)
active_at databases table region [] place h = absurd (omega (arith, h))
active_at databases table region (s ∷ slots) zero h = refl
active_at databases table region (s ∷ slots) (suc place) h = active_at databases table region slots place (omega (arith, h))

pub active_step : (databases : List Dbd) (table : EnqueueTable) (slots : List (Option Slot)) (place : ℕ) → place < length slots
    → active_from databases table (place + 1) (drop place slots)
    ≡ record { region = place + 1; work = work_of databases table (place + 1) (slot_in slots (place + 1)) } ∷ active_from databases table (place + 1 + 1) (drop (place + 1) slots)
active_step databases table slots place h =
    active_at databases table (place + 1) slots place h
    ∙ ap (λ s. record { region = place + 1; work = work_of databases table (place + 1) s } ∷ active_from databases table (suc (place + 1)) (drop (suc place) slots)) (sym (slot_from slots place))
    ∙ ap (λ n. record { region = place + 1; work = work_of databases table (place + 1) (slot_in slots (place + 1)) } ∷ active_from databases table n (drop (suc place) slots)) (sym (add-one (place + 1)))
    ∙ ap (λ n. record { region = place + 1; work = work_of databases table (place + 1) (slot_in slots (place + 1)) } ∷ active_from databases table (place + 1 + 1) (drop n slots)) (sym (add-one place))

pub active_end : (databases : List Dbd) (table : EnqueueTable) (slots : List (Option Slot)) (place : ℕ) → length slots ≤ place → active_from databases table (place + 1) (drop place slots) ≡ []
active_end databases table slots place h = ap (active_from databases table (place + 1)) (drop_of_length-le slots h)

pub active_more : (databases : List Dbd) (table : EnqueueTable) (slots : List (Option Slot)) (place : ℕ) (done all : List ActiveRegion) (work : RegionWork) → place < length slots
    → work ≡ work_of databases table (place + 1) (slot_in slots (place + 1)) → done ++ active_from databases table (place + 1) (drop place slots) ≡ all
    → (done ++ record { region = place + 1; work = work } ∷ []) ++ active_from databases table (place + 1 + 1) (drop (place + 1) slots) ≡ all
active_more databases table slots place done all work h is before =
    append_assoc done (record { region = place + 1; work = work } ∷ []) (active_from databases table (place + 1 + 1) (drop (place + 1) slots))
    ∙ ap (λ w. done ++ record { region = place + 1; work = w } ∷ active_from databases table (place + 1 + 1) (drop (place + 1) slots)) is
    ∙ ap (λ rs. done ++ rs) (sym (active_step databases table slots place h)) ∙ before

-- ---- the first that works

busy_at : (region : ℕ) (slots : List (Option Slot)) (place : ℕ) (slot : Option Slot) → place < length slots → unwrap_or (slice_get slots place) None ≡ slot
    → first_busy region (drop place slots) ≡ first_busy region (slot ∷ drop (suc place) slots)
busy_at region [] place slot h e = absurd (omega (arith, h))
busy_at region (s ∷ slots) zero slot h e = ap (λ o. first_busy region (o ∷ slots)) e
busy_at region (s ∷ slots) (suc place) slot h e = busy_at region slots place slot (omega (arith, h)) e

pub busy_found : (slots : List (Option Slot)) (place : ℕ) (work : List ℕ × ℕ) → place < length slots → Some work ≡ region_message (slot_in slots (place + 1))
    → Some (place + 1, work.1) ≡ first_busy (place + 1) (drop place slots)
busy_found slots place work h e = by (slot_in slots (place + 1)) refl e where
  by : (slot : Option Slot) → slot_in slots (place + 1) ≡ slot → Some work ≡ region_message slot → Some (place + 1, work.1) ≡ first_busy (place + 1) (drop place slots)
  by None is f = cc
  by (Some s) is f =
      let same = taken work (s.code, s.id) f in
      ap (λ n. Some (place + 1, n)) (ap (λ x. x.1) same)
      ∙ sym (busy_at (place + 1) slots place (Some s) h (sym (slot_from slots place) ∙ is))

pub busy_next : (slots : List (Option Slot)) (place : ℕ) → place < length slots → None ≡ region_message (slot_in slots (place + 1))
    → first_busy (place + 1) (drop place slots) ≡ first_busy (place + 1 + 1) (drop (place + 1) slots)
busy_next slots place h e = by (slot_in slots (place + 1)) refl e where
  by : (slot : Option Slot) → slot_in slots (place + 1) ≡ slot → None ≡ region_message slot → first_busy (place + 1) (drop place slots) ≡ first_busy (place + 1 + 1) (drop (place + 1) slots)
  by (Some s) is f = cc
  by None is f =
      busy_at (place + 1) slots place None h (sym (slot_from slots place) ∙ is)
      ∙ ap (λ n. first_busy n (drop (suc place) slots)) (sym (add-one (place + 1)))
      ∙ ap (λ n. first_busy (place + 1 + 1) (drop n slots)) (sym (add-one place))

pub busy_end : (slots : List (Option Slot)) (place : ℕ) → length slots ≤ place → first_busy (place + 1) (drop place slots) ≡ None
busy_end slots place h = ap (first_busy (place + 1)) (drop_of_length-le slots h)
