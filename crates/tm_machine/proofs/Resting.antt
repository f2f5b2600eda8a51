-- Whether regions rest.
use Rattle.std.proofs.Common.{◌≡◌, ℕ, zero, suc, ◌+◌, ◌-◌, ◌≤◌, ◌<◌, true, false, not, ◌&&◌, ◌||◌, List, [], ◌∷◌, drop, length, refl, sym, ap, ◌∙◌, arith, add-one}
use Rattle.std.specs.Prelude.{Option, Some, None, is_some, nat_lt, slice_get}
use Rattle.std.specs.Option.{option_map}
use Rattle.std.proofs.Math.ListN.{drop_of_length-le}
use Rattle.model_system.specs.declared.code_state.CodeState.{CodeState}
use Rattle.model_system.specs.System.{System}
use Rattle.model_machine.specs.Machine.{Moment, Slot}
use Rattle.model_machine.specs.Pick.{Candidate, pick_of}
use Rattle.model_machine.specs.MachineCalls.{rests, all_rest, pick_now, need_now}
use Rattle.tran_pick.specs.RegionPick.{offered_in}
use Rattle.tran_pick.specs.declared.picked.Pick.{Pick}
use Rattle.lasting_state.specs.Tables.{TablesState}
use Rattle.region_work.specs.declared.region.Busy.{Busy}
use Rattle.tm_machine.specs.Parts.{work_slot, work_slots, AreParts}
use Rattle.tm_machine.proofs.Scheduled.{pick_with, pick_is, moment_now}
use Rattle.tm_machine.proofs.Stepped.{slot_is}

step : (system : System) (moment : Moment) (region : ℕ) (slots : List (Option Slot)) (place : ℕ) → place < length slots
    → all_rest system moment region (drop place slots) ≡ (rests system moment region && all_rest system moment (suc region) (drop (suc place) slots))
step system moment region [] place h = absurd (omega (arith, h))
step system moment region (s ∷ slots) zero h = refl
step system moment region (s ∷ slots) (suc place) h = step system moment region slots place (omega (arith, h))

-- the regions from one on rest where it rests and those behind it do
pub all_rest_step : (system : System) (moment : Moment) (region : ℕ) (slots : List (Option Slot)) (place : ℕ) → place < length slots
    → all_rest system moment region (drop place slots) ≡ (rests system moment region && all_rest system moment (region + 1) (drop (place + 1) slots))
all_rest_step system moment region slots place h = rw (add-one region, add-one place) (step system moment region slots place h)

pub all_rest_end : (system : System) (moment : Moment) (region : ℕ) (slots : List (Option Slot)) (place : ℕ) → length slots ≤ place
    → all_rest system moment region (drop place slots) ≡ true
all_rest_end system moment region slots place h = ap (all_rest system moment region) (drop_of_length-le slots h)

pub slots_length : (regions : List (Option Busy)) → length (work_slots regions) ≡ length regions
slots_length [] = refl
slots_length (r ∷ regions) = ap suc (slots_length regions)

slot_some : (busy : Option Busy) → is_some (work_slot busy) ≡ is_some busy
slot_some (Some busy) = refl
slot_some None = refl

map_some : (o : Option Candidate) → is_some (option_map pick_with o) ≡ is_some o
map_some (Some c) = refl
map_some None = refl

module _ (system : System) (tables : TablesState) (states : List CodeState) (regions : List (Option Busy)) (region : ℕ)
    (parts : AreParts system tables states regions) (work : Option Busy) (get : slice_get regions (region - 1) ≡ Some work)
    (picked : Option Pick) (value : picked ≡ option_map pick_with (pick_of system region states (offered_in tables.queues.queued))) where
  -- a region rests by its work, what it could pick, and whether there is room
  pub rests_is : rests system (moment_now system tables states regions region parts) region
      ≡ (not (is_some work) && (not (is_some picked) || nat_lt system.qbytes (need_now (moment_now system tables states regions region parts))))
  rests_is =
      ap (λ b. not b && (not (is_some (pick_now system (moment_now system tables states regions region parts) region)) || nat_lt system.qbytes (need_now (moment_now system tables states regions region parts))))
      (ap is_some (slot_is system tables states regions region parts work get) ∙ slot_some work)
      ∙ ap (λ b. not (is_some work) && (not b || nat_lt system.qbytes (need_now (moment_now system tables states regions region parts))))
      (ap is_some (pick_is system tables states regions region parts) ∙ sym (map_some _) ∙ ap is_some (sym value))

  pub rests_idle : is_some work ≡ false → is_some picked ≡ false → true ≡ rests system (moment_now system tables states regions region parts) region
  rests_idle a b = sym (rests_is
      ∙ ap (λ x. not x && (not (is_some picked) || nat_lt system.qbytes (need_now (moment_now system tables states regions region parts)))) a
      ∙ ap (λ x. not x || nat_lt system.qbytes (need_now (moment_now system tables states regions region parts))) b)

  pub rests_short : is_some work ≡ false → is_some picked ≡ true → (limit need : ℕ) → limit ≡ system.qbytes → need ≡ need_now (moment_now system tables states regions region parts)
      → nat_lt limit need ≡ rests system (moment_now system tables states regions region parts) region
  rests_short a b limit need l n =
      ap (λ x. nat_lt x need) l ∙ ap (nat_lt system.qbytes) n ∙ sym (rests_is
      ∙ ap (λ x. not x && (not (is_some picked) || nat_lt system.qbytes (need_now (moment_now system tables states regions region parts)))) a
      ∙ ap (λ x. not x || nat_lt system.qbytes (need_now (moment_now system tables states regions region parts))) b)
