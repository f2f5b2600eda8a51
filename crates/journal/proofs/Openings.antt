-- A life that begins goes with the machine as it starts.
use Rattle.std.proofs.Common.{◌≡◌, ℕ, zero, suc, ◌+◌, ◌≤◌, ◌<◌, nat_lt, false, List, [], length, map, Option, Some, None, IsSome, refl, sym, ◌∙◌, ap, subst, arith, replicate}
use Rattle.std.specs.Prelude.{slice_get}
use Rattle.std.specs.List.{AllByRecursion}
use Rattle.std.specs.Option.{is_some}
use Rattle.std.proofs.lemmas.Bool.{ltb-false}
use Rattle.model_data.specs.declared.row.Row.{Row}
use Rattle.model_data.specs.Record as rows
use Rattle.model_system.specs.System.{System}
use Rattle.model_machine.specs.Machine.{LastingState, Slot, busy_slots, content, start_of}
use Rattle.model_image.specs.States.{breaks_a_rule}
use Rattle.log_records.specs.declared.record.Record.{Record}
use Rattle.restart_data.specs.declared.restart.RestartSector.{RestartSector}
use Rattle.restart_data.specs.Restart.{IsRestart}
use Rattle.seg_store.specs.Slots.{rows_of_slots}
use Rattle.unit_work.specs.declared.change.Change.{Change}
use Rattle.unit_work.specs.Images.{image_bytes_at}
use Rattle.checkpointing.specs.SnapshotRecords.{IsOfSystem, snapshot_records}
use Rattle.image_law.specs.SegmentCounts.{AreSegmentsCounted}
use Rattle.system_types.specs.ValidSystem.{IsSystem}
use Rattle.image_law.proofs.Kept.{stands}
use Rattle.image_law.proofs.SoundLaws.{is_sound}
use Rattle.image_law.specs.SoundMachine.{StaysSound}
use Rattle.disk_law.specs.CommittedBytes.{Touch}
use Rattle.disk_law.specs.Life.{LifeOnDisk, IsLifeOnDisk, SpellRows}
use Rattle.disk_law.specs.OpenedLife.{MayOpenLife, bytes_in_stores, no_touches, opened_life}
use Rattle.disk_law.proofs.Snapshots.{only_changes}
use Rattle.unit_work.specs.Marks.{is_marked}
use Rattle.program_rows.specs.SlotsState.{SlotsState, HaveSlots, touched_in}
use Rattle.journal.specs.UnitNumbers.{AreUnitsNumbered, unit_of_region}
use Rattle.journal.specs.CarriedLife.{IsCarriedBy}
use Rattle.journal.proofs.Places.{bytes_of_place}
use Rattle.journal.proofs.Stores.{has_stores, few_sectors_of}

-- no region has a number
abbrev pub no_units : ℕ → List ℕ
no_units n = replicate n 0

none_busy : (n : ℕ) (some : Option Slot) → some ≡ None → busy_slots (replicate n some) ≡ 0
none_busy zero some none = refl
none_busy (suc n) some none = rw none (none_busy n None refl)

all_zero : (n k u : ℕ) → slice_get (replicate n 0) k ≡ Some u → u ≡ 0
all_zero zero k u is = absurd cc
all_zero (suc n) zero u is = cc
all_zero (suc n) (suc k) u is = all_zero n k u is

-- no message
abbrev no_slot : Option Slot
no_slot = None

all_none : (n k : ℕ) (slot : Option Slot) → slice_get (replicate n no_slot) k ≡ Some slot → slot ≡ None
all_none zero k slot is = absurd cc
all_none (suc n) zero slot is = cc
all_none (suc n) (suc k) slot is = all_none n k slot is

same_length : {A B : Type 0} (n : ℕ) (a : A) (b : B) → length (replicate n a) ≡ length (replicate n b)
same_length zero a b = refl
same_length (suc n) a b = ap (λ k. suc k) (same_length n a b)

-- so many empty regions, none of which has a number
none_numbered : (n next : ℕ) → 0 < next → AreUnitsNumbered (replicate n None) (no_units n) next
none_numbered n next some = record {
  count = same_length n 0 no_slot;
  some = some;
  busy = λ place unit slot found there. ap (λ u. nat_lt 0 u) (all_zero n place unit found) ∙ ap is_some (sym (all_none n place slot there));
  below = λ place unit found. omega (arith, all_zero n place unit found, some);
  apart = λ place other unit found there positive. absurd (omega (arith, all_zero n place unit found, positive));
}

no_touch : (t : Touch) → None ≡ Some t → ⊥
no_touch t e = cc

not_over_by : (limit need : ℕ) → nat_lt limit need ≡ false → need ≤ limit
not_over_by limit need e = ltb-false limit need e

module _ (system : System) (valid : IsSystem system) (n : ℕ) (text : List ℕ) (now : RestartSector) (state : LastingState) (slots : SlotsState) (next : ℕ)
    (in_range : IsRestart now) (unbroken : breaks_a_rule system state ≡ false) (names : IsOfSystem system state) (counted : AreSegmentsCounted state) (have : HaveSlots system.databases n slots)
    (rows_are : map (λ s. rows_of_slots s.slots) slots.stores ≡ state.rows) (clean : (region : ℕ) → touched_in region slots ≡ []) (unmarked : (d s : ℕ) → is_marked slots.changed d s ≡ false) (some : 0 < next) where
  abbrev pub life_opened : LifeOnDisk
  life_opened = opened_life system text now slots.stores state

  abbrev pub told_first : List Record
  told_first = snapshot_records now.checkpoint next state []

  -- It may be opened.
  pub may_open : MayOpenLife system now slots.stores state told_first
  may_open = record {
    in_range = in_range;
    few = omega (arith, valid.most_logs);
    sound = unbroken;
    databases = have.stores;
    valid = have.valid;
    plain = λ d s. only_changes d s now.checkpoint next state [];
  }

  bytes_are : (place number : ℕ) → bytes_in_stores slots.stores (place + 1) number ≡ image_bytes_at (place + 1) number slots.stores
  bytes_are place number = ap (λ p. Rattle.disk_law.specs.Life.store_bytes_at slots.stores p number) (omega arith) ∙ sym (bytes_of_place slots.stores place number)

  none_seen : (region d s : ℕ) → Rattle.unit_work.specs.Changes.is_seen d s (touched_in region slots) ≡ false
  none_seen region d s = ap (λ (cs : List Change). Rattle.unit_work.specs.Changes.is_seen d s cs) (clean region)

  as_committed : (d s : ℕ) → 1 ≤ d → image_bytes_at d s slots.stores ≡ image_bytes_at d s slots.committed
  as_committed d s low = ap (λ (image : List Row). rows.rows_spelling image) (sym (have.untouched d s low (λ region. none_seen region d s)))

  spells : SpellRows system (bytes_in_stores slots.stores) state.rows
  spells = record {
    stores = slots.stores;
    databases = have.stores;
    valid = have.valid;
    bytes = λ place number dbd found below. bytes_are place number ∙ bytes_of_place slots.stores place number;
    are = rows_are;
  }

  opened_is : IsLifeOnDisk life_opened
  opened_is = record {
    in_range = in_range;
    few = omega (arith, valid.most_logs);
    writer = record { first = refl; count = refl; sequence = refl; epoch = refl };
    appended = record { fits = omega arith; spelled = refl; records = tt; bytes = λ i. omega arith };
    sound = unbroken;
    rows = spells;
    slots = record {
      firsts = λ unit d s t is. absurd (no_touch t is);
      apart = λ unit other d s t u first second. absurd (no_touch t first);
      touched = λ unit d s t is. absurd (no_touch t is);
      untouched = λ place number dbd found below none. refl;
    };
  }

  starts_sound : StaysSound system (start_of system state)
  starts_sound =
      let sound = is_sound system state unbroken in
      record {
        stands = stands system state sound;
        room = omega (arith, not_over_by system.qbytes (content state) sound.fits.room, none_busy (length system.regions) None refl);
      }

  -- The life that begins goes with the machine as it starts.
  pub opening_carried : IsCarriedBy system (start_of system state) slots (no_units (length system.regions)) next life_opened
  opening_carried = record {
    is = record {
      of_system = refl;
      lasts = refl;
      names = names;
      counted = counted;
      is_life = opened_is;
      stores = has_stores system n slots have (few_sectors_of system valid) life_opened refl
          (λ place number dbd found below. bytes_are place number)
          (λ place number dbd found below. sym (unmarked (place + 1) number));
      committed = λ place number dbd found below. bytes_are place number ∙ as_committed (place + 1) number (omega arith);
      numbers = none_numbered (length system.regions) next some;
      touched = record {
        each = λ unit d s t is. absurd (no_touch t is);
        kept = λ region least.
            subst (λ (cs : List Change). AllByRecursion (λ x. IsSome (no_touches (unit_of_region (no_units (length system.regions)) region) x.db x.slot)) cs) (sym (clean region)) tt;
      };
      syncs = record { open_yet = λ place unit found positive. refl; to_come = λ unit above. refl };
    };
    sound = starts_sound;
  }
