-- What the steps of finding an image answer.
use Rattle.std.proofs.Common.{◌≡◌, ℕ, suc, ◌+◌, ◌≤◌, Bool, true, false, List, [], ◌∷◌, length, map, refl, sym, ◌∙◌, ap, subst, arith, Some, None, Ok, Err}
use Rattle.std.specs.Prelude.{Option, Result, if◌then◌else◌, ◌==◌}
use Rattle.std.specs.Option.{option_map}
use Rattle.tm_disk.specs.Disk.{Image}
use Rattle.model_system.specs.System.{System}
use Rattle.model_machine.specs.Machine.{LastingState}
use Rattle.restart_data.specs.declared.restart.RestartSector.{RestartSector}
use Rattle.restart_data.specs.Restart.{restart_in}
use Rattle.seg_store.specs.Slots.{rows_of_slots}
use Rattle.seg_store.specs.ChangedSlots.{stored}
use Rattle.model_system.specs.Areas.{is_single, snapshot_area}
use Rattle.model_image.specs.Text.{text_in, first_difference}
use Rattle.model_image.specs.RecoveredState.{Recovers}
use Rattle.image_records.specs.KeptState.{KeptState}
use Rattle.tm_restart.proofs.Judged.{bad_restart}
use Rattle.model_machine.specs.declared.counts.Counter.{Counter}
use Rattle.tm_restart.specs.declared.finding.Found.{Found}
use Rattle.openings.specs.OpenedImage.{counters, first_spent, IsBad, IsOther, IsSpent}
use Rattle.tm_restart.specs.FoundImage.{IsSeen}

-- ---- texts

by_place : (same : Bool) (rest : Option ℕ) (n most : ℕ) → ((m : ℕ) → rest ≡ Some m → m ≤ most) → (if same then option_map (λ n. suc n) rest else Some 0) ≡ Some n → n ≤ suc most
by_place true None n most fits e = absurd cc
by_place true (Some m) n most fits e = let is : suc m ≡ n = cc in omega (arith, is, fits m refl)
by_place false rest n most fits e = let is : 0 ≡ n = cc in omega (arith, is)

-- no place that differs is past the text
place_fits : (xs ys : List ℕ) (n : ℕ) → first_difference xs ys ≡ Some n → n ≤ length xs
place_fits [] [] n e = absurd cc
place_fits [] (b ∷ ys) n e = let is : 0 ≡ n = cc in omega (arith, is)
place_fits (a ∷ xs) [] n e = let is : 0 ≡ n = cc in omega (arith, is)
place_fits (a ∷ xs) (b ∷ ys) n e = by_place (a == b) (first_difference xs ys) n (length xs) (place_fits xs ys) e

pub other_seen : (system : System) (text : List ℕ) (image : Image) (restart : RestartSector) (place told : ℕ) → restart_in (snapshot_area system) (is_single system) image ≡ Ok (Some restart) → Some place ≡ first_difference text (text_in image restart.text)
    → (place ≤ length text → told ≡ place) → IsOther system text image told
other_seen system text image restart place told has differs least =
    let same : told ≡ place = least (place_fits text (text_in image restart.text) place (sym differs)) in
    record { restart = restart; has_restart = has; differs = sym differs ∙ ap (λ (n : ℕ). Some n) (sym same) }

-- ---- broken rules

one_sector : (a b : RestartSector) (read : Result (Option RestartSector) ℕ) → read ≡ Ok (Some a) → read ≡ Ok (Some b) → a ≡ b
one_sector a b read one other = cc

no_sector : (a : RestartSector) (rule : ℕ) (read : Result (Option RestartSector) ℕ) → read ≡ Err rule → read ≡ Ok (Some a) → ⊥
no_sector a rule read one other = cc

pub bad_first : (system : System) (text : List ℕ) (image : Image) (rule : ℕ) → restart_in (snapshot_area system) (is_single system) image ≡ Err rule → IsBad system text image rule 0
bad_first system text image rule is = record {
  recovers = bad_restart system image rule is;
  same = λ restart has. absurd (no_sector restart rule (restart_in (snapshot_area system) (is_single system) image) is has);
}

pub bad_seen : (system : System) (text : List ℕ) (image : Image) (restart : RestartSector) (rule sector : ℕ) → restart_in (snapshot_area system) (is_single system) image ≡ Ok (Some restart) → first_difference text (text_in image restart.text) ≡ None
    → Recovers system image (Err (rule, sector)) → IsBad system text image rule sector
bad_seen system text image restart rule sector has same recovers = record {
  recovers = recovers;
  same = λ other is. subst (λ (r : RestartSector). first_difference text (text_in image r.text) ≡ None) (one_sector restart other (restart_in (snapshot_area system) (is_single system) image) has is) same;
}

-- ---- counters

pub spent_seen : (system : System) (text : List ℕ) (image : Image) (found : Found) (counter : Counter) → IsSeen system text image found
    → ((state : LastingState) → state.next_id ≡ found.looked.reread.replayed.kept.next_id → state.steps ≡ found.looked.reread.replayed.kept.steps → state.outputs ≡ found.looked.reread.replayed.kept.outputs
    → Some counter ≡ first_spent (counters found.restart.epoch found.looked.reread.next_sequence found.restart.checkpoint (found.looked.reread.replayed.last_unit + 1) state))
    → IsSpent system text image counter
spent_seen system text image found counter seen told =
    let rp = seen.looked.replayed in
    let unit : ℕ = found.looked.reread.replayed.last_unit + 1 in
    let state : LastingState = record rp.lasting { rows = map (λ store. rows_of_slots store.slots) (map stored found.looked.named.loaded.stores) } in
    record {
      restart = found.restart;
      unit = unit;
      state = state;
      found = record {
        snapshot = rp.snapshot;
        has_restart = seen.has_restart;
        has_text = seen.has_text;
        recovers = seen.looked.recovers;
        has_snapshot = rp.has;
        next = rp.behind.unit;
      };
      spent = ap (λ (n : ℕ). first_spent (counters found.restart.epoch n found.restart.checkpoint unit state)) (sym rp.sequence)
          ∙ sym
          (told state (sym (ap (λ (k : KeptState). k.next_id) rp.behind.kept.is)) (sym (ap (λ (k : KeptState). k.steps) rp.behind.kept.is)) (sym (ap (λ (k : KeptState). k.outputs) rp.behind.kept.is)));
    }
