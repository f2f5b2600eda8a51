-- Behind the writes of a restart the image is that of the next life.
use Rattle.std.proofs.Common.{◌≡◌, ℕ, zero, suc, ◌+◌, ◌<◌, ◌≤◌, Bool, true, false, List, [], ◌∷◌, ◌++◌, length, take, refl, sym, ◌∙◌, ap, subst, ⊎_elim, arith, Some, None, Ok}
use Rattle.std.specs.Prelude.{Option, Result, if◌then◌else◌, ◌==◌}
use Rattle.std.specs.Option.{option_map}
use Rattle.std.specs.List.{flat_map}
use Rattle.std.proofs.lemmas.Bool.{eqb-true}
use Rattle.tm_disk.specs.Disk.{Image, sector_at}
use Rattle.model_system.specs.System.{System}
use Rattle.model_machine.specs.Machine.{LastingState}
use Rattle.log_records.specs.declared.record.Record.{Record}
use Rattle.log_records.specs.RecordSpelling.{record_spelling}
use Rattle.restart_data.specs.declared.restart.RestartSector.{RestartSector}
use Rattle.restart_data.specs.Restart.{restart_in, restart_of}
use Rattle.model_image.specs.AlikeImages.{RecoversAlike}
use Rattle.model_image.specs.Faults.{Fault}
use Rattle.model_image.proofs.Answers.{one_answer_of}
use Rattle.model_system.specs.Areas.{is_single, snapshot_area, snapshot_first}
use Rattle.model_image.specs.CutRecords.{records_cut}
use Rattle.model_image.specs.RecoveredState.{Recovers}
use Rattle.model_image.specs.Slots.{named_by}
use Rattle.model_image.specs.Text.{bytes_from, text_in, first_difference}
use Rattle.model_image.proofs.Places.{slot_above, log_above}
use Rattle.checkpointing.specs.SnapshotRecords.{snapshot_records}
use Rattle.checkpointing.proofs.Plain.{none_named}
use Rattle.checkpointing.proofs.Read.{IsRead}
use Rattle.checkpointing.specs.Checkpoint.{InArea}
use Rattle.checkpointing.specs.DefinitionText.{HasText, KeepsNumber}
use Rattle.tm_restart.specs.GivenSlots.{GivenSlots, IsGiven}
use Rattle.tm_restart.specs.UnpreparedImage.{IsUnprepared}
use Rattle.tm_restart.specs.ToldSnapshot.{TellsState}
use Rattle.tm_restart.specs.LifeWrites.{ChangesUnreadSectors, IsRewritten, Rewrites}
use Rattle.tm_restart.proofs.Unreading.{named_slot, unread_recovers}
use Rattle.tm_restart.proofs.Recovering.{IsNextLife, renewed_restart, renewed_snapshot, renewed_ahead, renewed_recovers}
use Rattle.openings.specs.Renewal.{IsRenewed}
use Rattle.tm_restart.proofs.Renewed.{same_restart}

-- ---- texts

by_first : (a b : ℕ) (xs ys : List ℕ) (same : Bool) → a == b ≡ same → (first_difference xs ys ≡ None → xs ≡ ys) → (if same then option_map (λ n. suc n) (first_difference xs ys) else Some 0) ≡ None → a ∷ xs ≡ b ∷ ys
by_first a b xs ys true is rest e = ap (λ x. x ∷ xs) (eqb-true a b is) ∙ ap (λ (l : List ℕ). b ∷ l) (rest (no_more (first_difference xs ys) e)) where
  no_more : (o : Option ℕ) → option_map (λ n. suc n) o ≡ None → o ≡ None
  no_more None f = refl
  no_more (Some n) f = cc
by_first a b xs ys false is rest e = cc

-- texts that don't differ are one
pub one_text : (xs ys : List ℕ) → first_difference xs ys ≡ None → xs ≡ ys
one_text [] [] e = refl
one_text [] (b ∷ ys) e = cc
one_text (a ∷ xs) [] e = cc
one_text (a ∷ xs) (b ∷ ys) e = by_first a b xs ys (a == b) refl (one_text xs ys) e

bytes_same : (n : ℕ) (a e : Image) (at : ℕ) → ((k : ℕ) → at ≤ k → k < at + n → sector_at e k ≡ sector_at a k) → bytes_from n e at ≡ bytes_from n a at
bytes_same zero a e at same = refl
bytes_same (suc n) a e at same =
    ap (λ (s : List ℕ). s ++ bytes_from n e (at + 1)) (same at (omega arith) (omega arith))
    ∙ ap (λ (rest : List ℕ). sector_at a at ++ rest) (bytes_same n a e (at + 1) (λ k low high. same k (omega (arith, low)) (omega (arith, high))))

pub names_none : (system : System) (checkpoint unit : ℕ) (state : LastingState) (database number : ℕ) → named_by (snapshot_records checkpoint unit state []) [] database number ≡ None
unfolding named_by
names_none system checkpoint unit state database number = rw (none_named system checkpoint unit state database number) refl

module _ (system : System) (r : RestartSector) (snapshot : List Record) (given : GivenSlots) (bytes : List ℕ) (now : RestartSector) (a e : Image) (before : IsUnprepared system r snapshot given now a) (done : IsRewritten system given bytes now a e) where
  text_stays : (k : ℕ) → 1 ≤ k → k < 1 + 64 → sector_at e k ≡ sector_at a k
  text_stays k low high =
      ⊎_elim (λ same. same)
      (λ written.
      ⊎_elim (λ (none : k ≡ 0). absurd (omega (arith, none, low)))
      (λ others.
      ⊎_elim (λ (in_ : InArea (snapshot_first system now.snapshot) (snapshot_area system) k). absurd (omega (arith, in_.low, high)))
      (λ (w : IsGiven system given k (sector_at e k)).
      let slot = named_slot system r snapshot given now a before k (sector_at e k) w in
      absurd (omega (arith, high, slot.sector, slot_above system slot.place slot.number slot.index, log_above system 2)))
      others)
      written)
      (done.elsewhere k)

  text_again : (text : List ℕ) → now.text ≡ r.text → first_difference text (text_in a r.text) ≡ None → text_in e now.text ≡ text
  text_again text same none =
      ap (λ n. take n (bytes_from 64 e 1)) same
      ∙ ap (λ (l : List ℕ). take r.text l) (bytes_same 64 a e 1 text_stays)
      ∙ sym (one_text text (text_in a r.text) none)

  module _ (next : IsNextLife system r now bytes) (unit : ℕ) (state : LastingState) (read : IsRead system now.checkpoint unit state []) (spelled : bytes ≡ flat_map record_spelling (snapshot_records now.checkpoint unit state [])) (recovers : Recovers system a (Ok state)) where
    tells : TellsState system bytes (snapshot_records now.checkpoint unit state []) state
    tells = record {
      reads = ap records_cut spelled ∙ read.cut;
      keep_rules = read.unbroken;
      told = read.state_is;
      unnamed = names_none system now.checkpoint unit state;
    }

    pub is_renewed : (text : List ℕ) → now.text ≡ r.text → now.text ≡ length text → first_difference text (text_in a r.text) ≡ None → IsRenewed system text now unit state e
    is_renewed text same size none =
        let records : List Record = snapshot_records now.checkpoint unit state [] in
        record {
          restart = renewed_restart system r snapshot given bytes now a e before done next records state tells recovers;
          text_size = size;
          has_text = text_again text same none;
          has_snapshot = renewed_snapshot system r snapshot given bytes now a e before done next records state tells recovers;
          recovers = renewed_recovers system r snapshot given bytes now a e before done next records state tells recovers;
          none_ahead = renewed_ahead system r snapshot given bytes now a e before done next records state tells recovers;
        }

-- ---- before all is written

module _ (system : System) (r : RestartSector) (snapshot : List Record) (given : GivenSlots) (now : RestartSector) (a e : Image) (before : IsUnprepared system r snapshot given now a) (changes : ChangesUnreadSectors system given now a e) where
  unread_stays : (k : ℕ) → k < 1 + 64 → sector_at e k ≡ sector_at a k
  unread_stays k high =
      ⊎_elim (λ same. same)
      (λ other.
      ⊎_elim
      (λ (w : IsGiven system given k (sector_at e k)).
      let slot = named_slot system r snapshot given now a before k (sector_at e k) w in
      absurd (omega (arith, high, slot.sector, slot_above system slot.place slot.number slot.index, log_above system 2)))
      (λ (in_ : InArea (snapshot_first system now.snapshot) (snapshot_area system) k). absurd (omega (arith, in_.low, high)))
      other)
      (changes.each k)

  -- the restart sector stays
  pub unread_number : KeepsNumber system a e
  unread_number low is = record { restart = is.restart; found = ap (restart_of (snapshot_area system) (is_single system)) (unread_stays 0 (omega arith)) ∙ is.found; least = is.least }

  pub unread_text : (text : List ℕ) → first_difference text (text_in a r.text) ≡ None → HasText system text e
  unread_text text none = λ restart found.
      let again : restart_in (snapshot_area system) (is_single system) e ≡ restart_in (snapshot_area system) (is_single system) a = ap (restart_of (snapshot_area system) (is_single system)) (unread_stays 0 (omega arith)) in
      ap (λ (q : RestartSector). text_in e q.text) (sym (same_restart r restart (sym before.restart ∙ sym again ∙ found)))
      ∙ ap (λ (l : List ℕ). take r.text l) (bytes_same 64 a e 1 (λ k low high. unread_stays k high))
      ∙ sym (one_text text (text_in a r.text) none)

-- ---- at any moment

tells_state : (system : System) (checkpoint unit : ℕ) (state : LastingState) (bytes : List ℕ) → IsRead system checkpoint unit state [] → bytes ≡ flat_map record_spelling (snapshot_records checkpoint unit state []) → TellsState system bytes (snapshot_records checkpoint unit state []) state
tells_state system checkpoint unit state bytes read spelled = record {
  reads = ap records_cut spelled ∙ read.cut;
  keep_rules = read.unbroken;
  told = read.state_is;
  unnamed = names_none system checkpoint unit state;
}

module _ (system : System) (r : RestartSector) (snapshot : List Record) (given : GivenSlots) (bytes : List ℕ) (now : RestartSector) (next : IsNextLife system r now bytes) (unit : ℕ) (state : LastingState) (read : IsRead system now.checkpoint unit state []) (spelled : bytes ≡ flat_map record_spelling (snapshot_records now.checkpoint unit state [])) where
  -- Whatever was written of a restart, the image recovers as the one before.
  pub rewrites_recover : (a e : Image) → IsUnprepared system r snapshot given now a → Recovers system a (Ok state) → Rewrites system given bytes now a e → RecoversAlike system a e
  rewrites_recover a e before recovers rewrites =
      ⊎_elim
      (λ (unread : ChangesUnreadSectors system given now a e). unread_recovers system r snapshot given now a before e unread)
      (λ (done : IsRewritten system given bytes now a e). λ answer is.
      subst (λ (found : Result LastingState Fault). Recovers system e found) (one_answer_of system a (Ok state) answer recovers is)
      (renewed_recovers system r snapshot given bytes now a e before done next (snapshot_records now.checkpoint unit state []) state (tells_state system now.checkpoint unit state bytes read spelled) recovers))
      rewrites
