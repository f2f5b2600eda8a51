-- A checkpoint leaves the text of the definition.
use Rattle.std.proofs.Common.{◌≡◌, ◌⊎◌, ℕ, zero, suc, ◌+◌, ◌<◌, ◌≤◌, List, ◌++◌, take, refl, sym, ◌∙◌, ap, ⊎_elim, arith}
use Rattle.tm_disk.specs.Disk.{Image, sector_at}
use Rattle.restart_data.specs.declared.restart.RestartSector.{RestartSector}
use Rattle.restart_data.specs.Restart.{restart_of, restart_in}
use Rattle.log_writer.specs.Writer.{Writer}
use Rattle.log_writer.specs.ForcedLog.{AddsFront, AddsAll}
use Rattle.seg_store.specs.ChangedSlots.{AllStores}
use Rattle.model_system.specs.Areas.{is_single, snapshot_area}
use Rattle.model_image.specs.Text.{bytes_from, text_in}
use Rattle.model_image.proofs.Places.{log_above, snapshot_below}
use Rattle.checkpointing.specs.CheckpointParts.{CheckpointParts, next_restart}
use Rattle.checkpointing.specs.DirtySlots.{DirtyAt}
use Rattle.checkpointing.specs.Checkpoint.{InArea, IsCheckpointWritten, IsCheckpointed}
use Rattle.checkpointing.specs.CheckpointSteps.{Then, ChangesUnread, Prepares}
use Rattle.checkpointing.specs.DefinitionText.{KeepsText}
use Rattle.checkpointing.proofs.Keeping.{Stands, dirty_above}
use Rattle.checkpointing.proofs.Counted.{one_restart}

bytes_alike : (n : ℕ) (a b : Image) (at : ℕ) → ((k : ℕ) → at ≤ k → k < at + n → sector_at b k ≡ sector_at a k) → bytes_from n b at ≡ bytes_from n a at
bytes_alike zero a b at same = refl
bytes_alike (suc n) a b at same =
    ap (λ (s : List ℕ). s ++ bytes_from n b (at + 1)) (same at (omega arith) (omega arith))
    ∙ ap (λ (l : List ℕ). sector_at a at ++ l) (bytes_alike n a b (at + 1) (λ k low high. same k (omega (arith, low)) (omega (arith, high))))

text_alike : (a b : Image) (size : ℕ) → ((k : ℕ) → 1 ≤ k → k < 65 → sector_at b k ≡ sector_at a k) → text_in b size ≡ text_in a size
text_alike a b size same = ap (λ (l : List ℕ). take size l) (bytes_alike 64 a b 1 (λ k low high. same k low (omega (arith, high))))

module _ (parts : CheckpointParts) (log : Writer) (stores : AllStores) (a : Image) (s : Stands parts log stores a) where
  low_log : (k : ℕ) → k < 65 → k < log.first + log.place
  low_log k low = omega (arith, low, s.over.first, log_above parts.system parts.now.log, snapshot_below parts.system 0 (omega arith))

  not_dirty : (k : ℕ) → k < 65 → DirtyAt parts.system stores k → ⊥
  not_dirty k low dirty = omega (arith, low, dirty_above parts log stores a s k dirty, snapshot_below parts.system 0 (omega arith))

  not_snapshot : (k : ℕ) → k < 65 → InArea parts.snapshot_at parts.snapshot_sectors k → ⊥
  not_snapshot k low in_ = omega (arith, low, in_.low, s.free.snapshot_at)

  -- the restart sector and the text stay until the new restart sector is written
  prepares_low : (e : Image) → Prepares parts log stores a e → (k : ℕ) → k < 65 → sector_at e k ≡ sector_at a k
  prepares_low e prepares k low =
      ⊎_elim
      (λ (front : AddsFront log a e). front.changes.below k (low_log k low))
      (λ (later : Then (AddsAll log) (ChangesUnread parts stores) a e).
      ⊎_elim
      (λ same. same ∙ later.one.changes.below k (low_log k low))
      (λ other. ⊎_elim (λ dirty. absurd (not_dirty k low dirty)) (λ in_. absurd (not_snapshot k low in_)) other)
      (later.two.each k))
      prepares

  pub prepares_text : (e : Image) → Prepares parts log stores a e → KeepsText parts.system a e
  prepares_text e prepares =
      let same : restart_in (snapshot_area parts.system) (is_single parts.system) e ≡ restart_in (snapshot_area parts.system) (is_single parts.system) a = ap (restart_of (snapshot_area parts.system) (is_single parts.system)) (prepares_low e prepares 0 (omega arith)) in
      record {
        text = λ text has r found. text_alike a e r.text (λ k some low. prepares_low e prepares k low) ∙ has r (sym same ∙ found);
        number = λ low is. record { restart = is.restart; found = same ∙ is.found; least = is.least };
      }

  -- and the new one is of the same text
  written_low : (e : Image) → IsCheckpointed parts log stores a e → (k : ℕ) → 1 ≤ k → k < 65 → sector_at e k ≡ sector_at a k
  written_low e done k some low =
      ⊎_elim
      (λ same. same)
      (λ (written : IsCheckpointWritten parts log stores k).
      ⊎_elim
      (λ first. absurd (omega (arith, some, first)))
      (λ further. ⊎_elim
      (λ in_. absurd (not_snapshot k low in_))
      (λ last. ⊎_elim (λ in_. absurd (omega (arith, in_.low, low_log k low))) (λ dirty. absurd (not_dirty k low dirty)) last)
      further)
      written)
      (done.elsewhere k)

  pub written_text : (e : Image) → (next_restart parts log).sectors ≤ snapshot_area parts.system → IsCheckpointed parts log stores a e → KeepsText parts.system a e
  written_text e few done = record {
    text = λ text has r found.
        let same : r ≡ next_restart parts log = one_restart (restart_in (snapshot_area parts.system) (is_single parts.system) e) r (next_restart parts log) found (done.restart (snapshot_area parts.system) (is_single parts.system) few) in
        ap (λ (x : RestartSector). text_in e x.text) same
        ∙ text_alike a e parts.now.text (written_low e done)
        ∙ has parts.now s.now;
    number = λ low is.
        let same : is.restart ≡ parts.now = one_restart (restart_in (snapshot_area parts.system) (is_single parts.system) a) is.restart parts.now is.found s.now in
        record { restart = next_restart parts log; found = done.restart (snapshot_area parts.system) (is_single parts.system) few; least = omega (arith, is.least, ap (λ (x : RestartSector). x.checkpoint) same) };
  }
