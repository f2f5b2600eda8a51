-- A session ends with a spent counter only where the disk handed in was near that.
use Rattle.std.proofs.Common.{ℕ, zero, suc, ◌≤◌, List, [], ◌∷◌, map, sym, subst, refl, arith, inl, inr}
use Rattle.std.specs.Prelude.{Option}
use Rattle.tm_disk.specs.Disk.{DiskState, IsDisk}
use Rattle.model_system.specs.System.{System}
use Rattle.model_session.specs.Lives.{LifeState}
use Rattle.model_session.specs.Blocks.{Block}
use Rattle.model_session.specs.SessionState.{SessionState, Setting, Stop}
use Rattle.checkpointing.specs.Counts.{AreUpTo}
use Rattle.checkpointing.proofs.Counted.{up_to_more}
use Rattle.openings.specs.OpenedImage.{IsSpent}
use Rattle.model_image.specs.Counters.{next_sequence}
use Rattle.openings.specs.declared.life.Life.{Life}
use Rattle.session_law.specs.Measures.{near_limit}
use Rattle.session_law.specs.SpentCounters.{IsSpentAt}
use Rattle.session_law.proofs.Lasting.{lasts_higher}
use Rattle.session_law.proofs.Spent.{spent_above, near_at_end}
use Rattle.session_lives.specs.RunningSession.{life_of, session_setting, CountsDisk}
use Rattle.tm_session.specs.declared.outcome.Ended.TheVariants.{Spent}
use Rattle.tm_session.specs.Outcome.{UndoneAs}
use Rattle.tm_session.specs.Headline.{HasLived, HasSession, IsNeverOpened}

disk_higher : (system : System) (low high : ℕ) (disk : DiskState) → low ≤ high → CountsDisk system low disk → CountsDisk system high disk
disk_higher system low high disk le h = record {
  own = record { tells = h.own.tells; images = λ image left. up_to_more system low high image le (h.own.images image left) };
  states = λ state found. lasts_higher low high state le (h.states state found);
}

spent_as : (others : List Block) (setting : Setting) (last : SessionState) → UndoneAs Spent others setting last → IsSpentAt setting.counts setting last
spent_as [] setting last never = absurd never
spent_as (block ∷ others) setting last is = is.0

module _ {D : Type 0} (state : D → DiskState) (is_disk : (disk : D) → IsDisk (state disk)) (handed disk : D) (told left old new : Option (List ℕ)) where
  module _ (system : System) (source : List ℕ) (lives : List LifeState) (stops : List Stop) (h : HasLived state system source told left old new handed disk Spent lives stops) where
    near_some : (high : ℕ) → 1 ≤ high → CountsDisk system high (state handed) → near_limit ≤ high
    near_some high some counts =
        near_at_end (session_setting state system source handed) h.valid counts.own.tells (session_setting state system source handed).counts high some counts.own
        (λ opening begins. counts.states opening (begins (state handed).shown ((is_disk handed).shown_left counts.own.tells)))
        h.blocks h.others h.first h.mid h.last h.text h.few h.begins h.session (inr (inl h.behind.0)) (spent_as h.others (session_setting state system source handed) h.last h.undone)

    near_lived : (high : ℕ) → CountsDisk system high (state handed) → near_limit ≤ high
    near_lived zero counts = omega (arith, near_some 1 (omega arith) (disk_higher system 0 1 (state handed) (omega arith) counts))
    near_lived (suc n) counts = near_some (suc n) (omega arith) counts

  -- behind a session that has lived
  pub near_session : (lives : List Life) (stops : List Stop) (h : HasSession state told left old new handed disk Spent lives stops) (high : ℕ) → CountsDisk h.system high (state handed) → near_limit ≤ high
  near_session lives stops h high counts = near_lived h.system h.text (map life_of lives) stops h.lived high counts

  -- and where the disk was not opened
  pub near_never : (never : IsNeverOpened state told handed disk Spent) (high : ℕ) → CountsDisk never.system high (state handed) → near_limit ≤ high
  near_never never high counts =
      let is : IsSpent never.system never.text (state handed).shown never.refusal.counter = never.refusal.refuses.found refl counts.own.tells in
      let own : AreUpTo never.system high (state handed).shown is.restart = counts.own.images (state handed).shown ((is_disk handed).shown_left counts.own.tells) is.restart is.found.has_restart in
      let lasts = counts.states is.state (record { found = (state handed).shown; alike = λ answer as_is. as_is; recovers = is.found.recovers }) in
      omega (
        arith,
        spent_above high is.restart.epoch (next_sequence never.system (state handed).shown is.restart) is.restart.checkpoint is.unit is.state never.refusal.counter own.epoch own.sequence own.checkpoint
            (subst (λ (n : ℕ). n ≤ high) (sym is.found.next) (own.unit is.found.snapshot is.found.has_snapshot)) lasts is.spent,
      )
