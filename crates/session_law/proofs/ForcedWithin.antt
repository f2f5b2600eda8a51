-- No more lasting steps of a session's life are forced than it has.
use Rattle.std.proofs.Common.{◌≡◌, ℕ, ◌+◌, ◌≤◌, Bool, true, false, List, [], ◌∷◌, sym, subst, inl, inr, arith}
use Rattle.model_machine.specs.declared.entry.Entry.{Entry}
use Rattle.model_session.specs.declared.asked.Asked.{Asked}
use Rattle.model_session.specs.declared.asked.Asked.TheVariants.{Bad, BadCommand, Stopped, Call, Quiet, Power, PowerIn, Restart, ColdStart}
use Rattle.model_session.specs.Blocks.{Block}
use Rattle.model_session.specs.Lines.{asked_of}
use Rattle.model_session.specs.Lives.{LastLife, IsForcedTo, ends_life, longer}
use Rattle.model_session.specs.SessionState.{Setting, SessionState, Outage, Standing, called_on}
use Rattle.model_session.specs.SessionState.Standing.{Up, Down}
use Rattle.model_session.specs.Session.{OpensSession, ServedBy, IsServedUp, IsServedDown, IsRestarted, AreServed, BeginsSession}
use Rattle.session_law.specs.ResentInputs.{IsForcedWithin}

none_yet : (n : ℕ) → n + 0 ≤ n
none_yet n = omega arith

module _ (setting : Setting) where
  abbrev Within : SessionState → Type 0
  Within state = IsForcedWithin setting.system state.standing

  same : (old new : SessionState) → new ≡ old → Within old → Within new
  same old new e within = subst Within (sym e) within

  called : (b bound : Bool) (old : SessionState) (life : LastLife) (entries : List Entry) (forced : ℕ) → IsForcedTo setting.system (longer life entries) bound forced → Within (called_on b old life entries forced)
  called true bound old life entries forced is = tt
  called false bound old life entries forced is = is.most

  opened : (cold : Bool) (old : SessionState) (outage : Outage) (new : SessionState) → OpensSession cold setting old outage new → Within new
  opened cold old outage new opens = subst Within (sym opens.goes) (none_yet opens.state.steps)

  served_up : (asked : Asked) (old : SessionState) (life : LastLife) (new : SessionState) (text : List ℕ) → Within old → IsServedUp asked setting old life new text → Within new
  served_up (Bad rule) old life new text within h = same old new h.0 within
  served_up (BadCommand rule) old life new text within h = same old new h.0 within
  served_up (Stopped terminal number reason) old life new text within h = same old new h.0 within
  served_up (Call call) old life new text within (inl h) = subst Within (sym h.goes) (called (ends_life h.entry) _ old life (h.entry ∷ []) h.forced h.is_forced)
  served_up (Call call) old life new text within (inr (inl h)) = subst Within (sym h.ends) tt
  served_up (Call call) old life new text within (inr (inr h)) = subst Within (sym h.ends) tt
  served_up (Quiet most) old life new text within (inl h) = subst Within (sym h.goes) h.is_forced.most
  served_up (Quiet most) old life new text within (inr h) = subst Within (sym h.ends) tt
  served_up (Power pick) old life new text within h = subst Within (sym h.0) tt
  served_up (PowerIn writes pick) old life new text within h = subst Within (sym h.0) within
  served_up Restart old life new text within h = same old new h.0 within
  served_up ColdStart old life new text within h = same old new h.0 within

  restarted : (cold : Bool) (old : SessionState) (outage : Outage) (new : SessionState) (text : List ℕ) → Within old → IsRestarted cold setting old outage new text → Within new
  restarted cold old outage new text within (inl h) = opened cold old outage new h.0
  restarted cold old outage new text within (inr (inl h)) = subst Within (sym h.0.ends) tt
  restarted cold old outage new text within (inr (inr h)) = same old new h.stays within

  served_down : (asked : Asked) (old : SessionState) (outage : Outage) (new : SessionState) (text : List ℕ) → Within old → IsServedDown asked setting old outage new text → Within new
  served_down (Bad rule) old outage new text within h = same old new h.0 within
  served_down (BadCommand rule) old outage new text within h = same old new h.0 within
  served_down (Stopped terminal number reason) old outage new text within h = same old new h.0 within
  served_down (Call call) old outage new text within h = same old new h.0 within
  served_down (Quiet most) old outage new text within h = same old new h.0 within
  served_down (Power pick) old outage new text within h = same old new h.0 within
  served_down (PowerIn writes pick) old outage new text within h = same old new h.0 within
  served_down Restart old outage new text within h = restarted false old outage new text within h
  served_down ColdStart old outage new text within h = restarted true old outage new text within h

  by_standing : (standing : Standing) (asked : Asked) (old new : SessionState) (text : List ℕ) → Within old → ServedBy standing asked setting old new text → Within new
  by_standing (Up life) asked old new text within h = served_up asked old life new text within h
  by_standing (Down outage) asked old new text within h = served_down asked old outage new text within h

  pub block_within : (asked : Asked) (old new : SessionState) (text : List ℕ) → ServedBy old.standing asked setting old new text → IsForcedWithin setting.system old.standing → IsForcedWithin setting.system new.standing
  block_within asked old new text h within = by_standing old.standing asked old new text within h

  -- So it is of each session.
  pub begun_within : (first : SessionState) → BeginsSession setting first → IsForcedWithin setting.system first.standing
  begun_within first (inl opens) = opened false _ _ first opens
  begun_within first (inr fails) = subst Within (sym fails.ends) tt

  pub blocks_within : (blocks : List Block) (old new : SessionState) (text : List ℕ) → AreServed setting blocks old new text → IsForcedWithin setting.system old.standing → IsForcedWithin setting.system new.standing
  blocks_within [] old new text h within = same old new h.0 within
  blocks_within (block ∷ blocks) old new text h within = blocks_within blocks h.mid new h.later h.on (block_within (asked_of setting.system block) old h.mid h.first h.here within)
