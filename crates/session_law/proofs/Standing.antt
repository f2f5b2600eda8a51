-- How far what lasts of a session has counted, over its lives and stops.
use Rattle.std.proofs.Common.{◌≡◌, inl, inr, ℕ, ◌+◌, ◌*◌, ◌≤◌, Bool, true, false, List, [], ◌∷◌, ◌++◌, Option, Some, None, length, refl, sym, ap, subst, arith, append-nil}
use Rattle.std.proofs.lemmas.List.{length-append}
use Rattle.model_machine.specs.declared.entry.Entry.{Entry}
use Rattle.model_machine.specs.Machine.{LastingState, start_of}
use Rattle.system_types.specs.ValidSystem.{IsSystem}
use Rattle.model_session.specs.declared.asked.Asked.{Asked}
use Rattle.model_session.specs.declared.asked.Asked.TheVariants.{Bad, BadCommand, Stopped, Call, Quiet, Power, PowerIn, Restart, ColdStart}
use Rattle.model_session.specs.Blocks.{Block}
use Rattle.model_session.specs.Lines.{asked_of}
use Rattle.model_session.specs.Lives.{LastLife, LifeLeaves, ends_life, life_moment, now_in, with_life}
use Rattle.model_session.specs.SessionState.{IsStateLeft, MayBeFound, MayHold, Outage, SessionState, Setting, Standing, called_on, last_life, no_life, unbegun}
use Rattle.model_session.specs.SessionState.Standing.{Up, Down}
use Rattle.model_session.specs.Session.{AreServed, BeginsSession, FailsToOpen, IsSessionBegun, IsBegunBy, IsRestarted, IsServedDown, IsServedUp, MayOpenWith, OpensSession, ServedBy, EndsAt}
use Rattle.session_law.specs.Counts.{LastsUpTo, OpensUpTo, LivesUpTo, most_raised}
use Rattle.session_law.specs.LeftOver.{IsLeftOver}
use Rattle.session_law.specs.Measures.{last_measure, lives_measure, measure}
use Rattle.session_law.proofs.Lasting.{empty_lasts, lasts_higher}
use Rattle.session_law.proofs.Entries.{entries_last}
use Rattle.session_law.proofs.SessionMeasures.{lives_behind}

module _ (setting : Setting) (valid : IsSystem setting.system) where
  -- ---- what a life leaves

  -- behind some of its entries
  front_lasts : (high : ℕ) (life : LastLife) (front rest : List Entry) → life.history ≡ front ++ rest → LastsUpTo high life.opening
      → LastsUpTo (high + most_raised * last_measure (Some life)) (life_moment setting.system life front).lasting
  front_lasts high life front rest split h =
      lasts_higher (high + most_raised * length front) (high + most_raised * last_measure (Some life)) (life_moment setting.system life front).lasting
      (omega (arith, ap length split, length-append front rest))
      (entries_last setting.system valid high (start_of setting.system life.opening) front h)

  -- whatever a stop leaves of it
  pub left_lasts : (high : ℕ) (life : LastLife) (kept : ℕ) (state : LastingState) → LifeLeaves setting.system life kept state → LastsUpTo high life.opening
      → LastsUpTo (high + most_raised * last_measure (Some life)) state
  left_lasts high life kept state leaves h =
      subst (LastsUpTo (high + most_raised * last_measure (Some life))) (sym leaves.left) (front_lasts high life leaves.front leaves.rest leaves.split h)

  is_left_lasts : (high : ℕ) (last : Option LastLife) (kept : ℕ) (state : LastingState) → IsStateLeft setting last kept state → OpensUpTo setting high last → LastsUpTo (high + most_raised * last_measure last) state
  is_left_lasts high None kept state is h = lasts_higher high (high + most_raised * 0) state (omega arith) (h state is)
  is_left_lasts high (Some life) kept state is h = left_lasts high life kept state is h

  found_lasts : (high : ℕ) → 1 ≤ high → (outage : Outage) (kept : ℕ) (state : LastingState) → MayBeFound setting outage kept state → OpensUpTo setting high outage.last
      → LastsUpTo (high + most_raised * last_measure outage.last) state
  found_lasts high some outage kept state (inl is) h = is_left_lasts high outage.last kept state is h
  found_lasts high some outage kept state (inr empty) h =
      subst (LastsUpTo (high + most_raised * last_measure outage.last)) (sym empty.empty) (empty_lasts setting.system (high + most_raised * last_measure outage.last) (omega (arith, some)))

  -- Whatever the disk holds of a session counts up to what the disk handed in had, and 32 more for each opening, entry and stop.
  pub held_lasts : (high : ℕ) → 1 ≤ high → (state : SessionState) → LivesUpTo setting high state → (held : LastingState) → MayHold setting state.standing held → LastsUpTo (high + most_raised * measure state) held
  held_lasts high some state h held may = by state.standing refl h may where
    bound : ℕ
    bound = high + most_raised * lives_measure state.lives

    by : (standing : Standing) → state.standing ≡ standing → OpensUpTo setting bound (last_life standing) → MayHold setting standing held → LastsUpTo (high + most_raised * measure state) held
    by (Up life) stands opens is =
        lasts_higher (bound + most_raised * last_measure (Some life)) (high + most_raised * measure state) held
        (omega (arith, ap (λ s. last_measure (last_life s)) stands))
        (left_lasts bound life is.0 held is.1 opens)
    by (Down outage) stands opens is =
        lasts_higher (bound + most_raised * last_measure outage.last) (high + most_raised * measure state) held
        (omega (arith, ap (λ s. last_measure (last_life s)) stands))
        (found_lasts bound (omega (arith, some)) outage is.0 held is.1 opens)

  -- and so does what lasts of a life that is up
  pub now_lasts : (high : ℕ) (state : SessionState) → LivesUpTo setting high state → (life : LastLife) → state.standing ≡ Up life → LastsUpTo (high + most_raised * measure state) (now_in setting.system life).lasting
  now_lasts high state h life stands =
      lasts_higher (bound + most_raised * last_measure (Some life)) (high + most_raised * measure state) (now_in setting.system life).lasting
      (omega (arith, ap (λ s. last_measure (last_life s)) stands))
      (front_lasts bound life life.history [] (sym (append-nil life.history)) (subst (λ s. OpensUpTo setting bound (last_life s)) stands h))
    where
      bound : ℕ
      bound = high + most_raised * lives_measure state.lives

  -- ---- blocks
  module _ (tells : setting.tells ≡ true) (high : ℕ) (some : 1 ≤ high) where
    -- a session that stands at these lives
    abbrev At : SessionState → Standing → Type 0
    At state standing = OpensUpTo setting (high + most_raised * lives_measure state.lives) (last_life standing)

    opening_lasts : (cold : Bool) (bound : ℕ) → 1 ≤ bound → (outage : Outage) (kept : ℕ) (state : LastingState) → MayOpenWith cold setting outage kept state → OpensUpTo setting bound outage.last
        → LastsUpTo (bound + most_raised * last_measure outage.last) state
    opening_lasts false bound one outage kept state may h = found_lasts bound one outage kept state may h
    opening_lasts true bound one outage kept state may h =
        subst (LastsUpTo (bound + most_raised * last_measure outage.last)) (sym may.0) (empty_lasts setting.system (bound + most_raised * last_measure outage.last) (omega (arith, one)))

    same_stands : (old new : SessionState) (standing : Standing) → old.standing ≡ standing → new ≡ old → At old standing → LivesUpTo setting high new
    same_stands old new standing stands e h = subst (LivesUpTo setting high) (sym e) (subst (At old) (sym stands) h)

    called_stands : (b : Bool) (old : SessionState) (life : LastLife) (entries : List Entry) (forced : ℕ) → At old (Up life) → LivesUpTo setting high (called_on b old life entries forced)
    called_stands true old life entries forced h = h
    called_stands false old life entries forced h = h

    opens_stands : (cold : Bool) (old new : SessionState) (outage : Outage) → OpensSession cold setting old outage new → At old (Down outage) → LivesUpTo setting high new
    opens_stands cold old new outage opens h =
        let bound = high + most_raised * lives_measure old.lives in
        subst (LivesUpTo setting high) (sym opens.goes)
        (lasts_higher (bound + most_raised * last_measure outage.last) (high + most_raised * lives_measure (with_life old.lives outage.last opens.kept)) opens.state
        (omega (arith, lives_behind old.lives outage.last opens.kept))
        (opening_lasts cold bound (omega (arith, some)) outage opens.kept opens.state (opens.may tells) h))

    fails_stands : (cold : Bool) (old new : SessionState) (outage : Outage) → FailsToOpen cold old outage new → At old (Down outage) → LivesUpTo setting high new
    fails_stands cold old new outage fails h = subst (LivesUpTo setting high) (sym fails.ends) h

    module _ (old new : SessionState) (text : List ℕ) where
      up_stands : (asked : Asked) (life : LastLife) → old.standing ≡ Up life → IsServedUp asked setting old life new text → At old (Up life) → LivesUpTo setting high new
      up_stands (Bad rule) life stands h at = same_stands old new (Up life) stands h.0 at
      up_stands (BadCommand rule) life stands h at = same_stands old new (Up life) stands h.0 at
      up_stands (Stopped terminal number reason) life stands h at = same_stands old new (Up life) stands h.0 at
      up_stands (Call call) life stands (inl h) at = subst (LivesUpTo setting high) (sym h.goes) (called_stands (ends_life h.entry) old life (h.entry ∷ []) h.forced at)
      up_stands (Call call) life stands (inr (inl h)) at = subst (LivesUpTo setting high) (sym h.ends) at
      up_stands (Call call) life stands (inr (inr h)) at = subst (LivesUpTo setting high) (sym h.ends) at
      up_stands (Quiet most) life stands (inl h) at = subst (LivesUpTo setting high) (sym h.goes) at
      up_stands (Quiet most) life stands (inr h) at = subst (LivesUpTo setting high) (sym h.ends) at
      up_stands (Power pick) life stands h at = subst (LivesUpTo setting high) (sym h.0) at
      up_stands (PowerIn writes pick) life stands h at = subst (LivesUpTo setting high) (sym h.0) (subst (At old) (sym stands) at)
      up_stands Restart life stands h at = same_stands old new (Up life) stands h.0 at
      up_stands ColdStart life stands h at = same_stands old new (Up life) stands h.0 at

      restart_stands : (cold : Bool) (outage : Outage) → old.standing ≡ Down outage → IsRestarted cold setting old outage new text → At old (Down outage) → LivesUpTo setting high new
      restart_stands cold outage stands (inl h) at = opens_stands cold old new outage h.0 at
      restart_stands cold outage stands (inr (inl h)) at = fails_stands cold old new outage h.0 at
      restart_stands cold outage stands (inr (inr h)) at = same_stands old new (Down outage) stands h.stays at

      down_stands : (asked : Asked) (outage : Outage) → old.standing ≡ Down outage → IsServedDown asked setting old outage new text → At old (Down outage) → LivesUpTo setting high new
      down_stands (Bad rule) outage stands h at = same_stands old new (Down outage) stands h.0 at
      down_stands (BadCommand rule) outage stands h at = same_stands old new (Down outage) stands h.0 at
      down_stands (Stopped terminal number reason) outage stands h at = same_stands old new (Down outage) stands h.0 at
      down_stands (Call call) outage stands h at = same_stands old new (Down outage) stands h.0 at
      down_stands (Quiet most) outage stands h at = same_stands old new (Down outage) stands h.0 at
      down_stands (Power pick) outage stands h at = same_stands old new (Down outage) stands h.0 at
      down_stands (PowerIn writes pick) outage stands h at = same_stands old new (Down outage) stands h.0 at
      down_stands Restart outage stands h at = restart_stands false outage stands h at
      down_stands ColdStart outage stands h at = restart_stands true outage stands h at

      by_standing : (standing : Standing) (asked : Asked) → old.standing ≡ standing → ServedBy standing asked setting old new text → At old standing → LivesUpTo setting high new
      by_standing (Up life) asked stands h at = up_stands asked life stands h at
      by_standing (Down outage) asked stands h at = down_stands asked outage stands h at

      -- A block keeps the bound.
      pub served_stands : (asked : Asked) → ServedBy old.standing asked setting old new text → LivesUpTo setting high old → LivesUpTo setting high new
      served_stands asked h at = by_standing old.standing asked refl h at

    pub blocks_stand : (blocks : List Block) (old new : SessionState) (text : List ℕ) → AreServed setting blocks old new text → LivesUpTo setting high old → LivesUpTo setting high new
    blocks_stand [] old new text h at = subst (LivesUpTo setting high) (sym h.0) at
    blocks_stand (block ∷ blocks) old new text h at =
        blocks_stand blocks h.mid new h.later h.on (served_stands old h.mid h.first (asked_of setting.system block) h.here at)

    -- It holds once the disk has been opened that was handed in, where that counts up to the bound.
    pub begun_stands : (first : SessionState) → BeginsSession setting first → ((state : LastingState) → setting.begins state → LastsUpTo high state) → LivesUpTo setting high first
    begun_stands first (inl h) handed = opens_stands false unbegun first no_life h (λ state begins. lasts_higher high (high + most_raised * 0) state (omega arith) (handed state begins))
    begun_stands first (inr h) handed = fails_stands false unbegun first no_life h (λ state begins. lasts_higher high (high + most_raised * 0) state (omega arith) (handed state begins))

    -- and so do the turns of a QUIET that broke off
    turned_stands : (asked : Asked) (old new : SessionState) (standing : Standing) → old.standing ≡ standing → IsBegunBy asked setting.system old standing new → At old standing → LivesUpTo setting high new
    turned_stands (Quiet most) old new (Up life) stands (inl e) at = same_stands old new (Up life) stands e at
    turned_stands (Quiet most) old new (Up life) stands (inr h) at = subst (LivesUpTo setting high) (sym h.goes) at
    turned_stands (Quiet most) old new (Down outage) stands e at = same_stands old new (Down outage) stands e at
    turned_stands (Bad rule) old new standing stands e at = same_stands old new standing stands e at
    turned_stands (BadCommand rule) old new standing stands e at = same_stands old new standing stands e at
    turned_stands (Stopped terminal number reason) old new standing stands e at = same_stands old new standing stands e at
    turned_stands (Call call) old new standing stands e at = same_stands old new standing stands e at
    turned_stands (Power pick) old new standing stands e at = same_stands old new standing stands e at
    turned_stands (PowerIn writes pick) old new standing stands e at = same_stands old new standing stands e at
    turned_stands Restart old new standing stands e at = same_stands old new standing stands e at
    turned_stands ColdStart old new standing stands e at = same_stands old new standing stands e at

    turns_stand : (blocks : List Block) (old new : SessionState) → IsSessionBegun setting.system blocks old new → LivesUpTo setting high old → LivesUpTo setting high new
    turns_stand [] old new e at = subst (LivesUpTo setting high) (sym e) at
    turns_stand (block ∷ blocks) old new h at = turned_stands (asked_of setting.system block) old new old.standing refl h at

    -- and the end of its source
    ended_stands : (old new : SessionState) (text : List ℕ) (standing : Standing) → old.standing ≡ standing → EndsAt standing setting.system old new text → At old standing → LivesUpTo setting high new
    ended_stands old new text (Up life) stands (inl h) at = subst (LivesUpTo setting high) (sym h.goes) at
    ended_stands old new text (Up life) stands (inr h) at = subst (LivesUpTo setting high) (sym h.ends) at
    ended_stands old new text (Down outage) stands h at = same_stands old new (Down outage) stands h.0 at

    pub left_stands : (others : List Block) (mid last : SessionState) → IsLeftOver setting.system others mid last → LivesUpTo setting high mid → LivesUpTo setting high last
    left_stands others mid last (inl same) at = subst (LivesUpTo setting high) (sym same) at
    left_stands others mid last (inr (inl turned)) at = turns_stand others mid last turned at
    left_stands others mid last (inr (inr (text, ends))) at = ended_stands mid last text mid.standing refl ends at
