-- Each life of a session opens with what the one before it left, where no block asks for a cold start.
use Rattle.std.proofs.Common.{◌≡◌, ◌≢◌, ℕ, ◌<◌, Bool, true, false, List, [], ◌∷◌, ◌++◌, sym, ◌∙◌, ap, subst, refl, inl, inr}
use Rattle.std.specs.Prelude.{Option, Some, None}
use Rattle.std.specs.List.{AllByRecursion}
use Rattle.model_system.specs.System.{System}
use Rattle.model_machine.specs.declared.entry.Entry.{Entry}
use Rattle.model_machine.specs.Machine.{LastingState}
use Rattle.model_session.specs.declared.asked.Asked.{Asked}
use Rattle.model_session.specs.declared.asked.Asked.TheVariants.{Bad, BadCommand, Stopped, Call, Quiet, Power, PowerIn, Restart, ColdStart}
use Rattle.model_session.specs.Blocks.{Block}
use Rattle.model_session.specs.Lines.{asked_of}
use Rattle.model_session.specs.Lives.{LifeState, LastLife, last_number, LifeLeaves, kept_life, with_life, longer, forced_to, ends_life, failed_force}
use Rattle.model_session.specs.SessionState.{DiskPast, told_by, cut_with, cut_at_stop, Setting, SessionState, Outage, Standing, Stop, MayBeFound, AreAllLives, no_life, unbegun, called_on, broken, last_life}
use Rattle.model_session.specs.SessionState.Standing.{Up, Down}
use Rattle.model_session.specs.Session.{OpensSession, OpensAbove, ServedBy, IsServedUp, IsServedDown, IsRestarted, AreServed, BeginsSession, IsBegunBy, EndsAt}
use Rattle.session_law.specs.LeftOver.{IsLeftOver}
use Rattle.session_law.specs.SentAgain.{alone, IsOpenedBehind, AreLinked}
use Rattle.session_law.proofs.LifeEnds.{OpenedWith}

-- ---- linked lives

-- what a life opened with is all that those before it look at
same_opening : (system : System) (lives : List LifeState) (a b : LifeState) → a.opening ≡ b.opening → a.checkpoint ≡ b.checkpoint → AreLinked system (lives ++ a ∷ []) → AreLinked system (lives ++ b ∷ [])
same_opening system [] a b same number linked = (tt, tt)
same_opening system (life ∷ []) a b same number linked = (
  record {
    left = subst (λ (s : LastingState). LifeLeaves system (alone life) life.kept s) same linked.0.left;
    above = subst (λ (n : ℕ). last_number (alone life) < n) number linked.0.above;
  },
  (tt, tt),
)
same_opening system (life ∷ next ∷ lives) a b same number linked = (linked.0, same_opening system (next ∷ lives) a b same number linked.1)

one_linked : (system : System) (lives : List LifeState) (a b : LifeState) → IsOpenedBehind system a b → AreLinked system (lives ++ a ∷ []) → AreLinked system ((lives ++ a ∷ []) ++ b ∷ [])
one_linked system [] a b leaves linked = (leaves, (tt, tt))
one_linked system (life ∷ []) a b leaves linked = (linked.0, one_linked system [] a b leaves linked.1)
one_linked system (life ∷ next ∷ lives) a b leaves linked = (linked.0, one_linked system (next ∷ lives) a b leaves linked.1)

-- ---- the first life

pub same_first : (P : LastingState → Type 0) (lives : List LifeState) (a b : LifeState) → a.opening ≡ b.opening → OpenedWith P (lives ++ a ∷ []) → OpenedWith P (lives ++ b ∷ [])
same_first P [] a b same h = subst P same h
same_first P (life ∷ lives) a b same h = h

pub first_stays : (P : LastingState → Type 0) (lives : List LifeState) (a b : LifeState) → OpenedWith P (lives ++ a ∷ []) → OpenedWith P ((lives ++ a ∷ []) ++ b ∷ [])
first_stays P [] a b h = h
first_stays P (life ∷ lives) a b h = h

-- ---- where a session stands

abbrev pub is_emptied : Standing → Bool
is_emptied (Up life) = false
is_emptied (Down outage) = outage.emptied

-- The lives so far are linked, however many steps of the last one are kept, and the first opened with what was handed in; there is none
-- before the first; and no cold start broke off.
pub record IsChained (setting : Setting) (state : SessionState) : Type 0 where
  pub linked : (kept : ℕ) → AreLinked setting.system (with_life state.lives (last_life state.standing) kept)
  pub begins : (kept : ℕ) → OpenedWith setting.begins (with_life state.lives (last_life state.standing) kept)
  pub first : last_life state.standing ≡ None → state.lives ≡ []
  pub warm : is_emptied state.standing ≡ false

none_some : (o : Option LastLife) (life : LastLife) → o ≡ Some life → o ≡ None → ⊥
none_some o life some none = let never : Some life ≡ None = sym some ∙ none in cc

module _ (setting : Setting) (tells : setting.tells ≡ true) where
  abbrev Chained : SessionState → Type 0
  Chained state = IsChained setting state

  same_chained : (old new : SessionState) → new ≡ old → Chained old → Chained new
  same_chained old new same chained = subst Chained (sym same) chained

  -- the life goes on with these entries, or has ended with them
  goes_chained : (old : SessionState) (life : LastLife) (entries : List Entry) (forced : ℕ) (stops : List Stop) (past : DiskPast) (standing : Standing) → old.standing ≡ Up life → Chained old
      → last_life standing ≡ Some (forced_to forced (longer life entries)) → is_emptied standing ≡ false → Chained (record { lives = old.lives; stops = stops; disk = past; standing = standing })
  goes_chained old life entries forced stops past standing at chained is warm = record {
    linked = λ kept.
        subst (λ (o : Option LastLife). AreLinked setting.system (with_life old.lives o kept)) (sym is)
        (same_opening setting.system old.lives (kept_life life kept) (kept_life (forced_to forced (longer life entries)) kept) refl refl
        (subst (λ (s : Standing). AreLinked setting.system (with_life old.lives (last_life s) kept)) at (chained.linked kept)));
    begins = λ kept.
        subst (λ (o : Option LastLife). OpenedWith setting.begins (with_life old.lives o kept)) (sym is)
        (same_first setting.begins old.lives (kept_life life kept) (kept_life (forced_to forced (longer life entries)) kept) refl
        (subst (λ (s : Standing). OpenedWith setting.begins (with_life old.lives (last_life s) kept)) at (chained.begins kept)));
    first = λ none. absurd (none_some (last_life standing) (forced_to forced (longer life entries)) is none);
    warm = warm;
  }

  called_chained : (b : Bool) (old : SessionState) (life : LastLife) (entries : List Entry) (forced : ℕ) → old.standing ≡ Up life → Chained old → Chained (called_on b old life entries forced)
  called_chained true old life entries forced at chained =
      goes_chained old life entries forced old.stops (told_by entries old.disk) (Down (record { last = Some (forced_to forced (longer life entries)); emptied = false; stopped = false })) at chained refl refl
  called_chained false old life entries forced at chained = goes_chained old life entries forced old.stops (told_by entries old.disk) (Up (forced_to forced (longer life entries))) at chained refl refl

  broken_chained : (old : SessionState) (life : LastLife) (entries : List Entry) (forced : ℕ) (stop : Stop) → old.standing ≡ Up life → Chained old → Chained (broken old life entries forced stop)
  broken_chained old life entries forced stop at chained =
      goes_chained old life entries forced (old.stops ++ stop ∷ []) (cut_at_stop old.disk) (Down (record { last = Some (forced_to forced (longer life entries)); emptied = false; stopped = true })) at chained refl refl

  up_chained : (asked : Asked) (old : SessionState) (life : LastLife) (new : SessionState) (text : List ℕ) → old.standing ≡ Up life → Chained old → IsServedUp asked setting old life new text → Chained new
  up_chained (Bad rule) old life new text at chained (same, printed) = same_chained old new same chained
  up_chained (BadCommand rule) old life new text at chained (same, printed) = same_chained old new same chained
  up_chained (Stopped terminal number reason) old life new text at chained (same, printed) = same_chained old new same chained
  up_chained (Call call) old life new text at chained (inl one) = subst Chained (sym one.goes) (called_chained (ends_life one.entry) old life (one.entry ∷ []) one.forced at chained)
  up_chained (Call call) old life new text at chained (inr (inl one)) = subst Chained (sym one.ends) (broken_chained old life (one.entry ∷ []) one.forced one.stop at chained)
  up_chained (Call call) old life new text at chained (inr (inr one)) = subst Chained (sym one.ends) (broken_chained old life (one.entry ∷ failed_force ∷ []) one.forced one.stop at chained)
  up_chained (Quiet most) old life new text at chained (inl one) = subst Chained (sym one.goes) (called_chained false old life one.turns one.forced at chained)
  up_chained (Quiet most) old life new text at chained (inr one) = subst Chained (sym one.ends) (broken_chained old life (one.turns ++ one.entry ∷ []) one.forced one.stop at chained)
  up_chained (Power pick) old life new text at chained (same, printed) =
      subst Chained (sym same)
      (goes_chained old life [] life.forced old.stops (cut_with pick old.disk) (Down (record { last = Some (longer life []); emptied = false; stopped = false })) at chained refl refl)
  up_chained (PowerIn writes pick) old life new text at chained (same, printed) = subst Chained (sym same) (record { linked = chained.linked; begins = chained.begins; first = chained.first; warm = chained.warm })
  up_chained Restart old life new text at chained (same, printed) = same_chained old new same chained
  up_chained ColdStart old life new text at chained (same, printed) = same_chained old new same chained

  -- ---- an opening

  opened_linked : (lives : List LifeState) (last : Option LastLife) (emptied stopped : Bool) (kept next checkpoint : ℕ) (state : LastingState) → (last ≡ None → lives ≡ []) → emptied ≡ false
      → AreLinked setting.system (with_life lives last kept) → MayBeFound setting (record { last = last; emptied = emptied; stopped = stopped }) kept state
      → OpensAbove false setting (record { last = last; emptied = emptied; stopped = stopped }) checkpoint
      → AreLinked setting.system (with_life lives last kept ++ kept_life (record { opening = state; checkpoint = checkpoint; history = []; forced = 0 }) next ∷ [])
  opened_linked lives None emptied stopped kept next checkpoint state first warm linked found above =
      subst (λ (ls : List LifeState). AreLinked setting.system (ls ++ kept_life (record { opening = state; checkpoint = checkpoint; history = []; forced = 0 }) next ∷ [])) (sym (first refl)) (tt, tt)
  opened_linked lives (Some life) emptied stopped kept next checkpoint state first warm linked (inl leaves) (inr above) =
      one_linked setting.system lives (kept_life life kept) (kept_life (record { opening = state; checkpoint = checkpoint; history = []; forced = 0 }) next)
      (record { left = leaves; above = above (last_number life) refl }) linked
  opened_linked lives (Some life) emptied stopped kept next checkpoint state first warm linked (inr empty) above = let never : true ≡ false = sym empty.broke_off ∙ warm in cc
  opened_linked lives (Some life) emptied stopped kept next checkpoint state first warm linked (inl leaves) (inl broke_off) = let never : true ≡ false = sym broke_off ∙ warm in cc

  opened_begins : (lives : List LifeState) (last : Option LastLife) (emptied stopped : Bool) (kept next checkpoint : ℕ) (state : LastingState) → (last ≡ None → lives ≡ []) → emptied ≡ false
      → OpenedWith setting.begins (with_life lives last kept) → MayBeFound setting (record { last = last; emptied = emptied; stopped = stopped }) kept state
      → OpenedWith setting.begins (with_life lives last kept ++ kept_life (record { opening = state; checkpoint = checkpoint; history = []; forced = 0 }) next ∷ [])
  opened_begins lives None emptied stopped kept next checkpoint state first warm begins (inl found) =
      subst (λ (ls : List LifeState). OpenedWith setting.begins (ls ++ kept_life (record { opening = state; checkpoint = checkpoint; history = []; forced = 0 }) next ∷ [])) (sym (first refl)) found
  opened_begins lives None emptied stopped kept next checkpoint state first warm begins (inr empty) = let never : true ≡ false = sym empty.broke_off ∙ warm in cc
  opened_begins lives (Some life) emptied stopped kept next checkpoint state first warm begins found =
      first_stays setting.begins lives (kept_life life kept) (kept_life (record { opening = state; checkpoint = checkpoint; history = []; forced = 0 }) next) begins

  opens_chained : (old : SessionState) (outage : Outage) (new : SessionState) → old.standing ≡ Down outage → Chained old → OpensSession false setting old outage new → Chained new
  opens_chained old outage new at chained opens =
      subst Chained (sym opens.goes) (record {
        linked = λ kept.
            opened_linked old.lives outage.last outage.emptied outage.stopped opens.kept kept opens.checkpoint opens.state
            (λ none. chained.first (ap last_life at ∙ none)) (sym (ap is_emptied at) ∙ chained.warm)
            (subst (λ (s : Standing). AreLinked setting.system (with_life old.lives (last_life s) opens.kept)) at (chained.linked opens.kept)) (opens.may tells) (opens.above tells);
        begins = λ kept.
            opened_begins old.lives outage.last outage.emptied outage.stopped opens.kept kept opens.checkpoint opens.state
            (λ none. chained.first (ap last_life at ∙ none)) (sym (ap is_emptied at) ∙ chained.warm)
            (subst (λ (s : Standing). OpenedWith setting.begins (with_life old.lives (last_life s) opens.kept)) at (chained.begins opens.kept)) (opens.may tells);
        first = λ none. absurd (none_some (Some (record { opening = opens.state; checkpoint = opens.checkpoint; history = []; forced = 0 })) (record { opening = opens.state; checkpoint = opens.checkpoint; history = []; forced = 0 }) refl none);
        warm = refl;
      })

  restart_chained : (old : SessionState) (outage : Outage) (new : SessionState) (text : List ℕ) → old.standing ≡ Down outage → Chained old → IsRestarted false setting old outage new text → Chained new
  restart_chained old outage new text at chained (inl (opens, printed)) = opens_chained old outage new at chained opens
  restart_chained old outage new text at chained (inr (inl (fails, printed))) =
      subst Chained (sym fails.ends) (record {
        linked = λ kept. subst (λ (s : Standing). AreLinked setting.system (with_life old.lives (last_life s) kept)) at (chained.linked kept);
        begins = λ kept. subst (λ (s : Standing). OpenedWith setting.begins (with_life old.lives (last_life s) kept)) at (chained.begins kept);
        first = λ none. chained.first (ap last_life at ∙ none);
        warm = sym (ap is_emptied at) ∙ chained.warm;
      })
  restart_chained old outage new text at chained (inr (inr none)) = same_chained old new none.stays chained

  down_chained : (asked : Asked) (old : SessionState) (outage : Outage) (new : SessionState) (text : List ℕ) → asked ≢ ColdStart → old.standing ≡ Down outage → Chained old → IsServedDown asked setting old outage new text → Chained new
  down_chained (Bad rule) old outage new text warm at chained (same, printed) = same_chained old new same chained
  down_chained (BadCommand rule) old outage new text warm at chained (same, printed) = same_chained old new same chained
  down_chained (Stopped terminal number reason) old outage new text warm at chained (same, printed) = same_chained old new same chained
  down_chained (Call call) old outage new text warm at chained (same, printed) = same_chained old new same chained
  down_chained (Quiet most) old outage new text warm at chained (same, printed) = same_chained old new same chained
  down_chained (Power pick) old outage new text warm at chained (same, printed) = same_chained old new same chained
  down_chained (PowerIn writes pick) old outage new text warm at chained (same, printed) = same_chained old new same chained
  down_chained Restart old outage new text warm at chained one = restart_chained old outage new text at chained one
  down_chained ColdStart old outage new text warm at chained one = absurd (warm refl)

  -- ---- a session

  block_chained : (asked : Asked) (old new : SessionState) (text : List ℕ) → asked ≢ ColdStart → (standing : Standing) → old.standing ≡ standing → ServedBy standing asked setting old new text → Chained old → Chained new
  block_chained asked old new text warm (Up life) at one chained = up_chained asked old life new text at chained one
  block_chained asked old new text warm (Down outage) at one chained = down_chained asked old outage new text warm at chained one

  blocks_chained : (blocks : List Block) (old new : SessionState) (text : List ℕ) → AllByRecursion (λ (block : Block). asked_of setting.system block ≢ ColdStart) blocks → AreServed setting blocks old new text
      → Chained old → Chained new
  blocks_chained [] old new text warm (same, none) chained = same_chained old new same chained
  blocks_chained (block ∷ blocks) old new text warm one chained =
      blocks_chained blocks one.mid new one.later warm.1 one.on (block_chained (asked_of setting.system block) old one.mid one.first warm.0 old.standing refl one.here chained)

  unbegun_chained : Chained unbegun
  unbegun_chained = record { linked = λ kept. tt; begins = λ kept. tt; first = λ none. refl; warm = refl }

  first_chained : (first : SessionState) → BeginsSession setting first → Chained first
  first_chained first (inl opens) = opens_chained unbegun no_life first refl unbegun_chained opens
  first_chained first (inr fails) = subst Chained (sym fails.ends) (record { linked = λ kept. tt; begins = λ kept. tt; first = λ none. refl; warm = refl })

  -- turns of a QUIET that broke off
  begun_chained : (asked : Asked) (old : SessionState) (standing : Standing) (new : SessionState) → old.standing ≡ standing → IsBegunBy asked setting.system old standing new → Chained old → Chained new
  begun_chained (Quiet most) old (Up life) new at (inl same) chained = same_chained old new same chained
  begun_chained (Quiet most) old (Up life) new at (inr one) chained = subst Chained (sym one.goes) (called_chained false old life one.turns one.forced at chained)
  begun_chained (Quiet most) old (Down outage) new at same chained = same_chained old new same chained
  begun_chained (Bad rule) old standing new at same chained = same_chained old new same chained
  begun_chained (BadCommand rule) old standing new at same chained = same_chained old new same chained
  begun_chained (Stopped terminal number reason) old standing new at same chained = same_chained old new same chained
  begun_chained (Call call) old standing new at same chained = same_chained old new same chained
  begun_chained (Power pick) old standing new at same chained = same_chained old new same chained
  begun_chained (PowerIn writes pick) old standing new at same chained = same_chained old new same chained
  begun_chained Restart old standing new at same chained = same_chained old new same chained
  begun_chained ColdStart old standing new at same chained = same_chained old new same chained

  -- the end of the source
  ended_chained : (old : SessionState) (standing : Standing) (new : SessionState) (text : List ℕ) → old.standing ≡ standing → EndsAt standing setting.system old new text → Chained old → Chained new
  ended_chained old (Up life) new text at (inl forced) chained = subst Chained (sym forced.goes) (called_chained false old life [] forced.forced at chained)
  ended_chained old (Up life) new text at (inr cut) chained = subst Chained (sym cut.ends) (broken_chained old life (failed_force ∷ []) life.forced cut.stop at chained)
  ended_chained old (Down outage) new text at (same, none) chained = same_chained old new same chained

  left_chained : (others : List Block) (mid last : SessionState) → IsLeftOver setting.system others mid last → Chained mid → Chained last
  left_chained others mid last (inl same) chained = same_chained mid last same chained
  left_chained [] mid last (inr (inl same)) chained = same_chained mid last same chained
  left_chained (block ∷ others) mid last (inr (inl one)) chained = begun_chained (asked_of setting.system block) mid mid.standing last refl one chained
  left_chained others mid last (inr (inr (text, ends))) chained = ended_chained mid mid.standing last text refl ends chained

  -- All lives are linked, and the first opened with what was handed in.
  all_chained : (blocks others : List Block) (first mid last : SessionState) (text : List ℕ) → BeginsSession setting first → AreServed setting blocks first mid text
      → IsLeftOver setting.system others mid last → AllByRecursion (λ (block : Block). asked_of setting.system block ≢ ColdStart) blocks → Chained last
  all_chained blocks others first mid last text begins served left warm = left_chained others mid last left (blocks_chained blocks first mid text warm served (first_chained first begins))

  pub lives_linked : (blocks others : List Block) (first mid last : SessionState) (text : List ℕ) (lives : List LifeState) → BeginsSession setting first → AreServed setting blocks first mid text
      → IsLeftOver setting.system others mid last → AllByRecursion (λ (block : Block). asked_of setting.system block ≢ ColdStart) blocks → AreAllLives setting.system last lives → AreLinked setting.system lives
  lives_linked blocks others first mid last text lives begins served left warm all =
      let chained : Chained last = all_chained blocks others first mid last text begins served left warm in
      subst (AreLinked setting.system) (sym all.are) (chained.linked all.count)

  pub lives_begin : (blocks others : List Block) (first mid last : SessionState) (text : List ℕ) (lives : List LifeState) → BeginsSession setting first → AreServed setting blocks first mid text
      → IsLeftOver setting.system others mid last → AllByRecursion (λ (block : Block). asked_of setting.system block ≢ ColdStart) blocks → AreAllLives setting.system last lives → OpenedWith setting.begins lives
  lives_begin blocks others first mid last text lives begins served left warm all =
      let chained : Chained last = all_chained blocks others first mid last text begins served left warm in
      subst (OpenedWith setting.begins) (sym all.are) (chained.begins all.count)
