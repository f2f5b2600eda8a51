-- How much the blocks of a session add to what it has done.
use Rattle.std.proofs.Common.{◌≡◌, inl, inr, ℕ, ◌+◌, ◌*◌, ◌≤◌, Bool, true, false, List, [], ◌∷◌, ◌++◌, Option, Some, None, length, refl, ap, ◌∙◌, arith}
use Rattle.std.proofs.lemmas.List.{length-append}
use Rattle.model_machine.specs.declared.entry.Entry.{Entry}
use Rattle.model_machine.specs.Machine.{LastingState}
use Rattle.model_system.specs.System.{System}
use Rattle.model_session.specs.declared.asked.Asked.{Asked}
use Rattle.model_session.specs.declared.asked.Asked.TheVariants.{Bad, BadCommand, Stopped, Call, Quiet, Power, PowerIn, Restart, ColdStart}
use Rattle.model_session.specs.Blocks.{Block}
use Rattle.model_session.specs.Lines.{asked_of}
use Rattle.model_session.specs.Lives.{LifeState, LastLife, ends_life, failed_force, kept_life, with_life}
use Rattle.model_session.specs.SessionState.{Setting, SessionState, Outage, Standing, Stop, broken, called_on, powered_off, failed, life_gone_on, last_life, no_life, life_opened, unbegun}
use Rattle.model_session.specs.SessionState.Standing.{Up, Down}
use Rattle.model_session.specs.Session.{AreServed, BeginsSession, IsSessionBegun, IsBegunBy, IsRestarted, IsServedDown, IsServedUp, ServedBy, EndsAt, IsSourceEnded}
use Rattle.session_law.specs.LeftOver.{IsLeftOver}
use Rattle.session_law.specs.Measures.{last_measure, life_measure, lives_measure, measure, most_measure, most_weight, block_weight}
use Rattle.session_law.proofs.Blocks.{light}

-- ---- what a change of a session adds

lives_more : (lives : List LifeState) (life : LifeState) → lives_measure (lives ++ life ∷ []) ≡ lives_measure lives + life_measure life.history
lives_more [] life = omega arith
lives_more (first ∷ lives) life = omega (arith, lives_more lives life)

pub lives_behind : (lives : List LifeState) (last : Option LastLife) (kept : ℕ) → lives_measure (with_life lives last kept) ≡ lives_measure lives + last_measure last
lives_behind lives None kept = omega arith
lives_behind lives (Some life) kept = lives_more lives (kept_life life kept)

-- what a session has done that stands so
abbrev pub measure_at : SessionState → Standing → ℕ
measure_at state standing = lives_measure state.lives + last_measure (last_life standing) + length state.stops

-- Entries add one each, a stop adds one, and so does an opening.
pub called_measure : (b : Bool) (state : SessionState) (life : LastLife) (entries : List Entry) (forced : ℕ) → measure (called_on b state life entries forced) ≡ measure_at state (Up life) + length entries
called_measure true state life entries forced = omega (arith, length-append life.history entries)
called_measure false state life entries forced = omega (arith, length-append life.history entries)

pub gone_measure : (state : SessionState) (life : LastLife) (entries : List Entry) (forced : ℕ) → measure (life_gone_on state life entries forced) ≡ measure_at state (Up life) + length entries
gone_measure state life entries forced = called_measure false state life entries forced

pub powered_measure : (state : SessionState) (life : LastLife) (pick : ℕ) → measure (powered_off state life pick) ≡ measure_at state (Up life)
powered_measure state life pick = omega (arith, length-append life.history [])

pub broken_measure : (state : SessionState) (life : LastLife) (entries : List Entry) (forced : ℕ) (stop : Stop) → measure (broken state life entries forced stop) ≡ measure_at state (Up life) + length entries + 1
broken_measure state life entries forced stop = omega (arith, length-append life.history entries, length-append state.stops (stop ∷ []))

pub opened_measure : (state : SessionState) (outage : Outage) (kept checkpoint : ℕ) (opening : LastingState) → measure (life_opened state outage kept checkpoint opening) ≡ measure_at state (Down outage) + 1
opened_measure state outage kept checkpoint opening = omega (arith, lives_behind state.lives outage.last kept)

pub failed_measure : (state : SessionState) (outage : Outage) (cold : Bool) (stop : Stop) → measure (failed state outage cold stop) ≡ measure_at state (Down outage) + 1
failed_measure state outage cold stop = omega (arith, length-append state.stops (stop ∷ []))

-- ---- what a block adds

-- no less than before, and no more than by so much
pub record Rises (before after most : ℕ) : Type 0 where
  pub no_less : before ≤ after
  pub no_more : after ≤ before + most

risen : (before after more most : ℕ) → after ≡ before + more → more ≤ most → Rises before after most
risen before after more most e le = record { no_less = omega (arith, e); no_more = omega (arith, e, le) }

module _ (setting : Setting) (old new : SessionState) (text : List ℕ) where
  same_rises : (standing : Standing) (most : ℕ) → old.standing ≡ standing → new ≡ old → Rises (measure_at old standing) (measure new) most
  same_rises standing most stands e =
      risen (measure_at old standing) (measure new) 0 most (omega (arith, ap measure e, ap (λ s. last_measure (last_life s)) stands)) (omega arith)

  up_rises : (asked : Asked) (life : LastLife) → old.standing ≡ Up life → IsServedUp asked setting old life new text → Rises (measure_at old (Up life)) (measure new) (block_weight asked)
  up_rises (Bad rule) life stands h = same_rises (Up life) 3 stands h.0
  up_rises (BadCommand rule) life stands h = same_rises (Up life) 3 stands h.0
  up_rises (Stopped terminal number reason) life stands h = same_rises (Up life) 3 stands h.0
  up_rises (Call call) life stands (inl h) =
      risen (measure_at old (Up life)) (measure new) 1 3 (ap measure h.goes ∙ called_measure (ends_life h.entry) old life (h.entry ∷ []) h.forced) (omega arith)
  up_rises (Call call) life stands (inr (inl h)) =
      risen (measure_at old (Up life)) (measure new) 2 3 (omega (arith, ap measure h.ends, broken_measure old life (h.entry ∷ []) h.forced h.stop)) (omega arith)
  up_rises (Call call) life stands (inr (inr h)) =
      risen (measure_at old (Up life)) (measure new) 3 3 (omega (arith, ap measure h.ends, broken_measure old life (h.entry ∷ failed_force ∷ []) h.forced h.stop)) (omega arith)
  up_rises (Quiet most) life stands (inl h) =
      risen (measure_at old (Up life)) (measure new) (length h.turns) (most + 1) (ap measure h.goes ∙ gone_measure old life h.turns h.forced) (omega (arith, h.quieted.few))
  up_rises (Quiet most) life stands (inr h) =
      risen (measure_at old (Up life)) (measure new) (length h.turns + 2) (most + 1)
      (omega (arith, ap measure h.ends, broken_measure old life (h.turns ++ h.entry ∷ []) h.forced h.stop, length-append h.turns (h.entry ∷ []))) (omega (arith, h.begun.few))
  up_rises (Power pick) life stands h =
      risen (measure_at old (Up life)) (measure new) 0 3 (omega (arith, ap measure h.0, powered_measure old life pick)) (omega arith)
  up_rises (PowerIn writes pick) life stands h =
      risen (measure_at old (Up life)) (measure new) 0 3 (omega (arith, ap measure h.0, ap (λ s. last_measure (last_life s)) stands)) (omega arith)
  up_rises Restart life stands h = same_rises (Up life) 3 stands h.0
  up_rises ColdStart life stands h = same_rises (Up life) 3 stands h.0

  restart_rises : (cold : Bool) (outage : Outage) → old.standing ≡ Down outage → IsRestarted cold setting old outage new text → Rises (measure_at old (Down outage)) (measure new) 3
  restart_rises cold outage stands (inl h) =
      risen (measure_at old (Down outage)) (measure new) 1 3 (ap measure h.0.goes ∙ opened_measure old outage h.0.kept h.0.checkpoint h.0.state) (omega arith)
  restart_rises cold outage stands (inr (inl h)) =
      risen (measure_at old (Down outage)) (measure new) 1 3 (ap measure h.0.ends ∙ failed_measure old outage cold h.0.stop) (omega arith)
  restart_rises cold outage stands (inr (inr h)) = same_rises (Down outage) 3 stands h.stays

  down_rises : (asked : Asked) (outage : Outage) → old.standing ≡ Down outage → IsServedDown asked setting old outage new text → Rises (measure_at old (Down outage)) (measure new) (block_weight asked)
  down_rises (Bad rule) outage stands h = same_rises (Down outage) 3 stands h.0
  down_rises (BadCommand rule) outage stands h = same_rises (Down outage) 3 stands h.0
  down_rises (Stopped terminal number reason) outage stands h = same_rises (Down outage) 3 stands h.0
  down_rises (Call call) outage stands h = same_rises (Down outage) 3 stands h.0
  down_rises (Quiet most) outage stands h = same_rises (Down outage) (most + 1) stands h.0
  down_rises (Power pick) outage stands h = same_rises (Down outage) 3 stands h.0
  down_rises (PowerIn writes pick) outage stands h = same_rises (Down outage) 3 stands h.0
  down_rises Restart outage stands h = restart_rises false outage stands h
  down_rises ColdStart outage stands h = restart_rises true outage stands h

  standing_rises : (standing : Standing) (asked : Asked) → old.standing ≡ standing → ServedBy standing asked setting old new text → Rises (measure_at old standing) (measure new) (block_weight asked)
  standing_rises (Up life) asked stands h = up_rises asked life stands h
  standing_rises (Down outage) asked stands h = down_rises asked outage stands h

  -- A block adds no more than its weight.
  pub served_rises : (asked : Asked) → ServedBy old.standing asked setting old new text → Rises (measure old) (measure new) (block_weight asked)
  served_rises asked h = standing_rises old.standing asked refl h

-- ---- blocks

-- Blocks add no more than a QUIET of a million turns each.
pub blocks_rise : (setting : Setting) (blocks : List Block) (old new : SessionState) (text : List ℕ) → AreServed setting blocks old new text → Rises (measure old) (measure new) (most_weight * length blocks)
blocks_rise setting [] old new text h = risen (measure old) (measure new) 0 (most_weight * 0) (omega (arith, ap measure h.0)) (omega arith)
blocks_rise setting (block ∷ blocks) old new text h =
    let first : Rises (measure old) (measure h.mid) (block_weight (asked_of setting.system block)) = served_rises setting old h.mid h.first (asked_of setting.system block) h.here in
    let later : Rises (measure h.mid) (measure new) (most_weight * length blocks) = blocks_rise setting blocks h.mid new h.later h.on in
    record { no_less = omega (arith, first.no_less, later.no_less); no_more = omega (arith, first.no_more, later.no_more, light setting.system block) }

-- A session's opening adds one.
pub begun_measure : (setting : Setting) (first : SessionState) → BeginsSession setting first → measure first ≡ 1
begun_measure setting first (inl h) = ap measure h.goes ∙ opened_measure unbegun no_life h.kept h.checkpoint h.state
begun_measure setting first (inr h) = ap measure h.ends ∙ failed_measure unbegun no_life false h.stop

-- The turns of a QUIET that broke off
begun_by : (system : System) (asked : Asked) (old new : SessionState) (standing : Standing) → old.standing ≡ standing → block_weight asked ≤ most_weight → IsBegunBy asked system old standing new
    → Rises (measure old) (measure new) most_weight
begun_by system (Quiet most) old new (Up life) stands le (inl e) = risen (measure old) (measure new) 0 most_weight (omega (arith, ap measure e)) (omega arith)
begun_by system (Quiet most) old new (Up life) stands le (inr h) =
    risen (measure old) (measure new) (length h.turns) most_weight
    (omega (arith, ap measure h.goes, gone_measure old life h.turns h.forced, ap (λ s. last_measure (last_life s)) stands)) (omega (arith, le, h.begun.few))
begun_by system (Quiet most) old new (Down outage) stands le e = risen (measure old) (measure new) 0 most_weight (omega (arith, ap measure e)) (omega arith)
begun_by system (Bad rule) old new standing stands le e = risen (measure old) (measure new) 0 most_weight (omega (arith, ap measure e)) (omega arith)
begun_by system (BadCommand rule) old new standing stands le e = risen (measure old) (measure new) 0 most_weight (omega (arith, ap measure e)) (omega arith)
begun_by system (Stopped terminal number reason) old new standing stands le e = risen (measure old) (measure new) 0 most_weight (omega (arith, ap measure e)) (omega arith)
begun_by system (Call call) old new standing stands le e = risen (measure old) (measure new) 0 most_weight (omega (arith, ap measure e)) (omega arith)
begun_by system (Power pick) old new standing stands le e = risen (measure old) (measure new) 0 most_weight (omega (arith, ap measure e)) (omega arith)
begun_by system (PowerIn writes pick) old new standing stands le e = risen (measure old) (measure new) 0 most_weight (omega (arith, ap measure e)) (omega arith)
begun_by system Restart old new standing stands le e = risen (measure old) (measure new) 0 most_weight (omega (arith, ap measure e)) (omega arith)
begun_by system ColdStart old new standing stands le e = risen (measure old) (measure new) 0 most_weight (omega (arith, ap measure e)) (omega arith)

pub begun_rises : (system : System) (blocks : List Block) (old new : SessionState) → IsSessionBegun system blocks old new → Rises (measure old) (measure new) most_weight
begun_rises system [] old new e = risen (measure old) (measure new) 0 most_weight (omega (arith, ap measure e)) (omega arith)
begun_rises system (block ∷ blocks) old new h = begun_by system (asked_of system block) old new old.standing refl (light system block) h

-- The end of its source adds the entry of a force in which the disk failed, and a stop, or nothing.
ended_by : (system : System) (old new : SessionState) (text : List ℕ) (standing : Standing) → old.standing ≡ standing → EndsAt standing system old new text → Rises (measure old) (measure new) 2
ended_by system old new text (Up life) stands (inl h) =
    risen (measure old) (measure new) 0 2 (omega (arith, ap measure h.goes, gone_measure old life [] h.forced, ap (λ s. last_measure (last_life s)) stands)) (omega arith)
ended_by system old new text (Up life) stands (inr h) =
    risen (measure old) (measure new) 2 2 (omega (arith, ap measure h.ends, broken_measure old life (failed_force ∷ []) life.forced h.stop, ap (λ s. last_measure (last_life s)) stands)) (omega arith)
ended_by system old new text (Down outage) stands h = risen (measure old) (measure new) 0 2 (omega (arith, ap measure h.0)) (omega arith)

pub ended_rises : (system : System) (old new : SessionState) (text : List ℕ) → IsSourceEnded system old new text → Rises (measure old) (measure new) 2
ended_rises system old new text ends = ended_by system old new text old.standing refl ends

-- A session of at most a million blocks has done this much at most, with a QUIET that broke off, or the end of its source.
pub session_rises : (setting : Setting) (blocks others : List Block) (first mid last : SessionState) (text : List ℕ) → length blocks ≤ 1000000
    → BeginsSession setting first → AreServed setting blocks first mid text → IsLeftOver setting.system others mid last → measure last ≤ most_measure
session_rises setting blocks others first mid last text few begins served (inl same) =
    let rise = blocks_rise setting blocks first mid text served in
    omega (arith, few, begun_measure setting first begins, rise.no_more, ap measure same)
session_rises setting blocks others first mid last text few begins served (inr (inl h)) =
    let rise = blocks_rise setting blocks first mid text served in
    let behind = begun_rises setting.system others mid last h in
    omega (arith, few, begun_measure setting first begins, rise.no_more, behind.no_more)
session_rises setting blocks others first mid last text few begins served (inr (inr (closing, h))) =
    let rise = blocks_rise setting blocks first mid text served in
    let behind = ended_rises setting.system mid last closing h in
    omega (arith, few, begun_measure setting first begins, rise.no_more, behind.no_more)
