-- A life of which records wait for a force, on a disk: how it goes on, what a crash leaves, and what is there once all is forced.
use Rattle.std.proofs.Common.{◌≡◌, ℕ, zero, suc, Bool, List, [], ◌∷◌, ◌++◌, length, refl, sym, ◌∙◌, ap, subst, inl, inr, ⊎_elim, arith, append-nil, Some, Ok}
use Rattle.std.specs.Prelude.{slice_get}
use Rattle.std.proofs.lemmas.Option.{slice_get_within}
use Rattle.tm_disk.specs.Disk.{Image, DiskState, IsDisk, ComesFrom, Follows, Within}
use Rattle.model_system.specs.System.{System}
use Rattle.model_system.specs.Areas.{is_single, snapshot_area}
use Rattle.model_machine.specs.Machine.{LastingState}
use Rattle.log_writer.specs.ForcedLog.{AddsFront, AddsAll}
use Rattle.restart_data.specs.Restart.{restart_in}
use Rattle.model_image.specs.RecoveredState.{Recovers}
use Rattle.model_image.specs.Text.{text_in}
use Rattle.disk_law.specs.Life.{LifeOnDisk, IsLifeOnDisk}
use Rattle.disk_law.specs.KeptImages.{IsImageKept, AreImagesKept, RecoversOne}
use Rattle.disk_law.specs.SlotChanges.{SlotChange, with_slot_change, MayChange, with_slot_changes, MayChangeAll, life_without_unit, MarksBack}
use Rattle.disk_law.specs.LifeSteps.{StepOnDisk, forced_life, after_step, IsStep}
use Rattle.disk_law.specs.PendingMoves.{Move, after_move, after_moves, MayMoveAll, states_behind, GoesOn, PendsBehind, KeepsBehindForce}
use Rattle.disk_law.specs.PendingMoves.Move.{Changes, GivesUp, Lasts}
use Rattle.disk_law.proofs.Front as of_front
use Rattle.disk_law.proofs.Pending as of_moves

-- ---- a life goes on

moves_behind : (one other : List Move) (life : LifeOnDisk) → after_moves (one ++ other) life ≡ after_moves other (after_moves one life)
moves_behind [] other life = refl
moves_behind (move ∷ one) other life = moves_behind one other (after_move move life)

may_both : (one other : List Move) (life : LifeOnDisk) → MayMoveAll one life → MayMoveAll other (after_moves one life) → MayMoveAll (one ++ other) life
may_both [] other life may then_may = then_may
may_both (move ∷ one) other life may then_may = (may.0, may_both one other (after_move move life) may.1 then_may)

states_both : (one other : List Move) → states_behind (one ++ other) ≡ states_behind one ++ states_behind other
states_both [] other = refl
states_both (Changes unit change ∷ one) other = states_both one other
states_both (GivesUp unit changed ∷ one) other = states_both one other
states_both (Lasts step ∷ one) other = ap (λ (states : List LastingState). step.lasting ∷ states) (states_both one other)

pub goes_nowhere : (life : LifeOnDisk) → GoesOn [] life life
goes_nowhere life = record { moves = []; may = tt; ends = refl; leaves = refl }

pub goes_by_change : (unit : ℕ) (change : SlotChange) (life : LifeOnDisk) → MayChange unit change life → GoesOn [] life (with_slot_change unit change life)
goes_by_change unit change life may = record { moves = Changes unit change ∷ []; may = (may, tt); ends = refl; leaves = refl }

pub goes_by_end : (unit : ℕ) (changed : ℕ → ℕ → Bool) (life : LifeOnDisk) → MarksBack unit changed life → GoesOn [] life (life_without_unit unit changed life)
goes_by_end unit changed life marks = record { moves = GivesUp unit changed ∷ []; may = (marks, tt); ends = refl; leaves = refl }

pub goes_by_step : (step : StepOnDisk) (life : LifeOnDisk) → IsStep life step → GoesOn (step.lasting ∷ []) life (after_step step life)
goes_by_step step life is = record { moves = Lasts step ∷ []; may = (is, tt); ends = refl; leaves = refl }

pub goes_further : (states more : List LastingState) (life middle behind : LifeOnDisk) → GoesOn states life middle → GoesOn more middle behind → GoesOn (states ++ more) life behind
goes_further states more life middle behind one other = record {
  moves = one.moves ++ other.moves;
  may = may_both one.moves other.moves life one.may (subst (λ (x : LifeOnDisk). MayMoveAll other.moves x) (sym one.ends) other.may);
  ends = moves_behind one.moves other.moves life ∙ ap (after_moves other.moves) one.ends ∙ other.ends;
  leaves = states_both one.moves other.moves ∙ ap (λ (l : List LastingState). l ++ states_behind other.moves) one.leaves ∙ ap (λ (l : List LastingState). states ++ l) other.leaves;
}

pub goes_by_changes : (unit : ℕ) (changes : List SlotChange) (life : LifeOnDisk) → MayChangeAll unit changes life → GoesOn [] life (with_slot_changes unit changes life)
goes_by_changes unit [] life may = goes_nowhere life
goes_by_changes unit (c ∷ changes) life may = goes_further [] [] life (with_slot_change unit c life) (with_slot_changes unit changes (with_slot_change unit c life)) (goes_by_change unit c life may.0) (goes_by_changes unit changes (with_slot_change unit c life) may.1)

pub pends_on : (states : List LastingState) (life : LifeOnDisk) (disk : DiskState) → PendsBehind states life disk → (more : List LastingState) (behind : LifeOnDisk) → GoesOn more life behind → PendsBehind (states ++ more) behind disk
pends_on states life disk p more behind goes = record {
  forced = p.forced;
  is_life = p.is_life;
  nothing = p.nothing;
  kept = p.kept;
  since = p.since ++ more;
  goes = goes_further p.since more p.forced life behind p.goes goes;
  are = ap (λ (l : List LastingState). l ++ more) p.are;
}

pub pends_still : (states : List LastingState) (life : LifeOnDisk) (disk : DiskState) → PendsBehind states life disk → (behind : LifeOnDisk) → GoesOn [] life behind → PendsBehind states behind disk
pends_still states life disk p behind goes = subst (λ (l : List LastingState). PendsBehind l behind disk) (append-nil states) (pends_on states life disk p [] behind goes)

-- each image has all of the life, and nothing waits
pub settled : (life : LifeOnDisk) (disk : DiskState) → IsLifeOnDisk life → life.appended ≡ [] → AreImagesKept life disk → PendsBehind (life.lasting ∷ []) life disk
settled life disk l nothing kept = record { forced = life; is_life = l; nothing = nothing; kept = kept; since = []; goes = goes_nowhere life; are = refl }

pub forced_is_life : (life : LifeOnDisk) → IsLifeOnDisk life → IsLifeOnDisk (forced_life life)
forced_is_life life l = of_front.forced_is_life life l

-- ---- one of some states

pub one_recovers : (system : System) (state : LastingState) (image : Image) → RecoversOne system (state ∷ []) image → Recovers system image (Ok state)
one_recovers system state image r = by_place r.place r.state r.found r.recovers where
  by_place : (place : ℕ) (found : LastingState) → slice_get (state ∷ []) place ≡ Some found → Recovers system image (Ok found) → Recovers system image (Ok state)
  by_place zero found is recovered = let same : state ≡ found = cc in subst (λ (x : LastingState). Recovers system image (Ok x)) (sym same) recovered
  by_place (suc place) found is recovered = absurd (omega (arith, slice_get_within [] place found is))

last_found : (before : List LastingState) (state : LastingState) → slice_get (before ++ state ∷ []) (length before) ≡ Some state
last_found [] state = refl
last_found (x ∷ before) state = last_found before state

pub last_of_one : (system : System) (before : List LastingState) (state : LastingState) (image : Image) → Recovers system image (Ok state) → RecoversOne system (before ++ state ∷ []) image
last_of_one system before state image recovered = record { place = length before; state = state; found = last_found before state; recovers = recovered }

-- ---- what waits, on a disk

module _ (states : List LastingState) (life : LifeOnDisk) (disk : DiskState) (p : PendsBehind states life disk) where
  abbrev moves : List Move
  moves = p.goes.moves

  abbrev last : LifeOnDisk
  last = after_moves moves p.forced

  states_are : p.forced.lasting ∷ states_behind moves ≡ states
  states_are = ap (λ (l : List LastingState). p.forced.lasting ∷ l) p.goes.leaves ∙ sym p.are

  -- its parts agree
  pub pending_life : IsLifeOnDisk life
  pending_life = subst (λ (x : LifeOnDisk). IsLifeOnDisk x) p.goes.ends (of_moves.moves_life moves p.forced p.is_life p.goes.may)

  -- there is a state
  pub pending_some : (first : LastingState) × (rest : List LastingState) × (states ≡ first ∷ rest)
  pending_some = (p.forced.lasting, p.since, p.are)

  -- and the last of them is what lasts now
  pub pending_last : (before : List LastingState) × (states ≡ before ++ life.lasting ∷ [])
  pending_last =
      let is = of_moves.last_state moves p.forced in
      (is.0, sym states_are ∙ is.1 ∙ ap (λ (x : LifeOnDisk). is.0 ++ x.lasting ∷ []) p.goes.ends)

  pub pending_kept : (image : Image) → disk.may_leave image → IsImageKept p.forced image
  pending_kept image left = p.kept image left

  pub pending_system : (p.forced.system ≡ life.system) × (p.forced.text ≡ life.text) × (p.forced.now ≡ life.now)
  pending_system =
      let same = subst (λ (x : LifeOnDisk). of_moves.IsOfSame p.forced x) p.goes.ends (of_moves.moves_same moves p.forced) in
      (same.system, same.text, same.now)

  module _ (image : Image) (left : disk.may_leave image) where
    -- What was forced of it each image has,
    pub pending_has : of_front.HasForcedOf life (p.kept image left).snapshot (p.kept image left).log image
    pending_has =
        let k = p.kept image left in
        subst (λ (x : LifeOnDisk). of_front.HasForcedOf x k.snapshot k.log image) p.goes.ends (of_moves.has p.forced p.is_life p.nothing moves p.goes.may image k)

    pub pending_restart : restart_in (snapshot_area life.system) (is_single life.system) image ≡ Ok (Some life.now)
    pending_restart = pending_has.restart

    pub pending_text : text_in image life.now.text ≡ life.text
    pending_text = pending_has.has_text

    -- and recovers to one of the states.
    pub pending_recover : RecoversOne life.system states image
    pending_recover =
        subst (λ (x : LifeOnDisk). RecoversOne x.system states image) p.goes.ends
        (subst (λ (l : List LastingState). RecoversOne last.system l image) states_are (of_moves.itself_one p.forced p.is_life p.nothing moves p.goes.may image (p.kept image left)))

    -- So does one with a front of what waits,
    pub pending_front : (after : Image) → AddsFront life.log image after → RecoversOne life.system states after
    pending_front after front =
        subst (λ (x : LifeOnDisk). RecoversOne x.system states after) p.goes.ends
        (subst (λ (l : List LastingState). RecoversOne last.system l after) states_are
        (of_moves.front_one p.forced p.is_life p.nothing moves p.goes.may image (p.kept image left) after (subst (λ (x : LifeOnDisk). AddsFront x.log image after) (sym p.goes.ends) front)))

    pub front_restart : (after : Image) → AddsFront life.log image after → restart_in (snapshot_area life.system) (is_single life.system) after ≡ Ok (Some life.now)
    front_restart after front = of_front.front_restart life pending_life (p.kept image left).snapshot (p.kept image left).log image pending_has after front

    pub front_text : (after : Image) → AddsFront life.log image after → text_in after life.now.text ≡ life.text
    front_text after front = of_front.front_text life pending_life (p.kept image left).snapshot (p.kept image left).log image pending_has after front

    -- and with all of it an image has all of the life.
    pub pending_all : (after : Image) → AddsAll life.log image after → IsImageKept (forced_life life) after
    pending_all after all =
        subst (λ (x : LifeOnDisk). IsImageKept (forced_life x) after) p.goes.ends
        (of_moves.all_kept p.forced p.is_life p.nothing moves p.goes.may image (p.kept image left) after (subst (λ (x : LifeOnDisk). AddsAll x.log image after) (sym p.goes.ends) all))

  -- Whatever came behind a force that keeps what recovers, it recovers to one of the states.
  pub behind_force : (before after : Image) → disk.may_leave before → KeepsBehindForce life.system life.log before after → RecoversOne life.system states after
  behind_force before after left (inl front) = pending_front before left after front
  behind_force before after left (inr r) =
      let whole = of_front.recovers (forced_life life) (of_front.forced_is_life life pending_life) r.middle (pending_all before left r.middle r.all) in
      subst (λ (l : List LastingState). RecoversOne life.system l after) (sym pending_last.1) (last_of_one life.system pending_last.0 life.lasting after (r.keeps life.lasting whole))

-- Whenever a crash came since a force began, the image recovers to one of the states.
pub force_at_any_moment : (states : List LastingState) (life : LifeOnDisk) (old new : DiskState) → PendsBehind states life old → IsDisk old → Within (AddsFront life.log) old new → (image : Image) → new.left_since old.clock image → RecoversOne life.system states image
force_at_any_moment states life old new p disk within image left =
    ⊎_elim
    (λ was. pending_recover states life old p image (disk.now_alone image was))
    (λ (c : ComesFrom (AddsFront life.log) old image). pending_front states life old p c.before c.left image c.by)
    (within.from old.clock image (omega arith) left)

-- Once it is done, each image has all of the life.
pub force_done : (states : List LastingState) (life : LifeOnDisk) (old new : DiskState) → PendsBehind states life old → Follows (AddsAll life.log) old new → AreImagesKept (forced_life life) new
force_done states life old new p follows image left = let c = follows.from image left in pending_all states life old p c.before c.left image c.by
