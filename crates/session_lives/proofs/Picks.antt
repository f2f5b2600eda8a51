-- What the disk is cut with, behind a block.
use Rattle.std.proofs.Common.{◌≡◌, ℕ, Bool, true, false, List, sym, ◌∙◌, ap, subst, refl}
use Rattle.tm_disk.specs.Disk.{DiskState, IsCut}
use Rattle.model_session.specs.declared.asked.Asked.{Asked}
use Rattle.model_session.specs.declared.asked.ImageRefused.{ImageRefused}
use Rattle.model_session.specs.declared.asked.Asked.TheVariants.{Bad, BadCommand, Stopped, Call, Quiet, Power as AskedPower, PowerIn, Restart, ColdStart}
use Rattle.tm_control.specs.ControlOnDisk.{ControlOnDisk}
use Rattle.session_lives.specs.declared.called.Called.{Called}
use Rattle.session_lives.specs.declared.called.Called.TheVariants.{Answered, Frozen, Power, Broke, Memory, Spent}
use Rattle.session_lives.specs.declared.called.Served.{Served}
use Rattle.session_lives.specs.declared.called.Served.TheVariants.{Printed, Broke as HasBroken, Undone as NotServed}
use Rattle.session_lives.specs.declared.called.Opening.{Opening}
use Rattle.session_lives.specs.declared.called.Opening.TheVariants.{Opened, Broke as OpeningBroke, Refused, Memory as OpeningMemory, Spent as OpeningSpent}
use Rattle.session_lives.specs.declared.place.Idle.{Idle}
use Rattle.session_lives.specs.declared.called.Undone.{Undone}
use Rattle.session_lives.specs.declared.called.Undone.TheVariants.{Memory as NoMemory, Spent as SpentCounter}
use Rattle.session_lives.specs.declared.place.Place.{Place}
use Rattle.session_lives.specs.declared.place.Place.TheVariants.{Up, Down}
use Rattle.session_lives.specs.declared.place.Kept.{Kept}
use Rattle.session_lives.specs.declared.place.Session.{Session}
use Rattle.session_lives.specs.RunningSession.{session_up}
use Rattle.session_lives.specs.AskedControl.{IsAsked, DoesAsked, AskedFails, Freezes, PowersOff, StaysBy, pick_by}
use Rattle.session_lives.specs.Openings.{IsCallSettled, IsCutBehind, LeavesOff, MayGoOn, CutsUp, CutsDown, HasGone, IsOpeningTold, IsRefusalTold, pick_up, pick_down}

-- nothing but a POWER IN that armed the disk sets another
pub pick_undone : (asked : Asked) (can : Bool) (picked : ℕ) → pick_by asked Memory can picked ≡ picked
pick_undone (Bad rule) can picked = refl
pick_undone (BadCommand rule) can picked = refl
pick_undone (Stopped terminal number reason) can picked = refl
pick_undone (Call call) can picked = refl
pick_undone (Quiet most) can picked = refl
pick_undone (AskedPower pick) can picked = refl
pick_undone (PowerIn writes pick) can picked = refl
pick_undone Restart can picked = refl
pick_undone ColdStart can picked = refl

pub pick_spent : (asked : Asked) (can : Bool) (picked : ℕ) → pick_by asked Spent can picked ≡ picked
pick_spent (Bad rule) can picked = refl
pick_spent (BadCommand rule) can picked = refl
pick_spent (Stopped terminal number reason) can picked = refl
pick_spent (Call call) can picked = refl
pick_spent (Quiet most) can picked = refl
pick_spent (AskedPower pick) can picked = refl
pick_spent (PowerIn writes pick) can picked = refl
pick_spent Restart can picked = refl
pick_spent ColdStart can picked = refl

pub pick_broke : (asked : Asked) (can : Bool) (picked : ℕ) → pick_by asked Broke can picked ≡ picked
pick_broke (Bad rule) can picked = refl
pick_broke (BadCommand rule) can picked = refl
pick_broke (Stopped terminal number reason) can picked = refl
pick_broke (Call call) can picked = refl
pick_broke (Quiet most) can picked = refl
pick_broke (AskedPower pick) can picked = refl
pick_broke (PowerIn writes pick) can picked = refl
pick_broke Restart can picked = refl
pick_broke ColdStart can picked = refl

module _ {D : Type 0} (state : D → DiskState) (a b : ControlOnDisk D) (kept : Kept) (session : Session D) (text : List ℕ) where
  pick_done : (asked : Asked) (can : Bool) (picked : ℕ) → DoesAsked state asked a b text → pick_by asked Answered can picked ≡ pick_up Printed asked can picked
  pick_done (Bad rule) can picked does_it = refl
  pick_done (BadCommand rule) can picked does_it = refl
  pick_done (Stopped terminal number reason) can picked does_it = refl
  pick_done (Call call) can picked does_it = refl
  pick_done (Quiet most) can picked does_it = refl
  pick_done (AskedPower pick) can picked never = absurd never
  pick_done (PowerIn writes pick) can picked does_it = refl
  pick_done Restart can picked does_it = refl
  pick_done ColdStart can picked does_it = refl

  pick_frozen : (asked : Asked) (can : Bool) (picked : ℕ) → Freezes state asked a b text → pick_by asked Frozen can picked ≡ pick_up Printed asked can picked
  pick_frozen (Call call) can picked frozen = refl
  pick_frozen (Bad rule) can picked never = absurd never
  pick_frozen (BadCommand rule) can picked never = absurd never
  pick_frozen (Stopped terminal number reason) can picked never = absurd never
  pick_frozen (Quiet most) can picked never = absurd never
  pick_frozen (AskedPower pick) can picked never = absurd never
  pick_frozen (PowerIn writes pick) can picked never = absurd never
  pick_frozen Restart can picked never = absurd never
  pick_frozen ColdStart can picked never = absurd never

  pick_taken : (asked : Asked) (pick : ℕ) (can : Bool) (picked : ℕ) → PowersOff state asked pick a b text → 0 ≡ pick_up Printed asked can picked
  pick_taken (AskedPower asked) pick can picked off = refl
  pick_taken (Bad rule) pick can picked never = absurd never
  pick_taken (BadCommand rule) pick can picked never = absurd never
  pick_taken (Stopped terminal number reason) pick can picked never = absurd never
  pick_taken (Call call) pick can picked never = absurd never
  pick_taken (Quiet most) pick can picked never = absurd never
  pick_taken (PowerIn writes other) pick can picked never = absurd never
  pick_taken Restart pick can picked never = absurd never
  pick_taken ColdStart pick can picked never = absurd never

  pub picks_up : (asked : Asked) (called : Called) (served : Served) (can : Bool) (picked : ℕ) → IsAsked state asked a b text called → kept.pick ≡ pick_by asked called can picked
      → IsCallSettled state (session_up b kept) called session served → session.kept.pick ≡ pick_up served asked can picked
  picks_up asked Answered served can picked does_it is (on, printed) =
      subst (λ s. session.kept.pick ≡ pick_up s asked can picked) (sym printed) (ap (λ (s : Session D). s.kept.pick) on ∙ is ∙ pick_done asked can picked does_it)
  picks_up asked Frozen served can picked frozen is (over, printed) =
      subst (λ s. session.kept.pick ≡ pick_up s asked can picked) (sym printed) (over.pick ∙ is ∙ pick_frozen asked can picked frozen)
  picks_up asked (Power pick) served can picked power is (over, printed) =
      subst (λ s. session.kept.pick ≡ pick_up s asked can picked) (sym printed) (over.pick ∙ pick_taken asked pick can picked power)
  picks_up asked Broke served can picked failed is (over, broke) = subst (λ s. session.kept.pick ≡ pick_up s asked can picked) (sym broke) over.pick
  picks_up asked Memory served can picked undone is (on, why) =
      subst (λ s. session.kept.pick ≡ pick_up s asked can picked) (sym why) (ap (λ (s : Session D). s.kept.pick) on ∙ is ∙ pick_undone asked can picked)
  picks_up asked Spent served can picked undone is (on, why) =
      subst (λ s. session.kept.pick ≡ pick_up s asked can picked) (sym why) (ap (λ (s : Session D). s.kept.pick) on ∙ is ∙ pick_spent asked can picked)

  -- ---- what the disk is cut with

  goes_on : (asked : Asked) → DoesAsked state asked a b text → MayGoOn asked
  goes_on (Bad rule) does_it = tt
  goes_on (BadCommand rule) does_it = tt
  goes_on (Stopped terminal number reason) does_it = tt
  goes_on (Call call) does_it = tt
  goes_on (Quiet most) does_it = tt
  goes_on (AskedPower pick) never = absurd never
  goes_on (PowerIn writes pick) does_it = tt
  goes_on Restart does_it = tt
  goes_on ColdStart does_it = tt

  frozen_leaves : (asked : Asked) → Freezes state asked a b text → StaysBy state asked Frozen a b → (idle : Idle D) → idle.disk ≡ b.disk → LeavesOff state asked a idle
  frozen_leaves (Call call) frozen stays idle same = record { behind = b; text = text; freezes = frozen; stays = stays; same = same }
  frozen_leaves (Bad rule) never stays idle same = absurd never
  frozen_leaves (BadCommand rule) never stays idle same = absurd never
  frozen_leaves (Stopped terminal number reason) never stays idle same = absurd never
  frozen_leaves (Quiet most) never stays idle same = absurd never
  frozen_leaves (AskedPower pick) never stays idle same = absurd never
  frozen_leaves (PowerIn writes pick) never stays idle same = absurd never
  frozen_leaves Restart never stays idle same = absurd never
  frozen_leaves ColdStart never stays idle same = absurd never

  -- POWER cuts the disk as it stood
  power_leaves : (asked : Asked) (pick : ℕ) → PowersOff state asked pick a b text → (idle : Idle D) → IsCut pick (state b.disk) (state idle.disk) → LeavesOff state asked a idle
  power_leaves (AskedPower asked) pick (same, unchanged, added, told) idle cut =
      subst (λ (n : ℕ). IsCut n (state a.disk) (state idle.disk)) same
      (subst (λ (c : ControlOnDisk D). IsCut pick (state c.disk) (state idle.disk)) unchanged cut)
  power_leaves (Bad rule) pick never idle cut = absurd never
  power_leaves (BadCommand rule) pick never idle cut = absurd never
  power_leaves (Stopped terminal number reason) pick never idle cut = absurd never
  power_leaves (Call call) pick never idle cut = absurd never
  power_leaves (Quiet most) pick never idle cut = absurd never
  power_leaves (PowerIn writes other) pick never idle cut = absurd never
  power_leaves Restart pick never idle cut = absurd never
  power_leaves ColdStart pick never idle cut = absurd never

  -- a stop cuts it with the pick that was kept, as the call has left it
  stop_leaves : (asked : Asked) (can : Bool) (picked : ℕ) → AskedFails state asked a b → StaysBy state asked Broke a b → kept.pick ≡ pick_by asked Broke can picked → (idle : Idle D)
      → IsCut kept.pick (state b.disk) (state idle.disk) → IsCutBehind state asked picked a idle
  stop_leaves (Call call) can picked fails stays is idle cut =
      record { behind = b; fails = fails; stays = stays; cut = subst (λ (n : ℕ). IsCut n (state b.disk) (state idle.disk)) is cut }
  stop_leaves (Quiet most) can picked fails stays is idle cut =
      record { behind = b; fails = fails; stays = stays; cut = subst (λ (n : ℕ). IsCut n (state b.disk) (state idle.disk)) is cut }
  stop_leaves (Bad rule) can picked never stays is idle cut = absurd never
  stop_leaves (BadCommand rule) can picked never stays is idle cut = absurd never
  stop_leaves (Stopped terminal number reason) can picked never stays is idle cut = absurd never
  stop_leaves (AskedPower pick) can picked never stays is idle cut = absurd never
  stop_leaves (PowerIn writes pick) can picked never stays is idle cut = absurd never
  stop_leaves Restart can picked never stays is idle cut = absurd never
  stop_leaves ColdStart can picked never stays is idle cut = absurd never

  at_place : (asked : Asked) (picked : ℕ) (served served' : Served) (place : Place D) → served ≡ served' → session.place ≡ place → CutsUp state asked picked a served' place
      → CutsUp state asked picked a served session.place
  at_place asked picked served served' place how where_is cuts =
      subst (λ (p : Place D). CutsUp state asked picked a served p) (sym where_is) (subst (λ (s : Served). CutsUp state asked picked a s place) (sym how) cuts)

  undone_cuts : (asked : Asked) (picked : ℕ) (served : Served) (undone : Undone) → served ≡ NotServed undone → CutsUp state asked picked a served session.place
  undone_cuts asked picked served undone how = subst (λ (s : Served). CutsUp state asked picked a s session.place) (sym how) tt

  pub cuts_up : (asked : Asked) (called : Called) (served : Served) (can : Bool) (picked : ℕ) → IsAsked state asked a b text called → StaysBy state asked called a b
      → kept.pick ≡ pick_by asked called can picked → IsCallSettled state (session_up b kept) called session served → CutsUp state asked picked a served session.place
  cuts_up asked Answered served can picked does_it stays is (on, printed) =
      at_place asked picked served Printed (Up b) printed (ap (λ (s : Session D). s.place) on) (goes_on asked does_it)
  cuts_up asked Frozen served can picked frozen stays is (over, printed) =
      at_place asked picked served Printed (Down over.idle) printed over.place (frozen_leaves asked frozen stays over.idle over.disk)
  cuts_up asked (Power pick) served can picked power stays is (over, printed) =
      at_place asked picked served Printed (Down over.idle) printed over.place (power_leaves asked pick power over.idle over.disk)
  cuts_up asked Broke served can picked failed stays is (over, broke) =
      at_place asked picked served HasBroken (Down over.idle) broke over.place (stop_leaves asked can picked failed stays is over.idle over.disk)
  cuts_up asked Memory served can picked undone stays is (on, why) = undone_cuts asked picked served NoMemory why
  cuts_up asked Spent served can picked undone stays is (on, why) = undone_cuts asked picked served SpentCounter why

-- an opening that fails takes it
module _ {D : Type 0} (state : D → DiskState) (idle : Idle D) (old : Kept) (session : Session D) (text : List ℕ) where
  pick_refused : (begun : Bool) (served : Served) (refusal : ImageRefused) → session.kept.pick ≡ old.pick → IsRefusalTold begun refusal text served → session.kept.pick ≡ pick_down served old.pick
  pick_refused true served refusal same told = subst (λ s. session.kept.pick ≡ pick_down s old.pick) (sym told.0) same
  pick_refused false served refusal same undone = subst (λ s. session.kept.pick ≡ pick_down s old.pick) (sym undone) same

  pub picks_down : (cold begun : Bool) (opening : Opening) (served : Served) → HasGone state idle old cold session opening → IsOpeningTold cold begun opening text served → session.kept.pick ≡ pick_down served old.pick
  picks_down cold begun Opened served gone told = subst (λ s. session.kept.pick ≡ pick_down s old.pick) (sym told.0) gone.pick
  picks_down cold begun OpeningBroke served gone broke = subst (λ s. session.kept.pick ≡ pick_down s old.pick) (sym broke) gone.pick
  picks_down cold begun (Refused refusal) served gone told = pick_refused begun served refusal gone.0.pick told
  picks_down cold begun OpeningMemory served gone undone = subst (λ s. session.kept.pick ≡ pick_down s old.pick) (sym undone) gone.pick
  picks_down cold begun OpeningSpent served gone undone = subst (λ s. session.kept.pick ≡ pick_down s old.pick) (sym undone) gone.0.pick

  -- and cuts the disk with it
  cut_refused : (begun : Bool) (served : Served) (refusal : ImageRefused) → IsRefusalTold begun refusal text served → CutsDown state old.pick idle served session.place
  cut_refused true served refusal told = subst (λ (s : Served). CutsDown state old.pick idle s session.place) (sym told.0) tt
  cut_refused false served refusal undone = subst (λ (s : Served). CutsDown state old.pick idle s session.place) (sym undone) tt

  pub cuts_down : (cold begun : Bool) (opening : Opening) (served : Served) → HasGone state idle old cold session opening → IsOpeningTold cold begun opening text served → CutsDown state old.pick idle served session.place
  cuts_down cold begun Opened served gone told = subst (λ (s : Served). CutsDown state old.pick idle s session.place) (sym told.0) tt
  cuts_down cold begun OpeningBroke served gone broke =
      subst (λ (s : Served). CutsDown state old.pick idle s session.place) (sym broke)
      (subst (λ (p : Place D). CutsDown state old.pick idle HasBroken p) (sym gone.place) (record { disk = gone.disk; stays = gone.back.stays; failed = gone.back.cause; cut = gone.cut }))
  cuts_down cold begun (Refused refusal) served gone told = cut_refused begun served refusal told
  cuts_down cold begun OpeningMemory served gone undone = subst (λ (s : Served). CutsDown state old.pick idle s session.place) (sym undone) tt
  cuts_down cold begun OpeningSpent served gone undone = subst (λ (s : Served). CutsDown state old.pick idle s session.place) (sym undone) tt
