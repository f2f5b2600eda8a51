-- A block that was served, by what it asks for of the session's system.
use Rattle.std.proofs.Common.{◌≡◌, ℕ, true, List, [], sym, ◌∙◌, ap, subst, refl, arith, inl}
use Rattle.tm_disk.specs.Disk.{DiskState}
use Rattle.tm_disk.proofs.Words.{stays_same}
use Rattle.model_system.specs.System.{System}
use Rattle.model_session.specs.Blocks.{Block}
use Rattle.model_session.specs.Lines.{asked_of}
use Rattle.model_session.specs.declared.asked.Asked.{Asked}
use Rattle.model_session.specs.declared.asked.Asked.TheVariants.{Bad, BadCommand, Stopped, Call, Quiet, Power, PowerIn, Restart, ColdStart}
use Rattle.model_session.specs.SessionState.{SessionState, Standing}
use Rattle.model_session.specs.SessionState.Standing.{Up, Down}
use Rattle.model_session.specs.Session.{IsBegunBy, IsSourceEnded}
use Rattle.tm_control.specs.ControlOnDisk.{ControlOnDisk, Lasts}
use Rattle.tm_control.specs.ControlCalls.{IsSameControl, StaysSo}
use Rattle.session_lives.specs.declared.called.Called.{Called}
use Rattle.session_lives.specs.declared.called.Called.TheVariants.{Memory as NotAsked}
use Rattle.session_lives.specs.declared.called.Ending.{Ending}
use Rattle.session_lives.specs.declared.called.Ending.TheVariants.{Forced, Broke as HasBroken}
use Rattle.session_lives.specs.declared.called.Served.{Served}
use Rattle.session_lives.specs.declared.called.Served.TheVariants.{Undone as NotServed}
use Rattle.session_lives.specs.declared.called.Undone.TheVariants.{Memory as NoMemory}
use Rattle.session_lives.specs.declared.place.Idle.{Idle}
use Rattle.session_lives.specs.declared.place.Place.TheVariants.{Up as StandsAt, Down as StandsIdle}
use Rattle.session_lives.specs.declared.place.Kept.{Kept}
use Rattle.session_lives.specs.declared.place.Session.{Session}
use Rattle.session_lives.specs.ControlCounts.{KeepsPace}
use Rattle.session_lives.specs.AskedControl.{DidNothing, IsAsked, IsForcedSo, StaysBy, Undoes, pick_by}
use Rattle.session_lives.specs.RunningSession.{session_at, session_of, session_up, session_down, session_setting, IsUpReady, IsSessionReady, IsReadyAt, IsSoundAt, Leads, LeadsBy}
use Rattle.session_lives.specs.Openings.{IsEndable, IsAloneBy, IsCallSettled, IsServedSo}
use Rattle.session_lives.specs.SourceEnd.{EndsPlace, EndsUp, IsEndSettled, end_text, pick_ended}
use Rattle.session_lives.proofs.Leading.{leads_same}
use Rattle.session_lives.proofs.Serving.{served_up, ended_up, endable_up, alone_up, ready_ended, ready_up}
use Rattle.session_lives.proofs.Staying.{same_by, same_of}

-- nothing stands of a block
pub nothing_begun : (asked : Asked) (system : System) (a : SessionState) (standing : Standing) → IsBegunBy asked system a standing a
nothing_begun (Bad rule) system a standing = refl
nothing_begun (BadCommand rule) system a standing = refl
nothing_begun (Stopped terminal number reason) system a standing = refl
nothing_begun (Call call) system a standing = refl
nothing_begun (Quiet most) system a (Up life) = inl refl
nothing_begun (Quiet most) system a (Down outage) = refl
nothing_begun (Power pick) system a standing = refl
nothing_begun (PowerIn writes pick) system a standing = refl
nothing_begun Restart system a standing = refl
nothing_begun ColdStart system a standing = refl

-- a block that couldn't be read asks for nothing
module _ {D : Type 0} (state : D → DiskState) (a : ControlOnDisk D) where
  stays_here : StaysSo state a a
  stays_here = record { system = refl; opening = refl; checkpoint = refl; text = refl; began = refl; disk = stays_same (state a.disk); later = omega arith }

  pub stays_unread : (asked : Asked) → StaysBy state asked NotAsked a a
  stays_unread (Bad rule) = stays_here
  stays_unread (BadCommand rule) = stays_here
  stays_unread (Stopped terminal number reason) = stays_here
  stays_unread (Call call) = stays_here
  stays_unread (Quiet most) = stays_here
  stays_unread (Power pick) = stays_here
  stays_unread (PowerIn writes pick) = stays_here
  stays_unread Restart = stays_here
  stays_unread ColdStart = stays_here

  adds_here : a.up ≡ true → DidNothing state a a
  adds_here up = record { adds = record { system = refl; opening = refl; history = refl }; forced = refl; up = up; no_fault = refl }

  pub undone_unread : (asked : Asked) → a.up ≡ true → Undoes state asked a a
  undone_unread (Bad rule) up = adds_here up
  undone_unread (BadCommand rule) up = adds_here up
  undone_unread (Stopped terminal number reason) up = adds_here up
  undone_unread (Call call) up = adds_here up
  undone_unread (Quiet most) up = inl (adds_here up)
  undone_unread (Power pick) up = adds_here up
  undone_unread (PowerIn writes pick) up = adds_here up
  undone_unread Restart up = adds_here up
  undone_unread ColdStart up = adds_here up

module _ {D : Type 0} (state : D → DiskState) (block : Block) (text : List ℕ) where
  -- for want of memory
  pub not_served : (a : Session D) → Leads state (λ setting old new. IsServedSo (asked_of setting.system block) text (NotServed NoMemory) setting old new) a a
  not_served a =
      leads_same state (λ setting old new. IsServedSo (asked_of setting.system block) text (NotServed NoMemory) setting old new) a
      (λ setting x. (nothing_begun (asked_of setting.system block) setting.system x x.standing, tt))

  pub block_up : (control : ControlOnDisk D) (kept : Kept) (session : Session D) (asked : Asked) (served : Served) → asked ≡ asked_of control.control.system block
      → Leads state (λ setting old new. IsServedSo asked text served setting old new) (session_up control kept) session
      → Leads state (λ setting old new. IsServedSo (asked_of setting.system block) text served setting old new) (session_up control kept) session
  block_up control kept session asked served is leads = λ system source handed events sound.
      let led : LeadsBy state (λ setting old new. IsServedSo (asked_of system block) text served setting old new) system source handed events (session_up control kept) session =
      subst (λ (a : Asked). LeadsBy state (λ setting old new. IsServedSo a text served setting old new) system source handed events (session_up control kept) session)
      (is ∙ ap (λ s. asked_of s block) sound.system_is) (leads system source handed events sound) in
      record { events_now = led.events_now; goes = led.goes; sound = led.sound }

  pub block_down : (idle : Idle D) (kept : Kept) (session : Session D) (asked : Asked) (served : Served) → asked ≡ asked_of idle.system block
      → Leads state (λ setting old new. IsServedSo asked text served setting old new) (session_down idle kept) session
      → Leads state (λ setting old new. IsServedSo (asked_of setting.system block) text served setting old new) (session_down idle kept) session
  block_down idle kept session asked served is leads = λ system source handed events sound.
      let led : LeadsBy state (λ setting old new. IsServedSo (asked_of system block) text served setting old new) system source handed events (session_down idle kept) session =
      subst (λ (a : Asked). LeadsBy state (λ setting old new. IsServedSo a text served setting old new) system source handed events (session_down idle kept) session)
      (is ∙ ap (λ s. asked_of s block) sound.system_is) (leads system source handed events sound) in
      record { events_now = led.events_now; goes = led.goes; sound = led.sound }

  -- ---- of a session that was up

  pub served_at : (a b : ControlOnDisk D) (before : Session D) (kept : Kept) (session : Session D) (called : Called) (served : Served) → before.place ≡ StandsAt a
      → StaysBy state (asked_of a.control.system block) called a b → kept.lives ≡ before.kept.lives → kept.stops ≡ before.kept.stops
      → kept.pick ≡ pick_by (asked_of a.control.system block) called (state a.disk).can_arm before.kept.pick → KeepsPace state a b → Lasts state b
      → IsAsked state (asked_of a.control.system block) a b text called → IsCallSettled state (session_up b kept) called session served
      → Leads state (λ setting x y. IsServedSo (asked_of setting.system block) text served setting x y) before session
  served_at a b before kept session called served is stays lives stops pick pace lasts asked settled = λ system source handed events sound.
      let led : LeadsBy state (λ setting x y. IsServedSo (asked_of setting.system block) text served setting x y) system source handed events (session_up a before.kept) session =
      block_up a before.kept session (asked_of a.control.system block) served refl
      (λ system source handed events sound.
      served_up state system source handed events a b before.kept kept session text sound (same_by state (asked_of a.control.system block) called a b stays) lives stops pace lasts (asked_of a.control.system block) called served stays asked pick settled)
      system source handed events (subst (λ p. IsSoundAt state system source handed events p before.kept) is sound) in
      record {
        events_now = led.events_now;
        goes = subst (λ p. IsServedSo (asked_of system block) text served (session_setting state system source handed) (session_at events p before.kept) (session_of led.events_now session)) (sym is) led.goes;
        sound = led.sound;
      }

  module _ (a b : ControlOnDisk D) (before : Session D) (kept : Kept) (called : Called) (is : before.place ≡ StandsAt a) (ready : IsSessionReady state before)
      (stays : StaysBy state (asked_of a.control.system block) called a b) (lives : kept.lives ≡ before.kept.lives) (stops : kept.stops ≡ before.kept.stops) where
    up_at : IsUpReady a before.kept
    up_at = subst (λ p. IsReadyAt state p before.kept) is ready

    same_at : IsSameControl state a b
    same_at = same_by state (asked_of a.control.system block) called a b stays

    pub endable_at : IsEndable b kept
    endable_at = endable_up state a b before.kept kept before text up_at same_at lives stops

    pub alone_at : IsAsked state (asked_of a.control.system block) a b text called → IsAloneBy state b called
    alone_at asked = alone_up state a b before.kept kept before text up_at same_at lives stops (asked_of a.control.system block) called asked

    pub ready_at : (session : Session D) (served : Served) → IsAsked state (asked_of a.control.system block) a b text called → IsCallSettled state (session_up b kept) called session served → IsSessionReady state session
    ready_at session served asked settled = ready_up state a b before.kept kept session text up_at same_at lives stops (asked_of a.control.system block) called served asked settled

-- ---- the end of the source

-- of a session that was up
module _ {D : Type 0} (state : D → DiskState) (a b : ControlOnDisk D) (before : Session D) (kept : Kept) (session : Session D) (ending : Ending) (is : before.place ≡ StandsAt a) (stays : StaysSo state a b) (lives : kept.lives ≡ before.kept.lives)
    (stops : kept.stops ≡ before.kept.stops) (forced : IsForcedSo state ending a b) (settled : IsEndSettled state (session_up b kept) ending session) where
  pub ended_at : kept.pick ≡ before.kept.pick → KeepsPace state a b → Lasts state b → Leads state (λ setting x y. IsSourceEnded setting.system x y (end_text ending)) before session
  ended_at pick pace lasts = λ system source handed events sound.
      let led : LeadsBy state (λ setting x y. IsSourceEnded setting.system x y (end_text ending)) system source handed events (session_up a before.kept) session =
      ended_up state system source handed events a b before.kept kept session (end_text ending) (subst (λ p. IsSoundAt state system source handed events p before.kept) is sound) (same_of state a b stays) lives stops pace lasts ending stays forced pick settled in
      record {
        events_now = led.events_now;
        goes = subst (λ p. IsSourceEnded system (session_at events p before.kept) (session_of led.events_now session) (end_text ending)) (sym is) led.goes;
        sound = led.sound;
      }

  module _ (ready : IsSessionReady state before) where
    up_ready : IsUpReady a before.kept
    up_ready = subst (λ p. IsReadyAt state p before.kept) is ready

    pub ready_ended_at : IsSessionReady state session
    ready_ended_at = ready_ended state a b before.kept kept session (end_text ending) up_ready (same_of state a b stays) lives stops ending forced settled

  pub place_ended : EndsPlace state before.place kept.pick ending session.place
  place_ended = subst (λ p. EndsPlace state p kept.pick ending session.place) (sym is) (ends_up ending forced settled) where
    ends_up : (ending : Ending) → IsForcedSo state ending a b → IsEndSettled state (session_up b kept) ending session → EndsUp state kept.pick a ending session.place
    ends_up Forced behind on = subst (λ (s : Session D). EndsUp state kept.pick a Forced s.place) (sym on) behind
    ends_up HasBroken fails over =
        subst (λ p. EndsUp state kept.pick a HasBroken p) (sym over.place) (record { behind = b; fails = fails; stays = stays; cut = over.disk })

  pub pick_ended_at : session.kept.pick ≡ pick_ended ending kept.pick
  pick_ended_at = of ending settled where
    of : (ending : Ending) → IsEndSettled state (session_up b kept) ending session → session.kept.pick ≡ pick_ended ending kept.pick
    of Forced on = ap (λ (s : Session D). s.kept.pick) on
    of HasBroken over = over.pick

-- a life that is up may end
pub endable_ended : {D : Type 0} (state : D → DiskState) (a b : ControlOnDisk D) (before : Session D) (kept : Kept) → before.place ≡ StandsAt a → IsSessionReady state before → StaysSo state a b → kept.lives ≡ before.kept.lives
    → kept.stops ≡ before.kept.stops → IsEndable b kept
endable_ended state a b before kept is ready stays lives stops =
    endable_up state a b before.kept kept before [] (subst (λ p. IsReadyAt state p before.kept) is ready) (same_of state a b stays) lives stops

-- of one that was down
pub ended_down : {D : Type 0} (state : D → DiskState) (idle : Idle D) (before : Session D) → before.place ≡ StandsIdle idle
    → Leads state (λ setting x y. IsSourceEnded setting.system x y []) before before
ended_down state idle before is = λ system source handed events sound.
    record {
      events_now = events;
      goes = subst (λ p. IsSourceEnded system (session_at events p before.kept) (session_at events p before.kept) []) (sym is) (refl, refl);
      sound = sound;
    }
