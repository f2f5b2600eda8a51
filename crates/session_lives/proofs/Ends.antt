-- How a life goes on, and how it ends.
use Rattle.std.proofs.Common.{◌≡◌, ◌⊎◌, ℕ, ◌+◌, ◌*◌, ◌-◌, ◌≤◌, Bool, true, false, List, [], ◌∷◌, ◌++◌, length, map, sym, ◌∙◌, ap, subst, refl, arith, inl, inr, append_assoc}
use Rattle.std.proofs.lemmas.List.{append-nil, length-append}
use Rattle.std.specs.Prelude.{if◌then◌else◌, Option, Some, None, Ok, Err}
use Rattle.std.specs.Option.{option_map}
use Rattle.tm_disk.specs.Disk.{Image, DiskState, IsSameDisk, Only, Rose}
use Rattle.tm_disk.proofs.Words.{same_on}
use Rattle.model_system.specs.System.{System}
use Rattle.model_machine.specs.declared.entry.Entry.{Entry}
use Rattle.model_machine.specs.declared.entry.Entry.TheVariants.{Accept, Show, Acked, Turn, Commanded, Checked, Quiet}
use Rattle.model_machine.specs.Machine.{LastingState, start_of}
use Rattle.model_machine.specs.History.{AscendAbove, ControlState, IsLegal}
use Rattle.model_image.specs.RecoveredState.{Recovers}
use Rattle.checkpointing.specs.DefinitionText.{HasText, IsNumberedFrom}
use Rattle.checkpointing.specs.Counts.{CountsUpTo}
use Rattle.checkpointing.proofs.Counted.{up_to_more}
use Rattle.system_types.specs.ValidSystem.{IsSystem}
use Rattle.session_law.specs.Measures.{call_raises, last_measure, lives_measure, measure}
use Rattle.model_system.specs.Areas.{sectors_needed}
use Rattle.model_session.specs.Lives.{LifeState, LastLife, last_told, last_number, life_moment, AreLegal, HasAnswered, LifeLeaves, is_disk_fault, forced_to, longer}
use Rattle.model_session.specs.SessionState.{Standing, Outage, DiskEvent, DiskPast, SessionState, Stop, AreStops, LastAnswered, IsStateLeft, IsKnown, told_by, life_gone_on, broken}
use Rattle.model_session.specs.SessionState.Standing.{Up as StandsUp, Down as StandsDown}
use Rattle.model_session.specs.SessionState.DiskEvent.{CutWith}
use Rattle.tm_control.specs.ControlOnDisk.{ControlOnDisk, LastsBy, RecoversSince, last_checked, lasting_after_entries}
use Rattle.openings.specs.declared.life.Life.{Life}
use Rattle.session_lives.specs.declared.place.Idle.{Idle}
use Rattle.session_lives.specs.declared.place.Place.TheVariants.{Up, Down}
use Rattle.session_lives.specs.declared.place.Kept.{Kept}
use Rattle.session_lives.specs.RunningSession.{life_of, last_life_of, last_up, kept_steps, outage_of, session_at, session_setting, CountsDown, CountsFirst, HoldsSession, IsDownSound}
use Rattle.session_lives.specs.ControlCounts.{CountsUp, force_raises}
use Rattle.session_lives.specs.DiskEvents.{AreEvents}
use Rattle.session_lives.specs.ToldNumbers.{numbers_in, numbers_told, numbers_of, numbers_so_far, told_numbers}
use Rattle.session_lives.specs.Openings.{GoesDown}
use Rattle.session_lives.proofs.Asked.{disk_fault_is}
use Rattle.model_session.proofs.Ending.{answered_end, faulted_end}

-- ---- states of a session

abbrev pub state_with : List LifeState → List Stop → DiskPast → Standing → SessionState
state_with lives stops past standing = record { lives = lives; stops = stops; disk = past; standing = standing }

pub same_state : (lives lives' : List LifeState) (stops stops' : List Stop) (past past' : DiskPast) (standing standing' : Standing) → lives' ≡ lives → stops' ≡ stops → past' ≡ past
    → standing' ≡ standing → state_with lives' stops' past' standing' ≡ state_with lives stops past standing
same_state lives lives' stops stops' past past' standing standing' a b c d =
    ap (λ l. state_with l stops' past' standing') a ∙ ap (λ s. state_with lives s past' standing') b ∙ ap (λ p. state_with lives stops p standing') c ∙ ap (state_with lives stops past) d

abbrev pub past_with : List DiskEvent → ℕ → DiskPast
past_with events kept = record { kept = kept; events = events }

abbrev pub life_with : LastingState → ℕ → List Entry → ℕ → LastLife
life_with opening number history forced = record { opening = opening; checkpoint = number; history = history; forced = forced }

pub same_life : (opening opening' : LastingState) (number number' : ℕ) (history history' : List Entry) (forced forced' : ℕ) → opening' ≡ opening → number' ≡ number → history' ≡ history → forced' ≡ forced
    → life_with opening' number' history' forced' ≡ life_with opening number history forced
same_life opening opening' number number' history history' forced forced' a n b f =
    ap (λ o. life_with o number' history' forced') a ∙ ap (λ k. life_with opening k history' forced') n ∙ ap (λ h. life_with opening number h forced') b ∙ ap (life_with opening number history) f

abbrev pub down_with : LastLife → Bool → Standing
down_with life stopped = StandsDown (record { last = Some life; emptied = false; stopped = stopped })

same_kept : (old new : Kept) → new.lives ≡ old.lives → map life_of new.lives.items ≡ map life_of old.lives.items
same_kept old new e = ap (λ v. map life_of v.items) e

-- the life goes on
pub up_state : {D : Type 0} (events now : List DiskEvent) (a b : ControlOnDisk D) (old new : Kept) (entries : List Entry) → b.control.opening ≡ a.control.opening → b.checkpoint ≡ a.checkpoint
    → b.control.history ≡ a.control.history ++ entries → new.lives ≡ old.lives → new.stops ≡ old.stops → past_with now new.pick ≡ told_by entries (past_with events old.pick)
    → session_at now (Up b) new ≡ life_gone_on (session_at events (Up a) old) (last_up a) entries b.forced
up_state events now a b old new entries opening number history lives stops same =
    same_state (map life_of old.lives.items) (map life_of new.lives.items) old.stops.items new.stops.items (told_by entries (past_with events old.pick)) (past_with now new.pick)
    (StandsUp (forced_to b.forced (longer (last_up a) entries))) (StandsUp (last_up b)) (same_kept old new lives) (ap (λ v. v.items) stops) same
    (ap StandsUp (same_life a.control.opening b.control.opening a.checkpoint b.checkpoint (a.control.history ++ entries) b.control.history b.forced b.forced opening number history refl))

-- it stands as it did, and this was done with its disk
pub up_with : {D : Type 0} (events : List DiskEvent) (a b : ControlOnDisk D) (old new : Kept) (past : DiskPast) → b.control.opening ≡ a.control.opening → b.checkpoint ≡ a.checkpoint
    → b.control.history ≡ a.control.history → b.forced ≡ a.forced → new.lives ≡ old.lives → new.stops ≡ old.stops → past_with events new.pick ≡ past
    → session_at events (Up b) new ≡ state_with (map life_of old.lives.items) old.stops.items past (StandsUp (last_up a))
up_with events a b old new past opening number history forced lives stops same =
    same_state (map life_of old.lives.items) (map life_of new.lives.items) old.stops.items new.stops.items past (past_with events new.pick)
    (StandsUp (last_up a)) (StandsUp (last_up b)) (same_kept old new lives) (ap (λ v. v.items) stops) same
    (ap StandsUp (same_life a.control.opening b.control.opening a.checkpoint b.checkpoint a.control.history b.control.history a.forced b.forced opening number history forced))

-- it ended
abbrev pub outage_with : Option LastLife → Bool → Bool → Outage
outage_with last emptied stopped = record { last = last; emptied = emptied; stopped = stopped }

last_is : {D : Type 0} (idle : Idle D) (life : Life) (a : LastLife) (emptied stopped : Bool) → idle.last ≡ Some life → last_life_of life ≡ a → idle.emptied ≡ emptied → idle.stopped ≡ stopped
    → outage_of idle ≡ outage_with (Some a) emptied stopped
last_is idle life a emptied stopped is same e t =
    ap (λ (l : Option Life). outage_with (option_map last_life_of l) idle.emptied idle.stopped) is ∙ ap (λ l. outage_with (Some l) idle.emptied idle.stopped) same
    ∙ ap (λ b. outage_with (Some a) b idle.stopped) e ∙ ap (outage_with (Some a) emptied) t

module _ {D : Type 0} (state : D → DiskState) where
  -- the outage behind a life that had come to these entries
  outage_is : (c : ControlOnDisk D) (old new : Kept) (stopped : Bool) (idle : Idle D) (life : LastLife) → GoesDown state c old new stopped idle
      → c.control.opening ≡ life.opening → c.checkpoint ≡ life.checkpoint → c.control.history ≡ life.history → c.forced ≡ life.forced → outage_of idle ≡ outage_with (Some life) false stopped
  outage_is c old new stopped idle life down opening number history forced =
      last_is idle down.life life false stopped down.last
      (same_life life.opening down.life.opening life.checkpoint down.life.checkpoint life.history down.life.history life.forced down.life.forced (down.closes.opening ∙ opening) (down.closes.checkpoint ∙ number)
      (down.closes.history ∙ history) (down.closes.forced ∙ forced))
      down.emptied down.stopped_is

  -- without a fault, and this was done with the disk then
  pub ended_state : (events : List DiskEvent) (a c : ControlOnDisk D) (old kept new : Kept) (past : DiskPast) (idle : Idle D) (entries : List Entry) (forced : ℕ) → GoesDown state c kept new false idle → kept.lives ≡ old.lives
      → kept.stops ≡ old.stops → past_with events new.pick ≡ past → c.control.opening ≡ a.control.opening → c.checkpoint ≡ a.checkpoint → c.control.history ≡ a.control.history ++ entries → c.forced ≡ forced
      → session_at events (Down idle) new ≡ state_with (map life_of old.lives.items) old.stops.items past (down_with (forced_to forced (longer (last_up a) entries)) false)
  ended_state events a c old kept new past idle entries forced down lives stops same opening number history forces =
      same_state (map life_of old.lives.items) (map life_of new.lives.items) old.stops.items new.stops.items past (past_with events new.pick)
      (down_with (forced_to forced (longer (last_up a) entries)) false) (StandsDown (outage_of idle))
      (same_kept old new (down.lives ∙ lives)) (down.stops ∙ append-nil kept.stops.items ∙ ap (λ v. v.items) stops) same
      (ap StandsDown (outage_is c kept new false idle (forced_to forced (longer (last_up a) entries)) down opening number history forces))

  -- by a stop, which is cut with the pick that was kept
  pub broken_state : (events : List DiskEvent) (a c : ControlOnDisk D) (old kept new : Kept) (idle : Idle D) (entries : List Entry) → (down : GoesDown state c kept new true idle) → kept.lives ≡ old.lives
      → kept.stops ≡ old.stops → new.pick ≡ 0 → c.control.opening ≡ a.control.opening → c.checkpoint ≡ a.checkpoint → c.control.history ≡ a.control.history ++ entries
      → session_at (events ++ CutWith old.pick ∷ []) (Down idle) new ≡ broken (session_at events (Up a) old) (last_up a) entries c.forced (c.began, (state down.disk).faults)
  broken_state events a c old kept new idle entries down lives stops taken opening number history =
      same_state (map life_of old.lives.items) (map life_of new.lives.items) (old.stops.items ++ (c.began, (state down.disk).faults) ∷ []) new.stops.items
      (past_with (events ++ CutWith old.pick ∷ []) 0) (past_with (events ++ CutWith old.pick ∷ []) new.pick) (down_with (forced_to c.forced (longer (last_up a) entries)) true) (StandsDown (outage_of idle))
      (same_kept old new (down.lives ∙ lives)) (down.stops ∙ ap (λ v. v.items ++ (c.began, (state down.disk).faults) ∷ []) stops) (ap (past_with (events ++ CutWith old.pick ∷ [])) taken)
      (ap StandsDown (outage_is c kept new true idle (forced_to c.forced (longer (last_up a) entries)) down opening number history refl))

-- ---- counts

pub stops_one : (low mid end : ℕ) (stops : List Stop) → AreStops low stops mid → mid ≤ end → (mid + 1 ≤ end) ⊎ (18446744073709551615 ≤ end) → AreStops low (stops ++ (mid, end) ∷ []) end
stops_one low mid end [] h less rose = (sym h, less, rose, refl)
stops_one low mid end ((first, second) ∷ stops) h less rose = (h.0, h.1, h.2, stops_one second mid end stops h.3 less rose)

pub rose_from : (began before now : ℕ) → began ≡ before → Rose before now → (began + 1 ≤ now) ⊎ (18446744073709551615 ≤ now)
rose_from began before now same (inl risen) = inl (omega (arith, same, risen))
rose_from began before now same (inr full) = inr full

-- ---- what is left of a life

-- the state behind a front of its entries that has at least what was forced
pub leaves_since : (system : System) (life : LastLife) (state : LastingState) (front rest : List Entry) → life.history ≡ front ++ rest → state ≡ (life_moment system life front).lasting
    → life.opening.steps + life.forced ≤ state.steps → LifeLeaves system life (state.steps - life.opening.steps) state
leaves_since system life state front rest split is enough = record { front = front; rest = rest; split = split; left = is; counted = refl; enough = omega (arith, enough) }

has_ended : (life : Life) (last : Option Life) → last ≡ Some life → option_map last_life_of last ≡ None → ⊥
has_ended life None is none = cc
has_ended life (Some other) is none = cc

-- of faults it has the disk's alone
disk_by : (up : Bool) (control : ControlState) (forced checkpoint : ℕ) (text : List ℕ) (disk : DiskState) → LastsBy up control forced checkpoint text disk
    → (legal : IsLegal control.system (start_of control.system control.opening) control.history) (entry : Entry) → legal.last ≡ Some entry → is_disk_fault entry ≡ true
disk_by true control forced checkpoint text disk lasts legal entry last = answered_end control.system (start_of control.system control.opening) control.history legal entry last lasts.legal
disk_by false control forced checkpoint text disk lasts legal entry last =
    faulted_end control.system (start_of control.system control.opening) control.history legal entry last lasts.before lasts.entry lasts.all (disk_fault_is lasts.entry lasts.fault)

-- it is legal, with its steps that were answered
pub answered_by : (up : Bool) (control : ControlState) (forced checkpoint : ℕ) (text : List ℕ) (disk : DiskState) (count : ℕ) → LastsBy up control forced checkpoint text disk
    → (legal : IsLegal control.system (start_of control.system control.opening) control.history) → AscendAbove checkpoint control.history
    → control.opening.steps + count ≡ (lasting_after_entries control.system control.opening legal.steps).steps → HasAnswered control.system (life_with control.opening checkpoint control.history forced) count
answered_by up control forced checkpoint text disk count lasts legal numbers counted =
    record { life_is = record { legal = legal; by_disk = disk_by up control forced checkpoint text disk lasts legal; numbers = numbers }; counted = counted }

-- its steps that were answered
pub answered_of : (s s' : System) (o o' : LastingState) (n n' : ℕ) (h h' : List Entry) (f f' count : ℕ) → s ≡ s' → o ≡ o' → n ≡ n' → h ≡ h' → f ≡ f' → HasAnswered s (life_with o n h f) count
    → HasAnswered s' (life_with o' n' h' f') count
answered_of s s' o o' n n' h h' f f' count a b k c g answered =
    subst (λ f. HasAnswered s' (life_with o' n' h' f) count) g
    (subst (λ h. HasAnswered s' (life_with o' n' h f) count) c
    (subst (λ n. HasAnswered s' (life_with o' n h f) count) k (subst (λ o. HasAnswered s' (life_with o n h f) count) b (subst (λ s. HasAnswered s (life_with o n h f) count) a answered))))

-- the number that was told last
same_number : (number : ℕ) (entries : List Entry) → last_checked number entries ≡ last_told number entries
same_number number [] = refl
same_number number (Checked freeze (Ok told) ∷ entries) = same_number told entries
same_number number (Checked freeze (Err refused) ∷ entries) = same_number number entries
same_number number (Accept terminal sent segments answer ∷ entries) = same_number number entries
same_number number (Show terminal answer ∷ entries) = same_number number entries
same_number number (Acked terminal shown answer ∷ entries) = same_number number entries
same_number number (Turn region answer ∷ entries) = same_number number entries
same_number number (Commanded command answer ∷ entries) = same_number number entries
same_number number (Quiet quiet ∷ entries) = same_number number entries

numbered_in : (system : System) (number : ℕ) (entries : List Entry) (image : Image) → IsNumberedFrom system (last_checked number entries) image → IsNumberedFrom system (last_told number entries) image
numbered_in system number entries image h = subst (λ n. IsNumberedFrom system n image) (same_number number entries) h

module _ {D : Type 0} (state : D → DiskState) (system : System) (source : List ℕ) (handed : D) (c : ControlOnDisk D) (system_is : c.control.system ≡ system) where
  -- what the disk holds of it
  recalls : (outage : Outage) (image : Image) (lasting : LastingState) → Recovers c.control.system image (Ok lasting) → LifeLeaves system (last_up c) (lasting.steps - c.control.opening.steps) lasting
      → outage.last ≡ Some (last_up c) → HoldsSession state system source handed (StandsDown outage) image
  recalls outage image lasting recovers leaves last = inl (record {
    state = lasting;
    recovers = subst (λ s. Recovers s image (Ok lasting)) system_is recovers;
    may = (lasting.steps - c.control.opening.steps, inl (subst (λ l. IsStateLeft (session_setting state system source handed) l (lasting.steps - c.control.opening.steps) lasting) (sym last) leaves));
  })

  lasting_in : (entries : List Entry) → lasting_after_entries c.control.system c.control.opening entries ≡ lasting_after_entries system c.control.opening entries
  lasting_in entries = ap (λ s. lasting_after_entries s c.control.opening entries) system_is

  -- behind a front of these entries, and of all with those that follow
  recalls_since : (outage : Outage) (image : Image) (entries more : List Entry) → c.control.history ≡ entries ++ more → RecoversSince c.control.system c.control.opening c.forced entries image → outage.last ≡ Some (last_up c)
      → HoldsSession state system source handed (StandsDown outage) image
  recalls_since outage image entries more all since last =
      let lasting : LastingState = lasting_after_entries c.control.system c.control.opening since.front in
      recalls outage image lasting since.recovers
      (leaves_since system (last_up c) lasting since.front (since.rest ++ more) (all ∙ ap (λ (es : List Entry). es ++ more) since.split ∙ append_assoc since.front since.rest more) (lasting_in since.front) since.enough) last

  images_by : (up : Bool) (outage : Outage) (image : Image) → LastsBy up c.control c.forced c.checkpoint c.text (state c.disk) → (state c.disk).may_leave image → outage.last ≡ Some (last_up c)
      → HoldsSession state system source handed (StandsDown outage) image
  images_by true outage image lasts left last = recalls_since outage image c.control.history [] (sym (append-nil c.control.history)) (lasts.images image left) last
  images_by false outage image lasts left last = recalls_since outage image lasts.before (lasts.entry ∷ []) lasts.all (lasts.images image left) last

  -- and while it is up
  pub up_holds : (up : Bool) → up ≡ true → LastsBy up c.control c.forced c.checkpoint c.text (state c.disk) → (image : Image) → (state c.disk).may_leave image
      → HoldsSession state system source handed (StandsUp (last_up c)) image
  up_holds false is lasts image left = cc
  up_holds true is lasts image left =
      let since : RecoversSince c.control.system c.control.opening c.forced c.control.history image = lasts.images image left in
      let lasting : LastingState = lasting_after_entries c.control.system c.control.opening since.front in
      inl (record {
        state = lasting;
        recovers = subst (λ s. Recovers s image (Ok lasting)) system_is since.recovers;
        may = (lasting.steps - c.control.opening.steps, leaves_since system (last_up c) lasting since.front since.rest since.split (lasting_in since.front) since.enough);
      })

  texts_by : (up : Bool) (image : Image) → LastsBy up c.control c.forced c.checkpoint c.text (state c.disk) → (state c.disk).may_leave image → HasText c.control.system c.text image
  texts_by true image lasts left = lasts.texts image left
  texts_by false image lasts left = lasts.texts image left

  -- its checkpoint's number
  pub numbered_by : (up : Bool) (image : Image) → LastsBy up c.control c.forced c.checkpoint c.text (state c.disk) → (state c.disk).may_leave image → IsNumberedFrom system (last_number (last_up c)) image
  numbered_by true image lasts left = numbered_in system c.checkpoint c.control.history image (subst (λ s. IsNumberedFrom s (last_checked c.checkpoint c.control.history) image) system_is (lasts.numbered image left))
  numbered_by false image lasts left = numbered_in system c.checkpoint c.control.history image (subst (λ s. IsNumberedFrom s (last_checked c.checkpoint c.control.history) image) system_is (lasts.numbered image left))

  -- the end of a life undoes nothing of what it has done
  down_measure : (old new : Kept) (stopped : Bool) (idle : Idle D) → GoesDown state c old new stopped idle → measure (session_at [] (Up c) old) ≤ measure (session_at [] (Down idle) new)
  down_measure old new stopped idle down =
      let lives : lives_measure (map life_of new.lives.items) ≡ lives_measure (map life_of old.lives.items) = ap lives_measure (same_kept old new down.lives) in
      let last : last_measure (option_map last_life_of idle.last) ≡ length down.life.history + 1 = ap (λ (l : Option Life). last_measure (option_map last_life_of l)) down.last in
      let long : length down.life.history ≡ length c.control.history = ap (λ (es : List Entry). length es) down.closes.history in
      let stops : length new.stops.items ≡ length old.stops.items + length (if stopped then (c.began, (state down.disk).faults) ∷ [] else []) =
      ap (λ (s : List Stop). length s) down.stops ∙ length-append old.stops.items (if stopped then (c.began, (state down.disk).faults) ∷ [] else []) in
      omega (arith, lives, last, long, stops)

  down_counts : (old new : Kept) (stopped : Bool) (idle : Idle D) → GoesDown state c old new stopped idle → (high : ℕ) → CountsUp state (high + call_raises * measure (session_at [] (Up c) old) - force_raises) c
      → CountsDown system (high + call_raises * measure (session_at [] (Down idle) new)) (state idle.disk)
  down_counts old new stopped idle down high h image left =
      up_to_more system (high + call_raises * measure (session_at [] (Up c) old) - force_raises + force_raises) (high + call_raises * measure (session_at [] (Down idle) new)) image (omega (arith, down_measure old new stopped idle down))
      (subst (λ (s : System). CountsUpTo s (high + call_raises * measure (session_at [] (Up c) old) - force_raises + force_raises) image) system_is
      (h.images image (subst (λ d. (state d).may_leave image) down.closes.disk_is (down.laid.no_more image left))))

  -- the numbers that were told by then
  numbers_down : (events : List DiskEvent) (old new : Kept) (stopped : Bool) (idle : Idle D) → GoesDown state c old new stopped idle
      → numbers_so_far (session_at events (Down idle) new) ≡ numbers_told (map life_of old.lives.items) ++ numbers_in c.control.history
  numbers_down events old new stopped idle down =
      ap (λ (lives : List LifeState). numbers_told lives ++ numbers_of (option_map last_life_of idle.last)) (same_kept old new down.lives)
      ∙ ap (λ (last : Option Life). numbers_told (map life_of old.lives.items) ++ numbers_of (option_map last_life_of last)) down.last
      ∙ ap (λ (entries : List Entry). numbers_told (map life_of old.lives.items) ++ numbers_in entries) down.closes.history

  -- a life that has ended leaves all sound
  pub down_sound : Only (state handed).shown (state handed) → c.text ≡ source → sectors_needed system ≤ (state handed).size → (events : List DiskEvent) (old new : Kept) (stopped : Bool) (idle : Idle D)
      → AreEvents state system events handed idle.disk → told_numbers events ≡ numbers_told (map life_of old.lives.items) ++ numbers_in c.control.history
      → GoesDown state c old new stopped idle → IsSameDisk (state handed) (state c.disk)
      → AreLegal system (map life_of old.lives.items) → AreStops (state handed).faults new.stops.items (state c.disk).faults
      → IsSystem system → ((high : ℕ) → CountsFirst system high (state handed) → CountsUp state (high + call_raises * measure (session_at [] (Up c) old) - force_raises) c) → IsDownSound state system source handed events idle new
  down_sound alone text_is size events old new stopped idle happened told down same legal stops valid counts =
      let disk : IsSameDisk (state handed) (state down.disk) = subst (λ d. IsSameDisk (state handed) (state d)) (sym down.closes.disk_is) same in
      let faults : (state idle.disk).faults ≡ (state c.disk).faults = down.laid.faults ∙ ap (λ d. (state d).faults) down.closes.disk_is in
      let outage : outage_of idle ≡ outage_with (Some (last_up c)) false stopped = outage_is state c old new stopped idle (last_up c) down refl refl refl refl in
      record {
        handed_alone = alone;
        system_is = down.closes.system_is ∙ system_is;
        text_is = down.closes.text_is ∙ text_is;
        size = λ begun. size;
        texts = λ image left.
            inl (record {
              has_text = subst (λ (t : List ℕ). HasText system t image) text_is (subst (λ (s : System). HasText s c.text image) system_is
                  (texts_by c.up image down.lasts (subst (λ d. (state d).may_leave image) down.closes.disk_is (down.laid.no_more image left))));
              first = λ yet. absurd (has_ended down.life idle.last down.last yet.first);
            });
        same = same_on (state handed) (state down.disk) (state idle.disk) disk down.laid.same;
        stops = subst (λ n. AreStops (state handed).faults new.stops.items n) (sym faults) stops;
        legal = subst (λ l. AreLegal system l) (sym (same_kept old new down.lives)) legal;
        answered = subst (λ l. LastAnswered system (option_map last_life_of l) (kept_steps l)) (sym down.last)
            (answered_of c.control.system system c.control.opening down.life.opening c.checkpoint down.life.checkpoint c.control.history down.life.history c.forced down.life.forced down.life.kept
            system_is (sym down.closes.opening) (sym down.closes.checkpoint) (sym down.closes.history) (sym down.closes.forced) (answered_by c.up c.control c.forced c.checkpoint c.text (state c.disk) down.life.kept down.lasts down.closes.legal down.closes.numbers down.closes.kept));
        images = λ image left. images_by c.up (outage_of idle) image down.lasts (subst (λ d. (state d).may_leave image) down.closes.disk_is (down.laid.no_more image left)) (ap (λ o. o.last) outage);
        numbered = λ image left.
            inr (λ number known.
            subst (λ n. IsNumberedFrom system n image) (sym (subst (λ l. IsKnown (session_setting state system source handed) l number) (ap (λ o. o.last) outage) known))
            (numbered_by c.up image down.lasts (subst (λ d. (state d).may_leave image) down.closes.disk_is (down.laid.no_more image left))));
        valid = valid;
        counts = λ high first. down_counts old new stopped idle down high (counts high first);
        happened = happened;
        told = told ∙ sym (numbers_down events old new stopped idle down);
      }

  -- a stop begins where the one before it had ended
  pub stop_behind : (old new : Kept) (idle : Idle D) (before : ℕ) → (down : GoesDown state c old new true idle) → AreStops (state handed).faults old.stops.items c.began
      → c.began ≡ before → before ≤ (state c.disk).faults → Rose before (state c.disk).faults → AreStops (state handed).faults new.stops.items (state c.disk).faults
  stop_behind old new idle before down stops began more rose =
      let faults : (state down.disk).faults ≡ (state c.disk).faults = ap (λ d. (state d).faults) down.closes.disk_is in
      subst (λ s. AreStops (state handed).faults s (state c.disk).faults) (sym down.stops)
      (subst (λ n. AreStops (state handed).faults (old.stops.items ++ (c.began, n) ∷ []) (state c.disk).faults) (sym faults)
      (stops_one (state handed).faults c.began (state c.disk).faults old.stops.items stops (omega (arith, began, more)) (rose_from c.began before (state c.disk).faults began rose)))

  pub no_stop : (old new : Kept) (idle : Idle D) → GoesDown state c old new false idle → AreStops (state handed).faults old.stops.items c.began
      → c.began ≡ (state c.disk).faults → AreStops (state handed).faults new.stops.items (state c.disk).faults
  no_stop old new idle down stops began =
      subst (λ s. AreStops (state handed).faults s (state c.disk).faults) (sym (down.stops ∙ append-nil old.stops.items))
      (subst (λ n. AreStops (state handed).faults old.stops.items n) began stops)
