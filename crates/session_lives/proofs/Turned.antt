-- Turns that were done, and how they end.
use Rattle.std.proofs.Common.{◌≡◌, ℕ, ◌+◌, ◌≤◌, ◌<◌, Bool, true, false, List, [], ◌∷◌, ◌++◌, length, sym, ◌∙◌, ap, subst, refl, arith, append_assoc, length-append, zero-add}
use Rattle.std.proofs.lemmas.List.{append-nil}
use Rattle.std.specs.Prelude.{Ok, Err}
use Rattle.tm_disk.specs.Disk.{DiskState, Rose}
use Rattle.model_system.specs.System.{System}
use Rattle.model_machine.specs.declared.entry.Entry.{Entry}
use Rattle.model_machine.specs.declared.entry.Entry.TheVariants.{Turn as TurnEntry}
use Rattle.model_machine.specs.declared.entry.ControlCall.TheVariants.{Turn}
use Rattle.model_machine.specs.Machine.{Moment, start_of}
use Rattle.model_machine.specs.MachineCalls.{is_machine_quiet}
use Rattle.model_machine.specs.History.{ControlState, AddsEntry, AddsNothing, May, AreSteps, IsCall, call_of, control_moment, after_entry, moment_after}
use Rattle.model_session.specs.QuietTurns.{region_behind_turns, IsBrokenOff}
use Rattle.model_session.proofs.Turning.{AreTurns-append}
use Rattle.model_machine.specs.declared.entry.Turned.{Turned}
use Rattle.model_machine.specs.declared.entry.ControlFault.TheVariants.{Disk}
use Rattle.tm_control.specs.ControlOnDisk.{ControlOnDisk}
use Rattle.tm_control.specs.ControlCalls.{StaysSo, Answered, BrokeOff, AddedNothing}
use Rattle.model_session.specs.Lives.{is_disk_fault}
use Rattle.session_lives.specs.AskedControl.{AddsEntries, FailsTurning, TurnsStand}
use Rattle.session_lives.specs.RegionTurns.{TurnsSoFar, HasEnded}
use Rattle.session_lives.specs.ControlCounts.{KeepsPace}
use Rattle.session_lives.proofs.Asked.{stays_so, stays_so_on}
use Rattle.session_lives.proofs.Bound.{bound_least, bound_same}
use Rattle.session_lives.proofs.Counting.{pace_none, pace_on}

-- where entries behind others lead
pub moment_behind : (system : System) (moment : Moment) (entries more : List Entry)
    → moment_after system moment (entries ++ more) ≡ moment_after system (moment_after system moment entries) more
moment_behind system moment [] more = refl
moment_behind system moment (entry ∷ entries) more = moment_behind system (after_entry system moment entry) entries more

-- where entries that were added lead
pub now_behind : (old new : ControlState) (entries : List Entry) → AddsEntries old new entries → control_moment new ≡ moment_after old.system (control_moment old) entries
now_behind old new entries adds =
    ap (λ s. moment_after s (start_of s new.opening) new.history) adds.system
    ∙ ap (λ o. moment_after old.system (start_of old.system o) new.history) adds.opening
    ∙ ap (moment_after old.system (start_of old.system old.opening)) adds.history
    ∙ moment_behind old.system (start_of old.system old.opening) old.history entries

pub adds_nothing : (old new : ControlState) → AddsNothing old new → AddsEntries old new []
adds_nothing old new nothing = record { system = nothing.system; opening = nothing.opening; history = nothing.history ∙ sym (append-nil old.history) }

pub adds_twice : (old now new : ControlState) (entries more : List Entry) → AddsEntries old now entries → AddsEntries now new more → AddsEntries old new (entries ++ more)
adds_twice old now new entries more first second = record {
  system = second.system ∙ first.system;
  opening = second.opening ∙ first.opening;
  history = second.history ∙ ap (λ h. h ++ more) first.history ∙ append_assoc old.history entries more;
}

pub adds_one : (old new : ControlState) (entry : Entry) → AddsEntry old new entry → AddsEntries old new (entry ∷ [])
adds_one old new entry adds = record { system = adds.system; opening = adds.opening; history = adds.history }

-- steps behind others
pub steps_on : (system : System) (moment : Moment) (entries more : List Entry) → AreSteps system moment entries
    → AreSteps system (moment_after system moment entries) more → AreSteps system moment (entries ++ more)
steps_on system moment [] more first second = second
steps_on system moment (entry ∷ entries) more first second = (first.0, steps_on system (after_entry system moment entry) entries more first.1 second)

-- ---- turns, one after another

module _ {D : Type 0} (state : D → DiskState) where
  pub turns_none : (old : ControlOnDisk D) → old.up ≡ true → TurnsSoFar state 0 old old
  turns_none old up = record {
    entries = [];
    adds = adds_nothing old.control old.control (record { system = refl; opening = refl; history = refl });
    steps = tt;
    turns = tt;
    counted = refl;
    forced = bound_same old old refl;
    up = up;
    no_fault = refl;
    stays = stays_so state old;
    pace = pace_none state old;
  }

  -- something is left to do behind the turns so far
  still_left : (quiet : Bool) (count : ℕ) (old now : ControlOnDisk D) (far : TurnsSoFar state count old now) → is_machine_quiet now.control.system (control_moment now.control) ≡ quiet
      → is_machine_quiet old.control.system (moment_after old.control.system (control_moment old.control) far.entries) ≡ quiet
  still_left quiet count old now far left =
      let here : control_moment now.control ≡ moment_after old.control.system (control_moment old.control) far.entries = now_behind old.control now.control far.entries far.adds in
      sym (ap (λ s. is_machine_quiet s (moment_after old.control.system (control_moment old.control) far.entries)) far.adds.system) ∙ sym (ap (is_machine_quiet now.control.system) here) ∙ left

  -- the region that turns next
  next_region : (count : ℕ) (old now : ControlOnDisk D) (far : TurnsSoFar state count old now)
      → region_behind_turns now.control.system count ≡ region_behind_turns old.control.system (length far.entries)
  next_region count old now far = ap (λ s. region_behind_turns s count) far.adds.system ∙ ap (region_behind_turns old.control.system) (sym far.counted)

  may_behind : (count : ℕ) (old now : ControlOnDisk D) (entry : Entry) (far : TurnsSoFar state count old now) → May now.control.system (control_moment now.control) entry
      → AreSteps old.control.system (control_moment old.control) (far.entries ++ entry ∷ [])
  may_behind count old now entry far may =
      let here : control_moment now.control ≡ moment_after old.control.system (control_moment old.control) far.entries = now_behind old.control now.control far.entries far.adds in
      steps_on old.control.system (control_moment old.control) far.entries (entry ∷ []) far.steps
      (subst (λ m. May old.control.system m entry) here (subst (λ s. May s (control_moment now.control) entry) far.adds.system may), tt)

  pub turns_next : (count : ℕ) (old now new : ControlOnDisk D) (turned : Turned)
      → TurnsSoFar state count old now → is_machine_quiet now.control.system (control_moment now.control) ≡ false
      → Answered state now new (TurnEntry (region_behind_turns now.control.system count) (Ok turned)) → StaysSo state now new → KeepsPace state now new → now.forced ≤ new.forced
      → TurnsSoFar state (count + 1) old new
  turns_next count old now new turned far left answered stays pace least =
      let entry : Entry = TurnEntry (region_behind_turns now.control.system count) (Ok turned) in
      record {
        entries = far.entries ++ entry ∷ [];
        adds = adds_twice old.control now.control new.control far.entries (entry ∷ []) far.adds (adds_one now.control new.control entry answered.adds);
        steps = may_behind count old now entry far answered.adds.may;
        turns = AreTurns-append old.control.system entry far.entries 0 (control_moment old.control) far.turns (still_left false count old now far left)
            (ap Turn (next_region count old now far) ∙ ap (λ n. Turn (region_behind_turns old.control.system n)) (sym (zero-add (length far.entries))));
        counted = length-append far.entries (entry ∷ []) ∙ ap (λ n. n + 1) far.counted;
        forced = bound_least old new (omega (arith, far.forced.least, least));
        up = answered.up;
        no_fault = answered.no_fault ∙ far.no_fault;
        stays = stays_so_on state old now new far.stays stays;
        pace = pace_on state old now new far.stays far.pace pace;
      }

  -- the turn of a region that is the next one
  pub turned_next : (count : ℕ) (old now new : ControlOnDisk D) (turned : Turned) (region : ℕ) → TurnsSoFar state count old now → is_machine_quiet now.control.system (control_moment now.control) ≡ false
      → region ≡ region_behind_turns now.control.system count → Answered state now new (TurnEntry region (Ok turned)) → StaysSo state now new → KeepsPace state now new → now.forced ≤ new.forced
      → TurnsSoFar state (count + 1) old new
  turned_next count old now new turned region far left next answered stays pace least =
      turns_next count old now new turned far left (subst (λ r. Answered state now new (TurnEntry r (Ok turned))) next answered) stays pace least

  -- the turns end where nothing is left to do, or with the last
  pub turns_end : (most count : ℕ) (quiet : Bool) (old new : ControlOnDisk D) → TurnsSoFar state count old new → count ≤ most
      → is_machine_quiet new.control.system (control_moment new.control) ≡ quiet → (quiet ≡ false → count ≡ most) → HasEnded state most count quiet old new
  turns_end most count quiet old new far few now last =
      let still : is_machine_quiet old.control.system (moment_after old.control.system (control_moment old.control) far.entries) ≡ quiet = still_left quiet count old new far now in
      record {
        entries = far.entries;
        adds = far.adds;
        steps = far.steps;
        quieted = record { turns = far.turns; few = subst (λ n. n ≤ most) (sym far.counted) few; ended = λ left. far.counted ∙ last (sym still ∙ left) };
        counted = far.counted;
        forced = far.forced;
        left = still;
        up = far.up;
        no_fault = far.no_fault;
      }

  broken_off : (most count : ℕ) (old now : ControlOnDisk D) (far : TurnsSoFar state count old now) → count < most → is_machine_quiet now.control.system (control_moment now.control) ≡ false
      → IsBrokenOff most old.control.system (control_moment old.control) far.entries
  broken_off most count old now far few left =
      record { turns = far.turns; few = subst (λ n. n + 1 ≤ most) (sym far.counted) (omega arith); left = still_left false count old now far left }

  -- or they break off
  pub turns_stand : (most count : ℕ) (old now new : ControlOnDisk D) → TurnsSoFar state count old now → count < most
      → is_machine_quiet now.control.system (control_moment now.control) ≡ false → AddedNothing state now new → new.forced ≡ now.forced → TurnsStand state most old new
  turns_stand most count old now new far few left nothing same = record {
    turns = far.entries;
    adds = record {
      system = nothing.adds.system ∙ far.adds.system;
      opening = nothing.adds.opening ∙ far.adds.opening;
      history = nothing.adds.history ∙ far.adds.history;
    };
    steps = far.steps;
    begun = broken_off most count old now far few left;
    forced = bound_least old new (omega (arith, far.forced.least, same));
    up = nothing.up;
    no_fault = nothing.no_fault ∙ far.no_fault;
  }

  -- or the disk fails in one
  pub turns_fail : (most count : ℕ) (old now new : ControlOnDisk D) (entry : Entry) → TurnsSoFar state count old now → count < most
      → is_machine_quiet now.control.system (control_moment now.control) ≡ false → call_of entry ≡ Turn (region_behind_turns now.control.system count) → is_disk_fault entry ≡ true
      → BrokeOff state now new entry → new.forced ≡ now.forced → FailsTurning state most old new
  turns_fail most count old now new entry far few left asked fault broke same = record {
    turns = far.entries;
    entry = entry;
    history = broke.history ∙ ap (λ h. h ++ entry ∷ []) far.adds.history ∙ append_assoc old.control.history far.entries (entry ∷ []);
    steps = far.steps;
    begun = broken_off most count old now far few left;
    asked = asked ∙ ap Turn (next_region count old now far);
    can = subst (λ s. IsCall s (call_of entry)) far.adds.system broke.call;
    fault = fault;
    forced = bound_least old new (omega (arith, far.forced.least, same));
    down = broke.down;
    failed = subst (λ n. Rose n (state new.disk).faults) far.no_fault broke.failed;
  }

  pub turned_fails : (most count : ℕ) (old now new : ControlOnDisk D) (region : ℕ) → TurnsSoFar state count old now → count < most
      → is_machine_quiet now.control.system (control_moment now.control) ≡ false → region ≡ region_behind_turns now.control.system count
      → BrokeOff state now new (TurnEntry region (Err Disk)) → new.forced ≡ now.forced → FailsTurning state most old new
  turned_fails most count old now new region far few left next broke same =
      turns_fail most count old now new (TurnEntry region (Err Disk)) far few left (ap Turn next) refl broke same
