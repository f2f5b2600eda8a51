-- What is forced behind a call, and behind an answer that binds.
use Rattle.std.proofs.Common.{◌≡◌, ℕ, ◌+◌, ◌≤◌, ◌<◌, nat_le, Bool, true, false, List, [], ◌∷◌, ◌++◌, length, sym, ◌∙◌, ap, subst, refl, arith}
use Rattle.std.proofs.lemmas.List.{length-append}
use Rattle.std.proofs.lemmas.Bool.{leb-false}
use Rattle.std.proofs.lemmas.Bool.Decides.{nat_tests}
use Rattle.std.specs.Prelude.{Option, Some, None, Ok, Err}
use Rattle.tm_disk.specs.Disk.{DiskState}
use Rattle.model_system.specs.System.{System}
use Rattle.model_machine.specs.declared.entry.Entry.{Entry}
use Rattle.model_machine.specs.declared.entry.Entry.TheVariants.{Accept, Show, Acked, Turn, Commanded, Checked, Quiet}
use Rattle.model_machine.specs.declared.entry.ControlCall.{ControlCall}
use Rattle.model_machine.specs.declared.entry.ControlFault.{ControlFault}
use Rattle.model_machine.specs.declared.entry.InputRefused.TheVariants.{Terminal, StoppedTerminal, Expected, Conversation, Code, StoppedCode, SegmentsOver, QueueFull, Fault as InputFault}
use Rattle.model_machine.specs.declared.entry.AckRefused.TheVariants.{Unknown, Ahead, Fault as AckFault}
use Rattle.model_machine.specs.declared.entry.CommandRefused.TheVariants.{UnknownName, Busy, NoConversation, Fault as CommandFault}
use Rattle.model_machine.specs.declared.entry.CheckpointRefused.TheVariants.{BusyRegion, Fault as CheckpointFault}
use Rattle.model_machine.specs.Machine.{Moment, start_of}
use Rattle.model_machine.specs.History.{ControlState, AddsEntry, AddsNothing, after_entry, control_moment, moment_after}
use Rattle.model_machine.proofs.Histories.{moment_after-append}
use Rattle.model_session.specs.Lives.{binds}
use Rattle.openings.specs.Faults.{fault_in}
use Rattle.tm_control.specs.ControlOnDisk.{ControlOnDisk, IsControlDown, Lasts, LastsBy, front_of}
use Rattle.tm_control.specs.ControlCalls.{AddsBy, Answered as IsAnswered, ForcesBy, ForcesLog}
use Rattle.session_lives.specs.AskedControl.{IsBound, IsForcedBehind}

-- ---- no more lasting steps are forced than there are

most_by : (up : Bool) (control : ControlState) (forced checkpoint : ℕ) (text : List ℕ) (disk : DiskState) → up ≡ true → LastsBy up control forced checkpoint text disk
    → control.opening.steps + forced ≤ (control_moment control).lasting.steps
most_by true control forced checkpoint text disk up lasts = lasts.most
most_by false control forced checkpoint text disk up lasts = cc

pub most_up : {D : Type 0} (state : D → DiskState) (c : ControlOnDisk D) → c.up ≡ true → Lasts state c → c.control.opening.steps + c.forced ≤ (control_moment c.control).lasting.steps
most_up state c up lasts = most_by c.up c.control c.forced c.checkpoint c.text (state c.disk) up lasts

-- so it stands where the disk has failed
pub fails_before : (up : Bool) (control : ControlState) (forced checkpoint : ℕ) (text : List ℕ) (disk : DiskState) → up ≡ false → LastsBy up control forced checkpoint text disk → IsControlDown control forced checkpoint text disk
fails_before false control forced checkpoint text disk down lasts = lasts
fails_before true control forced checkpoint text disk down lasts = cc

-- what is forced behind a call that forces all or nothing, by whether a checkpoint was due
least_due : (P : Type 0) (before after front : ℕ) → before ≤ front → (P → after ≡ before) → ((P → ⊥) → after ≡ front) → before ≤ after
least_due P before after front le spares due = by (nat_le before after) refl where
  by : (b : Bool) → nat_le before after ≡ b → before ≤ after
  by true is = grind (arith, nat_tests, is)
  by false is =
      let less : after < before = leb-false before after is in
      let there : after ≡ front = due (λ p. let same : after ≡ before = spares p in omega (arith, less, same)) in
      omega (arith, less, le, there)

pub least_by : {D : Type 0} (fault : Option ControlFault) (call : ControlCall) (old new : ControlOnDisk D) → old.control.opening.steps + old.forced ≤ (control_moment old.control).lasting.steps → ForcesBy fault call old new
    → old.forced ≤ new.forced
least_by None call old new most forces = least_due _ old.forced new.forced (front_of old.control) (omega (arith, most)) forces.spares forces.due
least_by (Some fault) call old new most forces = omega (arith, forces)

pub bound_least : {D : Type 0} (old new : ControlOnDisk D) → old.forced ≤ new.forced → IsBound false old new
bound_least old new least = record { least = least; all = λ binding. cc }

pub bound_same : {D : Type 0} (old new : ControlOnDisk D) → new.forced ≡ old.forced → IsBound false old new
bound_same old new same = bound_least old new (omega (arith, same))

-- ---- an answer that binds has no fault

pub binds_none : (entry : Entry) → binds entry ≡ true → fault_in entry ≡ None
binds_none (Accept terminal number segments (Ok taken)) e = refl
binds_none (Accept terminal number segments (Err Terminal)) e = refl
binds_none (Accept terminal number segments (Err StoppedTerminal)) e = refl
binds_none (Accept terminal number segments (Err (Expected next))) e = refl
binds_none (Accept terminal number segments (Err (Conversation id))) e = refl
binds_none (Accept terminal number segments (Err Code)) e = refl
binds_none (Accept terminal number segments (Err (StoppedCode code))) e = refl
binds_none (Accept terminal number segments (Err (SegmentsOver count most))) e = refl
binds_none (Accept terminal number segments (Err (QueueFull need limit))) e = refl
binds_none (Accept terminal number segments (Err (InputFault fault))) e = cc
binds_none (Show terminal answer) e = refl
binds_none (Acked terminal number (Ok acked)) e = refl
binds_none (Acked terminal number (Err Unknown)) e = refl
binds_none (Acked terminal number (Err (Ahead first))) e = refl
binds_none (Acked terminal number (Err (AckFault fault))) e = cc
binds_none (Turn region (Ok turned)) e = refl
binds_none (Turn region (Err fault)) e = cc
binds_none (Commanded command (Ok answer)) e = refl
binds_none (Commanded command (Err (UnknownName name))) e = refl
binds_none (Commanded command (Err (Busy id))) e = refl
binds_none (Commanded command (Err NoConversation)) e = refl
binds_none (Commanded command (Err (CommandFault fault))) e = cc
binds_none (Checked freeze (Ok number)) e = refl
binds_none (Checked freeze (Err (BusyRegion region id))) e = refl
binds_none (Checked freeze (Err (CheckpointFault fault))) e = cc
binds_none (Quiet quiet) e = refl

-- so the control region is up behind it
pub up_where_bound : {D : Type 0} (state : D → DiskState) (entry : Entry) (old new : ControlOnDisk D) → AddsBy state (fault_in entry) old new entry → binds entry ≡ true → new.up ≡ true
up_where_bound state entry old new adds binding =
    let answered : IsAnswered state old new entry = subst (λ (fault : Option ControlFault). AddsBy state fault old new entry) (binds_none entry binding) adds in
    answered.up

-- ---- moments

-- nothing was added
pub moment_same : (old new : ControlState) → AddsNothing old new → control_moment new ≡ control_moment old
moment_same old new adds =
    ap (λ (s : System). moment_after s (start_of s new.opening) new.history) adds.system
    ∙ ap (λ o. moment_after old.system (start_of old.system o) new.history) adds.opening
    ∙ ap (moment_after old.system (start_of old.system old.opening)) adds.history

moment_one : (old new : ControlState) (entry : Entry) → AddsEntry old new entry → control_moment new ≡ after_entry old.system (control_moment old) entry
moment_one old new entry adds =
    ap (λ (s : System). moment_after s (start_of s new.opening) new.history) adds.system
    ∙ ap (λ o. moment_after old.system (start_of old.system o) new.history) adds.opening
    ∙ ap (moment_after old.system (start_of old.system old.opening)) adds.history
    ∙ moment_after-append old.system (start_of old.system old.opening) old.history entry

-- a checkpoint is no lasting step
pub front_checked : (old new : ControlState) (freeze : Bool) (number : ℕ) → AddsEntry old new (Checked freeze (Ok number)) → front_of new ≡ front_of old
front_checked old new freeze number adds =
    let steps : (control_moment new).lasting.steps ≡ (control_moment old).lasting.steps = ap (λ (m : Moment). m.lasting.steps) (moment_one old new (Checked freeze (Ok number)) adds) in
    omega (arith, steps, ap (λ o. o.steps) adds.opening)

-- ---- all is forced

module _ {D : Type 0} (state : D → DiskState) (old new : ControlOnDisk D) (up : old.up ≡ true) (lasts : Lasts state old) where
  pub forced_behind : ForcesLog state old new → IsForcedBehind state old new
  forced_behind forces =
      let steps : (control_moment new.control).lasting.steps ≡ (control_moment old.control).lasting.steps = ap (λ (m : Moment). m.lasting.steps) (moment_same old.control new.control forces.adds) in
      record {
        adds = forces.adds;
        least = omega (arith, most_up state old up lasts, forces.all);
        all = omega (arith, forces.all, steps, ap (λ o. o.steps) forces.adds.opening);
        databases = forces.databases;
        units = forces.units;
        next_unit = forces.next_unit;
        up = forces.up;
        no_fault = forces.no_fault;
      }

-- nothing waited
pub forced_already : {D : Type 0} (state : D → DiskState) (c : ControlOnDisk D) → c.up ≡ true → Lasts state c → front_of c.control ≤ c.forced → IsForcedBehind state c c
forced_already state c up lasts all = record {
  adds = record { system = refl; opening = refl; history = refl };
  least = omega arith;
  all = omega (arith, all, most_up state c up lasts);
  databases = refl;
  units = refl;
  next_unit = refl;
  up = up;
  no_fault = refl;
}

pub history_one : (old new : ControlState) (entry : Entry) → new.history ≡ old.history ++ entry ∷ [] → length old.history ≤ length new.history
history_one old new entry added = omega (arith, ap (λ (es : List Entry). length es) added, length-append old.history (entry ∷ []))

-- ---- an answer, and all forced behind it

module _ {D : Type 0} (state : D → DiskState) (old now new : ControlOnDisk D) (entry : Entry) (answered : IsAnswered state old now entry) (behind : IsForcedBehind state now new) where
  -- what the call left, but for the log and the disk
  abbrev left : ControlOnDisk D
  left = record new {
    control = record now.control { room = new.control.room };
    up = now.up;
    databases = now.databases;
    units = now.units;
    next_unit = now.next_unit;
  }

  left_is : left ≡ new
  left_is = λ i. record new {
    control = record {
      system = sym behind.adds.system i;
      opening = sym behind.adds.opening i;
      history = sym behind.adds.history i;
      room = new.control.room;
    };
    up = (answered.up ∙ sym behind.up) i;
    databases = sym behind.databases i;
    units = sym behind.units i;
    next_unit = sym behind.next_unit i;
  }

  answered_left : IsAnswered state old left entry
  answered_left = record {
    adds = record { system = answered.adds.system; opening = answered.adds.opening; history = answered.adds.history; may = answered.adds.may };
    numbers = answered.numbers;
    acts = answered.acts;
    up = answered.up;
    no_fault = behind.no_fault ∙ answered.no_fault;
  }

  pub answered_behind : IsAnswered state old new entry
  answered_behind = subst (λ (c : ControlOnDisk D). IsAnswered state old c entry) left_is answered_left

-- ---- the front of a list that has one more

none_left : (entry : Entry) (entries : List Entry) → [] ≡ entries ++ entry ∷ [] → ⊥
none_left entry [] e = cc
none_left entry (next ∷ entries) e = cc

tail_is : (x y : Entry) (xs ys : List Entry) → x ∷ xs ≡ y ∷ ys → xs ≡ ys
tail_is x y xs ys e = cc

head_is : (x y : Entry) (xs ys : List Entry) → x ∷ xs ≡ y ∷ ys → x ≡ y
head_is x y xs ys e = cc

pub front_is : (xs ys : List Entry) (x y : Entry) → xs ++ x ∷ [] ≡ ys ++ y ∷ [] → xs ≡ ys
front_is [] [] x y e = refl
front_is [] (first ∷ ys) x y e = absurd (none_left y ys (tail_is x first [] (ys ++ y ∷ []) e))
front_is (first ∷ xs) [] x y e = absurd (none_left x xs (sym (tail_is first y (xs ++ x ∷ []) [] e)))
front_is (first ∷ xs) (second ∷ ys) x y e =
    ap (λ head. head ∷ xs) (head_is first second (xs ++ x ∷ []) (ys ++ y ∷ []) e)
    ∙ ap (λ rest. second ∷ rest) (front_is xs ys x y (tail_is first second (xs ++ x ∷ []) (ys ++ y ∷ []) e))
