-- What was asked of a control region, by the fault that its call met.
use Rattle.std.proofs.Common.{◌≡◌, ℕ, ◌+◌, ◌≤◌, Bool, true, false, List, [], ◌∷◌, ◌++◌, sym, ◌∙◌, ap, subst, refl, arith, inl, inr, append_assoc}
use Rattle.std.specs.Prelude.{◌↔◌, IfOk, OnOk, OnErr, IsTrue, Option, Some, None, Result, Ok, Err}
use Rattle.tm_disk.specs.Disk.{DiskState, Only, Rose}
use Rattle.tm_disk.proofs.Words.{stays_same, stays_on}
use Rattle.model_machine.specs.declared.entry.Entry.{Entry}
use Rattle.model_machine.specs.declared.entry.Entry.TheVariants.{Accept, Show, Acked, Turn, Commanded, Checked, Quiet}
use Rattle.model_machine.specs.declared.entry.ControlCall.TheVariants.{Checkpoint as CheckpointCall}
use Rattle.model_machine.specs.declared.entry.ControlFault.{ControlFault}
use Rattle.model_machine.specs.declared.entry.ControlFault.TheVariants.{Memory as NoMemory, Disk, Spent as SpentCounter}
use Rattle.model_machine.specs.declared.entry.InputRefused.TheVariants.{Terminal, StoppedTerminal, Expected, Conversation, Code, StoppedCode, SegmentsOver, QueueFull, Fault as InputFault}
use Rattle.model_machine.specs.declared.entry.AckRefused.TheVariants.{Unknown, Ahead, Fault as AckFault}
use Rattle.model_machine.specs.declared.entry.CommandRefused.TheVariants.{UnknownName, Busy, NoConversation, Fault as CommandFault}
use Rattle.model_machine.specs.declared.entry.CheckpointRefused.{CheckpointRefused}
use Rattle.model_machine.specs.declared.entry.CheckpointRefused.TheVariants.{BusyRegion, Fault as CheckpointFault}
use Rattle.model_machine.specs.History.{May, call_of, control_moment}
use Rattle.model_system.specs.System.{System}
use Rattle.model_session.specs.declared.asked.Asked.TheVariants.{Call}
use Rattle.model_session.specs.Text.{entry_text, checkpoint_text}
use Rattle.openings.specs.Faults.{fault_in}
use Rattle.model_machine.specs.declared.counts.Counter.{Counter}
use Rattle.tm_control.specs.ControlOnDisk.{ControlOnDisk, Lasts, control_spent_now, front_of}
use Rattle.tm_control.specs.ControlCalls.{StaysSo, AddsBy, Answered as IsAnswered, AddedNothing, ForcesBy, TellsSpent, StaysSpent}
use Rattle.session_lives.specs.declared.called.Called.{Called}
use Rattle.session_lives.specs.declared.called.Called.TheVariants.{Answered, Frozen, Power, Broke, Memory, Spent}
use Rattle.model_session.specs.Lives.{binds, ends_life, failed_force, is_disk_fault}
use Rattle.session_lives.specs.ToldNumbers.{numbers_in, ShowsNumber, ShowsTold}
use Rattle.session_lives.specs.AskedControl.{called_by, call_ended_by, BindsBy, CallLooks, DidNothing, IsBoundSo, IsSpentUp, IsAsked}
use Rattle.session_lives.proofs.Bound.{answered_behind, binds_none, bound_least, bound_same, front_checked, least_by, most_up}

-- an entry with the fault of the disk
pub disk_fault_is : (entry : Entry) → fault_in entry ≡ Some Disk → is_disk_fault entry ≡ true
disk_fault_is (Accept terminal number segments (Err (InputFault Disk))) e = refl
disk_fault_is (Accept terminal number segments (Err (InputFault NoMemory))) e = cc
disk_fault_is (Accept terminal number segments (Err (InputFault (SpentCounter counter)))) e = cc
disk_fault_is (Accept terminal number segments (Ok taken)) e = cc
disk_fault_is (Accept terminal number segments (Err Terminal)) e = cc
disk_fault_is (Accept terminal number segments (Err StoppedTerminal)) e = cc
disk_fault_is (Accept terminal number segments (Err (Expected next))) e = cc
disk_fault_is (Accept terminal number segments (Err (Conversation id))) e = cc
disk_fault_is (Accept terminal number segments (Err Code)) e = cc
disk_fault_is (Accept terminal number segments (Err (StoppedCode code))) e = cc
disk_fault_is (Accept terminal number segments (Err (SegmentsOver count most))) e = cc
disk_fault_is (Accept terminal number segments (Err (QueueFull need limit))) e = cc
disk_fault_is (Show terminal answer) e = cc
disk_fault_is (Acked terminal number (Err (AckFault Disk))) e = refl
disk_fault_is (Acked terminal number (Err (AckFault NoMemory))) e = cc
disk_fault_is (Acked terminal number (Err (AckFault (SpentCounter counter)))) e = cc
disk_fault_is (Acked terminal number (Ok acked)) e = cc
disk_fault_is (Acked terminal number (Err Unknown)) e = cc
disk_fault_is (Acked terminal number (Err (Ahead first))) e = cc
disk_fault_is (Turn region (Err Disk)) e = refl
disk_fault_is (Turn region (Err NoMemory)) e = cc
disk_fault_is (Turn region (Err (SpentCounter counter))) e = cc
disk_fault_is (Turn region (Ok turned)) e = cc
disk_fault_is (Commanded command (Err (CommandFault Disk))) e = refl
disk_fault_is (Commanded command (Err (CommandFault NoMemory))) e = cc
disk_fault_is (Commanded command (Err (CommandFault (SpentCounter counter)))) e = cc
disk_fault_is (Commanded command (Ok answer)) e = cc
disk_fault_is (Commanded command (Err (UnknownName name))) e = cc
disk_fault_is (Commanded command (Err (Busy id))) e = cc
disk_fault_is (Commanded command (Err NoConversation)) e = cc
disk_fault_is (Checked freeze (Err (CheckpointFault Disk))) e = refl
disk_fault_is (Checked freeze (Err (CheckpointFault NoMemory))) e = cc
disk_fault_is (Checked freeze (Err (CheckpointFault (SpentCounter counter)))) e = cc
disk_fault_is (Checked freeze (Ok number)) e = cc
disk_fault_is (Checked freeze (Err (BusyRegion region id))) e = cc
disk_fault_is (Quiet quiet) e = cc

-- ---- counters

-- a call with a fault looked at counters
pub fault_looks : (entry : Entry) (fault : ControlFault) → fault_in entry ≡ Some fault → CallLooks (call_of entry)
fault_looks (Accept terminal number segments answer) fault e = tt
fault_looks (Show terminal answer) fault e = cc
fault_looks (Acked terminal number answer) fault e = tt
fault_looks (Turn region answer) fault e = tt
fault_looks (Commanded command answer) fault e = tt
fault_looks (Checked freeze answer) fault e = tt
fault_looks (Quiet quiet) fault e = cc

module _ {D : Type 0} (old new : ControlOnDisk D) where
  spent_of : (counter : Counter) (was : Option Counter) → control_spent_now old ≡ was → TellsSpent was (Some (SpentCounter counter)) → IsSpentUp old
  spent_of counter (Some other) is by = record { counter = other; spent = is }
  spent_of counter None is by = absurd (by counter refl)

  -- a call told of a counter that is spent
  pub spent_up : (counter : Counter) → TellsSpent (control_spent_now old) (Some (SpentCounter counter)) → StaysSpent (Some (SpentCounter counter)) old new → IsSpentUp new
  spent_up counter by same = subst (λ (c : ControlOnDisk D). IsSpentUp c) (sym same) (spent_of counter (control_spent_now old) refl by)

-- ---- calls

no_fault_too : (met : Option ControlFault) (fault : ControlFault) → met ≡ None → met ≡ Some fault → ⊥
no_fault_too met fault none some = cc

no_true : true ≡ false → ⊥
no_true e = cc

module _ {D : Type 0} (state : D → DiskState) where
  did_nothing : (old new : ControlOnDisk D) → AddedNothing state old new → new.forced ≡ old.forced → DidNothing state old new
  did_nothing old new added same = record { adds = added.adds; forced = same; up = added.up; no_fault = added.no_fault }

  -- a call whose text doesn't bind
  asked_loose : (fault : Option ControlFault) (entry : Entry) (old new : ControlOnDisk D) (text : List ℕ) → ends_life entry ≡ false → binds entry ≡ false → fault_in entry ≡ fault
      → TellsSpent (control_spent_now old) fault → StaysSpent fault old new
      → AddsBy state fault old new entry → old.control.opening.steps + old.forced ≤ (control_moment old.control).lasting.steps → ForcesBy fault (call_of entry) old new
      → (May old.control.system (control_moment old.control) entry → text ≡ entry_text old.control.system (control_moment old.control) entry)
      → ShowsTold new.control.system entry (state new.disk)
      → IsAsked state (Call (call_of entry)) old new text (called_by fault)
  asked_loose None entry old new text on loose is spent same adds most forces printed told = record {
    entry = entry;
    asked = refl;
    answered = adds;
    goes_on = on;
    forced = record { least = least_by None (call_of entry) old new most forces; all = λ binding. absurd (no_true (sym binding ∙ loose)) };
    printed = printed adds.adds.may;
    told = told;
  }
  asked_loose (Some Disk) entry old new text on loose is spent same adds most forces printed told = inl (record { entry = entry; asked = refl; fault = disk_fault_is entry is; forced = forces; broke = adds })
  asked_loose (Some NoMemory) entry old new text on loose is spent same adds most forces printed told = did_nothing old new adds forces
  asked_loose (Some (SpentCounter counter)) entry old new text on loose is spent same adds most forces printed told =
      (did_nothing old new adds forces, spent_up old new counter spent same, fault_looks entry (SpentCounter counter) is)

  -- one whose text binds, behind the force
  module _ (entry : Entry) (old now : ControlOnDisk D) (text : List ℕ) (on : ends_life entry ≡ false) (binding : binds entry ≡ true) (silent : numbers_in (entry ∷ []) ≡ []) (answered : IsAnswered state old now entry)
      (least : old.forced ≤ now.forced) (printed : text ≡ entry_text old.control.system (control_moment old.control) entry) (told : (system : System) (disk : DiskState) → ShowsTold system entry disk) where
    asked_bound : (called : Called) (new : ControlOnDisk D) → IsBoundSo state called now new → IsAsked state (Call (call_of entry)) old new text called
    asked_bound Answered new behind = record {
      entry = entry;
      asked = refl;
      answered = answered_behind state old now new entry answered behind;
      goes_on = on;
      forced = record { least = omega (arith, least, behind.least); all = λ bound. behind.all };
      printed = printed;
      told = told new.control.system (state new.disk);
    }
    asked_bound Broke new fails = inr (record {
      entry = entry;
      asked = refl;
      may = answered.adds.may;
      bound = binding;
      silent = silent;
      history = fails.broke.history ∙ ap (λ (es : List Entry). es ++ failed_force ∷ []) answered.adds.history ∙ append_assoc old.control.history (entry ∷ []) (failed_force ∷ []);
      forced = bound_least old new (omega (arith, least, fails.forced));
      down = fails.broke.down;
      failed = subst (λ n. Rose n (state new.disk).faults) answered.no_fault fails.broke.failed;
    })
    asked_bound Frozen new never = absurd never
    asked_bound (Power pick) new never = absurd never
    asked_bound Memory new never = absurd never
    asked_bound Spent new never = absurd never

  asked_by : (binding : Bool) (fault : Option ControlFault) (entry : Entry) (old now new : ControlOnDisk D) (text : List ℕ) (called after : Called) → ends_life entry ≡ false → binds entry ≡ binding → fault_in entry ≡ fault
      → called ≡ called_by fault → TellsSpent (control_spent_now old) fault → StaysSpent fault old now
      → AddsBy state fault old now entry → old.control.opening.steps + old.forced ≤ (control_moment old.control).lasting.steps → ForcesBy fault (call_of entry) old now
      → (May old.control.system (control_moment old.control) entry → text ≡ entry_text old.control.system (control_moment old.control) entry)
      → numbers_in (entry ∷ []) ≡ [] → ((system : System) (disk : DiskState) → ShowsTold system entry disk) → BindsBy state binding called after now new
      → IsAsked state (Call (call_of entry)) old new text after
  asked_by false fault entry old now new text called after on loose is how spent same adds most forces printed silent told bound =
      subst (λ (a : Called). IsAsked state (Call (call_of entry)) old new text a) (sym (bound.0 ∙ how))
      (subst (λ (c : ControlOnDisk D). IsAsked state (Call (call_of entry)) old c text (called_by fault)) (sym bound.1)
      (asked_loose fault entry old now text on loose is spent same adds most forces printed (told now.control.system (state now.disk))))
  asked_by true None entry old now new text called after on binding is how spent same adds most forces printed silent told bound =
      asked_bound entry old now text on binding silent adds (least_by None (call_of entry) old now most forces) (printed adds.adds.may) told after new bound
  asked_by true (Some fault) entry old now new text called after on binding is how spent same adds most forces printed silent told bound =
      absurd (no_fault_too (fault_in entry) fault (binds_none entry binding) is)

  -- A call that was made and ends no life, with what is printed where it was answered, and then what was forced where that binds.
  pub asked_call : (entry : Entry) (old now new : ControlOnDisk D) (text : List ℕ) (called after : Called) → ends_life entry ≡ false → called ≡ called_by (fault_in entry)
      → TellsSpent (control_spent_now old) (fault_in entry) → StaysSpent (fault_in entry) old now
      → AddsBy state (fault_in entry) old now entry → old.up ≡ true → Lasts state old → ForcesBy (fault_in entry) (call_of entry) old now
      → (May old.control.system (control_moment old.control) entry → text ≡ entry_text old.control.system (control_moment old.control) entry)
      → numbers_in (entry ∷ []) ≡ [] → ((system : System) (disk : DiskState) → ShowsTold system entry disk) → BindsBy state (binds entry) called after now new
      → IsAsked state (Call (call_of entry)) old new text after
  asked_call entry old now new text called after on how spent same adds up lasts forces printed silent told bound =
      asked_by (binds entry) (fault_in entry) entry old now new text called after on refl refl how spent same adds (most_up state old up lasts) forces printed silent told bound

  -- a call that met a fault
  pub asked_fault : (fault : ControlFault) (entry : Entry) (old new : ControlOnDisk D) (text : List ℕ) (called : Called) → fault_in entry ≡ Some fault
      → called ≡ called_by (Some fault) → TellsSpent (control_spent_now old) (Some fault) → StaysSpent (Some fault) old new → AddsBy state (Some fault) old new entry → new.forced ≡ old.forced
      → IsAsked state (Call (call_of entry)) old new text called
  asked_fault Disk entry old new text called is how spent same adds forces =
      subst (λ c. IsAsked state (Call (call_of entry)) old new text c) (sym how) (inl (record { entry = entry; asked = refl; fault = disk_fault_is entry is; forced = forces; broke = adds }))
  asked_fault NoMemory entry old new text called is how spent same adds forces =
      subst (λ c. IsAsked state (Call (call_of entry)) old new text c) (sym how) (did_nothing old new adds forces)
  asked_fault (SpentCounter counter) entry old new text called is how spent same adds forces =
      subst (λ c. IsAsked state (Call (call_of entry)) old new text c) (sym how) (did_nothing old new adds forces, spent_up old new counter spent same, fault_looks entry (SpentCounter counter) is)

  -- a checkpoint, by its answer; the disk shows its number, and behind a freeze a crash leaves the shown disk alone
  checked_by : {P : ℕ → Type 0} (freeze : Bool) (answer : Result ℕ CheckpointRefused) (old new : ControlOnDisk D) (text : List ℕ) → old.control.opening.steps + old.forced ≤ (control_moment old.control).lasting.steps
      → TellsSpent (control_spent_now old) (fault_in (Checked freeze answer)) → StaysSpent (fault_in (Checked freeze answer)) old new
      → AddsBy state (fault_in (Checked freeze answer)) old new (Checked freeze answer) → OnOk answer (new.forced ≡ front_of old.control) → OnErr answer (new.forced ≡ old.forced)
      → IfOk answer P → ((number : ℕ) → P number → Only (state new.disk).shown (state new.disk))
      → ((number : ℕ) → P number → ShowsNumber new.control.system number (state new.disk))
      → text ≡ checkpoint_text freeze answer → IsAsked state (Call (CheckpointCall freeze)) old new text (call_ended_by (ends_life (Checked freeze answer)) (fault_in (Checked freeze answer)))
  checked_by true (Ok number) old new text most spent same adds all as_before taken only shows printed =
      record {
        entry = Checked true (Ok number);
        asked = refl;
        answered = adds;
        ends = refl;
        forced = record { least = omega (arith, most, all); all = λ binding. all ∙ sym (front_checked old.control new.control true number adds.adds) };
        printed = printed;
        only = only number taken;
        told = shows number taken;
      }
  checked_by false (Ok number) old new text most spent same adds all as_before taken only shows printed =
      record {
        entry = Checked false (Ok number);
        asked = refl;
        answered = adds;
        goes_on = refl;
        forced = record { least = omega (arith, most, all); all = λ binding. all ∙ sym (front_checked old.control new.control false number adds.adds) };
        printed = printed;
        told = shows number taken;
      }
  checked_by true (Err (CheckpointFault fault)) old new text most spent same adds all as_before taken only shows printed =
      asked_fault fault (Checked true (Err (CheckpointFault fault))) old new text (called_by (Some fault)) refl refl spent same adds as_before
  checked_by false (Err (CheckpointFault fault)) old new text most spent same adds all as_before taken only shows printed =
      asked_fault fault (Checked false (Err (CheckpointFault fault))) old new text (called_by (Some fault)) refl refl spent same adds as_before
  checked_by true (Err (BusyRegion region id)) old new text most spent same adds all as_before taken only shows printed =
      record { entry = Checked true (Err (BusyRegion region id)); asked = refl; answered = adds; goes_on = refl; forced = bound_same old new as_before; printed = printed; told = tt }
  checked_by false (Err (BusyRegion region id)) old new text most spent same adds all as_before taken only shows printed =
      record { entry = Checked false (Err (BusyRegion region id)); asked = refl; answered = adds; goes_on = refl; forced = bound_same old new as_before; printed = printed; told = tt }

  pub asked_checkpoint : {P : ℕ → Type 0} (freeze : Bool) (answer : Result ℕ CheckpointRefused) (old new : ControlOnDisk D) (text : List ℕ) (called : Called)
      → called ≡ call_ended_by (ends_life (Checked freeze answer)) (fault_in (Checked freeze answer)) → old.up ≡ true → Lasts state old
      → TellsSpent (control_spent_now old) (fault_in (Checked freeze answer)) → StaysSpent (fault_in (Checked freeze answer)) old new
      → AddsBy state (fault_in (Checked freeze answer)) old new (Checked freeze answer) → OnOk answer (new.forced ≡ front_of old.control) → OnErr answer (new.forced ≡ old.forced)
      → IfOk answer P → ((number : ℕ) → P number → Only (state new.disk).shown (state new.disk))
      → ((number : ℕ) → P number → ShowsNumber new.control.system number (state new.disk))
      → text ≡ checkpoint_text freeze answer → IsAsked state (Call (CheckpointCall freeze)) old new text called
  asked_checkpoint {P = P} freeze answer old new text called is up lasts spent same adds all as_before taken only shows printed =
      subst (λ c. IsAsked state (Call (CheckpointCall freeze)) old new text c) (sym is)
      (checked_by {P = P} freeze answer old new text (most_up state old up lasts) spent same adds all as_before taken only shows printed)

  -- what stays over two calls
  pub stays_so : (a : ControlOnDisk D) → StaysSo state a a
  stays_so a = record { system = refl; opening = refl; checkpoint = refl; text = refl; began = refl; disk = stays_same (state a.disk); later = omega arith }

  pub stays_so_on : (a b c : ControlOnDisk D) → StaysSo state a b → StaysSo state b c → StaysSo state a c
  stays_so_on a b c first second = record {
    system = second.system ∙ first.system;
    opening = second.opening ∙ first.opening;
    checkpoint = second.checkpoint ∙ first.checkpoint;
    text = second.text ∙ first.text;
    began = second.began ∙ first.began;
    disk = stays_on (state a.disk) (state b.disk) (state c.disk) first.disk second.disk;
    later = omega (arith, first.later, second.later);
  }

  -- nothing was asked
  pub added_nothing : (a : ControlOnDisk D) → a.up ≡ true → DidNothing state a a
  added_nothing a up = record { adds = record { system = refl; opening = refl; history = refl }; forced = refl; up = up; no_fault = refl }

-- a test that says whether it holds
pub test_is : (test can : Bool) → IsTrue test ↔ IsTrue can → test ≡ can
test_is true true same = refl
test_is false false same = refl
test_is true false same = sym (same.0 refl)
test_is false true same = same.1 refl
