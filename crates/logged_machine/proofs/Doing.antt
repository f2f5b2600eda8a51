-- A call behind a checkpoint, and a call as its callers see it.
use Rattle.std.proofs.Common.{true, ◌≡◌, ◌≤◌, ◌+◌, ℕ, List, [], ◌∷◌, map, inl, inr, refl, sym, ◌∙◌, ap, subst, arith}
use Rattle.std.specs.Prelude.{Option, Some, None}
use Rattle.tm_disk.specs.Disk.{Image, DiskState, IsDisk}
use Rattle.tm_disk.proofs.Words.{stays_on}
use Rattle.model_system.specs.System.{System}
use Rattle.model_machine.specs.Machine.{LastingState, Moment}
use Rattle.model_machine.specs.History.{May, after_entry}
use Rattle.model_machine.specs.declared.entry.Entry.{Entry}
use Rattle.model_machine.specs.declared.entry.ControlFault.{ControlFault}
use Rattle.model_machine.specs.declared.entry.ControlFault.TheVariants.{Memory, Disk, Spent}
use Rattle.logged_machine.specs.LoggedState.{LoggedState, AreLasting, Pends}
use Rattle.logged_machine.specs.CallOutcome.{KeepsMachine, WentOn, MachineGoesBy, CrashesIntoPending, Failed, ActsOn}
use Rattle.logged_machine.specs.ToldCalls.{DoesTo, NumbersBy}
use Rattle.logged_machine.specs.UntakenCheckpoint.{settled_parts}
use Rattle.tm_machine.specs.Parts.{PartsState}
use Rattle.logged_machine.specs.LeftImages.{Brings, CrashesLeave}
use Rattle.checkpointing.specs.Counts.{CountsUpTo}
use Rattle.checkpointing.proofs.Counted.{up_to_more}
use Rattle.logged_machine.specs.Attempts.{Broke, CountsSince, Did, DidBy, LeavesCounts, AttemptLeaves, Refreshed, Tried}
use Rattle.logged_machine.proofs.Leaving.{leaves_same, leaves_all, leaves_now}

-- ---- the databases

abbrev unmarked : List (List ℕ) → List (List ℕ)
unmarked marks = map {A = List ℕ} {B = List ℕ} (λ numbers. []) marks

unmarked_twice : (marks : List (List ℕ)) → unmarked (unmarked marks) ≡ unmarked marks
unmarked_twice [] = refl
unmarked_twice (m ∷ marks) = ap (λ (rest : List (List ℕ)). [] ∷ rest) (unmarked_twice marks)

-- where no slot counts as changed, none does behind one more checkpoint
acts_behind : (units : List ℕ) (entry : Entry) (old new : PartsState) → ActsOn units entry (settled_parts old) new → ActsOn units entry old new
acts_behind units entry old new (inl does) = inr does
acts_behind units entry old new (inr does) =
    inr (subst (λ (marks : List (List ℕ)). DoesTo units entry (record old { databases = record old.databases { changed = marks } }) new) (unmarked_twice old.databases.changed) does)

module _ {D : Type 0} (state : D → DiskState) where
  pub keeps_then : (a b c : LoggedState D) → b.served ≡ true → KeepsMachine state a b → KeepsMachine state b c → KeepsMachine state a c
  keeps_then a b c up one two = record {
    system = two.system ∙ one.system;
    text = two.text ∙ one.text;
    disk = stays_on (state a.disk) (state b.disk) (state c.disk) one.disk two.disk;
    later = omega (arith, one.later, two.later);
    numbers = λ now. omega (arith, one.numbers up, two.numbers now);
  }

  -- An attempt that was answered.
  pub tried_did : (old new : LoggedState D) (entry : Entry) → Tried state old new entry → Did state None old new entry
  tried_did old new entry t = record {
    did = (
      t.went,
      λ states p.
          subst (λ (d : D). CrashesLeave (Brings old.machine.system old.text old.journal.restart.checkpoint states) (state old.disk) (state d)) (sym t.appends.disk_is)
          (leaves_same (Brings old.machine.system old.text old.journal.restart.checkpoint states) (state old.disk)),
    );
    keeps = t.keeps;
  }

  -- ---- behind a checkpoint

  module _ (old mid new : LoggedState D) (entry : Entry) (fresh : Refreshed state old mid) where
    went : WentOn state mid new entry → WentOn state old new entry
    went w = record {
      answered = record {
        may = subst (λ (m : Moment). May old.machine.system m entry) fresh.stood.moment (subst (λ (s : System). May s mid.machine.moment entry) fresh.keeps.system w.answered.may);
        after =
            w.answered.after ∙ ap (λ (s : System). after_entry s mid.machine.moment entry) fresh.keeps.system
            ∙ ap (λ (m : Moment). after_entry old.machine.system m entry) fresh.stood.moment;
        system = w.answered.system ∙ fresh.keeps.system;
      };
      numbers = subst (λ (n : ℕ). NumbersBy entry old.units new.units n new.next_unit) fresh.unit
          (subst (λ (us : List ℕ). NumbersBy entry us new.units mid.next_unit new.next_unit) fresh.units w.numbers);
      acts = acts_behind old.units entry old.machine new.machine
          (subst (λ (us : List ℕ). ActsOn us entry (settled_parts old.machine) new.machine) fresh.units
          (subst (λ (p : PartsState). ActsOn mid.units entry p new.machine) fresh.machine w.acts));
      served = w.served;
      no_fault = w.no_fault ∙ fresh.stood.no_fault;
    }

    pub did_behind : Tried state mid new entry → Did state None old new entry
    did_behind t = record {
      did = (
        went t.went,
        λ states p. subst (λ (d : D). CrashesLeave (Brings old.machine.system old.text old.journal.restart.checkpoint states) (state old.disk) (state d)) (sym t.appends.disk_is) (fresh.leaves states p),
      );
      keeps = keeps_then old mid new fresh.stood.served fresh.keeps t.keeps;
    }

  -- ---- as callers see it

  module _ (old new : LoggedState D) (before : AreLasting state old) (old_disk : IsDisk (state old.disk)) (new_disk : IsDisk (state new.disk)) where
    stands : (states : List LastingState) → Pends state states old → (image : Image) → (state old.disk).may_leave image → Brings old.machine.system old.text old.journal.restart.checkpoint states image
    stands states p image left = record { recovers = before.recover states p image left; has_text = before.have_text image left; numbered = before.numbered image left }

    pub crashes_into : AttemptLeaves state old new → CrashesIntoPending state old new
    crashes_into leaves states p image left =
        (leaves_all (Brings old.machine.system old.text old.journal.restart.checkpoint states) (state old.disk) (state new.disk) old_disk (stands states p) (leaves states p) image left).recovers

    left_now : AttemptLeaves state old new → (image : Image) → (state new.disk).may_leave image → Brings old.machine.system old.text old.journal.restart.checkpoint before.some.0 image
    left_now leaves image left =
        leaves_now (Brings old.machine.system old.text old.journal.restart.checkpoint before.some.0) (state old.disk) (state new.disk) old_disk new_disk (stands before.some.0 before.some.1) (leaves before.some.0 before.some.1) image left

    -- The disk failed.
    pub failed : Broke state old new → AttemptLeaves state old new → Failed state old new
    failed broke leaves = record {
      served = broke.served;
      failed = broke.failed;
      have_text = λ image left. (left_now leaves image left).has_text;
      numbered = λ image left. (left_now leaves image left).numbered;
      forced = broke.forced;
    }

    pub goes : (fault : Option ControlFault) (entry : Entry) → DidBy state fault old new entry → MachineGoesBy state fault old new entry
    goes None entry d = d.0
    goes (Some Disk) entry d = failed d.0 d.1
    goes (Some Memory) entry d = d
    goes (Some (Spent counter)) entry d = d

    -- Whatever a crash might have left since the call began counts up to so much.
    pub counted : (more : ℕ) → old.machine.system.logs ≤ more → LeavesCounts state more old new → CountsSince state more old new
    counted more le counts high stands_up image left =
        leaves_all (CountsUpTo old.machine.system (high + more)) (state old.disk) (state new.disk) old_disk
        (λ image was. up_to_more old.machine.system (high + old.machine.system.logs) (high + more) image (omega (arith, le)) (before.counts high stands_up image was)) (counts high stands_up) image left

    pub crashes : (fault : Option ControlFault) (entry : Entry) → DidBy state fault old new entry → CrashesIntoPending state old new
    crashes None entry d = crashes_into d.1
    crashes (Some Disk) entry d = crashes_into d.1
    crashes (Some Memory) entry d = λ states p image left. before.recover states p image (old_disk.now_alone image (subst (λ (l : LoggedState D). (state l.disk).left_since (state old.disk).clock image) d left))
    crashes (Some (Spent counter)) entry d = absurd d
