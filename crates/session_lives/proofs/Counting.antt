-- What a control region counts on keeps pace with its entries.
use Rattle.std.proofs.Common.{◌≡◌, ℕ, ◌+◌, ◌*◌, ◌≤◌, true, List, [], ◌∷◌, ◌++◌, length, sym, ◌∙◌, ap, subst, arith}
use Rattle.std.specs.Prelude.{Option, Some, None, Result}
use Rattle.std.proofs.lemmas.List.{length-append}
use Rattle.tm_disk.specs.Disk.{DiskState, IsDisk, NoMore}
use Rattle.model_system.specs.System.{System}
use Rattle.model_machine.specs.declared.entry.Entry.{Entry}
use Rattle.model_machine.specs.declared.entry.Entry.TheVariants.{Turn}
use Rattle.model_machine.specs.declared.entry.Turned.{Turned}
use Rattle.openings.specs.Faults.{fault_in}
use Rattle.model_machine.specs.declared.entry.ControlFault.{ControlFault}
use Rattle.model_machine.specs.declared.entry.ControlFault.TheVariants.{Memory, Disk, Spent}
use Rattle.checkpointing.specs.Counts.{CountsUpTo}
use Rattle.checkpointing.proofs.Counted.{up_to_more}
use Rattle.disk_law.specs.UnitCounts.{StandsUpTo}
use Rattle.disk_law.specs.JournalState.{JournalState}
use Rattle.tm_control.specs.ControlOnDisk.{ControlOnDisk}
use Rattle.tm_control.specs.ControlCalls.{StaysSo, AddsBy, ControlCountsSince, KeepsLog, RaisesBy, StaysSpent, StaysUndone, with_room}
use Rattle.session_law.specs.Measures.{call_raises}
use Rattle.session_lives.specs.ControlCounts.{CountsUp, KeepsPace, force_raises}

-- ---- bounds

pub stands_more : (low high : ℕ) (journal : JournalState) (next : ℕ) → low ≤ high → StandsUpTo low journal next → StandsUpTo high journal next
stands_more low high journal next le s = record {
  epoch = omega (arith, le, s.epoch);
  sequence = omega (arith, le, s.sequence);
  checkpoint = omega (arith, le, s.checkpoint);
  unit = omega (arith, le, s.unit);
}

module _ {D : Type 0} (state : D → DiskState) where
  pub counts_more : (low high : ℕ) (control : ControlOnDisk D) → low ≤ high → CountsUp state low control → CountsUp state high control
  counts_more low high control le h = record {
    own = λ up. stands_more low high control.journal control.next_unit le (h.own up);
    images = λ image left. up_to_more control.control.system (low + force_raises) (high + force_raises) image (omega (arith, le)) (h.images image left);
  }

  -- ---- nothing is counted on

  pub pace_none : (a : ControlOnDisk D) → KeepsPace state a a
  pace_none a few high h = h

  pub pace_same : (old new : ControlOnDisk D) → new ≡ old → KeepsPace state old new
  pace_same old new same few high h = subst (λ (c : ControlOnDisk D). CountsUp state (high + call_raises * length c.control.history) c) (sym same) h

  -- room for entries was made
  pub pace_room : (room : ℕ) (old new : ControlOnDisk D) → new ≡ with_room room old → KeepsPace state old new
  pace_room room old new same few high h =
      subst (λ (c : ControlOnDisk D). CountsUp state (high + call_raises * length c.control.history) c) (sym same) (record { own = h.own; images = h.images })

  -- what it keeps of its log is as it was, and nothing was written
  pub pace_log : (old new : ControlOnDisk D) → old.up ≡ true → length old.control.history ≤ length new.control.history → new.control.system ≡ old.control.system → KeepsLog old new → NoMore (state old.disk) (state new.disk)
      → KeepsPace state old new
  pace_log old new up more same log no_more few high h =
      let own : StandsUpTo (high + call_raises * length new.control.history) old.journal old.next_unit =
      stands_more (high + call_raises * length old.control.history) (high + call_raises * length new.control.history) old.journal old.next_unit (omega (arith, more)) (h.own up) in
      record {
        own = λ now.
            subst (λ (j : JournalState). StandsUpTo (high + call_raises * length new.control.history) j new.next_unit) (sym log.journal)
            (subst (λ n. StandsUpTo (high + call_raises * length new.control.history) old.journal n) (sym log.next_unit) own);
        images = λ image left.
            subst (λ (s : System). CountsUpTo s (high + call_raises * length new.control.history + force_raises) image) (sym same)
            (up_to_more old.control.system (high + call_raises * length old.control.history + force_raises) (high + call_raises * length new.control.history + force_raises) image (omega (arith, more)) (h.images image (no_more image left)));
      }

  pub pace_kept : (old new : ControlOnDisk D) → old.up ≡ true → length old.control.history ≤ length new.control.history → StaysSo state old new → KeepsLog old new → new.disk ≡ old.disk → KeepsPace state old new
  pace_kept old new up more stays log same = pace_log old new up more stays.system log (λ image left. subst (λ (d : D). (state d).may_leave image) same left)

  -- ---- an entry more

  pub pace_entry : (sectors : ℕ) (entry : Entry) (old new : ControlOnDisk D) → sectors ≤ 2 * old.control.system.logs → old.up ≡ true → IsDisk (state new.disk) → StaysSo state old new
      → RaisesBy sectors old new → ControlCountsSince state (2 * old.control.system.logs) old new → new.control.history ≡ old.control.history ++ entry ∷ [] → KeepsPace state old new
  pace_entry sectors entry old new fit up disk stays raises counts added few high h =
      let own : StandsUpTo (high + call_raises * length old.control.history) old.journal old.next_unit = h.own up in
      let longer : length new.control.history ≡ length old.control.history + 1 = ap (λ (es : List Entry). length es) added ∙ length-append old.control.history (entry ∷ []) in
      record {
        own = λ now. let r = raises now in record {
          epoch = omega (arith, longer, r.epoch, own.epoch);
          sequence = omega (arith, longer, few, fit, r.sequence, own.sequence);
          checkpoint = omega (arith, longer, r.checkpoint, own.checkpoint);
          unit = omega (arith, longer, r.unit, own.unit);
        };
        images = λ image left.
            subst (λ (s : System). CountsUpTo s (high + call_raises * length new.control.history + force_raises) image) (sym stays.system)
            (up_to_more old.control.system (high + call_raises * length old.control.history + 2 * old.control.system.logs) (high + call_raises * length new.control.history + force_raises) image (omega (arith, longer, few))
            (counts (high + call_raises * length old.control.history) own image (disk.now_counts (state old.disk).clock image stays.later left)));
      }

  -- ---- all is forced

  -- behind a force an image counts further by what the log's area has at most
  pub pace_forced : (old new : ControlOnDisk D) → old.up ≡ true → IsDisk (state new.disk) → StaysSo state old new
      → (new.up ≡ true → (high : ℕ) → StandsUpTo high old.journal old.next_unit → StandsUpTo high new.journal new.next_unit) → ControlCountsSince state old.control.system.logs old new
      → length old.control.history ≤ length new.control.history → KeepsPace state old new
  pace_forced old new up disk stays raises counts more few high h =
      let own : StandsUpTo (high + call_raises * length old.control.history) old.journal old.next_unit = h.own up in
      record {
        own = λ now.
            stands_more (high + call_raises * length old.control.history) (high + call_raises * length new.control.history) new.journal new.next_unit (omega (arith, more))
            (raises now (high + call_raises * length old.control.history) own);
        images = λ image left.
            subst (λ (s : System). CountsUpTo s (high + call_raises * length new.control.history + force_raises) image) (sym stays.system)
            (up_to_more old.control.system (high + call_raises * length old.control.history + old.control.system.logs) (high + call_raises * length new.control.history + force_raises) image (omega (arith, more, few))
            (counts (high + call_raises * length old.control.history) own image (disk.now_counts (state old.disk).clock image stays.later left)));
      }

  -- ---- an answer

  -- A call keeps pace.
  pub pace_call : (sectors : ℕ) (fault : Option ControlFault) (entry : Entry) (old new : ControlOnDisk D) → sectors ≤ 2 * old.control.system.logs → old.up ≡ true → IsDisk (state new.disk) → StaysSo state old new
      → RaisesBy sectors old new → ControlCountsSince state (2 * old.control.system.logs) old new → AddsBy state fault old new entry → StaysSpent fault old new → StaysUndone fault old new → KeepsPace state old new
  pace_call sectors None entry old new fit up disk stays raises counts adds same undone = pace_entry sectors entry old new fit up disk stays raises counts adds.adds.history
  pace_call sectors (Some Disk) entry old new fit up disk stays raises counts adds same undone = pace_entry sectors entry old new fit up disk stays raises counts adds.history
  pace_call sectors (Some Memory) entry old new fit up disk stays raises counts adds same undone = pace_room new.control.room old new undone
  pace_call sectors (Some (Spent counter)) entry old new fit up disk stays raises counts adds same undone = pace_same old new same

  -- so does a turn
  pub pace_turn : (region : ℕ) (answer : Result Turned ControlFault) (old new : ControlOnDisk D) → old.up ≡ true → IsDisk (state new.disk) → StaysSo state old new → RaisesBy (2 * old.control.system.logs) old new
      → ControlCountsSince state (2 * old.control.system.logs) old new → AddsBy state (fault_in (Turn region answer)) old new (Turn region answer) → StaysSpent (fault_in (Turn region answer)) old new
      → StaysUndone (fault_in (Turn region answer)) old new → KeepsPace state old new
  pace_turn region answer old new up disk stays raises counts adds same undone =
      pace_call (2 * old.control.system.logs) (fault_in (Turn region answer)) (Turn region answer) old new (omega arith) up disk stays raises counts adds same undone

  -- ---- one call behind another

  pub pace_on : (a b c : ControlOnDisk D) → StaysSo state a b → KeepsPace state a b → KeepsPace state b c → KeepsPace state a c
  pace_on a b c stays first second few high h = second (subst (λ (s : System). s.logs ≤ 2048) (sym stays.system) few) high (first few high h)
