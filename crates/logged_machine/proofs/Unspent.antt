-- What is known where no counter is spent.
use Rattle.std.proofs.Common.{◌≡◌, ◌<◌, ◌+◌, arith, ℕ, Bool, true, false, List, [], ◌∷◌, refl, ap, ◌∙◌, lt-ltb, leb-false}
use Rattle.std.specs.Prelude.{Option, Some, None, cond, find, nat_le, nat_lt, ◌&&◌}
use Rattle.std.specs.List.{list_all}
use Rattle.std.specs.Option.{option_map}
use Rattle.model_messages.specs.declared.replies.TerminalReplies.{TerminalReplies}
use Rattle.model_machine.specs.Machine.{LastingState}
use Rattle.model_machine.specs.declared.counts.Counter.{Counter}
use Rattle.openings.specs.OpenedImage.{counters, output_counters, first_spent}
use Rattle.model_machine.specs.declared.counts.Counter.TheVariants as counter
use Rattle.restart_data.specs.declared.restart.RestartSector.{RestartSector}
use Rattle.disk_law.specs.JournalState.{JournalState}
use Rattle.journal.specs.UnspentCounts.{AreUnspent}
use Rattle.journal.specs.CountRanges.{AreCountsInRange}

pub record NoneSpent (epoch sequence checkpoint unit : ℕ) (lasting : LastingState) : Type 0 where
  pub epoch_low : epoch < 1000000000000000000
  pub sequence_low : sequence < 1000000000000000000
  pub checkpoint_low : checkpoint < 1000000000000000000
  pub unit_low : unit < 1000000000000000000
  pub counts : AreUnspent lasting

split : (b : Bool) (c : Counter × ℕ) (o : Option (Counter × ℕ)) → option_map (λ (x : Counter × ℕ). x.0) (cond b (Some c) o) ≡ None → (b ≡ false) × (option_map (λ (x : Counter × ℕ). x.0) o ≡ None)
split true c o e = absurd cc
split false c o e = (refl, e)

first_low : (c : Counter × ℕ) (cs : List (Counter × ℕ)) → first_spent (c ∷ cs) ≡ None → (c.1 < 1000000000000000000) × (first_spent cs ≡ None)
first_low c cs e =
    let s = split (nat_le 1000000000000000000 c.1) c (find (λ (x : Counter × ℕ). nat_le 1000000000000000000 x.1) cs) e in
    (leb-false 1000000000000000000 c.1 s.0, s.1)

outputs_low : (outputs : List TerminalReplies) → first_spent (output_counters outputs) ≡ None → list_all (λ terminal. nat_lt terminal.next 1000000000000000000) outputs ≡ true
outputs_low [] e = refl
outputs_low (t ∷ outputs) e =
    let s = first_low (counter.NextOutput t.terminal, t.next) (output_counters outputs) e in
    ap (λ (b : Bool). b && list_all (λ (terminal : TerminalReplies). nat_lt terminal.next 1000000000000000000) outputs) (lt-ltb t.next 1000000000000000000 s.0) ∙ outputs_low outputs s.1

pub none_spent : (epoch sequence checkpoint unit : ℕ) (lasting : LastingState) → first_spent (counters epoch sequence checkpoint unit lasting) ≡ None → NoneSpent epoch sequence checkpoint unit lasting
none_spent epoch sequence checkpoint unit lasting e =
    let a = first_low (counter.Epoch, epoch) ((counter.Sequence, sequence) ∷ (counter.Checkpoint, checkpoint) ∷ (counter.NextId, lasting.next_id) ∷ (counter.NextUnit, unit) ∷ (counter.Steps, lasting.steps) ∷ output_counters lasting.outputs) e in
    let b = first_low (counter.Sequence, sequence) ((counter.Checkpoint, checkpoint) ∷ (counter.NextId, lasting.next_id) ∷ (counter.NextUnit, unit) ∷ (counter.Steps, lasting.steps) ∷ output_counters lasting.outputs) a.1 in
    let c = first_low (counter.Checkpoint, checkpoint) ((counter.NextId, lasting.next_id) ∷ (counter.NextUnit, unit) ∷ (counter.Steps, lasting.steps) ∷ output_counters lasting.outputs) b.1 in
    let d = first_low (counter.NextId, lasting.next_id) ((counter.NextUnit, unit) ∷ (counter.Steps, lasting.steps) ∷ output_counters lasting.outputs) c.1 in
    let f = first_low (counter.NextUnit, unit) ((counter.Steps, lasting.steps) ∷ output_counters lasting.outputs) d.1 in
    let g = first_low (counter.Steps, lasting.steps) (output_counters lasting.outputs) f.1 in
    record {
      epoch_low = a.0;
      sequence_low = b.0;
      checkpoint_low = c.0;
      unit_low = f.0;
      counts = record { id = d.0; steps = g.0; outputs = outputs_low lasting.outputs g.1 };
    }

pub counted_now : (lasting : LastingState) (next : ℕ) (journal : JournalState) → first_spent (counters journal.restart.epoch (journal.log.sequence + journal.log.place) journal.restart.checkpoint next lasting) ≡ None → AreCountsInRange 0 lasting next journal
counted_now lasting next journal e =
    let n = none_spent journal.restart.epoch (journal.log.sequence + journal.log.place) journal.restart.checkpoint next lasting e in
    record { counts = n.counts; unit = n.unit_low; epoch = n.epoch_low; sequence = omega (arith, n.sequence_low); checkpoint = omega (arith, n.checkpoint_low) }

-- as the code looks at them
pub spent_is : (journal : JournalState) (unit : ℕ) (lasting : LastingState) (restart : RestartSector) (sequence last : ℕ) (answer : Option Counter) → restart ≡ journal.restart
    → sequence ≡ journal.log.sequence + journal.log.place → last + 1 ≡ unit → answer ≡ first_spent (counters restart.epoch sequence restart.checkpoint (last + 1) lasting)
    → answer ≡ first_spent (counters journal.restart.epoch (journal.log.sequence + journal.log.place) journal.restart.checkpoint unit lasting)
spent_is journal unit lasting restart sequence last answer same next is_last is =
    is ∙ ap (λ (r : RestartSector). first_spent (counters r.epoch sequence r.checkpoint (last + 1) lasting)) same
    ∙ ap (λ (n : ℕ). first_spent (counters journal.restart.epoch n journal.restart.checkpoint (last + 1) lasting)) next
    ∙ ap (λ (n : ℕ). first_spent (counters journal.restart.epoch (journal.log.sequence + journal.log.place) journal.restart.checkpoint n lasting)) is_last
