-- Reply numbers that are below the limit.
use Rattle.std.proofs.Common.{◌≡◌, ℕ, ◌<◌, ◌∷◌, [], List, refl, Bool, true, false, cond, Some, None, arith}
use Rattle.std.specs.Prelude.{find, nat_le}
use Rattle.std.specs.Option.{option_map}
use Rattle.std.proofs.lemmas.Bool.{leb-true}
use Rattle.model_machine.specs.declared.counts.Counter.{Counter}
use Rattle.model_machine.specs.declared.counts.Counter.TheVariants as counter
use Rattle.model_messages.specs.declared.replies.TerminalReplies.{TerminalReplies}
use Rattle.openings.specs.OpenedImage.{first_spent, output_counters}
use Rattle.out_queues.specs.KeptReplies.{AreUpTo}

pub none_spent : (highest : ℕ) (outputs : List TerminalReplies) → highest < 999999999999999999 → AreUpTo highest outputs → None ≡ first_spent (output_counters outputs)
none_spent highest [] low h = refl
none_spent highest (t ∷ outputs) low h = by (nat_le 1000000000000000000 t.next) refl (none_spent highest outputs low h.1)
  where
    by : (b : Bool) → nat_le 1000000000000000000 t.next ≡ b → None ≡ first_spent (output_counters outputs)
        → None ≡ option_map (λ (c : Counter × ℕ). c.0) (cond b (Some (counter.NextOutput t.terminal, t.next)) (find (λ (c : Counter × ℕ). nat_le 1000000000000000000 c.1) (output_counters outputs)))
    by true e rec = absurd (omega (arith, leb-true 1000000000000000000 t.next e, h.0, low))
    by false e rec = rec
