-- A state that breaks no rule has ids that ascend, room for its messages and replies, and replies that follow one another.
use Rattle.std.proofs.Common.{◌≡◌, ◌⊎◌, ℕ, ◌+◌, ◌<◌, ◌≤◌, ◌^◌, Bool, true, false, List, [], ◌∷◌, length, inl, inr, refl, sym, ◌∙◌, arith}
use Rattle.std.specs.Prelude.{◌&&◌, ◌||◌, not, ◌==◌, nat_lt}
use Rattle.std.specs.List.{list_all, AllByRecursion}
use Rattle.std.proofs.lemmas.Bool.{and_parts, cases_lt, lt-ltb, eqb-true}
use Rattle.tm_types.specs.declared.message.Reply.{Reply}
use Rattle.model_messages.specs.declared.replies.TerminalReplies.{TerminalReplies}
use Rattle.model_messages.specs.Outputs.{AreNumbered, RunUpTo, outputs_bytes}
use Rattle.model_messages.specs.Room.{messages_bytes}
use Rattle.model_system.specs.System.{System}
use Rattle.model_machine.specs.Machine.{LastingState}
use Rattle.model_image.specs.States.{ascend_below, run_up_to, breaks_a_rule, wrong_values, wrong_ids, unknown_messages, wrong_replies, over_full}

record None_ (v i u w f : Bool) : Type 0 where
  pub ids : i ≡ false
  pub replies : w ≡ false
  pub room : f ≡ false

none_ : (v i u w f : Bool) → v || i || u || w || f ≡ false → None_ v i u w f
none_ true i u w f e = absurd (cc)
none_ false true u w f e = absurd (cc)
none_ false false true w f e = absurd (cc)
none_ false false false true f e = absurd (cc)
none_ false false false false true e = absurd (cc)
none_ false false false false false e = record { ids = refl; replies = refl; room = refl }

each : (system : System) (lasting : LastingState) → breaks_a_rule system lasting ≡ false
    → None_ (wrong_values system lasting) (wrong_ids lasting) (unknown_messages system lasting) (wrong_replies lasting) (over_full system lasting)
each system lasting = none_ (wrong_values system lasting) (wrong_ids lasting) (unknown_messages system lasting) (wrong_replies lasting) (over_full system lasting)

not_false : (b : Bool) → not b ≡ false → b ≡ true
not_false true e = refl
not_false false e = absurd (cc)

pub sound_ids : (system : System) (lasting : LastingState) → breaks_a_rule system lasting ≡ false → ascend_below lasting.next_id lasting.messages ≡ true
sound_ids system lasting e = not_false (ascend_below lasting.next_id lasting.messages) (each system lasting e).ids

pub sound_replies : (system : System) (lasting : LastingState) → breaks_a_rule system lasting ≡ false → list_all (λ terminal. run_up_to terminal.next terminal.replies) lasting.outputs ≡ true
sound_replies system lasting e = not_false (list_all (λ terminal. run_up_to terminal.next terminal.replies) lasting.outputs) (each system lasting e).replies

within : (limit content : ℕ) → nat_lt limit content ≡ false → content ≤ limit
within limit content e = by (cases_lt limit content) where
  by : (limit < content) ⊎ (content ≤ limit) → content ≤ limit
  by (inl over) = let clash : true ≡ false = sym (lt-ltb limit content over) ∙ e in absurd (cc)
  by (inr few) = few

pub sound_room : (system : System) (lasting : LastingState) → breaks_a_rule system lasting ≡ false → messages_bytes lasting.messages + outputs_bytes lasting.outputs ≤ system.qbytes
sound_room system lasting e = within system.qbytes (messages_bytes lasting.messages + outputs_bytes lasting.outputs) (each system lasting e).room

-- the same of the messages alone, and of the replies
pub sound_messages : (system : System) (lasting : LastingState) (limit : ℕ) → breaks_a_rule system lasting ≡ false → limit ≡ system.qbytes → limit < 2 ^ 32 → messages_bytes lasting.messages < 2 ^ 62
sound_messages system lasting limit e is small = omega (arith, sound_room system lasting e, is, small)

pub sound_outputs : (system : System) (lasting : LastingState) (limit : ℕ) → breaks_a_rule system lasting ≡ false → limit ≡ system.qbytes → limit < 2 ^ 32 → outputs_bytes lasting.outputs < 2 ^ 62
sound_outputs system lasting limit e is small = omega (arith, sound_room system lasting e, is, small)

pub ruleset sound_steps = (sound_ids, sound_replies, sound_messages, sound_outputs)

-- ---- replies that follow one another

runs : (next : ℕ) (replies : List Reply) → run_up_to next replies ≡ true → RunUpTo next replies
runs next [] e = tt
runs next (reply ∷ replies) e =
    let parts = and_parts (not (reply.number == 0) && (reply.number + length (reply ∷ replies) == next)) (run_up_to next replies) e in
    let one = and_parts (not (reply.number == 0)) (reply.number + length (reply ∷ replies) == next) parts.0 in
    (eqb-true (reply.number + length (reply ∷ replies)) next one.1, runs next replies parts.1)

pub all_run : (outputs : List TerminalReplies) → list_all (λ terminal. run_up_to terminal.next terminal.replies) outputs ≡ true → AllByRecursion AreNumbered outputs
all_run [] e = tt
all_run (t ∷ ts) e = let parts = and_parts (run_up_to t.next t.replies) (list_all (λ terminal. run_up_to terminal.next terminal.replies) ts) e in (runs t.next t.replies parts.0, all_run ts parts.1)
