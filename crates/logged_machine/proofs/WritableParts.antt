-- What lasts of parts that a life goes with can be spelled in a snapshot.
use Rattle.std.proofs.Common.{◌≡◌, ℕ, zero, suc, ◌+◌, ◌≤◌, Bool, true, false, List, [], ◌∷◌, length, map, All, refl, sym, ◌∙◌, ap, subst, arith, Some, None}
use Rattle.std.specs.Prelude.{Option, IfSome, IsSomeAnd, if◌then◌else◌}
use Rattle.std.specs.List.{AllByRecursion}
use Rattle.std.specs.Str.{bytes_eq}
use Rattle.std.proofs.lemmas.List.Elements.{All-head, All-tail}
use Rattle.log_records.specs.RecordSpelling.{HasRoomForPad}
use Rattle.model_messages.specs.declared.conversation.Conversation.{Conversation}
use Rattle.model_messages.specs.declared.conversation.TerminalConversation.{TerminalConversation}
use Rattle.model_messages.specs.declared.replies.TerminalReplies.{TerminalReplies}
use Rattle.model_system.specs.declared.code.Code.{Code}
use Rattle.model_system.specs.Codes.{code_at}
use Rattle.model_system.specs.System.{System}
use Rattle.model_machine.specs.declared.lasting.TerminalState.{TerminalState}
use Rattle.checkpointing.specs.SpelledRecords.{HaveRoom, IsWritable}
use Rattle.system_types.specs.ValidSystem.{IsPadLength, IsSystem}
use Rattle.disk_law.specs.Life.{LifeOnDisk}
use Rattle.tm_machine.specs.SlotChanges.{HasSlots}
use Rattle.tm_machine.specs.Parts.{PartsState, IsConversationOf}
use Rattle.logged_machine.specs.CarriedParts.{IsCarried}

mapped : {A B : Type 0} (f : A → B) (xs : List A) → length (map f xs) ≡ length xs
mapped f [] = refl
mapped f (x ∷ xs) = ap (λ n. suc n) (mapped f xs)

same_names : {A B : Type 0} (f : A → List ℕ) (g : B → List ℕ) (xs : List A) (ys : List B) (names : List (List ℕ)) → map f xs ≡ names → map g ys ≡ names → length xs ≡ length ys
same_names f g xs ys names one other = sym (mapped f xs) ∙ ap length (one ∙ sym other) ∙ mapped g ys

-- a code of the system has a pad of at most 1,000 bytes
code_pad : (codes : List Code) (name : List ℕ) (code : Code) → All (λ code. IsPadLength code.transaction.scratch_pad) codes → code_at codes name ≡ Some code → code.transaction.scratch_pad ≤ 1000
code_pad [] name code all found = absurd cc
code_pad (c ∷ codes) name code all found =
    by (bytes_eq c.transaction.code name) found (code_pad codes name code (All-tail (λ (x : Code). IsPadLength x.transaction.scratch_pad) c codes all)) where
      by : (b : Bool) → (if b then Some c else code_at codes name) ≡ Some code → (code_at codes name ≡ Some code → code.transaction.scratch_pad ≤ 1000) → code.transaction.scratch_pad ≤ 1000
      by true e later =
          let same : c ≡ code = cc in
          subst (λ (x : Code). x.transaction.scratch_pad ≤ 1000) same (All-head (λ (x : Code). IsPadLength x.transaction.scratch_pad) c codes all).most
      by false e later = later e

conversation_room : (system : System) → IsSystem system → (c : Option Conversation) → IfSome c (IsConversationOf system) → HasRoomForPad c
conversation_room system valid None is = tt
conversation_room system valid (Some c) is = by (code_at system.codes c.code) refl is.size where
  by : (found : Option Code) → code_at system.codes c.code ≡ found → IsSomeAnd found (λ code. (1 ≤ code.transaction.scratch_pad) × (length c.pad + 6 ≡ code.transaction.scratch_pad)) → length c.pad ≤ 65000
  by None e some = absurd some
  by (Some code) e some = omega (arith, some.1, code_pad system.codes c.code code valid.pads e)

have_room : (system : System) → IsSystem system → (all : List TerminalConversation) → AllByRecursion (λ t. IfSome t.conversation (IsConversationOf system)) all → HaveRoom all
have_room system valid [] are place t found = absurd cc
have_room system valid (one ∷ all) are zero t found = let same : one ≡ t = cc in subst (λ (x : TerminalConversation). HasRoomForPad x.conversation) same (conversation_room system valid one.conversation are.0)
have_room system valid (one ∷ all) are (suc place) t found = have_room system valid all are.1 place t found

-- What lasts can be spelled, but for the rows, which a snapshot doesn't tell.
pub writable : (parts : PartsState) (units : List ℕ) (next : ℕ) (life : LifeOnDisk) → IsCarried parts units next life → HasSlots parts → IsWritable (record parts.moment.lasting { rows = [] })
writable parts units next life c has = record {
  outputs = same_names (λ (t : TerminalReplies). t.terminal) (λ (t : TerminalState). t.name) parts.moment.lasting.outputs parts.moment.lasting.terminals parts.system.terminals c.is.names.outputs c.is.names.terminals;
  conversations = same_names (λ (t : TerminalConversation). t.terminal) (λ (t : TerminalState). t.name) parts.moment.lasting.conversations parts.moment.lasting.terminals parts.system.terminals c.is.names.conversations c.is.names.terminals;
  pads = have_room parts.system has.defined parts.moment.lasting.conversations has.pads;
  counted = record { messages = c.is.counted.messages; replies = c.is.counted.replies };
}
