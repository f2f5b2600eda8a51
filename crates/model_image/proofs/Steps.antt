-- The records of a lasting step, done again, leave what the machine's step leaves.
use Rattle.std.proofs.Common.{◌≡◌, ℕ, ◌+◌, ◌-◌, ◌<◌, ◌≤◌, Bool, true, false, not, ◌&&◌, List, [], ◌∷◌, ◌++◌, refl, sym, ◌∙◌, ap, arith, Some, None}
use Rattle.std.specs.Prelude.{Option, if◌then◌else◌, ◌==◌}
use Rattle.std.specs.Option.{is_some, option_map, option_map_or, option_and_then}
use Rattle.std.proofs.lemmas.Bool.{eq-eqb, eqb-true, ne_eqb}
use Rattle.tm_types.specs.declared.abend.AbendCode.{AbendCode}
use Rattle.tm_types.specs.declared.command.LastingCommand.{LastingCommand}
use Rattle.tm_types.specs.declared.message.Message.{Message}
use Rattle.tm_types.specs.Commands.{IsSpellable, command_spelling}
use Rattle.tm_types.proofs.Commands.{spelled_read}
use Rattle.tm_types.specs.declared.message.Reply.{Reply as KeptReply}
use Rattle.model_messages.specs.Outputs.{next_of, reply_at}
use Rattle.model_messages.specs.declared.ended_message.EndedMessage.{EndedMessage}
use Rattle.model_machine.specs.declared.lasting.TerminalState.{TerminalState}
use Rattle.model_machine.specs.Machine.{LastingState, terminal_at, message_at, output_at}
use Rattle.model_machine.specs.LastingSteps.{KeptInput, applied, code_word, kept_alone, kept_first, kept_by, kept_by_code, kept_input, without_word, with_pad_changed, output_sent, all_sent, switched, replied, without_message, finished_by, with_pad_by}
use Rattle.model_machine.specs.LastingSteps.LastingStep.{Accepts, Acknowledges, Completes, Discards, Commands}
use Rattle.log_records.specs.declared.record.Record.{Record}
use Rattle.log_records.specs.declared.record.Record.TheVariants.{Input, Reply, Completed}
use Rattle.model_messages.specs.declared.conversation.Conversation.{Conversation}
use Rattle.model_messages.specs.declared.conversation.PadChange.{PadChange}
use Rattle.model_messages.specs.Pads.{begun}
use Rattle.model_messages.specs.Terminals.{conversation_at}
use Rattle.model_system.specs.declared.code.Code.{Code}
use Rattle.model_system.specs.Codes.{code_at}
use Rattle.model_system.specs.System.{System}
use Rattle.model_image.specs.Replay.{done, all_done, pad_size, kept_in_record, replay_accepts, replay_acknowledges, discards, commands, syncs, with_step, completed_id, completed_message}
use Rattle.model_image.specs.StepRecords.{output_record, output_records, completion_records}
use Rattle.tm_types.proofs.Truths.{both}

same : (n : ℕ) → (n == n) ≡ true
same n = eq-eqb n n refl

where_true : {A : Type 0} (b : Bool) (x : A) → b ≡ true → (if b then Some x else None) ≡ Some x
where_true true x e = refl
where_true false x e = cc

-- ---- steps that one record tells of

-- What the record of an input says again of how it is kept.
kept_again : (system : System) (found : Option Code) (segments : List (List ℕ)) (lasting : LastingState) (terminal : List ℕ) → code_at system.codes (code_word segments) ≡ found → conversation_at terminal lasting.conversations ≡ None →
    kept_in_record system lasting terminal (kept_by_code found segments).code (kept_by_code found segments).conversation (kept_by_code found segments).segments ≡ kept_by_code found segments
kept_again system None segments lasting terminal is none = refl
kept_again system (Some code) segments lasting terminal is none = by_pad (code.transaction.scratch_pad == 0) where
  by_pad : (b : Bool) → let kept = if b then kept_alone segments else kept_first code.transaction.scratch_pad segments in
      kept_in_record system lasting terminal kept.code kept.conversation kept.segments ≡ kept
  by_pad true = refl
  by_pad false =
      ap (λ (c : Option Conversation). record { code = code_word segments; conversation = true; segments = without_word segments; begins = if true && not (is_some c) then Some (begun (code_word segments) (pad_size system (code_word segments) - 14)) else None }) none
      ∙ ap (λ (o : Option Code). record { code = code_word segments; conversation = true; segments = without_word segments; begins = Some (begun (code_word segments) (option_map_or (λ found. found.transaction.scratch_pad) o 0 - 14)) }) is

kept_where : (system : System) (conversation : Option Conversation) (segments : List (List ℕ)) (lasting : LastingState) (terminal : List ℕ) → conversation_at terminal lasting.conversations ≡ conversation →
    kept_in_record system lasting terminal (kept_by system conversation segments).code (kept_by system conversation segments).conversation (kept_by system conversation segments).segments ≡ kept_by system conversation segments
kept_where system (Some c) segments lasting terminal is =
    ap (λ (o : Option Conversation). record { code = c.code; conversation = true; segments = segments; begins = if true && not (is_some o) then Some (begun c.code (pad_size system c.code - 14)) else None }) is
kept_where system None segments lasting terminal is =
    kept_again system (code_at system.codes (code_word segments)) segments lasting terminal refl is

module _ (system : System) (lasting : LastingState) where
  -- an input, as it is kept
  pub accepts_again : (terminal : List ℕ) (number : ℕ) (segments : List (List ℕ)) (t : TerminalState) → terminal_at lasting.terminals terminal ≡ Some t → t.last + 1 ≡ number →
      let kept = kept_input system lasting terminal segments in
      replay_accepts system lasting.next_id terminal kept.code number kept.conversation kept.segments lasting ≡ Some (applied (Accepts terminal number kept) lasting)
  accepts_again terminal number segments t found next =
      let kept = kept_input system lasting terminal segments in
      where_true (option_map_or (λ terminal. terminal.last + 1 == number) (terminal_at lasting.terminals terminal) false && (lasting.next_id == lasting.next_id))
      (applied (Accepts terminal number (kept_in_record system lasting terminal kept.code kept.conversation kept.segments)) lasting)
      (both (option_map_or (λ terminal. terminal.last + 1 == number) (terminal_at lasting.terminals terminal) false) (lasting.next_id == lasting.next_id)
      (ap (λ (o : Option TerminalState). option_map_or (λ terminal. terminal.last + 1 == number) o false) found ∙ eq-eqb (t.last + 1) number next)
      (same lasting.next_id))
      ∙ ap (λ (k : KeptInput). Some (applied (Accepts terminal number k) lasting)) (kept_where system (conversation_at terminal lasting.conversations) segments lasting terminal refl)

module _ (lasting : LastingState) where
  -- a reply that is acknowledged
  pub acknowledges_again : (terminal : List ℕ) (reply : KeptReply) → reply_at terminal 0 lasting.outputs ≡ Some reply →
      replay_acknowledges terminal reply.number lasting ≡ Some (applied (Acknowledges terminal) lasting)
  acknowledges_again terminal reply found =
      where_true (option_map_or (λ kept. kept.number == reply.number) (reply_at terminal 0 lasting.outputs) false) (applied (Acknowledges terminal) lasting)
      (ap (λ (o : Option KeptReply). option_map_or (λ kept. kept.number == reply.number) o false) found ∙ same reply.number)

  -- a message that is discarded
  pub discards_again : (id : ℕ) (abend : AbendCode) (message : Message) → message_at lasting.messages id ≡ Some message →
      discards id abend (next_of message.origin lasting.outputs) lasting ≡ Some (applied (Discards id abend) lasting)
  discards_again id abend message found =
      where_true (option_map_or (λ m. next_of m.origin lasting.outputs == next_of message.origin lasting.outputs) (message_at lasting.messages id) false) (applied (Discards id abend) lasting)
      (ap (λ (o : Option Message). option_map_or (λ m. next_of m.origin lasting.outputs == next_of message.origin lasting.outputs) o false) found ∙ same (next_of message.origin lasting.outputs))

-- ---- a completion

-- an output is sent
sent_again : (unit : ℕ) (origin : List ℕ) (output : EndedMessage) (lasting : LastingState) (b : Bool) → is_some (output_at lasting.outputs output.to) ≡ b → done (output_record unit origin output lasting) lasting ≡ Some (output_sent origin output lasting)
sent_again unit origin output lasting true is =
    rw is (where_true (next_of output.to lasting.outputs == next_of output.to lasting.outputs) (replied output lasting) (same (next_of output.to lasting.outputs)))
sent_again unit origin output lasting false is =
    rw is (where_true ((lasting.next_id == lasting.next_id) && (0 == 0)) (switched origin output lasting) (both (lasting.next_id == lasting.next_id) (0 == 0) (same lasting.next_id) refl))

all_sent_again : (unit : ℕ) (origin : List ℕ) (outputs : List EndedMessage) (lasting : LastingState) (more : List Record) → all_done (output_records unit origin outputs lasting ++ more) lasting ≡ all_done more (all_sent origin outputs lasting)
all_sent_again unit origin [] lasting more = refl
all_sent_again unit origin (output ∷ outputs) lasting more =
    ap (option_and_then (all_done (output_records unit origin outputs (output_sent origin output lasting) ++ more))) (sent_again unit origin output lasting (is_some (output_at lasting.outputs output.to)) refl)
    ∙ all_sent_again unit origin outputs (output_sent origin output lasting) more

-- the state without a message
abbrev pub gone : ℕ → LastingState → LastingState
gone id lasting = record lasting { messages = without_message lasting.messages id }

without_later : (id : ℕ) (message : Message) (messages : List Message) → (message.id ≡ id → ⊥) → without_message (messages ++ message ∷ []) id ≡ without_message messages id ++ message ∷ []
without_later id message [] other = ap (λ b. if not b then message ∷ [] else []) (ne_eqb message.id id other)
without_later id message (first ∷ messages) other = kept (first.id == id) (without_later id message messages other) where
  kept : (b : Bool) → without_message (messages ++ message ∷ []) id ≡ without_message messages id ++ message ∷ [] → (if not b then first ∷ without_message (messages ++ message ∷ []) id else without_message (messages ++ message ∷ []) id) ≡ (if not b then first ∷ without_message messages id else without_message messages id) ++ message ∷ []
  kept true later = later
  kept false later = ap (λ (l : List Message). first ∷ l) later

sent_without : (id : ℕ) (origin : List ℕ) (output : EndedMessage) (lasting : LastingState) (b : Bool) → is_some (output_at lasting.outputs output.to) ≡ b → id < lasting.next_id → gone id (output_sent origin output lasting) ≡ output_sent origin output (gone id lasting)
sent_without id origin output lasting true is below = rw is refl
sent_without id origin output lasting false is below =
    let message : Message = record { id = lasting.next_id; origin = origin; code = output.to; conversation = false; segments = output.segments } in
    rw is (ap (λ (messages : List Message). record lasting { messages = messages; next_id = lasting.next_id + 1 }) (without_later id message lasting.messages (λ e. omega (arith, below, e))))

next_id_rises : (origin : List ℕ) (output : EndedMessage) (lasting : LastingState) (b : Bool) → is_some (output_at lasting.outputs output.to) ≡ b → lasting.next_id ≤ (output_sent origin output lasting).next_id
next_id_rises origin output lasting true is = rw is (omega arith)
next_id_rises origin output lasting false is = rw is (omega arith)

all_sent_without : (id : ℕ) (origin : List ℕ) (outputs : List EndedMessage) (lasting : LastingState) → id < lasting.next_id → gone id (all_sent origin outputs lasting) ≡ all_sent origin outputs (gone id lasting)
all_sent_without id origin [] lasting below = refl
all_sent_without id origin (output ∷ outputs) lasting below =
    let there = is_some (output_at lasting.outputs output.to) in
    all_sent_without id origin outputs (output_sent origin output lasting) (omega (arith, below, next_id_rises origin output lasting there refl))
    ∙ ap (all_sent origin outputs) (sent_without id origin output lasting there refl below)

-- a message stays found where others are added behind it
found_before : (id : ℕ) (messages more : List Message) (message : Message) → message_at messages id ≡ Some message → message_at (messages ++ more) id ≡ Some message
found_before id [] more message found = cc
found_before id (first ∷ messages) more message found = by_first (first.id == id) (found_before id messages more message) found where
  by_first : (b : Bool) → (message_at messages id ≡ Some message → message_at (messages ++ more) id ≡ Some message) → (if b then Some first else message_at messages id) ≡ Some message → (if b then Some first else message_at (messages ++ more) id) ≡ Some message
  by_first true later is = is
  by_first false later is = later is

found_sent : (id : ℕ) (origin : List ℕ) (output : EndedMessage) (lasting : LastingState) (message : Message) (b : Bool) → is_some (output_at lasting.outputs output.to) ≡ b → message_at lasting.messages id ≡ Some message → message_at (output_sent origin output lasting).messages id ≡ Some message
found_sent id origin output lasting message true is found = rw is found
found_sent id origin output lasting message false is found = rw is (found_before id lasting.messages _ message found)

found_all_sent : (id : ℕ) (origin : List ℕ) (outputs : List EndedMessage) (lasting : LastingState) (message : Message) → message_at lasting.messages id ≡ Some message → message_at (all_sent origin outputs lasting).messages id ≡ Some message
found_all_sent id origin [] lasting message found = found
found_all_sent id origin (output ∷ outputs) lasting message found =
    found_all_sent id origin outputs (output_sent origin output lasting) message (found_sent id origin output lasting message (is_some (output_at lasting.outputs output.to)) refl found)

-- sending counts no step
sent_steps : (origin : List ℕ) (output : EndedMessage) (lasting : LastingState) (b : Bool) → is_some (output_at lasting.outputs output.to) ≡ b → (output_sent origin output lasting).steps ≡ lasting.steps
sent_steps origin output lasting true is = rw is refl
sent_steps origin output lasting false is = rw is refl

all_sent_steps : (origin : List ℕ) (outputs : List EndedMessage) (lasting : LastingState) → (all_sent origin outputs lasting).steps ≡ lasting.steps
all_sent_steps origin [] lasting = refl
all_sent_steps origin (output ∷ outputs) lasting =
    all_sent_steps origin outputs (output_sent origin output lasting) ∙ sent_steps origin output lasting (is_some (output_at lasting.outputs output.to)) refl

-- the message of an id has that id
pub has_its_id : (id : ℕ) (messages : List Message) (message : Message) → message_at messages id ≡ Some message → message.id ≡ id
has_its_id id [] message found = cc
has_its_id id (first ∷ messages) message found = by_first (first.id == id) refl (has_its_id id messages message) found where
  by_first : (b : Bool) → first.id == id ≡ b → (message_at messages id ≡ Some message → message.id ≡ id) → (if b then Some first else message_at messages id) ≡ Some message → message.id ≡ id
  by_first true is later found = let e : first ≡ message = cc in ap (λ (m : Message). m.id) (sym e) ∙ eqb-true first.id id is
  by_first false is later found = later found

-- what becomes of a pad, which no sending changes
abbrev pads : PadChange → List ℕ → LastingState → LastingState
pads pad origin lasting = record lasting { conversations = with_pad_changed pad origin lasting.conversations }

sent_pads : (pad : PadChange) (at origin : List ℕ) (output : EndedMessage) (lasting : LastingState) (b : Bool) → is_some (output_at lasting.outputs output.to) ≡ b → pads pad at (output_sent origin output lasting) ≡ output_sent origin output (pads pad at lasting)
sent_pads pad at origin output lasting true is = rw is refl
sent_pads pad at origin output lasting false is = rw is refl

all_sent_pads : (pad : PadChange) (at origin : List ℕ) (outputs : List EndedMessage) (lasting : LastingState) → pads pad at (all_sent origin outputs lasting) ≡ all_sent origin outputs (pads pad at lasting)
all_sent_pads pad at origin [] lasting = refl
all_sent_pads pad at origin (output ∷ outputs) lasting =
    all_sent_pads pad at origin outputs (output_sent origin output lasting)
    ∙ ap (all_sent origin outputs) (sent_pads pad at origin output lasting (is_some (output_at lasting.outputs output.to)) refl)

finishes : (id : ℕ) (message : Message) (outputs : List EndedMessage) (pad : PadChange) (lasting : LastingState) → message_at lasting.messages id ≡ Some message → with_step (all_sent message.origin outputs (gone id (pads pad message.origin lasting))) ≡ applied (Completes id lasting.rows outputs pad) lasting
finishes id message outputs pad lasting found =
    let before = pads pad message.origin lasting in
    ap (λ (n : ℕ). record (all_sent message.origin outputs (gone id before)) { steps = n + 1 }) (all_sent_steps message.origin outputs (gone id before))
    ∙ ap (λ (k : ℕ). record (all_sent message.origin outputs (gone k before)) { steps = lasting.steps + 1 }) (sym (has_its_id id lasting.messages message found))
    ∙ ap (λ (o : Option Message). record (finished_by o (λ _. outputs) (with_pad_by o (λ _. pad) lasting)) { steps = lasting.steps + 1 }) (sym found)

-- the message that a unit's records complete
completes_id : (unit : ℕ) (origin : List ℕ) (id : ℕ) (outputs : List EndedMessage) (lasting : LastingState) → completed_id (completion_records unit origin id outputs lasting) ≡ Some id
completes_id unit origin id [] lasting = refl
completes_id unit origin id (output ∷ outputs) lasting =
    by_output (is_some (output_at lasting.outputs output.to)) (completes_id unit origin id outputs (output_sent origin output lasting)) where
      by_output : (b : Bool) → completed_id (completion_records unit origin id outputs (output_sent origin output lasting)) ≡ Some id →
          completed_id ((if b then Reply unit output.to (next_of output.to lasting.outputs) output.segments else Input unit lasting.next_id origin output.to 0 false output.segments) ∷ completion_records unit origin id outputs (output_sent origin output lasting)) ≡ Some id
      by_output true later = later
      by_output false later = later

-- A unit's outputs, and that its message is completed: at its sync point they leave what completing the message leaves,
-- the pad with it.
pub completes_again : (unit id : ℕ) (message : Message) (outputs : List EndedMessage) (pad : PadChange) (lasting : LastingState) → message_at lasting.messages id ≡ Some message → id < lasting.next_id →
    syncs pad (completion_records unit message.origin id outputs lasting) lasting ≡ Some (applied (Completes id lasting.rows outputs pad) lasting)
completes_again unit id message outputs pad lasting found below =
    let after = all_sent message.origin outputs lasting in
    let records = completion_records unit message.origin id outputs lasting in
    let completed : done (Completed unit id) after ≡ Some (gone id after) =
    ap (λ (o : Option Message). option_map (λ _. gone id after) o) (found_all_sent id message.origin outputs lasting message found) in
    let all : all_done records lasting ≡ Some (all_sent message.origin outputs (gone id lasting)) =
    all_sent_again unit message.origin outputs lasting (Completed unit id ∷ [])
    ∙ ap (option_and_then (all_done [])) completed
    ∙ ap (λ (l : LastingState). Some l) (all_sent_without id message.origin outputs lasting below) in
    let which : completed_message records lasting ≡ Some message =
    ap (option_and_then (message_at lasting.messages)) (completes_id unit message.origin id outputs lasting) ∙ found in
    ap (option_map (λ after. with_step (with_pad_by (completed_message records lasting) (λ _. pad) after))) all
    ∙ ap (λ (o : Option Message). Some (with_step (with_pad_by o (λ _. pad) (all_sent message.origin outputs (gone id lasting))))) which
    ∙ ap (λ (l : LastingState). Some (with_step l)) (all_sent_pads pad message.origin message.origin outputs (gone id lasting))
    ∙ ap (λ (l : LastingState). Some l) (finishes id message outputs pad lasting found)

-- ---- a command

-- its spelling is done again as the command
pub commands_again : (lasting : LastingState) (command : LastingCommand) → IsSpellable command → commands (command_spelling command) lasting ≡ Some (applied (Commands command) lasting)
commands_again lasting command right =
    ap (option_map (λ c. applied (Commands c) lasting)) (spelled_read (command_spelling command) command (record { spelled = refl; named = right.0; assigned = right.1 }))
