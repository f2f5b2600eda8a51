-- The steps on the tables are the steps of the definition.
use Rattle.std.proofs.Common.{◌≡◌, Bool, true, false, not, ◌&&◌, List, [], ◌∷◌, ◌++◌, ℕ, ◌+◌, refl, sym, ◌∙◌, ap, Some, None}
use Rattle.std.specs.Prelude.{if◌then◌else◌, ◌==◌, Option, filter, find}
use Rattle.std.specs.Option.{option_map_or, option_map, option_and_then, is_some}
use Rattle.std.proofs.lemmas.Bool.{eqb-true}
use Rattle.tm_types.specs.declared.abend.AbendCode.{AbendCode}
use Rattle.tm_types.specs.declared.message.Message.{Message}
use Rattle.model_messages.specs.declared.conversation.PadChange.{PadChange}
use Rattle.model_messages.specs.declared.queued.Queued.{Queued}
use Rattle.model_messages.specs.Queue.{messages_of, without_id_queued, has_id}
use Rattle.model_messages.specs.Queue as queue
use Rattle.model_messages.specs.Outputs.{with_terminal, without_first, next_of, reply_at, replies_at}
use Rattle.model_system.specs.System.{System}
use Rattle.model_machine.specs.Machine.{LastingState, message_at, terminal_at}
use Rattle.model_messages.specs.declared.ended_message.EndedMessage.{EndedMessage}
use Rattle.model_machine.specs.LastingSteps.{KeptInput, applied, with_pad_changed, discarded_pad, dfs555i_text, abend_outputs, finished, finished_by, replied, switched, with_pad_by, without_message, input_message}
use Rattle.model_machine.specs.LastingSteps.LastingStep.{Accepts, Acknowledges, Discards}
use Rattle.log_records.specs.declared.record.Record.{Record}
use Rattle.log_records.specs.declared.record.Record.TheVariants.{Input, Command, Reply, Discarded, Completed, Acknowledged, SyncPoint, Checkpoint, Terminal, Code, Change}
use Rattle.model_image.specs.Snapshot.{snapshot_message}
use Rattle.model_image.specs.Replay.{done, all_done, replay_accepts, replay_acknowledges, discards, syncs, completed_id, completed_message, with_step, kept_in_record}
use Rattle.image_records.specs.KeptState.{KeptState}
use Rattle.log_replay.specs.ReplaySteps.{with_added, with_replied, with_gone, with_counted, with_kept_pad, with_accepted, begins_by_input, kept_replies, kept_switch, does, does_all, message_done, step_syncs, step_accepts, step_acknowledges, step_discards, with_discarded}
use Rattle.log_replay.specs.ReplayRules.{lasting_in}
use Rattle.log_replay.proofs.Orders.{messages_more, messages_without}

-- what is found by an id
pub same_message : (id : ℕ) (queued : List Queued) → message_at (messages_of queued) id ≡ queue.queued_message id queued
same_message id [] = refl
same_message id (q ∷ queued) = by_first (q.message.id == id) (same_message id queued) where
  by_first : (b : Bool) → message_at (messages_of queued) id ≡ queue.queued_message id queued → (if b then Some q.message else message_at (messages_of queued) id) ≡ option_map (λ q. q.message) (if b then Some q else find (has_id id) queued)
  by_first true rest = refl
  by_first false rest = rest

its_id : (id : ℕ) (messages : List Message) (message : Message) → message_at messages id ≡ Some message → message.id ≡ id
its_id id [] message found = cc
its_id id (first ∷ messages) message found = by_first (first.id == id) refl (its_id id messages message) found where
  by_first : (b : Bool) → first.id == id ≡ b → (message_at messages id ≡ Some message → message.id ≡ id) → (if b then Some first else message_at messages id) ≡ Some message → message.id ≡ id
  by_first true is later found = let e : first ≡ message = cc in ap (λ (m : Message). m.id) (sym e) ∙ eqb-true first.id id is
  by_first false is later found = later found

module _ (system : System) where
  abbrev told : KeptState → LastingState
  told = lasting_in system

  abbrev with_messages : KeptState → List Message → LastingState
  with_messages kept messages = record (told kept) { messages = messages }

  added_is : (message : Message) (kept : KeptState) → told (with_added message kept) ≡ record (told kept) { messages = messages_of kept.queues.queued ++ message ∷ []; next_id = kept.next_id + 1 }
  added_is message kept = ap (λ (ms : List Message). record (told kept) { messages = ms; next_id = kept.next_id + 1 }) (messages_more kept.queues.queued message)

  gone_is : (id : ℕ) (kept : KeptState) → told (with_gone id kept) ≡ record (told kept) { messages = filter (λ message. not (message.id == id)) (messages_of kept.queues.queued) }
  gone_is id kept = ap (with_messages kept) (messages_without id kept.queues.queued)

  replied_is : (terminal : List ℕ) (number : ℕ) (segments : List (List ℕ)) (kept : KeptState) (unit : ℕ) → done (Reply unit terminal number segments) (told kept) ≡ option_map told (kept_replies terminal number segments kept)
  replied_is terminal number segments kept unit = by_test (next_of terminal kept.outputs == number) where
    by_test : (b : Bool) → (if b then Some (told (with_replied terminal segments kept)) else None) ≡ option_map told (if b then Some (with_replied terminal segments kept) else None)
    by_test true = refl
    by_test false = refl

  switched_is : (number : ℕ) (message : Message) (kept : KeptState) →
      (if (kept.next_id == message.id) && (number == 0) then Some (record (told kept) { messages = messages_of kept.queues.queued ++ message ∷ []; next_id = message.id + 1 }) else None) ≡ option_map told (kept_switch number message kept)
  switched_is number message kept = by_test (kept.next_id == message.id) (number == 0) refl where
    by_test : (a b : Bool) → kept.next_id == message.id ≡ a →
        (if a && b then Some (record (told kept) { messages = messages_of kept.queues.queued ++ message ∷ []; next_id = message.id + 1 }) else None) ≡ option_map told (if a && b then Some (with_added message kept) else None)
    by_test true true same =
        ap (λ (n : ℕ). Some (record (told kept) { messages = messages_of kept.queues.queued ++ message ∷ []; next_id = n + 1 })) (sym (eqb-true kept.next_id message.id same))
        ∙ ap (λ (l : LastingState). Some l) (sym (added_is message kept))
    by_test true false same = refl
    by_test false b same = refl

  completed_is : (id : ℕ) (kept : KeptState) (unit : ℕ) → done (Completed unit id) (told kept) ≡ option_map told (does (Completed unit id) kept)
  completed_is id kept unit =
      ap (option_map (λ _. record (told kept) { messages = filter (λ message. not (message.id == id)) (messages_of kept.queues.queued) })) (same_message id kept.queues.queued)
      ∙ by_found (queue.queued_message id kept.queues.queued) where
        by_found : (o : Option Message) → option_map (λ _. record (told kept) { messages = filter (λ message. not (message.id == id)) (messages_of kept.queues.queued) }) o ≡ option_map told (option_map (λ _. with_gone id kept) o)
        by_found (Some message) = ap (λ (l : LastingState). Some l) (sym (gone_is id kept))
        by_found None = refl

  pub done_is : (r : Record) (kept : KeptState) → done r (told kept) ≡ option_map told (does r kept)
  done_is (Reply unit terminal number segments) kept = replied_is terminal number segments kept unit
  done_is (Input unit id origin code number conversation segments) kept = switched_is number (snapshot_message id origin code conversation segments) kept
  done_is (Completed unit id) kept = completed_is id kept unit
  done_is (Command text) kept = refl
  done_is (Discarded unit id abend number) kept = refl
  done_is (Acknowledged terminal number) kept = refl
  done_is (SyncPoint unit pad) kept = refl
  done_is (Checkpoint checkpoint next_id next_unit steps) kept = refl
  done_is (Terminal name last next stopped conversation) kept = refl
  done_is (Code name stopped class priority) kept = refl
  done_is (Change unit database slot before after) kept = refl

  pub all_done_is : (records : List Record) (kept : KeptState) → all_done records (told kept) ≡ option_map told (does_all records kept)
  all_done_is [] kept = refl
  all_done_is (r ∷ records) kept = ap (option_and_then (all_done records)) (done_is r kept) ∙ by_first (does r kept) (all_done_is records) where
    by_first : (o : Option KeptState) → ((next : KeptState) → all_done records (told next) ≡ option_map told (does_all records next)) → option_and_then (all_done records) (option_map told o) ≡ option_map told (option_and_then (does_all records) o)
    by_first (Some next) later = later next
    by_first None later = refl

  -- a unit's sync point
  message_is : (records : List Record) (kept : KeptState) → completed_message records (told kept) ≡ message_done records kept
  message_is records kept = by_id (completed_id records) where
    by_id : (o : Option ℕ) → option_and_then (message_at (messages_of kept.queues.queued)) o ≡ option_and_then (λ id. queue.queued_message id kept.queues.queued) o
    by_id (Some id) = same_message id kept.queues.queued
    by_id None = refl

  pub syncs_is : (pad : PadChange) (records : List Record) (kept : KeptState) → syncs pad records (told kept) ≡ option_map told (step_syncs pad records kept)
  syncs_is pad records kept =
      ap (λ (o : Option Message). option_map (λ after. with_step (with_pad_by o (λ _. pad) after)) (all_done records (told kept))) (message_is records kept)
      ∙ ap (option_map (λ after. with_step (with_pad_by (message_done records kept) (λ _. pad) after))) (all_done_is records kept)
      ∙ by_done (message_done records kept) (does_all records kept) where
        by_done : (m : Option Message) (o : Option KeptState) → option_map (λ after. with_step (with_pad_by m (λ _. pad) after)) (option_map told o) ≡ option_map told (option_map (λ after. with_counted (with_kept_pad m pad after)) o)
        by_done (Some message) (Some after) = refl
        by_done None (Some after) = refl
        by_done m None = refl

  -- an input
  module _ (id : ℕ) (origin code : List ℕ) (number : ℕ) (conversation : Bool) (segments : List (List ℕ)) (kept : KeptState) where
    abbrev input : KeptInput
    input = record { code = code; conversation = conversation; segments = segments; begins = begins_by_input system kept.conversations origin code conversation }

    pub accepts_is : replay_accepts system id origin code number conversation segments (told kept) ≡ option_map told (step_accepts system id origin code number conversation segments kept)
    accepts_is = by_test (option_map_or (λ terminal. terminal.last + 1 == number) (terminal_at kept.terminals origin) false && (kept.next_id == id)) where
      by_test : (b : Bool) → (if b then Some (applied (Accepts origin number (kept_in_record system (told kept) origin code conversation segments)) (told kept)) else None) ≡ option_map told (if b then Some (with_accepted origin number input kept) else None)
      by_test true =
          ap (λ (ms : List Message). Some (record (told (with_accepted origin number input kept)) { messages = ms }))
          (sym (messages_more kept.queues.queued (input_message kept.next_id origin input)))
      by_test false = refl

  -- an acknowledgement
  pub acknowledges_is : (terminal : List ℕ) (number : ℕ) (kept : KeptState) → replay_acknowledges terminal number (told kept) ≡ option_map told (step_acknowledges terminal number kept)
  acknowledges_is terminal number kept = by_test (option_map_or (λ reply. reply.number == number) (reply_at terminal 0 kept.outputs) false) where
    by_test : (b : Bool) → (if b then Some (applied (Acknowledges terminal) (told kept)) else None) ≡ option_map told (if b then Some (with_counted (record kept { outputs = with_terminal terminal without_first kept.outputs })) else None)
    by_test true = refl
    by_test false = refl

  -- a discarded message
  module _ (id : ℕ) (abend : AbendCode) (number : ℕ) (kept : KeptState) where
    abbrev padded_by : Message → LastingState
    padded_by message = record (told kept) { conversations = with_pad_changed (discarded_pad message) message.origin kept.conversations }

    abbrev segments_of : Message → List (List ℕ)
    segments_of message = dfs555i_text message.code abend ∷ []

    discarded_is : (message : Message) → message.id ≡ id →
        record (finished message (abend_outputs message abend) (padded_by message)) { steps = kept.steps + 1 } ≡ told (with_discarded id abend message kept)
    discarded_is message same = by_terminal (is_some (replies_at message.origin kept.outputs)) where
      fewer : without_message (messages_of kept.queues.queued) message.id ≡ messages_of (without_id_queued id kept.queues.queued)
      fewer = ap (without_message (messages_of kept.queues.queued)) same ∙ sym (messages_without id kept.queues.queued)

      output : EndedMessage
      output = record { to = message.origin; segments = segments_of message }

      left : LastingState
      left = record (padded_by message) { messages = without_message (messages_of kept.queues.queued) message.id }

      tables : KeptState
      tables = with_gone id (with_kept_pad (Some message) (discarded_pad message) kept)

      by_terminal : (b : Bool) → record (if b then replied output left else switched message.origin output left) { steps = kept.steps + 1 }
          ≡ told (with_counted (if b then with_replied message.origin (segments_of message) tables else with_added (snapshot_message kept.next_id message.origin message.origin false (segments_of message)) tables))
      by_terminal true = ap (λ (ms : List Message). record (told (with_counted (with_replied message.origin (segments_of message) tables))) { messages = ms }) fewer
      by_terminal false =
          let more = snapshot_message kept.next_id message.origin message.origin false (segments_of message) in
          ap (λ (ms : List Message). record (told (with_counted (with_added more tables))) { messages = ms })
          (ap (λ (ms : List Message). ms ++ more ∷ []) fewer ∙ sym (messages_more (without_id_queued id kept.queues.queued) more))

    pub discards_is : discards id abend number (told kept) ≡ option_map told (step_discards id abend number kept)
    discards_is = by_found (queue.queued_message id kept.queues.queued) (same_message id kept.queues.queued) where
      by_number : (message : Message) → message.id ≡ id → (b : Bool) →
          (if b then Some (record (finished message (abend_outputs message abend) (padded_by message)) { steps = kept.steps + 1 }) else None) ≡ option_map told (if b then Some (with_discarded id abend message kept) else None)
      by_number message same true = ap (λ (l : LastingState). Some l) (discarded_is message same)
      by_number message same false = refl

      by_found : (o : Option Message) → message_at (messages_of kept.queues.queued) id ≡ o → discards id abend number (told kept) ≡ option_map told (option_and_then (λ message. if next_of message.origin kept.outputs == number then Some (with_discarded id abend message kept) else None) o)
      by_found None is =
          ap (λ (o : Option Message). if option_map_or (λ message. next_of message.origin kept.outputs == number) o false then Some (applied (Discards id abend) (told kept)) else None) is
      by_found (Some message) is =
          ap (λ (o : Option Message). if option_map_or (λ message. next_of message.origin kept.outputs == number) o false
          then Some (record (finished_by o (λ message. abend_outputs message abend) (with_pad_by o discarded_pad (told kept))) { steps = kept.steps + 1 }) else None) is
          ∙ by_number message (its_id id (messages_of kept.queues.queued) message is) (next_of message.origin kept.outputs == number)
