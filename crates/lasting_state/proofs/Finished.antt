-- A message that is done leaves the tables, and what it sends stands behind all others.
use Rattle.std.proofs.Common.{◌≡◌, ℕ, ◌+◌, ◌<◌, ◌≤◌, Bool, true, false, not, cond, List, [], ◌∷◌, ◌++◌, refl, sym, ap, ◌∙◌, subst, Option, Some, None, map, length, arith}
use Rattle.std.proofs.lemmas.List.{append_assoc, append-nil}
use Rattle.std.proofs.lemmas.List.Elements.{filter-append}
use Rattle.std.proofs.lemmas.Bool.{ne_eqb, eqb-true}
use Rattle.std.specs.Prelude.{IsSome, IsSomeAnd, if◌then◌else◌, find, ◌==◌}
use Rattle.std.specs.Option.{is_some, option_map}
use Rattle.tm_types.specs.declared.message.Message.{Message}
use Rattle.model_messages.specs.declared.conversation.PadChange.{PadChange}
use Rattle.model_messages.specs.declared.conversation.TerminalConversation.{TerminalConversation}
use Rattle.model_messages.specs.declared.queued.Queued.{Queued}
use Rattle.model_messages.specs.declared.replies.TerminalReplies.{TerminalReplies}
use Rattle.model_messages.specs.Queue.{QueuesState, IsNewId, has_id, queued_at, queued_message, messages_of, without_id_queued}
use Rattle.model_messages.specs.Outputs.{replies_at, with_terminal, with_reply}
use Rattle.model_messages.proofs.Laws.{found_message, found_behind, message_found, new_id_without, messages_without}
use Rattle.model_messages.specs.declared.ended_message.EndedMessage.{EndedMessage}
use Rattle.model_machine.specs.Machine.{LastingState}
use Rattle.model_machine.specs.declared.lasting.CodeSetting.{CodeSetting}
use Rattle.model_machine.specs.LastingSteps.{finished as finished_state, finished_by, all_sent, switched, replied, without_message, abend_outputs, discarded_pad, with_pad_changed, with_pad_by}
use Rattle.model_machine.specs.LastingSteps.LastingStep.{Completes, Discards}
use Rattle.tm_types.specs.declared.abend.AbendCode.{AbendCode}
use Rattle.model_data.specs.declared.row.Row.{Row}
use Rattle.program_rows.specs.DatabasesState.{DatabasesState, region_at, rows_of_stores}
use Rattle.program_rows.specs.CallAnswers.{IsCommitted, IsGivenUp}
use Rattle.lasting_state.specs.Tables.{TablesState, lasting_of, message_closed, message_finished, Applies, IsMessageFinished, IsMessageClosed}
use Rattle.lasting_state.specs.SentOutputs.{outputs_to_codes, switched_message, switched_messages, with_messages, with_replies, IsSent}
use Rattle.lasting_state.proofs.Sent.{with_terminal_none, switches_still, switches_code, switches_terminal}

abbrev pub waiting : Message → Queued
waiting message = record { message = message; holder = None }

-- ---- the messages behind all others
-- one that was there before goes, and they stay
rest_stays : (origin : List ℕ) (outputs : List EndedMessage) (next id : ℕ) → id < next
    → without_id_queued id (map waiting (switched_messages origin outputs next)) ≡ map waiting (switched_messages origin outputs next)
rest_stays origin [] next id h = refl
rest_stays origin (output ∷ outputs) next id h =
    ap (λ b. cond (not b) (waiting (switched_message origin output next) ∷ without_id_queued id (map waiting (switched_messages origin outputs (next + 1)))) (without_id_queued id (map waiting (switched_messages origin outputs (next + 1)))))
    (ne_eqb next id (λ e. absurd (omega (arith, h, e))))
    ∙ ap (λ qs. waiting (switched_message origin output next) ∷ qs) (rest_stays origin outputs (next + 1) id (omega (arith, h)))

pub gone_before : (origin : List ℕ) (outputs : List EndedMessage) (next id : ℕ) (queued : List Queued) → id < next
    → without_id_queued id (with_messages (switched_messages origin outputs next) queued) ≡ with_messages (switched_messages origin outputs next) (without_id_queued id queued)
gone_before origin outputs next id queued h =
    filter-append (λ q. not (has_id id q)) queued (map waiting (switched_messages origin outputs next))
    ∙ ap (λ qs. without_id_queued id queued ++ qs) (rest_stays origin outputs next id h)

-- what is found has an id below a new one
pub found_below : (id next : ℕ) (queued : List Queued) → IsNewId next queued → IsSome (queued_at id queued) → id < next
found_below id next [] h g = let clash : false ≡ true = g in absurd (cc)
found_below id next (q ∷ queued) h g = by (has_id id q) refl g (found_below id next queued h.1)
  where
    by : (b : Bool) → has_id id q ≡ b → IsSome (cond b (Some q) (queued_at id queued)) → (IsSome (queued_at id queued) → id < next) → id < next
    by true e k rest = omega (arith, h.0, eqb-true q.message.id id e)
    by false e k rest = rest k

-- a message that was there is found before them
pub still_found : (id : ℕ) (messages : List Message) (queued : List Queued) → IsSome (queued_at id queued) → IsSome (queued_at id (with_messages messages queued))
still_found id messages queued h = by (queued_at id queued) refl h
  where
    by : (o : Option Queued) → queued_at id queued ≡ o → IsSome o → IsSome (queued_at id (with_messages messages queued))
    by None e g = let clash : false ≡ true = g in absurd (cc)
    by (Some q) e g = ap is_some (found_behind id queued (map waiting messages) q e)

-- the next id is above all of them
weaker_new : (low high : ℕ) (queued : List Queued) → low ≤ high → IsNewId low queued → IsNewId high queued
weaker_new low high [] h g = tt
weaker_new low high (q ∷ queued) h g = (omega (arith, g.0, h), weaker_new low high queued h g.1)

new_behind : (origin : List ℕ) (outputs : List EndedMessage) (next : ℕ) → IsNewId (next + length outputs) (map waiting (switched_messages origin outputs next))
new_behind origin [] next = tt
new_behind origin (output ∷ outputs) next =
    (omega arith, subst (λ n. IsNewId n (map waiting (switched_messages origin outputs (next + 1)))) (omega arith) (new_behind origin outputs (next + 1)))

new_both : (next : ℕ) (queued others : List Queued) → IsNewId next queued → IsNewId next others → IsNewId next (queued ++ others)
new_both next [] others h g = g
new_both next (q ∷ queued) others h g = (h.0, new_both next queued others h.1 g)

pub new_id_sent : (origin : List ℕ) (outputs : List EndedMessage) (next : ℕ) (queued : List Queued) → IsNewId next queued
    → IsNewId (next + length outputs) (with_messages (switched_messages origin outputs next) queued)
new_id_sent origin outputs next queued h =
    new_both (next + length outputs) queued (map waiting (switched_messages origin outputs next))
    (weaker_new next (next + length outputs) queued (omega arith) h) (new_behind origin outputs next)

-- the next id stays above all when a message is finished
pub new_id_finished : (t : TablesState) (message : Message) (outputs : List EndedMessage) → IsNewId t.next_id t.queues.queued
    → IsNewId (message_finished t message outputs).next_id (message_finished t message outputs).queues.queued
new_id_finished t message outputs h =
    new_id_sent message.origin (outputs_to_codes t.outputs outputs) t.next_id (without_id_queued message.id t.queues.queued) (new_id_without t.next_id message.id t.queues.queued h)

-- ---- the machine's own definition
-- sending, on what lasts: the messages behind all others, the replies, and the next id
abbrev sent_by : List ℕ → List EndedMessage → LastingState → LastingState
sent_by origin outputs lasting = record lasting {
  messages = lasting.messages ++ switched_messages origin (outputs_to_codes lasting.outputs outputs) lasting.next_id;
  next_id = lasting.next_id + length (outputs_to_codes lasting.outputs outputs);
  outputs = with_replies outputs lasting.outputs;
}

module _ (origin : List ℕ) (output : EndedMessage) (outputs : List EndedMessage) (lasting : LastingState) where
  sent_code : is_some (replies_at output.to lasting.outputs) ≡ false → sent_by origin outputs (switched origin output lasting) ≡ sent_by origin (output ∷ outputs) lasting
  sent_code e =
      let moved : outputs_to_codes lasting.outputs (output ∷ outputs) ≡ output ∷ outputs_to_codes lasting.outputs outputs = switches_code lasting.outputs output outputs e in
      let same : with_terminal output.to (with_reply output.segments) lasting.outputs ≡ lasting.outputs = with_terminal_none output.to (with_reply output.segments) lasting.outputs e in
      ap {A = List Message} (λ ms. record lasting { messages = ms; next_id = lasting.next_id + 1 + length (outputs_to_codes lasting.outputs outputs); outputs = with_replies outputs lasting.outputs })
      (append_assoc lasting.messages (switched_message origin output lasting.next_id ∷ []) (switched_messages origin (outputs_to_codes lasting.outputs outputs) (lasting.next_id + 1)))
      ∙ (ap {A = ℕ} (λ n. record lasting { messages = lasting.messages ++ switched_messages origin (output ∷ outputs_to_codes lasting.outputs outputs) lasting.next_id; next_id = n; outputs = with_replies outputs lasting.outputs }) (omega arith)
      ∙ (ap {A = List EndedMessage} (λ os. record lasting { messages = lasting.messages ++ switched_messages origin os lasting.next_id; next_id = lasting.next_id + length os; outputs = with_replies outputs lasting.outputs }) (sym moved)
      ∙ ap {A = List TerminalReplies} (λ ts. record (sent_by origin (output ∷ outputs) lasting) { outputs = with_replies outputs ts }) (sym same)))

  sent_terminal : is_some (replies_at output.to lasting.outputs) ≡ true → sent_by origin outputs (replied output lasting) ≡ sent_by origin (output ∷ outputs) lasting
  sent_terminal e =
      let same : outputs_to_codes (with_terminal output.to (with_reply output.segments) lasting.outputs) outputs ≡ outputs_to_codes lasting.outputs (output ∷ outputs) =
      switches_still output.to output.segments lasting.outputs outputs ∙ sym (switches_terminal lasting.outputs output outputs e) in
      ap {A = List EndedMessage} (λ os. record (sent_by origin (output ∷ outputs) lasting) { messages = lasting.messages ++ switched_messages origin os lasting.next_id; next_id = lasting.next_id + length os }) same

  sent_first : ((after : LastingState) → all_sent origin outputs after ≡ sent_by origin outputs after)
      → (b : Bool) → is_some (replies_at output.to lasting.outputs) ≡ b
      → all_sent origin outputs (if b then replied output lasting else switched origin output lasting) ≡ sent_by origin (output ∷ outputs) lasting
  sent_first rest true e = rest (replied output lasting) ∙ sent_terminal e
  sent_first rest false e = rest (switched origin output lasting) ∙ sent_code e

all_sent_is : (origin : List ℕ) (outputs : List EndedMessage) (lasting : LastingState) → all_sent origin outputs lasting ≡ sent_by origin outputs lasting
all_sent_is origin [] lasting =
    ap {A = List Message} (λ ms. record lasting { messages = ms }) (sym (append-nil lasting.messages))
    ∙ ap {A = ℕ} (λ n. record lasting { messages = lasting.messages ++ []; next_id = n }) (omega arith)
all_sent_is origin (output ∷ outputs) lasting =
    sent_first origin output outputs lasting (λ after. all_sent_is origin outputs after) (is_some (replies_at output.to lasting.outputs)) refl

pub messages_both : (queued : List Queued) (messages : List Message) → messages_of (with_messages messages queued) ≡ messages_of queued ++ messages
messages_both [] [] = refl
messages_both [] (message ∷ messages) = ap (λ ms. message ∷ ms) (messages_both [] messages)
messages_both (q ∷ queued) messages = ap (λ ms. q.message ∷ ms) (messages_both queued messages)

-- what a message that is gone leaves, with these databases, is what the machine says
abbrev state_then : List CodeSetting → TablesState → List (List Row) → LastingState
state_then settings t rows = record (lasting_of settings t) { rows = rows }

closed_lasting : (settings : List CodeSetting) (t : TablesState) (message : Message) (pad : PadChange) (outputs : List EndedMessage) (databases : DatabasesState)
    → lasting_of settings (message_closed databases pad t message outputs)
    ≡ record (finished_state message outputs (record (state_then settings t (rows_of_stores databases.committed)) { conversations = with_pad_changed pad message.origin t.conversations })) { steps = t.steps + 1 }
closed_lasting settings t message pad outputs databases =
    ap {A = List Message} (λ ms. record (lasting_of settings (message_closed databases pad t message outputs)) { messages = ms })
    (messages_both (without_id_queued message.id t.queues.queued) (switched_messages message.origin (outputs_to_codes t.outputs outputs) t.next_id)
    ∙ ap (λ ms. ms ++ switched_messages message.origin (outputs_to_codes t.outputs outputs) t.next_id) (messages_without message.id t.queues.queued))
    ∙ sym (ap {A = LastingState} (λ l. record l { steps = t.steps + 1 })
    (all_sent_is message.origin outputs
    (record (state_then settings t (rows_of_stores databases.committed)) { messages = without_message (messages_of t.queues.queued) message.id; conversations = with_pad_changed pad message.origin t.conversations })))

-- which message it is, by the queues or by the machine
abbrev done_by : List CodeSetting → TablesState → (Message → PadChange) → (Message → List EndedMessage) → List (List Row) → Option Message → LastingState
done_by settings old pads sends rows found =
    record (finished_by found sends (with_pad_by found pads (state_then settings old rows))) { steps = old.steps + 1 }

closed_by : (databases : DatabasesState) (pads : Message → PadChange) (sends : Message → List EndedMessage) (old new : TablesState) (id : ℕ) → IsMessageClosed databases pads sends old new id
    → (settings : List CodeSetting)
    → lasting_of settings new ≡ done_by settings old pads sends (rows_of_stores databases.committed) (find (λ m. m.id == id) (messages_of old.queues.queued))
closed_by databases pads sends old new id h settings =
    by (queued_message id old.queues.queued) refl h
    ∙ ap (done_by settings old pads sends (rows_of_stores databases.committed)) (sym (message_found id old.queues.queued))
  where
    by : (found : Option Message) → queued_message id old.queues.queued ≡ found
        → IsSomeAnd found (λ message. (message.id ≡ id) × (new ≡ message_closed databases (pads message) old message (sends message)))
        → lasting_of settings new ≡ done_by settings old pads sends (rows_of_stores databases.committed) found
    by (Some message) e g = ap (lasting_of settings) g.1 ∙ closed_lasting settings old message (pads message) (sends message) databases
    by None e g = absurd g

pub completes_is : (region : ℕ) (old new : TablesState) (id : ℕ) (outputs : List EndedMessage) (pad : PadChange) → IsCommitted region old.databases new.databases
    → IsMessageClosed new.databases (λ _. pad) (λ _. outputs) old new id → Applies (Completes id (region_at region old.databases).rows outputs pad) old new
completes_is region old new id outputs pad stays h settings =
    closed_by new.databases (λ _. pad) (λ _. outputs) old new id h settings
    ∙ ap {A = List (List Row)} (λ rows. done_by settings old (λ _. pad) (λ _. outputs) rows (find (λ m. m.id == id) (messages_of old.queues.queued)))
    stays.rows

pub discards_is : (region : ℕ) (old new : TablesState) (id : ℕ) (abend : AbendCode) → IsGivenUp region old.databases new.databases
    → IsMessageClosed new.databases discarded_pad (λ message. abend_outputs message abend) old new id → Applies (Discards id abend) old new
discards_is region old new id abend back h settings =
    closed_by new.databases discarded_pad (λ message. abend_outputs message abend) old new id h settings
    ∙ ap {A = List (List Row)} (λ rows. done_by settings old discarded_pad (λ message. abend_outputs message abend) rows (find (λ m. m.id == id) (messages_of old.queues.queued)))
    (ap rows_of_stores back.committed)

-- what was finished, with the pad and the databases then
pub closes : (databases : DatabasesState) (conversations : List TerminalConversation) (pads : Message → PadChange) (sends : Message → List EndedMessage) (pad : PadChange) (outputs : List EndedMessage)
    (origin : List ℕ) (old middle new : TablesState) (id : ℕ)
    → IsSomeAnd (queued_message id old.queues.queued) (λ message. (outputs ≡ sends message) × (pad ≡ pads message)) → IsMessageFinished old middle id outputs
    → IsSomeAnd (queued_message id old.queues.queued) (λ message. origin ≡ message.origin)
    → conversations ≡ with_pad_changed pad origin middle.conversations
    → new ≡ record middle { databases = databases; conversations = conversations } → IsMessageClosed databases pads sends old new id
closes databases conversations pads sends pad outputs origin old middle new id sent done from padded_so is = by (queued_message id old.queues.queued) sent done from
  where
    by : (found : Option Message) → IsSomeAnd found (λ message. (outputs ≡ sends message) × (pad ≡ pads message))
        → IsSomeAnd found (λ message. (message.id ≡ id) × (middle ≡ message_finished old message outputs))
        → IsSomeAnd found (λ message. origin ≡ message.origin)
        → IsSomeAnd found (λ message. (message.id ≡ id) × (new ≡ message_closed databases (pads message) old message (sends message)))
    by (Some message) s d f = (
      d.0,
      is
          ∙ ap {A = List TerminalConversation} (λ cs. record middle { databases = databases; conversations = cs }) padded_so
          ∙ ap {A = TablesState} (λ t. record t { databases = databases; conversations = with_pad_changed pad origin t.conversations }) d.1
          ∙ ap {A = List ℕ} (λ o. record (message_finished old message outputs) { databases = databases; conversations = with_pad_changed pad o old.conversations }) f
          ∙ ap (message_closed databases pad old message) s.0
          ∙ ap (λ p. message_closed databases p old message (sends message)) s.1,
    )
    by None s d f = absurd d

-- what holds of the message that is lent holds of the one that is there
pub found_message_and : (id : ℕ) (queued : List Queued) (message : Message) (P : Message → Type 0) → Some message ≡ queued_message id queued → P message → IsSomeAnd (queued_message id queued) P
found_message_and id queued message P e h = rw (sym e) h

pub some_message : (id : ℕ) (queued : List Queued) (P : Message → Type 0) → IsSome (queued_at id queued) → ((message : Message) → P message) → IsSomeAnd (queued_message id queued) P
some_message id queued P there h = by (queued_at id queued) there
  where
    by : (found : Option Queued) → IsSome found → IsSomeAnd (option_map (λ q. q.message) found) P
    by (Some q) g = h q.message
    by None g = let clash : false ≡ true = g in absurd (cc)

-- ---- the call
pub finished_is : (old : TablesState) (sent_queues queues : QueuesState) (outputs : List TerminalReplies) (next id : ℕ) (sends : List EndedMessage) (message : Message)
    → Some message ≡ queued_message id old.queues.queued → id < old.next_id
    → IsSent message.origin sends old.queues sent_queues old.outputs outputs old.next_id next
    → queues ≡ record sent_queues { queued = without_id_queued id sent_queues.queued }
    → IsMessageFinished old (record old { queues = queues; next_id = next; outputs = outputs; steps = old.steps + 1 }) id sends
finished_is old sent_queues queues outputs next id sends message found below h left =
    rw (sym found) (
      same,
      ap {A = QueuesState} (λ q. record old { queues = q; next_id = next; outputs = outputs; steps = old.steps + 1 })
          (left
          ∙ (ap {A = QueuesState} (λ q. record q { queued = without_id_queued id q.queued }) h.queues
          ∙ (ap {A = List Queued} (λ qs. record old.queues { queued = qs }) (gone_before message.origin (outputs_to_codes old.outputs sends) old.next_id id old.queues.queued below)
          ∙ ap {A = ℕ} (λ n. record old.queues { queued = with_messages (switched_messages message.origin (outputs_to_codes old.outputs sends) old.next_id) (without_id_queued n old.queues.queued) }) (sym same))))
          ∙ (ap {A = ℕ} (λ n. record (message_finished old message sends) { next_id = n; outputs = outputs }) h.next_id
          ∙ ap {A = List TerminalReplies} (λ ts. record (message_finished old message sends) { outputs = ts }) h.replies),
    )
  where
    same : message.id ≡ id
    same = found_message id old.queues.queued message (sym found)

pub finished_new : (origin : List ℕ) (sends : List EndedMessage) (old sent_queues queues : QueuesState) (terminals outputs : List TerminalReplies) (next after id : ℕ)
    → IsNewId next old.queued
    → IsSent origin sends old sent_queues terminals outputs next after
    → queues ≡ record sent_queues { queued = without_id_queued id sent_queues.queued }
    → IsNewId after queues.queued
finished_new origin sends old sent_queues queues terminals outputs next after id fresh h left =
    subst (λ q. IsNewId after q.queued) (sym left)
    (new_id_without after id sent_queues.queued
    (subst (λ q. IsNewId after q.queued) (sym h.queues)
    (subst (λ n. IsNewId n (with_messages (switched_messages origin (outputs_to_codes terminals sends) next) old.queued)) (sym h.next_id)
    (new_id_sent origin (outputs_to_codes terminals sends) next old.queued fresh))))
