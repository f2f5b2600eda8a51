-- What each step leaves of the rule on messages, by what is counted.
use Rattle.std.proofs.Common.{◌≡◌, Bool, true, false, not, ◌&&◌, ◌||◌, List, [], ◌∷◌, ℕ, ◌-◌, refl, sym, ◌∙◌, ap, subst, Some, None}
use Rattle.std.specs.Prelude.{if◌then◌else◌, ◌==◌, Option}
use Rattle.std.specs.List.{list_all, list_any}
use Rattle.std.specs.Option.{option_map_or, option_map, option_and_then, is_some}
use Rattle.std.specs.Str.{bytes_eq}
use Rattle.std.proofs.lemmas.Bool.{eqb-true}
use Rattle.tm_types.specs.declared.abend.AbendCode.{AbendCode}
use Rattle.tm_types.specs.declared.command.LastingCommand.{LastingCommand}
use Rattle.tm_types.specs.declared.command.LastingCommand.TheVariants.{StartTransaction, StopTransaction, StartTerminal, StopTerminal, DequeueFirst, DequeueAll, Exit, AssignClass, AssignPriority}
use Rattle.tm_types.specs.declared.message.Message.{Message}
use Rattle.model_messages.specs.declared.conversation.Conversation.{Conversation}
use Rattle.model_messages.specs.declared.conversation.TerminalConversation.{TerminalConversation}
use Rattle.model_messages.specs.declared.conversation.PadChange.{PadChange}
use Rattle.model_messages.specs.declared.conversation.PadChange.TheVariants.{Stays, New, Ends}
use Rattle.model_messages.specs.Pads.{begun}
use Rattle.model_messages.specs.Terminals.{is_conversation_of, conversation_at, with_terminal}
use Rattle.model_messages.specs.ConversationInput.{is_conversing}
use Rattle.model_system.specs.System.{System}
use Rattle.model_messages.specs.Queue.{messages_of, queued_message}
use Rattle.model_messages.specs.Outputs.{replies_at, next_of}
use Rattle.model_machine.specs.LastingSteps.{with_begun, with_pad_changed, with_conversation_text, discarded_pad, dfs555i_text}
use Rattle.log_records.specs.declared.record.Record.{Record}
use Rattle.model_image.specs.States.{is_system_terminal, is_system_code, are_alone, breaks_a_rule}
use Rattle.model_image.specs.Replay.{pad_size}
use Rattle.model_image.specs.Snapshot.{snapshot_message}
use Rattle.image_records.specs.KeptState.{KeptState}
use Rattle.image_law.proofs.Bools.{first_of, second_of, same_bytes}
use Rattle.image_law.proofs.Conversing.{put, other_stays, all_known_changed, none_converse}
use Rattle.image_law.proofs.Lists.{found_passes}
use Rattle.image_law.proofs.SoundLaws.{is_sound}
use Rattle.log_replay.specs.ReplaySteps.{with_added, with_replied, with_gone, with_counted, with_kept_pad, with_pad_at, with_discarded, begins_by_input, does_all, message_done, step_accepts, step_acknowledges, step_commands, step_discards, step_syncs}
use Rattle.log_replay.specs.ReplayRules.{lasting_in, AreSound, IsOrderly, knows, knows_by, are_right}
use Rattle.log_replay.specs.ConversationTally.{faults_of, count_at, Counts, TallyState, TallyTells, TallyFollows, AddsMessage, Removes, Discards, IsDiscardTallied, ends_pad, conversation_ended_by, is_right}
use Rattle.log_replay.proofs.Orders.{messages_more, messages_without}
use Rattle.log_replay.proofs.Lifted.{same_message}
use Rattle.log_replay.proofs.Leaving.{accepted_by, acknowledged_by, synced_by, conversations_stay}
use Rattle.log_replay.proofs.DoneSteps.{all_keep}
use Rattle.log_replay.proofs.Talks.{taken_out, any_is, right_is, comes, goes}
use Rattle.tm_types.proofs.Truths.{both}

and_true : (b : Bool) → b && true ≡ b
and_true true = refl
and_true false = refl

-- ---- messages come and go in the tables

module _ (system : System) (kept : KeptState) (old new : TallyState) (follows : TallyFollows system kept old) where
  pub added_follows : (message : Message) → AddsMessage message.origin message.conversation (knows system kept.conversations message) old new → TallyFollows system (with_added message kept) new
  added_follows message adds =
      subst (λ (ms : List Message). TallyTells system kept.conversations ms new) (sym (messages_more kept.queues.queued message))
      (comes system kept.conversations (messages_of kept.queues.queued) message old new follows adds)

  pub gone_follows : (id : ℕ) (message : Message) → IsOrderly kept → queued_message id kept.queues.queued ≡ Some message →
      Removes message.origin message.conversation (knows system kept.conversations message) old new → TallyFollows system (with_gone id kept) new
  gone_follows id message orderly found removes =
      subst (λ (ms : List Message). TallyTells system kept.conversations ms new) (sym (messages_without id kept.queues.queued))
      (goes system kept.conversations id (messages_of kept.queues.queued) message old new
      (taken_out id kept.next_id (messages_of kept.queues.queued) message orderly.ascending (same_message id kept.queues.queued ∙ found)) follows removes)

-- ---- a conversation changes

-- messages beside conversations are known, and at most one of each
abbrev right_beside : System → List TerminalConversation → List Message → Bool
right_beside system conversations messages = list_all (knows system conversations) messages && are_alone messages

none_at : (name : List ℕ) (all : List TerminalConversation) → conversation_at name (with_terminal name (put (λ _. None)) all) ≡ None
none_at name [] = refl
none_at name (t ∷ ts) = by_head (is_conversation_of name t) refl (none_at name ts) where
  by_head : (b : Bool) → is_conversation_of name t ≡ b → conversation_at name (with_terminal name (put (λ _. None)) ts) ≡ None → conversation_at name (if b then put (λ _. None) t ∷ ts else t ∷ with_terminal name (put (λ _. None)) ts) ≡ None
  by_head true is later = rw is refl
  by_head false is later = rw is later

same_code : (name : List ℕ) (text other code : List ℕ) (all : List TerminalConversation) →
    option_map_or (λ c. bytes_eq c.code code) (conversation_at other (with_terminal name (put (option_map (with_conversation_text text))) all)) false ≡ option_map_or (λ c. bytes_eq c.code code) (conversation_at other all) false
same_code name text other code all = by_name (bytes_eq name other) refl where
  by_talk : (o : Option Conversation) → option_map_or (λ c. bytes_eq c.code code) (option_map (with_conversation_text text) o) false ≡ option_map_or (λ c. bytes_eq c.code code) o false
  by_talk (Some c) = refl
  by_talk None = refl

  its_own : (all : List TerminalConversation) → option_map_or (λ c. bytes_eq c.code code) (conversation_at name (with_terminal name (put (option_map (with_conversation_text text))) all)) false ≡ option_map_or (λ c. bytes_eq c.code code) (conversation_at name all) false
  its_own [] = refl
  its_own (t ∷ ts) = by_head (is_conversation_of name t) refl (its_own ts) where
    by_head : (b : Bool) → is_conversation_of name t ≡ b → option_map_or (λ c. bytes_eq c.code code) (conversation_at name (with_terminal name (put (option_map (with_conversation_text text))) ts)) false ≡ option_map_or (λ c. bytes_eq c.code code) (conversation_at name ts) false →
        option_map_or (λ c. bytes_eq c.code code) (conversation_at name (if b then put (option_map (with_conversation_text text)) t ∷ ts else t ∷ with_terminal name (put (option_map (with_conversation_text text))) ts)) false ≡ option_map_or (λ c. bytes_eq c.code code) (conversation_at name (t ∷ ts)) false
    by_head true is later = rw is (by_talk t.conversation)
    by_head false is later = rw is later

  by_name : (b : Bool) → bytes_eq name other ≡ b →
      option_map_or (λ c. bytes_eq c.code code) (conversation_at other (with_terminal name (put (option_map (with_conversation_text text))) all)) false ≡ option_map_or (λ c. bytes_eq c.code code) (conversation_at other all) false
  by_name true same =
      subst (λ (o : List ℕ). option_map_or (λ c. bytes_eq c.code code) (conversation_at o (with_terminal name (put (option_map (with_conversation_text text))) all)) false ≡ option_map_or (λ c. bytes_eq c.code code) (conversation_at o all) false)
      (same_bytes name other same) (its_own all)
  by_name false apart = ap (λ (o : Option Conversation). option_map_or (λ c. bytes_eq c.code code) o false) (other_stays name (option_map (with_conversation_text text)) other all apart)

module _ (system : System) (conversations : List TerminalConversation) where
  -- another pad leaves each message as known as it was
  knows_padded : (name text : List ℕ) (message : Message) → knows system (with_terminal name (put (option_map (with_conversation_text text))) conversations) message ≡ knows system conversations message
  knows_padded name text message = by_flag message.conversation where
    by_flag : (b : Bool) → knows_by system (with_terminal name (put (option_map (with_conversation_text text))) conversations) message.origin message.code b ≡ knows_by system conversations message.origin message.code b
    by_flag true = ap (λ b. is_system_terminal system message.origin && is_system_code system message.code && b) (same_code name text message.origin message.code conversations)
    by_flag false = refl

  all_padded : (name text : List ℕ) (messages : List Message) → list_all (knows system (with_terminal name (put (option_map (with_conversation_text text))) conversations)) messages ≡ list_all (knows system conversations) messages
  all_padded name text [] = refl
  all_padded name text (m ∷ messages) =
      ap (λ b. b && list_all (knows system (with_terminal name (put (option_map (with_conversation_text text))) conversations)) messages) (knows_padded name text m)
      ∙ ap (λ b. knows system conversations m && b) (all_padded name text messages)

  -- where a conversation ends, its messages aren't known any more
  knows_ended : (name : List ℕ) (message : Message) → knows system (with_terminal name (put (λ _. None)) conversations) message ≡ (knows system conversations message && not (is_conversing name message))
  knows_ended name message = by_flag message.conversation where
    names : Bool
    names = is_system_terminal system message.origin && is_system_code system message.code

    none_both : (b : Bool) → b && false ≡ false
    none_both true = refl
    none_both false = refl

    by_name : (b : Bool) → bytes_eq message.origin name ≡ b → knows_by system (with_terminal name (put (λ _. None)) conversations) message.origin message.code true ≡ (knows_by system conversations message.origin message.code true && not (b && true))
    by_name true same =
        ap (λ (o : Option Conversation). names && option_map_or (λ c. bytes_eq c.code message.code) o false)
        (ap (λ (n : List ℕ). conversation_at n (with_terminal name (put (λ _. None)) conversations)) (same_bytes message.origin name same) ∙ none_at name conversations)
        ∙ none_both names ∙ sym (none_both (knows_by system conversations message.origin message.code true))
    by_name false apart =
        ap (λ (o : Option Conversation). names && option_map_or (λ c. bytes_eq c.code message.code) o false) (other_stays name (λ _. None) message.origin conversations (turned (bytes_eq name message.origin) refl))
        ∙ sym (and_true (knows_by system conversations message.origin message.code true)) where
          turned : (b : Bool) → bytes_eq name message.origin ≡ b → bytes_eq name message.origin ≡ false
          turned true same =
              ap (λ (n : List ℕ). bytes_eq n message.origin) (same_bytes name message.origin same) ∙ ap (λ (n : List ℕ). bytes_eq message.origin n) (sym (same_bytes name message.origin same)) ∙ apart
          turned false is = is

    by_flag : (b : Bool) → knows_by system (with_terminal name (put (λ _. None)) conversations) message.origin message.code b ≡ (knows_by system conversations message.origin message.code b && not (bytes_eq message.origin name && b))
    by_flag true = by_name (bytes_eq message.origin name) refl
    by_flag false = sym (ap (λ b. knows_by system conversations message.origin message.code false && not b) (none_both (bytes_eq message.origin name)) ∙ and_true (knows_by system conversations message.origin message.code false))

  all_ended : (name : List ℕ) (messages : List Message) → list_all (knows system (with_terminal name (put (λ _. None)) conversations)) messages ≡ (list_all (knows system conversations) messages && not (list_any (is_conversing name) messages))
  all_ended name [] = refl
  all_ended name (m ∷ messages) =
      ap (λ b. b && list_all (knows system (with_terminal name (put (λ _. None)) conversations)) messages) (knows_ended name m)
      ∙ ap (λ b. (knows system conversations m && not (is_conversing name m)) && b) (all_ended name messages)
      ∙ sorted (knows system conversations m) (is_conversing name m) (list_all (knows system conversations) messages) (list_any (is_conversing name) messages) where
        sorted : (k c all any : Bool) → ((k && not c) && (all && not any)) ≡ ((k && all) && not (c || any))
        sorted false c all any = refl
        sorted true false all any = refl
        sorted true true true any = refl
        sorted true true false any = refl

  module _ (messages : List Message) (tally : TallyState) (tells : TallyTells system conversations messages tally) where
    told_right : (tally.faults == 0) ≡ right_beside system conversations messages
    told_right = ap (λ n. n == 0) tells.faults ∙ sym (right_is system conversations messages)

    -- what is right once this became of the conversation of a terminal
    pub padded_right : (pad : PadChange) (name : List ℕ) → is_right (ends_pad pad) (Some name) tally ≡ right_beside system (with_pad_changed pad name conversations) messages
    padded_right Stays name = and_true (tally.faults == 0) ∙ told_right
    padded_right (New text) name = and_true (tally.faults == 0) ∙ told_right ∙ ap (λ b. b && are_alone messages) (sym (all_padded name text messages))
    padded_right Ends name =
        ap (λ b. b && not (not (count_at name tally.counts == 0))) told_right
        ∙ ap (λ n. right_beside system conversations messages && not (not (n == 0))) (tells.counts name)
        ∙ ap (λ b. right_beside system conversations messages && not b) (sym (any_is name messages))
        ∙ swapped (list_all (knows system conversations) messages) (are_alone messages) (not (list_any (is_conversing name) messages))
        ∙ ap (λ b. b && are_alone messages) (sym (all_ended name messages)) where
          swapped : (all alone none : Bool) → ((all && alone) && none) ≡ ((all && none) && alone)
          swapped false alone none = refl
          swapped true true none = sym (and_true none)
          swapped true false true = refl
          swapped true false false = refl

    -- and where there is no such terminal
    pub same_right : (ends : Bool) → is_right ends None tally ≡ right_beside system conversations messages
    same_right true = and_true (tally.faults == 0) ∙ told_right
    same_right false = and_true (tally.faults == 0) ∙ told_right

-- ---- what is gone on with

module _ (system : System) where
  -- tables that break no rule have no fault
  none_wrong : (kept : KeptState) → breaks_a_rule system (lasting_in system kept) ≡ false → are_right system kept ≡ true
  none_wrong kept sound =
      let s = is_sound system (lasting_in system kept) sound in
      both (list_all (knows system kept.conversations) (messages_of kept.queues.queued)) (are_alone (messages_of kept.queues.queued)) s.known s.alone

  pub right_before : (kept : KeptState) → AreSound system kept → are_right system kept ≡ true
  right_before kept before = none_wrong kept before.sound

  no_faults : (kept : KeptState) → are_right system kept ≡ true → faults_of system kept.conversations (messages_of kept.queues.queued) ≡ 0
  no_faults kept right = eqb-true (faults_of system kept.conversations (messages_of kept.queues.queued)) 0 (sym (right_is system kept.conversations (messages_of kept.queues.queued)) ∙ right)

  -- where the tables break no rule, the counts alone say all
  pub follows_sound : (kept : KeptState) (tally : TallyState) → AreSound system kept → Counts (messages_of kept.queues.queued) tally.counts → tally.faults ≡ 0 → TallyFollows system kept tally
  follows_sound kept tally before counts none = record { counts = counts; faults = none ∙ sym (no_faults kept (right_before kept before)) }

  -- what a step left was judged, and breaks no rule
  pub goes_on : (kept : KeptState) (tally : TallyState) → Counts (messages_of kept.queues.queued) tally.counts → (ends : Bool) (origin : Option (List ℕ)) → is_right ends origin tally ≡ are_right system kept →
      (fine : Bool) → fine ≡ not (breaks_a_rule system (lasting_in system kept)) → fine ≡ true → TallyFollows system kept tally
  goes_on kept tally counts ends origin right fine judged is =
      let none : breaks_a_rule system (lasting_in system kept) ≡ false = broken (breaks_a_rule system (lasting_in system kept)) (sym judged ∙ is) in
      let are : are_right system kept ≡ true = none_wrong kept none in
      record {
        counts = counts;
        faults =
            eqb-true tally.faults 0 (first_of (tally.faults == 0) (not (ends && option_map_or (λ name. not (count_at name tally.counts == 0)) origin false)) (right ∙ are))
            ∙ sym (no_faults kept are);
      } where
        broken : (b : Bool) → not b ≡ true → b ≡ false
        broken true is = cc
        broken false is = refl

-- ---- the steps

module _ (system : System) (kept : KeptState) (before : AreSound system kept) (old : TallyState) (follows : TallyFollows system kept old) where
  abbrev messages : List Message
  messages = messages_of kept.queues.queued

  all_known : list_all (knows system kept.conversations) messages ≡ true
  all_known = first_of (list_all (knows system kept.conversations) messages) (are_alone messages) (right_before system kept before)

  -- where a conversation begins, no message was of one there
  begun_follows : (origin code : List ℕ) (conversation : Bool) → TallyTells system (with_begun origin (begins_by_input system kept.conversations origin code conversation) kept.conversations) messages old
  begun_follows origin code false = follows
  begun_follows origin code true = by_talk (conversation_at origin kept.conversations) refl where
    talk : Conversation
    talk = begun code (pad_size system code - 14)

    by_talk : (o : Option Conversation) → conversation_at origin kept.conversations ≡ o → TallyTells system (with_begun origin (if not (is_some o) then Some talk else None) kept.conversations) messages old
    by_talk (Some c) is = follows
    by_talk None is = record {
      counts = follows.counts;
      faults =
          follows.faults ∙ no_faults system kept (right_before system kept before)
          ∙ sym (eqb-true (faults_of system after messages) 0 (sym (right_is system after messages) ∙ both (list_all (knows system after) messages) (are_alone messages) known alone));
    } where
      after : List TerminalConversation
      after = with_begun origin (Some talk) kept.conversations

      alone : are_alone messages ≡ true
      alone = second_of (list_all (knows system kept.conversations) messages) (are_alone messages) (right_before system kept before)

      known : list_all (knows system after) messages ≡ true
      known = all_known_changed origin (λ _. Some talk) system (lasting_in system kept) messages (none_converse system (lasting_in system kept) origin messages is all_known) all_known

  module _ (id : ℕ) (origin code : List ℕ) (number : ℕ) (conversation : Bool) (segments : List (List ℕ)) (new : KeptState) (tally : TallyState) (done : step_accepts system id origin code number conversation segments kept ≡ Some new) where
    pub accepted_follows : AddsMessage origin conversation (knows_by system new.conversations origin code conversation) old tally → TallyFollows system new tally
    accepted_follows =
        accepted_by system kept before id origin code number conversation segments
        (λ new. AddsMessage origin conversation (knows_by system new.conversations origin code conversation) old tally → TallyFollows system new tally)
        (λ t found adds.
        let begins = begins_by_input system kept.conversations origin code conversation in
        let begun = with_begun origin begins kept.conversations in
        let message : Message = snapshot_message kept.next_id origin code conversation segments in
        subst (λ (ms : List Message). TallyTells system begun ms tally) (sym (messages_more kept.queues.queued message)) (comes system begun messages message old tally (begun_follows origin code conversation) adds)) new done

  pub acknowledged_follows : (terminal : List ℕ) (number : ℕ) (new : KeptState) → step_acknowledges terminal number kept ≡ Some new → TallyFollows system new old
  acknowledged_follows terminal number = acknowledged_by system kept before terminal number (λ new. TallyFollows system new old) follows

  pub acknowledged_right : (terminal : List ℕ) (number : ℕ) (new : KeptState) → step_acknowledges terminal number kept ≡ Some new → true ≡ are_right system new
  acknowledged_right terminal number = acknowledged_by system kept before terminal number (λ new. true ≡ are_right system new) (sym (right_before system kept before))

  pub commanded_counts : (command : LastingCommand) → Counts (messages_of (step_commands command kept).queues.queued) old.counts
  commanded_counts (StartTransaction code) = follows.counts
  commanded_counts (StopTransaction code) = follows.counts
  commanded_counts (StartTerminal terminal) = follows.counts
  commanded_counts (StopTerminal terminal) = follows.counts
  commanded_counts (DequeueFirst terminal) = follows.counts
  commanded_counts (DequeueAll terminal) = follows.counts
  commanded_counts (Exit terminal) = follows.counts
  commanded_counts (AssignClass code class) = follows.counts
  commanded_counts (AssignPriority code priority) = follows.counts

  pub commanded_right : (command : LastingCommand) → is_right true (conversation_ended_by command) old ≡ are_right system (step_commands command kept)
  commanded_right (StartTransaction code) = same_right system kept.conversations messages old follows true
  commanded_right (StopTransaction code) = same_right system kept.conversations messages old follows true
  commanded_right (StartTerminal terminal) = same_right system kept.conversations messages old follows true
  commanded_right (StopTerminal terminal) = same_right system kept.conversations messages old follows true
  commanded_right (DequeueFirst terminal) = same_right system kept.conversations messages old follows true
  commanded_right (DequeueAll terminal) = same_right system kept.conversations messages old follows true
  commanded_right (Exit terminal) = padded_right system kept.conversations messages old follows Ends terminal
  commanded_right (AssignClass code class) = same_right system kept.conversations messages old follows true
  commanded_right (AssignPriority code priority) = same_right system kept.conversations messages old follows true

-- a unit's sync point, behind its records
module _ (system : System) (kept : KeptState) (before : AreSound system kept) (pad : PadChange) (records : List Record) (new : KeptState) (tally : TallyState) (done : step_syncs pad records kept ≡ Some new)
    (tells : TallyTells system kept.conversations (messages_of new.queues.queued) tally) where
  pub synced_right : is_right (ends_pad pad) (option_map (λ message. message.origin) (message_done records kept)) tally ≡ are_right system new
  synced_right =
      synced_by system kept before pad records
      (λ new. TallyTells system kept.conversations (messages_of new.queues.queued) tally → is_right (ends_pad pad) (option_map (λ message. message.origin) (message_done records kept)) tally ≡ are_right system new)
      (λ after all. by_message after (conversations_stay system kept before pad records after all) (message_done records kept)) new done tells where
        by_message : (after : KeptState) → after.conversations ≡ kept.conversations → (m : Option Message) → TallyTells system kept.conversations (messages_of (with_kept_pad m pad after).queues.queued) tally →
            is_right (ends_pad pad) (option_map (λ message. message.origin) m) tally ≡ are_right system (with_counted (with_kept_pad m pad after))
        by_message after same (Some message) tells =
            padded_right system kept.conversations (messages_of after.queues.queued) tally tells pad message.origin
            ∙ ap (λ (all : List TerminalConversation). right_beside system (with_pad_changed pad message.origin all) (messages_of after.queues.queued)) (sym same)
        by_message after same None tells =
            same_right system kept.conversations (messages_of after.queues.queued) tally tells (ends_pad pad)
            ∙ ap (λ (all : List TerminalConversation). right_beside system all (messages_of after.queues.queued)) (sym same)

-- a discarded message
module _ (system : System) (kept : KeptState) (before : AreSound system kept) (orderly : IsOrderly kept) (old tally : TallyState) (follows : TallyFollows system kept old) (id : ℕ) (abend : AbendCode) (number : ℕ) (message : Message)
    (found : queued_message id kept.queues.queued ≡ Some message) (counted : Discards system kept message old tally) (new : KeptState) (done : step_discards id abend number kept ≡ Some new) where
  abbrev segments : List (List ℕ)
  segments = dfs555i_text message.code abend ∷ []

  abbrev gone : KeptState
  gone = with_gone id (with_kept_pad (Some message) (discarded_pad message) kept)

  abbrev told : Message
  told = snapshot_message kept.next_id message.origin message.origin false segments

  is_discarded : with_discarded id abend message kept ≡ new
  is_discarded = by_number (next_of message.origin kept.outputs == number) (sym (ap (option_and_then (λ message. if next_of message.origin kept.outputs == number then Some (with_discarded id abend message kept) else None)) found) ∙ done) where
    by_number : (b : Bool) → (if b then Some (with_discarded id abend message kept) else None) ≡ Some new → with_discarded id abend message kept ≡ new
    by_number true is = cc
    by_number false is = cc

  known : knows system kept.conversations message ≡ true
  known =
      found_passes (knows system kept.conversations) (λ m. m.id == id) (messages_of kept.queues.queued) message
      (first_of (list_all (knows system kept.conversations) (messages_of kept.queues.queued)) (are_alone (messages_of kept.queues.queued)) (right_before system kept before))
      (same_message id kept.queues.queued ∙ found)

  between_follows : TallyFollows system (with_gone id kept) counted.between
  between_follows =
      gone_follows system kept old counted.between follows id message orderly found
      (subst (λ (b : Bool). Removes message.origin message.conversation b old counted.between) (sym known) counted.removed)

  pub discarded_tells : TallyTells system kept.conversations (messages_of new.queues.queued) tally
  discarded_tells = subst (λ (k : KeptState). TallyTells system kept.conversations (messages_of k.queues.queued) tally) is_discarded (by_told (is_some (replies_at message.origin kept.outputs)) counted.told) where
    by_told : (b : Bool) → IsDiscardTallied system kept message.origin b counted.between tally →
        TallyTells system kept.conversations (messages_of (with_counted (if b then with_replied message.origin segments gone else with_added told gone)).queues.queued) tally
    by_told true same = subst (λ (t : TallyState). TallyTells system kept.conversations (messages_of gone.queues.queued) t) (sym same) between_follows
    by_told false adds =
        subst (λ (ms : List Message). TallyTells system kept.conversations ms tally) (sym (messages_more gone.queues.queued told))
        (comes system kept.conversations (messages_of gone.queues.queued) told counted.between tally between_follows adds)

  pub discarded_right : is_right message.conversation (Some message.origin) tally ≡ are_right system new
  discarded_right =
      ap (λ b. is_right b (Some message.origin) tally) (sym (by_flag message.conversation))
      ∙ padded_right system kept.conversations (messages_of new.queues.queued) tally discarded_tells (discarded_pad message) message.origin
      ∙ ap (λ (all : List TerminalConversation). right_beside system all (messages_of new.queues.queued)) left where
        by_flag : (b : Bool) → ends_pad (if b then Ends else Stays) ≡ b
        by_flag true = refl
        by_flag false = refl

        by_told : (b : Bool) → with_pad_changed (discarded_pad message) message.origin kept.conversations ≡ (with_counted (if b then with_replied message.origin segments gone else with_added told gone)).conversations
        by_told true = refl
        by_told false = refl

        left : with_pad_changed (discarded_pad message) message.origin kept.conversations ≡ new.conversations
        left = by_told (is_some (replies_at message.origin kept.outputs)) ∙ ap (λ (k : KeptState). k.conversations) is_discarded

-- the records of a unit are done, and its pad is changed behind them
pub sync_tells : (system : System) (pad : PadChange) (records : List Record) (kept done padded_now new : KeptState) (tally : TallyState) (origin : Option (List ℕ)) (steps : ℕ) →
    does_all records kept ≡ Some done → padded_now ≡ with_pad_at origin pad done → new ≡ record padded_now { steps = steps } → TallyFollows system done tally → TallyTells system kept.conversations (messages_of new.queues.queued) tally
sync_tells system pad records kept done padded_now new tally origin steps all padded_is new_is follows =
    subst (λ (k : KeptState). TallyTells system kept.conversations (messages_of k.queues.queued) tally) (sym (new_is ∙ ap (λ (k : KeptState). record k { steps = steps }) padded_is))
    (subst (λ (cs : List TerminalConversation). TallyTells system cs (messages_of (with_pad_at origin pad done).queues.queued) tally) (talks_stay records kept done all) (by_origin origin)) where
      by_origin : (o : Option (List ℕ)) → TallyTells system done.conversations (messages_of (with_pad_at o pad done).queues.queued) tally
      by_origin (Some name) = follows
      by_origin None = follows

      talks_stay : (records : List Record) (kept done : KeptState) → does_all records kept ≡ Some done → done.conversations ≡ kept.conversations
      talks_stay records kept done all = all_keep (λ k. k.conversations ≡ kept.conversations) (λ terminal segments k same. same) (λ message k is same. same) (λ id k same. same) records kept done all refl
