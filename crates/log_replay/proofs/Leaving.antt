-- What each step leaves of the rules.
use Rattle.std.proofs.Common.{◌≡◌, Bool, true, false, not, ◌&&◌, List, [], ◌∷◌, ℕ, ◌+◌, suc, drop, refl, sym, ◌∙◌, ap, subst, Some, None}
use Rattle.std.specs.Prelude.{if◌then◌else◌, Option, ◌==◌, position, find, slice_get, slice_set}
use Rattle.std.specs.Str.{bytes_eq}
use Rattle.std.specs.List.{list_all}
use Rattle.std.specs.Option.{option_map_or, option_map, option_and_then, is_some}
use Rattle.tm_types.specs.declared.abend.AbendCode.{AbendCode}
use Rattle.tm_types.specs.declared.message.Message.{Message}
use Rattle.model_messages.specs.declared.conversation.Conversation.{Conversation}
use Rattle.model_messages.specs.declared.conversation.TerminalConversation.{TerminalConversation}
use Rattle.model_messages.specs.declared.conversation.PadChange.{PadChange}
use Rattle.model_messages.specs.declared.conversation.PadChange.TheVariants.{Stays, New, Ends}
use Rattle.model_messages.specs.Terminals.{is_conversation_of, conversation_terminal, conversation_at, with_terminal}
use Rattle.model_system.specs.System.{System}
use Rattle.model_system.specs.Lists.{change_at}
use Rattle.model_messages.specs.Queue.{queued_message}
use Rattle.model_messages.specs.Outputs.{next_of, reply_at, replies_at, without_first}
use Rattle.model_messages.specs.Outputs as outputs
use Rattle.model_machine.specs.declared.lasting.TerminalState.{TerminalState}
use Rattle.model_machine.specs.Machine as machine
use Rattle.model_machine.specs.LastingSteps.{KeptInput, with_last_number, with_begun, with_pad_changed, discarded_pad, with_conversation_text, dfs555i_text, input_message}
use Rattle.log_records.specs.declared.record.Record.{Record}
use Rattle.model_image.specs.States.{is_small, is_next, is_conversation, has_right_pad, run_up_to}
use Rattle.model_image.specs.Snapshot.{snapshot_message}
use Rattle.image_records.specs.KeptState.{KeptState}
use Rattle.image_law.proofs.Bools.{first_of, second_of}
use Rattle.image_law.proofs.Lists.{found_passes}
use Rattle.image_law.proofs.Ordered.{run_drop, all_at}
use Rattle.image_law.proofs.Conversing.{put}
use Rattle.log_replay.specs.ReplaySteps.{with_added, with_replied, with_gone, with_counted, with_kept_pad, with_told, with_accepted, with_discarded, begins_by_input, does_all, message_done, step_accepts, step_acknowledges, step_discards, step_syncs}
use Rattle.log_replay.specs.ReplayRules.{KeepsRest, AreMessagesFree, AreSound}
use Rattle.log_replay.proofs.DoneSteps.{rest_replied, rest_added, rest_gone, rest_all, free_added, free_gone, free_all, all_keep}
use Rattle.log_replay.proofs.Before.{rest_before, numbers_before, inputs_before, pads_before}
use Rattle.tm_types.proofs.Truths.{both}
use Rattle.tm_types.proofs.Positions.{position_more}
use Rattle.image_law.specs.StandingState.{is_run}

-- ---- one of the pads, or of the last inputs, changes

module _ (system : System) where
  abbrev right_at : List ℕ → List TerminalConversation → Bool
  right_at name all = option_map_or (is_conversation system) (conversation_at name all) true

  and_true : (b : Bool) → b && true ≡ b
  and_true true = refl
  and_true false = refl

  pub pads_changed : (name : List ℕ) (change : Option Conversation → Option Conversation) (all : List TerminalConversation) → list_all (has_right_pad system) all ≡ true →
      right_at name (with_terminal name (put change) all) ≡ list_all (has_right_pad system) (with_terminal name (put change) all)
  pads_changed name change [] right = refl
  pads_changed name change (t ∷ ts) right = by_head (is_conversation_of name t) refl (pads_changed name change ts (second_of (has_right_pad system t) (list_all (has_right_pad system) ts) right)) where
    by_head : (b : Bool) → is_conversation_of name t ≡ b → right_at name (with_terminal name (put change) ts) ≡ list_all (has_right_pad system) (with_terminal name (put change) ts) →
        right_at name (if b then put change t ∷ ts else t ∷ with_terminal name (put change) ts) ≡ list_all (has_right_pad system) (if b then put change t ∷ ts else t ∷ with_terminal name (put change) ts)
    by_head true is later =
        ap (λ b. option_map_or (is_conversation system) (option_and_then (λ t. t.conversation) (if b then Some (put change t) else find (is_conversation_of name) ts)) true) is
        ∙ sym (and_true (has_right_pad system (put change t)))
        ∙ ap (λ b. has_right_pad system (put change t) && b) (sym (second_of (has_right_pad system t) (list_all (has_right_pad system) ts) right))
    by_head false is later =
        ap (λ b. option_map_or (is_conversation system) (option_and_then (λ t. t.conversation) (if b then Some t else find (is_conversation_of name) (with_terminal name (put change) ts))) true) is
        ∙ later
        ∙ ap (λ b. b && list_all (has_right_pad system) (with_terminal name (put change) ts)) (sym (first_of (has_right_pad system t) (list_all (has_right_pad system) ts) right))

  pub pads_same : (name : List ℕ) (all : List TerminalConversation) → list_all (has_right_pad system) all ≡ true → right_at name all ≡ list_all (has_right_pad system) all
  pads_same name all right = by_found (conversation_terminal name all) refl ∙ sym right where
    by_found : (o : Option TerminalConversation) → conversation_terminal name all ≡ o → option_map_or (is_conversation system) (option_and_then (λ t. t.conversation) o) true ≡ true
    by_found (Some t) is = found_passes (has_right_pad system) (is_conversation_of name) all t right is
    by_found None is = refl

  pub pads_begun : (name : List ℕ) (begins : Option Conversation) (all : List TerminalConversation) → list_all (has_right_pad system) all ≡ true → right_at name (with_begun name begins all) ≡ list_all (has_right_pad system) (with_begun name begins all)
  pads_begun name (Some c) all right = pads_changed name (λ _. Some c) all right
  pads_begun name None all right = pads_same name all right

  pub pads_padded : (pad : PadChange) (name : List ℕ) (all : List TerminalConversation) → list_all (has_right_pad system) all ≡ true → right_at name (with_pad_changed pad name all) ≡ list_all (has_right_pad system) (with_pad_changed pad name all)
  pads_padded Stays name all right = pads_same name all right
  pads_padded (New text) name all right = pads_changed name (option_map (with_conversation_text text)) all right
  pads_padded Ends name all right = pads_changed name (λ _. None) all right

  -- a conversation that ends leaves right pads
  pub pads_ended : (message : Message) (all : List TerminalConversation) → list_all (has_right_pad system) all ≡ true → list_all (has_right_pad system) (with_pad_changed (discarded_pad message) message.origin all) ≡ true
  pads_ended message all right = by_flag message.conversation where
    ended : (all : List TerminalConversation) → list_all (has_right_pad system) all ≡ true → list_all (has_right_pad system) (with_terminal message.origin (put (λ _. None)) all) ≡ true
    ended [] right = refl
    ended (t ∷ ts) right = by_head (is_conversation_of message.origin t) (ended ts (second_of (has_right_pad system t) (list_all (has_right_pad system) ts) right)) where
      by_head : (b : Bool) → list_all (has_right_pad system) (with_terminal message.origin (put (λ _. None)) ts) ≡ true → list_all (has_right_pad system) (if b then put (λ _. None) t ∷ ts else t ∷ with_terminal message.origin (put (λ _. None)) ts) ≡ true
      by_head true later = second_of (has_right_pad system t) (list_all (has_right_pad system) ts) right
      by_head false later = both (has_right_pad system t) (list_all (has_right_pad system) (with_terminal message.origin (put (λ _. None)) ts)) (first_of (has_right_pad system t) (list_all (has_right_pad system) ts) right) later

    by_flag : (b : Bool) → list_all (has_right_pad system) (with_pad_changed (if b then Ends else Stays) message.origin all) ≡ true
    by_flag true = ended all right
    by_flag false = right

-- the last inputs, of which one changes
module _ (p : TerminalState → Bool) (change : TerminalState → TerminalState) (b : Bool) (changed : (t : TerminalState) → p (change t) ≡ b) where
  true_and : (c : Bool) → c ≡ true → b && c ≡ b
  true_and c is = ap (λ c. b && c) is ∙ and_true_b b where
    and_true_b : (b : Bool) → b && true ≡ b
    and_true_b true = refl
    and_true_b false = refl

  later_place : (t : TerminalState) (ts : List TerminalState) (o : Option ℕ) → p t ≡ true → change_at (t ∷ ts) (option_map (λ n. suc n) o) change ≡ t ∷ change_at ts o change
  later_place t ts None is = refl
  later_place t ts (Some place) is = by_found (slice_get ts place) where
    by_found : (o : Option TerminalState) → option_map_or (λ found. t ∷ slice_set ts place (change found)) o (t ∷ ts) ≡ t ∷ option_map_or (λ found. slice_set ts place (change found)) o ts
    by_found (Some x) = refl
    by_found None = refl

  pub one_changed : (q : TerminalState → Bool) (ts : List TerminalState) (t : TerminalState) → list_all p ts ≡ true → find q ts ≡ Some t → list_all p (change_at ts (position q ts) change) ≡ b
  one_changed q [] t all found = cc
  one_changed q (x ∷ xs) t all found =
      ap (λ (o : Option ℕ). list_all p (change_at (x ∷ xs) o change)) (position_more q x xs (q x) refl)
      ∙ by_first (q x) found (one_changed q xs t (second_of (p x) (list_all p xs) all)) where
        by_first : (c : Bool) → (if c then Some x else find q xs) ≡ Some t → (find q xs ≡ Some t → list_all p (change_at xs (position q xs) change) ≡ b) →
            list_all p (change_at (x ∷ xs) (if c then Some 0 else option_map (λ n. suc n) (position q xs)) change) ≡ b
        by_first true found later = ap (λ c. c && list_all p xs) (changed x) ∙ true_and (list_all p xs) (second_of (p x) (list_all p xs) all)
        by_first false found later =
            ap (list_all p) (later_place x xs (position q xs) (first_of (p x) (list_all p xs) all))
            ∙ ap (λ c. c && list_all p (change_at xs (position q xs) change)) (first_of (p x) (list_all p xs) all)
            ∙ later found

-- ---- an input

module _ (system : System) (kept : KeptState) (before : AreSound system kept) (id : ℕ) (origin code : List ℕ) (number : ℕ) (conversation : Bool) (segments : List (List ℕ)) where
  abbrev input : KeptInput
  input = record { code = code; conversation = conversation; segments = segments; begins = begins_by_input system kept.conversations origin code conversation }

  abbrev accepts_now : Option KeptState
  accepts_now = step_accepts system id origin code number conversation segments kept

  pub accepted_by : (P : KeptState → Type 0) → ((t : TerminalState) → machine.terminal_at kept.terminals origin ≡ Some t → P (with_accepted origin number input kept)) → (new : KeptState) → accepts_now ≡ Some new → P new
  accepted_by P made new is = by_terminal (machine.terminal_at kept.terminals origin) refl (kept.next_id == id) is where
    by_number : (t : TerminalState) → machine.terminal_at kept.terminals origin ≡ Some t → (a b : Bool) → (if a && b then Some (with_accepted origin number input kept) else None) ≡ Some new → P new
    by_number t found true true is = let e : with_accepted origin number input kept ≡ new = cc in subst P e (made t found)
    by_number t found true false is = cc
    by_number t found false b is = cc

    by_terminal : (o : Option TerminalState) → machine.terminal_at kept.terminals origin ≡ o → (b : Bool) → (if option_map_or (λ terminal. terminal.last + 1 == number) o false && b then Some (with_accepted origin number input kept) else None) ≡ Some new → P new
    by_terminal (Some t) found b is = by_number t found (t.last + 1 == number) b is
    by_terminal None found b is = cc

  pub rest_accepted : (new : KeptState) → accepts_now ≡ Some new → KeepsRest new
  rest_accepted = accepted_by KeepsRest (λ t found.
      let rest = rest_added (input_message kept.next_id origin input) kept refl (rest_before system kept before) in
      record { settings = rest.settings; ascending = rest.ascending; runs = rest.runs })

  pub free_accepted : (new : KeptState) → accepts_now ≡ Some new → AreMessagesFree system new
  free_accepted = accepted_by (AreMessagesFree system) (λ t found.
      let free = free_added system (input_message kept.next_id origin input) kept refl before.free in
      record { limit = free.limit; holders = free.holders })

  pub numbers_accepted : (new : KeptState) → accepts_now ≡ Some new → list_all (λ t. is_next t.next) new.outputs ≡ true
  numbers_accepted = accepted_by (λ new. list_all (λ t. is_next t.next) new.outputs ≡ true) (λ t found. numbers_before system kept before)

  pub inputs_accepted : (new : KeptState) → accepts_now ≡ Some new → is_small number ≡ list_all (λ t. is_small t.last) new.terminals
  inputs_accepted = accepted_by (λ new. is_small number ≡ list_all (λ t. is_small t.last) new.terminals)
      (λ t found. sym (one_changed (λ t. is_small t.last) (with_last_number number) (is_small number) (λ t. refl) (λ terminal. bytes_eq terminal.name origin) kept.terminals t (inputs_before system kept before) found))

  pub pads_accepted : (new : KeptState) → accepts_now ≡ Some new → option_map_or (is_conversation system) (conversation_at origin new.conversations) true ≡ list_all (has_right_pad system) new.conversations
  pads_accepted = accepted_by (λ new. option_map_or (is_conversation system) (conversation_at origin new.conversations) true ≡ list_all (has_right_pad system) new.conversations)
      (λ t found. pads_begun system origin input.begins kept.conversations (pads_before system kept before))

-- ---- an acknowledgement

module _ (system : System) (kept : KeptState) (before : AreSound system kept) (terminal : List ℕ) (number : ℕ) where
  abbrev acknowledged : KeptState
  acknowledged = with_counted (record kept { outputs = outputs.with_terminal terminal without_first kept.outputs })

  pub acknowledged_by : (P : KeptState → Type 0) → P acknowledged → (new : KeptState) → step_acknowledges terminal number kept ≡ Some new → P new
  acknowledged_by P made new is = by_test (option_map_or (λ reply. reply.number == number) (reply_at terminal 0 kept.outputs) false) is where
    by_test : (b : Bool) → (if b then Some acknowledged else None) ≡ Some new → P new
    by_test true is = let e : acknowledged ≡ new = cc in subst P e made
    by_test false is = cc

  pub rest_acknowledged : (new : KeptState) → step_acknowledges terminal number kept ≡ Some new → KeepsRest new
  rest_acknowledged = acknowledged_by KeepsRest (
      let rest = rest_before system kept before in
      record {
        settings = rest.settings;
        ascending = rest.ascending;
        runs = all_at is_run terminal without_first kept.outputs rest.runs (λ t is.
            both (not (t.next == 0)) (run_up_to t.next (drop 1 t.replies)) (first_of (not (t.next == 0)) (run_up_to t.next t.replies) is)
            (run_drop t.next t.replies (second_of (not (t.next == 0)) (run_up_to t.next t.replies) is)));
      })

  pub free_acknowledged : (new : KeptState) → step_acknowledges terminal number kept ≡ Some new → AreMessagesFree system new
  free_acknowledged = acknowledged_by (AreMessagesFree system) (record { limit = before.free.limit; holders = before.free.holders })

  pub numbers_acknowledged : (new : KeptState) → step_acknowledges terminal number kept ≡ Some new → list_all (λ t. is_next t.next) new.outputs ≡ true
  numbers_acknowledged = acknowledged_by (λ new. list_all (λ t. is_next t.next) new.outputs ≡ true)
      (all_at (λ t. is_next t.next) terminal without_first kept.outputs (numbers_before system kept before) (λ t is. is))

  pub inputs_acknowledged : (new : KeptState) → step_acknowledges terminal number kept ≡ Some new → true ≡ list_all (λ t. is_small t.last) new.terminals
  inputs_acknowledged = acknowledged_by (λ new. true ≡ list_all (λ t. is_small t.last) new.terminals) (sym (inputs_before system kept before))

  pub pads_acknowledged : (new : KeptState) → step_acknowledges terminal number kept ≡ Some new → true ≡ list_all (has_right_pad system) new.conversations
  pads_acknowledged = acknowledged_by (λ new. true ≡ list_all (has_right_pad system) new.conversations) (sym (pads_before system kept before))

-- ---- a discarded message

module _ (system : System) (kept : KeptState) (before : AreSound system kept) (id : ℕ) (abend : AbendCode) (number : ℕ) where
  pub discarded_by : (P : KeptState → Type 0) → ((message : Message) → P (with_discarded id abend message kept)) → (new : KeptState) → step_discards id abend number kept ≡ Some new → P new
  discarded_by P made new is = by_found (queued_message id kept.queues.queued) is where
    by_number : (message : Message) (b : Bool) → (if b then Some (with_discarded id abend message kept) else None) ≡ Some new → P new
    by_number message true is = let e : with_discarded id abend message kept ≡ new = cc in subst P e (made message)
    by_number message false is = cc

    by_found : (o : Option Message) → option_and_then (λ message. if next_of message.origin kept.outputs == number then Some (with_discarded id abend message kept) else None) o ≡ Some new → P new
    by_found (Some message) is = by_number message (next_of message.origin kept.outputs == number) is
    by_found None is = cc

  abbrev gone : Message → KeptState
  gone message = with_gone id (with_kept_pad (Some message) (discarded_pad message) kept)

  rest_gone_now : (message : Message) → KeepsRest (gone message)
  rest_gone_now message =
      let rest = rest_gone id kept (rest_before system kept before) in
      record { settings = rest.settings; ascending = rest.ascending; runs = rest.runs }

  free_gone_now : (message : Message) → AreMessagesFree system (gone message)
  free_gone_now message =
      let free = free_gone system id kept before.free in
      record { limit = free.limit; holders = free.holders }

  told_by : (P : KeptState → Type 0) (message : Message) →
      P (with_replied message.origin (dfs555i_text message.code abend ∷ []) (gone message)) → P (with_added (snapshot_message kept.next_id message.origin message.origin false (dfs555i_text message.code abend ∷ [])) (gone message)) →
      P (with_told message.origin (dfs555i_text message.code abend ∷ []) (gone message))
  told_by P message replied added = by_terminal (is_some (replies_at message.origin kept.outputs)) where
    by_terminal : (b : Bool) → P (if b then with_replied message.origin (dfs555i_text message.code abend ∷ []) (gone message) else with_added (snapshot_message kept.next_id message.origin message.origin false (dfs555i_text message.code abend ∷ [])) (gone message))
    by_terminal true = replied
    by_terminal false = added

  pub rest_discarded : (new : KeptState) → step_discards id abend number kept ≡ Some new → KeepsRest new
  rest_discarded = discarded_by KeepsRest (λ message.
      let rest = told_by KeepsRest message
      (rest_replied message.origin (dfs555i_text message.code abend ∷ []) (gone message) (rest_gone_now message))
      (rest_added (snapshot_message kept.next_id message.origin message.origin false (dfs555i_text message.code abend ∷ [])) (gone message) refl (rest_gone_now message)) in
      record { settings = rest.settings; ascending = rest.ascending; runs = rest.runs })

  pub free_discarded : (new : KeptState) → step_discards id abend number kept ≡ Some new → AreMessagesFree system new
  free_discarded = discarded_by (AreMessagesFree system) (λ message.
      let free = told_by (AreMessagesFree system) message
      (record { limit = (free_gone_now message).limit; holders = (free_gone_now message).holders })
      (free_added system (snapshot_message kept.next_id message.origin message.origin false (dfs555i_text message.code abend ∷ [])) (gone message) refl (free_gone_now message)) in
      record { limit = free.limit; holders = free.holders })

  pub inputs_discarded : (new : KeptState) → step_discards id abend number kept ≡ Some new → true ≡ list_all (λ t. is_small t.last) new.terminals
  inputs_discarded = discarded_by (λ new. true ≡ list_all (λ t. is_small t.last) new.terminals)
      (λ message. told_by (λ k. true ≡ list_all (λ t. is_small t.last) k.terminals) message (sym (inputs_before system kept before)) (sym (inputs_before system kept before)))

  pub pads_discarded : (new : KeptState) → step_discards id abend number kept ≡ Some new → true ≡ list_all (has_right_pad system) new.conversations
  pads_discarded = discarded_by (λ new. true ≡ list_all (has_right_pad system) new.conversations)
      (λ message. let right = sym (pads_ended system message kept.conversations (pads_before system kept before)) in told_by (λ k. true ≡ list_all (has_right_pad system) k.conversations) message right right)

-- ---- a sync point

module _ (system : System) (kept : KeptState) (before : AreSound system kept) (pad : PadChange) (records : List Record) where
  pub synced_by : (P : KeptState → Type 0) → ((after : KeptState) → does_all records kept ≡ Some after → P (with_counted (with_kept_pad (message_done records kept) pad after))) → (new : KeptState) → step_syncs pad records kept ≡ Some new → P new
  synced_by P made new is = by_done (does_all records kept) refl is where
    by_done : (o : Option KeptState) → does_all records kept ≡ o → option_map (λ after. with_counted (with_kept_pad (message_done records kept) pad after)) o ≡ Some new → P new
    by_done (Some after) done is = let e : with_counted (with_kept_pad (message_done records kept) pad after) ≡ new = cc in subst P e (made after done)
    by_done None done is = cc

  padded_by : (P : KeptState → Type 0) (after : KeptState) → P (with_counted after) → ((message : Message) → P (with_counted (with_kept_pad (Some message) pad after))) → (o : Option Message) → P (with_counted (with_kept_pad o pad after))
  padded_by P after plain made (Some message) = made message
  padded_by P after plain made None = plain

  pub rest_synced : (new : KeptState) → step_syncs pad records kept ≡ Some new → KeepsRest new
  rest_synced = synced_by KeepsRest (λ after done.
      let rest = rest_all records kept after done (rest_before system kept before) in
      let same : KeepsRest (with_counted after) = record { settings = rest.settings; ascending = rest.ascending; runs = rest.runs } in
      padded_by KeepsRest after same (λ message. record { settings = rest.settings; ascending = rest.ascending; runs = rest.runs }) (message_done records kept))

  pub free_synced : (new : KeptState) → step_syncs pad records kept ≡ Some new → AreMessagesFree system new
  free_synced = synced_by (AreMessagesFree system) (λ after done.
      let free = free_all system records kept after done before.free in
      padded_by (AreMessagesFree system) after (record { limit = free.limit; holders = free.holders }) (λ message. record { limit = free.limit; holders = free.holders }) (message_done records kept))

  terminals_stay : (after : KeptState) → does_all records kept ≡ Some after → after.terminals ≡ kept.terminals
  terminals_stay after done = all_keep (λ k. k.terminals ≡ kept.terminals) (λ terminal segments k same. same) (λ message k is same. same) (λ id k same. same) records kept after done refl

  pub conversations_stay : (after : KeptState) → does_all records kept ≡ Some after → after.conversations ≡ kept.conversations
  conversations_stay after done = all_keep (λ k. k.conversations ≡ kept.conversations) (λ terminal segments k same. same) (λ message k is same. same) (λ id k same. same) records kept after done refl

  pub inputs_synced : (new : KeptState) → step_syncs pad records kept ≡ Some new → true ≡ list_all (λ t. is_small t.last) new.terminals
  inputs_synced = synced_by (λ new. true ≡ list_all (λ t. is_small t.last) new.terminals) (λ after done.
      let right : true ≡ list_all (λ t. is_small t.last) after.terminals = sym (ap (list_all (λ t. is_small t.last)) (terminals_stay after done) ∙ inputs_before system kept before) in
      padded_by (λ k. true ≡ list_all (λ t. is_small t.last) k.terminals) after right (λ message. right) (message_done records kept))

  -- the pad of whose message is done is right, or not
  pub pads_synced : (new : KeptState) → step_syncs pad records kept ≡ Some new →
      option_map_or (λ name. option_map_or (is_conversation system) (conversation_at name new.conversations) true) (option_map (λ message. message.origin) (message_done records kept)) true ≡ list_all (has_right_pad system) new.conversations
  pads_synced = synced_by
      (λ new. option_map_or (λ name. option_map_or (is_conversation system) (conversation_at name new.conversations) true) (option_map (λ message. message.origin) (message_done records kept)) true ≡ list_all (has_right_pad system) new.conversations)
      (λ after done. by_message after done (message_done records kept)) where
        right : (after : KeptState) → does_all records kept ≡ Some after → list_all (has_right_pad system) after.conversations ≡ true
        right after done = ap (list_all (has_right_pad system)) (conversations_stay after done) ∙ pads_before system kept before

        by_message : (after : KeptState) → does_all records kept ≡ Some after → (o : Option Message) →
            option_map_or (λ name. option_map_or (is_conversation system) (conversation_at name (with_kept_pad o pad after).conversations) true) (option_map (λ message. message.origin) o) true ≡ list_all (has_right_pad system) (with_kept_pad o pad after).conversations
        by_message after done (Some message) = pads_padded system pad message.origin after.conversations (right after done)
        by_message after done None = sym (right after done)
