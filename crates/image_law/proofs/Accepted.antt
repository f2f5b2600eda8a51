-- An accepted input leaves a state that breaks no rule.
use Rattle.std.proofs.Common.{◌≡◌, Bool, true, false, not, ◌&&◌, ◌||◌, List, [], ◌∷◌, ◌++◌, ℕ, ◌+◌, ◌-◌, zero, suc, ◌≤◌, length, take, drop, refl, sym, ◌∙◌, ap, subst, arith, Some, None, IsSome}
use Rattle.std.specs.Prelude.{if◌then◌else◌, ◌==◌, nat_le, Option, replicate}
use Rattle.std.specs.List.{list_all, list_any}
use Rattle.std.specs.Option.{option_map_or}
use Rattle.std.specs.Str.{bytes_eq}
use Rattle.std.proofs.lemmas.Bool.{eq-eqb, ne_eqb, leb-true}
use Rattle.std.proofs.lemmas.List.{length-append, length-take, length-replicate}
use Rattle.std.proofs.Math.Seq.{take-append_seam, drop-append_seam}
use Rattle.tm_types.specs.declared.message.Message.{Message}
use Rattle.model_messages.specs.declared.conversation.Conversation.{Conversation}
use Rattle.model_messages.specs.declared.conversation.TerminalConversation.{TerminalConversation}
use Rattle.model_messages.specs.Pads.{code_field, begun}
use Rattle.model_messages.specs.Terminals as conversations
use Rattle.model_messages.specs.ConversationInput.{is_conversing}
use Rattle.model_system.specs.declared.code.Code.{Code}
use Rattle.model_system.specs.Codes.{code_at}
use Rattle.model_system.specs.System.{System}
use Rattle.model_machine.specs.declared.lasting.TerminalState.{TerminalState}
use Rattle.model_machine.specs.Machine.{LastingState}
use Rattle.model_machine.specs.LastingSteps.{KeptInput, code_word, kept_alone, kept_first, kept_by_code, kept_by, kept_input, input_message, accepted}
use Rattle.model_image.specs.States.{is_printable_byte, is_system_terminal, is_system_code, is_pad_of, is_conversation, is_of_conversation, has_no_pad, is_message_known}
use Rattle.image_law.specs.StepNeeds.{has_room, HasPads, IsConversationFree}
use Rattle.image_law.proofs.Bools.{not_of_false, bytes_same}
use Rattle.image_law.proofs.Lists.{all_more, found_passes}
use Rattle.image_law.proofs.Conversing.{put_at, itself_changed, none_converse}
use Rattle.image_law.proofs.Ordered.{ascend_more, alone_more}
use Rattle.image_law.proofs.Kept.{changes_stand}
use Rattle.image_law.specs.StandingState.{StandsLasting}
use Rattle.tm_types.proofs.Truths.{both}

-- ---- a pad as it begins

field_length : (code : List ℕ) → length (code_field code) ≡ 8
field_length code =
    omega (arith, length-append (take 8 code) (replicate (8 - length code) 32), length-take 8 code, length-replicate {A = ℕ} (8 - length code) 32)

blanks : (n : ℕ) → list_all is_printable_byte (replicate n 32) ≡ true
blanks zero = refl
blanks (suc n) = blanks n

begun_is_pad : (size : ℕ) (code : List ℕ) → 14 ≤ size → is_pad_of size (begun code (size - 14)) ≡ true
begun_is_pad size code enough =
    let field = code_field code in
    let work = replicate (size - 14) 32 in
    let eight : length field ≡ 8 = field_length code in
    let front : take 8 (field ++ work) ≡ field = ap (λ n. take n (field ++ work)) (sym eight) ∙ take-append_seam field work in
    let back : drop 8 (field ++ work) ≡ work = ap (λ n. drop n (field ++ work)) (sym eight) ∙ drop-append_seam field work in
    let some : not (size == 0) ≡ true = not_of_false (size == 0) (ne_eqb size 0 (λ e. omega (arith, e, enough))) in
    let whole : (length (field ++ work) + 6 == size) ≡ true = eq-eqb (length (field ++ work) + 6) size (omega (arith, enough, length-append field work, eight, length-replicate {A = ℕ} (size - 14) 32)) in
    rw some (rw whole (rw front (rw back (rw (bytes_same field) (blanks (size - 14))))))

begun_right : (system : System) (code : List ℕ) (found : Code) → HasPads system → code_at system.codes code ≡ Some found → found.transaction.scratch_pad == 0 ≡ false → is_conversation system (begun code (found.transaction.scratch_pad - 14)) ≡ true
begun_right system code found pads is some =
    ap (λ (o : Option Code). option_map_or (λ c. is_pad_of c.transaction.scratch_pad (begun code (found.transaction.scratch_pad - 14))) o false) is
    ∙ begun_is_pad found.transaction.scratch_pad code
    (leb-true 14 found.transaction.scratch_pad
    (subst (λ (b : Bool). b || nat_le 14 found.transaction.scratch_pad ≡ true) some (found_passes has_room (λ c. bytes_eq c.transaction.code code) system.codes found pads is)))

-- ---- one message more

add_stands : (system : System) (message : Message) (terminals : List TerminalState) (lasting : LastingState) → StandsLasting system lasting → message.id ≡ lasting.next_id → is_message_known system lasting message ≡ true → message.conversation && list_any (is_conversing message.origin) lasting.messages ≡ false →
    StandsLasting system (record lasting { messages = lasting.messages ++ message ∷ []; next_id = lasting.next_id + 1; terminals = terminals })
add_stands system message terminals lasting s next known free = record {
  settings = s.settings;
  pads = s.pads;
  runs = s.runs;
  ascending = ascend_more lasting.next_id lasting.messages message s.ascending next;
  known = all_more (is_message_known system lasting) lasting.messages message s.known known;
  alone = alone_more lasting.messages message free s.alone;
}

module _ (system : System) (pads : HasPads system) (terminal : List ℕ) (number : ℕ) (segments : List (List ℕ)) (lasting : LastingState) (s : StandsLasting system lasting) (free : IsConversationFree terminal lasting) (from : is_system_terminal system terminal ≡ true) where
  -- an input that belongs to no conversation
  alone_stands : (found : Option Code) → code_at system.codes (code_word segments) ≡ found → option_map_or (λ code. code.transaction.scratch_pad == 0) found true ≡ true → is_system_code system (code_word segments) ≡ true →
      StandsLasting system (accepted terminal number (kept_alone segments) lasting)
  alone_stands found is none there =
      let message = input_message lasting.next_id terminal (kept_alone segments) in
      add_stands system message (accepted terminal number (kept_alone segments) lasting).terminals lasting s refl
      (both (is_system_terminal system terminal && is_system_code system (code_word segments)) (has_no_pad system message)
      (both (is_system_terminal system terminal) (is_system_code system (code_word segments)) from there)
      (ap (λ (o : Option Code). option_map_or (λ code. code.transaction.scratch_pad == 0) o true) is ∙ none)) refl

  -- one that begins a conversation
  first_stands : (t : TerminalConversation) (found : Code) → conversations.conversation_terminal terminal lasting.conversations ≡ Some t → conversations.conversation_at terminal lasting.conversations ≡ None →
      code_at system.codes (code_word segments) ≡ Some found → found.transaction.scratch_pad == 0 ≡ false → is_system_code system (code_word segments) ≡ true →
      StandsLasting system (accepted terminal number (kept_first found.transaction.scratch_pad segments) lasting)
  first_stands t found place none is some there =
      let code = code_word segments in
      let c = begun code (found.transaction.scratch_pad - 14) in
      let kept = kept_first found.transaction.scratch_pad segments in
      let nobody = none_converse system lasting terminal lasting.messages none s.known in
      let talking = put_at terminal (λ _. Some c) lasting in
      let message = input_message lasting.next_id terminal kept in
      let now : conversations.conversation_at terminal talking.conversations ≡ Some c = itself_changed terminal (λ _. Some c) lasting.conversations t place in
      add_stands system message (accepted terminal number kept lasting).terminals talking
      (changes_stand system terminal (λ _. Some c) lasting s nobody (λ t is_t. begun_right system code found pads is some)) refl
      (both (is_system_terminal system terminal && is_system_code system code) (is_of_conversation talking message)
      (both (is_system_terminal system terminal) (is_system_code system code) from there)
      (ap (λ (o : Option Conversation). option_map_or (λ c. bytes_eq c.code code) o false) now ∙ bytes_same code))
      nobody

  by_code : (found : Option Code) → code_at system.codes (code_word segments) ≡ found → conversations.conversation_at terminal lasting.conversations ≡ None → (t : TerminalConversation) → conversations.conversation_terminal terminal lasting.conversations ≡ Some t →
      is_system_code system (kept_by_code found segments).code ≡ true → StandsLasting system (accepted terminal number (kept_by_code found segments) lasting)
  by_code None is none t place there = alone_stands None is refl there
  by_code (Some code) is none t place there = by_pad (code.transaction.scratch_pad == 0) refl there where
    by_pad : (b : Bool) → code.transaction.scratch_pad == 0 ≡ b → is_system_code system (if b then kept_alone segments else kept_first code.transaction.scratch_pad segments).code ≡ true →
        StandsLasting system (accepted terminal number (if b then kept_alone segments else kept_first code.transaction.scratch_pad segments) lasting)
    by_pad true zero_pad there = alone_stands (Some code) is zero_pad there
    by_pad false some there = first_stands t code place none is some there

  by_conversation : (o : Option Conversation) → conversations.conversation_at terminal lasting.conversations ≡ o → (place : Option TerminalConversation) → conversations.conversation_terminal terminal lasting.conversations ≡ place → IsSome place →
      is_system_code system (kept_by system o segments).code ≡ true → StandsLasting system (accepted terminal number (kept_by system o segments) lasting)
  by_conversation (Some c) is place at some there =
      let kept : KeptInput = record { code = c.code; conversation = true; segments = segments; begins = None } in
      let message = input_message lasting.next_id terminal kept in
      add_stands system message (accepted terminal number kept lasting).terminals lasting s refl
      (both (is_system_terminal system terminal && is_system_code system c.code) (is_of_conversation lasting message)
      (both (is_system_terminal system terminal) (is_system_code system c.code) from there)
      (ap (λ (o : Option Conversation). option_map_or (λ x. bytes_eq x.code c.code) o false) is ∙ bytes_same c.code))
      (free.none (subst (λ (o : Option Conversation). IsSome o) (sym is) refl))
  by_conversation None is (Some t) at some there = by_code (code_at system.codes (code_word segments)) refl is t at there
  by_conversation None is None at some there = absurd cc

  pub accepted_stands : is_system_code system (kept_input system lasting terminal segments).code ≡ true → StandsLasting system (accepted terminal number (kept_input system lasting terminal segments) lasting)
  accepted_stands there =
      by_conversation (conversations.conversation_at terminal lasting.conversations) refl (conversations.conversation_terminal terminal lasting.conversations) refl free.place there
