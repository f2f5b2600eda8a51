-- Messages stay known where a conversation changes that none of them belongs to.
use Rattle.std.proofs.Common.{◌≡◌, Bool, true, false, not, ◌&&◌, List, [], ◌∷◌, ℕ, refl, sym, ◌∙◌, ap, subst, Some, None}
use Rattle.std.specs.Prelude.{if◌then◌else◌, ◌==◌, Option}
use Rattle.std.specs.List.{list_all, list_any}
use Rattle.std.specs.Option.{option_map_or, option_and_then}
use Rattle.std.specs.Str.{bytes_eq}
use Rattle.tm_types.specs.declared.message.Message.{Message}
use Rattle.model_messages.specs.declared.conversation.Conversation.{Conversation}
use Rattle.model_messages.specs.declared.conversation.TerminalConversation.{TerminalConversation}
use Rattle.model_messages.specs.Terminals.{is_conversation_of, conversation_terminal, conversation_at, with_terminal}
use Rattle.model_messages.specs.ConversationInput.{is_conversing}
use Rattle.model_system.specs.System.{System}
use Rattle.model_machine.specs.Machine.{LastingState, message_at}
use Rattle.model_machine.specs.LastingSteps.{without_message}
use Rattle.model_image.specs.States.{is_system_terminal, is_system_code, is_of_conversation, has_no_pad, is_message_known, are_alone}
use Rattle.image_law.proofs.Bools.{first_of, second_of, neither_first, neither_second, not_true, other_false, same_bytes, bytes_same}
use Rattle.image_law.proofs.Lists.{none_filter, found_is_one}
use Rattle.tm_types.proofs.Truths.{both}

-- a terminal's conversation changed
abbrev pub put : (Option Conversation → Option Conversation) → TerminalConversation → TerminalConversation
put change t = record t { conversation = change t.conversation }

abbrev pub put_at : List ℕ → (Option Conversation → Option Conversation) → LastingState → LastingState
put_at origin change lasting = record lasting { conversations = with_terminal origin (put change) lasting.conversations }

module _ (origin : List ℕ) (change : Option Conversation → Option Conversation) where
  -- another terminal keeps its conversation
  pub other_stays : (name : List ℕ) (all : List TerminalConversation) → bytes_eq origin name ≡ false → conversation_at name (with_terminal origin (put change) all) ≡ conversation_at name all
  other_stays name [] other = refl
  other_stays name (t ∷ ts) other = by_head (is_conversation_of origin t) refl (other_stays name ts other) where
    by_name : (b : Bool) (x : TerminalConversation) (rest : Option TerminalConversation) → b ≡ false → option_and_then (λ t. t.conversation) (if b then Some x else rest) ≡ option_and_then (λ t. t.conversation) rest
    by_name true x rest is = cc
    by_name false x rest is = refl

    by_rest : (b : Bool) (x : TerminalConversation) (rest same : Option TerminalConversation) → option_and_then (λ t. t.conversation) rest ≡ option_and_then (λ t. t.conversation) same → option_and_then (λ t. t.conversation) (if b then Some x else rest) ≡ option_and_then (λ t. t.conversation) (if b then Some x else same)
    by_rest true x rest same is = refl
    by_rest false x rest same is = is

    by_head : (b : Bool) → is_conversation_of origin t ≡ b → conversation_at name (with_terminal origin (put change) ts) ≡ conversation_at name ts → conversation_at name (if b then put change t ∷ ts else t ∷ with_terminal origin (put change) ts) ≡ conversation_at name (t ∷ ts)
    by_head true is later =
        let apart : is_conversation_of name t ≡ false = ap (λ (n : List ℕ). bytes_eq n name) (same_bytes t.terminal origin is) ∙ other in
        by_name (is_conversation_of name t) (put change t) (conversation_terminal name ts) apart ∙ sym (by_name (is_conversation_of name t) t (conversation_terminal name ts) apart)
    by_head false is later = by_rest (is_conversation_of name t) t (conversation_terminal name (with_terminal origin (put change) ts)) (conversation_terminal name ts) later

  -- the terminal has what the change makes of its conversation
  pub itself_changed : (all : List TerminalConversation) (t : TerminalConversation) → conversation_terminal origin all ≡ Some t → conversation_at origin (with_terminal origin (put change) all) ≡ change t.conversation
  itself_changed [] t found = cc
  itself_changed (x ∷ xs) t found = by_head (is_conversation_of origin x) refl (itself_changed xs t) found where
    by_head : (b : Bool) → is_conversation_of origin x ≡ b → (conversation_terminal origin xs ≡ Some t → conversation_at origin (with_terminal origin (put change) xs) ≡ change t.conversation) →
        (if b then Some x else conversation_terminal origin xs) ≡ Some t → conversation_at origin (if b then put change x ∷ xs else x ∷ with_terminal origin (put change) xs) ≡ change t.conversation
    by_head true is later found = let e : x ≡ t = cc in rw is (ap (λ (t : TerminalConversation). change t.conversation) e)
    by_head false is later found = rw is (later found)

  known_changed : (system : System) (lasting : LastingState) (message : Message) → is_conversing origin message ≡ false → is_message_known system lasting message ≡ true → is_message_known system (put_at origin change lasting) message ≡ true
  known_changed system lasting message other known = by_flag message.conversation refl where
    names : Bool
    names = is_system_terminal system message.origin && is_system_code system message.code

    by_flag : (b : Bool) → message.conversation ≡ b → is_message_known system (put_at origin change lasting) message ≡ true
    by_flag true is =
        let apart : bytes_eq origin message.origin ≡ false = by_origin (bytes_eq origin message.origin) refl in
        ap (λ (o : Option Conversation). names && (if message.conversation then option_map_or (λ c. bytes_eq c.code message.code) o false else has_no_pad system message))
        (other_stays message.origin lasting.conversations apart) ∙ known where
          by_origin : (b : Bool) → bytes_eq origin message.origin ≡ b → bytes_eq origin message.origin ≡ false
          by_origin true same =
              absurd (subst (λ (b : Bool). b ≡ true → ⊥) (sym other) (λ e. cc)
              (both (bytes_eq message.origin origin) message.conversation
              (ap (λ (n : List ℕ). bytes_eq n origin) (sym (same_bytes origin message.origin same)) ∙ bytes_same origin) is))
          by_origin false apart = apart
    by_flag false is = rw is (subst (λ (b : Bool). names && (if b then is_of_conversation lasting message else has_no_pad system message) ≡ true) is known)

  -- messages of no conversation of this terminal stay known
  pub all_known_changed : (system : System) (lasting : LastingState) (messages : List Message) → list_any (is_conversing origin) messages ≡ false → list_all (is_message_known system lasting) messages ≡ true → list_all (is_message_known system (put_at origin change lasting)) messages ≡ true
  all_known_changed system lasting [] none known = refl
  all_known_changed system lasting (message ∷ messages) none known =
      both (is_message_known system (put_at origin change lasting) message) (list_all (is_message_known system (put_at origin change lasting)) messages)
      (known_changed system lasting message (neither_first (is_conversing origin message) (list_any (is_conversing origin) messages) none) (first_of (is_message_known system lasting message) (list_all (is_message_known system lasting) messages) known))
      (all_known_changed system lasting messages (neither_second (is_conversing origin message) (list_any (is_conversing origin) messages) none) (second_of (is_message_known system lasting message) (list_all (is_message_known system lasting) messages) known))

  -- a test of all terminals' conversations, of which one changes
  pub all_put : (p : TerminalConversation → Bool) (all : List TerminalConversation) → list_all p all ≡ true → ((t : TerminalConversation) → conversation_terminal origin all ≡ Some t → p (put change t) ≡ true) → list_all p (with_terminal origin (put change) all) ≡ true
  all_put p [] passes changed = refl
  all_put p (t ∷ ts) passes changed = by_head (is_conversation_of origin t) refl (all_put p ts (second_of (p t) (list_all p ts) passes)) changed where
    by_head : (b : Bool) → is_conversation_of origin t ≡ b → (((t : TerminalConversation) → conversation_terminal origin ts ≡ Some t → p (put change t) ≡ true) → list_all p (with_terminal origin (put change) ts) ≡ true) →
        ((x : TerminalConversation) → (if b then Some t else conversation_terminal origin ts) ≡ Some x → p (put change x) ≡ true) → list_all p (if b then put change t ∷ ts else t ∷ with_terminal origin (put change) ts) ≡ true
    by_head true is later changed = both (p (put change t)) (list_all p ts) (changed t refl) (second_of (p t) (list_all p ts) passes)
    by_head false is later changed = both (p t) (list_all p (with_terminal origin (put change) ts)) (first_of (p t) (list_all p ts) passes) (later changed)

-- a terminal without a conversation has no message of one
pub none_converse : (system : System) (lasting : LastingState) (origin : List ℕ) (messages : List Message) → conversation_at origin lasting.conversations ≡ None → list_all (is_message_known system lasting) messages ≡ true → list_any (is_conversing origin) messages ≡ false
none_converse system lasting origin [] none known = refl
none_converse system lasting origin (message ∷ messages) none known =
    rw (by_message (is_conversing origin message) refl) (none_converse system lasting origin messages none (second_of (is_message_known system lasting message) (list_all (is_message_known system lasting) messages) known)) where
      by_message : (b : Bool) → is_conversing origin message ≡ b → is_conversing origin message ≡ false
      by_message false is = is
      by_message true is =
          let flag : message.conversation ≡ true = second_of (bytes_eq message.origin origin) message.conversation is in
          let from : message.origin ≡ origin = same_bytes message.origin origin (first_of (bytes_eq message.origin origin) message.conversation is) in
          let names = is_system_terminal system message.origin && is_system_code system message.code in
          let of : (if message.conversation then is_of_conversation lasting message else has_no_pad system message) ≡ true =
          second_of names (if message.conversation then is_of_conversation lasting message else has_no_pad system message) (first_of (is_message_known system lasting message) (list_all (is_message_known system lasting) messages) known) in
          let its : is_of_conversation lasting message ≡ true = subst (λ (b : Bool). (if b then is_of_conversation lasting message else has_no_pad system message) ≡ true) flag of in
          absurd (subst (λ (o : Option Conversation). option_map_or (λ c. bytes_eq c.code message.code) o false ≡ true → ⊥) (sym (ap (λ (n : List ℕ). conversation_at n lasting.conversations) from ∙ none)) (λ e. cc) its)

-- where a message of a conversation is done with, no other belongs to it
pub none_else : (id : ℕ) (messages : List Message) (message : Message) → are_alone messages ≡ true → message_at messages id ≡ Some message → message.conversation ≡ true → list_any (is_conversing message.origin) (without_message messages id) ≡ false
none_else id [] message alone found flag = cc
none_else id (first ∷ messages) message alone found flag =
    by_first (first.id == id) found (none_else id messages message (second_of (not (first.conversation && list_any (is_conversing first.origin) messages)) (are_alone messages) alone)) where
      others : first.conversation && list_any (is_conversing first.origin) messages ≡ false
      others = not_true (first.conversation && list_any (is_conversing first.origin) messages) (first_of (not (first.conversation && list_any (is_conversing first.origin) messages)) (are_alone messages) alone)

      apart : message_at messages id ≡ Some message → (b : Bool) → is_conversing message.origin first ≡ b → is_conversing message.origin first ≡ false
      apart later false is = is
      apart later true is =
          let first_flag : first.conversation ≡ true = second_of (bytes_eq first.origin message.origin) first.conversation is in
          let same : first.origin ≡ message.origin = same_bytes first.origin message.origin (first_of (bytes_eq first.origin message.origin) first.conversation is) in
          let none : list_any (is_conversing first.origin) messages ≡ false = other_false first.conversation (list_any (is_conversing first.origin) messages) first_flag others in
          let one : list_any (is_conversing first.origin) messages ≡ true =
          found_is_one (is_conversing first.origin) (λ m. m.id == id) messages message later
          (both (bytes_eq message.origin first.origin) message.conversation (ap (λ (n : List ℕ). bytes_eq n first.origin) (sym same) ∙ bytes_same first.origin) flag) in
          absurd (subst (λ (b : Bool). b ≡ true → ⊥) (sym none) (λ e. cc) one)

      by_first : (b : Bool) → (if b then Some first else message_at messages id) ≡ Some message → (message_at messages id ≡ Some message → message.conversation ≡ true → list_any (is_conversing message.origin) (without_message messages id) ≡ false) →
          list_any (is_conversing message.origin) (if not b then first ∷ without_message messages id else without_message messages id) ≡ false
      by_first true is later =
          let e : first ≡ message = cc in
          none_filter (is_conversing message.origin) (λ m. not (m.id == id)) messages
          (other_false message.conversation (list_any (is_conversing message.origin) messages) flag
          (subst (λ (m : Message). m.conversation && list_any (is_conversing m.origin) messages ≡ false) e others))
      by_first false is later = rw (apart is (is_conversing message.origin first) refl) (later is flag)
