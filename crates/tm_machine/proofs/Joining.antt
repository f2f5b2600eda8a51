-- What an input that is accepted leaves of the conversations.
use Rattle.std.proofs.Common.{◌≡◌, ℕ, zero, suc, ◌+◌, ◌-◌, ◌<◌, ◌≤◌, Bool, true, false, ◌&&◌, List, [], ◌∷◌, ◌++◌, map, take, length, replicate, refl, sym, ap, ◌∙◌, subst, arith}
use Rattle.std.specs.Prelude.{Option, Some, None, IfSome, IsSome, IsSomeAnd, find, if◌then◌else◌, ◌==◌, slice_get}
use Rattle.std.specs.Option.{option_map, option_and_then, is_some}
use Rattle.std.specs.List.{AllByRecursion, list_all}
use Rattle.std.specs.Str.{bytes_eq}
use Rattle.std.proofs.lemmas.Bool.{eq-eqb}
use Rattle.std.proofs.lemmas.List.{length-append}
use Rattle.std.proofs.lemmas.Option.{slice_get-get_or}
use Rattle.std.proofs.lemmas.Slice.Eq.{bytes_eq-Decides}
use Rattle.tm_types.specs.declared.message.Message.{Message}
use Rattle.tm_types.specs.Name.{IsName}
use Rattle.tm_types.specs.Segment.{is_printable}
use Rattle.model_messages.specs.declared.conversation.Conversation.{Conversation}
use Rattle.model_messages.specs.declared.conversation.TerminalConversation.{TerminalConversation}
use Rattle.model_messages.specs.ConversationInput.{is_conversing, busy_id}
use Rattle.model_messages.specs.Pads.{begun, code_field}
use Rattle.model_messages.specs.Terminals.{conversation_terminal, conversation_at, with_conversation}
use Rattle.model_system.specs.declared.code.Code.{Code}
use Rattle.model_system.specs.Codes.{code_at}
use Rattle.model_system.specs.System.{System}
use Rattle.system_types.specs.ValidSystem.{IsSystem, IsPadLength}
use Rattle.system_types.proofs.Indexed.{found_at}
use Rattle.model_machine.specs.declared.lasting.TerminalState.{TerminalState}
use Rattle.model_machine.specs.Machine.{terminal_place, fresh_terminal_state}
use Rattle.model_machine.specs.LastingSteps.{KeptInput, code_word, with_conversing, input_message, kept_alone, kept_by, kept_by_code, kept_first, with_begun}
use Rattle.model_machine.specs.MachineCalls.{busy_by}
use Rattle.model_machine.specs.Trial.{Given}
use Rattle.lasting_changes.proofs.Abended.{both, name_prints}
use Rattle.region_work.specs.RegionWork.{given_in}
use Rattle.tm_machine.specs.Parts.{AreOfOtherConversations, AreConversations, IsConversationOf, IsOfConversation}
use Rattle.tm_machine.proofs.Conversing.{all_both, all_map, all_append, all_with, alone_append, belongs_still, found_holds, names_stay, no_both, other_terminal, own_terminal}

-- ---- a pad as it begins
take_all : (n : ℕ) (xs : List ℕ) → length xs ≤ n → take n xs ≡ xs
take_all zero [] h = refl
take_all zero (x ∷ xs) h = absurd (omega (arith, h))
take_all (suc n) [] h = refl
take_all (suc n) (x ∷ xs) h = ap (λ ys. x ∷ ys) (take_all n xs (omega (arith, h)))

take_front : (n : ℕ) (xs ys : List ℕ) → length xs ≡ n → take n (xs ++ ys) ≡ xs
take_front zero [] ys h = by ys
  where
    by : (ys : List ℕ) → take 0 ys ≡ []
    by [] = refl
    by (y ∷ ys) = refl
take_front zero (x ∷ xs) ys h = absurd (omega (arith, h))
take_front (suc n) [] ys h = absurd (omega (arith, h))
take_front (suc n) (x ∷ xs) ys h = ap (λ zs. x ∷ zs) (take_front n xs ys (omega (arith, h)))

blanks_many : (n : ℕ) → length (replicate {A = ℕ} n 32) ≡ n
blanks_many zero = refl
blanks_many (suc n) = let rest = blanks_many n in omega (arith, rest)

pub blanks_print : (n : ℕ) → list_all is_printable (replicate n 32) ≡ true
blanks_print zero = refl
blanks_print (suc n) = blanks_print n

pub field_is : (code : List ℕ) → IsName code → code_field code ≡ code ++ replicate (8 - length code) 32
field_is code named = ap (λ front. front ++ replicate (8 - length code) 32) (take_all 8 code named.1)

field_length : (code : List ℕ) → IsName code → length (code_field code) ≡ 8
field_length code named =
    ap length (field_is code named) ∙ length-append code (replicate (8 - length code) 32)
    ∙ (let many = blanks_many (8 - length code) in omega (arith, many, named.1))

begun_right : (system : System) (word : List ℕ) (code : Code) → IsSystem system → IsName word → code_at system.codes word ≡ Some code → (code.transaction.scratch_pad == 0) ≡ false
    → IsConversationOf system (begun word (code.transaction.scratch_pad - 14))
begun_right system word code valid named found some = record {
  size = subst (λ o. IsSomeAnd o (λ c. (1 ≤ c.transaction.scratch_pad) × (length (begun word (code.transaction.scratch_pad - 14)).pad + 6 ≡ c.transaction.scratch_pad))) (sym found) (positive, count);
  front = take_front 8 (code_field word) (replicate (code.transaction.scratch_pad - 14) 32) (field_length word named);
  prints = both (code_field word) (replicate (code.transaction.scratch_pad - 14) 32)
      (subst (λ f. list_all is_printable f ≡ true) (sym (field_is word named)) (both word (replicate (8 - length word) 32) (name_prints word named.2) (blanks_print (8 - length word))))
      (blanks_print (code.transaction.scratch_pad - 14));
}
  where
    limits : IsPadLength code.transaction.scratch_pad
    limits = subst (λ o. IfSome o (λ c. IsPadLength c.transaction.scratch_pad)) found
        (found_holds (λ c. IsPadLength c.transaction.scratch_pad) (λ c. bytes_eq c.transaction.code word) system.codes valid.pads)

    not_zero : code.transaction.scratch_pad ≡ 0 → ⊥
    not_zero e = no_both (sym (eq-eqb code.transaction.scratch_pad 0 e) ∙ some)

    positive : 1 ≤ code.transaction.scratch_pad
    positive = by code.transaction.scratch_pad not_zero
      where
        by : (n : ℕ) → (n ≡ 0 → ⊥) → 1 ≤ n
        by zero f = absurd (f refl)
        by (suc n) f = omega arith

    count : length (code_field word ++ replicate (code.transaction.scratch_pad - 14) 32) + 6 ≡ code.transaction.scratch_pad
    count =
        let field = field_length word named in
        let many = blanks_many (code.transaction.scratch_pad - 14) in
        let whole = length-append (code_field word) (replicate (code.transaction.scratch_pad - 14) 32) in
        let least = limits.least positive in
        omega (arith, whole, field, many, least)

-- ---- the terminal of an input has a place among the conversations
find_map : {X : Type 0} (p : List ℕ → Bool) (f : X → List ℕ) (xs : List X) → is_some (find p (map f xs)) ≡ is_some (find (λ x. p (f x)) xs)
find_map p f [] = refl
find_map p f (x ∷ xs) = by (p (f x)) (find_map p f xs)
  where
    by : (b : Bool) → is_some (find p (map f xs)) ≡ is_some (find (λ y. p (f y)) xs)
        → is_some (if b then Some (f x) else find p (map f xs)) ≡ is_some (if b then Some x else find (λ y. p (f y)) xs)
    by true rec = refl
    by false rec = rec

pub terminal_there : (terminals : List TerminalState) (ts : List TerminalConversation) (name : List ℕ) (place : ℕ) → map (λ t. t.name) terminals ≡ map (λ t. t.terminal) ts
    → terminal_place terminals name ≡ Some place → place < length terminals → IsSome (conversation_terminal name ts)
terminal_there terminals ts name place names at within =
    sym (find_map (λ n. bytes_eq n name) (λ (t : TerminalConversation). t.terminal) ts)
    ∙ ap (λ ns. is_some (find (λ n. bytes_eq n name) ns)) (sym names)
    ∙ find_map (λ n. bytes_eq n name) (λ (t : TerminalState). t.name) terminals
    ∙ ap is_some (sym (found_at (λ (t : TerminalState). bytes_eq t.name name) terminals) ∙ ap (option_and_then (slice_get terminals)) at)
    ∙ ap is_some (slice_get-get_or terminals place (fresh_terminal_state []) within)

-- ---- the message of an input
-- all messages that were there are given as before, and the new one goes with them
pub record Joined (system : System) (before after : List TerminalConversation) (ms : List Message) (new : Message) : Type 0 where
  pub given : AllByRecursion (λ n. given_in after n ≡ given_in before n) ms
  pub are : AreConversations system after (ms ++ new ∷ [])

pub none_conversing : (terminal : List ℕ) (ms : List Message) → find (is_conversing terminal) ms ≡ None → AllByRecursion (λ n. is_conversing terminal n ≡ false) ms
none_conversing terminal [] e = tt
none_conversing terminal (m ∷ ms) e = by (is_conversing terminal m) refl e (none_conversing terminal ms)
  where
    by : (b : Bool) → is_conversing terminal m ≡ b → (if b then Some m else find (is_conversing terminal) ms) ≡ None
        → (find (is_conversing terminal) ms ≡ None → AllByRecursion (λ n. is_conversing terminal n ≡ false) ms)
        → (is_conversing terminal m ≡ false) × AllByRecursion (λ n. is_conversing terminal n ≡ false) ms
    by true g f rec = let clash : Some m ≡ None = f in absurd (cc)
    by false g f rec = (g, rec f)

module _ (system : System) (valid : IsSystem system) (conversations : List TerminalConversation) (ms : List Message) (are : AreConversations system conversations ms)
    (terminal : List ℕ) (id : ℕ) where
  joins : (after : List TerminalConversation) (new : Message) → AllByRecursion (λ n. given_in after n ≡ given_in conversations n) ms → map (λ t. t.terminal) after ≡ system.terminals
      → AllByRecursion (λ t. IfSome t.conversation (IsConversationOf system)) after → AllByRecursion (λ n. AreOfOtherConversations n new) ms → IsOfConversation after new
      → Joined system conversations after ms new
  joins after new given names pads apart belongs = record {
    given = given;
    are = record {
      names = names;
      pads = pads;
      belong = all_append (IsOfConversation after) ms (new ∷ [])
          (all_both (λ n. given_in after n ≡ given_in conversations n) (IsOfConversation conversations) (IsOfConversation after) ms
          (λ n same was. belongs_still conversations after n same was) given are.belong)
          (belongs, tt);
      alone = alone_append ms (new ∷ []) are.alone (tt, tt) (all_map (λ n. AreOfOtherConversations n new) (λ n. AllByRecursion (AreOfOtherConversations n) (new ∷ [])) ms (λ n a. (a, tt)) apart);
    };
  }

  all_same : (ns : List Message) → AllByRecursion (λ n. given_in conversations n ≡ given_in conversations n) ns
  all_same [] = tt
  all_same (n ∷ ns) = (refl, all_same ns)

  plain_apart : (new : Message) (ns : List Message) → new.conversation ≡ false → AllByRecursion (λ n. AreOfOtherConversations n new) ns
  plain_apart new [] plain = tt
  plain_apart new (n ∷ ns) plain = (λ x y s. no_both (sym y ∙ plain), plain_apart new ns plain)

  -- an input that belongs to no conversation
  alone : (code : List ℕ) (segments : List (List ℕ))
      → Joined system conversations conversations ms (record { id = id; origin = terminal; code = code; conversation = false; segments = segments })
  alone code segments =
      joins conversations (record { id = id; origin = terminal; code = code; conversation = false; segments = segments }) (all_same ms) are.names are.pads
      (plain_apart (record { id = id; origin = terminal; code = code; conversation = false; segments = segments }) ms refl) (λ x. absurd (no_both (sym x)))

  -- an input with which a conversation goes on
  goes_on : (c : Conversation) (segments : List (List ℕ)) → conversation_at terminal conversations ≡ Some c → busy_id terminal ms ≡ None
      → Joined system conversations conversations ms (record { id = id; origin = terminal; code = c.code; conversation = true; segments = segments })
  goes_on c segments here free =
      joins conversations new (all_same ms) are.names are.pads
      (all_map (λ n. is_conversing terminal n ≡ false) (λ n. AreOfOtherConversations n new) ms apart (none_conversing terminal ms (none_found (find (is_conversing terminal) ms) free)))
      (λ x. subst (λ o. IsSomeAnd o (λ k. k.code ≡ c.code)) (sym here) refl)
    where
      new : Message
      new = record { id = id; origin = terminal; code = c.code; conversation = true; segments = segments }

      none_found : (o : Option Message) → option_map (λ (m : Message). m.id) o ≡ None → o ≡ None
      none_found None e = refl
      none_found (Some m) e = let clash : Some m.id ≡ None = e in absurd (cc)

      apart : (n : Message) → is_conversing terminal n ≡ false → AreOfOtherConversations n new
      apart n fails x y s =
          no_both (sym (ap (λ b. b && n.conversation) ((bytes_eq-Decides n.origin terminal).1 (sym s)) ∙ x) ∙ fails)

  -- an input with which one begins
  first : IsSome (conversation_terminal terminal conversations) → (word : List ℕ) (segments : List (List ℕ)) (code : Code) → IsName word → conversation_at terminal conversations ≡ None
      → code_at system.codes word ≡ Some code → (code.transaction.scratch_pad == 0) ≡ false
      → Joined system conversations (with_conversing terminal (Some (begun word (code.transaction.scratch_pad - 14))) conversations) ms
      (record { id = id; origin = terminal; code = word; conversation = true; segments = segments })
  first there word segments code named none found some =
      joins after new (all_map (IsOfConversation conversations) (λ n. given_in after n ≡ given_in conversations n) ms same are.belong)
      (names_stay terminal (with_conversation (Some b)) conversations (λ t. refl) ∙ are.names)
      (all_with (λ t. IfSome t.conversation (IsConversationOf system)) terminal (with_conversation (Some b)) conversations are.pads
      (λ t e was. begun_right system word code valid named found some))
      (all_map (IsOfConversation conversations) (λ n. AreOfOtherConversations n new) ms (λ n was x y s. not_here n was x (sym s)) are.belong)
      (λ x. subst (λ o. IsSomeAnd o (λ k. k.code ≡ word)) (sym (here (conversation_terminal terminal conversations) refl there)) refl)
    where
      b : Conversation
      b = begun word (code.transaction.scratch_pad - 14)

      after : List TerminalConversation
      after = with_conversing terminal (Some b) conversations

      new : Message
      new = record { id = id; origin = terminal; code = word; conversation = true; segments = segments }

      here : (o : Option TerminalConversation) → conversation_terminal terminal conversations ≡ o → IsSome o → conversation_at terminal after ≡ Some b
      here (Some t) e h = ap (option_and_then (λ u. u.conversation)) (own_terminal terminal (with_conversation (Some b)) conversations (λ t. refl) ∙ ap (option_map (with_conversation (Some b))) e)
      here None e h = let clash : false ≡ true = h in absurd (cc)

      not_here : (n : Message) → IsOfConversation conversations n → n.conversation ≡ true → n.origin ≡ terminal → ⊥
      not_here n was x s =
          let has : IsSomeAnd {T = Conversation} None (λ c. c.code ≡ n.code)
          = subst (λ o. IsSomeAnd o (λ c. c.code ≡ n.code)) (ap (λ f. if f then conversation_at n.origin conversations else None) x ∙ ap (λ o. conversation_at o conversations) s ∙ none) (was x) in
          absurd has

      made : Message → Option Conversation → Given
      made n c = record { message = n; conversation = c }

      same : (n : Message) → IsOfConversation conversations n → given_in after n ≡ given_in conversations n
      same n was = by n.conversation refl
        where
          by : (f : Bool) → n.conversation ≡ f → made n (if f then conversation_at n.origin after else None) ≡ made n (if f then conversation_at n.origin conversations else None)
          by true e = ap (made n) (other_terminal terminal n.origin (with_conversation (Some b)) conversations (λ t. refl) (not_here n was e))
          by false e = refl

  abbrev JoinedBy : KeptInput → Type 0
  JoinedBy kept = Joined system conversations (with_begun terminal kept.begins conversations) ms (input_message id terminal kept)

  joined_by : IsSome (conversation_terminal terminal conversations) → (segments : List (List ℕ)) (c : Option Conversation) → conversation_at terminal conversations ≡ c → busy_by c (busy_id terminal ms) ≡ None
      → IsName (kept_by system c segments).code → JoinedBy (kept_by system c segments)
  joined_by there segments (Some c) e free named = goes_on c segments e (none_busy (busy_id terminal ms) free)
    where
      none_busy : (o : Option ℕ) → busy_by (Some c) o ≡ None → o ≡ None
      none_busy None f = refl
      none_busy (Some n) f = absurd (cc)
  joined_by there segments None e free named = by (code_at system.codes (code_word segments)) refl named
    where
      by_pad : (code : Code) (z : Bool) → code_at system.codes (code_word segments) ≡ Some code → (code.transaction.scratch_pad == 0) ≡ z
          → IsName (if z then kept_alone segments else kept_first code.transaction.scratch_pad segments).code
          → JoinedBy (if z then kept_alone segments else kept_first code.transaction.scratch_pad segments)
      by_pad code true f g name = alone (code_word segments) segments
      by_pad code false f g name = first there (code_word segments) (kept_first code.transaction.scratch_pad segments).segments code name e f g

      by : (found : Option Code) → code_at system.codes (code_word segments) ≡ found → IsName (kept_by_code found segments).code → JoinedBy (kept_by_code found segments)
      by None f name = alone (code_word segments) segments
      by (Some code) f name = by_pad code (code.transaction.scratch_pad == 0) f refl name

  pub input_joined : IsSome (conversation_terminal terminal conversations) → (segments : List (List ℕ)) (kept : KeptInput) → kept ≡ kept_by system (conversation_at terminal conversations) segments
      → busy_by (conversation_at terminal conversations) (busy_id terminal ms) ≡ None → IsName kept.code → JoinedBy kept
  input_joined there segments kept is free named =
      subst JoinedBy (sym is) (joined_by there segments (conversation_at terminal conversations) refl free (subst (λ k. IsName k.code) is named))
