-- A terminal that stands first in its table, and one that has a conversation.
use Rattle.std.proofs.Common.{◌≡◌, ℕ, List, [], ◌∷◌, Option, Some, None, true, false, cond, IsSome, refl, sym, ◌∙◌, ap, subst, map}
use Rattle.std.specs.Prelude.{is_some}
use Rattle.std.specs.Option.{option_and_then}
use Rattle.std.proofs.lemmas.Slice.Eq.{bytes_eq-Decides}
use Rattle.model_messages.specs.declared.conversation.TerminalConversation.{TerminalConversation}
use Rattle.model_messages.specs.Terminals.{without_conversation, conversation_terminal, conversation_at, IsTerminal}

stands_first : (name : List ℕ) (rest : List TerminalConversation) → conversation_terminal name (without_conversation name ∷ rest) ≡ Some (without_conversation name)
stands_first name rest =
    ap (λ b. cond b (Some (without_conversation name)) (conversation_terminal name rest)) ((bytes_eq-Decides name name).1 refl)

-- the first of two new terminals is there
pub first_terminal : (name other : List ℕ) (ts : List TerminalConversation) → ts ≡ map without_conversation (name ∷ other ∷ []) → IsTerminal name ts
first_terminal name other ts same =
    subst (λ o. IsSome o) (sym (ap (conversation_terminal name) same ∙ stands_first name (without_conversation other ∷ []))) refl

-- and has no conversation
pub first_without : (name other : List ℕ) (ts : List TerminalConversation) → ts ≡ map without_conversation (name ∷ other ∷ []) → conversation_at name ts ≡ None
first_without name other ts same =
    ap (option_and_then (λ (t : TerminalConversation). t.conversation)) (ap (conversation_terminal name) same ∙ stands_first name (without_conversation other ∷ []))

-- what has a conversation is a terminal
pub conversing_terminal : (name : List ℕ) (ts : List TerminalConversation) → is_some (conversation_at name ts) ≡ true → IsTerminal name ts
conversing_terminal name ts = by (conversation_terminal name ts)
  where
    by : (o : Option TerminalConversation) → is_some (option_and_then (λ (t : TerminalConversation). t.conversation) o) ≡ true → IsSome o
    by None e = let clash : false ≡ true = e in absurd (cc)
    by (Some t) e = refl
