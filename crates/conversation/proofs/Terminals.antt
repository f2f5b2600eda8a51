-- Terminals by their names.
use Rattle.std.proofs.Common.{◌≡◌, ℕ, ◌+◌, ◌∷◌, [], List, refl, sym, ◌∙◌, ap, subst, arith, Bool, true, false, cond, Some, None, suc, get_or, slice_set}
use Rattle.std.specs.Prelude.{position}
use Rattle.std.specs.List.{position_from}
use Rattle.std.proofs.lemmas.Iterator.Adapters.{position_from-zero}
use Rattle.model_messages.specs.declared.conversation.TerminalConversation.{TerminalConversation}
use Rattle.model_messages.specs.Terminals.{is_conversation_of, conversation_terminal, with_terminal}

-- this is the place of the terminal of the name
record IsPlace (name : List ℕ) (ts : List TerminalConversation) (place : ℕ) : Type 0 where
  pub held : (d : TerminalConversation) → conversation_terminal name ts ≡ Some (get_or ts place d)
  pub changed : (f : TerminalConversation → TerminalConversation) (d : TerminalConversation) → slice_set ts place (f (get_or ts place d)) ≡ with_terminal name f ts

place_from : (name : List ℕ) (k : ℕ) (ts : List TerminalConversation) (i : ℕ) → position_from (is_conversation_of name) k ts ≡ Some i → (j : ℕ) × (i ≡ j + k) × IsPlace name ts j
place_from name k [] i e = let clash : None ≡ Some i = e in absurd (cc)
place_from name k (t ∷ ts) i e = by (is_conversation_of name t) refl e (place_from name (k + 1) ts i)
  where
    by : (b : Bool) → is_conversation_of name t ≡ b → cond b (Some k) (position_from (is_conversation_of name) (k + 1) ts) ≡ Some i
        → (position_from (is_conversation_of name) (k + 1) ts ≡ Some i → (j : ℕ) × (i ≡ j + (k + 1)) × IsPlace name ts j)
        → (j : ℕ) × (i ≡ j + k) × IsPlace name (t ∷ ts) j
    by true q g rec =
        let some : Some k ≡ Some i = g in
        let same : k ≡ i = cc in (
          0,
          omega (arith, same),
          record {
            held = λ d. ap (λ b. cond b (Some t) (conversation_terminal name ts)) q;
            changed = λ f d. sym (ap (λ b. cond b (f t ∷ ts) (t ∷ with_terminal name f ts)) q);
          },
        )
    by false q g rec =
        let r = rec g in (
          suc r.0,
          omega (arith, r.1),
          record {
            held = λ d. ap (λ b. cond b (Some t) (conversation_terminal name ts)) q ∙ r.2.held d;
            changed = λ f d. ap (λ us. t ∷ us) (r.2.changed f d) ∙ sym (ap (λ b. cond b (f t ∷ ts) (t ∷ with_terminal name f ts)) q);
          },
        )

place_is : (name : List ℕ) (ts : List TerminalConversation) (i : ℕ) → position (is_conversation_of name) ts ≡ Some i → IsPlace name ts i
place_is name ts i e =
    let r = place_from name 0 ts i (sym (position_from-zero (is_conversation_of name) ts) ∙ e) in
    let same : r.0 ≡ i = omega (arith, r.1) in
    subst (IsPlace name ts) same r.2

-- the element at the place is the terminal
pub place_held : (name : List ℕ) (ts : List TerminalConversation) (i : ℕ) (t : TerminalConversation) → position (is_conversation_of name) ts ≡ Some i → t ≡ get_or ts i t → conversation_terminal name ts ≡ Some t
place_held name ts i t e g = (place_is name ts i e).held t ∙ ap Some (sym g)

-- a changed element is the terminal changed
pub place_changed : (name : List ℕ) (f : TerminalConversation → TerminalConversation) (ts : List TerminalConversation) (i : ℕ) (d new : TerminalConversation) → position (is_conversation_of name) ts ≡ Some i
    → new ≡ f (get_or ts i d) → slice_set ts i new ≡ with_terminal name f ts
place_changed name f ts i d new e g = ap (slice_set ts i) g ∙ (place_is name ts i e).changed f d

none_from : (name : List ℕ) (k : ℕ) (ts : List TerminalConversation) → position_from (is_conversation_of name) k ts ≡ None → conversation_terminal name ts ≡ None
none_from name k [] e = refl
none_from name k (t ∷ ts) e = by (is_conversation_of name t) e (none_from name (k + 1) ts)
  where
    by : (b : Bool) → cond b (Some k) (position_from (is_conversation_of name) (k + 1) ts) ≡ None → (position_from (is_conversation_of name) (k + 1) ts ≡ None → conversation_terminal name ts ≡ None)
        → cond b (Some t) (conversation_terminal name ts) ≡ None
    by true g rec = let clash : Some k ≡ None = g in absurd (cc)
    by false g rec = rec g

pub none_at : (name : List ℕ) (ts : List TerminalConversation) → position (is_conversation_of name) ts ≡ None → conversation_terminal name ts ≡ None
none_at name ts e = none_from name 0 ts (sym (position_from-zero (is_conversation_of name) ts) ∙ e)

-- where no terminal has the name, none is changed
unchanged_from : (name : List ℕ) (f : TerminalConversation → TerminalConversation) (ts : List TerminalConversation) → conversation_terminal name ts ≡ None → with_terminal name f ts ≡ ts
unchanged_from name f [] e = refl
unchanged_from name f (t ∷ ts) e = by (is_conversation_of name t) e (unchanged_from name f ts)
  where
    by : (b : Bool) → cond b (Some t) (conversation_terminal name ts) ≡ None → (conversation_terminal name ts ≡ None → with_terminal name f ts ≡ ts)
        → cond b (f t ∷ ts) (t ∷ with_terminal name f ts) ≡ t ∷ ts
    by true g rec = let clash : Some t ≡ None = g in absurd (cc)
    by false g rec = ap (λ us. t ∷ us) (rec g)

pub none_changed : (name : List ℕ) (f : TerminalConversation → TerminalConversation) (ts : List TerminalConversation) → position (is_conversation_of name) ts ≡ None → ts ≡ with_terminal name f ts
none_changed name f ts e = sym (unchanged_from name f ts (none_at name ts e))
