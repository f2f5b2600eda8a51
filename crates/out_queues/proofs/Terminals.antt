-- Terminals by their names.
use Rattle.std.proofs.Common.{◌≡◌, ℕ, ◌+◌, ◌∷◌, [], List, refl, sym, ◌∙◌, ap, subst, arith, Bool, true, false, cond, Some, None, suc, get_or, slice_set}
use Rattle.std.specs.Prelude.{position, slice_get}
use Rattle.std.specs.List.{position_from}
use Rattle.std.proofs.lemmas.Iterator.Adapters.{position_from-zero}
use Rattle.std.specs.Option.{is_some}
use Rattle.model_messages.specs.declared.replies.TerminalReplies.{TerminalReplies}
use Rattle.model_messages.specs.Outputs.{are_replies_of, replies_at, IsTerminal, with_terminal}

-- this is the place of the terminal of the name
record IsPlace (name : List ℕ) (ts : List TerminalReplies) (place : ℕ) : Type 0 where
  pub found : replies_at name ts ≡ slice_get ts place
  pub changed : (f : TerminalReplies → TerminalReplies) (d : TerminalReplies) → slice_set ts place (f (get_or ts place d)) ≡ with_terminal name f ts

place_from : (name : List ℕ) (k : ℕ) (ts : List TerminalReplies) (i : ℕ) → position_from (are_replies_of name) k ts ≡ Some i → (j : ℕ) × (i ≡ j + k) × IsPlace name ts j
place_from name k [] i e = let clash : None ≡ Some i = e in absurd (cc)
place_from name k (t ∷ ts) i e = by (are_replies_of name t) refl e (place_from name (k + 1) ts i)
  where
    by : (b : Bool) → are_replies_of name t ≡ b → cond b (Some k) (position_from (are_replies_of name) (k + 1) ts) ≡ Some i
        → (position_from (are_replies_of name) (k + 1) ts ≡ Some i → (j : ℕ) × (i ≡ j + (k + 1)) × IsPlace name ts j)
        → (j : ℕ) × (i ≡ j + k) × IsPlace name (t ∷ ts) j
    by true q g rec =
        let some : Some k ≡ Some i = g in
        let same : k ≡ i = cc in (
          0,
          omega (arith, same),
          record {
            found = ap (λ b. cond b (Some t) (replies_at name ts)) q;
            changed = λ f d. sym (ap (λ b. cond b (f t ∷ ts) (t ∷ with_terminal name f ts)) q);
          },
        )
    by false q g rec =
        let r = rec g in (
          suc r.0,
          omega (arith, r.1),
          record {
            found = ap (λ b. cond b (Some t) (replies_at name ts)) q ∙ r.2.found;
            changed = λ f d. ap (λ us. t ∷ us) (r.2.changed f d) ∙ sym (ap (λ b. cond b (f t ∷ ts) (t ∷ with_terminal name f ts)) q);
          },
        )

place_is : (name : List ℕ) (ts : List TerminalReplies) (i : ℕ) → position (are_replies_of name) ts ≡ Some i → IsPlace name ts i
place_is name ts i e =
    let r = place_from name 0 ts i (sym (position_from-zero (are_replies_of name) ts) ∙ e) in
    let same : r.0 ≡ i = omega (arith, r.1) in
    subst (IsPlace name ts) same r.2

pub place_found : (name : List ℕ) (ts : List TerminalReplies) (i : ℕ) → position (are_replies_of name) ts ≡ Some i → replies_at name ts ≡ slice_get ts i
place_found name ts i e = (place_is name ts i e).found

-- a changed element is the terminal changed
pub place_changed : (name : List ℕ) (f : TerminalReplies → TerminalReplies) (ts : List TerminalReplies) (i : ℕ) (d new : TerminalReplies) → position (are_replies_of name) ts ≡ Some i
    → new ≡ f (get_or ts i d) → slice_set ts i new ≡ with_terminal name f ts
place_changed name f ts i d new e g = ap (slice_set ts i) g ∙ (place_is name ts i e).changed f d

none_from : (name : List ℕ) (k : ℕ) (ts : List TerminalReplies) → position_from (are_replies_of name) k ts ≡ None → replies_at name ts ≡ None
none_from name k [] e = refl
none_from name k (t ∷ ts) e = by (are_replies_of name t) e (none_from name (k + 1) ts)
  where
    by : (b : Bool) → cond b (Some k) (position_from (are_replies_of name) (k + 1) ts) ≡ None → (position_from (are_replies_of name) (k + 1) ts ≡ None → replies_at name ts ≡ None)
        → cond b (Some t) (replies_at name ts) ≡ None
    by true g rec = let clash : Some k ≡ None = g in absurd (cc)
    by false g rec = rec g

-- a terminal that is there has a place
pub no_place : (name : List ℕ) (ts : List TerminalReplies) → IsTerminal name ts → position (are_replies_of name) ts ≡ None → ⊥
no_place name ts h e =
    let none : replies_at name ts ≡ None = none_from name 0 ts (sym (position_from-zero (are_replies_of name) ts) ∙ e) in
    let clash : true ≡ false = sym h ∙ ap is_some none in cc
