-- Where no terminal has the name, none is changed.
use Rattle.std.proofs.Common.{◌≡◌, ℕ, ◌+◌, ◌∷◌, [], List, refl, sym, ◌∙◌, ap, Bool, true, false, cond, Some, None}
use Rattle.std.specs.Prelude.{position}
use Rattle.std.specs.List.{position_from}
use Rattle.std.proofs.lemmas.Iterator.Adapters.{position_from-zero}
use Rattle.model_messages.specs.declared.replies.TerminalReplies.{TerminalReplies}
use Rattle.model_messages.specs.Outputs.{are_replies_of, with_terminal}

unchanged_from : (name : List ℕ) (f : TerminalReplies → TerminalReplies) (k : ℕ) (ts : List TerminalReplies) → position_from (are_replies_of name) k ts ≡ None → with_terminal name f ts ≡ ts
unchanged_from name f k [] e = refl
unchanged_from name f k (t ∷ ts) e = by (are_replies_of name t) e (unchanged_from name f (k + 1) ts)
  where
    by : (b : Bool) → cond b (Some k) (position_from (are_replies_of name) (k + 1) ts) ≡ None → (position_from (are_replies_of name) (k + 1) ts ≡ None → with_terminal name f ts ≡ ts)
        → cond b (f t ∷ ts) (t ∷ with_terminal name f ts) ≡ t ∷ ts
    by true g rec = let clash : Some k ≡ None = g in absurd (cc)
    by false g rec = ap (λ us. t ∷ us) (rec g)

pub none_changed : (name : List ℕ) (f : TerminalReplies → TerminalReplies) (ts : List TerminalReplies) → position (are_replies_of name) ts ≡ None → ts ≡ with_terminal name f ts
none_changed name f ts e = sym (unchanged_from name f 0 ts (sym (position_from-zero (are_replies_of name) ts) ∙ e))
