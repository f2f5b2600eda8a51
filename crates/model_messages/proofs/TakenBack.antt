-- What was added last is taken back.
use Rattle.std.proofs.Common.{◌≡◌, ℕ, ◌+◌, ◌-◌, Bool, true, false, List, [], ◌∷◌, ◌++◌, refl, ap, ◌∙◌, cond, length, take, arith, length-append}
use Rattle.std.proofs.Math.Seq.{take-append_seam}
use Rattle.model_messages.specs.declared.replies.TerminalReplies.{TerminalReplies}
use Rattle.model_messages.specs.Outputs.{are_replies_of, with_terminal, with_reply, without_last}

-- a terminal is as before
pub reply_taken_back : (segments : List (List ℕ)) (t : TerminalReplies) → without_last (with_reply segments t) ≡ t
reply_taken_back segments t =
    ap (λ n. record t { next = n; replies = take (length (t.replies ++ record { number = t.next; segments = segments } ∷ []) - 1) (t.replies ++ record { number = t.next; segments = segments } ∷ []) }) next
    ∙ ap (λ rs. record t { replies = rs }) replies
  where
    next : t.next + 1 - 1 ≡ t.next
    next = omega arith

    count : length (t.replies ++ record { number = t.next; segments = segments } ∷ []) - 1 ≡ length t.replies
    count = omega (arith, length-append t.replies (record { number = t.next; segments = segments } ∷ []))

    replies : take (length (t.replies ++ record { number = t.next; segments = segments } ∷ []) - 1) (t.replies ++ record { number = t.next; segments = segments } ∷ []) ≡ t.replies
    replies =
        ap (λ n. take n (t.replies ++ record { number = t.next; segments = segments } ∷ [])) count
        ∙ take-append_seam t.replies (record { number = t.next; segments = segments } ∷ [])

-- and so are all
pub taken_back : (name : List ℕ) (segments : List (List ℕ)) (outputs : List TerminalReplies)
    → with_terminal name without_last (with_terminal name (with_reply segments) outputs) ≡ outputs
taken_back name segments [] = refl
taken_back name segments (t ∷ ts) = by (are_replies_of name t) refl (taken_back name segments ts)
  where
    by : (b : Bool) → are_replies_of name t ≡ b → with_terminal name without_last (with_terminal name (with_reply segments) ts) ≡ ts
        → with_terminal name without_last (cond b (with_reply segments t ∷ ts) (t ∷ with_terminal name (with_reply segments) ts)) ≡ t ∷ ts
    by true q rest =
        ap (λ b. cond b (without_last (with_reply segments t) ∷ ts) (with_reply segments t ∷ with_terminal name without_last ts)) q
        ∙ ap (λ u. u ∷ ts) (reply_taken_back segments t)
    by false q rest =
        ap (λ b. cond b (without_last t ∷ with_terminal name (with_reply segments) ts) (t ∷ with_terminal name without_last (with_terminal name (with_reply segments) ts))) q
        ∙ ap (λ us. t ∷ us) rest
