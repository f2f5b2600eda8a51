-- Replies one after another, from the front.
use Rattle.std.proofs.Common.{◌≡◌, ℕ, suc, ◌+◌, ◌-◌, ◌<◌, List, ◌++◌, arith, sym, append_assoc}
use Rattle.std.proofs.lemmas.List.{append-nil}
use Rattle.workload.specs.Session.{numbers, reply_lines, reply_requests}

-- so many are left, and one fewer behind the first
pub left_more : (first past : ℕ) → first < past → past - first ≡ suc (past - (first + 1))
left_more first past below = omega arith

pub left_none : (past : ℕ) → past - past ≡ 0
left_none past = omega arith

pub replies_more : (out terminal : List ℕ) (first past : ℕ) → first < past →
    out ++ reply_requests terminal first past ≡ (out ++ reply_lines terminal first) ++ reply_requests terminal (first + 1) past
unfolding reply_requests numbers
replies_more out terminal first past below =
    rw (left_more first past below) (sym (append_assoc out (reply_lines terminal first) _))

pub replies_none : (out terminal : List ℕ) (past : ℕ) → out ++ reply_requests terminal past past ≡ out
unfolding reply_requests numbers
replies_none out terminal past = rw (left_none past) (append-nil out)

pub ruleset reply_steps = (replies_more, replies_none)
