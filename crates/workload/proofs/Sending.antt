-- What is still to be sent, and one input of it.
use Rattle.std.proofs.Common.{◌≡◌, ℕ, ◌+◌, ◌-◌, ◌<◌, List, ◌++◌, map, refl, arith, ap, sym, ◌∙◌, append_assoc}
use Rattle.std.specs.Prelude.{codes}
use Rattle.std.proofs.lemmas.List.{append-nil}
use Rattle.rand_pcg.specs.Lcg.{Lcg}
use Rattle.workload.specs.Draws.{transfer_text, behind_transfer, states}
use Rattle.workload.specs.Session.{numbers, input_requests, input_line, behind_input, opening_text, openings, transfers}
use Rattle.workload.proofs.Numbers.{left_more, left_none}

three : (out first second rest : List ℕ) → out ++ ((first ++ second) ++ rest) ≡ ((out ++ first) ++ second) ++ rest
three out first second rest =
    sym (append_assoc out (first ++ second) rest) ∙ ap (λ l. l ++ rest) (sym (append_assoc out first second))

all_left : (count : ℕ) → count + 1 - 1 ≡ count
all_left count = omega arith

-- the accounts from this number on, up to the one before `past`
unfoldable pub openings_from : ℕ → ℕ → ℕ → List ℕ
openings_from count number past = input_requests (codes "T9") count number (map opening_text (numbers number (past - number)))

pub openings_all : (count : ℕ) → openings_from count 1 (count + 1) ≡ openings count
unfolding openings openings_from
openings_all count = rw (all_left count) refl

pub openings_more : (out : List ℕ) (count number past : ℕ) → number < past →
    out ++ openings_from count number past
    ≡ ((out ++ input_line (codes "T9") number (opening_text number)) ++ behind_input (codes "T9") count number) ++ openings_from count (number + 1) past
unfolding openings_from numbers input_requests
openings_more out count number past below =
    rw (left_more number past below) (three out (input_line (codes "T9") number (opening_text number)) (behind_input (codes "T9") count number) _)

pub openings_none : (out : List ℕ) (count past : ℕ) → out ++ openings_from count past past ≡ out
unfolding openings_from numbers input_requests
openings_none out count past = rw (left_none past) (append-nil out)

pub ruleset opening_steps = (openings_all, openings_more, openings_none)

-- the transfers from this number on, up to the one before `past`
unfoldable pub transfers_from : Lcg → ℕ → ℕ → ℕ → List ℕ
transfers_from generator count number past = input_requests (codes "T1") count number (map transfer_text (states (past - number) generator))

pub transfers_all : (generator : Lcg) (count : ℕ) → transfers_from generator count 1 (count + 1) ≡ transfers generator count
unfolding transfers transfers_from
transfers_all generator count = rw (all_left count) refl

pub transfers_more : (out : List ℕ) (generator : Lcg) (count number past : ℕ) → number < past →
    out ++ transfers_from generator count number past
    ≡ ((out ++ input_line (codes "T1") number (transfer_text generator)) ++ behind_input (codes "T1") count number) ++ transfers_from (behind_transfer generator) count (number + 1) past
unfolding transfers_from states input_requests
transfers_more out generator count number past below =
    rw (left_more number past below) (three out (input_line (codes "T1") number (transfer_text generator)) (behind_input (codes "T1") count number) _)

pub transfers_none : (out : List ℕ) (generator : Lcg) (count past : ℕ) → out ++ transfers_from generator count past past ≡ out
unfolding transfers_from states input_requests
transfers_none out generator count past = rw (left_none past) (append-nil out)

pub ruleset transfer_steps = (transfers_all, transfers_more, transfers_none)
