-- A chain, one sector on.
use Rattle.std.proofs.Common.{◌≡◌, ℕ, suc, ◌+◌, ◌-◌, ◌<◌, List, [], ◌∷◌, ◌++◌, sym, ◌∙◌, ap, arith, append_assoc, Option, Some, None}
use Rattle.tm_disk.specs.Disk.{Image, sector_at}
use Rattle.log_sectors.specs.SealedSector.{opened_payload}
use Rattle.log_sectors.specs.Chain.{before, chain, joined_payloads}

chain_step : (count place : ℕ) (image : Image) (first sequence epoch : ℕ) → place < count → chain (count - place) image (first + place) (sequence + place) epoch ≡ before (opened_payload epoch (sequence + place) (sector_at image (first + place))) (chain (count - (place + 1)) image (first + (place + 1)) (sequence + (place + 1)) epoch)
chain_step count place image first sequence epoch lt =
    let n = count - (place + 1) in
    let one : count - place ≡ suc n = omega arith in
    let at : (first + place) + 1 ≡ first + (place + 1) = omega arith in
    let seq : (sequence + place) + 1 ≡ sequence + (place + 1) = omega arith in
    let o = opened_payload epoch (sequence + place) (sector_at image (first + place)) in
    ap (λ k. chain k image (first + place) (sequence + place) epoch) one
    ∙ ap (λ k. before o (chain n image k ((sequence + place) + 1) epoch)) at
    ∙ ap (λ k. before o (chain n image (first + (place + 1)) k epoch)) seq

pub chain_none : (count place : ℕ) (image : Image) (first sequence epoch : ℕ) → place < count → opened_payload epoch (sequence + place) (sector_at image (first + place)) ≡ None → chain (count - place) image (first + place) (sequence + place) epoch ≡ []
chain_none count place image first sequence epoch lt none =
    chain_step count place image first sequence epoch lt ∙ ap (λ (o : Option (List ℕ)). before o (chain (count - (place + 1)) image (first + (place + 1)) (sequence + (place + 1)) epoch)) none

pub chain_some : (count place : ℕ) (image : Image) (first sequence epoch : ℕ) (payload : List ℕ) → place < count → opened_payload epoch (sequence + place) (sector_at image (first + place)) ≡ Some payload → chain (count - place) image (first + place) (sequence + place) epoch ≡ payload ∷ chain (count - (place + 1)) image (first + (place + 1)) (sequence + (place + 1)) epoch
chain_some count place image first sequence epoch payload lt some =
    chain_step count place image first sequence epoch lt ∙ ap (λ (o : Option (List ℕ)). before o (chain (count - (place + 1)) image (first + (place + 1)) (sequence + (place + 1)) epoch)) some

-- the bytes read so far, and those to come
pub joined_next : (all so_far payload next : List ℕ) (rest : List (List ℕ)) (links : List (List ℕ)) → all ≡ so_far ++ joined_payloads links → links ≡ payload ∷ rest → next ≡ so_far ++ payload → all ≡ next ++ joined_payloads rest
joined_next all so_far payload next rest links is some made =
    is ∙ ap (λ (l : List (List ℕ)). so_far ++ joined_payloads l) some ∙ sym (append_assoc so_far payload (joined_payloads rest)) ∙ ap (λ (l : List ℕ). l ++ joined_payloads rest) (sym made)
