-- What the laid sectors add to the chain.
use Rattle.std.proofs.Common.{◌≡◌, ◌⊎◌, ℕ, suc, zero, ◌+◌, ◌-◌, ◌*◌, ◌<◌, ◌≤◌, List, [], ◌∷◌, ◌++◌, length, take, drop, refl, sym, ◌∙◌, ap, subst, inl, inr, ⊎_elim, arith, append_assoc, Option, Some, None, IsSome, take-append-drop}
use Rattle.std.proofs.lemmas.List.{take_at, append-nil}
use Rattle.tm_disk.specs.Disk.{Image, sector_at}
use Rattle.log_sectors.specs.SealedSector.{opened_payload}
use Rattle.log_sectors.specs.Chain.{before, chain, joined_payloads}
use Rattle.log_writer.specs.Writer.{Writer}
use Rattle.log_writer.specs.ForcedLog.{log_sectors_of, IsAtEnd, log_piece}

-- the sector of a chain at a place, with its sequence
abbrev pub link : Image → ℕ → ℕ → ℕ → ℕ → Option (List ℕ)
link image at sequence epoch x = opened_payload epoch (sequence + x) (sector_at image (at + x))

link_next : (image : Image) (at sequence epoch x : ℕ) → link image (at + 1) (sequence + 1) epoch x ≡ link image at sequence epoch (x + 1)
link_next image at sequence epoch x =
    let place : (at + 1) + x ≡ at + (x + 1) = omega arith in
    let number : (sequence + 1) + x ≡ sequence + (x + 1) = omega arith in
    ap (λ k. opened_payload epoch ((sequence + 1) + x) (sector_at image k)) place ∙ ap (λ k. opened_payload epoch k (sector_at image (at + (x + 1)))) number

link_first : (image : Image) (at sequence epoch : ℕ) → link image at sequence epoch 0 ≡ opened_payload epoch sequence (sector_at image at)
link_first image at sequence epoch =
    let place : at + 0 ≡ at = omega arith in
    let number : sequence + 0 ≡ sequence = omega arith in
    ap (λ k. opened_payload epoch (sequence + 0) (sector_at image k)) place ∙ ap (λ k. opened_payload epoch k (sector_at image at)) number

-- a chain whose first sectors are all there goes on behind them
before-some : (o : Option (List ℕ)) (xs ys : List (List ℕ)) → IsSome o → before o (xs ++ ys) ≡ before o xs ++ ys
before-some None xs ys some = cc
before-some (Some p) xs ys some = refl

pub chain-append : (p r : ℕ) (image : Image) (at sequence epoch : ℕ) → ((x : ℕ) → x < p → IsSome (link image at sequence epoch x)) → chain (p + r) image at sequence epoch ≡ chain p image at sequence epoch ++ chain r image (at + p) (sequence + p) epoch
chain-append zero r image at sequence epoch all =
    let count : zero + r ≡ r = omega arith in
    let place : at ≡ at + zero = omega arith in
    let number : sequence ≡ sequence + zero = omega arith in
    ap (λ k. chain k image at sequence epoch) count ∙ ap (λ k. chain r image k sequence epoch) place ∙ ap (λ k. chain r image (at + zero) k epoch) number
chain-append (suc p) r image at sequence epoch all =
    let count : suc p + r ≡ suc (p + r) = omega arith in
    let place : (at + 1) + p ≡ at + suc p = omega arith in
    let number : (sequence + 1) + p ≡ sequence + suc p = omega arith in
    let o = opened_payload epoch sequence (sector_at image at) in
    ap (λ k. chain k image at sequence epoch) count
    ∙ ap (λ (l : List (List ℕ)). before o l) (chain-append p r image (at + 1) (sequence + 1) epoch (λ x lt. subst IsSome (sym (link_next image at sequence epoch x)) (all (x + 1) (omega arith))))
    ∙ before-some o (chain p image (at + 1) (sequence + 1) epoch) (chain r image ((at + 1) + p) ((sequence + 1) + p) epoch) (subst IsSome (link_first image at sequence epoch) (all 0 (omega arith)))
    ∙ ap (λ k. chain (suc p) image at sequence epoch ++ chain r image k ((sequence + 1) + p) epoch) place
    ∙ ap (λ k. chain (suc p) image at sequence epoch ++ chain r image (at + suc p) k epoch) number

-- a chain is made of its sectors alone
pub chain-same : (p : ℕ) (old new : Image) (at sequence epoch : ℕ) → ((x : ℕ) → x < p → sector_at new (at + x) ≡ sector_at old (at + x)) → chain p new at sequence epoch ≡ chain p old at sequence epoch
chain-same zero old new at sequence epoch same = refl
chain-same (suc p) old new at sequence epoch same =
    let first : sector_at new at ≡ sector_at old at = subst (λ k. sector_at new k ≡ sector_at old k) (omega arith) (same 0 (omega arith)) in
    ap (λ (s : List ℕ). before (opened_payload epoch sequence s) (chain p new (at + 1) (sequence + 1) epoch)) first
    ∙ ap (λ (l : List (List ℕ)). before (opened_payload epoch sequence (sector_at old at)) l)
    (chain-same p old new (at + 1) (sequence + 1) epoch (λ x lt. subst (λ k. sector_at new k ≡ sector_at old k) (omega arith) (same (x + 1) (omega arith))))

-- where the first sector isn't of the chain, it is empty
pub chain-ended : (r : ℕ) (image : Image) (at sequence epoch : ℕ) → (0 < r → link image at sequence epoch 0 ≡ None) → chain r image at sequence epoch ≡ []
chain-ended zero image at sequence epoch ends = refl
chain-ended (suc r) image at sequence epoch ends =
    ap (λ (o : Option (List ℕ)). before o (chain r image (at + 1) (sequence + 1) epoch)) (sym (link_first image at sequence epoch) ∙ ends (omega arith))

piece_next : (payload : List ℕ) (payloads : List (List ℕ)) (x : ℕ) → Some (log_piece (payload ∷ payloads) (x + 1)) ≡ Some (log_piece payloads x)
piece_next payload payloads x =
    let e : x + 1 ≡ suc x = omega arith in
    ap (λ k. Some (log_piece (payload ∷ payloads) k)) e

-- where each of some sectors holds its payload or isn't of the chain, the chain is a front of the payloads
pub record Front (payloads links : List (List ℕ)) : Type 0 where
  pub count : ℕ
  pub is : links ≡ take count payloads

pub chain-front : (payloads : List (List ℕ)) (r : ℕ) (image : Image) (at sequence epoch : ℕ) → ((x : ℕ) → x < length payloads → (link image at sequence epoch x ≡ None) ⊎ (link image at sequence epoch x ≡ Some (log_piece payloads x))) → ((x : ℕ) → length payloads ≤ x → x < r → link image at sequence epoch x ≡ None) → Front payloads (chain r image at sequence epoch)
chain-front payloads zero image at sequence epoch laid free = record { count = 0; is = refl }
chain-front [] (suc r) image at sequence epoch laid free = record { count = 0; is = chain-ended (suc r) image at sequence epoch (λ some. free 0 (omega arith) (omega arith)) }
chain-front (payload ∷ payloads) (suc r) image at sequence epoch laid free =
    let rest = chain-front payloads r image (at + 1) (sequence + 1) epoch
    (λ x lt. ⊎_elim (λ none. inl (link_next image at sequence epoch x ∙ none)) (λ some. inr (link_next image at sequence epoch x ∙ some ∙ piece_next payload payloads x)) (laid (x + 1) (omega arith)))
    (λ x le lt. link_next image at sequence epoch x ∙ free (x + 1) (omega (arith, le)) (omega (arith, lt))) in
    ⊎_elim
    (λ none. record { count = 0; is = chain-ended (suc r) image at sequence epoch (λ some. none) })
    (λ some. record {
      count = suc rest.count;
      is =
          ap (λ (o : Option (List ℕ)). before o (chain r image (at + 1) (sequence + 1) epoch)) (sym (link_first image at sequence epoch) ∙ some)
          ∙ ap (λ (l : List (List ℕ)). payload ∷ l) rest.is;
    })
    (laid 0 (omega arith))

-- where each holds its payload, the chain is all of them
pub chain-all : (payloads : List (List ℕ)) (r : ℕ) (image : Image) (at sequence epoch : ℕ) → length payloads ≤ r → ((x : ℕ) → x < length payloads → link image at sequence epoch x ≡ Some (log_piece payloads x)) → ((x : ℕ) → length payloads ≤ x → x < r → link image at sequence epoch x ≡ None) → chain r image at sequence epoch ≡ payloads
chain-all [] r image at sequence epoch le laid free = chain-ended r image at sequence epoch (λ some. free 0 (omega arith) some)
chain-all (payload ∷ payloads) zero image at sequence epoch le laid free = absurd (omega (arith, le))
chain-all (payload ∷ payloads) (suc r) image at sequence epoch le laid free =
    ap (λ (o : Option (List ℕ)). before o (chain r image (at + 1) (sequence + 1) epoch)) (sym (link_first image at sequence epoch) ∙ laid 0 (omega arith))
    ∙ ap (λ (l : List (List ℕ)). payload ∷ l)
    (chain-all payloads r image (at + 1) (sequence + 1) epoch (omega (arith, le))
    (λ x lt. link_next image at sequence epoch x ∙ laid (x + 1) (omega arith) ∙ piece_next payload payloads x)
    (λ x far lt. link_next image at sequence epoch x ∙ free (x + 1) (omega (arith, far)) (omega (arith, lt))))

-- joined payloads

pub joined-append : (xs ys : List (List ℕ)) → joined_payloads (xs ++ ys) ≡ joined_payloads xs ++ joined_payloads ys
joined-append [] ys = refl
joined-append (x ∷ xs) ys = ap (λ (l : List ℕ). x ++ l) (joined-append xs ys) ∙ sym (append_assoc x (joined_payloads xs) (joined_payloads ys))

-- a front of the payloads is a front of their bytes
pub joined-front : (n : ℕ) (payloads : List (List ℕ)) → joined_payloads (take n payloads) ≡ take (length (joined_payloads (take n payloads))) (joined_payloads payloads)
joined-front n payloads =
    let whole : joined_payloads payloads ≡ joined_payloads (take n payloads) ++ joined_payloads (drop n payloads) =
    ap joined_payloads (sym (take-append-drop n payloads)) ∙ joined-append (take n payloads) (drop n payloads) in
    sym (ap (λ (l : List ℕ). take (length (joined_payloads (take n payloads))) l) whole ∙ take_at (joined_payloads (take n payloads)) (joined_payloads (drop n payloads)) (length (joined_payloads (take n payloads))) refl)

pub sectors-enough : (n : ℕ) → n ≤ log_sectors_of n * 4064
sectors-enough n = omega arith

-- what the writer's sectors may hold

-- the sector of the writer's area at a place behind its own
pub link_at : (w : Writer) (image : Image) (x : ℕ) → link image (w.first + w.place) (w.sequence + w.place) w.epoch x ≡ link image w.first w.sequence w.epoch (w.place + x)
link_at w image x =
    let place : (w.first + w.place) + x ≡ w.first + (w.place + x) = omega arith in
    let number : (w.sequence + w.place) + x ≡ w.sequence + (w.place + x) = omega arith in
    ap (λ k. opened_payload w.epoch ((w.sequence + w.place) + x) (sector_at image k)) place ∙ ap (λ k. opened_payload w.epoch k (sector_at image (w.first + (w.place + x)))) number

module _ (w : Writer) (old new : Image) (end : IsAtEnd w old) where
  -- the sectors written before stand as they were
  pub log-split : (image : Image) → w.place ≤ w.count → ((x : ℕ) → x < w.place → sector_at image (w.first + x) ≡ sector_at old (w.first + x)) → chain w.count image w.first w.sequence w.epoch ≡ chain w.place old w.first w.sequence w.epoch ++ chain (w.count - w.place) image (w.first + w.place) (w.sequence + w.place) w.epoch
  log-split image le same =
      let rest = w.count - w.place in
      let sum : w.count ≡ w.place + rest = omega arith in
      ap (λ k. chain k image w.first w.sequence w.epoch) sum
      ∙ chain-append w.place rest image w.first w.sequence w.epoch (λ x lt. subst (λ (s : List ℕ). IsSome (opened_payload w.epoch (w.sequence + x) s)) (sym (same x lt)) (end.written x lt))
      ∙ ap (λ (l : List (List ℕ)). l ++ chain rest image (w.first + w.place) (w.sequence + w.place) w.epoch) (chain-same w.place old image w.first w.sequence w.epoch same)

  -- and the old chain ends there
  pub log-old : w.place ≤ w.count → chain w.count old w.first w.sequence w.epoch ≡ chain w.place old w.first w.sequence w.epoch
  log-old le =
      let ended : chain (w.count - w.place) old (w.first + w.place) (w.sequence + w.place) w.epoch ≡ [] =
      chain-ended (w.count - w.place) old (w.first + w.place) (w.sequence + w.place) w.epoch (λ some. link_at w old 0 ∙ end.free (w.place + 0) (omega arith) (omega (arith, some))) in
      log-split old le (λ x lt. refl) ∙ ap (λ (l : List (List ℕ)). chain w.place old w.first w.sequence w.epoch ++ l) ended ∙ append-nil (chain w.place old w.first w.sequence w.epoch)
