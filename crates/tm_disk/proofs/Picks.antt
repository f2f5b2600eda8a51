-- The steps of the loops over the writes of a disk in memory.
use Rattle.std.proofs.Common.{◌≡◌, ℕ, suc, zero, ◌+◌, ◌/◌, ◌%◌, ◌<◌, ◌≤◌, List, [], ◌∷◌, ◌++◌, length, take, refl, sym, ◌∙◌, ap, subst, ⊎_elim, arith, get_or, set}
use Rattle.std.proofs.lemmas.Bool.{cases_eq}
use Rattle.std.proofs.lemmas.List.{length_push, length-take, take_more, get_or-set_same, get_or-set_other}
use Rattle.tm_disk.specs.Disk.{Image, sector_at}
use Rattle.tm_disk.specs.Moments.{writes_to, picked, digits}
use Rattle.tm_disk.specs.MomentLaws.{writes_to-same, writes_to-other}
use Rattle.tm_disk.proofs.Crash.{writes_to-push-same, writes_to-push-other}
use Rattle.tm_disk.specs.Written.{Written}

-- where no sector is written, a pick leaves what was synced
pub picked_none : (pick from : ℕ) (writes : List Written) (image : Image) → ((k : ℕ) → from ≤ k → writes_to k writes ≡ []) → picked pick from writes image ≡ image
picked_none pick from writes [] none = refl
picked_none pick from writes (sector ∷ sectors) none =
    let here : writes_to from writes ≡ [] = none from (omega arith) in
    let one : pick % 1 ≡ 0 = omega arith in
    rw here (rw one (ap (λ (l : Image). sector ∷ l) (picked_none (pick / 1) (from + 1) writes sectors (λ k le. none k (omega arith)))))

-- what a pick chooses of a sector, by the digits
pub picked-digits : (pick from k : ℕ) (since : List Written) (image : Image) (counts : List ℕ) → length counts ≡ length image → ((x : ℕ) → x < length counts → get_or counts x 0 ≡ length (writes_to (from + x) since)) → k < length image → sector_at (picked pick from since image) k ≡ get_or (sector_at image k ∷ writes_to (from + k) since) (get_or (digits pick counts) k 0) (sector_at image k)
picked-digits pick from k since [] counts size are lt = absurd (omega (arith, lt))
picked-digits pick from k since (sector ∷ sectors) [] size are lt = absurd (omega (arith, size))
picked-digits pick from zero since (sector ∷ sectors) (count ∷ counts) size are lt =
    let at : from ≡ from + 0 = omega arith in
    let is : length (writes_to from since) ≡ count = ap (λ j. length (writes_to j since)) at ∙ sym (are 0 (omega arith)) in
    ap (λ c. get_or (sector ∷ writes_to from since) (pick % (c + 1)) sector) is
    ∙ ap (λ j. get_or (sector ∷ writes_to j since) (pick % (count + 1)) sector) at
picked-digits pick from (suc k) since (sector ∷ sectors) (count ∷ counts) size are lt =
    let at : from ≡ from + 0 = omega arith in
    let is : length (writes_to from since) ≡ count = ap (λ j. length (writes_to j since)) at ∙ sym (are 0 (omega arith)) in
    let place : (from + 1) + k ≡ from + suc k = omega arith in
    let rest : (x : ℕ) → x < length counts → get_or counts x 0 ≡ length (writes_to ((from + 1) + x) since) =
    λ x less. let one : from + suc x ≡ (from + 1) + x = omega arith in are (suc x) (omega (arith, less)) ∙ ap (λ j. length (writes_to j since)) one in
    ap (λ c. sector_at (picked (pick / (c + 1)) (from + 1) since sectors) k) is
    ∙ picked-digits (pick / (count + 1)) (from + 1) k since sectors counts (omega (arith, size)) rest (omega (arith, lt))
    ∙ ap (λ j. get_or (sector_at sectors k ∷ writes_to j since) (get_or (digits (pick / (count + 1)) counts) k 0) (sector_at sectors k)) place

-- one write more, counted
pub count-more : (writes : List Written) (write : Written) (k : ℕ) → write.at ≡ k → length (writes_to k (writes ++ write ∷ [])) ≡ length (writes_to k writes) + 1
count-more writes write k e = ap (length {A = List ℕ}) (writes_to-push-same k writes write e) ∙ length_push (writes_to k writes) write.content

pub count-other : (writes : List Written) (write : Written) (k : ℕ) → (write.at ≡ k → ⊥) → length (writes_to k (writes ++ write ∷ [])) ≡ length (writes_to k writes)
count-other writes write k ne = ap (length {A = List ℕ}) (writes_to-push-other k writes write ne)

pub count-within : (writes : List Written) (k : ℕ) → length (writes_to k writes) ≤ length writes
count-within [] k = omega arith
count-within (write ∷ writes) k =
    ⊎_elim
    (λ (e : write.at ≡ k). omega (arith, count-within writes k, ap (length {A = List ℕ}) (writes_to-same k write writes e)))
    (λ (ne : write.at ≡ k → ⊥). omega (arith, count-within writes k, ap (length {A = List ℕ}) (writes_to-other k write writes ne)))
    (cases_eq write.at k)

pub length-digits : (pick : ℕ) (counts : List ℕ) → length (digits pick counts) ≡ length counts
length-digits pick [] = refl
length-digits pick (count ∷ counts) = ap suc (length-digits (pick / (count + 1)) counts)

-- a sector's count behind one write more to it
module _ (counts : List ℕ) (since : List Written) (i a n now : ℕ) (d : Written) (lt : i < length since) (at_is : a ≡ (get_or since i d).at) (size : length counts ≡ n) (within : a < n) (now_is : get_or counts a 0 ≡ now)
    (are : (k : ℕ) → k < n → get_or counts k 0 ≡ length (writes_to k (take i since))) where
  counted-more : take (i + 1) since ≡ take i since ++ get_or since i d ∷ []
  counted-more = take_more since i d lt

  pub counted-few : now ≤ i
  counted-few = omega (arith, now_is, are a within, count-within (take i since) a, length-take i since)

  pub counted : (k : ℕ) → k < n → get_or (set counts a (now + 1)) k 0 ≡ length (writes_to k (take (i + 1) since))
  counted k inside =
      subst (λ (l : List Written). get_or (set counts a (now + 1)) k 0 ≡ length (writes_to k l)) (sym counted-more)
      (⊎_elim
      (λ (e : a ≡ k).
      ap (λ j. get_or (set counts a (now + 1)) j 0) (sym e)
      ∙ get_or-set_same counts a (now + 1) 0 (omega (arith, within, size))
      ∙ ap (λ m. m + 1) (sym now_is ∙ are a within ∙ ap (λ j. length (writes_to j (take i since))) e)
      ∙ sym (count-more (take i since) (get_or since i d) k (sym at_is ∙ e)))
      (λ ne.
      get_or-set_other counts a k (now + 1) 0 (λ e. ne (sym e))
      ∙ are k inside
      ∙ sym (count-other (take i since) (get_or since i d) k (λ e. ne (at_is ∙ e))))
      (cases_eq a k))
