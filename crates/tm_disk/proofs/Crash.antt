-- What a crash leaves after a write, a sync and a cut.
use Rattle.std.proofs.Common.{◌≡◌, ◌⊎◌, ℕ, suc, zero, ◌+◌, ◌/◌, ◌%◌, ◌<◌, ◌≤◌, List, [], ◌∷◌, ◌++◌, length, refl, sym, ◌∙◌, ap, subst, inl, inr, ⊎_elim, arith}
use Rattle.std.specs.Prelude.{Contains}
use Rattle.std.proofs.lemmas.Bool.{cases_lt, cases_eq}
use Rattle.std.proofs.lemmas.List.{ext_get_or, get_or_past, set-set, set-get_or, length-set}
use Rattle.std.proofs.lemmas.List.Elements.{Contains-get_or, Contains-append_left, Contains-push_cases, Contains-push}
use Rattle.tm_disk.specs.Disk.{Image, sector_at, with_sector, MayWrite}
use Rattle.tm_disk.specs.Moments.{DiskMoment, writes_to, IsImageLeft, picked, after_write}
use Rattle.tm_disk.specs.MomentLaws.{length-picked, Contains-first, Contains-cons_cases, writes_to-same, writes_to-other, sector_at-same, sector_at-other}
use Rattle.tm_disk.specs.Written.{Written}

pub writes_to-push-same : (at : ℕ) (writes : List Written) (write : Written) → write.at ≡ at → writes_to at (writes ++ write ∷ []) ≡ writes_to at writes ++ write.content ∷ []
writes_to-push-same at [] write e = writes_to-same at write [] e
writes_to-push-same at (first ∷ writes) write e =
    ⊎_elim
    (λ (is : first.at ≡ at). writes_to-same at first (writes ++ write ∷ []) is ∙ ap (λ (l : List (List ℕ)). first.content ∷ l) (writes_to-push-same at writes write e) ∙ ap (λ (l : List (List ℕ)). l ++ write.content ∷ []) (sym (writes_to-same at first writes is)))
    (λ (ne : first.at ≡ at → ⊥). writes_to-other at first (writes ++ write ∷ []) ne ∙ writes_to-push-same at writes write e ∙ ap (λ (l : List (List ℕ)). l ++ write.content ∷ []) (sym (writes_to-other at first writes ne)))
    (cases_eq first.at at)

pub writes_to-push-other : (at : ℕ) (writes : List Written) (write : Written) → (write.at ≡ at → ⊥) → writes_to at (writes ++ write ∷ []) ≡ writes_to at writes
writes_to-push-other at [] write e = writes_to-other at write [] e
writes_to-push-other at (first ∷ writes) write e =
    ⊎_elim
    (λ (is : first.at ≡ at). writes_to-same at first (writes ++ write ∷ []) is ∙ ap (λ (l : List (List ℕ)). first.content ∷ l) (writes_to-push-other at writes write e) ∙ sym (writes_to-same at first writes is))
    (λ (ne : first.at ≡ at → ⊥). writes_to-other at first (writes ++ write ∷ []) ne ∙ writes_to-push-other at writes write e ∙ sym (writes_to-other at first writes ne))
    (cases_eq first.at at)

-- what a sector may hold at a moment
abbrev pub choices : DiskMoment → ℕ → List (List ℕ)
choices moment at = sector_at moment.synced at ∷ writes_to at moment.since

choices-write : (moment : DiskMoment) (write : Written) (at : ℕ) (content : List ℕ) → Contains (choices moment at) content → Contains (choices (after_write write moment) at) content
choices-write moment write at content has =
    ⊎_elim
    (λ (e : write.at ≡ at). subst (λ (l : List (List ℕ)). Contains (sector_at moment.synced at ∷ l) content) (sym (writes_to-push-same at moment.since write e)) (Contains-append_left (choices moment at) (write.content ∷ []) content has))
    (λ (ne : write.at ≡ at → ⊥). subst (λ (l : List (List ℕ)). Contains (sector_at moment.synced at ∷ l) content) (sym (writes_to-push-other at moment.since write ne)) has)
    (cases_eq write.at at)

choices-written : (moment : DiskMoment) (write : Written) → Contains (choices (after_write write moment) write.at) write.content
choices-written moment write =
    subst (λ (l : List (List ℕ)). Contains (sector_at moment.synced write.at ∷ l) write.content) (sym (writes_to-push-same write.at moment.since write refl)) (Contains-push (choices moment write.at) write.content)

choices-write_cases : (moment : DiskMoment) (write : Written) (content : List ℕ) → Contains (choices (after_write write moment) write.at) content → Contains (choices moment write.at) content ⊎ (write.content ≡ content)
choices-write_cases moment write content has =
    Contains-push_cases (choices moment write.at) write.content content
    (subst (λ (l : List (List ℕ)). Contains (sector_at moment.synced write.at ∷ l) content) (writes_to-push-same write.at moment.since write refl) has)

choices-other : (moment : DiskMoment) (write : Written) (at : ℕ) (content : List ℕ) → (write.at ≡ at → ⊥) → Contains (choices (after_write write moment) at) content → Contains (choices moment at) content
choices-other moment write at content ne has = subst (λ (l : List (List ℕ)). Contains (sector_at moment.synced at ∷ l) content) (writes_to-push-other at moment.since write ne) has

-- after a write each image is left as it was
pub write_without : (moment : DiskMoment) (write : Written) (image : Image) → IsImageLeft moment image → IsImageLeft (after_write write moment) image
write_without moment write image left = record { size = left.size; each = λ at. choices-write moment write at (sector_at image at) (left.each at) }

-- .. or with the sector
pub write_with : (moment : DiskMoment) (write : Written) (image : Image) → write.at < length moment.synced → IsImageLeft moment image → IsImageLeft (after_write write moment) (with_sector image write.at write.content)
write_with moment write image lt left = record {
  size = length-set image write.at write.content ∙ left.size;
  each = λ at.
      ⊎_elim
      (λ (e : write.at ≡ at).
      let here : sector_at (with_sector image write.at write.content) at ≡ write.content = ap (λ k. sector_at (with_sector image write.at write.content) k) (sym e) ∙ sector_at-same image write.at write.content (omega (arith, left.size)) in
      subst (λ (c : List ℕ). Contains (choices (after_write write moment) at) c) (sym here) (subst (λ k. Contains (choices (after_write write moment) k) write.content) e (choices-written moment write)))
      (λ (ne : write.at ≡ at → ⊥).
      subst (λ (c : List ℕ). Contains (choices (after_write write moment) at) c) (sym (sector_at-other image write.at at write.content (λ e. ne (sym e)))) (choices-write moment write at (sector_at image at) (left.each at)))
      (cases_eq write.at at);
}

-- and nothing else is left
pub record WasBefore (moment : DiskMoment) (write : Written) (image : Image) : Type 0 where
  pub before : Image
  pub left : IsImageLeft moment before
  pub by : MayWrite write.at write.content before image

pub write_comes : (moment : DiskMoment) (write : Written) (image : Image) → IsImageLeft (after_write write moment) image → WasBefore moment write image
write_comes moment write image left =
    ⊎_elim
    (λ old. record {
      before = image;
      left = record {
        size = left.size;
        each = λ at.
            ⊎_elim
            (λ (e : write.at ≡ at). subst (λ k. Contains (choices moment k) (sector_at image k)) e old)
            (λ ne. choices-other moment write at (sector_at image at) ne (left.each at))
            (cases_eq write.at at);
      };
      by = inl refl;
    })
    (λ new.
    let before = with_sector image write.at (sector_at moment.synced write.at) in
    let same : with_sector before write.at write.content ≡ image =
    set-set image write.at (sector_at moment.synced write.at) write.content ∙ ap (λ (c : List ℕ). with_sector image write.at c) new ∙ set-get_or image write.at [] in
    record {
      before = before;
      left = record {
        size = length-set image write.at (sector_at moment.synced write.at) ∙ left.size;
        each = λ at.
            ⊎_elim
            (λ (e : write.at ≡ at). subst (λ k. Contains (choices moment k) (sector_at before k)) e
            (Contains-first (sector_at moment.synced write.at) (writes_to write.at moment.since) (sector_at before write.at)
            (⊎_elim
            (λ (lt : write.at < length image). sym (sector_at-same image write.at (sector_at moment.synced write.at) lt))
            (λ (le : length image ≤ write.at). get_or_past moment.synced write.at [] (omega (arith, left.size)) ∙ sym (get_or_past before write.at [] (omega (arith, length-set image write.at (sector_at moment.synced write.at)))))
            (cases_lt write.at (length image)))))
            (λ (ne : write.at ≡ at → ⊥). subst (λ (c : List ℕ). Contains (choices moment at) c) (sym (sector_at-other image write.at at (sector_at moment.synced write.at) (λ e. ne (sym e)))) (choices-other moment write at (sector_at image at) ne (left.each at)))
            (cases_eq write.at at);
      };
      by = inr (sym same);
    })
    (choices-write_cases moment write (sector_at image write.at) (left.each write.at))

-- with no write since, what was synced is left
pub synced_alone : (moment : DiskMoment) (image : Image) → moment.since ≡ [] → IsImageLeft moment image → image ≡ moment.synced
synced_alone moment image none left =
    ext_get_or [] image moment.synced left.size
    (λ at lt.
    let has : Contains (sector_at moment.synced at ∷ []) (sector_at image at) = subst (λ (l : List Written). Contains (sector_at moment.synced at ∷ writes_to at l) (sector_at image at)) none (left.each at) in
    ⊎_elim (λ e. sym e) (λ (w : Contains [] (sector_at image at)). absurd (omega (arith, w.1))) (Contains-cons_cases (sector_at moment.synced at) [] (sector_at image at) has))

picked_each : (pick from at j : ℕ) (since : List Written) (image : Image) → j ≡ from + at → Contains (sector_at image at ∷ writes_to j since) (sector_at (picked pick from since image) at)
picked_each pick from at j since [] e = Contains-first [] (writes_to j since) [] refl
picked_each pick from zero j since (sector ∷ sectors) e =
    let is : j ≡ from = omega (arith, e) in
    subst (λ k. Contains (sector ∷ writes_to k since) (sector_at (picked pick from since (sector ∷ sectors)) 0)) (sym is)
    (Contains-get_or (sector ∷ writes_to from since) (pick % (length (writes_to from since) + 1)) sector (omega arith))
picked_each pick from (suc at) j since (sector ∷ sectors) e =
    picked_each (pick / (length (writes_to from since) + 1)) (from + 1) at j since sectors (omega (arith, e))

-- a pick leaves what a crash may leave
pub picked_is_left : (moment : DiskMoment) (pick : ℕ) → IsImageLeft moment (picked pick 0 moment.since moment.synced)
picked_is_left moment pick = record {
  size = length-picked pick 0 moment.since moment.synced;
  each = λ at. picked_each pick 0 at at moment.since moment.synced (omega arith);
}
