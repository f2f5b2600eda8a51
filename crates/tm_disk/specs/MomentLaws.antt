-- What holds of each moment of a disk in memory.
use Rattle.std.specs.Prelude.{◌≡◌, ◌⊎◌, ℕ, suc, zero, ◌+◌, ◌/◌, ◌<◌, ◌≤◌, List, [], ◌∷◌, ◌++◌, length, Contains, refl, drop}
use Rattle.std.proofs.Common.{sym, ◌∙◌, ap, subst, inl, inr, ⊎_elim, arith, get_or-set_other, get_or-set_same}
use Rattle.std.proofs.Math.ListN.{length-set}
use Rattle.std.proofs.lemmas.Bool.{eq-eqb, ne_eqb, cases_lt, cases_eq}
use Rattle.std.proofs.lemmas.List.{get_or_past}
use Rattle.tm_disk.specs.Disk.{Image, sector_at, with_sector}
use Rattle.tm_disk.specs.Moments.{DiskMoment, shown_of, writes_to, IsImageLeft, picked, settled_by, moments_waiting, after_write, after, moments, moments_past, WasLeft}
use Rattle.tm_disk.specs.Written.{Written}
use Rattle.tm_disk.specs.declared.record.Before.{Before}
use Rattle.tm_disk.specs.declared.record.Before.TheVariants.{Nothing, Synced, Cut}

pub length-shown_of : (image : Image) (writes : List Written) → length (shown_of image writes) ≡ length image
length-shown_of image [] = refl
length-shown_of image (write ∷ writes) = length-shown_of (with_sector image write.at write.content) writes ∙ length-set image write.at write.content

pub length-picked : (pick at : ℕ) (since : List Written) (image : Image) → length (picked pick at since image) ≡ length image
length-picked pick at since [] = refl
length-picked pick at since (sector ∷ sectors) =
    ap suc (length-picked (pick / (length (writes_to at since) + 1)) (at + 1) since sectors)

pub length-settled_by : (before : Before) (moment : DiskMoment) → length (settled_by before moment).synced ≡ length moment.synced
length-settled_by Nothing moment = refl
length-settled_by Synced moment = length-shown_of moment.synced moment.since
length-settled_by (Cut pick) moment = length-picked pick 0 moment.since moment.synced

pub length-after : (moment : DiskMoment) (writes : List Written) → length (after moment writes).synced ≡ length moment.synced
length-after moment [] = refl
length-after moment (write ∷ writes) = length-after (after_write write (settled_by write.before moment)) writes ∙ length-settled_by write.before moment

-- a crash at an earlier moment left as many sectors
WasLeft-append : (xs ys : List DiskMoment) (image : Image) → WasLeft (xs ++ ys) image → WasLeft xs image ⊎ WasLeft ys image
WasLeft-append [] ys image left = inr left
WasLeft-append (x ∷ xs) ys image (inl here) = inl (inl here)
WasLeft-append (x ∷ xs) ys image (inr there) = ⊎_elim (λ l. inl (inr l)) (λ r. inr r) (WasLeft-append xs ys image there)

size-waiting : (before : Before) (moment : DiskMoment) (image : Image) → WasLeft (moments_waiting before moment) image → length image ≡ length moment.synced
size-waiting Nothing moment image left = absurd left
size-waiting Synced moment image (inl left) = left.size
size-waiting Synced moment image (inr left) = absurd left
size-waiting (Cut pick) moment image (inl left) = left.size
size-waiting (Cut pick) moment image (inr left) = absurd left

size-moments : (moment : DiskMoment) (writes : List Written) (image : Image) → WasLeft (moments moment writes) image → length image ≡ length moment.synced
size-moments moment [] image left = absurd left
size-moments moment (write ∷ writes) image left =
    let next = settled_by write.before moment in
    ⊎_elim (size-waiting write.before moment image)
    (⊎_elim (λ (l : IsImageLeft next image). l.size ∙ length-settled_by write.before moment)
    (λ later. size-moments (after_write write next) writes image later ∙ length-settled_by write.before moment))
    (WasLeft-append (moments_waiting write.before moment) (next ∷ moments (after_write write next) writes) image left)

pub size-moments_past : (start : DiskMoment) (record_ : List Written) (pending : Before) (image : Image) → WasLeft (moments_past start record_ pending) image → length image ≡ length start.synced
size-moments_past start record_ pending image left =
    ⊎_elim (size-moments start record_ image)
    (λ w. size-waiting pending (after start record_) image w ∙ length-after start record_)
    (WasLeft-append (moments start record_) (moments_waiting pending (after start record_)) image left)

pub WasLeft-drop : (n : ℕ) (xs : List DiskMoment) (image : Image) → WasLeft (drop n xs) image → WasLeft xs image
WasLeft-drop zero xs image left = left
WasLeft-drop (suc n) [] image left = left
WasLeft-drop (suc n) (x ∷ xs) image left = inr (WasLeft-drop n xs image left)

pub none_left : (xs : List DiskMoment) (image : Image) → WasLeft (drop (length xs) xs) image → ⊥
none_left [] image left = left
none_left (x ∷ xs) image left = none_left xs image left

pub Contains-cons_cases : {X : Type 0} (x : X) (xs : List X) (y : X) → Contains (x ∷ xs) y → (x ≡ y) ⊎ Contains xs y
Contains-cons_cases x xs y (zero, k, e) = inl e
Contains-cons_cases x xs y (suc k, lt, e) = inr (k, omega (arith, lt), e)

pub Contains-first : {X : Type 0} (x : X) (xs : List X) (y : X) → x ≡ y → Contains (x ∷ xs) y
Contains-first x xs y e = (0, omega arith, e)

pub Contains-later : {X : Type 0} (x : X) (xs : List X) (y : X) → Contains xs y → Contains (x ∷ xs) y
Contains-later x xs y (k, lt, e) = (suc k, omega (arith, lt), e)

-- a write to the sector is the first of those to it, and another is none of them
pub writes_to-same : (at : ℕ) (write : Written) (writes : List Written) → write.at ≡ at → writes_to at (write ∷ writes) ≡ write.content ∷ writes_to at writes
writes_to-same at write writes e = rw (eq-eqb write.at at e) refl

pub writes_to-other : (at : ℕ) (write : Written) (writes : List Written) → (write.at ≡ at → ⊥) → writes_to at (write ∷ writes) ≡ writes_to at writes
writes_to-other at write writes e = rw (ne_eqb write.at at e) refl

pub sector_at-same : (image : Image) (at : ℕ) (sector : List ℕ) → at < length image → sector_at (with_sector image at sector) at ≡ sector
sector_at-same image at sector lt = get_or-set_same image at sector [] lt

pub sector_at-other : (image : Image) (at k : ℕ) (sector : List ℕ) → (k ≡ at → ⊥) → sector_at (with_sector image at sector) k ≡ sector_at image k
sector_at-other image at k sector ne = get_or-set_other image at k sector [] ne

-- past the end a write changes nothing
sector_at-past : (image : Image) (at : ℕ) (sector : List ℕ) → length image ≤ at → sector_at (with_sector image at sector) at ≡ sector_at image at
sector_at-past image at sector le = get_or_past (with_sector image at sector) at [] (omega (arith, length-set image at sector)) ∙ sym (get_or_past image at [] le)

-- what a sector shows is what was there or what was written to it
pub shown_each : (image : Image) (writes : List Written) (at : ℕ) → Contains (sector_at image at ∷ writes_to at writes) (sector_at (shown_of image writes) at)
shown_each image [] at = Contains-first (sector_at image at) [] (sector_at image at) refl
shown_each image (write ∷ writes) at =
    let next = with_sector image write.at write.content in
    let shown = sector_at (shown_of next writes) at in
    let rest = shown_each next writes at in
    ⊎_elim
    (λ (e : write.at ≡ at).
    let all : writes_to at (write ∷ writes) ≡ write.content ∷ writes_to at writes = writes_to-same at write writes e in
    let P : List (List ℕ) → Type 0 = λ l. Contains (sector_at image at ∷ l) shown in
    subst P (sym all)
    (⊎_elim
    (λ (is : sector_at next at ≡ shown).
    ⊎_elim
    (λ (lt : at < length image).
    let here : sector_at next at ≡ write.content = ap (λ k. sector_at (with_sector image k write.content) at) e ∙ sector_at-same image at write.content lt in
    Contains-later (sector_at image at) (write.content ∷ writes_to at writes) shown
    (Contains-first write.content (writes_to at writes) shown (sym here ∙ is)))
    (λ (le : length image ≤ at).
    let here : sector_at next at ≡ sector_at image at = ap (λ k. sector_at (with_sector image k write.content) at) e ∙ sector_at-past image at write.content le in
    Contains-first (sector_at image at) (write.content ∷ writes_to at writes) shown (sym here ∙ is))
    (cases_lt at (length image)))
    (λ later. Contains-later (sector_at image at) (write.content ∷ writes_to at writes) shown (Contains-later write.content (writes_to at writes) shown later))
    (Contains-cons_cases (sector_at next at) (writes_to at writes) shown rest)))
    (λ (ne : write.at ≡ at → ⊥).
    let all : writes_to at (write ∷ writes) ≡ writes_to at writes = writes_to-other at write writes ne in
    let here : sector_at next at ≡ sector_at image at = sector_at-other image write.at at write.content (λ e. ne (sym e)) in
    let P : List (List ℕ) → Type 0 = λ l. Contains (sector_at image at ∷ l) shown in
    let Q : List ℕ → Type 0 = λ x. Contains (x ∷ writes_to at writes) shown in
    subst P (sym all) (subst Q here rest))
    (cases_eq write.at at)

-- the shown disk is one that a crash may leave
pub shown_is_left : (moment : DiskMoment) → IsImageLeft moment (shown_of moment.synced moment.since)
shown_is_left moment = record { size = length-shown_of moment.synced moment.since; each = shown_each moment.synced moment.since }
