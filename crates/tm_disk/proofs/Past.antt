-- How the moments of a disk in memory go on.
use Rattle.std.proofs.Common.{◌≡◌, ◌⊎◌, ℕ, ◌≤◌, List, [], ◌∷◌, ◌++◌, length, drop, refl, sym, ◌∙◌, ap, subst, inl, inr, ⊎_elim, append_assoc}
use Rattle.std.proofs.lemmas.List.{append-nil, drop-append-le}
use Rattle.tm_disk.specs.Disk.{Image}
use Rattle.tm_disk.specs.Moments.{DiskMoment, IsImageLeft, settled_by, moments_waiting, after_write, after, moments, moment_now, moments_past, WasLeft}
use Rattle.tm_disk.specs.Written.{Written}
use Rattle.tm_disk.specs.declared.record.Before.TheVariants.{Nothing, Synced, Cut}

pub after-push : (start : DiskMoment) (writes : List Written) (write : Written) → after start (writes ++ write ∷ []) ≡ after_write write (settled_by write.before (after start writes))
after-push start [] write = refl
after-push start (first ∷ writes) write = after-push (after_write first (settled_by first.before start)) writes write

moments-push : (start : DiskMoment) (writes : List Written) (write : Written) → moments start (writes ++ write ∷ []) ≡ moments start writes ++ (moments_waiting write.before (after start writes) ++ settled_by write.before (after start writes) ∷ [])
moments-push start [] write = refl
moments-push start (first ∷ writes) write =
    let next = settled_by first.before start in
    ap (λ (l : List DiskMoment). moments_waiting first.before start ++ next ∷ l) (moments-push (after_write first next) writes write)
    ∙ sym (append_assoc (moments_waiting first.before start) (next ∷ moments (after_write first next) writes) _)

-- after a write the moment before it is past
pub past-write : (start : DiskMoment) (writes : List Written) (write : Written) → moments_past start (writes ++ write ∷ []) Nothing ≡ moments_past start writes write.before ++ moment_now start writes write.before ∷ []
past-write start writes write =
    append-nil (moments start (writes ++ write ∷ []))
    ∙ moments-push start writes write
    ∙ sym (append_assoc (moments start writes) (moments_waiting write.before (after start writes)) (moment_now start writes write.before ∷ []))

-- after a sync or a cut the moment before it is past
pub past-synced : (start : DiskMoment) (writes : List Written) → moments_past start writes Synced ≡ moments_past start writes Nothing ++ moment_now start writes Nothing ∷ []
past-synced start writes = ap (λ (l : List DiskMoment). l ++ after start writes ∷ []) (sym (append-nil (moments start writes)))

pub past-cut : (start : DiskMoment) (writes : List Written) (pick : ℕ) → moments_past start writes (Cut pick) ≡ moments_past start writes Nothing ++ moment_now start writes Nothing ∷ []
past-cut start writes pick = ap (λ (l : List DiskMoment). l ++ after start writes ∷ []) (sym (append-nil (moments start writes)))

WasLeft-push_cases : (xs : List DiskMoment) (now : DiskMoment) (image : Image) → WasLeft (xs ++ now ∷ []) image → WasLeft xs image ⊎ IsImageLeft now image
WasLeft-push_cases [] now image (inl here) = inr here
WasLeft-push_cases [] now image (inr none) = absurd none
WasLeft-push_cases (x ∷ xs) now image (inl here) = inl (inl here)
WasLeft-push_cases (x ∷ xs) now image (inr there) = ⊎_elim (λ l. inl (inr l)) (λ r. inr r) (WasLeft-push_cases xs now image there)

WasLeft-push_left : (xs : List DiskMoment) (now : DiskMoment) (image : Image) → WasLeft xs image → WasLeft (xs ++ now ∷ []) image
WasLeft-push_left [] now image left = absurd left
WasLeft-push_left (x ∷ xs) now image (inl here) = inl here
WasLeft-push_left (x ∷ xs) now image (inr there) = inr (WasLeft-push_left xs now image there)

WasLeft-push_right : (xs : List DiskMoment) (now : DiskMoment) (image : Image) → IsImageLeft now image → WasLeft (xs ++ now ∷ []) image
WasLeft-push_right [] now image left = inl left
WasLeft-push_right (x ∷ xs) now image left = inr (WasLeft-push_right xs now image left)

-- what a crash since a time left, where the moment before is past
pub since_cases : (past grown : List DiskMoment) (before : DiskMoment) (time : ℕ) (image : Image) → grown ≡ past ++ before ∷ [] → time ≤ length past → WasLeft (drop time grown) image → WasLeft (drop time past) image ⊎ IsImageLeft before image
since_cases past grown before time image is le left =
    WasLeft-push_cases (drop time past) before image
    (subst (λ (l : List DiskMoment). WasLeft l image) (ap (λ (l : List DiskMoment). drop time l) is ∙ drop-append-le time past (before ∷ []) le) left)

pub since_kept : (past grown : List DiskMoment) (before : DiskMoment) (time : ℕ) (image : Image) → grown ≡ past ++ before ∷ [] → time ≤ length past → WasLeft (drop time past) image ⊎ IsImageLeft before image → WasLeft (drop time grown) image
since_kept past grown before time image is le left =
    subst (λ (l : List DiskMoment). WasLeft l image) (sym (ap (λ (l : List DiskMoment). drop time l) is ∙ drop-append-le time past (before ∷ []) le))
    (⊎_elim (WasLeft-push_left (drop time past) before image) (WasLeft-push_right (drop time past) before image) left)
