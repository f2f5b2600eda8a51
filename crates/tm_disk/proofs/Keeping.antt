-- A disk in memory stays sound.
use Rattle.std.proofs.Common.{◌≡◌, ℕ, ◌<◌, ◌≤◌, List, [], ◌∷◌, ◌++◌, length, take, drop, ◌-◌, refl, sym, ◌∙◌, ap, subst, arith, length-append}
use Rattle.std.specs.Prelude.{All}
use Rattle.std.proofs.lemmas.List.{drop-append-le, drop_all, take_rest}
use Rattle.std.proofs.lemmas.List.Elements.{All-push}
use Rattle.tm_disk.specs.Disk.{Image, with_sector}
use Rattle.tm_disk.specs.Moments.{DiskMoment, zero_disk, shown_of, picked, settled_by, after_write, moment_now, moments_past, IsMomentSound}
use Rattle.tm_disk.specs.MomentLaws.{length-shown_of, length-picked}
use Rattle.tm_disk.proofs.Past.{after-push, past-write, past-synced, past-cut}
use Rattle.tm_disk.specs.Written.{Written}
use Rattle.tm_disk.specs.declared.record.Before.{Before}
use Rattle.tm_disk.specs.declared.record.Before.TheVariants.{Nothing, Synced, Cut}

-- the moment of these parts
abbrev pub moment_of : Image → List Written → ℕ → DiskMoment
moment_of synced writes settled = record { synced = synced; since = drop settled writes }

pub shown_of-push : (image : Image) (writes : List Written) (write : Written) → shown_of image (writes ++ write ∷ []) ≡ with_sector (shown_of image writes) write.at write.content
shown_of-push image [] write = refl
shown_of-push image (first ∷ writes) write = shown_of-push (with_sector image first.at first.content) writes write

pub sound-write : (shown synced : Image) (writes : List Written) (settled : ℕ) (pending : Before) (at : ℕ) (content : List ℕ) → IsMomentSound shown synced writes settled pending → at < length synced → length writes < 262144 → IsMomentSound (with_sector shown at content) synced (writes ++ record { at = at; content = content; before = pending } ∷ []) settled Nothing
sound-write shown synced writes settled pending at content sound lt room =
    let write : Written = record { at = at; content = content; before = pending } in
    let P : Written → Type 0 = λ w. w.at < length synced in
    let more : drop settled (writes ++ write ∷ []) ≡ drop settled writes ++ write ∷ [] = drop-append-le settled writes (write ∷ []) sound.settled_in in
    record {
      size_fits = sound.size_fits;
      few = omega (arith, length-append writes (write ∷ []));
      settled_in = omega (arith, sound.settled_in, length-append writes (write ∷ []));
      in_range = All-push P writes write sound.in_range lt;
      now_is = after-push (zero_disk (length synced)) writes write ∙ ap (after_write write) sound.now_is ∙ ap (λ (l : List Written). record { synced = synced; since = l }) (sym more);
      shown_is = ap (λ (i : Image). with_sector i at content) sound.shown_is ∙ sym (shown_of-push synced (drop settled writes) write) ∙ ap (shown_of synced) (sym more);
    }

-- the moments past, after a write
pub write-past : (shown synced : Image) (writes : List Written) (settled : ℕ) (pending : Before) (at : ℕ) (content : List ℕ) → IsMomentSound shown synced writes settled pending → moments_past (zero_disk (length synced)) (writes ++ record { at = at; content = content; before = pending } ∷ []) Nothing ≡ moments_past (zero_disk (length synced)) writes pending ++ moment_of synced writes settled ∷ []
write-past shown synced writes settled pending at content sound =
    past-write (zero_disk (length synced)) writes (record { at = at; content = content; before = pending })
    ∙ ap (λ (m : DiskMoment). moments_past (zero_disk (length synced)) writes pending ++ m ∷ []) sound.now_is

pub write-now : (synced : Image) (writes : List Written) (settled : ℕ) (write : Written) → settled ≤ length writes → moment_of synced (writes ++ write ∷ []) settled ≡ after_write write (moment_of synced writes settled)
write-now synced writes settled write le = ap (λ (l : List Written). record { synced = synced; since = l }) (drop-append-le settled writes (write ∷ []) le)

module _ (shown synced next : Image) (writes : List Written) (settled : ℕ) (sound : IsMomentSound shown synced writes settled Nothing) where
  none : drop (length writes) writes ≡ []
  none = drop_all (length writes) writes (omega arith)

  module _ (before : Before) (is : settled_by before (moment_of synced writes settled) ≡ record { synced = next; since = [] }) (size : length next ≡ length synced) where
    settled-now : moment_of next writes (length writes) ≡ settled_by before (moment_of synced writes settled)
    settled-now = ap (λ (l : List Written). record { synced = next; since = l }) none ∙ sym is

    settled-is : moment_now (zero_disk (length next)) writes before ≡ moment_of next writes (length writes)
    settled-is = ap (λ n. moment_now (zero_disk n) writes before) size ∙ ap (settled_by before) sound.now_is ∙ sym settled-now

    pub sound-settled : IsMomentSound next next writes (length writes) before
    sound-settled = record {
      size_fits = omega (arith, sound.size_fits, size);
      few = sound.few;
      settled_in = omega arith;
      in_range = subst (λ n. All (λ w. w.at < n) writes) (sym size) sound.in_range;
      now_is = settled-is;
      shown_is = ap (shown_of next) (sym none);
    }

    pub settled-now_is : moment_of next writes (length writes) ≡ settled_by before (moment_of synced writes settled)
    settled-now_is = settled-now

  pub synced-past : length next ≡ length synced → moments_past (zero_disk (length next)) writes Synced ≡ moments_past (zero_disk (length synced)) writes Nothing ++ moment_of synced writes settled ∷ []
  synced-past size =
      ap (λ n. moments_past (zero_disk n) writes Synced) size
      ∙ past-synced (zero_disk (length synced)) writes
      ∙ ap (λ (m : DiskMoment). moments_past (zero_disk (length synced)) writes Nothing ++ m ∷ []) sound.now_is

  pub cut-past : (pick : ℕ) → length next ≡ length synced → moments_past (zero_disk (length next)) writes (Cut pick) ≡ moments_past (zero_disk (length synced)) writes Nothing ++ moment_of synced writes settled ∷ []
  cut-past pick size =
      ap (λ n. moments_past (zero_disk n) writes (Cut pick)) size
      ∙ past-cut (zero_disk (length synced)) writes pick
      ∙ ap (λ (m : DiskMoment). moments_past (zero_disk (length synced)) writes Nothing ++ m ∷ []) sound.now_is

-- what a sync or a cut leaves: it is sound, and what was now is past
pub record Settling (shown synced : Image) (writes : List Written) (settled : ℕ) (shown' synced' : Image) (settled' : ℕ) (before : Before) : Type 0 where
  pub sound : IsMomentSound shown' synced' writes settled' before
  pub now : moment_of synced' writes settled' ≡ settled_by before (moment_of synced writes settled)
  pub past : moments_past (zero_disk (length synced')) writes before ≡ moments_past (zero_disk (length synced)) writes Nothing ++ moment_of synced writes settled ∷ []

pub settling-sync : (shown synced next : Image) (writes : List Written) (settled n : ℕ) → IsMomentSound shown synced writes settled Nothing → next ≡ shown_of synced (drop settled writes) → n ≡ length writes → Settling shown synced writes settled shown next n Synced
settling-sync shown synced next writes settled n sound is end =
    let size : length next ≡ length synced = ap (length {A = List ℕ}) is ∙ length-shown_of synced (drop settled writes) in
    let same : settled_by Synced (moment_of synced writes settled) ≡ record { synced = next; since = [] } = ap (λ (i : Image). record { synced = i; since = [] }) (sym is) in
    let is_shown : next ≡ shown = is ∙ sym sound.shown_is in
    record {
      sound = subst (λ k. IsMomentSound shown next writes k Synced) (sym end) (subst (λ (i : Image). IsMomentSound i next writes (length writes) Synced) is_shown (sound-settled shown synced next writes settled sound Synced same size));
      now = ap (λ k. moment_of next writes k) end ∙ settled-now_is shown synced next writes settled sound Synced same size;
      past = synced-past shown synced next writes settled sound size;
    }

pub settling-cut : (shown synced shown' next : Image) (writes : List Written) (settled n pick : ℕ) → IsMomentSound shown synced writes settled Nothing → next ≡ picked pick 0 (drop settled writes) synced → shown' ≡ next → n ≡ length writes → Settling shown synced writes settled shown' next n (Cut pick)
settling-cut shown synced shown' next writes settled n pick sound is is_shown end =
    let size : length next ≡ length synced = ap (length {A = List ℕ}) is ∙ length-picked pick 0 (drop settled writes) synced in
    let same : settled_by (Cut pick) (moment_of synced writes settled) ≡ record { synced = next; since = [] } = ap (λ (i : Image). record { synced = i; since = [] }) (sym is) in
    record {
      sound = subst (λ k. IsMomentSound shown' next writes k (Cut pick)) (sym end) (subst (λ (i : Image). IsMomentSound i next writes (length writes) (Cut pick)) (sym is_shown) (sound-settled shown synced next writes settled sound (Cut pick) same size));
      now = ap (λ k. moment_of next writes k) end ∙ settled-now_is shown synced next writes settled sound (Cut pick) same size;
      past = cut-past shown synced next writes settled sound pick size;
    }

-- the rest of a list, as a slice gives it
pub since_is : (xs ys : List Written) (n : ℕ) → xs ≡ ys → take (length xs - n) (drop n xs) ≡ drop n ys
since_is xs ys n is = take_rest xs n ∙ ap (λ (l : List Written). drop n l) is
