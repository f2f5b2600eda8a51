-- The calls of a disk in memory, as its trait sees them.
use Rattle.std.proofs.Common.{◌≡◌, ℕ, ◌+◌, ◌<◌, ◌≤◌, List, [], ◌∷◌, ◌++◌, length, drop, refl, sym, ◌∙◌, ap, subst, inl, inr, ⊎_elim, arith, length-append, Option, None}
use Rattle.std.specs.Prelude.{Result, Ok, Err, is_err, OnOk, OnErr, true, false}
use Rattle.std.proofs.lemmas.Bool.Decides.{nat_tests}
use Rattle.tm_disk.specs.Disk.{Image, Elapses, Keeps, MayHaveWritten, HasWritten, IsCut, Cuts, cut_once, one_less}
use Rattle.tm_disk.proofs.Words.{keeps_same, made_none, made_one}
use Rattle.tm_disk.specs.Count.{raised}
use Rattle.tm_disk.specs.Contents.{contents_now, past_of, ContentsGoOn, StaysAt, HasSettled, Settles}
use Rattle.tm_disk.specs.Moments.{DiskMoment, shown_of, IsImageLeft, WasLeft, settled_by, after_write, writes_to}
use Rattle.tm_disk.specs.MomentLaws.{length-shown_of, length-picked, shown_is_left}
use Rattle.tm_disk.specs.MemState.{mem_state}
use Rattle.tm_disk.specs.declared.contents.Contents.{Contents}
use Rattle.tm_disk.specs.Written.{Written}
use Rattle.tm_disk.specs.declared.record.Before.TheVariants.{Synced, Cut}
use Rattle.tm_disk.proofs.Crash.{write_without, write_with, write_comes, synced_alone, picked_is_left}
use Rattle.tm_disk.proofs.Past.{since_cases, since_kept}
use Rattle.tm_disk.proofs.Keeping.{shown_of-push}
use Rattle.tm_disk.proofs.Picks.{picked_none}

pub raised_more : (n : ℕ) → n ≤ raised n
raised_more n = grind (arith, nat_tests)

pub raised_within : (n : ℕ) → raised n ≤ n + 1
raised_within n = grind (arith, nat_tests)

mem_elapses : (now next : DiskMoment) (past grown : List DiskMoment) (f f' w w' : ℕ) (s s' : Option ℕ) (c c' : Cuts) → grown ≡ past ++ now ∷ [] → Elapses (mem_state now past f w s c) (mem_state next grown f' w' s' c')
mem_elapses now next past grown f f' w w' s s' c c' is = record {
  later = omega (arith, ap (length {A = DiskMoment}) is, length-append past (now ∷ []));
  nothing_else = λ time image early left.
      ⊎_elim (λ (l : IsImageLeft next image). inr l)
      (λ (before : WasLeft (drop time grown) image). inl (⊎_elim (λ old. inr old) (λ here. inl here) (since_cases past grown now time image is early before)))
      left;
  keeps = λ time image early left. inr (since_kept past grown now time image is early (⊎_elim (λ here. inr here) (λ old. inl old) left));
}

-- a sync

keeps_synced : (now : DiskMoment) (past grown : List DiskMoment) (f w : ℕ) (s : Option ℕ) (c : Cuts) → grown ≡ past ++ now ∷ [] → Keeps (mem_state now past f w s c) (mem_state (settled_by Synced now) grown f w s c)
keeps_synced now past grown f w s c is = record {
  stays = record { size = length-shown_of now.synced now.since; tells = refl; can_arm = refl; faults = omega arith; writes = omega arith; stop = made_none (mem_state now past f w s c) (mem_state (settled_by Synced now) grown f w s c) refl refl; cuts = refl };
  elapses = mem_elapses now (settled_by Synced now) past grown f f w w s s c c is;
  no_more = λ image left. subst (IsImageLeft now) (sym (synced_alone (settled_by Synced now) image refl left)) (shown_is_left now);
  shown = refl;
  writes = refl;
}

keeps_here : (now next : DiskMoment) (past grown : List DiskMoment) (f w : ℕ) (s : Option ℕ) (c : Cuts) → next ≡ now → grown ≡ past → Keeps (mem_state now past f w s c) (mem_state next grown f w s c)
keeps_here now next past grown f w s c is same =
    subst (λ (m : DiskMoment). Keeps (mem_state now past f w s c) (mem_state m grown f w s c)) (sym is)
    (subst (λ (l : List DiskMoment). Keeps (mem_state now past f w s c) (mem_state now l f w s c)) (sym same) (keeps_same (mem_state now past f w s c)))

pub sync_keeps : (old new : Contents) (f w : ℕ) (s : Option ℕ) (c : Cuts) → Settles Synced old new → Keeps (mem_state (contents_now old) (past_of old) f w s c) (mem_state (contents_now new) (past_of new) f w s c)
sync_keeps old new f w s c settles =
    ⊎_elim
    (λ (goes : ContentsGoOn old new (settled_by Synced (contents_now old))).
    subst (λ (m : DiskMoment). Keeps (mem_state (contents_now old) (past_of old) f w s c) (mem_state m (past_of new) f w s c)) (sym goes.now)
    (keeps_synced (contents_now old) (past_of old) (past_of new) f w s c goes.past))
    (λ (settled : HasSettled old new). keeps_here (contents_now old) (contents_now new) (past_of old) (past_of new) f w s c settled.same.now settled.same.past)
    settles

-- where nothing was written since, one image is left
pub alone : (now : DiskMoment) → now.since ≡ [] → (image : Image) → IsImageLeft now image → image ≡ shown_of now.synced now.since
alone now none image left = synced_alone now image none left ∙ ap (λ (l : List Written). shown_of now.synced l) (sym none)

pub sync_alone : (old new : Contents) → Settles Synced old new → (image : Image) → IsImageLeft (contents_now new) image → image ≡ shown_of (contents_now new).synced (contents_now new).since
sync_alone old new settles =
    alone (contents_now new)
    (⊎_elim (λ (goes : ContentsGoOn old new (settled_by Synced (contents_now old))). ap (λ (m : DiskMoment). m.since) goes.now)
    (λ (settled : HasSettled old new). ap (λ (m : DiskMoment). m.since) settled.same.now ∙ settled.none)
    settles)

-- a cut

cut_settled : (now : DiskMoment) (past grown : List DiskMoment) (f w pick : ℕ) (s : Option ℕ) (c : Cuts) → grown ≡ past ++ now ∷ [] → IsCut pick (mem_state now past f w s c) (mem_state (settled_by (Cut pick) now) grown f w None (cut_once pick c))
cut_settled now past grown f w pick s c is =
    let next = settled_by (Cut pick) now in
    record {
      same = record { size = length-picked pick 0 now.since now.synced; tells = refl; can_arm = refl; faults = omega arith; writes = omega arith };
      elapses = mem_elapses now next past grown f f w w s None c (cut_once pick c) is;
      no_more = λ image left. subst (IsImageLeft now) (sym (synced_alone next image refl left)) (picked_is_left now pick);
      left = λ tells. picked_is_left now pick;
      picked = λ tells. refl;
      synced = λ image left. synced_alone next image refl left;
      writes = refl;
      faults = refl;
      disarmed = refl;
      cuts = refl;
    }

cut_none : (pick : ℕ) (now : DiskMoment) → now.since ≡ [] → now ≡ settled_by (Cut pick) now
cut_none pick now none =
    let bare : Image → DiskMoment = λ i. record { synced = i; since = [] } in
    ap (λ (l : List Written). record { synced = now.synced; since = l }) none
    ∙ ap bare (sym (picked_none pick 0 now.since now.synced (λ k le. ap (λ (l : List Written). writes_to k l) none)))

cut_here : (now : DiskMoment) (past : List DiskMoment) (f w pick : ℕ) (s : Option ℕ) (c : Cuts) → now.since ≡ [] → IsCut pick (mem_state now past f w s c) (mem_state now past f w None (cut_once pick c))
cut_here now past f w pick s c none = record {
  same = record { size = refl; tells = refl; can_arm = refl; faults = omega arith; writes = omega arith };
  elapses = record { later = omega arith; nothing_else = λ time image early left. inl left; keeps = λ time image early left. left };
  no_more = λ image left. left;
  left = λ tells. shown_is_left now;
  picked = λ tells. ap (λ (m : DiskMoment). shown_of m.synced m.since) (cut_none pick now none);
  synced = alone now none;
  writes = refl;
  faults = refl;
  disarmed = refl;
  cuts = refl;
}

pub cut_cuts : (old new : Contents) (f w pick : ℕ) (s : Option ℕ) (c : Cuts) → Settles (Cut pick) old new → IsCut pick (mem_state (contents_now old) (past_of old) f w s c) (mem_state (contents_now new) (past_of new) f w None (cut_once pick c))
cut_cuts old new f w pick s c settles =
    ⊎_elim
    (λ (goes : ContentsGoOn old new (settled_by (Cut pick) (contents_now old))).
    subst (λ (m : DiskMoment). IsCut pick (mem_state (contents_now old) (past_of old) f w s c) (mem_state m (past_of new) f w None (cut_once pick c))) (sym goes.now)
    (cut_settled (contents_now old) (past_of old) (past_of new) f w pick s c goes.past))
    (λ (settled : HasSettled old new).
    subst (λ (m : DiskMoment). IsCut pick (mem_state (contents_now old) (past_of old) f w s c) (mem_state m (past_of new) f w None (cut_once pick c))) (sym settled.same.now)
    (subst (λ (l : List DiskMoment). IsCut pick (mem_state (contents_now old) (past_of old) f w s c) (mem_state (contents_now old) l f w None (cut_once pick c))) (sym settled.same.past)
    (cut_here (contents_now old) (past_of old) f w pick s c settled.none)))
    settles

-- a write

tries_write : (now : DiskMoment) (past grown : List DiskMoment) (write : Written) (f f' w : ℕ) (s : Option ℕ) (c : Cuts) → f ≤ f' → grown ≡ past ++ now ∷ [] → MayHaveWritten write.at write.content (mem_state now past f w s c) (mem_state (after_write write now) grown f' (raised w) (one_less s) c)
tries_write now past grown write f f' w s c le is = record {
  stays = record { size = refl; tells = refl; can_arm = refl; faults = le; writes = raised_more w; stop = made_one (mem_state now past f w s c) (mem_state (after_write write now) grown f' (raised w) (one_less s) c) refl refl; cuts = refl };
  elapses = mem_elapses now (after_write write now) past grown f f' w (raised w) s (one_less s) c c is;
  follows = record { from = λ image left. let b = write_comes now write image left in record { before = b.before; left = b.left; by = b.by } };
  shown = λ tells. inr (shown_of-push now.synced now.since write);
  writes = raised_within w;
  counted = refl;
  until_stop = refl;
}

does_write : (now : DiskMoment) (past grown : List DiskMoment) (write : Written) (f f' w : ℕ) (s s' : Option ℕ) (c : Cuts) → write.at < length now.synced → HasWritten write.at write.content (mem_state now past f w s c) (mem_state (after_write write now) grown f' (raised w) s' c)
does_write now past grown write f f' w s s' c lt = record {
  shown = λ tells. shown_of-push now.synced now.since write;
  without = λ image left. write_without now write image left;
  written = λ image left. write_with now write image lt left;
}

pub write_tries : (old new : Contents) (write : Written) (f f' w : ℕ) (s : Option ℕ) (c : Cuts) → f ≤ f' → ContentsGoOn old new (after_write write (contents_now old)) → MayHaveWritten write.at write.content (mem_state (contents_now old) (past_of old) f w s c) (mem_state (contents_now new) (past_of new) f' (raised w) (one_less s) c)
write_tries old new write f f' w s c le goes =
    subst (λ (m : DiskMoment). MayHaveWritten write.at write.content (mem_state (contents_now old) (past_of old) f w s c) (mem_state m (past_of new) f' (raised w) (one_less s) c)) (sym goes.now)
    (tries_write (contents_now old) (past_of old) (past_of new) write f f' w s c le goes.past)

pub write_does : (old new : Contents) (write : Written) (f f' w : ℕ) (s s' : Option ℕ) (c : Cuts) → write.at < length (contents_now old).synced → ContentsGoOn old new (after_write write (contents_now old)) → HasWritten write.at write.content (mem_state (contents_now old) (past_of old) f w s c) (mem_state (contents_now new) (past_of new) f' (raised w) s' c)
write_does old new write f f' w s s' c lt goes =
    subst (λ (m : DiskMoment). HasWritten write.at write.content (mem_state (contents_now old) (past_of old) f w s c) (mem_state m (past_of new) f' (raised w) s' c)) (sym goes.now)
    (does_write (contents_now old) (past_of old) (past_of new) write f f' w s s' c lt)

-- a sync and a cut as they are said of the moments

synced_none : (now : DiskMoment) → now.since ≡ [] → now ≡ settled_by Synced now
synced_none now none =
    let bare : Image → DiskMoment = λ i. record { synced = i; since = [] } in
    ap (λ (l : List Written). record { synced = now.synced; since = l }) none ∙ ap (λ (l : List Written). bare (shown_of now.synced l)) (sym none)

pub sync_moment : (old new : Contents) → Settles Synced old new → contents_now new ≡ settled_by Synced (contents_now old)
sync_moment old new settles =
    ⊎_elim (λ (goes : ContentsGoOn old new (settled_by Synced (contents_now old))). goes.now)
    (λ (settled : HasSettled old new). settled.same.now ∙ synced_none (contents_now old) settled.none)
    settles

pub cut_moment : (old new : Contents) (pick : ℕ) → Settles (Cut pick) old new → contents_now new ≡ settled_by (Cut pick) (contents_now old)
cut_moment old new pick settles =
    ⊎_elim (λ (goes : ContentsGoOn old new (settled_by (Cut pick) (contents_now old))). goes.now)
    (λ (settled : HasSettled old new). settled.same.now ∙ cut_none pick (contents_now old) settled.none)
    settles

-- what holds at Ok holds where there is no error
pub at_ok : {T E : Type 0} (r : Result T E) (P : Type 0) → is_err r ≡ false → OnOk r P → P
at_ok (Ok x) P e on = on
at_ok (Err x) P e on = cc

pub at_err : {T E : Type 0} (r : Result T E) (P : Type 0) → is_err r ≡ true → OnErr r P → P
at_err (Ok x) P e on = cc
at_err (Err x) P e on = on

-- a write that wasn't made counts as one
pub write_missed : (contents : Contents) (at : ℕ) (sector : List ℕ) (f f' w : ℕ) (s : Option ℕ) (c : Cuts) → f ≤ f' → MayHaveWritten at sector (mem_state (contents_now contents) (past_of contents) f w s c) (mem_state (contents_now contents) (past_of contents) f' (raised w) (one_less s) c)
write_missed contents at sector f f' w s c le =
    let old = mem_state (contents_now contents) (past_of contents) f w s c in
    let new = mem_state (contents_now contents) (past_of contents) f' (raised w) (one_less s) c in
    record {
      stays = record { size = refl; tells = refl; can_arm = refl; faults = le; writes = raised_more w; stop = made_one old new refl refl; cuts = refl };
      elapses = record { later = omega arith; nothing_else = λ time image early left. inl left; keeps = λ time image early left. left };
      follows = record { from = λ image left. record { before = image; left = left; by = inl refl } };
      shown = λ tells. inl refl;
      writes = raised_within w;
      counted = refl;
      until_stop = refl;
    }

pub write_starved : (old new : Contents) (at : ℕ) (sector : List ℕ) (f f' w : ℕ) (s : Option ℕ) (c : Cuts) → f ≤ f' → StaysAt old new → MayHaveWritten at sector (mem_state (contents_now old) (past_of old) f w s c) (mem_state (contents_now new) (past_of new) f' (raised w) (one_less s) c)
write_starved old new at sector f f' w s c le same =
    subst (λ (m : DiskMoment). MayHaveWritten at sector (mem_state (contents_now old) (past_of old) f w s c) (mem_state m (past_of new) f' (raised w) (one_less s) c)) (sym same.now)
    (subst (λ (l : List DiskMoment). MayHaveWritten at sector (mem_state (contents_now old) (past_of old) f w s c) (mem_state (contents_now old) l f' (raised w) (one_less s) c)) (sym same.past)
    (write_missed old at sector f f' w s c le))
