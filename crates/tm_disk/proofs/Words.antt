-- How what is said of a disk goes on over the next call.
use Rattle.std.proofs.Common.{◌≡◌, ◌⊎◌, ℕ, ◌+◌, ◌≤◌, zero, suc, ap, inl, inr, ⊎_elim, refl, sym, arith, ◌∙◌, subst, false, IsFalse, IsTrue}
use Rattle.std.specs.Prelude.{Option, Some, None}
use Rattle.std.proofs.lemmas.Bool.{cases_Bool}
use Rattle.tm_disk.specs.Disk.{Image, DiskState, ComesFrom, IsDisk, IsSameDisk, HasMadeWrites, Stays, Elapses, Follows, Within, Only, NoMore, Keeps, one_less, less_by}
use Rattle.tm_disk.specs.Count.{raised}
use Rattle.tm_disk.proofs.Counting.{raised_by_one}

-- the writes left until a stop
pub less_by_none : (stop : Option ℕ) → stop ≡ less_by 0 stop
less_by_none None = refl
less_by_none (Some left) = ap (λ (n : ℕ). Some n) (omega arith)

pub less_by_one : (stop : Option ℕ) → one_less stop ≡ less_by 1 stop
less_by_one None = refl
less_by_one (Some zero) = ap (λ (n : ℕ). Some n) (omega arith)
less_by_one (Some (suc left)) = ap (λ (n : ℕ). Some n) (omega arith)

pub less_by_both : (a b : ℕ) (stop : Option ℕ) → less_by b (less_by a stop) ≡ less_by (a + b) stop
less_by_both a b None = refl
less_by_both a b (Some left) = ap (λ (n : ℕ). Some n) (omega arith)

pub made_none : (old new : DiskState) → new.writes ≡ old.writes → new.until_stop ≡ old.until_stop → HasMadeWrites old new
made_none old new writes same = record { made = 0; count = inl (omega (arith, writes)); until_stop = same ∙ less_by_none old.until_stop }

pub made_one : (old new : DiskState) → new.writes ≡ raised old.writes → new.until_stop ≡ one_less old.until_stop → HasMadeWrites old new
made_one old new writes less = record {
  made = 1;
  count = subst (λ (n : ℕ). (n ≡ old.writes + 1) ⊎ (18446744073709551615 ≤ n)) (sym writes) (raised_by_one old.writes);
  until_stop = less ∙ less_by_one old.until_stop;
}

pub made_on : (old mid new : DiskState) → mid.writes ≤ new.writes → HasMadeWrites old mid → HasMadeWrites mid new → HasMadeWrites old new
made_on old mid new rises a b = record {
  made = a.made + b.made;
  count =
      ⊎_elim
      (λ first. ⊎_elim (λ second. inl (omega (arith, first, second))) (λ last. inr last) b.count)
      (λ last. inr (omega (arith, last, rises)))
      a.count;
  until_stop = b.until_stop ∙ ap (less_by b.made) a.until_stop ∙ less_by_both a.made b.made old.until_stop;
}

-- the same disk
pub same_itself : (disk : DiskState) → IsSameDisk disk disk
same_itself disk = record { size = refl; tells = refl; can_arm = refl; faults = omega arith; writes = omega arith }

pub same_on : (old mid new : DiskState) → IsSameDisk old mid → IsSameDisk mid new → IsSameDisk old new
same_on old mid new a b = record {
  size = b.size ∙ a.size;
  tells = b.tells ∙ a.tells;
  can_arm = b.can_arm ∙ a.can_arm;
  faults = omega (arith, a.faults, b.faults);
  writes = omega (arith, a.writes, b.writes);
}

pub stays_is_same : (old new : DiskState) → Stays old new → IsSameDisk old new
stays_is_same old new stays = record { size = stays.size; tells = stays.tells; can_arm = stays.can_arm; faults = stays.faults; writes = stays.writes }

pub stays_same : (old : DiskState) → Stays old old
stays_same old = record { size = refl; tells = refl; can_arm = refl; faults = omega arith; writes = omega arith; stop = made_none old old refl refl; cuts = refl }

pub stays_on : (old mid new : DiskState) → Stays old mid → Stays mid new → Stays old new
stays_on old mid new a b = record {
  size = b.size ∙ a.size;
  tells = b.tells ∙ a.tells;
  can_arm = b.can_arm ∙ a.can_arm;
  faults = omega arith;
  writes = omega arith;
  stop = made_on old mid new b.writes a.stop b.stop;
  cuts = b.cuts ∙ a.cuts;
}

-- before the first call
pub within_same : (step : Image → Image → Type 0) (old : DiskState) → Within step old old
within_same step old = record { later = omega arith; from = λ time image before left. inl left; keeps = λ time image before left. left }

pub follows_same : (step : Image → Image → Type 0) (old : DiskState) → ((image : Image) → step image image) → Follows step old old
follows_same step old same = record { from = λ image left. record { before = image; left = left; by = same image } }

-- a weaker relation
comes_more : (step more : Image → Image → Type 0) (old : DiskState) (image : Image) → ((before image : Image) → step before image → more before image) → ComesFrom step old image → ComesFrom more old image
comes_more step more old image weaker w = record { before = w.before; left = w.left; by = weaker w.before image w.by }

pub within_more : (step more : Image → Image → Type 0) (old new : DiskState) → ((before image : Image) → step before image → more before image) → Within step old new → Within more old new
within_more step more old new weaker within = record {
  later = within.later;
  from = λ time image before left. ⊎_elim (λ past. inl past) (λ w. inr (comes_more step more old image weaker w)) (within.from time image before left);
  keeps = within.keeps;
}

pub follows_more : (step more : Image → Image → Type 0) (old new : DiskState) → ((before image : Image) → step before image → more before image) → Follows step old new → Follows more old new
follows_more step more old new weaker follows = record {
  from = λ image left. comes_more step more old image weaker (follows.from image left);
}

-- one call more, after which a crash leaves what comes from before
pub within_on : (step : Image → Image → Type 0) (old mid new : DiskState) → Within step old mid → Elapses mid new → Follows step old new → Within step old new
within_on step old mid new within elapses follows = record {
  later = omega (arith, within.later, elapses.later);
  from = λ time image before left.
      ⊎_elim (λ past. within.from time image before past) (λ now. inr (follows.from image now))
      (elapses.nothing_else time image (omega (arith, before, within.later)) left);
  keeps = λ time image before left. elapses.keeps time image (omega (arith, before, within.later)) (within.keeps time image before left);
}

-- two steps after one another
pub follows_on : (first second both : Image → Image → Type 0) (old mid new : DiskState) → ((a b c : Image) → first a b → second b c → both a c) → Follows first old mid → Follows second mid new → Follows both old new
follows_on first second both old mid new joined before after = record {
  from = λ image left.
      let w = after.from image left in
      let v = before.from w.before w.left in record { before = v.before; left = v.left; by = joined v.before w.before image v.by w.by };
}

-- a call that leaves nothing new
pub follows_no_more : (step : Image → Image → Type 0) (old mid new : DiskState) → Follows step old mid → NoMore mid new → Follows step old new
follows_no_more step old mid new follows no_more = record { from = λ image left. follows.from image (no_more image left) }

-- what a crash at any moment since left comes from what it might have left at the start
pub within_each : (step : Image → Image → Type 0) (old new : DiskState) → IsDisk old → ((image : Image) → step image image) → Within step old new → (image : Image) → new.left_since old.clock image → ComesFrom step old image
within_each step old new is_disk same within image left =
    ⊎_elim (λ past. record { before = image; left = is_disk.now_alone image past; by = same image }) (λ w. w) (within.from old.clock image (omega arith) left)

-- one run after another
pub within_within : (first second both : Image → Image → Type 0) (old mid new : DiskState) → ((a c : Image) → first a c → both a c) → ((a b c : Image) → first a b → second b c → both a c) → Within first old mid → Follows first old mid → Within second mid new → Within both old new
within_within first second both old mid new one joined before follows after = record {
  later = omega (arith, before.later, after.later);
  from = λ time image early left.
      ⊎_elim
      (λ past. ⊎_elim (λ older. inl older) (λ w. inr (comes_more first both old image one w)) (before.from time image early past))
      (λ w. let v = follows.from w.before w.left in inr (record { before = v.before; left = v.left; by = joined v.before w.before image v.by w.by }))
      (after.from time image (omega (arith, early, before.later)) left);
  keeps = λ time image early left. after.keeps time image (omega (arith, early, before.later)) (before.keeps time image early left);
}

pub keeps_same : (old : DiskState) → Keeps old old
keeps_same old = record {
  stays = stays_same old;
  elapses = record { later = omega arith; nothing_else = λ time image early left. inl left; keeps = λ time image early left. left };
  no_more = λ image left. left;
  shown = refl;
  writes = refl;
}

elapses_on : (old mid new : DiskState) → IsDisk old → Elapses old mid → NoMore old mid → Elapses mid new → Elapses old new
elapses_on old mid new is_disk a less b = record {
  later = omega (arith, a.later, b.later);
  nothing_else = λ time image early left.
      ⊎_elim
      (λ past. ⊎_elim (λ older. inl older) (λ now. inl (is_disk.now_counts time image early (less image now))) (a.nothing_else time image early past))
      (λ now. inr now)
      (b.nothing_else time image (omega (arith, early, a.later)) left);
  keeps = λ time image early left. b.keeps time image (omega (arith, early, a.later)) (a.keeps time image early left);
}

-- one reading call after another
pub keeps_on : (old mid new : DiskState) → IsDisk old → Keeps old mid → Keeps mid new → Keeps old new
keeps_on old mid new is_disk a b = record {
  stays = stays_on old mid new a.stays b.stays;
  elapses = elapses_on old mid new is_disk a.elapses a.no_more b.elapses;
  no_more = λ image left. a.no_more image (b.no_more image left);
  shown = b.shown ∙ a.shown;
  writes = b.writes ∙ a.writes;
}

-- a relation that is weaker where it begins at what a crash might have left
pub within_where : (step more : Image → Image → Type 0) (old new : DiskState) → ((before image : Image) → old.may_leave before → step before image → more before image) → Within step old new → Within more old new
within_where step more old new weaker within = record {
  later = within.later;
  from = λ time image early left.
      ⊎_elim (λ past. inl past)
      (λ (w : ComesFrom step old image). inr (record { before = w.before; left = w.left; by = weaker w.before image w.left w.by }))
      (within.from time image early left);
  keeps = within.keeps;
}

pub follows_where : (step more : Image → Image → Type 0) (old new : DiskState) → ((before image : Image) → old.may_leave before → step before image → more before image) → Follows step old new → Follows more old new
follows_where step more old new weaker follows = record {
  from = λ image left.
      let w = follows.from image left in record { before = w.before; left = w.left; by = weaker w.before image w.left w.by };
}

-- a disk that doesn't tell its contents leaves nothing
pub leaves_none : (disk : DiskState) → IsDisk disk → IsFalse disk.tells → (image : Image) → disk.may_leave image → ⊥
leaves_none disk is_disk silent image left = is_disk.silent silent disk.clock image (is_disk.now_counts disk.clock image (omega arith) left)

-- after a sync what is left comes from what was shown
pub follows_shown : (step : Image → Image → Type 0) (old new : DiskState) → IsDisk old → IsDisk new → new.tells ≡ old.tells → Only new.shown new → (IsTrue old.tells → step old.shown new.shown) → Follows step old new
follows_shown step old new old_disk new_disk same only shown = record {
  from = λ image left.
      ⊎_elim
      (λ (tells : IsTrue old.tells). record {
        before = old.shown;
        left = old_disk.shown_left tells;
        by = subst (step old.shown) (sym (only image left)) (shown tells);
      })
      (λ (silent : old.tells ≡ false). absurd (leaves_none new new_disk (same ∙ silent) image left))
      (cases_Bool old.tells);
}
