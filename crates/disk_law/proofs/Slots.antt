-- The committed bytes of the slots, kept by each kind of record.
use Rattle.std.proofs.Common.{◌≡◌, ◌⊎◌, inl, inr, Bool, true, false, not, ◌&&◌, ◌||◌, List, [], ◌∷◌, ◌++◌, ℕ, refl, sym, ◌∙◌, ap, subst, Some, None, append_assoc}
use Rattle.std.specs.Prelude.{if◌then◌else◌, ◌==◌, find, reverse, slice_get, Option, IfSome}
use Rattle.std.specs.List.{list_any}
use Rattle.std.specs.Option.{option_or, option_map, option_map_or}
use Rattle.std.proofs.lemmas.Bool.{eq-eqb, eqb-true, ne_eqb}
use Rattle.std.proofs.lemmas.List.{append-nil, reverse-append}
use Rattle.std.proofs.lemmas.List.Elements.{filter-append}
use Rattle.std.proofs.lemmas.List.Folds.{list_any-append}
use Rattle.log_records.specs.declared.record.Record.{Record}
use Rattle.log_records.specs.declared.record.Record.TheVariants.{Input, Command, Reply, Discarded, Completed, Acknowledged, SyncPoint, Checkpoint, Terminal, Code, Change}
use Rattle.model_messages.specs.declared.conversation.PadChange.{PadChange}
use Rattle.model_image.specs.Slots.{is_change_of, is_sync_point_of, is_synced, before_image, after_image, named_by}
use Rattle.disk_law.specs.CommittedBytes.{Touch, Touches, Bytes, changes_of_slot, last_change, is_by, IsLast, AreCommitted, IsTouchTold, TellsTouches, is_place, touched, with_slot_touch, without_touches, without_sync, synced}
use Rattle.image_law.proofs.Bools.{first_of, second_of, neither_first, neither_second, not_true, not_of_false}
use Rattle.tm_types.proofs.Truths.{both}
use Rattle.disk_law.proofs.Anew.{named_of, named_is}

-- ---- numbers and places that are compared

swapped : (a b : ℕ) → a == b ≡ false → b == a ≡ false
swapped a b apart = ne_eqb b a (λ e. absurd (subst (λ (x : Bool). x ≡ false → ⊥) (sym (eq-eqb a b (sym e))) (λ f. cc) apart))

even : (a b : ℕ) → (a == b) ≡ (b == a)
even a b = by_first (a == b) (b == a) refl refl where
  by_first : (x y : Bool) → a == b ≡ x → b == a ≡ y → x ≡ y
  by_first true true p q = refl
  by_first false false p q = refl
  by_first true false p q = absurd (subst (λ (x : Bool). x ≡ false → ⊥) (sym (eq-eqb b a (sym (eqb-true a b p)))) (λ f. cc) q)
  by_first false true p q = absurd (subst (λ (x : Bool). x ≡ false → ⊥) (sym (eq-eqb a b (sym (eqb-true b a q)))) (λ f. cc) p)

left_false : (a b : Bool) → a && b ≡ false → b ≡ true → a ≡ false
left_false true b is on = absurd (subst (λ (x : Bool). x ≡ false → ⊥) (sym on) (λ f. cc) is)
left_false false b is on = refl

-- ---- what the changes of a slot say

-- the changes of a slot with one record more
more_changes : (snapshot log : List Record) (r : Record) (database slot : ℕ) → changes_of_slot (snapshot ++ (log ++ r ∷ [])) database slot ≡ changes_of_slot (snapshot ++ log) database slot ++ changes_of_slot (r ∷ []) database slot
more_changes snapshot log r database slot =
    ap (λ (records : List Record). changes_of_slot records database slot) (sym (append_assoc snapshot log (r ∷ [])))
    ∙ filter-append (is_change_of database slot) (snapshot ++ log) (r ∷ [])

-- with one that isn't of the slot
same_changes : (snapshot log : List Record) (r : Record) (database slot : ℕ) → is_change_of database slot r ≡ false → changes_of_slot (snapshot ++ (log ++ r ∷ [])) database slot ≡ changes_of_slot (snapshot ++ log) database slot
same_changes snapshot log r database slot other =
    more_changes snapshot log r database slot
    ∙ ap (λ b. changes_of_slot (snapshot ++ log) database slot ++ (if b then r ∷ [] else [])) other
    ∙ append-nil (changes_of_slot (snapshot ++ log) database slot)

-- sync points with one record more
more_syncs : (unit : ℕ) (log : List Record) (r : Record) → list_any (is_sync_point_of unit) (log ++ r ∷ []) ≡ list_any (is_sync_point_of unit) log || is_sync_point_of unit r
more_syncs unit log r =
    list_any-append (is_sync_point_of unit) log (r ∷ []) ∙ ap (λ b. list_any (is_sync_point_of unit) log || b) (or_false (is_sync_point_of unit r)) where
      or_false : (b : Bool) → b || false ≡ b
      or_false true = refl
      or_false false = refl

same_syncs : (unit : ℕ) (log : List Record) (r : Record) → is_sync_point_of unit r ≡ false → list_any (is_sync_point_of unit) (log ++ r ∷ []) ≡ list_any (is_sync_point_of unit) log
same_syncs unit log r none = more_syncs unit log r ∙ ap (λ b. list_any (is_sync_point_of unit) log || b) none ∙ or_false (list_any (is_sync_point_of unit) log) where
  or_false : (b : Bool) → b || false ≡ b
  or_false true = refl
  or_false false = refl

module _ (log : List Record) (r : Record) (no_sync : (unit : ℕ) → is_sync_point_of unit r ≡ false) where
  synced_same : (change : Record) → is_synced (log ++ r ∷ []) change ≡ is_synced log change
  synced_same (Change unit database slot before after) = same_syncs unit log r (no_sync unit)
  synced_same (Input unit id origin code number conversation segments) = refl
  synced_same (Command text) = refl
  synced_same (Reply unit terminal number segments) = refl
  synced_same (Discarded unit id abend number) = refl
  synced_same (Completed unit id) = refl
  synced_same (Acknowledged terminal number) = refl
  synced_same (SyncPoint unit pad) = refl
  synced_same (Checkpoint checkpoint next_id next_unit steps) = refl
  synced_same (Terminal name last next stopped conversation) = refl
  synced_same (Code name stopped class priority) = refl

  all_synced_same : is_synced (log ++ r ∷ []) ≡ is_synced log
  all_synced_same = λ i change. synced_same change i

-- ---- a record that is no change and no sync point

module _ (snapshot log : List Record) (may_sync : ℕ → Bool) (touches : Touches) (committed : Bytes) (c : AreCommitted snapshot log may_sync touches committed) where
  named_beside : (r : Record) → ((unit : ℕ) → is_sync_point_of unit r ≡ false) → (database slot : ℕ) → is_change_of database slot r ≡ false → named_by snapshot (log ++ r ∷ []) database slot ≡ named_by snapshot log database slot
  named_beside r no_sync database slot other =
      named_is snapshot (log ++ r ∷ []) database slot
      ∙ ap (λ (changes : List Record). named_of (is_synced (log ++ r ∷ [])) changes) (same_changes snapshot log r database slot other)
      ∙ ap (λ (test : Record → Bool). named_of test (changes_of_slot (snapshot ++ log) database slot)) (all_synced_same log r no_sync)
      ∙ sym (named_is snapshot log database slot)

  -- Inputs, replies, completions, acknowledgements and discarded messages leave all as it was.
  pub quiet_keeps : (r : Record) → ((unit : ℕ) → is_sync_point_of unit r ≡ false) → ((database slot : ℕ) → is_change_of database slot r ≡ false) → AreCommitted snapshot (log ++ r ∷ []) may_sync touches committed
  quiet_keeps r no_sync no_change = record {
    named = λ database slot. subst (λ (o : Option (List ℕ)). IfSome o (λ bytes. bytes ≡ committed database slot)) (sym (named_beside r no_sync database slot (no_change database slot))) (c.named database slot);
    open_yet = λ unit may. same_syncs unit log r (no_sync unit) ∙ c.open_yet unit may;
    live = c.live;
    first = c.first;
    last = λ unit database slot t is. subst (λ (changes : List Record). IsLast unit t.present (slice_get (reverse changes) 0)) (sym (same_changes snapshot log r database slot (no_change database slot))) (c.last unit database slot t is);
    others = λ unit database slot may none. ap (λ (changes : List Record). list_any (is_by unit) changes) (same_changes snapshot log r database slot (no_change database slot)) ∙ c.others unit database slot may none;
  }

  -- A unit ends without a sync point: by an abend, or since it gives way. Its changes never count.
  pub ended_keeps : (unit : ℕ) → AreCommitted snapshot log (without_sync unit may_sync) (without_touches unit touches) committed
  ended_keeps unit = record {
    named = c.named;
    open_yet = λ u may. c.open_yet u (second_of (not (u == unit)) (may_sync u) may);
    live = λ u database slot t is. stays_live u database slot t (u == unit) refl is;
    first = λ u database slot t is. c.first u database slot t (was u database slot t (u == unit) is);
    last = λ u database slot t is. c.last u database slot t (was u database slot t (u == unit) is);
    others = λ u database slot may none. c.others u database slot (second_of (not (u == unit)) (may_sync u) may) (none_was u database slot (u == unit) refl (first_of (not (u == unit)) (may_sync u) may) none);
  } where
    was : (u database slot : ℕ) (t : Touch) (b : Bool) → (if b then None else touches u database slot) ≡ Some t → touches u database slot ≡ Some t
    was u database slot t true is = cc
    was u database slot t false is = is

    stays_live : (u database slot : ℕ) (t : Touch) (b : Bool) → u == unit ≡ b → (if b then None else touches u database slot) ≡ Some t → not (u == unit) && may_sync u ≡ true
    stays_live u database slot t true same is = cc
    stays_live u database slot t false same is = both (not (u == unit)) (may_sync u) (not_of_false (u == unit) same) (c.live u database slot t is)

    none_was : (u database slot : ℕ) (b : Bool) → u == unit ≡ b → not (u == unit) ≡ true → (if b then None else touches u database slot) ≡ None → touches u database slot ≡ None
    none_was u database slot true same other is = absurd (subst (λ (b : Bool). not b ≡ true → ⊥) (sym same) (λ e. cc) other)
    none_was u database slot false same other is = is

-- ---- a change of a slot

find_front : (test : Record → Bool) (r : Record) (records : List Record) → test r ≡ false → find test (r ∷ records) ≡ find test records
find_front test r records not_it = ap (λ b. if b then Some r else find test records) not_it

-- a change more that doesn't count: the first one's bytes before stay, where there was one
named_more : (test : Record → Bool) (changes : List Record) (r : Record) → test r ≡ false → named_of test (changes ++ r ∷ []) ≡ (if list_any (λ _. true) changes then named_of test changes else Some (before_image r))
named_more test [] r not_it = ap (λ (o : Option Record). option_or (option_map after_image o) (Some (before_image r))) (find_front test r [] not_it)
named_more test (x ∷ changes) r not_it =
    ap (λ (records : List Record). option_or (option_map after_image (find test records)) (Some (before_image x))) (reverse-append (x ∷ changes) (r ∷ []))
    ∙ ap (λ (o : Option Record). option_or (option_map after_image o) (Some (before_image x))) (find_front test r (reverse (x ∷ changes)) not_it)

last_more : (changes : List Record) (r : Record) → slice_get (reverse (changes ++ r ∷ [])) 0 ≡ Some r
last_more changes r = ap (λ (records : List Record). slice_get records 0) (reverse-append changes (r ∷ []))

module _ (snapshot log : List Record) (may_sync : ℕ → Bool) (touches : Touches) (committed : Bytes) (c : AreCommitted snapshot log may_sync touches committed)
    (unit database slot : ℕ) (before after : List ℕ) (may : may_sync unit ≡ true)
    (alone : (other : ℕ) → other == unit ≡ false → touches other database slot ≡ None)
    (stood : touches unit database slot ≡ None → before ≡ committed database slot) where
  abbrev pub change : Record
  change = Change unit database slot before after

  abbrev pub now : Touches
  now = with_slot_touch unit database slot before after touches

  no_sync : (u : ℕ) → is_sync_point_of u change ≡ false
  no_sync u = refl

  not_synced : is_synced (log ++ change ∷ []) change ≡ false
  not_synced = same_syncs unit log change (no_sync unit) ∙ c.open_yet unit may

  turned : (d s : ℕ) → is_change_of d s change ≡ is_place database slot d s
  turned d s = ap (λ b. b && (slot == s)) (even database d) ∙ ap (λ b. (d == database) && b) (even slot s)

  same_place : (d s : ℕ) → is_place database slot d s ≡ true → (d ≡ database) × (s ≡ slot)
  same_place d s is = (eqb-true d database (first_of (d == database) (s == slot) is), eqb-true s slot (second_of (d == database) (s == slot) is))

  at_place : (d s : ℕ) → (d ≡ database) × (s ≡ slot) → IfSome (named_by snapshot (log ++ change ∷ []) database slot) (λ bytes. bytes ≡ committed database slot) →
      IfSome (named_by snapshot (log ++ change ∷ []) d s) (λ bytes. bytes ≡ committed d s)
  at_place d s is there =
      subst (λ k. IfSome (named_by snapshot (log ++ change ∷ []) k s) (λ bytes. bytes ≡ committed k s)) (sym is.0)
      (subst (λ k. IfSome (named_by snapshot (log ++ change ∷ []) database k) (λ bytes. bytes ≡ committed database k)) (sym is.1) there)

  its_first : (o : Option Touch) → touches unit database slot ≡ o → (touched o before after).first ≡ committed database slot
  its_first None is = stood is
  its_first (Some t) is = c.first unit database slot t is

  its_present : (o : Option Touch) → (touched o before after).present ≡ after
  its_present None = refl
  its_present (Some t) = refl

  -- the slots that the change is not of
  beside : (d s : ℕ) → is_place database slot d s ≡ false → named_by snapshot (log ++ change ∷ []) d s ≡ named_by snapshot log d s
  beside d s other = named_beside snapshot log may_sync touches committed c change no_sync d s (turned d s ∙ other)

  -- the slot of the change
  its_changes : changes_of_slot (snapshot ++ (log ++ change ∷ [])) database slot ≡ changes_of_slot (snapshot ++ log) database slot ++ change ∷ []
  its_changes =
      more_changes snapshot log change database slot
      ∙ ap (λ b. changes_of_slot (snapshot ++ log) database slot ++ (if b then change ∷ [] else [])) (both (database == database) (slot == slot) (eq-eqb database database refl) (eq-eqb slot slot refl))

  its_bytes : (o : Option Touch) → touches unit database slot ≡ o → IfSome (named_by snapshot (log ++ change ∷ []) database slot) (λ bytes. bytes ≡ committed database slot)
  its_bytes o is =
      subst (λ (o : Option (List ℕ)). IfSome o (λ bytes. bytes ≡ committed database slot))
      (sym (named_is snapshot (log ++ change ∷ []) database slot
      ∙ ap (λ (changes : List Record). named_of (is_synced (log ++ change ∷ [])) changes) its_changes
      ∙ named_more (is_synced (log ++ change ∷ [])) (changes_of_slot (snapshot ++ log) database slot) change not_synced
      ∙ ap (λ (test : Record → Bool). if list_any (λ _. true) (changes_of_slot (snapshot ++ log) database slot) then named_of test (changes_of_slot (snapshot ++ log) database slot) else Some before) (all_synced_same log change no_sync)))
      (by_changes (changes_of_slot (snapshot ++ log) database slot) refl o is) where
        by_changes : (changes : List Record) → changes_of_slot (snapshot ++ log) database slot ≡ changes → (o : Option Touch) → touches unit database slot ≡ o →
            IfSome (if list_any (λ _. true) changes then named_of (is_synced log) changes else Some before) (λ bytes. bytes ≡ committed database slot)
        by_changes (x ∷ changes) are o is =
            subst (λ (o : Option (List ℕ)). IfSome o (λ bytes. bytes ≡ committed database slot)) (named_is snapshot log database slot ∙ ap (named_of (is_synced log)) are) (c.named database slot)
        by_changes [] are None is = stood is
        by_changes [] are (Some t) is = absurd (subst (λ (changes : List Record). IsLast unit t.present (slice_get (reverse changes) 0)) are (c.last unit database slot t is))

  -- what it touches now
  its_touch : now unit database slot ≡ Some (touched (touches unit database slot) before after)
  its_touch =
      ap (λ b. if b then Some (touched (touches unit database slot) before after) else touches unit database slot)
      (both (unit == unit) (is_place database slot database slot) (eq-eqb unit unit refl) (both (database == database) (slot == slot) (eq-eqb database database refl) (eq-eqb slot slot refl)))

  -- A unit changes a slot that no other has touched, and, where it hasn't itself, what stood there was committed.
  pub change_keeps : AreCommitted snapshot (log ++ change ∷ []) may_sync now committed
  change_keeps = record {
    named = λ d s. by_place d s (is_place database slot d s) refl;
    open_yet = λ u may_u. same_syncs u log change refl ∙ c.open_yet u may_u;
    live = λ u d s t is. live_now u d s t ((u == unit) && is_place database slot d s) refl is;
    first = λ u d s t is. first_now u d s t ((u == unit) && is_place database slot d s) refl is;
    last = λ u d s t is. last_now u d s t ((u == unit) && is_place database slot d s) refl is (is_place database slot d s) refl;
    others = λ u d s may_u none. others_now u d s may_u ((u == unit) && is_place database slot d s) refl none (is_place database slot d s) refl;
  } where
    by_place : (d s : ℕ) (b : Bool) → is_place database slot d s ≡ b → IfSome (named_by snapshot (log ++ change ∷ []) d s) (λ bytes. bytes ≡ committed d s)
    by_place d s true is = at_place d s (same_place d s is) (its_bytes (touches unit database slot) refl)
    by_place d s false is = subst (λ (o : Option (List ℕ)). IfSome o (λ bytes. bytes ≡ committed d s)) (sym (beside d s is)) (c.named d s)

    live_now : (u d s : ℕ) (t : Touch) (b : Bool) → (u == unit) && is_place database slot d s ≡ b → (if b then Some (touched (touches unit database slot) before after) else touches u d s) ≡ Some t → may_sync u ≡ true
    live_now u d s t true same is = ap may_sync (eqb-true u unit (first_of (u == unit) (is_place database slot d s) same)) ∙ may
    live_now u d s t false same is = c.live u d s t is

    first_now : (u d s : ℕ) (t : Touch) (b : Bool) → (u == unit) && is_place database slot d s ≡ b → (if b then Some (touched (touches unit database slot) before after) else touches u d s) ≡ Some t → t.first ≡ committed d s
    first_now u d s t false same is = c.first u d s t is
    first_now u d s t true same is =
        let e : touched (touches unit database slot) before after ≡ t = cc in
        let place = same_place d s (second_of (u == unit) (is_place database slot d s) same) in
        ap (λ (x : Touch). x.first) (sym e) ∙ its_first (touches unit database slot) refl ∙ sym (ap (λ k. committed k s) place.0 ∙ ap (committed database) place.1)

    last_now : (u d s : ℕ) (t : Touch) (b : Bool) → (u == unit) && is_place database slot d s ≡ b → (if b then Some (touched (touches unit database slot) before after) else touches u d s) ≡ Some t →
        (p : Bool) → is_place database slot d s ≡ p → IsLast u t.present (last_change (snapshot ++ (log ++ change ∷ [])) d s)
    last_now u d s t true same is p at =
        let e : touched (touches unit database slot) before after ≡ t = cc in
        let place = same_place d s (second_of (u == unit) (is_place database slot d s) same) in
        subst (λ (o : Option Record). IsLast u t.present o)
        (sym (ap (λ k. last_change (snapshot ++ (log ++ change ∷ [])) k s) place.0 ∙ ap (last_change (snapshot ++ (log ++ change ∷ [])) database) place.1
        ∙ ap (λ (changes : List Record). slice_get (reverse changes) 0) its_changes ∙ last_more (changes_of_slot (snapshot ++ log) database slot) change))
        (sym (eqb-true u unit (first_of (u == unit) (is_place database slot d s) same)), sym (its_present (touches unit database slot)) ∙ ap (λ (x : Touch). x.present) e)
    last_now u d s t false same is true at =
        let other : u == unit ≡ false = left_false (u == unit) (is_place database slot d s) same at in
        let place = same_place d s at in
        absurd (subst (λ (o : Option Touch). o ≡ Some t → ⊥) (sym (ap (λ k. touches u k s) place.0 ∙ ap (touches u database) place.1 ∙ alone u other)) (λ e. cc) is)
    last_now u d s t false same is false at =
        subst (λ (changes : List Record). IsLast u t.present (slice_get (reverse changes) 0)) (sym (same_changes snapshot log change d s (turned d s ∙ at))) (c.last u d s t is)

    others_now : (u d s : ℕ) → may_sync u ≡ true → (b : Bool) → (u == unit) && is_place database slot d s ≡ b → (if b then Some (touched (touches unit database slot) before after) else touches u d s) ≡ None →
        (p : Bool) → is_place database slot d s ≡ p → list_any (is_by u) (changes_of_slot (snapshot ++ (log ++ change ∷ [])) d s) ≡ false
    others_now u d s may_u true same none p at = cc
    others_now u d s may_u false same none false at =
        ap (λ (changes : List Record). list_any (is_by u) changes) (same_changes snapshot log change d s (turned d s ∙ at)) ∙ c.others u d s may_u none
    others_now u d s may_u false same none true at =
        let other : u == unit ≡ false = left_false (u == unit) (is_place database slot d s) same at in
        let place = same_place d s at in
        let records = snapshot ++ (log ++ change ∷ []) in
        ap (λ k. list_any (is_by u) (changes_of_slot records k s)) place.0 ∙ ap (λ k. list_any (is_by u) (changes_of_slot records database k)) place.1
        ∙ ap (λ (changes : List Record). list_any (is_by u) changes) its_changes
        ∙ list_any-append (is_by u) (changes_of_slot (snapshot ++ log) database slot) (change ∷ [])
        ∙ ap (λ b. b || (unit == u || false)) (sym (ap (λ k. list_any (is_by u) (changes_of_slot (snapshot ++ log) k s)) place.0 ∙ ap (λ k. list_any (is_by u) (changes_of_slot (snapshot ++ log) database k)) place.1) ∙ c.others u d s may_u none)
        ∙ ap (λ b. b || false) (swapped u unit other)

-- ---- a sync point

pub none_reverse : (p : Record → Bool) (xs : List Record) → list_any p xs ≡ false → list_any p (reverse xs) ≡ false
none_reverse p [] none = refl
none_reverse p (x ∷ xs) none =
    ap (list_any p) (reverse-append (x ∷ []) xs)
    ∙ list_any-append p (reverse xs) (x ∷ [])
    ∙ ap (λ b. b || (p x || false)) (none_reverse p xs (neither_second (p x) (list_any p xs) none))
    ∙ ap (λ b. b || false) (neither_first (p x) (list_any p xs) none)

one_last : (a b : ℕ) (x y : List ℕ) (o : Option Record) → IsLast a x o → IsLast b y o → a ≡ b
one_last a b x y None one other = absurd one
one_last a b x y (Some (Change unit database slot before after)) one other = sym one.0 ∙ other.0
one_last a b x y (Some (Input unit id origin code number conversation segments)) one other = absurd one
one_last a b x y (Some (Command text)) one other = absurd one
one_last a b x y (Some (Reply unit terminal number segments)) one other = absurd one
one_last a b x y (Some (Discarded unit id abend number)) one other = absurd one
one_last a b x y (Some (Completed unit id)) one other = absurd one
one_last a b x y (Some (Acknowledged terminal number)) one other = absurd one
one_last a b x y (Some (SyncPoint unit pad)) one other = absurd one
one_last a b x y (Some (Checkpoint checkpoint next_id next_unit steps)) one other = absurd one
one_last a b x y (Some (Terminal name last next stopped conversation)) one other = absurd one
one_last a b x y (Some (Code name stopped class priority)) one other = absurd one

module _ (log : List Record) (unit : ℕ) (pad : PadChange) where
  abbrev pub sync : Record
  sync = SyncPoint unit pad

  abbrev then_synced : Record → Bool
  then_synced = is_synced (log ++ sync ∷ [])

  -- a change of another unit counts as before
  other_same : (r : Record) → is_by unit r ≡ false → then_synced r ≡ is_synced log r
  other_same (Change u database slot before after) other = same_syncs u log sync (swapped u unit other)
  other_same (Input u id origin code number conversation segments) other = refl
  other_same (Command text) other = refl
  other_same (Reply u terminal number segments) other = refl
  other_same (Discarded u id abend number) other = refl
  other_same (Completed u id) other = refl
  other_same (Acknowledged terminal number) other = refl
  other_same (SyncPoint u became) other = refl
  other_same (Checkpoint checkpoint next_id next_unit steps) other = refl
  other_same (Terminal name last next stopped conversation) other = refl
  other_same (Code name stopped class priority) other = refl

  find_same : (records : List Record) → list_any (is_by unit) records ≡ false → find then_synced records ≡ find (is_synced log) records
  find_same [] none = refl
  find_same (r ∷ records) none =
      ap (λ b. if b then Some r else find then_synced records) (other_same r (neither_first (is_by unit r) (list_any (is_by unit) records) none))
      ∙ ap (λ (o : Option Record). if is_synced log r then Some r else o) (find_same records (neither_second (is_by unit r) (list_any (is_by unit) records) none))

  -- the last change of a slot, which the unit made, counts now
  own_counts : (u : ℕ) → u ≡ unit → list_any (is_sync_point_of u) (log ++ sync ∷ []) ≡ true
  own_counts u is = more_syncs u log sync ∙ ap (λ b. list_any (is_sync_point_of u) log || b) (eq-eqb unit u (sym is)) ∙ or_true (list_any (is_sync_point_of u) log) where
    or_true : (b : Bool) → b || true ≡ true
    or_true true = refl
    or_true false = refl

  last_counts : (present : List ℕ) (records : List Record) → IsLast unit present (slice_get records 0) → option_map after_image (find then_synced records) ≡ Some present
  last_counts present [] is = absurd is
  last_counts present (Change u database slot before after ∷ records) is =
      ap (λ b. option_map after_image (if b then Some (Change u database slot before after) else find then_synced records)) (own_counts u is.0) ∙ ap (λ (bytes : List ℕ). Some bytes) is.1
  last_counts present (Input u id origin code number conversation segments ∷ records) is = absurd is
  last_counts present (Command text ∷ records) is = absurd is
  last_counts present (Reply u terminal number segments ∷ records) is = absurd is
  last_counts present (Discarded u id abend number ∷ records) is = absurd is
  last_counts present (Completed u id ∷ records) is = absurd is
  last_counts present (Acknowledged terminal number ∷ records) is = absurd is
  last_counts present (SyncPoint u became ∷ records) is = absurd is
  last_counts present (Checkpoint checkpoint next_id next_unit steps ∷ records) is = absurd is
  last_counts present (Terminal name last next stopped conversation ∷ records) is = absurd is
  last_counts present (Code name stopped class priority ∷ records) is = absurd is

  module _ (snapshot : List Record) (may_sync : ℕ → Bool) (touches : Touches) (committed : Bytes) (c : AreCommitted snapshot log may_sync touches committed) (may : may_sync unit ≡ true) where
    named_then : (d s : ℕ) → named_by snapshot (log ++ sync ∷ []) d s ≡ named_of then_synced (changes_of_slot (snapshot ++ log) d s)
    named_then d s = named_is snapshot (log ++ sync ∷ []) d s ∙ ap (named_of then_synced) (same_changes snapshot log sync d s refl)

    by_touch : (d s : ℕ) (o : Option Touch) → touches unit d s ≡ o → IfSome (named_by snapshot (log ++ sync ∷ []) d s) (λ bytes. bytes ≡ option_map_or (λ t. t.present) o (committed d s))
    by_touch d s None is =
        let changes = changes_of_slot (snapshot ++ log) d s in
        subst (λ (o : Option (List ℕ)). IfSome o (λ bytes. bytes ≡ committed d s))
        (sym (named_then d s
        ∙ ap (λ (o : Option Record). option_or (option_map after_image o) (option_map before_image (slice_get changes 0))) (find_same (reverse changes) (none_reverse (is_by unit) changes (c.others unit d s may is)))
        ∙ sym (named_is snapshot log d s)))
        (c.named d s)
    by_touch d s (Some t) is =
        let changes = changes_of_slot (snapshot ++ log) d s in
        subst (λ (o : Option (List ℕ)). IfSome o (λ bytes. bytes ≡ t.present))
        (sym (named_then d s
        ∙ ap (λ (o : Option (List ℕ)). option_or o (option_map before_image (slice_get changes 0))) (last_counts t.present (reverse changes) (c.last unit d s t is))))
        refl

    -- What the unit touched is committed as it stands now.
    pub sync_keeps : AreCommitted snapshot (log ++ sync ∷ []) (without_sync unit may_sync) (without_touches unit touches) (synced unit touches committed)
    sync_keeps = record {
      named = λ d s. by_touch d s (touches unit d s) refl;
      open_yet = λ u may_u.
          same_syncs u log sync (swapped u unit (not_true (u == unit) (first_of (not (u == unit)) (may_sync u) may_u)))
          ∙ c.open_yet u (second_of (not (u == unit)) (may_sync u) may_u);
      live = e.live;
      first = λ u d s t is. first_then u d s t (u == unit) refl is (touches unit d s) refl;
      last = λ u d s t is. subst (λ (changes : List Record). IsLast u t.present (slice_get (reverse changes) 0)) (sym (same_changes snapshot log sync d s refl)) (e.last u d s t is);
      others = λ u d s may_u none. ap (λ (changes : List Record). list_any (is_by u) changes) (same_changes snapshot log sync d s refl) ∙ e.others u d s may_u none;
    } where
      e : AreCommitted snapshot log (without_sync unit may_sync) (without_touches unit touches) committed
      e = ended_keeps snapshot log may_sync touches committed c unit

      first_then : (u d s : ℕ) (t : Touch) (b : Bool) → u == unit ≡ b → (if b then None else touches u d s) ≡ Some t → (o : Option Touch) → touches unit d s ≡ o → t.first ≡ option_map_or (λ t. t.present) o (committed d s)
      first_then u d s t true same is o at = cc
      first_then u d s t false same is None at = c.first u d s t is
      first_then u d s t false same is (Some x) at =
          let one : u ≡ unit = one_last u unit t.present x.present (last_change (snapshot ++ log) d s) (c.last u d s t is) (c.last unit d s x at) in
          absurd (subst (λ (b : Bool). b ≡ false → ⊥) (sym (eq-eqb u unit one)) (λ f. cc) same)

-- ---- a snapshot

-- At a checkpoint the log begins anew behind a snapshot that tells of each slot that an open unit touched.
module _ (snapshot log : List Record) (may_sync : ℕ → Bool) (touches : Touches) (committed : Bytes) (c : AreCommitted snapshot log may_sync touches committed) (later : List Record) (tells : TellsTouches later touches) where
  alone_is : (d s : ℕ) → changes_of_slot (later ++ []) d s ≡ changes_of_slot later d s
  alone_is d s = ap (λ (records : List Record). changes_of_slot records d s) (append-nil later)

  pub checkpoint_keeps : AreCommitted later [] may_sync touches committed
  checkpoint_keeps = record {
    named = λ d s.
        subst (λ (o : Option (List ℕ)). IfSome o (λ bytes. bytes ≡ committed d s))
        (sym (named_is later [] d s ∙ ap (named_of (is_synced [])) (alone_is d s))) (by_tells d s (tells.each d s));
    open_yet = λ u may. refl;
    live = c.live;
    first = c.first;
    last = λ u d s t is. subst (λ (changes : List Record). IsLast u t.present (slice_get (reverse changes) 0)) (sym (alone_is d s ∙ tells.all u d s t is)) (refl, refl);
    others = λ u d s may none. ap (λ (changes : List Record). list_any (is_by u) changes) (alone_is d s) ∙ not_by u d s none (tells.each d s);
  } where
    by_tells : (d s : ℕ) → (changes_of_slot later d s ≡ []) ⊎ ((unit : ℕ) × (t : Touch) × IsTouchTold later touches unit d s t) → IfSome (named_of (is_synced []) (changes_of_slot later d s)) (λ bytes. bytes ≡ committed d s)
    by_tells d s (inl none) = subst (λ (changes : List Record). IfSome (named_of (is_synced []) changes) (λ bytes. bytes ≡ committed d s)) (sym none) tt
    by_tells d s (inr told) =
        subst (λ (changes : List Record). IfSome (named_of (is_synced []) changes) (λ bytes. bytes ≡ committed d s)) (sym told.2.1) (c.first told.0 d s told.1 told.2.0)

    not_by : (u d s : ℕ) → touches u d s ≡ None → (changes_of_slot later d s ≡ []) ⊎ ((unit : ℕ) × (t : Touch) × IsTouchTold later touches unit d s t) → list_any (is_by u) (changes_of_slot later d s) ≡ false
    not_by u d s none (inl no_change) = ap (λ (changes : List Record). list_any (is_by u) changes) no_change
    not_by u d s none (inr told) =
        ap (λ (changes : List Record). list_any (is_by u) changes) told.2.1
        ∙ ap (λ b. b || false) (ne_eqb told.0 u (λ e. absurd (subst (λ (o : Option Touch). o ≡ Some told.1 → ⊥) (sym (ap (λ k. touches k d s) e ∙ none)) (λ f. cc) told.2.0)))
