-- A unit changes slots, or ends without a sync point: the life that this leaves, and its records.
use Rattle.std.proofs.Common.{◌≡◌, ℕ, zero, suc, ◌+◌, ◌-◌, ◌<◌, Bool, true, false, ◌&&◌, List, [], ◌∷◌, ◌++◌, refl, sym, ◌∙◌, ap, subst, arith, Some, None, IsSome, append-nil, nat_lt}
use Rattle.std.specs.Prelude.{Option, if◌then◌else◌, ◌==◌, slice_get, reverse}
use Rattle.std.specs.List.{flat_map}
use Rattle.std.specs.Option.{option_map_or}
use Rattle.std.proofs.lemmas.Bool.{eq-eqb, eqb-true, ltb-true}
use Rattle.std.proofs.lemmas.Grind.{flat_map-append}
use Rattle.std.proofs.lemmas.List.Concat.{flat_map-cons}
use Rattle.tm_types.specs.declared.dbd.Dbd.{Dbd}
use Rattle.tm_disk.specs.Disk.{Image}
use Rattle.model_system.specs.System.{System}
use Rattle.log_records.specs.declared.record.Record.{Record}
use Rattle.log_records.specs.RecordSpelling.{record_spelling, IsLogRecord}
use Rattle.log_records.proofs.Takes.{IsBytes}
use Rattle.model_image.specs.Slots.{is_change_of, is_image, are_images, is_image_of, named_by}
use Rattle.image_law.proofs.Bools.{first_of, second_of}
use Rattle.image_law.proofs.Lists.{all_more}
use Rattle.image_law.proofs.Replayed.{appended}
use Rattle.disk_law.specs.CommittedBytes.{Touch, Touches, Bytes, changes_of_slot, IsLast, AreCommitted, is_place, touched}
use Rattle.disk_law.proofs.Slots.{change_keeps, ended_keeps}
use Rattle.disk_law.specs.Life.{LifeOnDisk, IsLifeOnDisk, AreBeside}
use Rattle.disk_law.specs.KeptImages.{AreRecordsOf, StandsAt, beginning}
use Rattle.disk_law.specs.SlotChanges.{SlotChange, change_record, with_slot_change, MayChange, with_slot_changes, MayChangeAll, life_without_unit, MarksBack}
use Rattle.disk_law.specs.LifeSteps.{done_to}
use Rattle.disk_law.proofs.Naming.{all_behind, unnamed_before, unnamed_changes, named_stays}
use Rattle.disk_law.proofs.Front.{all_both, bytes_both}

-- ---- records that are spelled

pub spelled_more : (records : List Record) (r : Record) → flat_map record_spelling (records ++ r ∷ []) ≡ flat_map record_spelling records ++ record_spelling r
spelled_more records r =
    flat_map-append record_spelling records (r ∷ [])
    ∙ ap (λ (l : List ℕ). flat_map record_spelling records ++ l) (flat_map-cons record_spelling r [] ∙ append-nil (record_spelling r))

-- ---- places of slots

-- the slot of a change is one of the system
pub record IsKnownSlot (system : System) (database slot : ℕ) : Type 0 where
  pub place : ℕ
  pub is : database ≡ place + 1
  pub dbd : Dbd
  pub found : slice_get system.databases place ≡ Some dbd
  pub below : slot < dbd.roots

of_dbd : (system : System) (database slot : ℕ) (before after : List ℕ) (place : ℕ) → database ≡ place + 1 → (o : Option Dbd) → slice_get system.databases place ≡ o → are_images slot before after o ≡ true → IsKnownSlot system database slot
of_dbd system database slot before after place is None found image = absurd cc
of_dbd system database slot before after place is (Some dbd) found image = record {
  place = place;
  is = is;
  dbd = dbd;
  found = found;
  below = ltb-true slot dbd.roots (first_of (nat_lt slot dbd.roots) (is_image dbd before) (first_of (nat_lt slot dbd.roots && is_image dbd before) (is_image dbd after) image));
}

by_zero : (system : System) (database slot : ℕ) (before after : List ℕ) (b : Bool) → database == 0 ≡ b → are_images slot before after (if b then None else slice_get system.databases (database - 1)) ≡ true → IsKnownSlot system database slot
by_zero system database slot before after true zero_is image = absurd cc
by_zero system database slot before after false some image =
    of_dbd system database slot before after (database - 1) (above database some) (slice_get system.databases (database - 1)) refl image where
      above : (n : ℕ) → n == 0 ≡ false → n ≡ n - 1 + 1
      above zero e = absurd cc
      above (suc n) e = omega arith

pub known_slot : (system : System) (unit : ℕ) (c : SlotChange) → is_image_of system (change_record unit c) ≡ true → IsKnownSlot system c.database c.slot
known_slot system unit c image = by_zero system c.database c.slot c.before c.after (c.database == 0) refl image

itself : (d s : ℕ) → is_place d s d s ≡ true
itself d s = rw (eq-eqb d d refl, eq-eqb s s refl) refl

-- a slot that is the place is its database's and its number's
same_place : (database slot d s : ℕ) → is_place database slot d s ≡ true → (d ≡ database) × (s ≡ slot)
same_place database slot d s is = (eqb-true d database (first_of (d == database) (s == slot) is), eqb-true s slot (second_of (d == database) (s == slot) is))

-- of a function of slots the value at a place that is the same
at_same : {A : Type 0} (f : ℕ → ℕ → A) (database slot d s : ℕ) → is_place database slot d s ≡ true → f d s ≡ f database slot
at_same f database slot d s is = let same = same_place database slot d s is in ap (λ k. f k s) same.0 ∙ ap (f database) same.1

-- ---- records that name a slot

by_some : (o : Option (List ℕ)) → (o ≡ None → ⊥) → IsSome o
by_some (Some bytes) some = refl
by_some None some = absurd (some refl)

last_some : (xs : List Record) (r : Record) (b : Bool) → b ≡ true → xs ++ (if b then r ∷ [] else []) ≡ [] → ⊥
last_some [] r true is e = cc
last_some (x ∷ xs) r true is e = cc
last_some xs r false is e = cc

-- a change that is appended names its slot
pub named_last : (snapshot log : List Record) (r : Record) (d s : ℕ) → is_change_of d s r ≡ true → IsSome (named_by snapshot (log ++ r ∷ []) d s)
named_last snapshot log r d s is =
    by_some (named_by snapshot (log ++ r ∷ []) d s)
    (λ none. last_some (changes_of_slot (snapshot ++ log) d s) r (is_change_of d s r) is (sym (all_behind snapshot log (r ∷ []) d s) ∙ unnamed_changes snapshot (log ++ r ∷ []) d s none))

no_last : (unit : ℕ) (present : List ℕ) (changes : List Record) → IsLast unit present (slice_get (reverse changes) 0) → changes ≡ [] → ⊥
no_last unit present changes last none = subst (λ (l : List Record). IsLast unit present (slice_get (reverse l) 0)) none last

-- a slot that an open unit touched is named
pub touched_named : (snapshot log : List Record) (may_sync : ℕ → Bool) (touches : Touches) (committed : Bytes) → AreCommitted snapshot log may_sync touches committed → (unit d s : ℕ) (t : Touch) → touches unit d s ≡ Some t → IsSome (named_by snapshot log d s)
touched_named snapshot log may_sync touches committed c unit d s t is =
    by_some (named_by snapshot log d s)
    (λ none. no_last unit t.present (changes_of_slot (snapshot ++ log) d s) (c.last unit d s t is) (unnamed_changes snapshot log d s none))

-- ---- a change

module _ (unit : ℕ) (c : SlotChange) (life : LifeOnDisk) (l : IsLifeOnDisk life) (may : MayChange unit c life) where
  abbrev pub life_after : LifeOnDisk
  life_after = with_slot_change unit c life

  abbrev its_record : Record
  its_record = change_record unit c

  abbrev is_here : ℕ → ℕ → Bool
  is_here d s = is_place c.database c.slot d s

  abbrev its_touch : Touch
  its_touch = touched (life.touches unit c.database c.slot) c.before c.after

  -- another unit's touch is no touch of the slot
  others_apart : (other d s : ℕ) (t : Touch) → other == unit ≡ false → is_here d s ≡ true → life.touches other d s ≡ Some t → ⊥
  others_apart other d s t apart here is =
      let none : Some t ≡ None = sym is ∙ at_same (life.touches other) c.database c.slot d s here ∙ may.alone other apart in cc

  its_present : (o : Option Touch) → (touched o c.before c.after).present ≡ c.after
  its_present None = refl
  its_present (Some t) = refl

  of_one : (one other d s : ℕ) (t u : Touch) (b : Bool) → one == unit ≡ b → (e : Bool) → other == unit ≡ e → (h : Bool) → is_here d s ≡ h →
      (if b && h then Some its_touch else life.touches one d s) ≡ Some t → (if e && h then Some its_touch else life.touches other d s) ≡ Some u → one ≡ other
  of_one one other d s t u true is_one true is_other h here first second = eqb-true one unit is_one ∙ sym (eqb-true other unit is_other)
  of_one one other d s t u true is_one false is_other true here first second = absurd (others_apart other d s u is_other here second)
  of_one one other d s t u false is_one true is_other true here first second = absurd (others_apart one d s t is_one here first)
  of_one one other d s t u true is_one false is_other false here first second = l.slots.apart one other d s t u first second
  of_one one other d s t u false is_one true is_other false here first second = l.slots.apart one other d s t u first second
  of_one one other d s t u false is_one false is_other h here first second = l.slots.apart one other d s t u first second

  was_committed : life.touches unit c.database c.slot ≡ None → c.before ≡ life.committed c.database c.slot
  was_committed none =
      let slot = known_slot life.system unit c may.image in
      let all : (one : ℕ) → life.touches one c.database c.slot ≡ None = λ one. by_unit one (one == unit) refl in
      may.stood
      ∙ ap (λ d. life.present d c.slot) slot.is
      ∙ sym (l.slots.untouched slot.place c.slot slot.dbd slot.found slot.below (λ one. ap (λ d. life.touches one d c.slot) (sym slot.is) ∙ all one))
      ∙ ap (λ d. life.committed d c.slot) (sym slot.is) where
        by_unit : (one : ℕ) (b : Bool) → one == unit ≡ b → life.touches one c.database c.slot ≡ None
        by_unit one true is = ap (λ u. life.touches u c.database c.slot) (eqb-true one unit is) ∙ none
        by_unit one false is = may.alone one is

  its_first : (o : Option Touch) → life.touches unit c.database c.slot ≡ o → (touched o c.before c.after).first ≡ life.committed c.database c.slot
  its_first None is = was_committed is
  its_first (Some t) is = l.slots.firsts unit c.database c.slot t is

  first_now : (one d s : ℕ) (t : Touch) (b : Bool) → one == unit ≡ b → (h : Bool) → is_here d s ≡ h → (if b && h then Some its_touch else life.touches one d s) ≡ Some t → t.first ≡ life.committed d s
  first_now one d s t true is_one true here is =
      let e : its_touch ≡ t = cc in
      ap (λ (x : Touch). x.first) (sym e) ∙ its_first (life.touches unit c.database c.slot) refl ∙ sym (at_same life.committed c.database c.slot d s here)
  first_now one d s t true is_one false here is = l.slots.firsts one d s t is
  first_now one d s t false is_one h here is = l.slots.firsts one d s t is

  stands_now : (one d s : ℕ) (t : Touch) (b : Bool) → one == unit ≡ b → (h : Bool) → is_here d s ≡ h →
      (if b && h then Some its_touch else life.touches one d s) ≡ Some t → t.present ≡ (if h then c.after else life.present d s)
  stands_now one d s t true is_one true here is = let e : its_touch ≡ t = cc in ap (λ (x : Touch). x.present) (sym e) ∙ its_present (life.touches unit c.database c.slot)
  stands_now one d s t false is_one true here is = absurd (others_apart one d s t is_one here is)
  stands_now one d s t true is_one false here is = l.slots.touched one d s t is
  stands_now one d s t false is_one false here is = l.slots.touched one d s t is

  none_touched : (d s : ℕ) (h : Bool) → is_here d s ≡ h → ((one : ℕ) → (if (one == unit) && h then Some its_touch else life.touches one d s) ≡ None) → (h ≡ false) × ((one : ℕ) → life.touches one d s ≡ None)
  none_touched d s true here none = absurd (some_touch (unit == unit) (eq-eqb unit unit refl) (none unit)) where
    some_touch : (b : Bool) → b ≡ true → (if b && true then Some its_touch else life.touches unit d s) ≡ None → ⊥
    some_touch true is e = cc
    some_touch false is e = cc
  none_touched d s false here none = (refl, λ one. by_unit (one == unit) one (none one)) where
    by_unit : (b : Bool) (one : ℕ) → (if b && false then Some its_touch else life.touches one d s) ≡ None → life.touches one d s ≡ None
    by_unit true one e = e
    by_unit false one e = e

  beside_after : AreBeside life.system life_after.touches life.committed life_after.present
  beside_after = record {
    firsts = λ one d s t is. first_now one d s t (one == unit) refl (is_here d s) refl is;
    apart = λ one other d s t u first second. of_one one other d s t u (one == unit) refl (other == unit) refl (is_here d s) refl first second;
    touched = λ one d s t is. stands_now one d s t (one == unit) refl (is_here d s) refl is;
    untouched = λ place number dbd found below none.
        let both = none_touched (place + 1) number (is_here (place + 1) number) refl none in
        l.slots.untouched place number dbd found below both.1 ∙ sym (ap (λ b. if b then c.after else life.present (place + 1) number) both.0);
  }

  pub change_life : IsLifeOnDisk life_after
  change_life = record {
    in_range = l.in_range;
    few = l.few;
    writer = record { first = l.writer.first; count = l.writer.count; sequence = l.writer.sequence; epoch = l.writer.epoch };
    appended = record {
      fits = may.fits;
      spelled = ap (λ (b : List ℕ). b ++ record_spelling its_record) l.appended.spelled ∙ sym (spelled_more life.appended its_record);
      records = all_both IsLogRecord life.appended (its_record ∷ []) l.appended.records (may.is_record, tt);
      bytes = subst IsBytes (sym (spelled_more life.appended its_record)) (bytes_both (flat_map record_spelling life.appended) (record_spelling its_record) l.appended.bytes may.bytes);
    };
    sound = l.sound;
    rows = l.rows;
    slots = beside_after;
  }

  module _ (snapshot log : List Record) (a : Image) (k : AreRecordsOf life snapshot log a) where
    here_named : (d s : ℕ) → is_here d s ≡ true → IsSome (named_by snapshot (log ++ its_record ∷ []) d s)
    here_named d s here =
        named_last snapshot log its_record d s
        (let same = same_place c.database c.slot d s here in rw (eq-eqb c.database d (sym same.0), eq-eqb c.slot s (sym same.1)) refl)

    -- The change is appended to them, and leaves what lasts.
    pub change_records : AreRecordsOf life_after snapshot (log ++ its_record ∷ []) a
    change_records = record {
      lasts = appended life.system log (its_record ∷ []) [] (beginning life.system snapshot) (done_to life.system life.lasting) (done_to life.system life.lasting) k.lasts l.sound (all_more (is_image_of life.system) [] its_record refl may.image) refl refl;
      slots = change_keeps snapshot log life.may_sync life.touches life.committed k.slots unit c.database c.slot c.before c.after may.may may.alone was_committed;
      unnamed = λ place number dbd found below none. k.unnamed place number dbd found below (unnamed_before snapshot log (its_record ∷ []) (place + 1) number none);
      written = λ place number dbd found below. by_here_written place number dbd found below (is_here (place + 1) number) refl;
      named = λ place number dbd found below. by_here_named place number dbd found below (is_here (place + 1) number) refl;
    } where
      by_here_written : (place number : ℕ) (dbd : Dbd) → slice_get life.system.databases place ≡ Some dbd → number < dbd.roots → (h : Bool) → is_here (place + 1) number ≡ h →
          (if h then c.marked else life.changed (place + 1) number) ≡ false → StandsAt life.system a place number (if h then c.after else life.present (place + 1) number)
      by_here_written place number dbd found below true here unchanged =
          let same = may.same unchanged in
          subst (λ (v : List ℕ). StandsAt life.system a place number v) (at_same life.present c.database c.slot (place + 1) number here ∙ sym may.stood ∙ sym same.1)
          (k.written place number dbd found below (at_same life.changed c.database c.slot (place + 1) number here ∙ same.0))
      by_here_written place number dbd found below false here unchanged = k.written place number dbd found below unchanged

      by_here_named : (place number : ℕ) (dbd : Dbd) → slice_get life.system.databases place ≡ Some dbd → number < dbd.roots → (h : Bool) → is_here (place + 1) number ≡ h →
          (if h then c.marked else life.changed (place + 1) number) ≡ true → IsSome (named_by snapshot (log ++ its_record ∷ []) (place + 1) number)
      by_here_named place number dbd found below true here changed = here_named (place + 1) number here
      by_here_named place number dbd found below false here changed = named_stays snapshot log (its_record ∷ []) (place + 1) number (k.named place number dbd found below changed)

-- one change after another
pub changes_life : (unit : ℕ) (changes : List SlotChange) (life : LifeOnDisk) → IsLifeOnDisk life → MayChangeAll unit changes life → IsLifeOnDisk (with_slot_changes unit changes life)
changes_life unit [] life l may = l
changes_life unit (c ∷ changes) life l may = changes_life unit changes (with_slot_change unit c life) (change_life unit c life l may.0) may.1

-- ---- the end of a unit without a sync point

module _ (unit : ℕ) (changed : ℕ → ℕ → Bool) (life : LifeOnDisk) (l : IsLifeOnDisk life) (marks : MarksBack unit changed life) where
  abbrev pub life_without : LifeOnDisk
  life_without = life_without_unit unit changed life

  still : (one d s : ℕ) (t : Touch) (b : Bool) → (if b then None else life.touches one d s) ≡ Some t → life.touches one d s ≡ Some t
  still one d s t true is = cc
  still one d s t false is = is

  is_other : (one d s : ℕ) (t : Touch) (b : Bool) → one == unit ≡ b → (if b then None else life.touches one d s) ≡ Some t → b ≡ false
  is_other one d s t true e is = cc
  is_other one d s t false e is = refl

  -- a slot that another unit touched isn't put back
  stays_there : (one d s : ℕ) (t : Touch) → one == unit ≡ false → life.touches one d s ≡ Some t → (o : Option Touch) → life.touches unit d s ≡ o → option_map_or (λ x. x.first) o (life.present d s) ≡ life.present d s
  stays_there one d s t apart is None none = refl
  stays_there one d s t apart is (Some x) there =
      let same : one == unit ≡ true = eq-eqb one unit (l.slots.apart one unit d s t x is there) in
      let clash : true ≡ false = sym same ∙ apart in cc

  all_none : (d s : ℕ) → ((one : ℕ) → (if one == unit then None else life.touches one d s) ≡ None) → life.touches unit d s ≡ None → (one : ℕ) → life.touches one d s ≡ None
  all_none d s none its one = by_unit (one == unit) refl (none one) where
    by_unit : (b : Bool) → one == unit ≡ b → (if b then None else life.touches one d s) ≡ None → life.touches one d s ≡ None
    by_unit true is e = ap (λ u. life.touches u d s) (eqb-true one unit is) ∙ its
    by_unit false is e = e

  put_is : (place number : ℕ) (dbd : Dbd) → slice_get life.system.databases place ≡ Some dbd → number < dbd.roots → ((one : ℕ) → (if one == unit then None else life.touches one (place + 1) number) ≡ None) →
      (o : Option Touch) → life.touches unit (place + 1) number ≡ o → life.committed (place + 1) number ≡ option_map_or (λ t. t.first) o (life.present (place + 1) number)
  put_is place number dbd found below none (Some t) is = sym (l.slots.firsts unit (place + 1) number t is)
  put_is place number dbd found below none None is = l.slots.untouched place number dbd found below (all_none (place + 1) number none is)

  pub without_life : IsLifeOnDisk life_without
  without_life = record {
    in_range = l.in_range;
    few = l.few;
    writer = l.writer;
    appended = l.appended;
    sound = l.sound;
    rows = l.rows;
    slots = record {
      firsts = λ one d s t is. l.slots.firsts one d s t (still one d s t (one == unit) is);
      apart = λ one other d s t u first second. l.slots.apart one other d s t u (still one d s t (one == unit) first) (still other d s u (other == unit) second);
      touched = λ one d s t is.
          let was = still one d s t (one == unit) is in
          l.slots.touched one d s t was ∙ sym (stays_there one d s t (is_other one d s t (one == unit) refl is) was (life.touches unit d s) refl);
      untouched = λ place number dbd found below none. put_is place number dbd found below none (life.touches unit (place + 1) number) refl;
    };
  }

  module _ (snapshot log : List Record) (a : Image) (k : AreRecordsOf life snapshot log a) where
    changed_named : (place number : ℕ) (dbd : Dbd) → slice_get life.system.databases place ≡ Some dbd → number < dbd.roots → changed (place + 1) number ≡ true → (o : Option Touch) → life.touches unit (place + 1) number ≡ o →
        IsSome (named_by snapshot log (place + 1) number)
    changed_named place number dbd found below is None none = k.named place number dbd found below (marks.only place number dbd found below is none)
    changed_named place number dbd found below is (Some t) there = touched_named snapshot log life.may_sync life.touches life.committed k.slots unit (place + 1) number t there

    -- The records stay as they are, with the unit's slots put back.
    pub without_records : AreRecordsOf life_without snapshot log a
    without_records = record {
      lasts = k.lasts;
      slots = ended_keeps snapshot log life.may_sync life.touches life.committed k.slots unit;
      unnamed = k.unnamed;
      written = λ place number dbd found below is.
          let both = marks.same place number dbd found below is in
          subst (λ (v : List ℕ). StandsAt life.system a place number v) (sym both.1) (k.written place number dbd found below both.0);
      named = λ place number dbd found below is. changed_named place number dbd found below is (life.touches unit (place + 1) number) refl;
    }
