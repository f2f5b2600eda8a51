-- One change of a slot after another: what they leave of a life, and that they may be.
use Rattle.std.proofs.Common.{◌≡◌, ℕ, zero, suc, ◌+◌, ◌≤◌, Bool, true, false, ◌||◌, ◌&&◌, List, [], ◌∷◌, ◌++◌, length, map, refl, sym, ◌∙◌, ap, subst, arith, Some, None, append_assoc, append-nil}
use Rattle.std.specs.Prelude.{◌==◌, if◌then◌else◌}
use Rattle.std.specs.List.{list_any, flat_map, AllByRecursion}
use Rattle.std.specs.Option.{is_some}
use Rattle.std.proofs.lemmas.Bool.{eq-eqb}
use Rattle.std.proofs.lemmas.List.{length-append}
use Rattle.std.proofs.lemmas.List.Concat.{flat_map-cons}
use Rattle.log_records.specs.declared.record.Record.{Record}
use Rattle.log_records.specs.RecordSpelling.{record_spelling, IsLogRecord}
use Rattle.log_records.proofs.Takes.{IsBytes}
use Rattle.log_writer.specs.ForcedLog.{log_sectors_of}
use Rattle.model_image.specs.Slots.{is_image_of}
use Rattle.disk_law.specs.CommittedBytes.{Bytes, is_place, touched}
use Rattle.disk_law.specs.Life.{LifeOnDisk}
use Rattle.disk_law.specs.SlotChanges.{SlotChange, change_record, with_bytes_behind, with_slot_change, with_slot_changes, MayChange, MayChangeAll}

-- a change is of this slot
abbrev pub is_of_slot : ℕ → ℕ → SlotChange → Bool
is_of_slot d s c = is_place c.database c.slot d s

abbrev pub changes_slot : List SlotChange → ℕ → ℕ → Bool
changes_slot changes d s = list_any (is_of_slot d s) changes

-- each change is of a slot of its own
abbrev pub AreOfOwn : List SlotChange → Type 0
AreOfOwn [] = Unit {0}
AreOfOwn (c ∷ changes) = (changes_slot changes c.database c.slot ≡ false) × AreOfOwn changes

abbrev pub records_of : ℕ → List SlotChange → List Record
records_of unit changes = map (change_record unit) changes

-- ---- what stays

pub log_behind : (unit : ℕ) (changes : List SlotChange) (life : LifeOnDisk) → (with_slot_changes unit changes life).log ≡ with_bytes_behind (flat_map record_spelling (records_of unit changes)) life.log
log_behind unit [] life = ap (λ (b : List ℕ). record life.log { appended = b }) (sym (append-nil life.log.appended))
log_behind unit (c ∷ changes) life =
    log_behind unit changes (with_slot_change unit c life)
    ∙ ap (λ (b : List ℕ). record life.log { appended = b })
    (append_assoc life.log.appended (record_spelling (change_record unit c)) (flat_map record_spelling (records_of unit changes))
    ∙ ap (λ (b : List ℕ). life.log.appended ++ b) (sym (flat_map-cons record_spelling (change_record unit c) (records_of unit changes))))

-- what changes of slots leave of a life as it was
pub record StaysSo (old new : LifeOnDisk) : Type 0 where
  pub system : new.system ≡ old.system
  pub text : new.text ≡ old.text
  pub now : new.now ≡ old.now
  pub lasting : new.lasting ≡ old.lasting
  pub committed : new.committed ≡ old.committed
  pub may_sync : new.may_sync ≡ old.may_sync

pub stays_so : (unit : ℕ) (changes : List SlotChange) (life : LifeOnDisk) → StaysSo life (with_slot_changes unit changes life)
stays_so unit [] life = record { system = refl; text = refl; now = refl; lasting = refl; committed = refl; may_sync = refl }
stays_so unit (c ∷ changes) life =
    let more = stays_so unit changes (with_slot_change unit c life) in
    record { system = more.system; text = more.text; now = more.now; lasting = more.lasting; committed = more.committed; may_sync = more.may_sync }

-- ---- what stands in the slots then

pub present_behind : (unit : ℕ) (now : Bytes) (changes : List SlotChange) (life : LifeOnDisk) (d s : ℕ) → AllByRecursion (λ c. c.after ≡ now c.database c.slot) changes
    → (with_slot_changes unit changes life).present d s ≡ (if changes_slot changes d s then now d s else life.present d s)
present_behind unit now [] life d s after = refl
present_behind unit now (c ∷ changes) life d s after =
    present_behind unit now changes (with_slot_change unit c life) d s after.1
    ∙ by (d == c.database) (s == c.slot) refl refl (changes_slot changes d s) where
      by : (a b : Bool) → d == c.database ≡ a → s == c.slot ≡ b → (later : Bool)
          → (if later then now d s else (if a && b then c.after else life.present d s)) ≡ (if (a && b) || later then now d s else life.present d s)
      by true true e f true = refl
      by true true e f false =
          after.0 ∙ sym (ap (λ k. now k s) (Rattle.std.proofs.lemmas.Bool.eqb-true d c.database e) ∙ ap (now c.database) (Rattle.std.proofs.lemmas.Bool.eqb-true s c.slot f))
      by true false e f later = refl
      by false b e f later = refl

pub changed_behind : (unit : ℕ) (now : ℕ → ℕ → Bool) (changes : List SlotChange) (life : LifeOnDisk) (d s : ℕ) → AllByRecursion (λ c. c.marked ≡ now c.database c.slot) changes
    → (with_slot_changes unit changes life).changed d s ≡ (if changes_slot changes d s then now d s else life.changed d s)
changed_behind unit now [] life d s marked = refl
changed_behind unit now (c ∷ changes) life d s marked =
    changed_behind unit now changes (with_slot_change unit c life) d s marked.1
    ∙ by (d == c.database) (s == c.slot) refl refl (changes_slot changes d s) where
      by : (a b : Bool) → d == c.database ≡ a → s == c.slot ≡ b → (later : Bool)
          → (if later then now d s else (if a && b then c.marked else life.changed d s)) ≡ (if (a && b) || later then now d s else life.changed d s)
      by true true e f true = refl
      by true true e f false =
          marked.0 ∙ sym (ap (λ k. now k s) (Rattle.std.proofs.lemmas.Bool.eqb-true d c.database e) ∙ ap (now c.database) (Rattle.std.proofs.lemmas.Bool.eqb-true s c.slot f))
      by true false e f later = refl
      by false b e f later = refl

pub others_behind : (unit other : ℕ) (changes : List SlotChange) (life : LifeOnDisk) (d s : ℕ) → other == unit ≡ false → (with_slot_changes unit changes life).touches other d s ≡ life.touches other d s
others_behind unit other [] life d s apart = refl
others_behind unit other (c ∷ changes) life d s apart = others_behind unit other changes (with_slot_change unit c life) d s apart ∙ by (other == unit) apart (is_place c.database c.slot d s) where
  by : (b : Bool) → b ≡ false → (here : Bool) → (if b && here then Some (touched (life.touches unit c.database c.slot) c.before c.after) else life.touches other d s) ≡ life.touches other d s
  by true e here = absurd cc
  by false e here = refl

pub own_behind : (unit : ℕ) (changes : List SlotChange) (life : LifeOnDisk) (d s : ℕ) → is_some ((with_slot_changes unit changes life).touches unit d s) ≡ (changes_slot changes d s || is_some (life.touches unit d s))
own_behind unit [] life d s = refl
own_behind unit (c ∷ changes) life d s = own_behind unit changes (with_slot_change unit c life) d s ∙ by (unit == unit) (eq-eqb unit unit refl) (is_place c.database c.slot d s) (changes_slot changes d s) where
  by : (b : Bool) → b ≡ true → (here later : Bool)
      → (later || is_some (if b && here then Some (touched (life.touches unit c.database c.slot) c.before c.after) else life.touches unit d s)) ≡ ((here || later) || is_some (life.touches unit d s))
  by true e true true = refl
  by true e true false = refl
  by true e false later = refl
  by false e here later = absurd cc

-- ---- that they may be

-- Each of the changes is of a slot where it stood so, which no other unit touched, and it is a record of a slot of the system. Where
-- the slot isn't marked then, it wasn't before, and stands as before.
pub record MayBe (unit : ℕ) (c : SlotChange) (life : LifeOnDisk) : Type 0 where
  pub alone : (other : ℕ) → other == unit ≡ false → life.touches other c.database c.slot ≡ None
  pub stood : c.before ≡ life.present c.database c.slot
  pub same : c.marked ≡ false → (life.changed c.database c.slot ≡ false) × (c.after ≡ c.before)
  pub is_record : IsLogRecord (change_record unit c)
  pub image : is_image_of life.system (change_record unit c) ≡ true

bytes_first : (xs ys : List ℕ) → IsBytes (xs ++ ys) → IsBytes xs
bytes_first [] ys are i = omega arith
bytes_first (x ∷ xs) ys are zero = are zero
bytes_first (x ∷ xs) ys are (suc i) = bytes_first xs ys (λ k. are (suc k)) i

bytes_second : (xs ys : List ℕ) → IsBytes (xs ++ ys) → IsBytes ys
bytes_second [] ys are i = are i
bytes_second (x ∷ xs) ys are i = bytes_second xs ys (λ k. are (suc k)) i

fewer_sectors : (n m : ℕ) → n ≤ m → log_sectors_of n ≤ log_sectors_of m
fewer_sectors n m less = omega (arith, less)

module _ (unit : ℕ) where
  -- one change leaves the others as they may be
  still_may : (c : SlotChange) (changes : List SlotChange) (life : LifeOnDisk) → changes_slot changes c.database c.slot ≡ false → AllByRecursion (λ x. MayBe unit x life) changes → AllByRecursion (λ x. MayBe unit x (with_slot_change unit c life)) changes
  still_may c [] life apart all = tt
  still_may c (x ∷ changes) life apart all = by (c.database == x.database) (c.slot == x.slot) refl refl apart (λ none. still_may c changes life none all.1) where
    elsewhere : {A : Type 0} (here there : A) (a b : Bool) → (a && b) ≡ false → (if a && b then here else there) ≡ there
    elsewhere here there true true e = absurd cc
    elsewhere here there true false e = refl
    elsewhere here there false b e = refl

    turned : (a b k l : ℕ) → ((a == b) && (k == l)) ≡ false → ((b == a) && (l == k)) ≡ false
    turned a b k l e = by_tests (b == a) (l == k) refl refl where
      by_tests : (p q : Bool) → b == a ≡ p → l == k ≡ q → (p && q) ≡ false
      by_tests true true f g =
          let clash : ((a == b) && (k == l)) ≡ true = rw (eq-eqb a b (sym (Rattle.std.proofs.lemmas.Bool.eqb-true b a f)), eq-eqb k l (sym (Rattle.std.proofs.lemmas.Bool.eqb-true l k g))) refl in
          let false_true : true ≡ false = sym clash ∙ e in absurd cc
      by_tests true false f g = refl
      by_tests false q f g = refl

    others : (other d s : ℕ) → other == unit ≡ false → (with_slot_change unit c life).touches other d s ≡ life.touches other d s
    others other d s out = others_behind unit other (c ∷ []) life d s out

    by : (a b : Bool) → c.database == x.database ≡ a → c.slot == x.slot ≡ b → ((a && b) || changes_slot changes c.database c.slot) ≡ false → (changes_slot changes c.database c.slot ≡ false → AllByRecursion (λ y. MayBe unit y (with_slot_change unit c life)) changes) → AllByRecursion (λ y. MayBe unit y (with_slot_change unit c life)) (x ∷ changes)
    by true true e f none later = absurd cc
    by true false e f none later = (here (rw (e, f) refl), later none) where
      here : ((c.database == x.database) && (c.slot == x.slot)) ≡ false → MayBe unit x (with_slot_change unit c life)
      here out = record {
        alone = λ other apart. others other x.database x.slot apart ∙ all.0.alone other apart;
        stood = all.0.stood ∙ sym (elsewhere c.after (life.present x.database x.slot) (x.database == c.database) (x.slot == c.slot) (turned c.database x.database c.slot x.slot out));
        same = λ none. (
          elsewhere c.marked (life.changed x.database x.slot) (x.database == c.database) (x.slot == c.slot) (turned c.database x.database c.slot x.slot out) ∙ (all.0.same none).0,
          (all.0.same none).1,
        );
        is_record = all.0.is_record;
        image = all.0.image;
      }
    by false b e f none later = (here (rw e refl), later none) where
      here : ((c.database == x.database) && (c.slot == x.slot)) ≡ false → MayBe unit x (with_slot_change unit c life)
      here out = record {
        alone = λ other apart. others other x.database x.slot apart ∙ all.0.alone other apart;
        stood = all.0.stood ∙ sym (elsewhere c.after (life.present x.database x.slot) (x.database == c.database) (x.slot == c.slot) (turned c.database x.database c.slot x.slot out));
        same = λ none. (
          elsewhere c.marked (life.changed x.database x.slot) (x.database == c.database) (x.slot == c.slot) (turned c.database x.database c.slot x.slot out) ∙ (all.0.same none).0,
          (all.0.same none).1,
        );
        is_record = all.0.is_record;
        image = all.0.image;
      }

  -- Changes of slots of their own may all be, where there is room for their records.
  pub all_may : (changes : List SlotChange) (life : LifeOnDisk) → life.may_sync unit ≡ true → AreOfOwn changes → AllByRecursion (λ c. MayBe unit c life) changes
      → life.log.place + log_sectors_of (length (life.log.appended ++ flat_map record_spelling (records_of unit changes))) ≤ life.log.count → IsBytes (flat_map record_spelling (records_of unit changes)) → MayChangeAll unit changes life
  all_may [] life may own all fits bytes = tt
  all_may (c ∷ changes) life may own all fits bytes =
      let r : List ℕ = record_spelling (change_record unit c) in
      let more : List ℕ = flat_map record_spelling (records_of unit changes) in
      let spelled : flat_map record_spelling (records_of unit (c ∷ changes)) ≡ r ++ more = flat_map-cons record_spelling (change_record unit c) (records_of unit changes) in
      let all_bytes : IsBytes (r ++ more) = subst IsBytes spelled bytes in
      let all_fit : life.log.place + log_sectors_of (length (life.log.appended ++ (r ++ more))) ≤ life.log.count =
      subst (λ (b : List ℕ). life.log.place + log_sectors_of (length (life.log.appended ++ b)) ≤ life.log.count) spelled fits in
      let some : length (life.log.appended ++ r) ≤ length (life.log.appended ++ (r ++ more)) =
      omega (arith, length-append life.log.appended r, length-append life.log.appended (r ++ more), length-append r more) in
      let here : MayChange unit c life = record {
        may = may;
        alone = all.0.alone;
        stood = all.0.stood;
        same = all.0.same;
        is_record = all.0.is_record;
        image = all.0.image;
        fits = omega (arith, all_fit, fewer_sectors (length (life.log.appended ++ r)) (length (life.log.appended ++ (r ++ more))) some);
        bytes = bytes_first r more all_bytes;
      } in (
        here,
        all_may changes (with_slot_change unit c life) may own.1 (still_may c changes life own.0 all.1)
            (subst (λ (b : List ℕ). life.log.place + log_sectors_of (length b) ≤ life.log.count) (sym (append_assoc life.log.appended r more)) all_fit) (bytes_second r more all_bytes),
      )
