-- What records that are appended behind a log say of the slots.
use Rattle.std.proofs.Common.{◌≡◌, Bool, true, false, List, [], ◌∷◌, ◌++◌, ℕ, refl, sym, ◌∙◌, ap, subst, Some, None, IsSome, append_assoc}
use Rattle.std.specs.Prelude.{find, reverse, Option, IfSome}
use Rattle.std.specs.List.{list_all}
use Rattle.std.specs.Option.{option_or, option_map}
use Rattle.std.proofs.lemmas.List.{append-nil}
use Rattle.std.proofs.lemmas.List.Elements.{filter-append}
use Rattle.log_records.specs.declared.record.Record.{Record}
use Rattle.log_records.specs.declared.record.Record.TheVariants.{Input, Command, Reply, Discarded, Completed, Acknowledged, SyncPoint, Checkpoint, Terminal, Code, Change}
use Rattle.model_image.specs.Slots.{is_change_of, is_sync_point_of, is_synced, before_image, after_image, named_by}
use Rattle.disk_law.specs.CommittedBytes.{Touches, Bytes, changes_of_slot, AreCommitted}
use Rattle.disk_law.proofs.Slots.{quiet_keeps}
use Rattle.image_law.proofs.Bools.{first_of, second_of}
use Rattle.disk_law.specs.QuietRecords.{is_quiet_record}
use Rattle.model_image.proofs.Readings.{not_both}
use Rattle.disk_law.proofs.Anew.{named_of, named_is}

pub all_behind : (snapshot log more : List Record) (d s : ℕ) → changes_of_slot (snapshot ++ (log ++ more)) d s ≡ changes_of_slot (snapshot ++ log) d s ++ changes_of_slot more d s
all_behind snapshot log more d s =
    ap (λ (records : List Record). changes_of_slot records d s) (sym (append_assoc snapshot log more))
    ∙ filter-append (is_change_of d s) (snapshot ++ log) more

-- ---- named or not

some_named : (o : Option (List ℕ)) (b : List ℕ) → option_or o (Some b) ≡ None → ⊥
some_named (Some a) b e = cc
some_named None b e = cc

none_of : (test : Record → Bool) (changes : List Record) → named_of test changes ≡ None → changes ≡ []
none_of test [] none = refl
none_of test (x ∷ changes) none = absurd (some_named (option_map after_image (find test (reverse (x ∷ changes)))) (before_image x) none)

-- where a slot has no change it isn't named, and where it isn't named it has none
pub unnamed_changes : (snapshot log : List Record) (d s : ℕ) → named_by snapshot log d s ≡ None → changes_of_slot (snapshot ++ log) d s ≡ []
unnamed_changes snapshot log d s none = none_of (is_synced log) (changes_of_slot (snapshot ++ log) d s) (sym (named_is snapshot log d s) ∙ none)

pub unchanged_unnamed : (snapshot log : List Record) (d s : ℕ) → changes_of_slot (snapshot ++ log) d s ≡ [] → named_by snapshot log d s ≡ None
unchanged_unnamed snapshot log d s none = named_is snapshot log d s ∙ ap (named_of (is_synced log)) none

pub front_empty : (xs ys : List Record) → xs ++ ys ≡ [] → xs ≡ []
front_empty [] ys e = refl
front_empty (x ∷ xs) ys e = cc

-- a slot that isn't named with more records wasn't before
pub unnamed_before : (snapshot log more : List Record) (d s : ℕ) → named_by snapshot (log ++ more) d s ≡ None → named_by snapshot log d s ≡ None
unnamed_before snapshot log more d s none =
    unchanged_unnamed snapshot log d s
    (front_empty (changes_of_slot (snapshot ++ log) d s) (changes_of_slot more d s) (sym (all_behind snapshot log more d s) ∙ unnamed_changes snapshot (log ++ more) d s none))

-- and one that was named stays so
pub named_stays : (snapshot log more : List Record) (d s : ℕ) → IsSome (named_by snapshot log d s) → IsSome (named_by snapshot (log ++ more) d s)
named_stays snapshot log more d s some = by_named (named_by snapshot (log ++ more) d s) refl where
  by_named : (o : Option (List ℕ)) → named_by snapshot (log ++ more) d s ≡ o → IsSome o
  by_named (Some bytes) is = refl
  by_named None is = absurd (not_both (named_by snapshot log d s) (unnamed_before snapshot log more d s is) some)

-- a slot is named with these bytes, if it is named
abbrev pub NamedAs : List ℕ → Option (List ℕ) → Type 0
NamedAs v o = IfSome o (λ bytes. bytes ≡ v)

-- ---- records that say nothing of slots

quiet_sync : (r : Record) → is_quiet_record r ≡ true → (unit : ℕ) → is_sync_point_of unit r ≡ false
quiet_sync (Change unit database slot before after) quiet u = refl
quiet_sync (Input unit id origin code number conversation segments) quiet u = refl
quiet_sync (Command text) quiet u = refl
quiet_sync (Reply unit terminal number segments) quiet u = refl
quiet_sync (Discarded unit id abend number) quiet u = refl
quiet_sync (Completed unit id) quiet u = refl
quiet_sync (Acknowledged terminal number) quiet u = refl
quiet_sync (SyncPoint unit pad) quiet u = absurd cc
quiet_sync (Checkpoint checkpoint next_id next_unit steps) quiet u = refl
quiet_sync (Terminal name last next stopped conversation) quiet u = refl
quiet_sync (Code name stopped class priority) quiet u = refl

quiet_change : (r : Record) → is_quiet_record r ≡ true → (d s : ℕ) → is_change_of d s r ≡ false
quiet_change (Change unit database slot before after) quiet d s = absurd cc
quiet_change (Input unit id origin code number conversation segments) quiet d s = refl
quiet_change (Command text) quiet d s = refl
quiet_change (Reply unit terminal number segments) quiet d s = refl
quiet_change (Discarded unit id abend number) quiet d s = refl
quiet_change (Completed unit id) quiet d s = refl
quiet_change (Acknowledged terminal number) quiet d s = refl
quiet_change (SyncPoint unit pad) quiet d s = refl
quiet_change (Checkpoint checkpoint next_id next_unit steps) quiet d s = refl
quiet_change (Terminal name last next stopped conversation) quiet d s = refl
quiet_change (Code name stopped class priority) quiet d s = refl

module _ (snapshot : List Record) (may_sync : ℕ → Bool) (touches : Touches) (committed : Bytes) where
  -- Records that say nothing of slots leave all as it was.
  pub all_quiet_keep : (log more : List Record) → list_all is_quiet_record more ≡ true → AreCommitted snapshot log may_sync touches committed → AreCommitted snapshot (log ++ more) may_sync touches committed
  all_quiet_keep log [] quiet c = subst (λ (l : List Record). AreCommitted snapshot l may_sync touches committed) (sym (append-nil log)) c
  all_quiet_keep log (r ∷ more) quiet c =
      let this : is_quiet_record r ≡ true = first_of (is_quiet_record r) (list_all is_quiet_record more) quiet in
      subst (λ (l : List Record). AreCommitted snapshot l may_sync touches committed) (append_assoc log (r ∷ []) more)
      (all_quiet_keep (log ++ r ∷ []) more (second_of (is_quiet_record r) (list_all is_quiet_record more) quiet)
      (quiet_keeps snapshot log may_sync touches committed c r (quiet_sync r this) (quiet_change r this)))
