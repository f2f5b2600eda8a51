-- The log begins anew behind a snapshot that tells of what open units touched, but for slots that stand as they are committed.
use Rattle.std.proofs.Common.{◌≡◌, ◌⊎◌, inl, inr, Bool, true, false, ◌||◌, List, [], ◌∷◌, ◌++◌, ℕ, refl, sym, ◌∙◌, ap, subst, Some, None, append-nil}
use Rattle.std.specs.Prelude.{Option, IfSome, find, reverse, slice_get}
use Rattle.std.specs.List.{list_any}
use Rattle.std.specs.Option.{option_or, option_map}
use Rattle.std.proofs.lemmas.Bool.{ne_eqb}
use Rattle.log_records.specs.declared.record.Record.{Record}
use Rattle.log_records.specs.declared.record.Record.TheVariants.{Change}
use Rattle.model_image.specs.Slots.{is_synced, before_image, after_image, named_by}
use Rattle.disk_law.specs.CommittedBytes.{Touch, Touches, Bytes, changes_of_slot, is_by, IsLast, AreCommitted, IsTouchTold, TellsTouches}

abbrev pub named_of : (Record → Bool) → List Record → Option (List ℕ)
named_of test changes = option_or (option_map after_image (find test (reverse changes))) (option_map before_image (slice_get changes 0))

pub named_is : (snapshot log : List Record) (database slot : ℕ) → named_by snapshot log database slot ≡ named_of (is_synced log) (changes_of_slot (snapshot ++ log) database slot)
unfolding named_by
named_is snapshot log database slot = refl

module _ (told : List Record) (may_sync : ℕ → Bool) (touches : Touches) (committed : Bytes) (tells : TellsTouches told touches)
    (live : (unit database slot : ℕ) (t : Touch) → touches unit database slot ≡ Some t → may_sync unit ≡ true)
    (first : (unit database slot : ℕ) (t : Touch) → touches unit database slot ≡ Some t → t.first ≡ committed database slot) where
  abbrev Told : ℕ → ℕ → Type 0
  Told d s = (changes_of_slot told d s ≡ []) ⊎ ((unit : ℕ) × (t : Touch) × IsTouchTold told touches unit d s t)

  alone_is : (d s : ℕ) → changes_of_slot (told ++ []) d s ≡ changes_of_slot told d s
  alone_is d s = ap (λ (records : List Record). changes_of_slot records d s) (append-nil told)

  by_tells : (d s : ℕ) → Told d s → IfSome (named_of (is_synced []) (changes_of_slot told d s)) (λ bytes. bytes ≡ committed d s)
  by_tells d s (inl none) = subst (λ (changes : List Record). IfSome (named_of (is_synced []) changes) (λ bytes. bytes ≡ committed d s)) (sym none) tt
  by_tells d s (inr is) = subst (λ (changes : List Record). IfSome (named_of (is_synced []) changes) (λ bytes. bytes ≡ committed d s)) (sym is.2.1) (first is.0 d s is.1 is.2.0)

  not_by : (u d s : ℕ) → touches u d s ≡ None → Told d s → list_any (is_by u) (changes_of_slot told d s) ≡ false
  not_by u d s none (inl no_change) = ap (λ (changes : List Record). list_any (is_by u) changes) no_change
  not_by u d s none (inr is) =
      ap (λ (changes : List Record). list_any (is_by u) changes) is.2.1
      ∙ ap (λ b. b || false) (ne_eqb is.0 u (λ e. absurd (subst (λ (o : Option Touch). o ≡ Some is.1 → ⊥) (sym (ap (λ k. touches k d s) e ∙ none)) (λ f. cc) is.2.0)))

  pub begins_anew : AreCommitted told [] may_sync touches committed
  begins_anew = record {
    named = λ d s.
        subst (λ (o : Option (List ℕ)). IfSome o (λ bytes. bytes ≡ committed d s))
        (sym (named_is told [] d s ∙ ap (named_of (is_synced [])) (alone_is d s))) (by_tells d s (tells.each d s));
    open_yet = λ u may. refl;
    live = live;
    first = first;
    last = λ u d s t is. subst (λ (changes : List Record). IsLast u t.present (slice_get (reverse changes) 0)) (sym (alone_is d s ∙ tells.all u d s t is)) (refl, refl);
    others = λ u d s may none. ap (λ (changes : List Record). list_any (is_by u) changes) (alone_is d s) ∙ not_by u d s none (tells.each d s);
  }

  some_change : (u d s : ℕ) (t : Touch) → touches u d s ≡ Some t → changes_of_slot told d s ≡ [] → ⊥
  some_change u d s t is none = let clash : Change u d s t.first t.present ∷ [] ≡ [] = sym (tells.all u d s t is) ∙ none in cc

  -- a slot that it doesn't tell of is touched by no open unit
  pub none_told : (d s : ℕ) → changes_of_slot (told ++ []) d s ≡ [] → (unit : ℕ) → touches unit d s ≡ None
  none_told d s none unit = by_touch (touches unit d s) refl where
    by_touch : (o : Option Touch) → touches unit d s ≡ o → o ≡ None
    by_touch None is = refl
    by_touch (Some t) is = absurd (some_change unit d s t is (sym (alone_is d s) ∙ none))
