-- Victims give up, one after another.
use Rattle.std.proofs.Common.{◌≡◌, ◌⊎◌, inl, inr, ℕ, zero, suc, ◌+◌, ◌-◌, ◌≤◌, ◌<◌, true, List, [], ◌∷◌, ◌++◌, length, Option, Some, None, refl, sym, ◌∙◌, ap, subst, arith, IsSome}
use Rattle.std.specs.Prelude.{slice_get, slice_set, nat_lt}
use Rattle.std.specs.List.{AllByRecursion}
use Rattle.std.specs.Option.{is_some, unwrap_or}
use Rattle.std.proofs.lemmas.Bool.{ne_eqb, ltb-true}
use Rattle.std.proofs.lemmas.Option.{slice_get_within}
use Rattle.disk_law.proofs.OnDisk.{goes_further}
use Rattle.disk_law.proofs.Recovering.{index_found}
use Rattle.model_system.specs.System.{System}
use Rattle.model_data.specs.declared.victim.Victim.{Victim}
use Rattle.model_data.specs.EnqueueRequests.{released}
use Rattle.model_data.specs.Cycle.{after_victims}
use Rattle.model_data.specs.Table.{EnqueueTable}
use Rattle.model_machine.specs.Machine.{LastingState, Slot, slot_in}
use Rattle.model_machine.specs.Requests.{without_victims}
use Rattle.pi_enqueue.proofs.Keeping.{kept_released}
use Rattle.log_writer.specs.Writer.{Writer}
use Rattle.unit_work.specs.declared.change.Change.{Change}
use Rattle.disk_law.specs.Life.{LifeOnDisk}
use Rattle.disk_law.specs.SlotChanges.{with_bytes_behind}
use Rattle.program_rows.specs.OpenUnits.{HoldsAlone}
use Rattle.program_rows.specs.SlotsState.{SlotsState, HaveSlots, GivesUpSo, touched_in}
use Rattle.journal.specs.TurnChanges.{GiveUpInOrder}
use Rattle.journal.specs.UnitNumbers.{AreUnitsNumbered, unit_of_region, with_unit, without_units}
use Rattle.journal.specs.CarriedLife.{resource_of, HoldTouched, IsLifeOf}
use Rattle.journal.specs.LifeByCall.{Continues}
use Rattle.journal.proofs.Ended.{get_of_index, none_touched, touched_else}
use Rattle.journal.proofs.Holding.{release_leaves}
use Rattle.journal.proofs.Numbers.{same_or_apart, numbered_ended}
use Rattle.journal.proofs.Staying.{gives_up, stays_as}

-- two that append bytes append them one after the other
pub continues_then : (first second : List ℕ) (P Q : LifeOnDisk → Type 0) (life : LifeOnDisk) (c : Continues first P life) → Continues second Q c.behind → Continues (first ++ second) Q life
continues_then first second P Q life c d = record {
  behind = d.behind;
  text = d.text ∙ c.text;
  now = d.now ∙ c.now;
  log = d.log ∙ ap (λ (w : Writer). with_bytes_behind second w) c.log ∙ ap (λ (b : List ℕ). record life.log { appended = b }) (Rattle.std.proofs.Common.append_assoc life.log.appended first second);
  goes = goes_further [] [] life c.behind d.behind c.goes d.goes;
  is = d.is;
}

-- what regions hold that have touched slots, behind a victim
held_behind : (table : EnqueueTable) (old new : SlotsState) (region : ℕ) → 1 ≤ region → HoldTouched table old → GivesUpSo region old new → HoldTouched (released region table) new
held_behind table old new region least holds up = record { held = held_then; compatible = kept_released table region holds.compatible } where
  stay : (other : ℕ) → (other ≡ region → ⊥) → (slots : List Change) → AllByRecursion (λ c. HoldsAlone table other (resource_of c.db c.before)) slots → AllByRecursion (λ c. HoldsAlone (released region table) other (resource_of c.db c.before)) slots
  stay other apart [] all = tt
  stay other apart (c ∷ slots) all = (release_leaves region other table (resource_of c.db c.before) (ne_eqb other region apart) all.0, stay other apart slots all.1)

  held_then : (other : ℕ) → 1 ≤ other → AllByRecursion (λ c. HoldsAlone (released region table) other (resource_of c.db c.before)) (touched_in other new)
  held_then other low = by (same_or_apart other region) where
    by : (other ≡ region) ⊎ (other ≡ region → ⊥) → AllByRecursion (λ c. HoldsAlone (released region table) other (resource_of c.db c.before)) (touched_in other new)
    by (inl same) =
        subst (λ (slots : List Change). AllByRecursion (λ c. HoldsAlone (released region table) other (resource_of c.db c.before)) slots)
        (sym (none_touched old new.touched region up.touched) ∙ ap (λ r. touched_in r new) (sym same)) tt
    by (inr apart) =
        subst (λ (slots : List Change). AllByRecursion (λ c. HoldsAlone (released region table) other (resource_of c.db c.before)) slots)
        (sym (touched_else old new.touched region other [] least low apart up.touched)) (stay other apart (touched_in other old) (holds.held other low))

-- a region that has a message has a number
pub some_unit : (regions : List (Option Slot)) (units : List ℕ) (next region : ℕ) → AreUnitsNumbered regions units next → IsSome (slot_in regions region) → 0 < unit_of_region units region
some_unit regions units next region n busy = by (slice_get regions (region - 1)) refl (slice_get units (region - 1)) refl busy where
  get_some : {A : Type 0} (xs : List A) (k : ℕ) (x : A) → slice_get xs k ≡ Some x → k < length xs
  get_some xs k x is = slice_get_within xs k x is

  get_past : (xs : List ℕ) (k : ℕ) → k < length xs → slice_get xs k ≡ None → ⊥
  get_past [] k low is = omega (arith, low)
  get_past (x ∷ xs) zero low is = cc
  get_past (x ∷ xs) (suc k) low is = get_past xs k (omega (arith, low)) is

  by : (o : Option (Option Slot)) → slice_get regions (region - 1) ≡ o → (p : Option ℕ) → slice_get units (region - 1) ≡ p → is_some (unwrap_or o None) ≡ true → 0 < unit_of_region units region
  by None e p f h = absurd cc
  by (Some slot) e None f h = absurd (get_past units (region - 1) (omega (arith, n.count, get_some regions (region - 1) slot e)) f)
  by (Some slot) e (Some unit) f h =
      let positive : nat_lt 0 unit ≡ true = n.busy (region - 1) unit slot f e ∙ h in
      subst (λ u. 0 < u) (sym (index_found units (region - 1) unit 0 f)) (ltb-true 0 unit positive)

module _ (system : System) (n : ℕ) (lasting : LastingState) (next : ℕ) (few_sectors : AllByRecursion (λ dbd. dbd.sectors ≤ 8) system.databases) where
  -- All of them give up.
  pub victims_go : (victims : List Victim) (regions : List (Option Slot)) (table : EnqueueTable) (old new : SlotsState) (units : List ℕ) (life : LifeOnDisk) → IsLifeOf system lasting regions table old units next life
      → HaveSlots system.databases n old → HoldTouched table old → GiveUpInOrder system.databases n regions victims old new
      → Continues [] (IsLifeOf system lasting (without_victims victims regions) (after_victims victims table) new (without_units victims units) next) life
  victims_go [] regions table old new units life l have holds up =
      subst (λ (slots : SlotsState). Continues [] (IsLifeOf system lasting regions table slots units next) life) (sym up)
      (stays_as system lasting regions regions table table old units next life l (λ other d image alone. alone) l.numbers)
  victims_go (v ∷ victims) regions table old new units life l have holds up =
      let unit : ℕ = unit_of_region units v.region in
      let some : 0 < unit = some_unit regions units next v.region l.numbers up.busy in
      let found : slice_get units (v.region - 1) ≡ Some unit = get_of_index units (v.region - 1) unit refl some in
      let first =
      gives_up system n lasting regions (slice_set regions (v.region - 1) None) table (released v.region table) old up.middle units next life l have up.have few_sectors holds unit v.region up.least found some
      (λ other d image apart alone. release_leaves v.region other table (resource_of d image) (ne_eqb other v.region apart) alone)
      (numbered_ended regions units next (v.region - 1) l.numbers) up.gives_up in
      let more =
      victims_go victims (slice_set regions (v.region - 1) None) (released v.region table) up.middle new (with_unit v.region 0 units) first.behind first.is up.have (held_behind table old up.middle v.region up.least holds up.gives_up) up.rest in
      continues_then [] []
      (IsLifeOf system lasting (slice_set regions (v.region - 1) None) (released v.region table) up.middle (with_unit v.region 0 units) next)
      (IsLifeOf system lasting (without_victims (v ∷ victims) regions) (after_victims (v ∷ victims) table) new (without_units (v ∷ victims) units) next) life first more
