-- All slots of a database, and those still to be read.
use Rattle.std.proofs.Common.{◌≡◌, ℕ, ◌+◌, ◌-◌, ◌*◌, ◌<◌, ◌≤◌, ◌++◌, ◌∷◌, [], List, suc, refl, sym, ◌∙◌, ap, subst, arith, Bool, true, false, cond, not, eqb, Option, None, Some, Err, inl, inr, append_assoc}
use Rattle.std.specs.Prelude.{map, find}
use Rattle.std.specs.List.{AllByRecursion}
use Rattle.std.specs.List.Sorted.{IsStrictlySortedBy}
use Rattle.std.specs.Option.{option_map, option_or, is_some, unwrap_or}
use Rattle.std.specs.Ordering.{nat_cmp}
use Rattle.std.specs.declared.cmp.Ordering.TheVariants.{Less}
use Rattle.std.specs.Map.{keys_of}
use Rattle.std.proofs.lemmas.Bool.{eqb-true, eqb-false, ne_eqb}
use Rattle.std.proofs.lemmas.Cmp.{ranked}
use Rattle.tm_types.specs.declared.dbd.Dbd.{Dbd}
use Rattle.tm_types.specs.SegTypes.{IsHierarchy}
use Rattle.model_data.specs.declared.row.Row.{Row}
use Rattle.model_image.specs.Slots.{SlotOnImage, Source, source_of, slots_by, rows_of_bytes, sectors_from, wrong_in, place_in, has_no_record, first_wrong, first_no_record, slot_rows}
use Rattle.seg_store.specs.Slots.{IsSlot}
use Rattle.seg_store.proofs.SlotRows.{record_image_root}
use Rattle.tm_disk.specs.Disk.{Image}
use Rattle.image_loading.specs.LoadedStore.{given_to, slot_from, image_slots_in}
use Rattle.image_loading.specs.declared.fault.LoadFault.{LoadFault}
use Rattle.image_loading.specs.declared.fault.LoadFault.TheVariants as faults
use Rattle.image_loading.specs.ReadSlots.{IsSlotRows, MaySlot, TellsSlot, TellsRead, head_given, given_behind}
use Rattle.image_loading.proofs.Slotted.{Ascends}
use Rattle.image_loading.proofs.Spelled.{rows_spell}

-- rows that bytes spell may stand in a slot
pub rows_slot : (dbd : Dbd) → IsHierarchy dbd.types → (bytes : List ℕ) (rows : Option (List Row)) → rows ≡ rows_of_bytes dbd bytes → MaySlot dbd rows
rows_slot dbd all bytes None e = tt
rows_slot dbd all bytes (Some []) e = inl refl
rows_slot dbd all bytes (Some (row ∷ rows)) e =
    let spells = (rows_spell dbd all bytes (row ∷ rows) (sym e)).some (λ none. let clash : row ∷ rows ≡ [] = none in absurd (cc)) in
    inr (subst (λ root. Rattle.model_data.specs.Record.IsRecord dbd root (row ∷ rows)) (sym (record_image_root dbd.types spells.root (row ∷ rows) spells.valid.whole)) spells.valid)

-- what the given slots say of a number, and of later ones
pub record IsAhead (number : ℕ) (given rest : List (ℕ × List ℕ)) : Type 0 where
  pub same : (m : ℕ) → number ≤ m → given_to m given ≡ given_to m rest
  pub from : AllByRecursion (λ s. number ≤ s.0) rest
  pub ascends : Ascends rest

all_from : (given : List (ℕ × List ℕ)) → AllByRecursion (λ s. 0 ≤ s.0) given
all_from [] = tt
all_from (s ∷ given) = (omega arith, all_from given)

pub ahead_begins : (given : List (ℕ × List ℕ)) → Ascends given → IsAhead 0 given given
ahead_begins given h = record { same = λ m le. refl; from = all_from given; ascends = h }

later : (n : ℕ) (slots : List (ℕ × List ℕ)) → AllByRecursion (λ m. nat_cmp n m ≡ Less) (keys_of slots) → AllByRecursion (λ s. suc n ≤ s.0) slots
later n [] h = tt
later n (s ∷ slots) h = let up : n < s.0 = ranked n s.0 Less (sym h.0) in (omega (arith, up), later n slots h.1)

not_given : (n : ℕ) (slots : List (ℕ × List ℕ)) → AllByRecursion (λ s. suc n ≤ s.0) slots → given_to n slots ≡ None
not_given n [] h = refl
not_given n (s ∷ slots) h =
    ap (λ b. option_map (λ (x : ℕ × List ℕ). x.1) (cond b (Some s) (find (λ x. eqb x.0 n) slots))) (ne_eqb s.0 n (λ e. omega (arith, e, h.0))) ∙ not_given n slots h.1

weaker : (m n : ℕ) (slots : List (ℕ × List ℕ)) → m ≤ n → AllByRecursion (λ s. n ≤ s.0) slots → AllByRecursion (λ s. m ≤ s.0) slots
weaker m n [] le h = tt
weaker m n (s ∷ slots) le h = (omega (arith, le, h.0), weaker m n slots le h.1)

sorted_rest : (s : ℕ × List ℕ) (slots : List (ℕ × List ℕ)) → Ascends (s ∷ slots) → AllByRecursion (λ x. suc s.0 ≤ x.0) slots × Ascends slots
unfolding IsStrictlySortedBy
sorted_rest s slots h = (later s.0 slots h.0, h.1)

skip_first : (s : ℕ × List ℕ) (slots : List (ℕ × List ℕ)) (m : ℕ) → (s.0 ≡ m → ⊥) → given_to m (s ∷ slots) ≡ given_to m slots
skip_first s slots m ne = ap (λ b. option_map (λ (x : ℕ × List ℕ). x.1) (cond b (Some s) (find (λ x. eqb x.0 m) slots))) (ne_eqb s.0 m ne)

pub ahead_head : (number : ℕ) (given rest : List (ℕ × List ℕ)) → IsAhead number given rest → given_to number given ≡ head_given number rest
ahead_head number given [] h = h.same number (omega arith)
ahead_head number given (s ∷ rest) h = h.same number (omega arith) ∙ by (eqb s.0 number) refl
  where
    by : (b : Bool) → eqb s.0 number ≡ b → given_to number (s ∷ rest) ≡ head_given number (s ∷ rest)
    by true q =
        ap (λ b. option_map (λ (x : ℕ × List ℕ). x.1) (cond b (Some s) (find (λ x. eqb x.0 number) rest))) q
        ∙ sym (ap (λ b. cond b (Some s.1) None) q)
    by false q =
        let more : suc number ≤ s.0 = omega (arith, h.from.0, eqb-false s.0 number q) in
        let parts = sorted_rest s rest h.ascends in
        skip_first s rest number (eqb-false s.0 number q)
        ∙ (not_given number rest (weaker (suc number) (suc s.0) rest (omega (arith, more)) parts.0)
        ∙ sym (ap (λ b. cond b (Some s.1) None) q))

pub ahead_next : (number : ℕ) (given rest : List (ℕ × List ℕ)) → IsAhead number given rest → IsAhead (number + 1) given (given_behind number rest)
ahead_next number given [] h = record { same = λ m le. h.same m (omega (arith, le)); from = tt; ascends = h.ascends }
ahead_next number given (s ∷ rest) h = by (eqb s.0 number) refl
  where
    goes : Bool → List (ℕ × List ℕ)
    goes b = cond b rest (s ∷ rest)

    by : (b : Bool) → eqb s.0 number ≡ b → IsAhead (number + 1) given (goes (eqb s.0 number))
    by true q =
        let here : s.0 ≡ number = eqb-true s.0 number q in
        let parts = sorted_rest s rest h.ascends in
        subst (λ b. IsAhead (number + 1) given (goes b)) (sym q) (record {
          same = λ m le. h.same m (omega (arith, le)) ∙ skip_first s rest m (λ e. omega (arith, e, here, le));
          from = weaker (number + 1) (suc s.0) rest (omega (arith, here)) parts.0;
          ascends = parts.1;
        })
    by false q =
        let more : number + 1 ≤ s.0 = omega (arith, h.from.0, eqb-false s.0 number q) in
        let parts = sorted_rest s rest h.ascends in
        subst (λ b. IsAhead (number + 1) given (goes b)) (sym q) (record {
          same = λ m le. h.same m (omega (arith, le));
          from = (more, weaker (number + 1) (suc s.0) rest (omega (arith, more)) parts.0);
          ascends = h.ascends;
        })

-- all that holds of the given ones holds of those behind
pub behind_all : (P : ℕ × List ℕ → Type 0) (number : ℕ) (rest : List (ℕ × List ℕ)) → AllByRecursion P rest → AllByRecursion P (given_behind number rest)
behind_all P number [] h = tt
behind_all P number (s ∷ rest) h =
    elim (eqb s.0 number) as (λ b. AllByRecursion P (cond b rest (s ∷ rest))) [
      | true ↦ h.1
      | false ↦ h
    ]

-- a slot that is given is spelled by what it is given
pub head_image : (P : List ℕ → Type 0) (number : ℕ) (rest : List (ℕ × List ℕ)) → AllByRecursion (λ s. P s.1) rest → Rattle.std.specs.Option.IfSome (head_given number rest) P
head_image P number [] h = tt
head_image P number (s ∷ rest) h =
    elim (eqb s.0 number) as (λ b. Rattle.std.specs.Option.IfSome (cond b (Some s.1) None) P) [
      | true ↦ h.0
      | false ↦ tt
    ]

-- the slots from one on
pub left_next : (f : ℕ → SlotOnImage) (roots number : ℕ) → number < roots → slots_by f (roots - number) number ≡ f number ∷ slots_by f (roots - (number + 1)) (number + 1)
left_next f roots number lt = ap (λ n. slots_by f n number) count
  where
    count : roots - number ≡ suc (roots - (number + 1))
    count = omega (arith, lt)

pub left_none : (f : ℕ → SlotOnImage) (roots number : ℕ) → roots ≤ number → slots_by f (roots - number) number ≡ []
left_none f roots number le = ap (λ n. slots_by f n number) count
  where
    count : roots - number ≡ 0
    count = omega (arith, le)

-- what is read so far, and what the slots still to come add
pub record IsReadTo (all left : List SlotOnImage) (images : List (List Row)) (broken : Option ℕ) : Type 0 where
  pub right : first_wrong all ≡ first_wrong left
  pub no_record : first_no_record all ≡ option_or broken (first_no_record left)
  pub each : map slot_rows all ≡ images ++ map slot_rows left

pub read_begins : (all : List SlotOnImage) → IsReadTo all all [] None
read_begins all = record { right = refl; no_record = refl; each = refl }

pub read_more : (all left : List SlotOnImage) (slot : SlotOnImage) (images : List (List Row)) (broken : Option ℕ) (rows : Option (List Row)) → IsReadTo all (slot ∷ left) images broken
    → IsSlotRows slot.dbd slot.source slot.place rows → IsReadTo all left (images ++ unwrap_or rows [] ∷ []) (option_or broken (cond (is_some rows) None (Some slot.place)))
read_more all left slot images broken rows h s = record {
  right = h.right ∙ ap (λ o. option_or o (first_wrong left)) s.right;
  no_record = h.no_record ∙ (ap (λ b. option_or broken (place_in (cond b (Some slot) (find has_no_record left)))) s.none ∙ by broken rows);
  each = h.each ∙ (ap (λ o. images ++ unwrap_or o [] ∷ map slot_rows left) s.spelled ∙ sym (append_assoc images (unwrap_or rows [] ∷ []) (map slot_rows left)));
}
  where
    by : (b : Option ℕ) (r : Option (List Row)) → option_or b (place_in (cond (not (is_some r)) (Some slot) (find has_no_record left)))
        ≡ option_or (option_or b (cond (is_some r) None (Some slot.place))) (place_in (find has_no_record left))
    by None None = refl
    by None (Some rs) = refl
    by (Some p) None = refl
    by (Some p) (Some rs) = refl

-- a wrong sector of a slot is the first
pub read_wrong : (all left : List SlotOnImage) (slot : SlotOnImage) (images : List (List Row)) (broken : Option ℕ) → IsReadTo all (slot ∷ left) images broken → (sector : ℕ) → wrong_in slot.place slot.source ≡ Some sector
    → first_wrong all ≡ Some sector
read_wrong all left slot images broken h sector e = h.right ∙ ap (λ o. option_or o (first_wrong left)) e

-- before the first slot
pub read_starts : (image : Image) (dbd : Dbd) (first : ℕ) (given : List (ℕ × List ℕ)) → IsReadTo (image_slots_in image dbd first given) (slots_by (slot_from image dbd first given) (dbd.roots - 0) 0) [] None
unfolding image_slots_in
read_starts image dbd first given =
    subst (λ n. IsReadTo (slots_by (slot_from image dbd first given) dbd.roots 0) (slots_by (slot_from image dbd first given) n 0) [] None) count
    (read_begins (slots_by (slot_from image dbd first given) dbd.roots 0))
  where
    count : dbd.roots ≡ dbd.roots - 0
    count = omega arith

-- behind the last
pub read_ends : (all : List SlotOnImage) (f : ℕ → SlotOnImage) (roots number : ℕ) (images : List (List Row)) (broken : Option ℕ) → roots ≤ number → IsReadTo all (slots_by f (roots - number) number) images broken → IsReadTo all [] images broken
read_ends all f roots number images broken le h = subst (λ left. IsReadTo all left images broken) (left_none f roots number le) h

-- the source of a slot that is read
module _ (old mid : Image) (dbd : Dbd) (first number at : ℕ) (given rest : List (ℕ × List ℕ)) (bytes : Option (List ℕ)) (head : bytes ≡ head_given number rest) (ahead : IsAhead number given rest) (same : mid ≡ old) (place : at ≡ first + number * dbd.sectors) where
  source_is : source_of bytes (sectors_from mid at dbd.sectors) ≡ (slot_from old dbd first given number).source
  source_is = λ i. source_of ((head ∙ sym (ahead_head number given rest ahead)) i) (sectors_from (same i) (place i) dbd.sectors)

  pub rows_here : (rows : Option (List Row)) → IsSlotRows dbd (source_of bytes (sectors_from mid at dbd.sectors)) at rows → IsSlotRows dbd (slot_from old dbd first given number).source (first + number * dbd.sectors) rows
  rows_here rows h =
      subst (λ p. IsSlotRows dbd (slot_from old dbd first given number).source p rows) place
      (subst (λ (s : Source). IsSlotRows dbd s at rows) source_is h)

  pub wrong_here : (fault : LoadFault) (all left : List SlotOnImage) (images : List (List Row)) (broken : Option ℕ) → TellsSlot (Err fault) dbd (source_of bytes (sectors_from mid at dbd.sectors)) at
      → IsReadTo all (slot_from old dbd first given number ∷ left) images broken → TellsRead (Err fault) all
  wrong_here (faults.Bad rule sector) all left images broken t h =
      (read_wrong all left (slot_from old dbd first given number) images broken h sector ((λ i. wrong_in (sym place i) (sym source_is i)) ∙ t.0), t.1)
  wrong_here faults.Disk all left images broken t h = tt
  wrong_here faults.Memory all left images broken t h = tt

pub slot_or : (dbd : Dbd) (rows : Option (List Row)) → MaySlot dbd rows → IsSlot dbd (unwrap_or rows [])
slot_or dbd None h = inl refl
slot_or dbd (Some rows) h = h

pub read_next : (all left : List SlotOnImage) (slot : SlotOnImage) (images : List (List Row)) (broken : Option ℕ) (rows : Option (List Row)) → IsReadTo all (slot ∷ left) images broken → IsSlotRows slot.dbd slot.source slot.place rows
    → (image : List Row) (images' : List (List Row)) (broken' : Option ℕ) → images' ≡ images ++ image ∷ [] → image ≡ unwrap_or rows [] → broken' ≡ option_or broken (cond (is_some rows) None (Some slot.place))
    → IsReadTo all left images' broken'
read_next all left slot images broken rows h s image images' broken' pushed image_is broken_is =
    subst (λ (b : Option ℕ). IsReadTo all left images' b) (sym broken_is)
    (subst (λ (xs : List (List Row)). IsReadTo all left xs (option_or broken (cond (is_some rows) None (Some slot.place)))) (sym (pushed ∙ ap (λ (x : List Row). images ++ x ∷ []) image_is))
    (read_more all left slot images broken rows h s))
