-- Stores in which the image in one slot has changed.
use Rattle.std.proofs.Common.{◌≡◌, ◌≢◌, ℕ, ◌-◌, ◌<◌, ◌≤◌, ◌∷◌, [], List, length, map, zero, suc, refl, sym, ◌∙◌, ap, subst, Some, arith, get_or, set, ◌⊎◌, inl, inr, ⊎_elim}
use Rattle.std.specs.List.{AllByRecursion, slice_get}
use Rattle.std.specs.Option.{option_map_or}
use Rattle.std.proofs.lemmas.Bool.{cases_eq}
use Rattle.std.proofs.lemmas.List.{length-set}
use Rattle.std.proofs.lemmas.Option.{slice_get_within, slice_get-get_or}
use Rattle.model_data.specs.declared.row.Row.{Row}
use Rattle.seg_store.specs.Slots.{Stored}
use Rattle.unit_work.specs.declared.change.Change.{Change}
use Rattle.unit_work.specs.BackOut.{backed_out}
use Rattle.unit_work.proofs.Backing.{get_set_same, get_set_other}
use Rattle.program_rows.specs.OpenUnits.{backed_all}
use Rattle.unit_work.specs.Images.{slots_of_database, image_at}
use Rattle.program_rows.proofs.Slotwise.{back, backed_is, image_at_each}
use Rattle.program_rows.proofs.Beside.{IsIdle, idle_back}
use Rattle.program_rows.proofs.Aside.{ChangesAside, slots_there}
use Rattle.program_rows.proofs.Backed.{backed_dbds, backed_lengths}
use Rattle.program_rows.proofs.Seen.{get_put, get_put_else}

-- the same databases and as many slots; one slot of the database of this number has another image
pub record OneSlot (number slot : ℕ) (was image : List Row) (old new : List Stored) : Type 0 where
  pub least : 1 ≤ number
  pub within : slot < length (slots_of_database number old)
  pub before : image_at number slot old ≡ was
  pub dbds : map (λ (s : Stored). s.dbd) new ≡ map (λ (s : Stored). s.dbd) old
  pub lengths : (db : ℕ) → 1 ≤ db → length (slots_of_database db new) ≡ length (slots_of_database db old)
  pub here : image_at number slot new ≡ image
  pub else : (db m : ℕ) → 1 ≤ db → (db ≡ number → m ≡ slot → ⊥) → image_at db m new ≡ image_at db m old

-- stores after a set in the store of a number
dbds_put : (stores : List Stored) (i : ℕ) (s new : Stored) → slice_get stores i ≡ Some s → new.dbd ≡ s.dbd → map (λ (x : Stored). x.dbd) (set stores i new) ≡ map (λ (x : Stored). x.dbd) stores
dbds_put [] i s new e d = refl
dbds_put (x ∷ stores) zero s new e d =
    let same : Some x ≡ Some s = e in
    let parts : x ≡ s = cc in
    ap (λ y. y ∷ map (λ (y : Stored). y.dbd) stores) (d ∙ ap (λ (y : Stored). y.dbd) (sym parts))
dbds_put (x ∷ stores) (suc i) s new e d = ap (λ ys. x.dbd ∷ ys) (dbds_put stores i s new e d)

module _ (number slot : ℕ) (was image : List Row) (stores : List Stored) (s new : Stored) (least : 1 ≤ number) (at : slice_get stores (number - 1) ≡ Some s)
    (there : slice_get s.slots slot ≡ Some was) (dbd : new.dbd ≡ s.dbd) (slots : new.slots ≡ set s.slots slot image) where
  put_here : slots_of_database number (set stores (number - 1) new) ≡ set s.slots slot image
  put_here =
      ap (λ o. option_map_or (λ (x : Stored). x.slots) o []) (get_set_same stores (number - 1) new (slice_get_within stores (number - 1) s at)) ∙ slots

  put_else : (db : ℕ) → 1 ≤ db → db ≢ number → slots_of_database db (set stores (number - 1) new) ≡ slots_of_database db stores
  put_else db some other =
      ap (λ o. option_map_or (λ (x : Stored). x.slots) o []) (get_set_other stores (number - 1) (db - 1) new (λ e. other (omega (arith, least, some, e))))

  pub slot_put : OneSlot number slot was image stores (set stores (number - 1) new)
  slot_put =
      let inside : slot < length s.slots = slice_get_within s.slots slot was there in
      record {
        least = least;
        within = subst (λ xs. slot < length xs) (sym (slots_there number stores s at)) inside;
        before = ap (λ xs. get_or xs slot []) (slots_there number stores s at) ∙ (let both : Some (get_or s.slots slot []) ≡ Some was = sym (slice_get-get_or s.slots slot [] inside) ∙ there in cc);
        dbds = dbds_put stores (number - 1) s new at dbd;
        lengths = λ db some.
            ⊎_elim
            (λ same. subst (λ n. length (slots_of_database n (set stores (number - 1) new)) ≡ length (slots_of_database n stores)) (sym same)
            (ap length put_here ∙ (length-set s.slots slot image ∙ ap length (sym (slots_there number stores s at)))))
            (λ other. ap length (put_else db some other)) (cases_eq db number);
        here = ap (λ xs. get_or xs slot []) put_here ∙ get_put s.slots slot image [] inside;
        else = λ db m some apart.
            ⊎_elim
            (λ same. subst (λ n. image_at n m (set stores (number - 1) new) ≡ image_at n m stores) (sym same)
            (ap (λ xs. get_or xs m []) put_here ∙ (get_put_else s.slots slot m image [] (apart same) ∙ ap (λ xs. get_or xs m []) (sym (slots_there number stores s at)))))
            (λ other. ap (λ xs. get_or xs m []) (put_else db some other)) (cases_eq db number);
      }

module _ (number slot : ℕ) (was image : List Row) (old new : List Stored) (one : OneSlot number slot was image old new) where
  -- aside of a unit that is idle there
  pub one_aside : (records : List Change) → IsIdle records number slot was → IsIdle records number slot image → ChangesAside records old new
  one_aside records idle_was idle_image =
      record {
        dbds = one.dbds;
        lengths = one.lengths;
        images = λ db m some lt.
            ⊎_elim
            (λ same. ⊎_elim
            (λ place. inr (
              subst (λ n. IsIdle records n m (image_at n m old)) (sym same) (subst (λ k. IsIdle records number k (image_at number k old)) (sym place) (subst (IsIdle records number slot) (sym one.before) idle_was)),
              subst (λ n. IsIdle records n m (image_at n m new)) (sym same) (subst (λ k. IsIdle records number k (image_at number k new)) (sym place) (subst (IsIdle records number slot) (sym one.here) idle_image)),
            ))
            (λ apart. inl (one.else db m some (λ d p. apart p))) (cases_eq m slot))
            (λ other. inl (one.else db m some (λ d p. other d))) (cases_eq db number);
      }

  -- and still so once such a unit is backed out of both
  pub one_back : (records : List Change) → IsIdle records number slot was → IsIdle records number slot image → OneSlot number slot was image (backed_out records old) (backed_out records new)
  one_back records idle_was idle_image =
      record {
        least = one.least;
        within = omega (arith, one.within, backed_lengths old records number one.least);
        before = ap (image_at number slot) (backed_is records old)
            ∙ (image_at_each (back records) number slot old one.least one.within ∙ (ap (back records number slot) one.before ∙ idle_back records number slot was idle_was));
        dbds = backed_dbds records new ∙ (one.dbds ∙ sym (backed_dbds records old));
        lengths = λ db some. backed_lengths new records db some ∙ (one.lengths db some ∙ sym (backed_lengths old records db some));
        here = ap (image_at number slot) (backed_is records new)
            ∙ (image_at_each (back records) number slot new one.least (omega (arith, one.within, one.lengths number one.least)) ∙ (ap (back records number slot) one.here ∙ idle_back records number slot image idle_image));
        else = else;
      }
    where
      in_range : (m n : ℕ) → (m < n) ⊎ (n ≤ m)
      in_range m zero = inr (omega arith)
      in_range zero (suc n) = inl (omega arith)
      in_range (suc m) (suc n) = ⊎_elim (λ lt. inl (omega (arith, lt))) (λ le. inr (omega (arith, le))) (in_range m n)

      past : (xs : List (List Row)) (m : ℕ) → length xs ≤ m → get_or xs m [] ≡ []
      past [] m le = refl
      past (x ∷ xs) zero le = absurd (omega arith)
      past (x ∷ xs) (suc m) le = past xs m (omega arith)

      else : (db m : ℕ) → 1 ≤ db → (db ≡ number → m ≡ slot → ⊥) → image_at db m (backed_out records new) ≡ image_at db m (backed_out records old)
      else db m some apart =
          ⊎_elim
          (λ lt.
          ap (image_at db m) (backed_is records new)
          ∙ (image_at_each (back records) db m new some (omega (arith, lt, one.lengths db some))
          ∙ (ap (back records db m) (one.else db m some apart) ∙ sym (ap (image_at db m) (backed_is records old) ∙ image_at_each (back records) db m old some lt))))
          (λ le.
          past (slots_of_database db (backed_out records new)) m (omega (arith, le, one.lengths db some, backed_lengths new records db some))
          ∙ sym (past (slots_of_database db (backed_out records old)) m (omega (arith, le, backed_lengths old records db some)))) (in_range m (length (slots_of_database db old)))

-- once all these units are backed out of both, that are idle there
pub one_all : (number slot : ℕ) (was image : List Row) (old new : List Stored) (units : List (List Change)) → OneSlot number slot was image old new
    → AllByRecursion (λ a. IsIdle a number slot was × IsIdle a number slot image) units → OneSlot number slot was image (backed_all units old) (backed_all units new)
one_all number slot was image old new [] one idle = one
one_all number slot was image old new (a ∷ units) one idle =
    one_back number slot was image (backed_all units old) (backed_all units new) (one_all number slot was image old new units one idle.1) a idle.0.0 idle.0.1
