-- Stores without the changed records, and with those that were there put back.
use Rattle.std.proofs.Common.{◌≡◌, ◌≢◌, ℕ, ◌+◌, ◌-◌, ◌≤◌, ◌<◌, ◌++◌, ◌∷◌, [], List, length, zero, suc, refl, sym, ◌∙◌, ap, Bool, true, false, cond, Option, None, Some, arith, get_or, set, drop, subst, ◌||◌, ◌&&◌, not, eqb, inl, inr, ⊎_elim}
use Rattle.std.specs.List.{AllByRecursion, slice_get}
use Rattle.std.specs.Ordering.{is_eq}
use Rattle.std.proofs.lemmas.Bool.{false≢true, eq-eqb, ne_eqb, cases_eq}
use Rattle.std.proofs.lemmas.List.{length-set}
use Rattle.std.proofs.lemmas.Option.{slice_get_within}
use Rattle.model_data.specs.declared.row.Row.{Row}
use Rattle.model_data.specs.Path.{key_cmp}
use Rattle.model_data.proofs.Lists.{all_then, all_front, all_back}
use Rattle.seg_store.specs.Slots.{Stored, has_root, is_slot_free, without_root}
use Rattle.seg_store.proofs.Places as places
use Rattle.seg_store.proofs.SlotRows.{rooted, record_has, set_itself}
use Rattle.unit_work.specs.declared.change.Change.{Change}
use Rattle.unit_work.specs.Changes.{AreOther, AreRecordsOnce, Pairs}
use Rattle.unit_work.specs.BackOut.{is_touched, was_in, backed_slot, cleared_slot, cleared_slots, backed_slots, cleared_from, backed_from, cleared, IsStored, FitsStore, FitsOption, CanGoBack, AreInOtherSlots, with_image_back, with_back, with_record_back}
use Rattle.unit_work.proofs.Keeping.{pairs_last}

-- an element after a change of one
pub get_set_other : {A : Type 0} (xs : List A) (i k : ℕ) (x : A) → k ≢ i → slice_get (set xs i x) k ≡ slice_get xs k
get_set_other [] i k x other = refl
get_set_other (y ∷ xs) zero zero x other = absurd (other refl)
get_set_other (y ∷ xs) zero (suc k) x other = refl
get_set_other (y ∷ xs) (suc i) zero x other = refl
get_set_other (y ∷ xs) (suc i) (suc k) x other = get_set_other xs i k x (λ e. other (ap (λ n. suc n) e))

pub get_set_same : {A : Type 0} (xs : List A) (i : ℕ) (x : A) → i < length xs → slice_get (set xs i x) i ≡ Some x
get_set_same [] i x h = absurd (omega arith)
get_set_same (y ∷ xs) zero x h = refl
get_set_same (y ∷ xs) (suc i) x h = get_set_same xs i x (omega arith)

-- nothing is cleared where nothing is changed
none_cleared_slots : (db : ℕ) (slots : List (List Row)) → cleared_slots [] db slots ≡ slots
none_cleared_slots db [] = refl
none_cleared_slots db (image ∷ slots) = ap (λ xs. image ∷ xs) (none_cleared_slots db slots)

pub none_cleared : (n : ℕ) (stores : List Stored) → cleared_from [] n stores ≡ stores
none_cleared n [] = refl
none_cleared n (s ∷ stores) = λ t. record { dbd = s.dbd; slots = none_cleared_slots n s.slots t } ∷ none_cleared (suc n) stores t

-- one change more, in a database of another number
other_touched : (c : Change) (rest : List Change) (db : ℕ) (image : List Row) → c.db ≢ db → is_touched (c ∷ rest) db image ≡ is_touched rest db image
other_touched c rest db image other = ap (λ b. (b && has_root c.root image) || is_touched rest db image) (ne_eqb c.db db other)

other_slots : (c : Change) (rest : List Change) (db : ℕ) (slots : List (List Row)) → c.db ≢ db → cleared_slots (c ∷ rest) db slots ≡ cleared_slots rest db slots
other_slots c rest db [] other = refl
other_slots c rest db (image ∷ slots) other =
    λ t. cond (other_touched c rest db image other t) [] image ∷ other_slots c rest db slots other t

later_stores : (c : Change) (rest : List Change) (n : ℕ) (stores : List Stored) → c.db < n → cleared_from (c ∷ rest) n stores ≡ cleared_from rest n stores
later_stores c rest n [] lt = refl
later_stores c rest n (s ∷ stores) lt =
    λ t. record { dbd = s.dbd; slots = other_slots c rest n s.slots (λ e. absurd (omega arith)) t } ∷ later_stores c rest (suc n) stores (omega arith) t

-- in the database of the change its record goes first
pub nothing_touched : (rest : List Change) (db : ℕ) → is_touched rest db [] ≡ false
nothing_touched [] db = refl
nothing_touched (c ∷ rest) db = by (eqb c.db db) (nothing_touched rest db)
  where
    by : (b : Bool) → is_touched rest db [] ≡ false → (b && false) || is_touched rest db [] ≡ false
    by true e = e
    by false e = e

own_slot : (c : Change) (rest : List Change) (db : ℕ) (image : List Row) → c.db ≡ db
    → cleared_slot (c ∷ rest) db image ≡ cleared_slot rest db (cond (has_root c.root image) [] image)
own_slot c rest db image e =
    ap (λ b. cond ((b && has_root c.root image) || is_touched rest db image) [] image) (eq-eqb c.db db e)
    ∙ by (has_root c.root image)
  where
    by : (b : Bool) → cond ((true && b) || is_touched rest db image) [] image ≡ cleared_slot rest db (cond b [] image)
    by true = sym (ap (λ b. cond b [] []) (nothing_touched rest db))
    by false = refl

own_slots : (c : Change) (rest : List Change) (db : ℕ) (slots : List (List Row)) → c.db ≡ db → cleared_slots (c ∷ rest) db slots ≡ cleared_slots rest db (without_root c.root slots)
own_slots c rest db [] e = refl
own_slots c rest db (image ∷ slots) e = λ t. own_slot c rest db image e t ∷ own_slots c rest db slots e t

pub step_cleared : (c : Change) (rest : List Change) (n i : ℕ) (stores : List Stored) (s new : Stored) → c.db ≡ n + i → slice_get stores i ≡ Some s
    → new.dbd ≡ s.dbd → new.slots ≡ without_root c.root s.slots → cleared_from rest n (set stores i new) ≡ cleared_from (c ∷ rest) n stores
step_cleared c rest n i [] s new e g d w = let clash : None ≡ Some s = g in absurd (cc)
step_cleared c rest n zero (t ∷ stores) s new e g d w =
    let same : Some t ≡ Some s = g in
    let parts : t ≡ s = cc in
    let own : cleared_slots rest n new.slots ≡ cleared_slots (c ∷ rest) n t.slots =
    ap (cleared_slots rest n) (w ∙ ap (λ (x : Stored). without_root c.root x.slots) (sym parts)) ∙ sym (own_slots c rest n t.slots (omega arith)) in
    let dbd : new.dbd ≡ t.dbd = d ∙ ap (λ (x : Stored). x.dbd) (sym parts) in
    λ k. record { dbd = dbd k; slots = own k } ∷ sym (later_stores c rest (suc n) stores (omega arith)) k
step_cleared c rest n (suc i) (t ∷ stores) s new e g d w =
    λ k. record { dbd = t.dbd; slots = sym (other_slots c rest n t.slots (λ q. absurd (omega arith))) k } ∷ step_cleared c rest (suc n) i stores s new (omega arith) g d w k

-- one more that was there: at the end of the list, and then in the store
last_slot : (front : List Change) (c : Change) (db n : ℕ) (image : List Row) → backed_slot (front ++ c ∷ []) db n image ≡ backed_slot front db n (cond (was_in db n c) c.before image)
last_slot [] c db n image = refl
last_slot (x ∷ front) c db n image = ap (λ r. cond (was_in db n x) x.before r) (last_slot front c db n image)

not_there : (front : List Change) (c : Change) (db n : ℕ) (slots : List (List Row)) → ((m : ℕ) → n ≤ m → was_in db m c ≡ false) → backed_slots (front ++ c ∷ []) db n slots ≡ backed_slots front db n slots
not_there front c db n [] h = refl
not_there front c db n (image ∷ slots) h =
    λ t. (last_slot front c db n image ∙ ap (λ b. backed_slot front db n (cond b c.before image)) (h n (omega arith))) t
    ∷ not_there front c db (suc n) slots (λ m le. h m (omega arith)) t

was_other_db : (c : Change) (db m : ℕ) → c.db ≢ db → was_in db m c ≡ false
was_other_db c db m other = ap (λ b. b && (eqb c.slot m && not (is_slot_free c.before))) (ne_eqb c.db db other)

was_other_slot : (c : Change) (db m : ℕ) → c.slot ≢ m → was_in db m c ≡ false
was_other_slot c db m other = ap (λ b. eqb c.db db && (b && not (is_slot_free c.before))) (ne_eqb c.slot m other) ∙ by (eqb c.db db)
  where
    by : (b : Bool) → (b && (false && not (is_slot_free c.before))) ≡ false
    by true = refl
    by false = refl

pub was_not_there : (c : Change) (db m : ℕ) → is_slot_free c.before ≡ true → was_in db m c ≡ false
was_not_there c db m free = ap (λ b. eqb c.db db && (eqb c.slot m && not b)) free ∙ by (eqb c.db db) (eqb c.slot m)
  where
    by : (a b : Bool) → (a && (b && false)) ≡ false
    by true true = refl
    by true false = refl
    by false b = refl

pub was_there : (c : Change) (db m : ℕ) → c.db ≡ db → c.slot ≡ m → is_slot_free c.before ≡ false → was_in db m c ≡ true
was_there c db m d s t = λ k. eq-eqb c.db db d k && (eq-eqb c.slot m s k && not (t k))

own_back : (front : List Change) (c : Change) (db n i : ℕ) (slots : List (List Row)) → c.db ≡ db → c.slot ≡ n + i → is_slot_free c.before ≡ false → i < length slots
    → backed_slots (front ++ c ∷ []) db n slots ≡ backed_slots front db n (set slots i c.before)
own_back front c db n i [] d e t lt = absurd (omega arith)
own_back front c db n zero (image ∷ slots) d e t lt =
    let here : c.slot ≡ n = omega arith in
    λ k. (last_slot front c db n image ∙ ap (λ b. backed_slot front db n (cond b c.before image)) (was_there c db n d here t)) k
    ∷ not_there front c db (suc n) slots (λ m le. was_other_slot c db m (λ q. absurd (omega arith))) k
own_back front c db n (suc i) (image ∷ slots) d e t lt =
    λ k. (last_slot front c db n image ∙ ap (λ b. backed_slot front db n (cond b c.before image)) (was_other_slot c db n (λ q. absurd (omega arith)))) k
    ∷ own_back front c db (suc n) i slots d (omega arith) t (omega arith) k

stores_not_there : (front : List Change) (c : Change) (n : ℕ) (stores : List Stored) → ((db m : ℕ) → n ≤ db → was_in db m c ≡ false) → backed_from (front ++ c ∷ []) n stores ≡ backed_from front n stores
stores_not_there front c n [] h = refl
stores_not_there front c n (s ∷ stores) h =
    λ k. record { dbd = s.dbd; slots = not_there front c n 0 s.slots (λ m le. h n m (omega arith)) k } ∷ stores_not_there front c (suc n) stores (λ db m le. h db m (omega arith)) k

stores_back : (front : List Change) (c : Change) (n i : ℕ) (stores : List Stored) (s : Stored) → c.db ≡ n + i → slice_get stores i ≡ Some s → is_slot_free c.before ≡ false → c.slot < length s.slots
    → backed_from (front ++ c ∷ []) n stores ≡ backed_from front n (set stores i (record { dbd = s.dbd; slots = set s.slots c.slot c.before }))
stores_back front c n i [] s e g t lt = let clash : None ≡ Some s = g in absurd (cc)
stores_back front c n zero (x ∷ stores) s e g t lt =
    let same : Some x ≡ Some s = g in
    let parts : s ≡ x = cc in
    let at : c.slot ≡ 0 + c.slot = omega arith in
    subst (λ (y : Stored). record { dbd = x.dbd; slots = backed_slots (front ++ c ∷ []) n 0 x.slots } ∷ backed_from (front ++ c ∷ []) (suc n) stores
    ≡ record { dbd = y.dbd; slots = backed_slots front n 0 (set y.slots c.slot c.before) } ∷ backed_from front (suc n) stores) (sym parts)
    (λ k. record { dbd = x.dbd; slots = own_back front c n 0 c.slot x.slots (omega arith) at t (subst (λ (y : Stored). c.slot < length y.slots) parts lt) k }
    ∷ stores_not_there front c (suc n) stores (λ db m le. was_other_db c db m (λ q. absurd (omega arith))) k)
stores_back front c n (suc i) (x ∷ stores) s e g t lt =
    λ k. record { dbd = x.dbd; slots = not_there front c n 0 x.slots (λ m le. was_other_db c n m (λ q. absurd (omega arith))) k }
    ∷ stores_back front c (suc n) i stores s (omega arith) g t lt k

-- a record that wasn't there changes nothing
pub back_none : (c : Change) (stores : List Stored) → c.before ≡ [] → stores ≡ with_record_back c stores
back_none c stores none = by (slice_get stores (c.db - 1)) refl
  where
    by : (o : Option Stored) → slice_get stores (c.db - 1) ≡ o → stores ≡ with_back c (slice_get stores (c.db - 1)) stores
    by None e = sym (ap (λ o. with_back c o stores) e)
    by (Some s) e =
        let same : with_image_back c s ≡ s = ap (λ b. record { dbd = s.dbd; slots = cond b s.slots (set s.slots c.slot c.before) }) (ap is_slot_free none) in
        sym (ap (λ o. with_back c o stores) e ∙ (ap (set stores (c.db - 1)) same ∙ set_itself stores (c.db - 1) s e))

-- what putting back needs, of the records that are left
pub record CanPut (records : List Change) (stores : List Stored) : Type 0 where
  pub stored : AllByRecursion (IsStored stores) records
  pub fits : AllByRecursion (CanGoBack stores) records
  pub apart : Pairs AreInOtherSlots records
  pub once : AreRecordsOnce records

back_there : (c : Change) (stores : List Stored) (s : Stored) → slice_get stores (c.db - 1) ≡ Some s → is_slot_free c.before ≡ false
    → with_record_back c stores ≡ set stores (c.db - 1) (record { dbd = s.dbd; slots = set s.slots c.slot c.before })
back_there c stores s e t =
    ap (λ o. with_back c o stores) e ∙ ap (λ b. set stores (c.db - 1) (record { dbd = s.dbd; slots = cond b s.slots (set s.slots c.slot c.before) })) t

-- a change whose record goes back fits a store that is there
pub record GoesBack (stores : List Stored) (c : Change) : Type 0 where
  pub s : Stored
  pub at : slice_get stores (c.db - 1) ≡ Some s
  pub fits : FitsStore s c

goes_back : (stores : List Stored) (c : Change) → FitsOption (slice_get stores (c.db - 1)) c → GoesBack stores c
goes_back stores c h = by (slice_get stores (c.db - 1)) refl h
  where
    by : (o : Option Stored) → slice_get stores (c.db - 1) ≡ o → FitsOption o c → GoesBack stores c
    by None e f = absurd f
    by (Some s) e f = record { s = s; at = e; fits = f }

taken_goes : (stores : List Stored) (c : Change) → CanGoBack stores c → is_slot_free c.before ≡ false → GoesBack stores c
taken_goes stores c h t =
    ⊎_elim (λ e. absurd (false≢true (sym t ∙ ap is_slot_free e))) (λ f. goes_back stores c f) h

still_fits : (x c : Change) (s : Stored) → x.db ≡ c.db → FitsStore s x → FitsStore s c → AreInOtherSlots x c → AreOther x c → is_slot_free c.before ≡ false
    → FitsStore (record { dbd = s.dbd; slots = set s.slots c.slot c.before }) x
still_fits x c s d fx fc apart other t =
    let has : has_root c.root c.before ≡ true = record_has s.dbd.types c.root c.before fc.valid.whole in
    let turned : is_eq (key_cmp x.root c.root) ≡ false = sym (ap (λ b. b && is_eq (key_cmp x.root c.root)) (eq-eqb x.db c.db d)) ∙ other in
    record {
      valid = fx.valid;
      free = get_set_other s.slots c.slot x.slot c.before (λ e. fx.valid.whole.some (apart (was_there c x.db x.slot (sym d) (sym e) t))) ∙ fx.free;
      new = (places.set_apart (has_root x.root) s.slots c.slot [] c.before fc.free refl (rooted c.root c.before has x.root ∙ turned)).0 ∙ fx.new;
    }

can_stay : (x c : Change) (stores : List Stored) → IsStored stores x → IsStored stores c → CanGoBack stores x → CanGoBack stores c → AreInOtherSlots x c → AreOther x c
    → (b : Bool) → is_slot_free c.before ≡ b → CanGoBack (with_record_back c stores) x
can_stay x c stores sx sc hx hc apart other true t = subst (λ (ss : List Stored). CanGoBack ss x) (back_none c stores (free_none c.before t)) hx
  where
    free_none : (image : List Row) → is_slot_free image ≡ true → image ≡ []
    free_none [] e = refl
    free_none (row ∷ image) e = absurd (false≢true e)
can_stay x c stores sx sc hx hc apart other false t =
    let gc : GoesBack stores c = taken_goes stores c hc t in
    subst (λ (ss : List Stored). CanGoBack ss x) (sym (back_there c stores gc.s gc.at t))
    (⊎_elim (λ e. inl e) (λ f. inr (⊎_elim (λ same. here gc (goes_back stores x f) same) (λ apart'. there gc f apart') (cases_eq (x.db - 1) (c.db - 1)))) hx)
  where
    after : GoesBack stores c → List Stored
    after gc = set stores (c.db - 1) (record { dbd = gc.s.dbd; slots = set gc.s.slots c.slot c.before })

    there : (gc : GoesBack stores c) → FitsOption (slice_get stores (x.db - 1)) x → x.db - 1 ≢ c.db - 1 → FitsOption (slice_get (after gc) (x.db - 1)) x
    there gc f apart' = subst (λ (o : Option Stored). FitsOption o x) (sym (get_set_other stores (c.db - 1) (x.db - 1) _ apart')) f

    here : (gc : GoesBack stores c) → GoesBack stores x → x.db - 1 ≡ c.db - 1 → FitsOption (slice_get (after gc) (x.db - 1)) x
    here gc gx same =
        let d : x.db ≡ c.db = omega (arith, sx.least, sc.least) in
        let both : Some gx.s ≡ Some gc.s = sym gx.at ∙ (ap (slice_get stores) same ∙ gc.at) in
        let one : gx.s ≡ gc.s = cc in
        let fx : FitsStore gc.s x = subst (λ (s : Stored). FitsStore s x) one gx.fits in
        subst (λ (o : Option Stored). FitsOption o x)
        (sym (ap (slice_get (after gc)) same ∙ get_set_same stores (c.db - 1) _ (slice_get_within stores (c.db - 1) gc.s gc.at)))
        (still_fits x c gc.s d fx gc.fits apart other t)

back_length : (c : Change) (stores : List Stored) → length (with_record_back c stores) ≡ length stores
back_length c stores = by (slice_get stores (c.db - 1))
  where
    by : (o : Option Stored) → length (with_back c o stores) ≡ length stores
    by None = refl
    by (Some s) = length-set stores (c.db - 1) (with_image_back c s)

stays_stored : (x c : Change) (stores : List Stored) → IsStored stores x → IsStored (with_record_back c stores) x
stays_stored x c stores h = record { least = h.least; most = omega (arith, h.most, back_length c stores) }

-- the step: the last record goes back
pub next_back : (front : List Change) (c : Change) (stores : List Stored) → IsStored stores c → CanGoBack stores c → (b : Bool) → is_slot_free c.before ≡ b
    → backed_from (front ++ c ∷ []) 1 stores ≡ backed_from front 1 (with_record_back c stores)
next_back front c stores sc hc true t =
    stores_not_there front c 1 stores (λ db m le. was_not_there c db m t) ∙ ap (backed_from front 1) (back_none c stores (free_none c.before t))
  where
    free_none : (image : List Row) → is_slot_free image ≡ true → image ≡ []
    free_none [] e = refl
    free_none (row ∷ image) e = absurd (false≢true e)
next_back front c stores sc hc false t =
    let gc : GoesBack stores c = taken_goes stores c hc t in
    stores_back front c 1 (c.db - 1) stores gc.s (omega (arith, sc.least)) gc.at t (slice_get_within gc.s.slots c.slot [] gc.fits.free)
    ∙ ap (backed_from front 1) (sym (back_there c stores gc.s gc.at t))

-- three facts of each element give a fourth
all_four : (P Q R S T : Change → Type 0) (xs : List Change) → ((x : Change) → P x → Q x → R x → S x → T x) → AllByRecursion P xs → AllByRecursion Q xs → AllByRecursion R xs
    → AllByRecursion S xs → AllByRecursion T xs
all_four P Q R S T [] f p q r s = tt
all_four P Q R S T (x ∷ xs) f p q r s = (f x p.0 q.0 r.0 s.0, all_four P Q R S T xs f p.1 q.1 r.1 s.1)

pub last_stored : (front : List Change) (c : Change) (stores : List Stored) → CanPut (front ++ c ∷ []) stores → IsStored stores c
last_stored front c stores h = (all_back (IsStored stores) front (c ∷ []) h.stored).0

pub last_fits : (front : List Change) (c : Change) (stores : List Stored) → CanPut (front ++ c ∷ []) stores → CanGoBack stores c
last_fits front c stores h = (all_back (CanGoBack stores) front (c ∷ []) h.fits).0

pub put_next : (front : List Change) (c : Change) (stores : List Stored) → CanPut (front ++ c ∷ []) stores → CanPut front (with_record_back c stores)
put_next front c stores h =
    let apart = pairs_last AreInOtherSlots front c h.apart in
    let once = pairs_last AreOther front c h.once in
    let stored : AllByRecursion (IsStored stores) front = all_front (IsStored stores) front (c ∷ []) h.stored in
    record {
      stored = all_then (IsStored stores) (IsStored (with_record_back c stores)) front (λ x sx. stays_stored x c stores sx) stored;
      fits = all_four (IsStored stores) (CanGoBack stores) (λ x. AreInOtherSlots x c) (λ x. AreOther x c) (CanGoBack (with_record_back c stores)) front
          (λ x sx hx a o. can_stay x c stores sx (last_stored front c stores h) hx (last_fits front c stores h) a o (is_slot_free c.before) refl)
          stored (all_front (CanGoBack stores) front (c ∷ []) h.fits) apart.1 once.1;
      apart = apart.0;
      once = once.0;
    }

pub put_ahead : (front : List Change) (c : Change) (stores : List Stored) → CanPut (front ++ c ∷ []) stores
    → backed_from (front ++ c ∷ []) 1 stores ≡ backed_from front 1 (with_record_back c stores)
put_ahead front c stores h = next_back front c stores (last_stored front c stores h) (last_fits front c stores h) (is_slot_free c.before) refl

-- all have gone back
none_backed_slots : (db n : ℕ) (slots : List (List Row)) → backed_slots [] db n slots ≡ slots
none_backed_slots db n [] = refl
none_backed_slots db n (image ∷ slots) = ap (λ xs. image ∷ xs) (none_backed_slots db (suc n) slots)

pub none_backed : (n : ℕ) (stores : List Stored) → backed_from [] n stores ≡ stores
none_backed n [] = refl
none_backed n (s ∷ stores) = λ t. record { dbd = s.dbd; slots = none_backed_slots n 0 s.slots t } ∷ none_backed (suc n) stores t

pub empty_list : (xs : List Change) → length xs ≡ 0 → xs ≡ []
empty_list [] e = refl
empty_list (x ∷ xs) e = absurd (omega arith)

-- a fact of each element at a place
pub all_at : (P : Change → Type 0) (xs : List Change) (i : ℕ) (d : Change) → AllByRecursion P xs → i < length xs → P (get_or xs i d)
all_at P [] i d h lt = absurd (omega arith)
all_at P (x ∷ xs) zero d h lt = h.0
all_at P (x ∷ xs) (suc i) d h lt = all_at P xs i d h.1 (omega arith)

pub drop_past : (xs : List Change) (i : ℕ) → length xs ≤ i → drop i xs ≡ []
drop_past [] zero h = refl
drop_past [] (suc i) h = refl
drop_past (x ∷ xs) zero h = absurd (omega arith)
drop_past (x ∷ xs) (suc i) h = drop_past xs i (omega arith)

-- clearing leaves as many stores
pub cleared_length : (records : List Change) (n : ℕ) (stores : List Stored) → length (cleared_from records n stores) ≡ length stores
cleared_length records n [] = refl
cleared_length records n (s ∷ stores) = ap (λ m. suc m) (cleared_length records (suc n) stores)

pub still_stored : (records changed : List Change) (stores new : List Stored) → new ≡ cleared changed stores → AllByRecursion (IsStored stores) records → AllByRecursion (IsStored new) records
still_stored records changed stores new e h =
    all_then (IsStored stores) (IsStored new) records
    (λ x sx. record { least = sx.least; most = omega (arith, sx.most, ap length e, cleared_length changed 1 stores) }) h
