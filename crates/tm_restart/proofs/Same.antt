-- Slots of which the same is read.
use Rattle.std.proofs.Common.{◌≡◌, ℕ, zero, suc, ◌+◌, ◌<◌, Bool, true, false, not, ◌&&◌, ◌||◌, List, [], ◌∷◌, map, refl, ◌∙◌, ap, arith, Some, None, Ok}
use Rattle.std.specs.Prelude.{Option, if◌then◌else◌, find}
use Rattle.std.specs.Option.{option_or}
use Rattle.std.specs.List.{list_any}
use Rattle.model_data.specs.declared.row.Row.{Row}
use Rattle.seg_store.specs.Slots.{is_slot_free, image_root, has_root, rows_of_slots}
use Rattle.model_image.specs.Faults.{Fault, unless_fault}
use Rattle.model_image.specs.Slots.{SlotOnImage, slots_by, wrong_sector, has_no_record, slot_rows, have_one_root, first_shared, place_in, first_wrong, first_no_record, first_doubled, fault_of, first_in, slot_fault, rows_of_databases}

-- A slot breaks no rule that the other keeps, and has the same rows.
pub record SameSlot (s t : SlotOnImage) : Type 0 where
  pub wrong : wrong_sector s ≡ None → wrong_sector t ≡ None
  pub none : has_no_record s ≡ false → has_no_record t ≡ false
  pub rows : slot_rows t ≡ slot_rows s

abbrev pub AreSame : List SlotOnImage → List SlotOnImage → Type 0
AreSame [] [] = Unit {0}
AreSame (s ∷ ss) (t ∷ ts) = SameSlot s t × AreSame ss ts
AreSame [] (t ∷ ts) = ⊥
AreSame (s ∷ ss) [] = ⊥

abbrev pub AllSame : List (List SlotOnImage) → List (List SlotOnImage) → Type 0
AllSame [] [] = Unit {0}
AllSame (s ∷ ss) (t ∷ ts) = AreSame s t × AllSame ss ts
AllSame [] (t ∷ ts) = ⊥
AllSame (s ∷ ss) [] = ⊥

pub same_by : (f g : ℕ → SlotOnImage) (n number : ℕ) → ((k : ℕ) → k < number + n → SameSlot (f k) (g k)) → AreSame (slots_by f n number) (slots_by g n number)
same_by f g zero number same = tt
same_by f g (suc n) number same = (same number (omega arith), same_by f g n (number + 1) (λ k lt. same k (omega (arith, lt))))

-- ---- rules

kept_by : (b c : Bool) (s t : SlotOnImage) (rest other : Option SlotOnImage) → (b ≡ false → c ≡ false) → (rest ≡ None → other ≡ None) → (if b then Some s else rest) ≡ None → (if c then Some t else other) ≡ None
kept_by true c s t rest other one more e = cc
kept_by false c s t rest other one more e = ap (λ (x : Bool). if x then Some t else other) (one refl) ∙ more e

pub left_none : {A : Type 0} (a b : Option A) → option_or a b ≡ None → a ≡ None
left_none None b e = refl
left_none (Some x) b e = cc

pub right_none : {A : Type 0} (a b : Option A) → option_or a b ≡ None → b ≡ None
right_none None b e = e
right_none (Some x) b e = cc

wrong_none : (ss ts : List SlotOnImage) → AreSame ss ts → first_wrong ss ≡ None → first_wrong ts ≡ None
wrong_none [] [] same e = refl
wrong_none [] (t ∷ ts) same e = absurd same
wrong_none (s ∷ ss) [] same e = absurd same
wrong_none (s ∷ ss) (t ∷ ts) same e =
    ap (λ (o : Option ℕ). option_or o (first_wrong ts)) (same.0.wrong (left_none (wrong_sector s) (first_wrong ss) e))
    ∙ wrong_none ss ts same.1 (right_none (wrong_sector s) (first_wrong ss) e)

found_none : (ss ts : List SlotOnImage) → AreSame ss ts → find has_no_record ss ≡ None → find has_no_record ts ≡ None
found_none [] [] same e = refl
found_none [] (t ∷ ts) same e = absurd same
found_none (s ∷ ss) [] same e = absurd same
found_none (s ∷ ss) (t ∷ ts) same e = kept_by (has_no_record s) (has_no_record t) s t (find has_no_record ss) (find has_no_record ts) same.0.none (found_none ss ts same.1) e

pub no_place : (o : Option SlotOnImage) → place_in o ≡ None → o ≡ None
no_place None e = refl
no_place (Some s) e = cc

record_none : (ss ts : List SlotOnImage) → AreSame ss ts → first_no_record ss ≡ None → first_no_record ts ≡ None
record_none ss ts same e = ap place_in (found_none ss ts same (no_place (find has_no_record ss) e))

one_root : (s t a b : SlotOnImage) → slot_rows t ≡ slot_rows s → slot_rows b ≡ slot_rows a → have_one_root t b ≡ have_one_root s a
one_root s t a b left right =
    ap (λ (rows : List Row). not (is_slot_free rows) && has_root (image_root rows) (slot_rows b)) left
    ∙ ap (λ (rows : List Row). not (is_slot_free (slot_rows s)) && has_root (image_root (slot_rows s)) rows) right

any_same : (s t : SlotOnImage) → slot_rows t ≡ slot_rows s → (ss ts : List SlotOnImage) → AreSame ss ts → list_any (have_one_root t) ts ≡ list_any (have_one_root s) ss
any_same s t rows [] [] same = refl
any_same s t rows [] (b ∷ ts) same = absurd same
any_same s t rows (a ∷ ss) [] same = absurd same
any_same s t rows (a ∷ ss) (b ∷ ts) same =
    ap (λ (x : Bool). x || list_any (have_one_root t) ts) (one_root s t a b rows same.0.rows)
    ∙ ap (λ (x : Bool). have_one_root s a || x) (any_same s t rows ss ts same.1)

shared_none : (ss ts : List SlotOnImage) → AreSame ss ts → first_shared ss ≡ None → first_shared ts ≡ None
shared_none [] [] same e = refl
shared_none [] (t ∷ ts) same e = absurd same
shared_none (s ∷ ss) [] same e = absurd same
shared_none (s ∷ ss) (t ∷ ts) same e =
    kept_by (list_any (have_one_root s) ss) (list_any (have_one_root t) ts) s t (first_shared ss) (first_shared ts) (λ none. any_same s t same.0.rows ss ts same.1 ∙ none) (shared_none ss ts same.1) e

doubled_none : (ss ts : List SlotOnImage) → AreSame ss ts → first_doubled ss ≡ None → first_doubled ts ≡ None
doubled_none ss ts same e = ap place_in (shared_none ss ts same (no_place (first_shared ss) e))

-- ---- of all databases

first_none : (test : List SlotOnImage → Option ℕ) → ((ss ts : List SlotOnImage) → AreSame ss ts → test ss ≡ None → test ts ≡ None)
    → (sss tss : List (List SlotOnImage)) → AllSame sss tss → first_in test sss ≡ None → first_in test tss ≡ None
first_none test kept [] [] same e = refl
first_none test kept [] (t ∷ ts) same e = absurd same
first_none test kept (s ∷ ss) [] same e = absurd same
first_none test kept (s ∷ ss) (t ∷ ts) same e =
    ap (λ (o : Option ℕ). option_or o (first_in test ts)) (kept s t same.0 (left_none (test s) (first_in test ss) e))
    ∙ first_none test kept ss ts same.1 (right_none (test s) (first_in test ss) e)

pub no_sector : (rule : ℕ) (o : Option ℕ) → fault_of rule o ≡ None → o ≡ None
no_sector rule None e = refl
no_sector rule (Some s) e = cc

fault_none : (sss tss : List (List SlotOnImage)) → AllSame sss tss → slot_fault sss ≡ None → slot_fault tss ≡ None
fault_none sss tss same e =
    let one = first_in first_wrong sss in
    let two = first_in first_no_record sss in
    let three = first_in first_doubled sss in
    let rest = right_none (fault_of 20 one) (option_or (fault_of 21 two) (fault_of 22 three)) e in
    let first = first_none first_wrong wrong_none sss tss same (no_sector 20 one (left_none (fault_of 20 one) (option_or (fault_of 21 two) (fault_of 22 three)) e)) in
    let second = first_none first_no_record record_none sss tss same (no_sector 21 two (left_none (fault_of 21 two) (fault_of 22 three) rest)) in
    let third = first_none first_doubled doubled_none sss tss same (no_sector 22 three (right_none (fault_of 21 two) (fault_of 22 three) rest)) in
    ap (λ (o : Option ℕ). option_or (fault_of 20 o) (option_or (fault_of 21 (first_in first_no_record tss)) (fault_of 22 (first_in first_doubled tss)))) first
    ∙ ap (λ (o : Option ℕ). option_or (fault_of 21 o) (fault_of 22 (first_in first_doubled tss))) second
    ∙ ap (λ (o : Option ℕ). fault_of 22 o) third

rows_same : (ss ts : List SlotOnImage) → AreSame ss ts → map slot_rows ts ≡ map slot_rows ss
rows_same [] [] same = refl
rows_same [] (t ∷ ts) same = absurd same
rows_same (s ∷ ss) [] same = absurd same
rows_same (s ∷ ss) (t ∷ ts) same = ap (λ (r : List Row). r ∷ map slot_rows ts) same.0.rows ∙ ap (λ (rest : List (List Row)). slot_rows s ∷ rest) (rows_same ss ts same.1)

rows_of_same : (sss tss : List (List SlotOnImage)) → AllSame sss tss → rows_of_databases tss ≡ rows_of_databases sss
rows_of_same [] [] same = refl
rows_of_same [] (t ∷ ts) same = absurd same
rows_of_same (s ∷ ss) [] same = absurd same
rows_of_same (s ∷ ss) (t ∷ ts) same =
    ap (λ (r : List (List Row)). rows_of_slots r ∷ rows_of_databases ts) (rows_same s t same.0) ∙ ap (λ (rest : List (List Row)). rows_of_slots (map slot_rows s) ∷ rest) (rows_of_same ss ts same.1)

pub by_fault : (o : Option Fault) (rows wanted : List (List Row)) → unless_fault o rows ≡ Ok wanted → (o ≡ None) × (rows ≡ wanted)
by_fault None rows wanted e = (refl, cc)
by_fault (Some f) rows wanted e = cc

-- Where the ones have these rows and break no rule, so do the others.
pub same_rows : (sss tss : List (List SlotOnImage)) (rows : List (List Row)) → AllSame sss tss → unless_fault (slot_fault sss) (rows_of_databases sss) ≡ Ok rows → unless_fault (slot_fault tss) (rows_of_databases tss) ≡ Ok rows
same_rows sss tss rows same e =
    let both = by_fault (slot_fault sss) (rows_of_databases sss) rows e in
    ap (λ (o : Option Fault). unless_fault o (rows_of_databases tss)) (fault_none sss tss same both.0)
    ∙ ap (λ (r : List (List Row)). Ok r) (rows_of_same sss tss same ∙ both.1)
