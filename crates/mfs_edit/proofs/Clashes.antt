-- Fields of which no two clash.
use Rattle.std.proofs.Common.{ℕ, ◌≡◌, ◌+◌, ◌==◌, Bool, true, false, cond, ◌&&◌, List, [], ◌∷◌, ◌++◌, reverse, refl, ap, sym, ◌∙◌, subst, arith, nat_lt, nat_le, ◌⊎◌, inl, inr}
use Rattle.std.specs.Prelude.{Option, Some, None, find, not, ◌||◌}
use Rattle.std.specs.List.{list_all, list_any}
use Rattle.std.specs.Str.{bytes_eq}
use Rattle.std.proofs.lemmas.Bool.Decides.{nat_tests}
use Rattle.std.proofs.lemmas.List.{reverse-append}
use Rattle.model_system.specs.declared.device_field.DeviceField.{DeviceField}
use Rattle.model_system.specs.FormatRule.{clash, overlap, clashing_field, line_if}
use Rattle.model_system.specs.ScreenPage.{covers}
use Rattle.mfs_edit.proofs.Rules.{not_if}
use Rattle.tm_types.proofs.Truths.{both_true, parts_true, neither}

-- each field clashes with none behind it
abbrev pub apart : List DeviceField → Bool
apart [] = true
apart (field ∷ fields) = list_all (λ other. not (clash other field)) fields && apart fields

neither_true : (a b : Bool) → not (a || b) ≡ true → (not a ≡ true) × (not b ≡ true)
neither_true true b e = cc
neither_true false b e = (refl, e)

not_false : (b : Bool) → b ≡ false → not b ≡ true
not_false false e = refl
not_false true e = cc

pub is_false : (b : Bool) → not b ≡ true → b ≡ false
is_false false e = refl
is_false true e = cc

any_last : (p : DeviceField → Bool) (xs : List DeviceField) (x : DeviceField) → not (list_any p (xs ++ x ∷ [])) ≡ true → (not (list_any p xs) ≡ true) × (not (p x) ≡ true)
any_last p [] x e = (refl, (neither_true (p x) false e).0)
any_last p (y ∷ xs) x e =
    let here = neither_true (p y) (list_any p (xs ++ x ∷ [])) e in
    let rest = any_last p xs x here.1 in
    (joined (p y) (list_any p xs) here.0 rest.0, rest.1)
  where
    joined : (a b : Bool) → not a ≡ true → not b ≡ true → not (a || b) ≡ true
    joined true b e f = cc
    joined false b e f = f

-- the later fields clash with none of those before them
later : (fields before : List DeviceField) → clashing_field before fields ≡ None → list_all (λ field. not (list_any (clash field) before)) fields ≡ true
later [] before h = refl
later (field ∷ fields) before h =
    let parts = neither (line_if field.number (list_any (clash field) before)) (clashing_field (before ++ field ∷ []) fields) h in
    both_true (not (list_any (clash field) before)) (list_all (λ other. not (list_any (clash other) before)) fields)
    (not_false (list_any (clash field) before) (not_if field.number (list_any (clash field) before) parts.0))
    (all_before fields (later fields (before ++ field ∷ []) parts.1))
  where
    all_before : (others : List DeviceField) → list_all (λ other. not (list_any (clash other) (before ++ field ∷ []))) others ≡ true → list_all (λ other. not (list_any (clash other) before)) others ≡ true
    all_before [] e = refl
    all_before (other ∷ others) e =
        let here = parts_true (not (list_any (clash other) (before ++ field ∷ []))) _ e in
        both_true (not (list_any (clash other) before)) (list_all (λ o. not (list_any (clash o) before)) others) (any_last (clash other) before field here.0).0 (all_before others here.1)

each_last : (before others : List DeviceField) (field : DeviceField) → list_all (λ other. not (list_any (clash other) (before ++ field ∷ []))) others ≡ true → list_all (λ other. not (clash other field)) others ≡ true
each_last before [] field e = refl
each_last before (other ∷ others) field e =
    let here = parts_true (not (list_any (clash other) (before ++ field ∷ []))) _ e in
    both_true (not (clash other field)) (list_all (λ o. not (clash o field)) others) (any_last (clash other) before field here.0).1 (each_last before others field here.1)

all_apart : (fields before : List DeviceField) → clashing_field before fields ≡ None → apart fields ≡ true
all_apart [] before h = refl
all_apart (field ∷ fields) before h =
    let rest = (neither (line_if field.number (list_any (clash field) before)) (clashing_field (before ++ field ∷ []) fields) h).1 in
    both_true (list_all (λ other. not (clash other field)) fields) (apart fields)
    (each_last before fields field (later fields (before ++ field ∷ []) rest)) (all_apart fields (before ++ field ∷ []) rest)

pub fields_apart : (fields : List DeviceField) → clashing_field [] fields ≡ None → apart fields ≡ true
fields_apart fields h = all_apart fields [] h

-- a field that is one of these
abbrev pub IsIn : DeviceField → List DeviceField → Type 0
IsIn field [] = ⊥
IsIn field (other ∷ others) = (other ≡ field) ⊎ IsIn field others

in_append : (field : DeviceField) (xs ys : List DeviceField) → IsIn field (xs ++ ys) → IsIn field xs ⊎ IsIn field ys
in_append field [] ys h = inr h
in_append field (x ∷ xs) ys (inl e) = inl (inl e)
in_append field (x ∷ xs) ys (inr h) = elim (in_append field xs ys h) [ inl k ↦ inl (inr k) | inr k ↦ inr k ]

in_reverse : (field : DeviceField) (xs : List DeviceField) → IsIn field (reverse xs) → IsIn field xs
in_reverse field [] h = h
in_reverse field (x ∷ xs) h =
    let turned : IsIn field (reverse xs ++ x ∷ []) = subst (λ (ys : List DeviceField). IsIn field ys) (reverse-append (x ∷ []) xs) h in
    elim (in_append field (reverse xs) (x ∷ []) turned) [ inl k ↦ inr (in_reverse field xs k) | inr k ↦ elim k [ inl e ↦ inl e | inr none ↦ absurd none ] ]

found_by : (b : Bool) (p : DeviceField → Bool) (x field : DeviceField) (xs : List DeviceField) (rest : Option DeviceField) → p x ≡ b → (rest ≡ Some field → IsIn field xs × (p field ≡ true))
    → cond b (Some x) rest ≡ Some field → IsIn field (x ∷ xs) × (p field ≡ true)
found_by true p x field xs rest e more h = let same : x ≡ field = cc in (inl same, ap p (sym same) ∙ e)
found_by false p x field xs rest e more h = let found = more h in (inr found.0, found.1)

found_in : (p : DeviceField → Bool) (xs : List DeviceField) (field : DeviceField) → find p xs ≡ Some field → IsIn field xs × (p field ≡ true)
found_in p [] field h = cc
found_in p (x ∷ xs) field h = found_by (p x) p x field xs (find p xs) refl (λ k. found_in p xs field k) h

pub found_back : (p : DeviceField → Bool) (xs : List DeviceField) (field : DeviceField) → find p (reverse xs) ≡ Some field → IsIn field xs × (p field ≡ true)
found_back p xs field h = let found = found_in p (reverse xs) field h in (in_reverse field xs found.0, found.1)

pub all_in : (p : DeviceField → Bool) (xs : List DeviceField) (field : DeviceField) → list_all p xs ≡ true → IsIn field xs → p field ≡ true
all_in p [] field e h = absurd h
all_in p (x ∷ xs) field e (inl same) = ap p (sym same) ∙ (parts_true (p x) (list_all p xs) e).0
all_in p (x ∷ xs) field e (inr h) = all_in p xs field (parts_true (p x) (list_all p xs) e).1 h

-- fields that don't clash have different names and cover no place together
pub other_name : (field other : DeviceField) → not (clash field other) ≡ true → bytes_eq field.name other.name ≡ false
other_name field other e = is_false (bytes_eq field.name other.name) (neither_true (bytes_eq field.name other.name) (overlap field other) e).0

overlaps : (row column : ℕ) (field other : DeviceField) → covers row column field ≡ true → covers row column other ≡ true → overlap field other ≡ true
overlaps row column field other e f =
    let here = parts_true (field.row == row) (nat_le field.column column && nat_lt column (field.column + field.width)) e in
    let there = parts_true (other.row == row) (nat_le other.column column && nat_lt column (other.column + other.width)) f in
    let here-columns = parts_true (nat_le field.column column) (nat_lt column (field.column + field.width)) here.1 in
    let there-columns = parts_true (nat_le other.column column) (nat_lt column (other.column + other.width)) there.1 in
    both_true (field.row == other.row) (nat_lt field.column (other.column + other.width) && nat_lt other.column (field.column + field.width))
    (same_row field.row other.row row here.0 there.0)
    (both_true (nat_lt field.column (other.column + other.width)) (nat_lt other.column (field.column + field.width))
    (before field.column column (other.column + other.width) here-columns.0 there-columns.1) (before other.column column (field.column + field.width) there-columns.0 here-columns.1))
  where
    same_row : (a b r : ℕ) → (a == r) ≡ true → (b == r) ≡ true → (a == b) ≡ true
    same_row a b r e f = grind (arith, nat_tests)

    before : (a c b : ℕ) → nat_le a c ≡ true → nat_lt c b ≡ true → nat_lt a b ≡ true
    before a c b e f = grind (arith, nat_tests)

no_overlap : (b : Bool) (row column : ℕ) (field other : DeviceField) → covers row column field ≡ b → overlap field other ≡ false → covers row column other ≡ true → b ≡ false
no_overlap true row column field other e f g = let both : overlap field other ≡ true = overlaps row column field other e g in cc
no_overlap false row column field other e f g = refl

pub one_covers : (row column : ℕ) (field other : DeviceField) → not (clash field other) ≡ true → covers row column other ≡ true → covers row column field ≡ false
one_covers row column field other e g =
    no_overlap (covers row column field) row column field other refl (is_false (overlap field other) (neither_true (bytes_eq field.name other.name) (overlap field other) e).1) g
