-- A value that is put among the last values.
use Rattle.std.proofs.Common.{◌≡◌, ◌∙◌, ℕ, ◌≤◌, Bool, true, false, ◌||◌, cond, nat_lt, ◌<◌, nat_eq, List, [], ◌∷◌, ◌++◌, length, take, length-append, is_some, ap, sym, refl, arith}
use Rattle.std.specs.Prelude.{Option, Some}
use Rattle.std.specs.List.{list_any}
use Rattle.std.specs.Map.{lookup}
use Rattle.std.specs.Cmp.Lexicographic.{pointwise}
use Rattle.std.specs.Str.{bytes_eq}
use Rattle.std.proofs.lemmas.Bool.Decides.{nat_tests}
use Rattle.std.proofs.lemmas.List.{length-map, take_all, take_at}
use Rattle.std.proofs.lemmas.Slice.Eq.{bytes_eq-Decides}
use Rattle.indexmap.specs.IndexMap.{insert_entry}
use Rattle.tm_types.specs.Segment.{are_printable}
use Rattle.model_system.specs.declared.fields.FieldValue.{FieldValue}
use Rattle.model_session.specs.Blocks.{first_values, put_value}
use Rattle.mfs_edit.specs.Texts.{values_printable}
use Rattle.session_lines.specs.LastValues.{is_kept, last_value_of, values_of}
use Rattle.session_lines.proofs.Printable.{both_of}
use Rattle.tm_types.proofs.Truths.{both_true}

-- names are the same from both sides
same_names : (one other : List ℕ) → bytes_eq one other ≡ bytes_eq other one
same_names one other = by (bytes_eq one other) (bytes_eq other one) refl refl where
  by : (p q : Bool) → bytes_eq one other ≡ p → bytes_eq other one ≡ q → p ≡ q
  by true true e f = refl
  by false false e f = refl
  by true false e f = let same = (bytes_eq-Decides other one).1 (sym ((bytes_eq-Decides one other).0 e)) in cc
  by false true e f = let same = (bytes_eq-Decides one other).1 (sym ((bytes_eq-Decides other one).0 f)) in cc

abbrev has_name : List ℕ → List FieldValue → Bool
has_name name values = list_any (λ value. bytes_eq value.name name) values

-- the map has an entry exactly where there is a value for the name
found_by : (p q : Bool) (text : List ℕ) (found : Option (List ℕ)) (rest : Bool) → p ≡ q → is_some found ≡ rest → is_some (cond p (Some text) found) ≡ (q || rest)
found_by true true text found rest e h = refl
found_by false false text found rest e h = h
found_by true false text found rest e h = cc
found_by false true text found rest e h = cc

pub has_entry : (name : List ℕ) (entries : List (List ℕ × List ℕ)) → is_some (lookup (pointwise nat_eq name) entries) ≡ has_name name (values_of entries)
has_entry name [] = refl
has_entry name (entry ∷ entries) =
    found_by (bytes_eq name entry.0) (bytes_eq entry.0 name) entry.1 (lookup (pointwise nat_eq name) entries) (has_name name (values_of entries)) (same_names name entry.0) (has_entry name entries)

pub as_many : (entries : List (List ℕ × List ℕ)) → length (values_of entries) ≡ length entries
as_many entries = length-map entries last_value_of

-- a value that is put into the map is put among the values
put_by : (p q : Bool) (name other text : List ℕ) (entries put : List (List ℕ × List ℕ)) (values : List FieldValue) (first : FieldValue) → p ≡ q → (p ≡ true → name ≡ other) → values_of put ≡ values
    → values_of (cond p ((other, text) ∷ entries) put) ≡ cond q (last_value_of (name, text) ∷ values_of entries) values
put_by true true name other text entries put values first e same h = ap (λ (n : List ℕ). last_value_of (n, text) ∷ values_of entries) (sym (same refl))
put_by false false name other text entries put values first e same h = h
put_by true false name other text entries put values first e same h = cc
put_by false true name other text entries put values first e same h = cc

entry_put : (name text : List ℕ) (entries : List (List ℕ × List ℕ)) → values_of (insert_entry (pointwise nat_eq) entries name text) ≡ put_value (last_value_of (name, text)) (values_of entries)
entry_put name text [] = refl
entry_put name text (entry ∷ entries) =
    put_by (bytes_eq name entry.0) (bytes_eq entry.0 name) name entry.0 text entries (entry ∷ insert_entry (pointwise nat_eq) entries name text)
    (last_value_of entry ∷ put_value (last_value_of (name, text)) (values_of entries)) (last_value_of entry) (same_names name entry.0) (bytes_eq-Decides name entry.0).0
    (ap (λ (values : List FieldValue). last_value_of entry ∷ values) (entry_put name text entries))

-- ---- how many values there are

put_over : (value : FieldValue) (values : List FieldValue) → has_name value.name values ≡ true → length (put_value value values) ≡ length values
put_over value [] h = cc
put_over value (first ∷ values) h = by (bytes_eq first.name value.name) (put_over value values) h where
  by : (b : Bool) → (has_name value.name values ≡ true → length (put_value value values) ≡ length values) → (b || has_name value.name values) ≡ true
      → length (cond b (value ∷ values) (first ∷ put_value value values)) ≡ length (first ∷ values)
  by true rest h = refl
  by false rest h = omega (arith, rest h)

put_behind : (value : FieldValue) (values : List FieldValue) → has_name value.name values ≡ false → put_value value values ≡ values ++ value ∷ []
put_behind value [] h = refl
put_behind value (first ∷ values) h = by (bytes_eq first.name value.name) (put_behind value values) h where
  by : (b : Bool) → (has_name value.name values ≡ false → put_value value values ≡ values ++ value ∷ []) → (b || has_name value.name values) ≡ false
      → cond b (value ∷ values) (first ∷ put_value value values) ≡ first ∷ (values ++ value ∷ [])
  by true rest h = cc
  by false rest h = ap (λ (l : List FieldValue). first ∷ l) (rest h)

few_put : (value : FieldValue) (values : List FieldValue) → length values ≤ 1921 → is_kept value.name values ≡ true → length (put_value value values) ≤ 1921
few_put value values few kept = by (has_name value.name values) (nat_lt (length values) 1921) refl refl kept where
  by : (b c : Bool) → has_name value.name values ≡ b → nat_lt (length values) 1921 ≡ c → (b || c) ≡ true → length (put_value value values) ≤ 1921
  by true c e f h = omega (arith, few, put_over value values e)
  by false true e f h =
      let room : length values < 1921 = grind (arith, nat_tests) in
      omega (arith, room, ap (λ (l : List FieldValue). length l) (put_behind value values e), length-append values (value ∷ []))
  by false false e f h = cc

-- ---- what the map has behind a value

pub kept_value : (name text : List ℕ) (entries put : List (List ℕ × List ℕ)) → put ≡ insert_entry (pointwise nat_eq) entries name text → length entries ≤ 1921 → is_kept name (values_of entries) ≡ true
    → values_of put ≡ first_values (put_value (record { name = name; text = text }) (values_of entries))
unfolding first_values
kept_value name text entries put e few kept =
    ap values_of e ∙ entry_put name text entries
    ∙ sym (take_all 1921 (put_value (last_value_of (name, text)) (values_of entries)) (few_put (last_value_of (name, text)) (values_of entries) (omega (arith, few, length-map entries last_value_of)) kept))

pub left_value : (name text : List ℕ) (entries : List (List ℕ × List ℕ)) → length entries ≤ 1921 → is_kept name (values_of entries) ≡ false
    → values_of entries ≡ first_values (put_value (record { name = name; text = text }) (values_of entries))
unfolding first_values
left_value name text entries few left = by (has_name name (values_of entries)) (nat_lt (length (values_of entries)) 1921) refl refl left where
  by : (b c : Bool) → has_name name (values_of entries) ≡ b → nat_lt (length (values_of entries)) 1921 ≡ c → (b || c) ≡ false → values_of entries ≡ take 1921 (put_value (last_value_of (name, text)) (values_of entries))
  by false false e f h =
      let full : length (values_of entries) ≡ 1921 = grind (arith, nat_tests, length-map entries last_value_of) in
      sym (take_at (values_of entries) (last_value_of (name, text) ∷ []) 1921 full) ∙ ap (λ (l : List FieldValue). take 1921 l) (sym (put_behind (last_value_of (name, text)) (values_of entries) e))
  by true c e f h = cc
  by false true e f h = cc

put_printable : (value : FieldValue) (values : List FieldValue) → are_printable value.text ≡ true → values_printable values ≡ true → values_printable (put_value value values) ≡ true
put_printable value [] h all = both_true (are_printable value.text) true h refl
put_printable value (first ∷ values) h all =
    let both = both_of (are_printable first.text) (values_printable values) all in
    by (bytes_eq first.name value.name) (both_true (are_printable value.text) (values_printable values) h both.1) (both_true (are_printable first.text) (values_printable (put_value value values)) both.0 (put_printable value values h both.1)) where
      by : (b : Bool) → values_printable (value ∷ values) ≡ true → values_printable (first ∷ put_value value values) ≡ true → values_printable (cond b (value ∷ values) (first ∷ put_value value values)) ≡ true
      by true over behind = over
      by false over behind = behind

stays_printable : (name text : List ℕ) (entries put : List (List ℕ × List ℕ)) → put ≡ insert_entry (pointwise nat_eq) entries name text → are_printable text ≡ true
    → values_printable (values_of entries) ≡ true → values_printable (values_of put) ≡ true
stays_printable name text entries put e h all = ap values_printable (ap values_of e ∙ entry_put name text entries) ∙ put_printable (last_value_of (name, text)) (values_of entries) h all

stays_few : (name text : List ℕ) (entries put : List (List ℕ × List ℕ)) → put ≡ insert_entry (pointwise nat_eq) entries name text → length entries ≤ 1921 → is_kept name (values_of entries) ≡ true
    → length put ≤ 1921
stays_few name text entries put e few kept =
    let among = few_put (last_value_of (name, text)) (values_of entries) (omega (arith, few, length-map entries last_value_of)) kept in
    let same = ap (λ (l : List FieldValue). length l) (ap values_of e ∙ entry_put name text entries) in
    omega (arith, among, same, length-map put last_value_of)

pub stays_latest : (name text : List ℕ) (entries put : List (List ℕ × List ℕ)) → put ≡ insert_entry (pointwise nat_eq) entries name text → are_printable text ≡ true → is_kept name (values_of entries) ≡ true
    → (values_printable (values_of entries) ≡ true) × (length entries ≤ 1921) → (values_printable (values_of put) ≡ true) × (length put ≤ 1921)
stays_latest name text entries put e h kept (all, few) = (stays_printable name text entries put e h all, stays_few name text entries put e few kept)

pub ruleset latest_value = (kept_value, left_value, stays_latest)
