-- Values put one after another, each in the place of the one for the same name: what is entered of them is the same as of all.
use Rattle.std.proofs.Common.{◌≡◌, ◌∙◌, refl, sym, ap, subst, ℕ, zero, suc, ◌<◌, ◌≤◌, Bool, true, false, cond, not, ◌||◌, List, [], ◌∷◌, ◌++◌, length, take, map, reverse, arith}
use Rattle.std.specs.Prelude.{Option, Some, None, Err, if◌then◌else◌}
use Rattle.std.specs.List.{find, list_any}
use Rattle.std.specs.Option.{option_map, option_map_or, option_or}
use Rattle.std.specs.Str.{bytes_eq}
use Rattle.std.proofs.lemmas.Cmp.{nat_list_eq_equiv}
use Rattle.std.proofs.lemmas.List.{length-take, reverse-append, take-take, take_all}
use Rattle.std.proofs.lemmas.List.Folds.{find-append}
use Rattle.std.proofs.lemmas.Map.Keys.{IsDistinct-head, IsDistinct-tail}
use Rattle.std.proofs.lemmas.Slice.Eq.{bytes_eq-Decides}
use Rattle.model_system.specs.declared.device_field.DeviceField.{DeviceField}
use Rattle.model_system.specs.declared.fields.FieldValue.{FieldValue}
use Rattle.model_system.specs.declared.message_field.MessageField.{MessageField}
use Rattle.model_system.specs.declared.message_field.MessageField.TheVariants.{Source, Literal}
use Rattle.model_system.specs.declared.message_field.MessageFieldLine.{MessageFieldLine}
use Rattle.model_system.specs.declared.segment_line.SegmentLine.{SegmentLine}
use Rattle.model_system.specs.FormatRule.{has_field}
use Rattle.model_system.specs.ScreenInput.{entered, field_text_of, field_texts_of, unknown_field, unless_unknown, field_value_of}
use Rattle.model_system.specs.FittedValues.{fitted_value}
use Rattle.model_system.specs.FormatLines.{FormatLines}
use Rattle.model_session.specs.Blocks.{put_value}
use Rattle.model_session.proofs.Pigeons.{Apart, Differ, differ_put, differ_take, few_names, none_differ, put_name}

-- values put behind others
abbrev pub put_all : List FieldValue → List FieldValue → List FieldValue
put_all before [] = before
put_all before (value ∷ values) = put_all (put_value value before) values

abbrev pub names_of : List FieldValue → List (List ℕ)
names_of [] = []
names_of (value ∷ values) = value.name ∷ names_of values

-- ---- options

or_more : {A : Type 0} (a b c : Option A) → option_or (option_or a b) c ≡ option_or a (option_or b c)
or_more (Some x) b c = refl
or_more None b c = refl

or_none : {A : Type 0} (a : Option A) → option_or a None ≡ a
or_none (Some x) = refl
or_none None = refl

abbrev this_if : {A : Type 0} → Bool → A → Option A
this_if b x = if b then Some x else None

or_this : {A : Type 0} (b : Bool) (x : A) (rest : Option A) → option_or (this_if b x) rest ≡ cond b (Some x) rest
or_this true x rest = refl
or_this false x rest = refl

or_cond : {A : Type 0} (b : Bool) (x : A) (first rest : Option A) → option_or (cond b (Some x) first) rest ≡ cond b (Some x) (option_or first rest)
or_cond true x first rest = refl
or_cond false x first rest = refl

-- ---- the names differ

put_names : (value : FieldValue) (values : List FieldValue) → names_of (put_value value values) ≡ put_name value.name (names_of values)
put_names value [] = refl
put_names value (first ∷ values) = by (bytes_eq first.name value.name) (put_names value values) where
  by : (b : Bool) → names_of (put_value value values) ≡ put_name value.name (names_of values)
      → names_of (if b then value ∷ values else first ∷ put_value value values) ≡ (if b then value.name ∷ names_of values else first.name ∷ put_name value.name (names_of values))
  by true rest = refl
  by false rest = ap (λ (names : List (List ℕ)). first.name ∷ names) rest

put_differ : (value : FieldValue) (values : List FieldValue) → Differ (names_of values) → Differ (names_of (put_value value values))
put_differ value values differ = subst (λ (names : List (List ℕ)). Differ names) (sym (put_names value values)) (differ_put value.name (names_of values) differ)

pub all_differ : (before values : List FieldValue) → Differ (names_of before) → Differ (names_of (put_all before values))
all_differ before [] differ = differ
all_differ before (value ∷ values) differ = all_differ (put_value value before) values (put_differ value before differ)

-- ---- the last value of each name

abbrev last_of : List FieldValue → List ℕ → Option FieldValue
last_of [] name = None
last_of (value ∷ values) name = option_or (last_of values name) (this_if (bytes_eq value.name name) value)

last_is : (values : List FieldValue) (name : List ℕ) → find (λ value. bytes_eq value.name name) (reverse values) ≡ last_of values name
last_is [] name = refl
last_is (value ∷ values) name =
    ap (λ (l : List FieldValue). find (λ value. bytes_eq value.name name) l) (reverse-append (value ∷ []) values)
    ∙ find-append (λ (v : FieldValue). bytes_eq v.name name) (reverse values) (value ∷ [])
    ∙ ap (λ (o : Option FieldValue). option_or o (this_if (bytes_eq value.name name) value)) (last_is values name)

none_last : (name : List ℕ) (values : List FieldValue) → Apart name (names_of values) → last_of values name ≡ None
none_last name [] apart = refl
none_last name (value ∷ values) apart =
    ap (λ (o : Option FieldValue). option_or o (this_if (bytes_eq value.name name) value)) (none_last name values apart.1)
    ∙ ap (λ (b : Bool). this_if b value) (nat_list_eq_equiv.symm value.name name ∙ apart.0)

last_put : (value : FieldValue) (before : List FieldValue) (name : List ℕ) → Differ (names_of before)
    → last_of (put_value value before) name ≡ option_or (this_if (bytes_eq value.name name) value) (last_of before name)
last_put value [] name differ = sym (or_none (this_if (bytes_eq value.name name) value))
last_put value (first ∷ before) name differ =
    by (bytes_eq first.name value.name) refl (last_put value before name (IsDistinct-tail bytes_eq first.name (names_of before) differ)) where
      same : (b : Bool) → bytes_eq value.name name ≡ b → first.name ≡ value.name
          → option_or (last_of before name) (this_if b value) ≡ option_or (this_if b value) (option_or (last_of before name) (this_if (bytes_eq first.name name) first))
      same true at is =
          let here : first.name ≡ name = is ∙ (bytes_eq-Decides value.name name).0 at in
          let apart = subst (λ (n : List ℕ). Apart n (names_of before)) here (IsDistinct-head bytes_eq first.name (names_of before) differ) in
          ap (λ (o : Option FieldValue). option_or o (Some value)) (none_last name before apart)
      same false at is = ap (λ (b : Bool). option_or (last_of before name) (this_if b first)) (sym (ap (λ (n : List ℕ). bytes_eq n name) is ∙ at))

      by : (b : Bool) → bytes_eq first.name value.name ≡ b → last_of (put_value value before) name ≡ option_or (this_if (bytes_eq value.name name) value) (last_of before name)
          → last_of (if b then value ∷ before else first ∷ put_value value before) name
          ≡ option_or (this_if (bytes_eq value.name name) value) (option_or (last_of before name) (this_if (bytes_eq first.name name) first))
      by true e rest = same (bytes_eq value.name name) refl ((bytes_eq-Decides first.name value.name).0 e)
      by false e rest =
          ap (λ (o : Option FieldValue). option_or o (this_if (bytes_eq first.name name) first)) rest
          ∙ or_more (this_if (bytes_eq value.name name) value) (last_of before name) (this_if (bytes_eq first.name name) first)

last_all : (before values : List FieldValue) (name : List ℕ) → Differ (names_of before)
    → last_of (put_all before values) name ≡ option_or (last_of values name) (last_of before name)
last_all before [] name differ = refl
last_all before (value ∷ values) name differ =
    last_all (put_value value before) values name (put_differ value before differ)
    ∙ ap (λ (o : Option FieldValue). option_or (last_of values name) o) (last_put value before name differ)
    ∙ sym (or_more (last_of values name) (this_if (bytes_eq value.name name) value) (last_of before name))

value_all : (values : List FieldValue) (name : List ℕ) → field_value_of (put_all [] values) name ≡ field_value_of values name
value_all values name =
    ap (λ (o : Option FieldValue). option_map_or (λ value. value.text) o [])
    (last_is (put_all [] values) name ∙ last_all [] values name none_differ ∙ or_none (last_of values name) ∙ sym (last_is values name))

-- ---- the first name that passes a test

abbrev first_of : (List ℕ → Bool) → List FieldValue → Option (List ℕ)
first_of test [] = None
first_of test (value ∷ values) = cond (test value.name) (Some value.name) (first_of test values)

first_put : (test : List ℕ → Bool) (value : FieldValue) (before : List FieldValue)
    → first_of test (put_value value before) ≡ option_or (first_of test before) (this_if (test value.name) value.name)
first_put test value [] = refl
first_put test value (first ∷ before) = by (bytes_eq first.name value.name) refl (first_put test value before) where
  same : (b : Bool) (name : List ℕ) (rest : Option (List ℕ)) → cond b (Some name) rest ≡ option_or (cond b (Some name) rest) (this_if b name)
  same true name rest = refl
  same false name rest = sym (or_none rest)

  by : (b : Bool) → bytes_eq first.name value.name ≡ b → first_of test (put_value value before) ≡ option_or (first_of test before) (this_if (test value.name) value.name)
      → first_of test (if b then value ∷ before else first ∷ put_value value before)
      ≡ option_or (cond (test first.name) (Some first.name) (first_of test before)) (this_if (test value.name) value.name)
  by true e rest =
      same (test value.name) value.name (first_of test before)
      ∙ ap (λ (n : List ℕ). option_or (cond (test n) (Some n) (first_of test before)) (this_if (test value.name) value.name)) (sym ((bytes_eq-Decides first.name value.name).0 e))
  by false e rest =
      ap (λ (o : Option (List ℕ)). cond (test first.name) (Some first.name) o) rest
      ∙ sym (or_cond (test first.name) first.name (first_of test before) (this_if (test value.name) value.name))

first_all : (test : List ℕ → Bool) (before values : List FieldValue) → first_of test (put_all before values) ≡ option_or (first_of test before) (first_of test values)
first_all test before [] = sym (or_none (first_of test before))
first_all test before (value ∷ values) =
    first_all test (put_value value before) values
    ∙ ap (λ (o : Option (List ℕ)). option_or o (first_of test values)) (first_put test value before)
    ∙ or_more (first_of test before) (this_if (test value.name) value.name) (first_of test values)
    ∙ ap (λ (o : Option (List ℕ)). option_or (first_of test before) o) (or_this (test value.name) value.name (first_of test values))

first_take : (test : List ℕ → Bool) (n : ℕ) (values : List FieldValue) (name : List ℕ) → first_of test (take n values) ≡ Some name → first_of test values ≡ Some name
first_take test zero values name e = cc
first_take test (suc n) [] name e = e
first_take test (suc n) (value ∷ values) name e = by (test value.name) (first_take test n values name) e where
  by : (b : Bool) → (first_of test (take n values) ≡ Some name → first_of test values ≡ Some name)
      → cond b (Some value.name) (first_of test (take n values)) ≡ Some name → cond b (Some value.name) (first_of test values) ≡ Some name
  by true rest at = at
  by false rest at = rest at

abbrev is_unknown : List DeviceField → List ℕ → Bool
is_unknown fields name = not (has_field name fields)

unknown_is : (fields : List DeviceField) (values : List FieldValue) → unknown_field fields values ≡ first_of (is_unknown fields) values
unknown_is fields [] = refl
unknown_is fields (value ∷ values) = by (not (has_field value.name fields)) (unknown_is fields values) where
  by : (b : Bool) → unknown_field fields values ≡ first_of (is_unknown fields) values
      → option_map (λ (v : FieldValue). v.name) (cond b (Some value) (find (λ (v : FieldValue). not (has_field v.name fields)) values))
      ≡ cond b (Some value.name) (first_of (is_unknown fields) values)
  by true rest = refl
  by false rest = rest

unknown_all : (fields : List DeviceField) (values : List FieldValue) → unknown_field fields (put_all [] values) ≡ unknown_field fields values
unknown_all fields values = unknown_is fields (put_all [] values) ∙ first_all (is_unknown fields) [] values ∙ sym (unknown_is fields values)

-- ---- what is entered

text_same : (values others : List FieldValue) → ((name : List ℕ) → field_value_of values name ≡ field_value_of others name) → (content : MessageField)
    → field_text_of values content ≡ field_text_of others content
text_same values others same (Source source) = ap (λ (text : List ℕ). fitted_value source.justify source.fill source.width text) (same source.name)
text_same values others same (Literal text) = refl

texts_same : (values others : List FieldValue) → ((name : List ℕ) → field_value_of values name ≡ field_value_of others name) → (lines : List MessageFieldLine)
    → field_texts_of values lines ≡ field_texts_of others lines
texts_same values others same [] = refl
texts_same values others same (line ∷ lines) =
    ap (λ (text : List ℕ). text ++ field_texts_of values lines) (text_same values others same line.content)
    ∙ ap (λ (rest : List ℕ). field_text_of others line.content ++ rest) (texts_same values others same lines)

abbrev segments_of : List FieldValue → List SegmentLine → List (List ℕ)
segments_of values segments = map (λ segment. field_texts_of values segment.fields) segments

segments_same : (values others : List FieldValue) → ((name : List ℕ) → field_value_of values name ≡ field_value_of others name) → (segments : List SegmentLine)
    → segments_of values segments ≡ segments_of others segments
segments_same values others same [] = refl
segments_same values others same (segment ∷ segments) =
    ap (λ (text : List ℕ). text ∷ segments_of values segments) (texts_same values others same segment.fields)
    ∙ ap (λ (rest : List (List ℕ)). field_texts_of others segment.fields ∷ rest) (segments_same values others same segments)

entered_all : (format : FormatLines) (values : List FieldValue) → entered format (put_all [] values) ≡ entered format values
unfolding entered
entered_all format values =
    ap (λ (o : Option (List ℕ)). unless_unknown o (segments_of (put_all [] values) format.input)) (unknown_all format.fields values)
    ∙ ap (λ (segments : List (List ℕ)). unless_unknown (unknown_field format.fields values) segments)
    (segments_same (put_all [] values) values (value_all values) format.input)

-- ---- more values than fields: one of the first is for no field

abbrev field_names : List DeviceField → List (List ℕ)
field_names [] = []
field_names (field ∷ fields) = field.name ∷ field_names fields

count_fields : (fields : List DeviceField) → length (field_names fields) ≡ length fields
count_fields [] = refl
count_fields (field ∷ fields) = ap suc (count_fields fields)

count_names : (values : List FieldValue) → length (names_of values) ≡ length values
count_names [] = refl
count_names (value ∷ values) = ap suc (count_names values)

names_take : (n : ℕ) (values : List FieldValue) → names_of (take n values) ≡ take n (names_of values)
names_take zero values = refl
names_take (suc n) [] = refl
names_take (suc n) (value ∷ values) = ap (λ (names : List (List ℕ)). value.name ∷ names) (names_take n values)

field_among : (name : List ℕ) (fields : List DeviceField) → has_field name fields ≡ true → list_any (bytes_eq name) (field_names fields) ≡ true
field_among name [] e = e
field_among name (field ∷ fields) e =
    subst (λ (b : Bool). (b || list_any (bytes_eq name) (field_names fields)) ≡ true) (nat_list_eq_equiv.symm field.name name)
    (by (bytes_eq field.name name) (field_among name fields) e) where
      by : (b : Bool) → (has_field name fields ≡ true → list_any (bytes_eq name) (field_names fields) ≡ true) → (b || has_field name fields) ≡ true
          → (b || list_any (bytes_eq name) (field_names fields)) ≡ true
      by true rest at = refl
      by false rest at = rest at

all_among : (fields : List DeviceField) (values : List FieldValue) → first_of (is_unknown fields) values ≡ None
    → (name : List ℕ) → list_any (bytes_eq name) (names_of values) ≡ true → list_any (bytes_eq name) (field_names fields) ≡ true
all_among fields [] known name e = cc
all_among fields (value ∷ values) known name e =
    by (has_field value.name fields) refl known (bytes_eq name value.name) refl e (all_among fields values) where
      by : (h : Bool) → has_field value.name fields ≡ h → cond (not h) (Some value.name) (first_of (is_unknown fields) values) ≡ None
          → (b : Bool) → bytes_eq name value.name ≡ b → (b || list_any (bytes_eq name) (names_of values)) ≡ true
          → (first_of (is_unknown fields) values ≡ None → (n : List ℕ) → list_any (bytes_eq n) (names_of values) ≡ true → list_any (bytes_eq n) (field_names fields) ≡ true)
          → list_any (bytes_eq name) (field_names fields) ≡ true
      by false is none b at any rest = cc
      by true is none true at any rest =
          subst (λ (n : List ℕ). list_any (bytes_eq n) (field_names fields) ≡ true) (sym ((bytes_eq-Decides name value.name).0 at)) (field_among value.name fields is)
      by true is none false at any rest = rest none name any

few_known : (fields : List DeviceField) (values : List FieldValue) → Differ (names_of values) → first_of (is_unknown fields) values ≡ None → length values ≤ length fields
few_known fields values differ known =
    let few = few_names (names_of values) (field_names fields) differ (all_among fields values known) in
    omega (arith, few, count_names values, count_fields fields)

entered_err : (format : FormatLines) (values : List FieldValue) (name : List ℕ) → first_of (is_unknown format.fields) values ≡ Some name → entered format values ≡ Err name
unfolding entered
entered_err format values name e = ap (λ (o : Option (List ℕ)). unless_unknown o (segments_of values format.input)) (unknown_is format.fields values ∙ e)

entered_take : (n : ℕ) (format : FormatLines) (full : List FieldValue) → length format.fields < n → Differ (names_of full) → entered format (take n full) ≡ entered format full
entered_take n format full few differ = by (first_of (is_unknown format.fields) (take n full)) refl where
  by : (o : Option (List ℕ)) → first_of (is_unknown format.fields) (take n full) ≡ o → entered format (take n full) ≡ entered format full
  by (Some name) e = entered_err format (take n full) name e ∙ sym (entered_err format full name (first_take (is_unknown format.fields) n full name e))
  by None e =
      let differ_first : Differ (names_of (take n full)) = subst (λ (names : List (List ℕ)). Differ names) (sym (names_take n full)) (differ_take n (names_of full) differ) in
      let known : length (take n full) ≤ length format.fields = few_known format.fields (take n full) differ_first e in
      let short : length full ≤ n = omega (arith, known, length-take n full, few) in
      ap (λ (values : List FieldValue). entered format values) (take_all n full short)

-- ---- of the values only so many are kept

abbrev pub keep_all : (List FieldValue → List FieldValue) → List FieldValue → List FieldValue → List FieldValue
keep_all keep before [] = before
keep_all keep before (value ∷ values) = keep_all keep (keep (put_value value before)) values

take_put : (n : ℕ) (value : FieldValue) (values : List FieldValue) → take n (put_value value (take n values)) ≡ take n (put_value value values)
take_put zero value values = refl
take_put (suc n) value [] = refl
take_put (suc n) value (first ∷ values) = by (bytes_eq first.name value.name) (take_put n value values) where
  by : (b : Bool) → take n (put_value value (take n values)) ≡ take n (put_value value values)
      → take (suc n) (if b then value ∷ take n values else first ∷ put_value value (take n values)) ≡ take (suc n) (if b then value ∷ values else first ∷ put_value value values)
  by true rest = ap (λ (l : List FieldValue). value ∷ l) (take-take n n values (omega arith))
  by false rest = ap (λ (l : List FieldValue). first ∷ l) rest

keep_is : (n : ℕ) (keep : List FieldValue → List FieldValue) → ((values : List FieldValue) → keep values ≡ take n values) → (full values : List FieldValue)
    → keep_all keep (take n full) values ≡ take n (put_all full values)
keep_is n keep is full [] = refl
keep_is n keep is full (value ∷ values) =
    ap (λ (l : List FieldValue). keep_all keep l values) (is (put_value value (take n full)) ∙ take_put n value full)
    ∙ keep_is n keep is (put_value value full) values

take_none : (n : ℕ) → take {A = FieldValue} n [] ≡ []
take_none zero = refl
take_none (suc n) = refl

-- where so many are more than the format has fields, they are entered as all the values are
pub entered_kept : (n : ℕ) (keep : List FieldValue → List FieldValue) → ((values : List FieldValue) → keep values ≡ take n values)
    → (format : FormatLines) (values : List FieldValue) → length format.fields < n → entered format (keep_all keep [] values) ≡ entered format values
entered_kept n keep is format values few =
    ap (λ (l : List FieldValue). entered format l) (ap (λ (l : List FieldValue). keep_all keep l values) (sym (take_none n)) ∙ keep_is n keep is [] values)
    ∙ entered_take n format (put_all [] values) few (all_differ [] values none_differ)
    ∙ entered_all format values
