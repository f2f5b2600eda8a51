-- Maps from names to places.
use Rattle.std.specs.Prelude.{ℕ, ◌≡◌, List, Option, Some, None, find, reverse, slice_get}
use Rattle.std.specs.BTreeMap.{BTreeMap, get}
use Rattle.std.specs.declared.cmp.Ordering.{Ordering}
use Rattle.std.specs.Ordering.{nat_cmp}
use Rattle.std.specs.Cmp.Lexicographic.{slice_cmp}
use Rattle.std.specs.Str.{bytes_eq}
use Rattle.model_system.specs.declared.device_field.DeviceField.{DeviceField}
use Rattle.model_system.specs.declared.fields.FieldValue.{FieldValue}

abbrev pub field_name_cmp : List ℕ → List ℕ → Ordering
field_name_cmp a b = slice_cmp nat_cmp a b

abbrev pub field_place_in : BTreeMap (List ℕ) ℕ → List ℕ → Option ℕ
field_place_in places name = get field_name_cmp places name

abbrev pub item_at : {A : Type 0} → List A → Option ℕ → Option A
item_at items None = None
item_at items (Some place) = slice_get items place

-- at each name stands the place of the last field, or of the last value, that has it
abbrev pub IndexesFields : BTreeMap (List ℕ) ℕ → List DeviceField → Type 0
IndexesFields places fields = (name : List ℕ) → item_at fields (field_place_in places name) ≡ find (λ field. bytes_eq field.name name) (reverse fields)

abbrev pub IndexesValues : BTreeMap (List ℕ) ℕ → List FieldValue → Type 0
IndexesValues places values = (name : List ℕ) → item_at values (field_place_in places name) ≡ find (λ value. bytes_eq value.name name) (reverse values)
