-- A format has 1,920 fields at most: each begins at a place of the screen, and no two of them at the same one. So
-- a system whose formats are valid has such formats alone.
use Rattle.std.proofs.Common.{◌≡◌, ◌∙◌, refl, sym, ap, subst, ℕ, suc, ◌+◌, ◌-◌, ◌*◌, ◌<◌, ◌≤◌, Bool, true, false, cond, ◌&&◌, ◌||◌, List, [], ◌∷◌, ◌++◌, length, append_assoc, arith}
use Rattle.std.specs.Prelude.{Option, Some, None, IfSome, nat_eq, nat_le, nat_lt, ◌==◌}
use Rattle.std.specs.List.{All, AllByRecursion, IsDistinct, find, list_all, list_any}
use Rattle.std.specs.Option.{option_and_then, option_map, option_or}
use Rattle.std.specs.Str.{bytes_eq}
use Rattle.std.proofs.lemmas.Bool.{leb-true}
use Rattle.std.proofs.lemmas.Bool.Decides.{Decides-eqb, nat_tests}
use Rattle.std.proofs.lemmas.Cmp.{nat_eq_equiv}
use Rattle.std.proofs.lemmas.List.{append-nil}
use Rattle.std.proofs.lemmas.List.Elements.{All-head, All-tail}
use Rattle.std.proofs.lemmas.Map.Keys.{IsDistinct-push}
use Rattle.std.proofs.lemmas.Map.Steps.{length-le_from_distinct_below}
use Rattle.model_system.specs.declared.device_field.DeviceField.{DeviceField}
use Rattle.model_system.specs.FormatRule.{KeepsRule, broken_input, broken_format_line, broken_output, clash, clashing_field, line_if, no_input, overlap}
use Rattle.model_system.specs.FormatLines.{FormatLines}
use Rattle.model_system.specs.ValidFormat.{IsFormat, is_on_page}
use Rattle.model_system.specs.declared.screen.SystemFormat.{SystemFormat}
use Rattle.model_system.specs.SystemFormats.{format_name, format_named}
use Rattle.model_system.specs.System.{System}
use Rattle.model_session.specs.BoundedBlocks.{HasScreens}

-- ---- the place of a field's first byte

record OnPage (row column width : ℕ) : Type 0 where
  row_low : 1 ≤ row
  row_high : row ≤ 24
  column_low : 1 ≤ column
  column_high : column ≤ 80
  width_low : 1 ≤ width

abbrev place_at : ℕ → ℕ → ℕ
place_at row column = (row - 1) * 80 + (column - 1)

abbrev place_of : DeviceField → ℕ
place_of field = place_at field.row field.column

abbrev places_of : List DeviceField → List ℕ
places_of [] = []
places_of (field ∷ fields) = place_of field ∷ places_of fields

on_page : (row column width : ℕ) (a b c d e : Bool) → nat_le 1 row ≡ a → nat_le row 24 ≡ b → nat_le 1 column ≡ c → nat_le 1 width ≡ d → nat_le (column + width) 81 ≡ e
    → (a && b && c && d && e) ≡ true → OnPage row column width
on_page row column width true true true true true a b c d e all =
    let row_low = leb-true 1 row a in
    let row_high = leb-true row 24 b in
    let column_low = leb-true 1 column c in
    let width_low = leb-true 1 width d in
    let ends = leb-true (column + width) 81 e in
    record { row_low = row_low; row_high = row_high; column_low = column_low; column_high = omega (arith, width_low, ends); width_low = width_low }
on_page row column width false b c d e f g h i j all = cc
on_page row column width true false c d e f g h i j all = cc
on_page row column width true true false d e f g h i j all = cc
on_page row column width true true true false e f g h i j all = cc
on_page row column width true true true true false f g h i j all = cc

page_of : (field : DeviceField) → is_on_page field ≡ true → OnPage field.row field.column field.width
page_of field is =
    on_page field.row field.column field.width (nat_le 1 field.row) (nat_le field.row 24) (nat_le 1 field.column) (nat_le 1 field.width) (nat_le (field.column + field.width) 81)
    refl refl refl refl refl is

place_below : (row column width : ℕ) → OnPage row column width → place_at row column < 1920
place_below row column width page = omega (arith, page.row_low, page.row_high, page.column_low, page.column_high)

same_row : (row column width other at most : ℕ) → OnPage row column width → OnPage other at most → place_at row column ≡ place_at other at → row ≡ other
same_row row column width other at most page next same = omega (arith, page.row_low, page.column_low, page.column_high, next.row_low, next.column_low, next.column_high, same)

same_column : (row column width other at most : ℕ) → OnPage row column width → OnPage other at most → place_at row column ≡ place_at other at → column ≡ at
same_column row column width other at most page next same = omega (arith, page.row_low, page.column_low, page.column_high, next.row_low, next.column_low, next.column_high, same)

overlap_at : (row column width other at most : ℕ) → OnPage row column width → OnPage other at most → place_at row column ≡ place_at other at
    → ((row == other) && (nat_lt column (at + most) && nat_lt at (column + width))) ≡ true
overlap_at row column width other at most page next same =
    let rows = same_row row column width other at most page next same in
    let columns = same_column row column width other at most page next same in
    let wide = page.width_low in
    let broad = next.width_low in
    grind (arith, nat_tests)

-- fields that share no place begin at different ones
apart_places : (one other : DeviceField) → OnPage one.row one.column one.width → OnPage other.row other.column other.width → overlap one other ≡ false
    → nat_eq (place_of one) (place_of other) ≡ false
apart_places one other page next apart = by (nat_eq (place_of one) (place_of other)) refl where
  by : (b : Bool) → nat_eq (place_of one) (place_of other) ≡ b → b ≡ false
  by true e =
      let covered : overlap one other ≡ true = overlap_at one.row one.column one.width other.row other.column other.width page next ((Decides-eqb (place_of one) (place_of other)).0 e) in
      cc
  by false e = refl

-- ---- all fields of a format

abbrev AllOnPage : List DeviceField → Type 0
AllOnPage fields = AllByRecursion (λ field. OnPage field.row field.column field.width) fields

all_on_page : (fields : List DeviceField) → list_all is_on_page fields ≡ true → AllOnPage fields
all_on_page [] is = tt
all_on_page (field ∷ fields) is = by (is_on_page field) refl is (all_on_page fields) where
  by : (b : Bool) → is_on_page field ≡ b → (b && list_all is_on_page fields) ≡ true → (list_all is_on_page fields ≡ true → AllOnPage fields) → AllOnPage (field ∷ fields)
  by true e all rest = (page_of field e, rest all)
  by false e all rest = cc

page_push : (fields : List DeviceField) (field : DeviceField) → AllOnPage fields → OnPage field.row field.column field.width → AllOnPage (fields ++ field ∷ [])
page_push [] field pages page = (page, tt)
page_push (first ∷ fields) field pages page = (pages.0, page_push fields field pages.1 page)

places_push : (fields : List DeviceField) (field : DeviceField) → places_of (fields ++ field ∷ []) ≡ places_of fields ++ place_of field ∷ []
places_push [] field = refl
places_push (first ∷ fields) field = ap (λ (places : List ℕ). place_of first ∷ places) (places_push fields field)

neither : (a b : Bool) → (a || b) ≡ false → (a ≡ false) × (b ≡ false)
neither true b e = cc
neither false b e = (refl, e)

no_place : (field : DeviceField) (before : List DeviceField) → OnPage field.row field.column field.width → AllOnPage before → list_any (clash field) before ≡ false
    → list_any (nat_eq (place_of field)) (places_of before) ≡ false
no_place field [] page pages none = refl
no_place field (first ∷ before) page pages none =
    let parts = neither (clash field first) (list_any (clash field) before) none in
    let apart = neither (bytes_eq field.name first.name) (overlap field first) parts.0 in
    ap (λ (b : Bool). b || list_any (nat_eq (place_of field)) (places_of before)) (apart_places field first page pages.0 apart.1)
    ∙ no_place field before page pages.1 parts.1

no_line : (number : ℕ) (b : Bool) (rest : Option ℕ) → option_or (line_if number b) rest ≡ None → (b ≡ false) × (rest ≡ None)
no_line number true rest e = cc
no_line number false rest e = (refl, e)

places_differ : (before fields : List DeviceField) → AllOnPage before → AllOnPage fields → IsDistinct nat_eq (places_of before) → clashing_field before fields ≡ None
    → IsDistinct nat_eq (places_of (before ++ fields))
places_differ before [] pages more differ none = subst (λ (fields : List DeviceField). IsDistinct nat_eq (places_of fields)) (sym (append-nil before)) differ
places_differ before (field ∷ fields) pages more differ none =
    let parts = no_line field.number (list_any (clash field) before) (clashing_field (before ++ field ∷ []) fields) none in
    let pushed = IsDistinct-push nat_eq_equiv (places_of before) (place_of field) differ (no_place field before more.0 pages parts.0) in
    subst (λ (l : List DeviceField). IsDistinct nat_eq (places_of l)) (append_assoc before (field ∷ []) fields)
    (places_differ (before ++ field ∷ []) fields (page_push before field pages more.0) more.1
    (subst (λ (places : List ℕ). IsDistinct nat_eq places) (sym (places_push before field)) pushed) parts.1)

all_below : (fields : List DeviceField) → AllOnPage fields → (place : ℕ) → list_any (nat_eq place) (places_of fields) ≡ true → place < 1920
all_below [] pages place e = cc
all_below (field ∷ fields) pages place e = by (nat_eq place (place_of field)) refl e (all_below fields pages.1 place) where
  by : (b : Bool) → nat_eq place (place_of field) ≡ b → (b || list_any (nat_eq place) (places_of fields)) ≡ true
      → (list_any (nat_eq place) (places_of fields) ≡ true → place < 1920) → place < 1920
  by true is any rest =
      subst (λ (n : ℕ). n < 1920) (sym ((Decides-eqb place (place_of field)).0 is)) (place_below field.row field.column field.width pages.0)
  by false is any rest = rest any

count_places : (fields : List DeviceField) → length (places_of fields) ≡ length fields
count_places [] = refl
count_places (field ∷ fields) = ap suc (count_places fields)

none_differ : IsDistinct nat_eq []
unfolding IsDistinct
none_differ = tt

few_places : (fields : List DeviceField) → AllOnPage fields → clashing_field [] fields ≡ None → length fields ≤ 1920
few_places fields pages none =
    let few = length-le_from_distinct_below (places_of fields) 1920 (places_differ [] fields tt pages none_differ none) (all_below fields pages) in
    subst (λ (n : ℕ). n ≤ 1920) (count_places fields) few

or_first : (a b : Option ℕ) → option_or a b ≡ None → a ≡ None
or_first (Some n) b e = cc
or_first None b e = refl

or_second : (a b : Option ℕ) → option_or a b ≡ None → b ≡ None
or_second (Some n) b e = cc
or_second None b e = e

no_clash : (format : FormatLines) → KeepsRule format → clashing_field [] format.fields ≡ None
unfolding broken_format_line
no_clash format keeps =
    or_first (clashing_field [] format.fields) (option_or (broken_input format.fields format.input) (broken_output format.fields format.output))
    (or_second (no_input 0 format.input)
    (option_or (clashing_field [] format.fields) (option_or (broken_input format.fields format.input) (broken_output format.fields format.output))) (keeps 0))

-- a format whose lines are valid and keep its rule
pub few_fields : (format : FormatLines) → IsFormat format → KeepsRule format → length format.fields ≤ 1920
few_fields format is keeps = few_places format.fields (all_on_page format.fields is.fields) (no_clash format keeps)

-- ---- all formats of a system

abbrev HasFew : FormatLines → Type 0
HasFew format = length format.fields ≤ 1920

named_few : (formats : List SystemFormat) (name : List ℕ) → All (λ item. IsFormat item.format) formats → All (λ item. KeepsRule item.format) formats
    → IfSome (format_named formats name) HasFew
named_few [] name valid keep = tt
named_few (first ∷ formats) name valid keep =
    by (bytes_eq first.name name)
    (named_few formats name (All-tail (λ item. IsFormat item.format) first formats valid) (All-tail (λ item. KeepsRule item.format) first formats keep)) where
      by : (b : Bool) → IfSome (format_named formats name) HasFew
          → IfSome (option_map (λ (found : SystemFormat). found.format) (cond b (Some first) (find (λ (item : SystemFormat). bytes_eq item.name name) formats))) HasFew
      by true rest = few_fields first.format (All-head (λ (item : SystemFormat). IsFormat item.format) first formats valid)
          (All-head (λ (item : SystemFormat). KeepsRule item.format) first formats keep)
      by false rest = rest

-- where each format's lines are valid and keep its rule
pub has_screens : (system : System) → All (λ item. IsFormat item.format) system.formats → All (λ item. KeepsRule item.format) system.formats → HasScreens system
has_screens system valid keep terminal = by (format_name system.screens terminal) where
  by : (name : Option (List ℕ)) → IfSome (option_and_then (format_named system.formats) name) HasFew
  by (Some name) = named_few system.formats name valid keep
  by None = tt
