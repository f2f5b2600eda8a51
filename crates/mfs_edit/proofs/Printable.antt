-- Printable texts, and how long they are.
use Rattle.std.proofs.Common.{ℕ, zero, suc, ◌≡◌, ◌-◌, ◌≤◌, Bool, true, false, cond, ◌&&◌, List, [], ◌∷◌, ◌++◌, length, take, drop, replicate, reverse, refl, ap, sym, ◌∙◌, arith, nat_lt, nat_le}
use Rattle.std.specs.Prelude.{Option, Some, None, find, IsTrue}
use Rattle.std.specs.List.{list_all}
use Rattle.std.specs.Option.{option_map_or}
use Rattle.std.specs.Str.{bytes_eq}
use Rattle.std.proofs.lemmas.List.{reverse-append, length-append, length-take, length-drop, length-replicate}
use Rattle.std.proofs.lemmas.List.Folds.{list_all-append}
use Rattle.std.proofs.lemmas.Bool.Decides.{nat_tests}
use Rattle.tm_types.specs.Segment.{IsSegmentText, is_printable, are_printable}
use Rattle.model_system.specs.declared.fields.FieldValue.{FieldValue}
use Rattle.model_system.specs.declared.device_field.DeviceField.{DeviceField}
use Rattle.model_system.specs.declared.message_field.Justify.{Justify}
use Rattle.model_system.specs.declared.message_field.Justify.TheVariants.{Left, Right}
use Rattle.model_system.specs.declared.message_field.MessageField.{MessageField}
use Rattle.model_system.specs.declared.message_field.MessageField.TheVariants.{Source, Literal}
use Rattle.model_system.specs.declared.message_field.MessageFieldLine.{MessageFieldLine}
use Rattle.model_system.specs.declared.segment_line.SegmentLine.{SegmentLine}
use Rattle.model_system.specs.FormatRule.{KeepsRule, field_bytes, segment_bytes_in, broken_input, unknown_source, line_if}
use Rattle.model_system.specs.ScreenInput.{field_value_of, field_text_of, field_texts_of}
use Rattle.model_system.specs.FittedValues.{fitted_value}
use Rattle.model_system.specs.FormatLines.{FormatLines}
use Rattle.model_system.specs.ValidFormat.{IsFormat, is_message_field, is_segment_line}
use Rattle.mfs_edit.specs.Texts.{is_text, values_printable}
use Rattle.mfs_edit.proofs.Rules.{not_if, kept_input}
use Rattle.tm_types.proofs.Truths.{both_true, parts_true, neither}

module _ {A : Type 0} (p : A → Bool) where
  all_take : (n : ℕ) (xs : List A) → list_all p xs ≡ true → list_all p (take n xs) ≡ true
  all_take zero xs e = refl
  all_take (suc n) [] e = refl
  all_take (suc n) (x ∷ xs) e = let parts = parts_true (p x) (list_all p xs) e in both_true (p x) (list_all p (take n xs)) parts.0 (all_take n xs parts.1)

  all_drop : (n : ℕ) (xs : List A) → list_all p xs ≡ true → list_all p (drop n xs) ≡ true
  all_drop zero xs e = e
  all_drop (suc n) [] e = refl
  all_drop (suc n) (x ∷ xs) e = all_drop n xs (parts_true (p x) (list_all p xs) e).1

  all_same : (n : ℕ) (x : A) → p x ≡ true → list_all p (replicate n x) ≡ true
  all_same zero x e = refl
  all_same (suc n) x e = both_true (p x) (list_all p (replicate n x)) e (all_same n x e)

  all_both : (xs ys : List A) → list_all p xs ≡ true → list_all p ys ≡ true → list_all p (xs ++ ys) ≡ true
  all_both xs ys e f = list_all-append p xs ys ∙ both_true (list_all p xs) (list_all p ys) e f

  all_reverse : (xs : List A) → list_all p xs ≡ true → list_all p (reverse xs) ≡ true
  all_reverse [] e = refl
  all_reverse (x ∷ xs) e =
      let parts = parts_true (p x) (list_all p xs) e in
      ap (list_all p) (reverse-append (x ∷ []) xs) ∙ all_both (reverse xs) (x ∷ []) (all_reverse xs parts.1) (both_true (p x) true parts.0 refl)

  found_by : (b : Bool) (q : A → Bool) (x y : A) (rest : Option A) → p x ≡ true → (rest ≡ Some y → p y ≡ true) → cond b (Some x) rest ≡ Some y → p y ≡ true
  found_by true q x y rest e more h = let same : x ≡ y = cc in ap p (sym same) ∙ e
  found_by false q x y rest e more h = more h

  all_found : (q : A → Bool) (xs : List A) (y : A) → list_all p xs ≡ true → find q xs ≡ Some y → p y ≡ true
  all_found q [] y e h = cc
  all_found q (x ∷ xs) y e h =
      let parts = parts_true (p x) (list_all p xs) e in
      found_by (q x) q x y (find q xs) parts.0 (λ k. all_found q xs y parts.1 k) h

short_by : (n : ℕ) → nat_le n 1996 ≡ true → n ≤ 1996
short_by n e = grind (arith, nat_tests)

pub text_held : (text : List ℕ) → IsTrue (is_text text) → IsSegmentText text
text_held text h = let parts = parts_true (nat_le (length text) 1996) (are_printable text) h in (short_by (length text) parts.0, parts.1)

fitted_printable : (justify : Justify) (fill width : ℕ) (text : List ℕ) → is_printable fill ≡ true → are_printable text ≡ true → are_printable (fitted_value justify fill width text) ≡ true
fitted_printable Left fill width text f e = all_both is_printable (take width text) (replicate (width - length text) fill) (all_take is_printable width text e) (all_same is_printable (width - length text) fill f)
fitted_printable Right fill width text f e =
    all_both is_printable (replicate (width - length text) fill) (drop (length text - width) text) (all_same is_printable (width - length text) fill f) (all_drop is_printable (length text - width) text e)

pub fitted_length : (justify : Justify) (fill width : ℕ) (text : List ℕ) → length (fitted_value justify fill width text) ≡ width
fitted_length Left fill width text =
    omega (arith, length-append (take width text) (replicate (width - length text) fill), length-take width text, length-replicate (width - length text) fill)
fitted_length Right fill width text =
    omega (arith, length-append (replicate (width - length text) fill) (drop (length text - width) text), length-drop (length text - width) text, length-replicate (width - length text) fill)

value_by : (found : Option FieldValue) → ((value : FieldValue) → found ≡ Some value → are_printable value.text ≡ true) → are_printable (option_map_or (λ value. value.text) found []) ≡ true
value_by (Some value) h = h value refl
value_by None h = refl

value_printable : (values : List FieldValue) (name : List ℕ) → values_printable values ≡ true → are_printable (field_value_of values name) ≡ true
value_printable values name e =
    value_by (find (λ value. bytes_eq value.name name) (reverse values))
    (λ value h. all_found (λ (v : FieldValue). are_printable v.text) (λ v. bytes_eq v.name name) (reverse values) value (all_reverse (λ (v : FieldValue). are_printable v.text) values e) h)

text_printable : (values : List FieldValue) (content : MessageField) → values_printable values ≡ true → is_message_field content ≡ true → are_printable (field_text_of values content) ≡ true
text_printable values (Source source) e h =
    let fill : is_printable source.fill ≡ true = (parts_true (is_printable source.fill) _ (parts_true (nat_le 1 source.width && nat_le source.width 80) _ h).1).0 in
    fitted_printable source.justify source.fill source.width (field_value_of values source.name) fill (value_printable values source.name e)
text_printable values (Literal text) e h = (parts_true (are_printable text) _ h).0

texts_printable : (values : List FieldValue) (lines : List MessageFieldLine) → values_printable values ≡ true → list_all (λ line. is_message_field line.content) lines ≡ true → are_printable (field_texts_of values lines) ≡ true
texts_printable values [] e h = refl
texts_printable values (line ∷ lines) e h =
    let parts = parts_true (is_message_field line.content) (list_all (λ l. is_message_field l.content) lines) h in
    all_both is_printable (field_text_of values line.content) (field_texts_of values lines) (text_printable values line.content e parts.0) (texts_printable values lines e parts.1)

text_length : (values : List FieldValue) (content : MessageField) → length (field_text_of values content) ≡ field_bytes content
text_length values (Source source) = fitted_length source.justify source.fill source.width (field_value_of values source.name)
text_length values (Literal text) = refl

texts_length : (values : List FieldValue) (lines : List MessageFieldLine) → length (field_texts_of values lines) ≡ segment_bytes_in lines
texts_length values [] = refl
texts_length values (line ∷ lines) =
    omega (arith, length-append (field_text_of values line.content) (field_texts_of values lines), text_length values line.content, texts_length values lines)

short : (n m : ℕ) → n ≡ m → nat_lt 1996 m ≡ false → nat_le n 1996 ≡ true
short n m e h = grind (arith, nat_tests)

pub all_texts : (values : List FieldValue) (fields : List DeviceField) (lines : List SegmentLine) → values_printable values ≡ true → list_all is_segment_line lines ≡ true → broken_input fields lines ≡ None
    → list_all (λ line. is_text (field_texts_of values line.fields)) lines ≡ true
all_texts values fields [] e h kept = refl
all_texts values fields (line ∷ lines) e h kept =
    let parts = parts_true (is_segment_line line) (list_all is_segment_line lines) h in
    let first = neither (line_if line.number (nat_lt 1996 (segment_bytes_in line.fields))) _ kept in
    let second = neither (unknown_source fields line.fields) (broken_input fields lines) first.1 in
    let fits = short (length (field_texts_of values line.fields)) (segment_bytes_in line.fields) (texts_length values line.fields) (not_if line.number (nat_lt 1996 (segment_bytes_in line.fields)) first.0) in
    both_true (is_text (field_texts_of values line.fields)) (list_all (λ l. is_text (field_texts_of values l.fields)) lines)
    (both_true (nat_le (length (field_texts_of values line.fields)) 1996) (are_printable (field_texts_of values line.fields)) fits (texts_printable values line.fields e parts.0))
    (all_texts values fields lines e parts.1 second.1)

pub good_texts : (format : FormatLines) (given values : List FieldValue) (lines : List SegmentLine) → KeepsRule format → IsFormat format → IsTrue (values_printable given) → lines ≡ format.input → values ≡ given
    → IsTrue (list_all (λ line. is_text (field_texts_of values line.fields)) lines)
good_texts format given values lines rule valid printable l v =
    ap (λ (ls : List SegmentLine). list_all (λ line. is_text (field_texts_of values line.fields)) ls) l
    ∙ all_texts values format.fields format.input (ap values_printable v ∙ printable) valid.input (kept_input format rule)
