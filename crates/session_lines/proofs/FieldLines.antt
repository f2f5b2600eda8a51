-- A block with one more field line.
use Rattle.std.proofs.Common.{◌≡◌, ◌∙◌, ℕ, List, ap, sym, refl}
use Rattle.std.specs.Prelude.{Result, Ok, Err, OnOk}
use Rattle.text_rows.specs.LowestRule.{also}
use Rattle.model_system.specs.declared.fields.FieldValue.{FieldValue}
use Rattle.model_session.specs.Blocks.{Block, and_field, and_value, field_of, first_values, judged_field, put_value}

no_more : (before : Result (Unit {0}) ℕ) → also {A = Unit {0}} {B = Unit {0}} before (Ok tt) ≡ before
unfolding also
no_more (Ok value) = refl
no_more (Err rule) = refl

abbrev with_field : Block → Result FieldValue ℕ → Block
with_field block read = record block { values = and_value block.values read; others = record block.others { fields = also block.others.fields (judged_field read) } }

-- its value is put among the others, and no rule is broken
pub field_put : (block : Block) (line : List ℕ) (value : FieldValue) (values : List FieldValue) → field_of line ≡ Ok value → values ≡ first_values (put_value value block.values)
    → record block { values = values } ≡ and_field block line
field_put block line value values e made =
    ap (λ (l : List FieldValue). record block { values = l }) made
    ∙ ap (λ (r : Result (Unit {0}) ℕ). record block { values = first_values (put_value value block.values); others = record block.others { fields = r } }) (sym (no_more block.others.fields))
    ∙ ap (λ (read : Result FieldValue ℕ). with_field block read) (sym e)

pub on_ok : {A E : Type 0} (P Q : Type 0) (result : Result A E) → (P → Q) → OnOk result P → OnOk result Q
on_ok P Q (Ok value) goes h = goes h
on_ok P Q (Err error) goes h = tt
