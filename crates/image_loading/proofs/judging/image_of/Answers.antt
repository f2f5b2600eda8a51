use Rattle.std.proofs.Common.{◌≡◌, ◌≢◌, ℕ, length, [], Some, sym, ap, ◌∙◌, subst}
use Rattle.std.proofs.lemmas.Bool.{eqb-true, eq-eqb, false≢true}
use Rattle.std.proofs.lemmas.List.{nil_from_length}
use Rattle.seg_rows.specs.DecodeFault.{RefusesBytes}
use Rattle.seg_rows.specs.declared.decode.DecodeFault.TheVariants.{Bad}
use Rattle.model_image.specs.Slots.{rows_of_bytes}
use Rattle.image_loading.proofs.Spelled.{no_bytes, spells_rows, no_image}
use Rattle.image_loading.proofs.judging.image_of.Goals as goal

pub returns-then-is_empty : goal.returns-then-is_empty
returns-then-is_empty c =
    let none : c.args.bytes.now ≡ [] = nil_from_length c.args.bytes.now (eqb-true (length c.args.bytes.now) 0 (sym c.is_empty.ensures ∙ c.if-is_empty.true)) in
    ap Some c.new.ensures ∙ (sym (no_bytes c.args.dbd.now) ∙ ap (rows_of_bytes c.args.dbd.now) (sym none))

pub returns-in-Ok : goal.returns-in-Ok
returns-in-Ok c = sym (spells_rows c.args.dbd.now c.as_slice-types.ensures.valid c.args.bytes.now c.in-Ok.image c.in-Ok.ensures.spelled)

pub returns-in-Err-Bad : goal.returns-in-Err-Bad
returns-in-Err-Bad c =
    let some : c.args.bytes.now ≢ [] = λ none. false≢true (sym c.if-is_empty.false ∙ (c.is_empty.ensures ∙ eq-eqb (length c.args.bytes.now) 0 (ap (length {A = ℕ}) none))) in
    let refused : RefusesBytes c.args.dbd.now c.args.bytes.now (Bad c.in-Err-Bad.field-0-0 c.in-Err-Bad.field-0-1) =
    subst (RefusesBytes c.args.dbd.now c.args.bytes.now) c.in-Err-Bad.field-0-is c.in-Err-Bad.ensures.refused in
    no_image c.args.dbd.now c.as_slice-types.ensures.valid c.args.bytes.now some refused.1
