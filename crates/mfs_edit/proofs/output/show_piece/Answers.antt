use Rattle.std.proofs.Common.{◌≡◌, sym, ◌∙◌, subst}
use Rattle.std.specs.Str.{bytes_eq}
use Rattle.std.proofs.lemmas.Slice.Eq.{bytes_eq-Decides}
use Rattle.model_system.specs.declared.device_field.DeviceField.{DeviceField}
use Rattle.model_system.specs.FittedValues.{fitted_value}
use Rattle.model_system.specs.Pages.{IsPage}
use Rattle.model_system.specs.ScreenPage.{Piece}
use Rattle.model_system.specs.ValidFormat.{is_on_page}
use Rattle.mfs_edit.proofs.Clashes.{found_back, fields_apart, all_in}
use Rattle.mfs_edit.proofs.Printable.{fitted_length}
use Rattle.mfs_edit.proofs.Setting.{on_page, page_set, page_same, still_page}
use Rattle.mfs_edit.proofs.output.show_piece.Goals as goal

pub set_piece-requires-clause-field : goal.set_piece-requires-clause-field
set_piece-requires-clause-field c =
    let found = found_back (λ (field : DeviceField). bytes_eq field.name c.args.source.now.name) c.args.fields.now c.in-Some.field.now (sym c.in-Some.ensures) in
    on_page c.in-Some.field.now (all_in is_on_page c.args.fields.now c.in-Some.field.now c.requires.on_page found.0)

pub returns-in-Some-clause-page : goal.returns-in-Some-clause-page
returns-in-Some-clause-page c =
    let field = c.in-Some.field.now in
    let source = c.args.source.now in
    let found = found_back (λ (field : DeviceField). bytes_eq field.name source.name) c.args.fields.now field (sym c.in-Some.ensures) in
    let on = on_page field (all_in is_on_page c.args.fields.now field c.requires.on_page found.0) in
    subst IsPage (sym c.set_piece.ensures)
    (still_page c.args.rows.now.items field (fitted_value source.justify source.fill field.width c.args.text.now) c.requires.page on (fitted_length source.justify source.fill field.width c.args.text.now))

pub returns-in-Some-clause-shown : goal.returns-in-Some-clause-shown
returns-in-Some-clause-shown c = λ done before.
    let field = c.in-Some.field.now in
    let source = c.args.source.now in
    let piece : Piece = record { source = source; text = c.args.text.now } in
    let found = found_back (λ (field : DeviceField). bytes_eq field.name source.name) c.args.fields.now field (sym c.in-Some.ensures) in
    let on = on_page field (all_in is_on_page c.args.fields.now field c.requires.on_page found.0) in
    let named : source.name ≡ field.name = sym ((bytes_eq-Decides field.name source.name).0 found.1) in
    c.set_piece.ensures
    ∙ page_set c.args.fields.now done piece field (fields_apart c.args.fields.now c.requires.rule) found.0 named on c.args.rows.now.items before (fitted_length source.justify source.fill field.width c.args.text.now)

pub returns-in-None-clause-shown : goal.returns-in-None-clause-shown
returns-in-None-clause-shown c = λ done before.
    let piece : Piece = record { source = c.args.source.now; text = c.args.text.now } in
    before ∙ page_same c.args.fields.now done piece (sym c.in-None.ensures)
