use Rattle.std.proofs.Common.{sym, ap, ◌∙◌}
use Rattle.model_data.specs.Path.{end_type}
use Rattle.model_data.specs.Search.{fitted_key, data_length}
use Rattle.model_data.specs.ChangeCalls.{replace_fault, with_data}
use Rattle.dli_calls.proofs.OwnChanges.{replace_unmade, replace_made}
use Rattle.dli_calls.proofs.change.replace.Goals as goal

pub returns-in-Some-replace_fault-clause-planned : goal.returns-in-Some-replace_fault-clause-planned
returns-in-Some-replace_fault-clause-planned c = λ rows h.
    replace_unmade c.args.dbd.now c.args.at rows c.args.call.now c.args.seen.now c.in-Some.held c.in-Some.is h c.in-Some-replace_fault.status c.answer_at-in-Some-replace_fault.result
    (sym (c.in-Some-replace_fault.ensures ∙ ap (λ a. replace_fault c.args.dbd.now.types c.in-Some.held a c.args.seen.now) c.as_slice-area.ensures)) c.answer_at-in-Some-replace_fault.ensures

pub returns-clause-planned : goal.returns-clause-planned
returns-clause-planned c = λ rows h.
    let types = c.args.dbd.now.types in
    let held = c.in-Some.held in
    replace_made c.args.dbd.now c.args.at rows c.args.call.now c.args.seen.now held c.in-Some.is h c.in-Some-root.root c.in_ok-image.image c.set_record.result c.requires.area
    (sym (c.in_default-replace_fault.ensures ∙ ap (λ a. replace_fault types held a c.args.seen.now) c.as_slice-area.ensures))
    (sym c.in-Some-root.ensures.value)
    (c.in_ok-image.ensures ∙ ap (λ a. with_data held (fitted_key (data_length types (end_type held)) a) c.args.seen.now) c.as_slice-area.ensures)
    c.set_record.ensures
