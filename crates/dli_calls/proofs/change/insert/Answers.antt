use Rattle.std.proofs.Common.{subst, sym, ◌∙◌}
use Rattle.model_data.specs.ChangeCalls.{insert_path, insert_row, insert_fault}
use Rattle.model_data.specs.Conditions.{IsPosition}
use Rattle.dli_calls.specs.declared.planned.Planned.{Planned}
use Rattle.dli_calls.proofs.OwnChanges.{insert_unmade, insert_made, insert_stands}
use Rattle.dli_calls.proofs.change.insert.Goals as goal

pub returns-in-Some-clause-planned : goal.returns-in-Some-clause-planned
returns-in-Some-clause-planned c = λ rows h.
    insert_unmade c.args.dbd.now c.args.call.now c.args.at c.args.seen.now rows h c.in-Some.status c.answer_at.result
    (sym (c.in-Some.ensures ∙ (λ i. insert_fault (insert_path c.args.dbd.now.types (c.as_slice-ssas.ensures i) (c.as_slice-area.ensures i)) c.args.seen.now))) c.answer_at.ensures

pub returns-clause-planned : goal.returns-clause-planned
returns-clause-planned c = λ rows h.
    let types = c.args.dbd.now.types in
    insert_made c.args.dbd.now c.args.call.now c.args.at c.args.seen.now rows h c.in_ok-row.row c.in-Some-root.root c.in_ok-image.image c.set_record.result c.requires.ssas c.requires.area
    (sym (c.in_default.ensures ∙ (λ i. insert_fault (insert_path types (c.as_slice-ssas.ensures i) (c.as_slice-area.ensures i)) c.args.seen.now)))
    (c.in_ok-row.ensures ∙ (λ i. insert_row types (c.as_slice-ssas.ensures i) (c.as_slice-area.ensures i)))
    c.in-Some-root.ensures.value c.in_ok-image.ensures c.set_record.ensures

pub returns-clause-position : goal.returns-clause-position
returns-clause-position c = λ rows h.
    let types = c.args.dbd.now.types in
    subst (λ (p : Planned). IsPosition types p.position) (sym c.set_record.ensures)
    (record {
      position = insert_stands c.args.dbd.now c.args.call.now c.args.at c.args.seen.now rows h c.in_ok-row.row c.requires.ssas
          (c.in_ok-row.ensures ∙ (λ i. insert_row types (c.as_slice-ssas.ensures i) (c.as_slice-area.ensures i)));
      parentage = c.requires.position.parentage;
      hold = tt;
    })
