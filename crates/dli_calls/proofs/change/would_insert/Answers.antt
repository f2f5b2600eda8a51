use Rattle.std.proofs.Common.{Some, sym, ◌∙◌}
use Rattle.model_data.specs.Path.{root_of}
use Rattle.model_data.specs.ChangeCalls.{insert_path, insert_fault}
use Rattle.dli_calls.proofs.OwnChanges.{insert_not, insert_does}
use Rattle.dli_calls.proofs.change.would_insert.Goals as goal

pub returns-in-Some : goal.returns-in-Some
returns-in-Some c = λ at rows h.
    insert_not c.args.dbd.now c.args.call.now at c.args.seen.now rows h c.in-Some.field-0
    (sym (c.in-Some.ensures ∙ (λ i. insert_fault (insert_path c.args.dbd.now.types (c.as_slice-ssas.ensures i) (c.as_slice-area.ensures i)) c.args.seen.now)))

pub returns-in-None : goal.returns-in-None
returns-in-None c = λ at rows h.
    (λ i. Some (c.insert_root.ensures i))
    ∙ ((λ i. Some (root_of (insert_path c.args.dbd.now.types (c.as_slice-ssas.ensures i) (c.as_slice-area.ensures i))))
    ∙ insert_does c.args.dbd.now c.args.call.now at c.args.seen.now rows h
    (sym (c.in-None.ensures ∙ (λ i. insert_fault (insert_path c.args.dbd.now.types (c.as_slice-ssas.ensures i) (c.as_slice-area.ensures i)) c.args.seen.now))))
