use Rattle.std.proofs.Common.{◌≡◌, ◌-◌, length, eqb, not, ◌&&◌, false, sym, ap, ◌∙◌, arith}
use Rattle.std.proofs.lemmas.Bool.{ne_eqb}
use Rattle.model_data.specs.Path.{parent_path}
use Rattle.model_data.specs.Search.{is_row_there}
use Rattle.model_data.specs.ChangeCalls.{insert_path}
use Rattle.dli_calls.proofs.Asking.{insert_named, insert_some, insert_length, insert_parent, named_front}
use Rattle.dli_calls.proofs.inserting.lacks_parent.Goals as goal

pub has_asked-requires-clause-named : goal.has_asked-requires-clause-named
has_asked-requires-clause-named c =
    named_front c.args.types.now (length c.args.ssas.now - 1) c.args.ssas.now (insert_named c.args.types.now 0 c.args.ssas.now c.requires.ssas)

pub returns : goal.returns
returns c =
    let types = c.args.types.now in
    let ssas = c.args.ssas.now in
    let area = c.args.area.now in
    let some = insert_some types 0 ssas c.requires.ssas in
    let other : eqb (length (insert_path types ssas area)) 1 ≡ false =
    ap (λ n. eqb n 1) (insert_length types area ssas) ∙ ne_eqb (length ssas) 1 (λ e. absurd (omega arith)) in
    ap not (c.has_asked.ensures ∙ ap (λ p. is_row_there p c.args.seen.now) (sym (insert_parent types area ssas (length ssas - 1) (omega arith))))
    ∙ sym (ap (λ b. not b && not (is_row_there (parent_path (insert_path types ssas area)) c.args.seen.now)) other)
