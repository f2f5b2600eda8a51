use Rattle.std.proofs.Common.{◌≡◌, ap, ◌∙◌, Some, None}
use Rattle.std.specs.Prelude.{position}
use Rattle.model_messages.specs.Outputs.{with_next, are_replies_of}
use Rattle.out_queues.proofs.Terminals.{place_changed}
use Rattle.image_records.proofs.Places.{none_changed}
use Rattle.image_records.specs.ChangeRecords.{of_output}
use Rattle.image_records.proofs.Named.{placed}
use Rattle.image_records.proofs.terminals.set_next.Goals as goal

pub returns-in-Some : goal.returns-in-Some
returns-in-Some c =
    let found : position (are_replies_of c.args.name.now) c.args.terminals.now.items ≡ Some c.in-Some.place = placed of_output c.args.system.now.terminals c.args.name.now c.args.terminals.now.items (Some c.in-Some.place) c.requires c.in-Some.ensures.value in
    place_changed c.args.name.now (with_next c.args.number) c.args.terminals.now.items c.in-Some.place _ c.put_next.new.kept found
    (c.put_next.ensures ∙ ap (with_next c.args.number) c.index_mut.ensures.value)

pub returns-in-None : goal.returns-in-None
returns-in-None c =
    let none : position (are_replies_of c.args.name.now) c.args.terminals.now.items ≡ None = placed of_output c.args.system.now.terminals c.args.name.now c.args.terminals.now.items None c.requires c.in-None.ensures.value in
    none_changed c.args.name.now (with_next c.args.number) c.args.terminals.now.items none
