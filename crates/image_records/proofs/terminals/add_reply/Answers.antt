use Rattle.std.proofs.Common.{◌≡◌, ap, ◌∙◌, Some, None}
use Rattle.std.specs.Prelude.{position}
use Rattle.std.proofs.lemmas.Result.{IfOk-weaker}
use Rattle.model_messages.specs.Outputs.{are_replies_of}
use Rattle.model_image.specs.Snapshot.{with_kept}
use Rattle.out_queues.proofs.Terminals.{place_changed}
use Rattle.image_records.proofs.Places.{none_changed}
use Rattle.image_records.specs.ChangeRecords.{of_output}
use Rattle.image_records.proofs.Named.{placed}
use Rattle.image_records.proofs.terminals.add_reply.Goals as goal

pub returns-in-Some : goal.returns-in-Some
returns-in-Some c =
    let change = with_kept c.args.number c.args.segments in
    let found : position (are_replies_of c.args.name.now) c.args.terminals.now.items ≡ Some c.in-Some.place = placed of_output c.args.system.now.terminals c.args.name.now c.args.terminals.now.items (Some c.in-Some.place) c.requires c.in-Some.ensures.value in
    IfOk-weaker c.push_reply.result _ _
    (λ _ e. place_changed c.args.name.now change c.args.terminals.now.items c.in-Some.place _ c.push_reply.new.kept found (e ∙ ap change c.index_mut.ensures.value))
    c.push_reply.ensures

pub returns-in-None : goal.returns-in-None
returns-in-None c =
    let none : position (are_replies_of c.args.name.now) c.args.terminals.now.items ≡ None = placed of_output c.args.system.now.terminals c.args.name.now c.args.terminals.now.items None c.requires c.in-None.ensures.value in
    none_changed c.args.name.now (with_kept c.args.number c.args.segments) c.args.terminals.now.items none
