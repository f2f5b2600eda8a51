use Rattle.std.proofs.Common.{◌≡◌, ap, ◌∙◌, Some, None}
use Rattle.std.specs.Prelude.{position}
use Rattle.model_messages.specs.Terminals.{with_conversation, is_conversation_of}
use Rattle.conversation.proofs.Terminals.{place_changed, none_changed}
use Rattle.image_records.specs.ChangeRecords.{of_conversation}
use Rattle.image_records.proofs.Named.{placed}
use Rattle.image_records.proofs.terminals.set_conversation.Goals as goal

pub returns-in-Some : goal.returns-in-Some
returns-in-Some c =
    let found : position (is_conversation_of c.args.name.now) c.args.terminals.now.items ≡ Some c.in-Some.place = placed of_conversation c.args.system.now.terminals c.args.name.now c.args.terminals.now.items (Some c.in-Some.place) c.requires c.in-Some.ensures.value in
    place_changed c.args.name.now (with_conversation c.args.conversation) c.args.terminals.now.items c.in-Some.place _ c.put_conversation.new.kept found
    (c.put_conversation.ensures ∙ ap (with_conversation c.args.conversation) c.index_mut.ensures.value)

pub returns-in-None : goal.returns-in-None
returns-in-None c =
    let none : position (is_conversation_of c.args.name.now) c.args.terminals.now.items ≡ None = placed of_conversation c.args.system.now.terminals c.args.name.now c.args.terminals.now.items None c.requires c.in-None.ensures.value in
    none_changed c.args.name.now (with_conversation c.args.conversation) c.args.terminals.now.items none
