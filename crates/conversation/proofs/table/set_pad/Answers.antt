use Rattle.std.proofs.Common.{◌≡◌, sym, ap, ◌∙◌, Some, None}
use Rattle.std.specs.Prelude.{position}
use Rattle.model_messages.specs.Terminals.{is_conversation_of}
use Rattle.conversation.specs.Changes.{with_new_pad}
use Rattle.conversation.proofs.Terminals.{place_changed, none_changed}
use Rattle.conversation.proofs.table.set_pad.Goals as goal

pub returns-in-Some : goal.returns-in-Some
returns-in-Some c =
    let found : position (is_conversation_of c.args.name.now) c.args.terminals.now.items ≡ Some c.in-Some.place = ap (position (is_conversation_of c.args.name.now)) (sym c.deref.ensures.value) ∙ sym c.in-Some.ensures in
    place_changed c.args.name.now (with_new_pad c.args.pad) c.args.terminals.now.items c.in-Some.place _ c.put_pad.new.kept found
    (c.put_pad.ensures ∙ ap (with_new_pad c.args.pad) c.index_mut.ensures.value)

pub returns-in-None : goal.returns-in-None
returns-in-None c =
    let none : position (is_conversation_of c.args.name.now) c.args.terminals.now.items ≡ None = ap (position (is_conversation_of c.args.name.now)) (sym c.deref.ensures.value) ∙ sym c.in-None.ensures in
    none_changed c.args.name.now (with_new_pad c.args.pad) c.args.terminals.now.items none
