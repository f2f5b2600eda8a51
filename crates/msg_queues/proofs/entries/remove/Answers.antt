use Rattle.std.proofs.Common.{◌≡◌, ◌+◌, sym, ap, ◌∙◌}
use Rattle.std.specs.Option.{option_map, unwrap_or}
use Rattle.model_messages.specs.Room.{message_bytes, messages_bytes}
use Rattle.model_messages.specs.Queue.{queued_at, messages_of}
use Rattle.std.specs.Map.{values_of}
use Rattle.msg_queues.proofs.ById.{found_is, removed, keyed_removed, bytes_removed}
use Rattle.msg_queues.proofs.entries.remove.Goals as goal

pub returns-clause-value : goal.returns-clause-value
returns-clause-value c =
    ap values_of c.remove.ensures.entries ∙ removed c.args.id c.args.messages.now.entries c.requires.each c.requires.ascending

pub returns-clause-queued : goal.returns-clause-queued
returns-clause-queued c = c.remove.ensures.value ∙ sym (found_is c.args.id c.args.messages.now.entries c.requires.each)

pub returns-clause-bytes : goal.returns-clause-bytes
returns-clause-bytes c =
    let es = c.args.messages.now.entries in
    let e : c.remove.result ≡ queued_at c.args.id (values_of es) = c.remove.ensures.value ∙ sym (found_is c.args.id es c.requires.each) in
    (λ i. messages_bytes (messages_of ((ap values_of c.remove.ensures.entries ∙ removed c.args.id es c.requires.each c.requires.ascending) i))
    + unwrap_or (option_map (λ q. message_bytes q.message) (e i)) 0)
    ∙ bytes_removed c.args.id es c.requires

pub returns-clause-keyed : goal.returns-clause-keyed
returns-clause-keyed c =
    keyed_removed c.args.id c.args.messages.now.entries c.remove.new.self.entries c.requires c.remove.ensures.entries c.remove.ensures.ordered
