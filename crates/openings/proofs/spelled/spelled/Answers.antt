use Rattle.std.proofs.Common.{List, sym, subst}
use Rattle.std.proofs.lemmas.Result.{IfOk-weaker}
use Rattle.model_messages.specs.declared.conversation.TerminalConversation.{TerminalConversation}
use Rattle.checkpointing.specs.SpelledRecords.{HaveRoom}
use Rattle.openings.proofs.FirstSnapshot.{no_pads, spelled_first}
use Rattle.openings.proofs.spelled.spelled.Goals as goal

pub write_first-requires-clause-pads : goal.write_first-requires-clause-pads
write_first-requires-clause-pads c = subst (λ (l : List TerminalConversation). HaveRoom l) (sym c.requires.conversations) (no_pads c.args.system.now.terminals)

pub returns : goal.returns
returns c =
    IfOk-weaker c.write_first.result _ _ (λ bytes adds. spelled_first c.args.system.now c.args.terminals.now c.args.outputs.now c.args.conversations.now c.args.codes.now bytes.items c.requires.terminals c.requires.outputs c.requires.conversations c.requires.codes adds) c.write_first.ensures
