-- The end of a conversation, by what the terminal's conversation answers.
use Rattle.std.proofs.Common.{◌≡◌, ℕ, List, refl, ap}
use Rattle.std.specs.Prelude.{Option, Some, None, Result, Ok, Err}
use Rattle.conversation.specs.declared.conversations.Busy.{Busy as BusyMessage}
use Rattle.conversation.specs.Refusals.{conversation_answer as conversation_answer}
use Rattle.model_messages.specs.declared.conversation.Conversation.{Conversation}
use Rattle.model_machine.specs.declared.answer.Answer.TheVariants.{Exited}
use Rattle.model_machine.specs.declared.entry.CommandRefused.TheVariants.{Busy, NoConversation}
use Rattle.model_machine.specs.CommandAnswers.{exited}

pub exited_some : (name : List ℕ) (conversation : Option Conversation) (busy : Option ℕ) (code : List ℕ) → Ok (Some code) ≡ conversation_answer conversation busy → Ok (Exited name) ≡ exited name conversation busy
exited_some name None busy code e = cc
exited_some name (Some c) None code e = refl
exited_some name (Some c) (Some id) code e = cc

pub exited_none : (name : List ℕ) (conversation : Option Conversation) (busy : Option ℕ) → Ok None ≡ conversation_answer conversation busy → Err NoConversation ≡ exited name conversation busy
exited_none name None busy e = refl
exited_none name (Some c) None e = cc
exited_none name (Some c) (Some id) e = cc

abbrev id_in : Result (Option (List ℕ)) BusyMessage → ℕ
id_in (Err busy) = busy.id
id_in (Ok code) = 0

pub exited_busy : (name : List ℕ) (conversation : Option Conversation) (busy : Option ℕ) (id : ℕ) → Err (record { id = id }) ≡ conversation_answer conversation busy → Err (Busy id) ≡ exited name conversation busy
exited_busy name None busy id e = cc
exited_busy name (Some c) None id e = cc
exited_busy name (Some c) (Some other) id e = ap (λ n. Err (Busy n)) (ap id_in e)

pub ruleset ended_answers = (exited_some, exited_none, exited_busy)
