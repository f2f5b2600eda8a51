-- What a terminal is shown, by its place and whether it is stopped.
use Rattle.std.proofs.Common.{◌≡◌, ℕ, Bool, true, false, List, refl, sym, ◌∙◌, subst, map}
use Rattle.std.specs.Prelude.{Option, Some, None, IsSomeAnd, slice_get, if◌then◌else◌}
use Rattle.std.specs.List.{position}
use Rattle.std.specs.Str.{bytes_eq}
use Rattle.std.proofs.Common.{Bor}
use Rattle.tm_types.specs.declared.message.Reply.{Reply}
use Rattle.model_messages.specs.declared.replies.TerminalReplies.{TerminalReplies}
use Rattle.model_machine.specs.declared.entry.ShowAnswer.{ShowAnswer}
use Rattle.model_machine.specs.declared.entry.ShowAnswer.TheVariants.{Reply as ShowReply, Empty as ShowEmpty, Stopped as ShowStopped, Unknown as ShowUnknown}
use Rattle.model_machine.specs.declared.lasting.TerminalState.{TerminalState}
use Rattle.model_machine.specs.Machine.{terminal_at}
use Rattle.model_machine.specs.MachineCalls.{show_by, show_to}
use Rattle.lasting_state.specs.declared.shown.Shown.{Shown}
use Rattle.lasting_state.specs.declared.shown.Shown.TheVariants.{Reply as ShownReply, Empty, Stopped, Unknown}
use Rattle.lasting_state.specs.ShownTerminal.{IsShown, IsShownTo, IsShownWhere}
use Rattle.tm_machine.proofs.Asked.{place_is, at_place}

-- the answer that tells of it
abbrev pub answer_of : Shown → ShowAnswer
answer_of (ShownReply reply) = ShowReply reply.now.number
answer_of Empty = ShowEmpty
answer_of Stopped = ShowStopped
answer_of Unknown = ShowUnknown

told_by : (output : Option TerminalReplies) (shown : Shown) → IsShown output shown → answer_of shown ≡ show_by output
told_by (Some output) (ShownReply reply) is = rw is refl
told_by (Some output) Empty is = rw is refl
told_by (Some output) Stopped is = absurd is
told_by (Some output) Unknown is = absurd is
told_by None (ShownReply reply) is = absurd is
told_by None Empty is = absurd is
told_by None Stopped is = absurd is
told_by None Unknown is = refl

told_where : (stopped : Bool) (output : Option TerminalReplies) (shown : Shown) → IsShownWhere stopped output shown → answer_of shown ≡ (if stopped then ShowStopped else show_by output)
told_where true output (ShownReply reply) is = absurd is
told_where true output Empty is = absurd is
told_where true output Stopped is = refl
told_where true output Unknown is = absurd is
told_where false output shown is = told_by output shown is

pub told_to : (terminal : Option TerminalState) (output : Option TerminalReplies) (shown : Shown) → IsShownTo terminal output shown → answer_of shown ≡ show_to terminal output
told_to None output shown is = told_by None shown is
told_to (Some terminal) output shown is = told_where terminal.stopped output shown is

pub unknown_told : (terminal : Option TerminalState) (output : Option TerminalReplies) → IsShownTo terminal output Unknown → ShowUnknown ≡ show_to terminal output
unknown_told terminal output is = told_to terminal output Unknown is

pub stopped_told : (terminal : Option TerminalState) (output : Option TerminalReplies) → IsShownTo terminal output Stopped → ShowStopped ≡ show_to terminal output
stopped_told terminal output is = told_to terminal output Stopped is

pub empty_told : (terminal : Option TerminalState) (output : Option TerminalReplies) → IsShownTo terminal output Empty → ShowEmpty ≡ show_to terminal output
empty_told terminal output is = told_to terminal output Empty is

pub reply_told : (terminal : Option TerminalState) (output : Option TerminalReplies) (reply : Bor Reply) → IsShownTo terminal output (ShownReply reply) → ShowReply reply.now.number ≡ show_to terminal output
reply_told terminal output reply is = told_to terminal output (ShownReply reply) is

pub ruleset shown_answers = (unknown_told, stopped_told, empty_told, reply_told)

-- ---- by the terminal's place
module _ (terminals : List TerminalState) (names : List (List ℕ)) (same : map (λ t. t.name) terminals ≡ names) (name : List ℕ) (output : Option TerminalReplies) where
  abbrev place_here : Option ℕ
  place_here = position (λ n. bytes_eq n name) names

  pub none_shown : None ≡ place_here → IsShownTo (terminal_at terminals name) output Unknown
  none_shown none =
      subst (λ (t : Option TerminalState). IsShownTo t output Unknown) (sym (at_place terminals name None (sym (place_is terminals names name same) ∙ sym none))) tt

  at_here : (place : ℕ) → Some place ≡ place_here → terminal_at terminals name ≡ slice_get terminals place
  at_here place at = at_place terminals name (Some place) (sym (place_is terminals names name same) ∙ sym at)

  where_stopped : (found : Option TerminalState) (stopped : Bool) (shown : Shown) → IsSomeAnd found (λ t. stopped ≡ t.stopped) → IsShownWhere stopped output shown → IsShownTo found output shown
  where_stopped (Some t) stopped shown known is = subst (λ b. IsShownWhere b output shown) known is
  where_stopped None stopped shown known is = absurd known

  pub place_shown : (place : ℕ) → Some place ≡ place_here → (stopped : Bool) → IsSomeAnd (slice_get terminals place) (λ t. stopped ≡ t.stopped) → (shown : Shown) → IsShownWhere stopped output shown
      → IsShownTo (terminal_at terminals name) output shown
  place_shown place at stopped known shown is =
      subst (λ (t : Option TerminalState). IsShownTo t output shown) (sym (at_here place at)) (where_stopped (slice_get terminals place) stopped shown known is)
