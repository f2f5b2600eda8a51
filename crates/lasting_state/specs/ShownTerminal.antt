-- What a terminal is shown.
use Rattle.std.specs.Prelude.{◌≡◌, Bool, true, false, Option, Some, None, slice_get}
use Rattle.model_messages.specs.declared.replies.TerminalReplies.{TerminalReplies}
use Rattle.model_machine.specs.declared.lasting.TerminalState.{TerminalState}
use Rattle.lasting_state.specs.declared.shown.Shown.{Shown}
use Rattle.lasting_state.specs.declared.shown.Shown.TheVariants.{Reply, Empty, Stopped, Unknown}

-- the terminal's first reply, or nothing where none is kept; or there is no such terminal
abbrev pub IsShown : Option TerminalReplies → Shown → Type 0
IsShown (Some terminal) (Reply reply) = slice_get terminal.replies 0 ≡ Some reply.now
IsShown (Some terminal) Empty = slice_get terminal.replies 0 ≡ None
IsShown (Some terminal) Stopped = ⊥
IsShown (Some terminal) Unknown = ⊥
IsShown None (Reply reply) = ⊥
IsShown None Empty = ⊥
IsShown None Stopped = ⊥
IsShown None Unknown = Unit {0}

-- the same to a terminal that may be stopped, which is shown nothing then
abbrev pub IsStopped : Shown → Type 0
IsStopped (Reply reply) = ⊥
IsStopped Empty = ⊥
IsStopped Stopped = Unit {0}
IsStopped Unknown = ⊥

abbrev pub IsShownWhere : Bool → Option TerminalReplies → Shown → Type 0
IsShownWhere true output shown = IsStopped shown
IsShownWhere false output shown = IsShown output shown

abbrev pub IsShownTo : Option TerminalState → Option TerminalReplies → Shown → Type 0
IsShownTo None output shown = IsShown None shown
IsShownTo (Some terminal) output shown = IsShownWhere terminal.stopped output shown
