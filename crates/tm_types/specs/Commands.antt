-- The commands of an operator that last, and how each is spelled.
use Rattle.std.specs.Prelude.{⊤, ◌≡◌, ◌≤◌, ℕ, if◌then◌else◌, Option, None, Some, List, ◌++◌, codes, decimal}
use Rattle.std.specs.Str.{bytes_eq}
use Rattle.tm_types.specs.Name.{IsName, is_name}
use Rattle.tm_types.specs.Words.{first_word, operands}
use Rattle.tm_types.specs.Digits.{spelled_number}
use Rattle.tm_types.specs.declared.command.LastingCommand.{LastingCommand}
use Rattle.tm_types.specs.declared.command.LastingCommand.TheVariants.{StartTransaction, StopTransaction, StartTerminal, StopTerminal, DequeueFirst, DequeueAll, Exit, AssignClass, AssignPriority}

-- the one spelling of each
abbrev pub command_spelling : LastingCommand → List ℕ
command_spelling (StartTransaction code) = codes "/START TRANSACTION " ++ code
command_spelling (StopTransaction code) = codes "/STOP TRANSACTION " ++ code
command_spelling (StartTerminal terminal) = codes "/START LTERM " ++ terminal
command_spelling (StopTerminal terminal) = codes "/STOP LTERM " ++ terminal
command_spelling (DequeueFirst terminal) = codes "/DEQUEUE LTERM " ++ (terminal ++ codes " PURGE1")
command_spelling (DequeueAll terminal) = codes "/DEQUEUE LTERM " ++ (terminal ++ codes " PURGE")
command_spelling (Exit terminal) = codes "/EXIT " ++ terminal
command_spelling (AssignClass code class) = codes "/ASSIGN TRANSACTION " ++ (code ++ (codes " CLASS " ++ decimal class))
command_spelling (AssignPriority code priority) = codes "/ASSIGN TRANSACTION " ++ (code ++ (codes " PRIORITY " ++ decimal priority))

-- the code or terminal that it names
abbrev pub name_in : LastingCommand → List ℕ
name_in (StartTransaction code) = code
name_in (StopTransaction code) = code
name_in (StartTerminal terminal) = terminal
name_in (StopTerminal terminal) = terminal
name_in (DequeueFirst terminal) = terminal
name_in (DequeueAll terminal) = terminal
name_in (Exit terminal) = terminal
name_in (AssignClass code class) = code
name_in (AssignPriority code priority) = code

-- a class that is assigned is 1 to 255, and a priority 0 to 14
abbrev pub IsAssigned : LastingCommand → Type 0
IsAssigned (AssignClass code class) = (1 ≤ class) × (class ≤ 255)
IsAssigned (AssignPriority code priority) = priority ≤ 14
IsAssigned _ = ⊤

-- what it names is a name, and what it assigns may be
abbrev pub IsSpellable : LastingCommand → Type 0
IsSpellable command = IsName (name_in command) × IsAssigned command

-- the text is the command's spelling, what it names is a name, and what it assigns may be
pub record SpellsCommand (text : List ℕ) (command : LastingCommand) : Type 0 where
  pub spelled : text ≡ command_spelling command
  pub named : IsName (name_in command)
  pub assigned : IsAssigned command

-- ---- the command that a text spells, by its words

abbrev pub named : (List ℕ → LastingCommand) → List ℕ → Option LastingCommand
named command word = if is_name word then Some (command word) else None

-- behind /START, and behind /STOP
unfoldable pub start_in : List ℕ → Option LastingCommand
start_in text =
    if bytes_eq (first_word text) (codes "TRANSACTION") then named (λ code. StartTransaction code) (operands text)
    else if bytes_eq (first_word text) (codes "LTERM") then named (λ terminal. StartTerminal terminal) (operands text)
    else None

unfoldable pub stop_in : List ℕ → Option LastingCommand
stop_in text =
    if bytes_eq (first_word text) (codes "TRANSACTION") then named (λ code. StopTransaction code) (operands text)
    else if bytes_eq (first_word text) (codes "LTERM") then named (λ terminal. StopTerminal terminal) (operands text)
    else None

-- behind /DEQUEUE LTERM, and behind /DEQUEUE
unfoldable pub purge_in : List ℕ → Option LastingCommand
purge_in text =
    if bytes_eq (operands text) (codes "PURGE1") then named (λ terminal. DequeueFirst terminal) (first_word text)
    else if bytes_eq (operands text) (codes "PURGE") then named (λ terminal. DequeueAll terminal) (first_word text)
    else None

unfoldable pub dequeue_in : List ℕ → Option LastingCommand
dequeue_in text = if bytes_eq (first_word text) (codes "LTERM") then purge_in (operands text) else None

-- behind /ASSIGN TRANSACTION, and behind /ASSIGN
abbrev pub assigned : (List ℕ → ℕ → LastingCommand) → List ℕ → Option ℕ → Option LastingCommand
assigned command word None = None
assigned command word (Some number) = named (λ code. command code number) word

unfoldable pub assigned_in : List ℕ → Option LastingCommand
assigned_in text =
    if bytes_eq (first_word (operands text)) (codes "CLASS")
    then assigned (λ code class. AssignClass code class) (first_word text) (spelled_number 1 255 (operands (operands text)))
    else if bytes_eq (first_word (operands text)) (codes "PRIORITY")
    then assigned (λ code priority. AssignPriority code priority) (first_word text) (spelled_number 0 14 (operands (operands text)))
    else None

unfoldable pub assign_in : List ℕ → Option LastingCommand
assign_in text = if bytes_eq (first_word text) (codes "TRANSACTION") then assigned_in (operands text) else None

unfoldable pub command_in : List ℕ → Option LastingCommand
command_in text =
    if bytes_eq (first_word text) (codes "/START") then start_in (operands text)
    else if bytes_eq (first_word text) (codes "/STOP") then stop_in (operands text)
    else if bytes_eq (first_word text) (codes "/DEQUEUE") then dequeue_in (operands text)
    else if bytes_eq (first_word text) (codes "/EXIT") then named (λ terminal. Exit terminal) (operands text)
    else if bytes_eq (first_word text) (codes "/ASSIGN") then assign_in (operands text)
    else None
