-- Steps of reading a block.
use Rattle.std.specs.Prelude.{ℕ, ◌≡◌, ◌≤◌, ◌^◌, ⊤, true, false, length, Option, Some, IfSome, Result, Ok}
use Rattle.std.specs.List.{list_all}
use Rattle.model_session.specs.declared.asked.Form.{Form}
use Rattle.model_session.specs.declared.asked.Form.TheVariants.{Input, Screen, Receive, Acknowledge, Turn, Quiet, Power, PowerIn}
use Rattle.tm_types.specs.Segment.{are_printable}
use Rattle.model_system.specs.SystemFormats.{format_of}
use Rattle.model_system.specs.System.{System}
use Rattle.model_session.specs.Blocks.{Block}
use Rattle.model_session.specs.Lines.{block_form, is_command}
use Rattle.session_lines.specs.declared.asking.Stop.{Stop}
use Rattle.session_lines.specs.declared.asking.Stop.TheVariants.{TooLong, Memory}

-- each byte of the line of a block, and of the texts that are kept, is printable
pub record IsPrintable (block : Block) : Type 0 where
  pub line : are_printable block.line ≡ true
  pub further : list_all are_printable block.further ≡ true

-- no input was made since this segment is too long, or for want of memory
abbrev pub IsStop : Option ℕ → Stop → Type 0
IsStop first (TooLong long) = first ≡ Some long
IsStop first Memory = Unit {0}

-- the same for lines that are counted: with memory only where so many can't be
abbrev pub IsFullStop : Option ℕ → ℕ → Stop → Type 0
IsFullStop first count (TooLong long) = first ≡ Some long
IsFullStop first count Memory = 2 ^ 64 ≤ count

-- an input or a screen, well formed
abbrev pub WantsInput : Result Form ℕ → Type 0
WantsInput (Ok (Input terminal number)) = ⊤
WantsInput (Ok (Screen terminal number)) = ⊤
WantsInput _ = ⊥

-- Want of memory comes only for an input or a screen that breaks no rule of lines.
pub record MayWant (regions : ℕ) (block : Block) : Type 0 where
  pub no_command : is_command block.line ≡ false
  pub form : WantsInput (block_form regions block)

-- a region's number is one of so many, and a count of writes is at least 1
abbrev pub IsFormWithin : ℕ → Form → Type 0
IsFormWithin regions (Turn region) = (1 ≤ region) × (region ≤ regions)
IsFormWithin regions (Input terminal number) = ⊤
IsFormWithin regions (Screen terminal number) = ⊤
IsFormWithin regions (Receive terminal) = ⊤
IsFormWithin regions (Acknowledge terminal number) = ⊤
IsFormWithin regions (Quiet most) = ⊤
IsFormWithin regions (Power pick) = ⊤
IsFormWithin regions (PowerIn writes pick) = 1 ≤ writes

-- the format of a screen's terminal has no more fields than a screen has places
abbrev pub HasFew : System → Result Form ℕ → Type 0
HasFew system (Ok (Screen terminal number)) = IfSome (format_of system terminal) (λ format. length format.fields ≤ 1920)
HasFew system _ = ⊤
