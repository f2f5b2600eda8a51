use Rattle.std.proofs.Common.{◌≡◌, ◌∙◌, false, length, ap, subst, sym}
use Rattle.std.specs.Prelude.{Result, Ok, Err, IfOk}
use Rattle.model_system.specs.System.{System}
use Rattle.model_session.specs.declared.asked.Asked.{Asked}
use Rattle.model_session.specs.Blocks.{Block, block_alone}
use Rattle.model_session.specs.Lines.{asked_of, block_form, is_command}
use Rattle.model_session.specs.BoundedBlocks.{AsksAlike, whole, with_lines}
use Rattle.session_lines.specs.BlockReading.{HasFew}
use Rattle.session_lines.proofs.Enough.{enough_asked}
use Rattle.session_lines.proofs.asking.read_block.Goals as goal

asks_enough : {E : Type 0} (system : System) (block kept : Block) (all : Asked) (result : Result Asked E) → block ≡ kept → AsksAlike (asked_of system kept) all
    → IfOk result (λ asked. asked ≡ asked_of system block) → IfOk result (λ asked. AsksAlike asked all)
asks_enough system block kept all (Ok asked) made enough is = subst (λ (a : Asked). AsksAlike a all) (sym (is ∙ ap (λ (b : Block). asked_of system b) made)) enough
asks_enough system block kept all (Err error) made enough is = tt

abbrev IsFew : System → Block → Type 0
IsFew system block = is_command block.line ≡ false → HasFew system (block_form (length system.regions) block)

few_kept : (system : System) (block kept : Block) → block ≡ kept → IsFew system block → IsFew system kept
few_kept system block kept made few = subst (λ (b : Block). IsFew system b) made few

pub returns-clause-enough : goal.returns-clause-enough
returns-clause-enough c = λ line lines takes made.
    asks_enough c.args.system.now c.args.block.now (with_lines (block_alone line) lines) (asked_of c.args.system.now (whole line lines)) c.asked_block.result made
    (enough_asked c.args.system.now line lines takes (few_kept c.args.system.now c.args.block.now (with_lines (block_alone line) lines) made c.asked_block.ensures.few)) c.asked_block.ensures.asked
