-- The first of the lines that are left.
use Rattle.std.proofs.Common.{ℕ, suc, ◌≡◌, ◌+◌, ◌<◌, List, [], ◌∷◌, ◌++◌, length, take, drop, get_or, sym, ap, ◌∙◌, drop-cons, add-one}
use Rattle.std.proofs.lemmas.List.{take_more}
use Rattle.system_types.specs.declared.definition.MacroLine.{MacroLine}

-- the first of the lines that are left, and the lines up to it
pub cut_at : (lines : List MacroLine) (index : ℕ) (line : MacroLine) → index < length lines → line ≡ get_or lines index line → drop index lines ≡ line ∷ drop (index + 1) lines
cut_at lines index line h e = rw (add-one index) (drop-cons lines index line h ∙ ap (λ (l : MacroLine). l ∷ drop (suc index) lines) (sym e))

pub more_at : (lines : List MacroLine) (index : ℕ) (line : MacroLine) → index < length lines → line ≡ get_or lines index line → take (index + 1) lines ≡ take index lines ++ line ∷ []
more_at lines index line h e = take_more lines index line h ∙ ap (λ (l : MacroLine). take index lines ++ l ∷ []) (sym e)
