-- Lines that are read one after another.
use Rattle.std.proofs.Common.{ℕ, ◌≡◌, ◌+◌, suc, ◌<◌, List, [], ◌∷◌, ◌++◌, length, drop, get_or, Result, Ok, Err, refl, ap, append_assoc, sym, drop-cons, add-one, ◌∙◌}
use Rattle.text_rows.specs.Refusals.{values_behind, then_lines}

-- a value that was read goes behind those before it
pub behind_then : {A : Type 0} → (items : List A) (item : A) (rest : Result (List A) (ℕ × ℕ)) → values_behind items (then_lines (Ok item) rest) ≡ values_behind (items ++ item ∷ []) rest
behind_then items item (Ok more) = ap Ok (sym (append_assoc items (item ∷ []) more))
behind_then items item (Err fault) = refl

-- the line at an index, and the lines behind it
pub line_at : {A : Type 0} → (index : ℕ) (lines : List A) (line : A) → index < length lines → line ≡ get_or lines index line → drop index lines ≡ line ∷ drop (index + 1) lines
line_at index lines line h e = rw add-one (drop-cons lines index line h ∙ ap (λ l. l ∷ drop (suc index) lines) (sym e))
