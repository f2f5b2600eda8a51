use Rattle.std.proofs.Common.{◌≡◌, ℕ, ◌*◌, ◌-◌, List, length, take, drop, ap, ◌∙◌, arith, min}
use Rattle.std.proofs.lemmas.List.{take_rest, take_min}
use Rattle.openings.proofs.filling.text_piece.Goals as goal

pub returns-clause-value : goal.returns-clause-value
returns-clause-value c =
    let bytes = c.args.text.now in
    let rest = drop (c.args.place * 4096) bytes in
    let slice = take (length bytes - c.args.place * 4096) rest in
    let whole : slice ≡ rest = take_rest bytes (c.args.place * 4096) in
    let count : c.min.result ≡ min 4096 (length rest) = omega (arith, ap (length {A = ℕ}) whole) in
    ap (λ k. take k slice) count ∙ ap (λ (l : List ℕ). take (min 4096 (length rest)) l) whole ∙ take_min 4096 rest
