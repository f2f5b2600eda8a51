use Rattle.std.proofs.Common.{◌≡◌, ℕ, ◌*◌, ◌-◌, List, length, take, drop, ap, sym, ◌∙◌, arith, min}
use Rattle.std.proofs.lemmas.List.{take_rest, take_min}
use Rattle.log_writer.specs.ForcedLog.{log_sectors_of}
use Rattle.log_writer.proofs.Laying.{piece-pieces}
use Rattle.log_writer.proofs.lay.piece.Goals as goal

pub returns-clause-value : goal.returns-clause-value
returns-clause-value c =
    let bytes = c.args.bytes.now in
    let rest = drop (c.args.place * 4064) bytes in
    let slice = take (length bytes - c.args.place * 4064) rest in
    let whole : slice ≡ rest = take_rest bytes (c.args.place * 4064) in
    let count : c.min.result ≡ min 4064 (length rest) = omega (arith, ap (length {A = ℕ}) whole) in
    ap (λ k. take k slice) count ∙ ap (λ (l : List ℕ). take (min 4064 (length rest)) l) whole ∙ take_min 4064 rest
    ∙ sym (piece-pieces (log_sectors_of (length bytes)) c.args.place bytes c.requires)
