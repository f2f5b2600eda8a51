use Rattle.std.proofs.Common.{List, ℕ, length, get_or, ◌++◌, [], ◌∷◌, ap, sym, ◌∙◌}
use Rattle.std.proofs.lemmas.List.{take_more}
use Rattle.std.proofs.lemmas.Bool.{false≢true}
use Rattle.tm_disk.specs.Sector.{zeros}
use Rattle.log_sectors.proofs.Sealing.{zeros_none, zeros_more, get_or-zeros}
use Rattle.log_sectors.proofs.log_sector.all_zero.Goals as goal

pub loop-byte-init : goal.loop-byte-init
loop-byte-init c = sym zeros_none

pub returns-then-byte-ne0 : goal.returns-then-byte-ne0
returns-then-byte-ne0 c =
    let i = c.loop-byte.byte-index in (
      λ wrong. absurd (false≢true wrong),
      λ zero. absurd (c.if-byte-ne0.true (ap (λ (l : List ℕ). get_or l i 0) zero ∙ get_or-zeros (length c.args.bytes.now) i c.loop-byte-test.true)),
    )

pub loop-byte-preserved : goal.loop-byte-preserved
loop-byte-preserved c =
    let i = c.loop-byte.byte-index in
    take_more c.args.bytes.now i 0 c.loop-byte-test.true
    ∙ ap (λ (l : List ℕ). l ++ get_or c.args.bytes.now i 0 ∷ []) c.loop-byte.invariant
    ∙ ap (λ b. zeros i ++ b ∷ []) c.if-byte-ne0.false
    ∙ zeros_more i
