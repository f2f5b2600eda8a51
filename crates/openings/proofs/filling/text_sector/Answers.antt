use Rattle.std.proofs.Common.{◌-◌, ◌+◌, ◌++◌, ℕ, List, length, take, drop, ap, ◌∙◌}
use Rattle.tm_disk.specs.Sector.{zeros}
use Rattle.openings.proofs.Laying.{put_front}
use Rattle.openings.proofs.filling.text_sector.Goals as goal

pub returns : goal.returns
returns c =
    put_front c.text_piece.result.now c.set.new.self
    (c.set.ensures.value ∙ ap (λ (s : List ℕ). take 0 s ++ c.text_piece.result.now ++ drop (0 + length c.text_piece.result.now) s) c.blank-sector.ensures)
    ∙ ap (λ (l : List ℕ). l ++ zeros (4096 - length l)) c.text_piece.ensures.value
