use Rattle.std.proofs.Common.{◌≡◌, ◌∙◌, ap, List, ℕ, ◌++◌, ◌+◌, drop, take, length}
use Rattle.tm_disk.specs.Sector.{blank}
use Rattle.restart_data.proofs.Sealing.{seals_snapshot}
use Rattle.restart_data.proofs.snapshot_sector.seal.Goals as goal

pub returns : goal.returns
returns c =
    let front : c.set.new.self ≡ take 0 blank ++ c.header.result ++ drop (0 + length c.header.result) blank =
    c.set.ensures.value ∙ ap (λ (l : List ℕ). take 0 l ++ c.header.result ++ drop (0 + length c.header.result) l) c.blank-sector.ensures in
    c.set-2.ensures.value ∙ seals_snapshot c.args.checkpoint c.args.place c.args.payload.now c.header.result c.set.new.self c.requires c.header.ensures front
