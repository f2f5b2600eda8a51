use Rattle.std.proofs.Common.{◌≡◌, ◌∙◌, ap, List, ℕ, ◌++◌, ◌+◌, drop, take, length}
use Rattle.tm_disk.specs.Sector.{blank}
use Rattle.restart_data.proofs.Sealing.{seals_restart}
use Rattle.restart_data.proofs.restart_sector.seal.Goals as goal

pub returns-clause-spelled : goal.returns-clause-spelled
returns-clause-spelled c =
    let front : c.set.new.self ≡ take 0 blank ++ c.front.result ++ drop (0 + length c.front.result) blank =
    c.set.ensures.value ∙ ap (λ (l : List ℕ). take 0 l ++ c.front.result ++ drop (0 + length c.front.result) l) c.blank-sector.ensures in
    c.set-2.ensures.value ∙ seals_restart c.args.value.now c.front.result c.back.result c.set.new.self c.front.ensures c.back.ensures front
