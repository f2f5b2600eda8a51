use Rattle.std.proofs.Common.{◌≡◌, List, ℕ, ◌≤◌, length, take, drop, ◌++◌, ap, ◌∙◌, ◌+◌, arith}
use Rattle.log_sectors.specs.SealedSector.{header}
use Rattle.log_sectors.proofs.Sealing.{reseals}
use Rattle.log_sectors.proofs.log_sector.reseal.Goals as goal

pub returns : goal.returns
returns c =
    let old = c.args.sector.now in
    let payload = c.args.payload.now in
    let h = header c.args.epoch c.args.sequence (length payload) in
    let most : length payload ≤ c.max-end.result = omega arith in
    let before_end : c.args.held ≤ c.max-end.result = omega arith in
    let fits : c.max-end.result ≤ 4064 = omega (arith, c.requires.fits, c.requires.few) in
    let front : c.set.new.self ≡ take 0 old ++ h ++ drop (0 + length h) old =
    c.set.ensures.value ∙ ap (λ (l : List ℕ). take 0 old ++ l ++ drop (0 + length l) old) c.header.ensures in
    c.clear.ensures ∙ reseals c.args.epoch c.args.sequence c.args.held c.max-end.result payload old c.set.new.self c.set-2.new.self most before_end fits c.requires.behind front c.set-2.ensures.value
