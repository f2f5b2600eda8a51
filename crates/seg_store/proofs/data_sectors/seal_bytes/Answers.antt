use Rattle.std.proofs.Common.{◌≡◌, ◌∙◌, ap, List, ℕ, ◌++◌, ◌+◌, drop, take, length}
use Rattle.tm_disk.specs.Sector.{blank}
use Rattle.seg_store.proofs.Sealing.{put_after}
use Rattle.seg_store.proofs.data_sectors.seal_bytes.Goals as goal

pub returns : goal.returns
returns c =
    let front : c.set.new.self ≡ take 0 blank ++ c.header.result ++ drop (0 + length c.header.result) blank =
    c.set.ensures.value ∙ ap (λ (l : List ℕ). take 0 l ++ c.header.result ++ drop (0 + length c.header.result) l) c.blank-sector.ensures in
    c.set-2.ensures.value ∙ put_after c.args.bytes.now c.header.result c.set.new.self front c.header.ensures c.requires
