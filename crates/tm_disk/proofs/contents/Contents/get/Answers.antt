use Rattle.std.proofs.Common.{◌<◌, length, arith, sym, ◌∙◌, ap}
use Rattle.std.proofs.lemmas.List.{get_or_read}
use Rattle.tm_disk.specs.Disk.{Image, sector_at}
use Rattle.tm_disk.specs.NumberedSectors.{made_by}
use Rattle.tm_disk.proofs.Numbers.{length_image_by, sector_at-image_by}
use Rattle.tm_disk.proofs.contents.Contents.get.Goals as goal

pub index-requires : goal.index-requires
index-requires c =
    let m = c.args.self.now in
    omega (arith, c.requires, length_image_by m.writes.items m.synced.items, m.numbers.size, m.shown.ok, m.synced.ok)

pub made-requires : goal.made-requires
made-requires c =
    let m = c.args.self.now in
    let inside : c.args.at < length m.shown.items = omega (arith, c.requires, length_image_by m.writes.items m.synced.items, m.numbers.size) in
    let number = get_or_read m.shown.items c.args.at c.index.result.now inside c.index.ensures 0 in
    omega (arith, number, m.numbers.shown_in c.args.at 0 inside)

pub returns : goal.returns
returns c =
    let m = c.args.self.now in
    let inside : c.args.at < length m.shown.items = omega (arith, c.requires, length_image_by m.writes.items m.synced.items, m.numbers.size) in
    c.made.ensures
    ∙ ap (made_by m.writes.items) (get_or_read m.shown.items c.args.at c.index.result.now inside c.index.ensures 0)
    ∙ sym (sector_at-image_by m.writes.items m.shown.items c.args.at inside)
    ∙ ap (λ (i : Image). sector_at i c.args.at) m.sound.shown_is
