use Rattle.std.proofs.Common.{◌+◌, ◌-◌, sym, ◌∙◌, ap, subst, arith, IsTrue}
use Rattle.tm_disk.specs.Disk.{Image, sector_at}
use Rattle.model_image.specs.RecoveredState.{first_later}
use Rattle.image_reading.proofs.Areas.{later_behind, none_behind}
use Rattle.image_reading.proofs.area.read_area.Goals as goal

pub first_later_from-requires-clause-read : goal.first_later_from-requires-clause-read
first_later_from-requires-clause-read g c tells =
    let keeps = c.read_chain_by.ensures.keeps in
    c.in-Ok.ensures.behind (subst (λ b. IsTrue b) keeps.stays.tells tells) (omega (arith, c.in-Ok.ensures.few, c.if-sectors-count.false)) ∙ ap (λ (i : Image). sector_at i (c.args.first + c.in-Ok.chain.sectors)) (sym keeps.shown)

pub returns-then-sectors-count-clause-value : goal.returns-then-sectors-count-clause-value
returns-then-sectors-count-clause-value g c tells =
    let image = (g.D.Disk.state c.args.disk.now).shown in
    let sectors = c.in-Ok.ensures.sectors tells in
    record {
      payload = c.in-Ok.ensures.payload tells;
      sectors = sectors;
      later = none_behind c.args.count image c.args.first c.args.sequence c.args.epoch c.in-Ok.chain.sectors (omega (arith, c.ranges.epoch.fits)) sectors (omega (arith, c.if-sectors-count.true));
    }

pub returns-in-Ok-first_later_from-clause-value : goal.returns-in-Ok-first_later_from-clause-value
returns-in-Ok-first_later_from-clause-value g c tells =
    let image = (g.D.Disk.state c.args.disk.now).shown in
    let keeps = c.read_chain_by.ensures.keeps in
    let sectors = c.in-Ok.ensures.sectors tells in
    record {
      payload = c.in-Ok.ensures.payload tells;
      sectors = sectors;
      later = c.in-Ok-first_later_from.ensures.value (subst (λ b. IsTrue b) (sym keeps.stays.tells) tells)
          ∙ ap (λ (i : Image). first_later (c.args.count - c.in-Ok.chain.sectors) i (c.args.first + c.in-Ok.chain.sectors) c.args.epoch) keeps.shown
          ∙ later_behind c.args.count image c.args.first c.args.sequence c.args.epoch c.in-Ok.chain.sectors (omega (arith, c.ranges.epoch.fits)) sectors;
    }
