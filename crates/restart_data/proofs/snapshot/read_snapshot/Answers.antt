use Rattle.std.proofs.Common.{◌≡◌, ℕ, ◌+◌, ◌-◌, List, sym, ◌∙◌, ap, subst, IsTrue}
use Rattle.tm_disk.specs.Disk.{Image, sector_at}
use Rattle.tm_disk.proofs.Words.{keeps_on}
use Rattle.restart_data.specs.Snapshot.{part_of, part_in, bytes_and_then, parts_in, snapshot_in}
use Rattle.restart_data.specs.GatheredBytes.{so_far}
use Rattle.restart_data.proofs.Gathering.{parts_next, gathers}
use Rattle.restart_data.proofs.snapshot.read_snapshot.Goals as goal
use Rattle.tm_disk.proofs.States.{at_ok}

pub loop-place-preserved : goal.loop-place-preserved
loop-place-preserved g c =
    let old = g.D.Disk.state c.args.disk.now in
    let mid = g.D.Disk.state c.loop-place.disk in
    let new = g.D.Disk.state c.read.new.self in
    let keeps = c.loop-place.invariant.keeps in
    let place = c.loop-place.place in
    let at = c.args.first + place in
    let behind = (c.args.sectors - place) - 1 in
    record {
      keeps = keeps_on old mid new (g.met.D.Disk.is_disk c.args.disk.now) keeps c.read.ensures.keeps;
      until_stop = c.read.ensures.until_stop ∙ c.loop-place.invariant.until_stop;
      faults = at_ok c.read.result (new.faults ≡ mid.faults) (sym c.if-is_err.ensures.value) c.read.ensures.no_fault ∙ c.loop-place.invariant.faults;
      read = λ tells.
          let value = at_ok c.read.result (IsTrue mid.tells → c.read.new.into ≡ sector_at mid.shown at) (sym c.if-is_err.ensures.value) c.read.ensures.value in
          let sector : c.read.new.into ≡ sector_at old.shown at = value (subst (λ b. IsTrue b) (sym keeps.stays.tells) tells) ∙ ap (λ (i : Image). sector_at i at) keeps.shown in
          let added = at_ok c.add.result (so_far c.add.new.self ≡ bytes_and_then (so_far c.loop-place.gathered) (part_in at (part_of behind c.args.number place c.read.new.into))) (sym c.if-is_err-2.ensures.value) c.add.ensures in
          gathers (snapshot_in c.args.sectors old.shown c.args.first c.args.number) (so_far c.loop-place.gathered) (part_in at (part_of behind c.args.number place (sector_at old.shown at))) (so_far c.add.new.self)
          (parts_in (c.args.sectors - (place + 1)) old.shown (c.args.first + (place + 1)) c.args.number (place + 1)) (parts_in (c.args.sectors - place) old.shown at c.args.number place)
          (c.loop-place.invariant.read tells) (parts_next c.args.sectors place old.shown c.args.first c.args.number c.loop-place-test.true)
          (added ∙ ap (λ (s : List ℕ). bytes_and_then (so_far c.loop-place.gathered) (part_in at (part_of behind c.args.number place s))) sector);
    }
