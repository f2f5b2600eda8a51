use Rattle.std.proofs.Common.{◌≡◌, ◌-◌, ◌≤◌, IsTrue}
use Rattle.std.specs.List.{AllByRecursion}
use Rattle.std.specs.Vec.{vec_len, vec_capacity}
use Rattle.tm_disk.specs.Disk.{Keeps}
use Rattle.model_image.specs.Slots.{is_image, slots_by}
use Rattle.seg_store.specs.Slots.{IsSlot}
use Rattle.image_loading.specs.LoadedStore.{image_slots_in, slot_from}
use Rattle.image_loading.proofs.SlotsRead.{IsAhead, IsReadTo}
use Rattle.image_loading.proofs.reading.read_slots.Given as goal

abbrev pub invariant-loop-number : goal.invariant-loop-number
invariant-loop-number g l =
    let old = g.D.Disk.state l.initial.disk in
    let now = g.D.Disk.state l.disk in
    record {
      keeps : Keeps old now;
      until_stop : now.until_stop ≡ old.until_stop;
      faults : now.faults ≡ old.faults;
      ahead : IsAhead l.number l.given l.rest;
      images : AllByRecursion (λ s. IsTrue (is_image l.dbd s.1)) l.rest;
      each : AllByRecursion (IsSlot l.dbd) l.images.items;
      len : vec_len l.images ≡ l.number;
      room : l.dbd.roots ≤ vec_capacity l.images;
      read : IsTrue old.tells → IsReadTo (image_slots_in old.shown l.dbd l.first l.given) (slots_by (slot_from old.shown l.dbd l.first l.given) (l.dbd.roots - l.number) l.number) l.images.items l.broken;
    }
