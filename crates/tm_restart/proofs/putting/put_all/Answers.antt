use Rattle.std.proofs.Common.{◌≡◌, ◌*◌, length, refl, sym, ◌∙◌, ap, subst, arith, IsTrue, Some}
use Rattle.std.specs.List.{slice_get}
use Rattle.std.proofs.lemmas.Option.{slice_get_read}
use Rattle.tm_disk.specs.Disk.{Within, Follows}
use Rattle.tm_disk.proofs.Words.{stays_on}
use Rattle.seg_store.specs.DataSectors.{pieces_of, MayPut, HasPut, PutsFront}
use Rattle.seg_store.proofs.Putting.{at_ok, at_err}
use Rattle.tm_restart.proofs.Ascending.{next_has, next_front}
use Rattle.tm_restart.proofs.AllPut.{at_place, within_step, follows_step, front_step}
use Rattle.image_loading.proofs.Following.{next_first, first_fits}
use Rattle.tm_restart.proofs.putting.put_all.Goals as goal

pub write_slots-requires-clause-within : goal.write_slots-requires-clause-within
write_slots-requires-clause-within g c =
    let place = c.loop-place.place in
    let dbd = c.index-databases-place.result in
    let found : slice_get c.args.system.now.databases place ≡ Some dbd = subst (λ l. slice_get l place ≡ Some dbd) c.databases-databases.ensures.value (slice_get_read c.databases-databases.result.now (length c.databases-databases.result.now) place dbd refl c.loop-place-test.true c.index-databases-place.is) in
    let there : slice_get c.args.given.now place ≡ Some c.index-given-place.result = slice_get_read c.args.given.now (length c.args.given.now) place c.index-given-place.result refl (omega (arith, c.loop-place-test.true, ap length c.databases-databases.ensures.value, c.requires.given.count)) c.index-given-place.is in
    (c.requires.given.each place dbd c.index-given-place.result found there).within

pub returns-then-is_err-clause-any_moment : goal.returns-then-is_err-clause-any_moment
returns-then-is_err-clause-any_moment g c =
    let place = c.loop-place.place in
    let dbd = c.index-databases-place.result in
    let slots = c.index-given-place.result in
    let found : slice_get c.args.system.now.databases place ≡ Some dbd = subst (λ l. slice_get l place ≡ Some dbd) c.databases-databases.ensures.value (slice_get_read c.databases-databases.result.now (length c.databases-databases.result.now) place dbd refl c.loop-place-test.true c.index-databases-place.is) in
    let there : slice_get c.args.given.now place ≡ Some slots = slice_get_read c.args.given.now (length c.args.given.now) place slots refl (omega (arith, c.loop-place-test.true, ap length c.databases-databases.ensures.value, c.requires.given.count)) c.index-given-place.is in
    let mid = g.D.Disk.state c.loop-place.disk in
    let new = g.D.Disk.state c.write_slots.new.disk in
    within_step c.args.system.now c.args.given.now place slots there (g.D.Disk.state c.args.disk.now) mid new c.loop-place.invariant.within c.loop-place.invariant.follows
    (at_place (λ first all. Within (MayPut first all) mid new) c.args.system.now place dbd slots c.loop-place.first found c.loop-place.invariant.first c.write_slots.ensures.any_moment)

pub returns-then-is_err-clause-follows : goal.returns-then-is_err-clause-follows
returns-then-is_err-clause-follows g c =
    let place = c.loop-place.place in
    let dbd = c.index-databases-place.result in
    let slots = c.index-given-place.result in
    let found : slice_get c.args.system.now.databases place ≡ Some dbd = subst (λ l. slice_get l place ≡ Some dbd) c.databases-databases.ensures.value (slice_get_read c.databases-databases.result.now (length c.databases-databases.result.now) place dbd refl c.loop-place-test.true c.index-databases-place.is) in
    let there : slice_get c.args.given.now place ≡ Some slots = slice_get_read c.args.given.now (length c.args.given.now) place slots refl (omega (arith, c.loop-place-test.true, ap length c.databases-databases.ensures.value, c.requires.given.count)) c.index-given-place.is in
    let mid = g.D.Disk.state c.loop-place.disk in
    let new = g.D.Disk.state c.write_slots.new.disk in
    follows_step c.args.system.now c.args.given.now place slots there (g.D.Disk.state c.args.disk.now) mid new c.loop-place.invariant.follows
    (at_place (λ first all. Follows (MayPut first all) mid new) c.args.system.now place dbd slots c.loop-place.first found c.loop-place.invariant.first c.write_slots.ensures.follows)

pub returns-then-is_err-clause-ascending : goal.returns-then-is_err-clause-ascending
returns-then-is_err-clause-ascending g c tells =
    let place = c.loop-place.place in
    let dbd = c.index-databases-place.result in
    let slots = c.index-given-place.result in
    let found : slice_get c.args.system.now.databases place ≡ Some dbd = subst (λ l. slice_get l place ≡ Some dbd) c.databases-databases.ensures.value (slice_get_read c.databases-databases.result.now (length c.databases-databases.result.now) place dbd refl c.loop-place-test.true c.index-databases-place.is) in
    let there : slice_get c.args.given.now place ≡ Some slots = slice_get_read c.args.given.now (length c.args.given.now) place slots refl (omega (arith, c.loop-place-test.true, ap length c.databases-databases.ensures.value, c.requires.given.count)) c.index-given-place.is in
    let old = g.D.Disk.state c.args.disk.now in
    let mid = g.D.Disk.state c.loop-place.disk in
    let new = g.D.Disk.state c.write_slots.new.disk in
    let puts = at_err c.write_slots.result (IsTrue mid.tells → PutsFront c.loop-place.first (pieces_of dbd.sectors slots) mid.shown new.shown) (sym c.if-is_err.ensures.value) c.write_slots.ensures.ascending in
    next_front c.args.system.now c.args.given.now place slots there old.shown mid.shown new.shown (c.loop-place.invariant.front tells)
    (at_place (λ first all. PutsFront first all mid.shown new.shown) c.args.system.now place dbd slots c.loop-place.first found c.loop-place.invariant.first
    (puts (subst IsTrue (sym c.loop-place.invariant.stays.tells) tells)))

pub overflow_add-first : goal.overflow_add-first
overflow_add-first g c =
    let place = c.loop-place.place in
    let dbd = c.index-databases-place.result in
    let found : slice_get c.args.system.now.databases place ≡ Some dbd = subst (λ l. slice_get l place ≡ Some dbd) c.databases-databases.ensures.value (slice_get_read c.databases-databases.result.now (length c.databases-databases.result.now) place dbd refl c.loop-place-test.true c.index-databases-place.is) in
    let old = g.D.Disk.state c.args.disk.now in
    let disk = g.met.D.Disk.is_disk c.args.disk.now in
    let sectors : c.from.result * c.from-in-loop-place.result ≡ dbd.roots * dbd.sectors = λ i. c.from.ensures i * c.from-in-loop-place.ensures i in
    omega (arith, sectors, c.loop-place.invariant.first, disk.size_fits, first_fits c.args.system.now place dbd old.size found c.requires.areas)

pub loop-place-preserved : goal.loop-place-preserved
loop-place-preserved g c =
    let place = c.loop-place.place in
    let dbd = c.index-databases-place.result in
    let slots = c.index-given-place.result in
    let found : slice_get c.args.system.now.databases place ≡ Some dbd = subst (λ l. slice_get l place ≡ Some dbd) c.databases-databases.ensures.value (slice_get_read c.databases-databases.result.now (length c.databases-databases.result.now) place dbd refl c.loop-place-test.true c.index-databases-place.is) in
    let there : slice_get c.args.given.now place ≡ Some slots = slice_get_read c.args.given.now (length c.args.given.now) place slots refl (omega (arith, c.loop-place-test.true, ap length c.databases-databases.ensures.value, c.requires.given.count)) c.index-given-place.is in
    let old = g.D.Disk.state c.args.disk.now in
    let mid = g.D.Disk.state c.loop-place.disk in
    let new = g.D.Disk.state c.write_slots.new.disk in
    let stays = c.loop-place.invariant.stays in
    let sectors : c.from.result * c.from-in-loop-place.result ≡ dbd.roots * dbd.sectors = λ i. c.from.ensures i * c.from-in-loop-place.ensures i in
    record {
      stays = stays_on old mid new stays c.write_slots.ensures.stays;
      faults = at_ok c.write_slots.result (new.faults ≡ mid.faults) (sym c.if-is_err.ensures.value) c.write_slots.ensures.no_fault ∙ c.loop-place.invariant.faults;
      first = omega (arith, sectors, c.loop-place.invariant.first, next_first c.args.system.now place dbd found);
      within = within_step c.args.system.now c.args.given.now place slots there old mid new c.loop-place.invariant.within c.loop-place.invariant.follows (at_place (λ first all. Within (MayPut first all) mid new) c.args.system.now place dbd slots c.loop-place.first found c.loop-place.invariant.first c.write_slots.ensures.any_moment);
      follows = follows_step c.args.system.now c.args.given.now place slots there old mid new c.loop-place.invariant.follows (at_place (λ first all. Follows (MayPut first all) mid new) c.args.system.now place dbd slots c.loop-place.first found c.loop-place.invariant.first c.write_slots.ensures.follows);
      front = λ tells.
          next_has c.args.system.now c.args.given.now place slots there old.shown mid.shown new.shown (c.loop-place.invariant.front tells)
          (at_place (λ first all. HasPut first all mid.shown new.shown) c.args.system.now place dbd slots c.loop-place.first found c.loop-place.invariant.first
          (at_ok c.write_slots.result (IsTrue mid.tells → HasPut c.loop-place.first (pieces_of dbd.sectors slots) mid.shown new.shown) (sym c.if-is_err.ensures.value) c.write_slots.ensures.shown (subst IsTrue (sym stays.tells) tells)));
      shown = λ tells.
          front_step c.args.system.now c.args.given.now place slots there c.requires.given dbd found old.shown mid.shown new.shown (c.loop-place.invariant.shown tells)
          (at_place (λ first all. HasPut first all mid.shown new.shown) c.args.system.now place dbd slots c.loop-place.first found c.loop-place.invariant.first
          (at_ok c.write_slots.result (IsTrue mid.tells → HasPut c.loop-place.first (pieces_of dbd.sectors slots) mid.shown new.shown) (sym c.if-is_err.ensures.value) c.write_slots.ensures.shown (subst IsTrue (sym stays.tells) tells)));
    }

pub write_slots-requires-clause-area : goal.write_slots-requires-clause-area
write_slots-requires-clause-area g c =
    let place = c.loop-place.place in
    let dbd = c.index-databases-place.result in
    let found : slice_get c.args.system.now.databases place ≡ Some dbd = subst (λ l. slice_get l place ≡ Some dbd) c.databases-databases.ensures.value (slice_get_read c.databases-databases.result.now (length c.databases-databases.result.now) place dbd refl c.loop-place-test.true c.index-databases-place.is) in
    let old = g.D.Disk.state c.args.disk.now in
    omega (arith, c.loop-place.invariant.first, c.loop-place.invariant.stays.size, first_fits c.args.system.now place dbd old.size found c.requires.areas)
