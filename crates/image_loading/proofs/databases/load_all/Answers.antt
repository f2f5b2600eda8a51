use Rattle.std.proofs.Common.{◌≡◌, ◌+◌, ◌*◌, ◌∷◌, ◌++◌, [], Some, length, take, refl, sym, ◌∙◌, ap, subst, arith, IsTrue}
use Rattle.std.specs.List.{slice_get}
use Rattle.std.proofs.lemmas.List.{take_all}
use Rattle.std.proofs.lemmas.Option.{slice_get_read}
use Rattle.tm_disk.proofs.Words.{keeps_on}
use Rattle.model_system.specs.Areas.{data_first}
use Rattle.model_image.specs.Slots.{slot_fault}
use Rattle.image_loading.specs.LoadedStore.{image_slots_in}
use Rattle.image_loading.proofs.Following.{next_first, first_fits}
use Rattle.image_loading.proofs.MostSectors.{database_few}
use Rattle.image_loading.specs.Databases.{slots_of_databases}
use Rattle.image_loading.specs.LoadedStores.{AreAllMade, AreSlotted}
use Rattle.image_loading.proofs.Adding.{take_next, database_at, count_databases}
use Rattle.image_loading.proofs.databases.load_all.Goals as goal

pub add-requires-clause-given : goal.add-requires-clause-given
add-requires-clause-given g c =
    let place = c.loop-place.place in
    let dbd = c.index-databases-place.result in
    let found : slice_get c.args.system.now.databases place ≡ Some dbd = subst (λ l. slice_get l place ≡ Some dbd) c.databases-databases.ensures.value (slice_get_read c.databases-databases.result.now (length c.databases-databases.result.now) place dbd refl c.loop-place-test.true c.index-databases-place.is) in
    let there : slice_get c.args.given.now place ≡ Some c.index-given-place.result = slice_get_read c.args.given.now (length c.args.given.now) place c.index-given-place.result refl (omega (arith, c.loop-place-test.true, ap length c.databases-databases.ensures.value, c.requires.count)) c.index-given-place.is in
    c.requires.images place dbd c.index-given-place.result found there

pub add-requires-clause-few : goal.add-requires-clause-few
add-requires-clause-few g c =
    let place = c.loop-place.place in
    let dbd = c.index-databases-place.result in
    let found : slice_get c.args.system.now.databases place ≡ Some dbd = subst (λ l. slice_get l place ≡ Some dbd) c.databases-databases.ensures.value (slice_get_read c.databases-databases.result.now (length c.databases-databases.result.now) place dbd refl c.loop-place-test.true c.index-databases-place.is) in
    database_few c.args.system.now place dbd c.databases-databases.ensures.valid found

pub overflow_add-first : goal.overflow_add-first
overflow_add-first g c =
    let place = c.loop-place.place in
    let dbd = c.index-databases-place.result in
    let found : slice_get c.args.system.now.databases place ≡ Some dbd = subst (λ l. slice_get l place ≡ Some dbd) c.databases-databases.ensures.value (slice_get_read c.databases-databases.result.now (length c.databases-databases.result.now) place dbd refl c.loop-place-test.true c.index-databases-place.is) in
    let old = g.D.Disk.state c.args.disk.now in
    let disk = g.met.D.Disk.is_disk c.args.disk.now in
    let sectors : c.from.result * c.from-in-loop-place.result ≡ dbd.roots * dbd.sectors = λ i. c.from.ensures i * c.from-in-loop-place.ensures i in
    omega (arith, sectors, c.loop-place.invariant.first, disk.size_fits, first_fits c.args.system.now place dbd old.size found c.requires.areas)

pub loop-place-preserved : goal.loop-place-preserved
loop-place-preserved g c =
    let system = c.args.system.now in
    let given = c.args.given.now in
    let place = c.loop-place.place in
    let dbd = c.index-databases-place.result in
    let slots = c.index-given-place.result in
    let found : slice_get system.databases place ≡ Some dbd = subst (λ l. slice_get l place ≡ Some dbd) c.databases-databases.ensures.value (slice_get_read c.databases-databases.result.now (length c.databases-databases.result.now) place dbd refl c.loop-place-test.true c.index-databases-place.is) in
    let there : slice_get given place ≡ Some slots = slice_get_read given (length given) place slots refl (omega (arith, c.loop-place-test.true, ap length c.databases-databases.ensures.value, c.requires.count)) c.index-given-place.is in
    let old = g.D.Disk.state c.args.disk.now in
    let mid = g.D.Disk.state c.loop-place.disk in
    let new = g.D.Disk.state c.add.new.disk in
    let keeps = c.loop-place.invariant.keeps in
    let all = slots_of_databases system old.shown given 0 system.databases in
    let here = image_slots_in old.shown dbd (data_first system place) slots in
    let next : take (place + 1) all ≡ take place all ++ here ∷ [] = take_next all place here (database_at system old.shown given place system.databases dbd slots found there) in
    let same : image_slots_in mid.shown dbd c.loop-place.first slots ≡ here = ap (λ i. image_slots_in i dbd c.loop-place.first slots) keeps.shown ∙ ap (λ k. image_slots_in old.shown dbd k slots) c.loop-place.invariant.first in
    let sectors : c.from.result * c.from-in-loop-place.result ≡ dbd.roots * dbd.sectors = λ i. c.from.ensures i * c.from-in-loop-place.ensures i in
    record {
      keeps = keeps_on old mid new (g.met.D.Disk.is_disk c.args.disk.now) keeps c.in-Ok.ensures.keeps;
      faults = c.in-Ok.ensures.cause ∙ c.loop-place.invariant.faults;
      first = omega (arith, sectors, c.loop-place.invariant.first, next_first system place dbd found);
      made = λ none.
          subst (λ l. AreAllMade l c.add.new.loaded.stores) (sym (take_next system.databases place dbd found))
          (c.in-Ok.ensures.made (take place system.databases) c.loop-place.invariant.made none);
      fault = λ tells.
          c.in-Ok.ensures.value (subst IsTrue (sym keeps.stays.tells) tells) (take place all) (c.loop-place.invariant.fault tells)
          ∙ ap (λ l. slot_fault (take place all ++ l ∷ [])) same ∙ ap slot_fault (sym next);
      slotted = λ tells none.
          subst (λ l. AreSlotted l c.add.new.loaded.stores) (sym next)
          (subst (λ l. AreSlotted (take place all ++ l ∷ []) c.add.new.loaded.stores) same
          (c.in-Ok.ensures.slotted (subst IsTrue (sym keeps.stays.tells) tells) (take place all) (c.loop-place.invariant.slotted tells) none));
    }

pub returns-in-Some-clause-value : goal.returns-in-Some-clause-value
returns-in-Some-clause-value g c tells =
    let system = c.args.system.now in
    let old = g.D.Disk.state c.args.disk.now in
    let all = slots_of_databases system old.shown c.args.given.now 0 system.databases in
    let whole : take c.loop-place.place all ≡ all = take_all c.loop-place.place all (omega (arith, c.loop-place-test.false, ap length c.databases-databases.ensures.value, count_databases system old.shown c.args.given.now 0 system.databases c.requires.count)) in
    ap slot_fault (sym whole) ∙ sym (c.loop-place.invariant.fault tells) ∙ (sym c.broken_in.ensures ∙ c.in-Some.is)

pub returns-in-None-clause-value : goal.returns-in-None-clause-value
returns-in-None-clause-value g c tells =
    let system = c.args.system.now in
    let old = g.D.Disk.state c.args.disk.now in
    let all = slots_of_databases system old.shown c.args.given.now 0 system.databases in
    let whole : take c.loop-place.place all ≡ all = take_all c.loop-place.place all (omega (arith, c.loop-place-test.false, ap length c.databases-databases.ensures.value, count_databases system old.shown c.args.given.now 0 system.databases c.requires.count)) in
    (ap slot_fault (sym whole) ∙ sym (c.loop-place.invariant.fault tells) ∙ (sym c.broken_in.ensures ∙ c.in-None.is), subst (λ l. AreSlotted l c.loop-place.loaded.stores) whole (c.loop-place.invariant.slotted tells ((sym c.broken_in.ensures ∙ c.in-None.is))))

pub add-requires-clause-area : goal.add-requires-clause-area
add-requires-clause-area g c =
    let place = c.loop-place.place in
    let dbd = c.index-databases-place.result in
    let found : slice_get c.args.system.now.databases place ≡ Some dbd = subst (λ l. slice_get l place ≡ Some dbd) c.databases-databases.ensures.value (slice_get_read c.databases-databases.result.now (length c.databases-databases.result.now) place dbd refl c.loop-place-test.true c.index-databases-place.is) in
    let old = g.D.Disk.state c.args.disk.now in
    omega (arith, c.loop-place.invariant.first, c.loop-place.invariant.keeps.stays.size, first_fits c.args.system.now place dbd old.size found c.requires.areas)

pub returns-in-Err-Disk-clause-keeps : goal.returns-in-Err-Disk-clause-keeps
returns-in-Err-Disk-clause-keeps g c =
    keeps_on (g.D.Disk.state c.args.disk.now) (g.D.Disk.state c.loop-place.disk) (g.D.Disk.state c.add.new.disk) (g.met.D.Disk.is_disk c.args.disk.now) c.loop-place.invariant.keeps c.add.ensures.keeps

pub returns-in-Err-Memory-clause-keeps : goal.returns-in-Err-Memory-clause-keeps
returns-in-Err-Memory-clause-keeps g c =
    keeps_on (g.D.Disk.state c.args.disk.now) (g.D.Disk.state c.loop-place.disk) (g.D.Disk.state c.add.new.disk) (g.met.D.Disk.is_disk c.args.disk.now) c.loop-place.invariant.keeps c.add.ensures.keeps
