use Rattle.std.proofs.Common.{Ok, Err, ◌*◌, sym, ◌∙◌, ap, subst, IsTrue}
use Rattle.tm_disk.specs.Disk.{Image}
use Rattle.tm_disk.proofs.Words.{keeps_on}
use Rattle.model_system.specs.Areas.{log_first}
use Rattle.model_image.specs.RecoveredState.{log_in, first_later}
use Rattle.model_image.specs.Slots.{all_slots}
use Rattle.image_records.specs.NamedSlots.{AreSlotsNamed}
use Rattle.tm_restart.specs.declared.replaying.Reread.{Reread}
use Rattle.tm_restart.specs.NamedDatabases.{TellsNamed}
use Rattle.tm_restart.proofs.LookedAt.{look_good, look_later, look_bad}
use Rattle.tm_restart.proofs.looking.look.Goals as goal

pub returns-in-Err-Bad-clause-value : goal.returns-in-Err-Bad-clause-value
returns-in-Err-Bad-clause-value g c tells =
    let system = c.args.system.now in
    let old = g.D.Disk.state c.args.disk.now in
    let keeps = c.in-Ok.ensures.keeps in
    let rp = c.in-Ok.ensures.value tells in
    let log = (log_in system old.shown c.args.restart.now).records in
    let are = subst (λ l. AreSlotsNamed rp.snapshot log l) (sym (c.deref.ensures.value ∙ ap (λ (x : Reread). x.replayed.slots) c.reread.view_is)) rp.behind.slots in
    let told = c.in-Err-Bad.ensures.value (subst IsTrue (sym keeps.stays.tells) tells) rp.snapshot log are in
    look_bad system old.shown c.args.restart.now (c.requires.has tells) c.in-Ok.reread rp (c.in-Err-Bad.rule, c.in-Err-Bad.sector)
    (subst (λ fault. TellsNamed (Err fault) (all_slots system old.shown rp.snapshot log 0 system.databases)) c.in-Err-Bad.field-0-is
    (subst (λ (i : Image). TellsNamed (Err c.in-Err-Bad.field-0) (all_slots system i rp.snapshot log 0 system.databases)) keeps.shown told))

pub returns-in-Ok-None-clause-value : goal.returns-in-Ok-None-clause-value
returns-in-Ok-None-clause-value g c tells =
    let system = c.args.system.now in
    let r = c.args.restart.now in
    let old = g.D.Disk.state c.args.disk.now in
    let mid = g.D.Disk.state c.read_replayed.new.disk in
    let last = g.D.Disk.state c.load_named.new.disk in
    let keeps = c.in-Ok.ensures.keeps in
    let both = keeps_on old mid last (g.met.D.Disk.is_disk c.args.disk.now) keeps c.in-Ok-load_named.ensures.keeps in
    let rp = c.in-Ok.ensures.value tells in
    let log = (log_in system old.shown r).records in
    let are = subst (λ l. AreSlotsNamed rp.snapshot log l) (sym (c.deref.ensures.value ∙ ap (λ (x : Reread). x.replayed.slots) c.reread.view_is)) rp.behind.slots in
    let told = subst (λ (i : Image). TellsNamed (Ok c.in-Ok-load_named.named) (all_slots system i rp.snapshot log 0 system.databases)) keeps.shown (c.in-Ok-load_named.ensures.value (subst IsTrue (sym keeps.stays.tells) tells) rp.snapshot log are) in
    let later = c.in-Ok-None.ensures.value (subst IsTrue (sym both.stays.tells) tells) in
    look_good system old.shown r (c.requires.has tells) (record { reread = c.in-Ok.reread; named = c.in-Ok-load_named.named }) rp c.in-Ok-load_named.ensures.made told.1 told.0
    (sym (sym c.in-Ok-None.field-0-is ∙ later ∙ ap (λ (i : Image). first_later (2 * system.logs) i (log_first system 0) r.epoch) both.shown))

pub returns-in-Ok-None-clause-keeps : goal.returns-in-Ok-None-clause-keeps
returns-in-Ok-None-clause-keeps g c =
    let old = g.D.Disk.state c.args.disk.now in
    let last = g.D.Disk.state c.load_named.new.disk in
    let disk = g.met.D.Disk.is_disk c.args.disk.now in
    keeps_on old last (g.D.Disk.state c.later_sector.new.disk) disk (keeps_on old (g.D.Disk.state c.read_replayed.new.disk) last disk c.in-Ok.ensures.keeps c.in-Ok-load_named.ensures.keeps) c.in-Ok-None.ensures.keeps

pub returns-in-Ok-Some-clause-keeps : goal.returns-in-Ok-Some-clause-keeps
returns-in-Ok-Some-clause-keeps g c =
    let old = g.D.Disk.state c.args.disk.now in
    let last = g.D.Disk.state c.load_named.new.disk in
    let disk = g.met.D.Disk.is_disk c.args.disk.now in
    keeps_on old last (g.D.Disk.state c.later_sector.new.disk) disk (keeps_on old (g.D.Disk.state c.read_replayed.new.disk) last disk c.in-Ok.ensures.keeps c.in-Ok-load_named.ensures.keeps) c.in-Ok-Some.ensures.keeps

pub returns-in-Ok-Some-clause-value : goal.returns-in-Ok-Some-clause-value
returns-in-Ok-Some-clause-value g c tells =
    let system = c.args.system.now in
    let r = c.args.restart.now in
    let old = g.D.Disk.state c.args.disk.now in
    let mid = g.D.Disk.state c.read_replayed.new.disk in
    let last = g.D.Disk.state c.load_named.new.disk in
    let keeps = c.in-Ok.ensures.keeps in
    let both = keeps_on old mid last (g.met.D.Disk.is_disk c.args.disk.now) keeps c.in-Ok-load_named.ensures.keeps in
    let rp = c.in-Ok.ensures.value tells in
    let log = (log_in system old.shown r).records in
    let are = subst (λ l. AreSlotsNamed rp.snapshot log l) (sym (c.deref.ensures.value ∙ ap (λ (x : Reread). x.replayed.slots) c.reread.view_is)) rp.behind.slots in
    let told = subst (λ (i : Image). TellsNamed (Ok c.in-Ok-load_named.named) (all_slots system i rp.snapshot log 0 system.databases)) keeps.shown (c.in-Ok-load_named.ensures.value (subst IsTrue (sym keeps.stays.tells) tells) rp.snapshot log are) in
    let later = c.in-Ok-Some.ensures.value (subst IsTrue (sym both.stays.tells) tells) in
    look_later system old.shown r (c.requires.has tells) (record { reread = c.in-Ok.reread; named = c.in-Ok-load_named.named }) rp c.in-Ok-Some.sector c.in-Ok-load_named.ensures.made told.1 told.0
    (sym (sym c.in-Ok-Some.field-0-is ∙ later ∙ ap (λ (i : Image). first_later (2 * system.logs) i (log_first system 0) r.epoch) both.shown))

pub returns-in-Err-later_sector-clause-keeps : goal.returns-in-Err-later_sector-clause-keeps
returns-in-Err-later_sector-clause-keeps g c =
    let old = g.D.Disk.state c.args.disk.now in
    let last = g.D.Disk.state c.load_named.new.disk in
    let disk = g.met.D.Disk.is_disk c.args.disk.now in
    keeps_on old last (g.D.Disk.state c.later_sector.new.disk) disk (keeps_on old (g.D.Disk.state c.read_replayed.new.disk) last disk c.in-Ok.ensures.keeps c.in-Ok-load_named.ensures.keeps) c.in-Err-later_sector.ensures.keeps

pub later_sector-requires-clause-held : goal.later_sector-requires-clause-held
later_sector-requires-clause-held g c tells =
    let system = c.args.system.now in
    let r = c.args.restart.now in
    let old = g.D.Disk.state c.args.disk.now in
    let both = keeps_on old (g.D.Disk.state c.read_replayed.new.disk) (g.D.Disk.state c.load_named.new.disk) (g.met.D.Disk.is_disk c.args.disk.now) c.in-Ok.ensures.keeps c.in-Ok-load_named.ensures.keeps in
    let held = (c.in-Ok.ensures.value (subst IsTrue both.stays.tells tells)).later in
    ap (λ (x : Reread). x.later) c.reread.view_is ∙ held ∙ ap (λ (i : Image). first_later system.logs i (log_first system r.log) r.epoch) (sym both.shown)

pub returns-in-Err-Bad-clause-keeps : goal.returns-in-Err-Bad-clause-keeps
returns-in-Err-Bad-clause-keeps g c =
    keeps_on (g.D.Disk.state c.args.disk.now) (g.D.Disk.state c.read_replayed.new.disk) (g.D.Disk.state c.load_named.new.disk) (g.met.D.Disk.is_disk c.args.disk.now) c.in-Ok.ensures.keeps c.in-Err-Bad.ensures.keeps

pub returns-in-Err-Disk-clause-keeps : goal.returns-in-Err-Disk-clause-keeps
returns-in-Err-Disk-clause-keeps g c =
    keeps_on (g.D.Disk.state c.args.disk.now) (g.D.Disk.state c.read_replayed.new.disk) (g.D.Disk.state c.load_named.new.disk) (g.met.D.Disk.is_disk c.args.disk.now) c.in-Ok.ensures.keeps c.in-Err-Disk.ensures.keeps

pub returns-in-Err-Memory-clause-keeps : goal.returns-in-Err-Memory-clause-keeps
returns-in-Err-Memory-clause-keeps g c =
    keeps_on (g.D.Disk.state c.args.disk.now) (g.D.Disk.state c.read_replayed.new.disk) (g.D.Disk.state c.load_named.new.disk) (g.met.D.Disk.is_disk c.args.disk.now) c.in-Ok.ensures.keeps c.in-Err-Memory.ensures.keeps
