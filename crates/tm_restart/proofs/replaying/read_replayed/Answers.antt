use Rattle.std.proofs.Common.{Err, refl, sym, subst, IsTrue}
use Rattle.tm_disk.specs.Disk.{Image}
use Rattle.tm_disk.proofs.Words.{keeps_on}
use Rattle.model_image.specs.RecoveredState.{Recovers}
use Rattle.image_records.specs.RecordAnswers.{TellsLog}
use Rattle.image_reading.specs.ReadLog.{log_bytes}
use Rattle.image_reading.specs.ReadSnapshot.{TellsSnapshotOf, IsSnapshotRead}
use Rattle.tm_restart.proofs.Rereading.{reread_good, reread_bad, told_fault, told_log}
use Rattle.tm_restart.proofs.replaying.read_replayed.Goals as goal

pub returns-in-Err-clause-value : goal.returns-in-Err-clause-value
returns-in-Err-clause-value g c tells =
    let system = c.args.system.now in
    let r = c.args.restart.now in
    let old = g.D.Disk.state c.args.disk.now in
    let keeps = c.in-Ok.ensures.keeps in
    let told : TellsSnapshotOf system r old.shown (Err c.in-Err.fault) = subst (λ (i : Image). TellsSnapshotOf system r i (Err c.in-Err.fault)) keeps.shown (c.in-Err.ensures.value (subst IsTrue (sym keeps.stays.tells) tells)) in
    told_fault system old.shown r (c.requires.has tells) c.in-Ok.log.is_cut_off (c.in-Ok.ensures.value tells).cut.decided c.in-Err.fault told

pub returns-in-Ok-replay-clause-value : goal.returns-in-Ok-replay-clause-value
returns-in-Ok-replay-clause-value g c tells =
    let system = c.args.system.now in
    let r = c.args.restart.now in
    let old = g.D.Disk.state c.args.disk.now in
    let keeps = c.in-Ok.ensures.keeps in
    let read : IsSnapshotRead system old.shown r c.in-Ok-read_told.snapshot = subst (λ (i : Image). IsSnapshotRead system i r c.in-Ok-read_told.snapshot) keeps.shown (c.in-Ok-read_told.ensures.value (subst IsTrue (sym keeps.stays.tells) tells)) in
    let log = c.in-Ok.ensures.value tells in
    reread_good system old.shown r read.records read.has c.in-Ok-replay.replayed (record { replayed = c.in-Ok-replay.replayed; next_sequence = c.in-Ok.log.next_sequence; later = c.in-Ok.log.later }) refl log.sequence log.later
    (c.in-Ok-replay.ensures.value (log_bytes system old.shown r) log.cut read.records (told_log system old.shown r c.in-Ok-read_told.snapshot read) read.is_of)

pub returns-in-Ok-replay-clause-keeps : goal.returns-in-Ok-replay-clause-keeps
returns-in-Ok-replay-clause-keeps g c = keeps_on (g.D.Disk.state c.args.disk.now) (g.D.Disk.state c.read_log.new.disk) (g.D.Disk.state c.read_told.new.disk) (g.met.D.Disk.is_disk c.args.disk.now) c.in-Ok.ensures.keeps c.in-Ok-read_told.ensures.keeps

pub returns-in-Err-Bad-clause-value : goal.returns-in-Err-Bad-clause-value
returns-in-Err-Bad-clause-value g c tells =
    let system = c.args.system.now in
    let r = c.args.restart.now in
    let old = g.D.Disk.state c.args.disk.now in
    let keeps = c.in-Ok.ensures.keeps in
    let read : IsSnapshotRead system old.shown r c.in-Ok-read_told.snapshot = subst (λ (i : Image). IsSnapshotRead system i r c.in-Ok-read_told.snapshot) keeps.shown (c.in-Ok-read_told.ensures.value (subst IsTrue (sym keeps.stays.tells) tells)) in
    let log = c.in-Ok.ensures.value tells in
    let told : TellsLog system read.records (log_bytes system old.shown r) (Err c.in-Err-Bad.field-0) = c.in-Err-Bad.ensures.value (log_bytes system old.shown r) log.cut read.records (told_log system old.shown r c.in-Ok-read_told.snapshot read) read.is_of in
    subst (λ n. Recovers system old.shown (Err (n, c.log_first.result))) (sym c.in-Err-Bad.rule-is) (subst (λ n. Recovers system old.shown (Err (c.in-Err-Bad.rule, n))) (sym c.log_first.ensures.value)
    (reread_bad system old.shown r (c.requires.has tells) read.records c.in-Err-Bad.rule read.has
    (subst (λ fault. TellsLog system read.records (log_bytes system old.shown r) (Err fault)) c.in-Err-Bad.field-0-is told)))

pub returns-in-Err-Bad-clause-keeps : goal.returns-in-Err-Bad-clause-keeps
returns-in-Err-Bad-clause-keeps g c = keeps_on (g.D.Disk.state c.args.disk.now) (g.D.Disk.state c.read_log.new.disk) (g.D.Disk.state c.read_told.new.disk) (g.met.D.Disk.is_disk c.args.disk.now) c.in-Ok.ensures.keeps c.in-Ok-read_told.ensures.keeps

pub returns-in-Err-Memory-replay-clause-keeps : goal.returns-in-Err-Memory-replay-clause-keeps
returns-in-Err-Memory-replay-clause-keeps g c = keeps_on (g.D.Disk.state c.args.disk.now) (g.D.Disk.state c.read_log.new.disk) (g.D.Disk.state c.read_told.new.disk) (g.met.D.Disk.is_disk c.args.disk.now) c.in-Ok.ensures.keeps c.in-Ok-read_told.ensures.keeps

pub returns-in-Err-clause-keeps : goal.returns-in-Err-clause-keeps
returns-in-Err-clause-keeps g c = keeps_on (g.D.Disk.state c.args.disk.now) (g.D.Disk.state c.read_log.new.disk) (g.D.Disk.state c.read_told.new.disk) (g.met.D.Disk.is_disk c.args.disk.now) c.in-Ok.ensures.keeps c.in-Err.ensures.keeps
