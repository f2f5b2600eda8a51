use Rattle.std.proofs.Common.{Ok, subst}
use Rattle.tm_disk.specs.Disk.{Image}
use Rattle.tm_disk.proofs.Words.{stays_on}
use Rattle.openings.specs.OpenedImage.{TellsOpening}
use Rattle.openings.proofs.Reading.{read_cause, told_before, told_behind}
use Rattle.tm_restart.specs.FoundImage.{FindAlways, TellsFind, IsSeen}
use Rattle.tm_restart.proofs.OpenedOrCold.{cold_within, read_counts, read_counts_then, read_then, read_within}
use Rattle.tm_restart.proofs.restarting.recover.Goals as goal

pub returns-in-Ok-None-clause-any_moment : goal.returns-in-Ok-None-clause-any_moment
returns-in-Ok-None-clause-any_moment g c =
    let system = c.args.system.now in
    let old = g.D.Disk.state c.args.disk.now in
    cold_within system c.args.text.now old (g.D.Disk.state c.find.new.disk) c.in-Ok-None.ensures.keeps (g.D.Disk.state c.cold.new.disk) (g.met.D.Disk.is_disk c.args.disk.now) c.requires.only
    (λ tells. subst (λ found. TellsFind system c.args.text.now old.shown (Ok found)) c.in-Ok-None.field-0-is (c.in-Ok-None.ensures.value tells)) c.cold.ensures.any_moment

pub reopen-requires-clause-judged : goal.reopen-requires-clause-judged
reopen-requires-clause-judged g c = subst (λ found. FindAlways c.args.system.now c.args.text.now (Ok found)) c.in-Ok-Some.field-0-is c.in-Ok-Some.ensures.always

pub reopen-requires-clause-seen : goal.reopen-requires-clause-seen
reopen-requires-clause-seen g c =
    let system = c.args.system.now in
    let text = c.args.text.now in
    let old = g.D.Disk.state c.args.disk.now in
    told_behind (λ (i : Image). IsSeen system text i c.in-Ok-Some.found) old (g.D.Disk.state c.find.new.disk) c.in-Ok-Some.ensures.keeps
    (λ tells. subst (λ found. TellsFind system text old.shown (Ok found)) c.in-Ok-Some.field-0-is (c.in-Ok-Some.ensures.value tells))

pub returns-in-Ok-Some-clause-value : goal.returns-in-Ok-Some-clause-value
returns-in-Ok-Some-clause-value g c =
    told_before (λ (i : Image). TellsOpening c.args.system.now c.args.text.now i c.reopen.result) (g.D.Disk.state c.args.disk.now) (g.D.Disk.state c.find.new.disk) c.in-Ok-Some.ensures.keeps c.reopen.ensures.value

pub returns-in-Ok-Some-clause-any_moment : goal.returns-in-Ok-Some-clause-any_moment
returns-in-Ok-Some-clause-any_moment g c =
    read_then c.args.system.now c.args.text.now (g.D.Disk.state c.args.disk.now) (g.D.Disk.state c.find.new.disk) c.in-Ok-Some.ensures.keeps (g.D.Disk.state c.reopen.new.disk) c.reopen.ensures.any_moment

pub returns-in-Err-clause-any_moment : goal.returns-in-Err-clause-any_moment
returns-in-Err-clause-any_moment g c =
    read_within c.args.system.now c.args.text.now (g.D.Disk.state c.args.disk.now) (g.D.Disk.state c.find.new.disk) c.in-Err.ensures.keeps

pub returns-in-Ok-Some-clause-cause : goal.returns-in-Ok-Some-clause-cause
returns-in-Ok-Some-clause-cause g c =
    read_cause (g.D.Disk.state c.args.disk.now) (g.D.Disk.state c.find.new.disk) (g.D.Disk.state c.reopen.new.disk) c.reopen.result (g.met.D.Disk.is_disk c.args.disk.now) c.in-Ok-Some.ensures.keeps c.in-Ok-Some.ensures.cause c.reopen.ensures.cause

pub returns-in-Ok-None-clause-counts : goal.returns-in-Ok-None-clause-counts
returns-in-Ok-None-clause-counts g c =
    read_counts_then c.args.system.now c.args.text.now (g.D.Disk.state c.args.disk.now) (g.D.Disk.state c.find.new.disk) c.in-Ok-None.ensures.keeps (g.D.Disk.state c.cold.new.disk) c.cold.ensures.counts

pub returns-in-Ok-Some-clause-counts : goal.returns-in-Ok-Some-clause-counts
returns-in-Ok-Some-clause-counts g c =
    read_counts_then c.args.system.now c.args.text.now (g.D.Disk.state c.args.disk.now) (g.D.Disk.state c.find.new.disk) c.in-Ok-Some.ensures.keeps (g.D.Disk.state c.reopen.new.disk) c.reopen.ensures.counts

pub returns-in-Err-clause-counts : goal.returns-in-Err-clause-counts
returns-in-Err-clause-counts g c =
    read_counts c.args.system.now c.args.text.now (g.D.Disk.state c.args.disk.now) (g.D.Disk.state c.find.new.disk) c.in-Err.ensures.keeps

pub returns-in-Ok-None-clause-stays : goal.returns-in-Ok-None-clause-stays
returns-in-Ok-None-clause-stays g c =
    stays_on (g.D.Disk.state c.args.disk.now) (g.D.Disk.state c.find.new.disk) (g.D.Disk.state c.cold.new.disk) c.in-Ok-None.ensures.keeps.stays c.cold.ensures.stays

pub returns-in-Ok-Some-clause-stays : goal.returns-in-Ok-Some-clause-stays
returns-in-Ok-Some-clause-stays g c =
    stays_on (g.D.Disk.state c.args.disk.now) (g.D.Disk.state c.find.new.disk) (g.D.Disk.state c.reopen.new.disk) c.in-Ok-Some.ensures.keeps.stays c.reopen.ensures.stays

pub returns-in-Ok-None-clause-cause : goal.returns-in-Ok-None-clause-cause
returns-in-Ok-None-clause-cause g c =
    read_cause (g.D.Disk.state c.args.disk.now) (g.D.Disk.state c.find.new.disk) (g.D.Disk.state c.cold.new.disk) c.cold.result (g.met.D.Disk.is_disk c.args.disk.now) c.in-Ok-None.ensures.keeps c.in-Ok-None.ensures.cause c.cold.ensures.cause
