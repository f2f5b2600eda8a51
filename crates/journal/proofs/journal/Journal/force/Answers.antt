use Rattle.std.proofs.Common.{List, [], ◌∷◌, ◌≡◌}
use Rattle.tm_disk.specs.Disk.{Follows}
use Rattle.model_machine.specs.Machine.{LastingState}
use Rattle.log_writer.specs.ForcedLog.{AddsAll}
use Rattle.disk_law.specs.Life.{LifeOnDisk}
use Rattle.disk_law.specs.KeptImages.{AreImagesKept}
use Rattle.disk_law.specs.LifeSteps.{forced_life}
use Rattle.disk_law.specs.PendingMoves.{PendsBehind}
use Rattle.journal.proofs.Forcing.{within_recovers, follows_kept, follows_pends, when_done}
use Rattle.journal.proofs.journal.Journal.force.Goals as goal

pub returns-clause-crash : goal.returns-clause-crash
returns-clause-crash g c = λ states life of p.
    within_recovers c.args.self.now.log states life of (g.D.Disk.state c.args.disk.now) p (g.D.Disk.state c.write.new.disk) (g.met.D.Disk.is_disk c.args.disk.now) c.write.ensures.any_moment

pub returns-clause-images : goal.returns-clause-images
returns-clause-images g c =
    let old = g.D.Disk.state c.args.disk.now in
    let new = g.D.Disk.state c.write.new.disk in
    let log = c.args.self.now.log in
    when_done c.write.result (Follows (AddsAll log) old new)
    ((states : List LastingState) → (life : LifeOnDisk) → life.log ≡ log → PendsBehind states life old → AreImagesKept (forced_life life) new)
    (λ follows states life of p. follows_kept log states life of old p new follows)
    c.write.ensures.done

pub returns-clause-kept : goal.returns-clause-kept
returns-clause-kept g c =
    let old = g.D.Disk.state c.args.disk.now in
    let new = g.D.Disk.state c.write.new.disk in
    let log = c.args.self.now.log in
    when_done c.write.result (Follows (AddsAll log) old new)
    ((states : List LastingState) → (life : LifeOnDisk) → life.log ≡ log → PendsBehind states life old → PendsBehind (life.lasting ∷ []) (forced_life life) new)
    (λ follows states life of p. follows_pends log states life of old p new follows)
    c.write.ensures.done
