use Rattle.std.proofs.Common.{◌≡◌, ◌+◌, ◌-◌, ◌++◌, length, IsTrue}
use Rattle.tm_disk.specs.Disk.{Keeps}
use Rattle.log_sectors.specs.Chain.{chain, joined_payloads}
use Rattle.log_sectors.proofs.chain.read_chain_by.Given as goal

abbrev pub invariant-loop-place : goal.invariant-loop-place
invariant-loop-place g l =
    record {
      keeps : Keeps (g.D.Disk.state l.initial.disk) (g.D.Disk.state l.disk);
      until_stop : (g.D.Disk.state l.disk).until_stop ≡ (g.D.Disk.state l.initial.disk).until_stop;
      faults : (g.D.Disk.state l.disk).faults ≡ (g.D.Disk.state l.initial.disk).faults;
      payload : IsTrue (g.D.Disk.state l.initial.disk).tells → joined_payloads (chain l.count (g.D.Disk.state l.initial.disk).shown l.first l.sequence l.epoch) ≡ l.payload ++ joined_payloads (chain (l.count - l.place) (g.D.Disk.state l.initial.disk).shown (l.first + l.place) (l.sequence + l.place) l.epoch);
      sectors : IsTrue (g.D.Disk.state l.initial.disk).tells → length (chain l.count (g.D.Disk.state l.initial.disk).shown l.first l.sequence l.epoch) ≡ l.place + length (chain (l.count - l.place) (g.D.Disk.state l.initial.disk).shown (l.first + l.place) (l.sequence + l.place) l.epoch);
    }
