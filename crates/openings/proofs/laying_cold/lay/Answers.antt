use Rattle.tm_disk.proofs.Words.{stays_on}
use Rattle.openings.proofs.laying_cold.lay.Goals as goal

pub returns-then-is_err-3-clause-stays : goal.returns-then-is_err-3-clause-stays
returns-then-is_err-3-clause-stays g c =
    let old = g.D.Disk.state c.args.disk.now in
    let one = g.D.Disk.state c.write_text.new.disk in
    let two = g.D.Disk.state c.write_zeros.new.disk in
    let new = g.D.Disk.state c.write_snapshot.new.disk in
    stays_on old one new c.write_text.ensures.stays (stays_on one two new c.write_zeros.ensures.stays c.write_snapshot.ensures.stays)

pub returns-then-is_err-4-clause-stays : goal.returns-then-is_err-4-clause-stays
returns-then-is_err-4-clause-stays g c =
    let old = g.D.Disk.state c.args.disk.now in
    let one = g.D.Disk.state c.write_text.new.disk in
    let two = g.D.Disk.state c.write_zeros.new.disk in
    let three = g.D.Disk.state c.write_snapshot.new.disk in
    let new = g.D.Disk.state c.sync.new.self in
    stays_on old one new c.write_text.ensures.stays
    (stays_on one two new c.write_zeros.ensures.stays (stays_on two three new c.write_snapshot.ensures.stays c.sync.ensures.keeps.stays))

pub returns-clause-stays : goal.returns-clause-stays
returns-clause-stays g c =
    let old = g.D.Disk.state c.args.disk.now in
    let one = g.D.Disk.state c.write_text.new.disk in
    let two = g.D.Disk.state c.write_zeros.new.disk in
    let three = g.D.Disk.state c.write_snapshot.new.disk in
    let new = g.D.Disk.state c.sync.new.self in
    stays_on old one new c.write_text.ensures.stays
    (stays_on one two new c.write_zeros.ensures.stays (stays_on two three new c.write_snapshot.ensures.stays c.sync.ensures.keeps.stays))
