use Rattle.pool_pass.proofs.Keeping.{taking}
use Rattle.pool_pass.proofs.steps.take_in.Goals as goal

pub join_seat-requires : goal.join_seat-requires
join_seat-requires g c =
    let t = c.requires.table in
    let p = c.requires.pass in
    let o = c.requires.other in
    (t.0, t.1, o.1, t.2, λ s h at apart there. taking c.args.steps.now.key c.args.seat.now.id c.args.other.id s.views c.args.seat.now.me.0 c.args.other.me.0 p.0 p.1 o.0 p.2 h at apart there)
