use Rattle.std.proofs.Common.{◌≡◌, ◌+◌, ◌-◌, sym, arith, subst, take, drop, suc}
use Rattle.std.specs.Vec.{vec_len}
use Rattle.std.proofs.lemmas.Bool.{eqb-true}
use Rattle.pi_enqueue.specs.Lists.{table_of_lists, AreEmpty}
use Rattle.pi_enqueue.proofs.Alone.{alone_free}
use Rattle.pi_enqueue.proofs.lists.Lists.is_alone.Goals as goal

pub returns : goal.returns
returns c = λ yes request own.
    let us : vec_len c.args.self.now.upgrades ≡ 0 = eqb-true (vec_len c.args.self.now.upgrades) 0 (sym c.if-not-is_empty.ensures) in
    let ws : vec_len c.args.self.now.waits ≡ 0 = eqb-true (vec_len c.args.self.now.waits) 0 (sym c.if-not-is_empty-2.ensures) in
    let empty = c.are_others_empty.ensures.0 yes in
    let up : c.args.region - 1 + 1 ≡ suc (c.args.region - 1) = omega arith in
    alone_free c.args.region c.args.self.now.regions c.requires.first c.args.self.now.held.items
    (subst (λ index. AreEmpty (take (c.args.region - 1) index)) c.deref.ensures.value empty.0)
    (subst (λ index. AreEmpty (drop (suc (c.args.region - 1)) index)) c.deref.ensures.value (subst (λ n. AreEmpty (drop n c.deref.result.now)) up empty.1))
    request own (table_of_lists c.args.self.now) (omega (arith, us)) (omega (arith, ws)) c.requires.small c.requires.listed
