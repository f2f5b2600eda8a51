use Rattle.std.proofs.Common.{◌≡◌, ◌+◌, ◌-◌, ℕ, List, [], ◌∷◌, ◌++◌, map, length, refl, sym, ap, ◌∙◌, subst, arith, length-append}
use Rattle.std.proofs.lemmas.List.{map-append}
use Rattle.std.proofs.lemmas.List.Elements.{All-push}
use Rattle.pool_pass.specs.Rule.{after_making, next_pass}
use Rattle.std.specs.List.{All}
use Rattle.atomic_table.specs.declared.shared.Seat.{Seat}
use Rattle.pool_pass.specs.declared.views.View.{View}
use Rattle.pool_pass.specs.Passes.{PassState, pass_of, passes_from, IsPass}
use Rattle.pool_pass.proofs.Made.{one_made, fresh}
use Rattle.pool_pass.proofs.pool.make_passes.Goals as goal

pub loop-preserved : goal.loop-preserved
loop-preserved g c =
    let i = c.loop.invariant in
    let m = c.make_pass-pass.ensures in
    let p = c.push_reserved.ensures in
    let more = c.loop-test.true in
    let few = c.requires.left.1 in
    let counter : ℕ = c.loop.counter in
    let left : ℕ = c.args.left in
    let view : View g.row.I.Denot = c.args.maker.now.me.0 in
    let slots = c.args.maker.now.me.1 in
    let f : Seat (Unit {0}) (View g.row.I.Denot) → PassState g.row.I.Denot = λ seat. pass_of seat.me.0 in
    let P : Seat (Unit {0}) (View g.row.I.Denot) → Type 0 = λ seat. (seat.table_id ≡ c.args.maker.now.table_id) × IsPass seat.me in
    let items = c.loop.seats.items in
    let pass = c.make_pass-pass.result in
    let behind : List (PassState g.row.I.Denot) = passes_from view.passes (view.passes - (left - (counter + 1))) (left - (counter + 1)) in
    let fewer : (left - counter) - 1 ≡ left - (counter + 1) = omega arith in
    let is : f pass ≡ fresh view.passes (view.passes - (left - counter)) = ap (λ me. pass_of me.0) m.made.1 ∙ ap (λ me. pass_of (next_pass me.0)) i.1 in
    let count : length c.push_reserved.new.self.items ≡ length (items ++ pass ∷ []) = ap length p.items in
    let old : length items ≡ counter = i.4 in (
      m.maker.0 ∙ i.0,
      m.maker.1 ∙ ap (λ me. (after_making me.0, me.1)) i.1 ∙ ap (λ k. (record view { to_make = k }, slots)) fewer,
      ap (λ xs. map f xs ++ behind) p.items ∙ ap (λ xs. xs ++ behind) (map-append f items (pass ∷ []) ∙ ap (λ x. map f items ++ x ∷ []) is) ∙ one_made view.passes left counter (map f items) _ more few i.2,
      subst (All P) (sym p.items) (All-push P items pass i.3 (m.made.0 ∙ i.0, subst IsPass (sym m.made.1) refl)),
      count ∙ length-append items (pass ∷ []) ∙ ap (λ k. k + 1) old,
      p.capacity ∙ i.5,
      omega (arith, more),
    )
