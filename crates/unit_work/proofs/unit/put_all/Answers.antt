use Rattle.std.proofs.Common.{◌≡◌, ◌++◌, ◌∷◌, [], true, sym, ap, ◌∙◌, subst, arith}
use Rattle.std.specs.List.{list_any}
use Rattle.unit_work.specs.BackOut.{was_in, backed_from}
use Rattle.unit_work.proofs.Marking.{any_front, any_last, marks_more, marks_then, next_to_mark, none_to_mark}
use Rattle.unit_work.proofs.Backing.{CanPut, put_next, put_ahead, none_backed, empty_list}
use Rattle.unit_work.proofs.unit.put_all.Goals as goal

pub loop-change-preserved : goal.loop-change-preserved
loop-change-preserved c =
    let is : c.loop-change.records.items ≡ c.pop.new.self.items ++ c.in-Some.change ∷ [] = c.in-Some.ensures.items in
    let can : CanPut (c.pop.new.self.items ++ c.in-Some.change ∷ []) c.loop-change.stores.stores = subst (λ xs. CanPut xs c.loop-change.stores.stores) is c.loop-change.invariant.can in
    record {
      can = subst (CanPut c.pop.new.self.items) (sym c.put_one.ensures.stores) (put_next c.pop.new.self.items c.in-Some.change c.loop-change.stores.stores can);
      among = λ db slot e. c.loop-change.invariant.among db slot (subst (λ xs. list_any (was_in db slot) xs ≡ true) (sym is) (any_front (was_in db slot) c.pop.new.self.items c.in-Some.change e));
      marks = marks_then (λ db slot. list_any (was_in db slot) c.args.records.now.items) c.args.stores.now c.loop-change.stores c.put_one.new.stores c.loop-change.invariant.marks
          (marks_more (λ db slot. was_in db slot c.in-Some.change) (λ db slot. list_any (was_in db slot) c.args.records.now.items)
          (λ db slot least e. c.loop-change.invariant.among db slot (subst (λ xs. list_any (was_in db slot) xs ≡ true) (sym is) (any_last (was_in db slot) c.pop.new.self.items c.in-Some.change e)))
          c.loop-change.stores c.put_one.new.stores c.put_one.ensures.marks);
      to_mark = next_to_mark c.args.records.now.items c.loop-change.records.items c.pop.new.self.items c.in-Some.change c.loop-change.stores c.put_one.new.stores is c.loop-change.invariant.to_mark
          c.put_one.ensures.marks c.put_one.ensures.all_marked;
      ahead = ap (backed_from c.pop.new.self.items 1) c.put_one.ensures.stores
          ∙ (sym (put_ahead c.pop.new.self.items c.in-Some.change c.loop-change.stores.stores can)
          ∙ (ap (λ xs. backed_from xs 1 c.loop-change.stores.stores) (sym is) ∙ c.loop-change.invariant.ahead));
    }

pub returns-clause-stores : goal.returns-clause-stores
returns-clause-stores c =
    let none : c.loop-change.records.items ≡ [] = empty_list c.loop-change.records.items (omega (arith, c.loop-change.records.ok, c.in_default.ensures.cases)) in
    sym (none_backed 1 c.loop-change.stores.stores)
    ∙ (ap (λ xs. backed_from xs 1 c.loop-change.stores.stores) (sym none) ∙ c.loop-change.invariant.ahead)

pub returns-clause-all_marked : goal.returns-clause-all_marked
returns-clause-all_marked c =
    none_to_mark c.args.records.now.items c.loop-change.records.items c.loop-change.stores (empty_list c.loop-change.records.items (omega (arith, c.loop-change.records.ok, c.in_default.ensures.cases)))
    c.loop-change.invariant.to_mark
