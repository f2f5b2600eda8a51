use Rattle.std.proofs.Common.{List, sym, subst}
use Rattle.std.specs.List.{AllByRecursion}
use Rattle.unit_work.specs.Images.{image_at}
use Rattle.unit_work.specs.Marks.{AreMarked, AreAllMarked}
use Rattle.unit_work.specs.declared.change.Change.{Change}
use Rattle.unit_work.specs.Changes.{Changes}
use Rattle.unit_work.specs.BackOut.{is_touched, backs, IsStored}
use Rattle.unit_work.proofs.Backing.{still_stored}
use Rattle.unit_work.proofs.Marking.{marks_first, all_first}
use Rattle.unit_work.proofs.unit.Unit.back_out.Goals as goal

pub put_all-requires-clause-stored : goal.put_all-requires-clause-stored
put_all-requires-clause-stored c =
    still_stored c.self.inside.records.items c.deref.result.now c.args.stores.now.stores c.remove_all.new.stores.stores c.remove_all.ensures.stores
    (subst (λ (u : Changes). AllByRecursion (IsStored c.args.stores.now.stores) u.records) (sym c.self.view_is) c.requires.stored)

pub returns-clause-marks : goal.returns-clause-marks
returns-clause-marks c =
    subst (λ (u : Changes). AreMarked (λ db slot. backs u.records db slot (image_at db slot c.args.stores.now.stores)) c.args.stores.now c.put_all.new.stores) c.self.view_is
    (marks_first c.args.stores.now c.remove_all.new.stores c.put_all.new.stores c.self.inside.records.items
    (subst (λ (rs : List Change). AreMarked (λ db slot. is_touched rs db (image_at db slot c.args.stores.now.stores)) c.args.stores.now c.remove_all.new.stores) c.deref.ensures.value c.remove_all.ensures.marks)
    c.put_all.ensures.marks)

pub returns-clause-all_marked : goal.returns-clause-all_marked
returns-clause-all_marked c =
    subst (λ (u : Changes). AreAllMarked (λ db slot. backs u.records db slot (image_at db slot c.args.stores.now.stores)) c.put_all.new.stores) c.self.view_is
    (all_first c.args.stores.now c.remove_all.new.stores c.put_all.new.stores c.self.inside.records.items
    (subst (λ (rs : List Change). AreAllMarked (λ db slot. is_touched rs db (image_at db slot c.args.stores.now.stores)) c.remove_all.new.stores) c.deref.ensures.value c.remove_all.ensures.all_marked)
    c.put_all.ensures.marks c.put_all.ensures.all_marked)
