use Rattle.std.proofs.Common.{◌≡◌, ◌≢◌, ◌<◌, [], Some, None, subst, sym, ◌∙◌, refl, arith, length, rules}
use Rattle.model_data.specs.Rows.{AreRows, record_of}
use Rattle.seg_store.specs.ChangedSlots.{Kept}
use Rattle.seg_store.specs.Slots.{rows_of_slots, slot_of_root}
use Rattle.seg_store.proofs.SlotRows.{slots_are_rows, slot_within, record_there, record_some, record_none}
use Rattle.seg_store.proofs.store.Store.find.Goals as goal

pub index-requires : goal.index-requires
index-requires c =
    let there : slot_of_root c.args.root.now c.self.inside.slots.items ≡ Some c.in-Some.slot = sym (c.self.invariant.indexed.found c.args.root.now) ∙ search rules in
    let within : c.in-Some.slot < length c.self.inside.slots.items = slot_within c.args.root.now c.self.inside.slots.items c.in-Some.slot there in
    omega (arith, c.self.inside.slots.ok)

pub returns-in-Some-clause-valid : goal.returns-in-Some-clause-valid
returns-in-Some-clause-valid c = subst (λ (s : Kept). AreRows s.dbd (rows_of_slots s.slots)) c.self.view_is (slots_are_rows c.self.inside.dbd c.self.inside.slots.items c.self.invariant.indexed.valid)

pub returns-in-None-clause-valid : goal.returns-in-None-clause-valid
returns-in-None-clause-valid c = subst (λ (s : Kept). AreRows s.dbd (rows_of_slots s.slots)) c.self.view_is (slots_are_rows c.self.inside.dbd c.self.inside.slots.items c.self.invariant.indexed.valid)

pub returns-in-Some-clause-found : goal.returns-in-Some-clause-found
returns-in-Some-clause-found c =
    let there : slot_of_root c.args.root.now c.self.inside.slots.items ≡ Some c.in-Some.slot = sym (c.self.invariant.indexed.found c.args.root.now) ∙ search rules in
    subst (λ (s : Kept). c.index.result.now ≡ record_of c.args.root.now (rows_of_slots s.slots)) c.self.view_is
    (c.index.ensures ∙ sym (record_there c.self.inside.dbd c.self.inside.slots.items c.args.root.now c.in-Some.slot c.index.result.now c.self.invariant.indexed.valid there))

pub returns-in-Some-clause-none : goal.returns-in-Some-clause-none
returns-in-Some-clause-none c =
    let there : slot_of_root c.args.root.now c.self.inside.slots.items ≡ Some c.in-Some.slot = sym (c.self.invariant.indexed.found c.args.root.now) ∙ search rules in
    let some : record_of c.args.root.now (rows_of_slots c.args.self.now.slots) ≢ [] =
    subst (λ (s : Kept). record_of c.args.root.now (rows_of_slots s.slots) ≢ []) c.self.view_is
    (record_some c.self.inside.dbd c.self.inside.slots.items c.args.root.now c.in-Some.slot c.self.invariant.indexed.valid there) in
    (λ e. absurd (cc), λ e. absurd (some e))

pub returns-in-None-clause-none : goal.returns-in-None-clause-none
returns-in-None-clause-none c =
    let absent : slot_of_root c.args.root.now c.self.inside.slots.items ≡ None = sym (c.self.invariant.indexed.found c.args.root.now) ∙ search rules in (
      λ e. subst (λ (s : Kept). record_of c.args.root.now (rows_of_slots s.slots) ≡ []) c.self.view_is
          (record_none c.self.inside.dbd c.self.inside.slots.items c.args.root.now c.self.invariant.indexed.valid absent),
      λ e. refl,
    )
