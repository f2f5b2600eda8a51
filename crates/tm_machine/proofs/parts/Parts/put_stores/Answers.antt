use Rattle.std.proofs.Common.{◌∙◌, ap, sym, subst}
use Rattle.program_rows.specs.DatabasesState.{DatabasesState, with_marks}
use Rattle.tm_machine.specs.Parts.{PartsState, AreParts}
use Rattle.tm_machine.specs.PartsView.{parts_moment}
use Rattle.tm_machine.proofs.Settled.{parts_marked}
use Rattle.tm_machine.proofs.parts.Parts.put_stores.Goals as goal

pub put_stores-requires-clause-same : goal.put_stores-requires-clause-same
put_stores-requires-clause-same c =
    c.requires.same ∙ ap (λ (p : PartsState). p.databases.stores) (sym c.self.view_is) ∙ ap (λ (d : DatabasesState). d.stores) (sym c.databases_mut.ensures.value)

pub invariant_of-self : goal.invariant_of-self
invariant_of-self c =
    subst (λ (d : DatabasesState). AreParts c.self.inside.system (record c.self.inside.tables { databases = d }) c.self.inside.codes c.self.inside.regions.items)
    (sym (c.put_stores.ensures ∙ ap (with_marks c.args.stores.changed) c.databases_mut.ensures.value))
    (parts_marked c.args.stores.changed c.self.inside.system c.self.inside.tables c.self.inside.codes c.self.inside.regions.items c.self.invariant)

pub returns : goal.returns
returns c =
    ap (λ (d : DatabasesState). record { system = c.self.inside.system; moment = parts_moment (record c.self.inside { tables = record c.self.inside.tables { databases = d } }); databases = d })
    (c.put_stores.ensures ∙ ap (with_marks c.args.stores.changed) c.databases_mut.ensures.value)
    ∙ ap (λ (p : PartsState). record p { databases = with_marks c.args.stores.changed p.databases }) c.self.view_is
