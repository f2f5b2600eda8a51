use Rattle.std.proofs.Common.{◌∙◌, ap, sym, subst}
use Rattle.program_rows.specs.DatabasesState.{DatabasesState, with_all_settled}
use Rattle.tm_machine.specs.Parts.{PartsState, AreParts}
use Rattle.tm_machine.specs.PartsView.{parts_moment}
use Rattle.tm_machine.proofs.Settled.{parts_settled}
use Rattle.tm_machine.proofs.parts.Parts.settle.Goals as goal

pub invariant_of-self : goal.invariant_of-self
invariant_of-self c =
    subst (λ (d : DatabasesState). AreParts c.self.inside.system (record c.self.inside.tables { databases = d }) c.self.inside.codes c.self.inside.regions.items)
    (sym (c.settle.ensures ∙ ap with_all_settled c.databases_mut.ensures.value))
    (parts_settled c.self.inside.system c.self.inside.tables c.self.inside.codes c.self.inside.regions.items c.self.invariant)

pub returns : goal.returns
returns c =
    ap (λ (d : DatabasesState). record { system = c.self.inside.system; moment = parts_moment (record c.self.inside { tables = record c.self.inside.tables { databases = d } }); databases = d })
    (c.settle.ensures ∙ ap with_all_settled c.databases_mut.ensures.value)
    ∙ ap (λ (p : PartsState). record p { databases = with_all_settled p.databases }) c.self.view_is
