use Rattle.std.proofs.Common.{◌∙◌, sym, ap, length, map}
use Rattle.tm_machine.proofs.Giving.{changes_are, changes_count, few_busy}
use Rattle.tm_machine.proofs.parts.Parts.changes.Goals as goal

pub returns-clause-value : goal.returns-clause-value
returns-clause-value c =
    rw (sym c.self.view_is)
    (c.changes_in.ensures ∙ ap (λ d. map (λ rows. length rows.changed) d.regions) c.databases.ensures ∙ changes_are c.self.inside.system c.self.inside.tables c.self.inside.codes c.self.inside.regions.items c.self.invariant)

pub returns-clause-count : goal.returns-clause-count
returns-clause-count c =
    rw (sym c.self.view_is)
    (ap length (c.changes_in.ensures ∙ ap (λ d. map (λ rows. length rows.changed) d.regions) c.databases.ensures) ∙ changes_count c.self.inside.system c.self.inside.tables c.self.inside.codes c.self.inside.regions.items c.self.invariant)

pub returns-clause-few : goal.returns-clause-few
returns-clause-few c = rw (sym c.self.view_is) (few_busy c.self.inside.system c.self.inside.tables c.self.inside.codes c.self.inside.regions.items c.self.invariant)
