use Rattle.std.proofs.Common.{◌∙◌, ap, sym}
use Rattle.program_rows.specs.DatabasesState.{DatabasesState}
use Rattle.program_rows.proofs.Settling.{whole_put, seen_put}
use Rattle.program_rows.proofs.databases.Databases.put_stores.Goals as goal

pub invariant_of-self : goal.invariant_of-self
invariant_of-self c =
    whole_put c.self.inside.opened c.args.stores c.self.invariant (c.requires.same ∙ ap (λ (d : DatabasesState). d.stores) (sym c.self.view_is)) c.requires.there

pub returns : goal.returns
returns c =
    seen_put c.self.inside.opened c.args.stores (c.requires.same ∙ ap (λ (d : DatabasesState). d.stores) (sym c.self.view_is))
    ∙ ap (λ (d : DatabasesState). record d { changed = c.args.stores.changed }) c.self.view_is
