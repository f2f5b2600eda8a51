use Rattle.std.proofs.Common.{true, subst, sym, ap, ◌∙◌, List, [], ◌∷◌, ℕ, length}
use Rattle.model_system.specs.System.{System}
use Rattle.model_machine.specs.Machine.{LastingState}
use Rattle.openings.specs.declared.refusals.OpenError.TheVariants.{Memory}
use Rattle.openings.specs.LifeBeginning.{HandsBack}
use Rattle.logged_machine.proofs.Handed.{no_memory}
use Rattle.journal.proofs.Openings.{no_units}
use Rattle.logged_machine.specs.LoggedParts.{IsLogged}
use Rattle.logged_machine.proofs.Serving.{are_lasting}
use Rattle.logged_machine.proofs.machine_opening.open_parts.Goals as goal

pub returns-in-Ok-open-clause-lasts : goal.returns-in-Ok-open-clause-lasts
returns-in-Ok-open-clause-lasts g c = λ up.
    are_lasting g.D.Disk.state
    (record { machine = c.open.new.parts; text = c.args.text; served = true; forced = c.lasting.inside.steps; journal = c.in-Ok-open.journal; units = c.in-Ok.units.items; next_unit = c.in-Ok-open.next_unit; disk = c.open.new.disk })
    (record {
      states = c.in-Ok-open.lasting ∷ [];
      logged =
          subst (λ (us : List ℕ). IsLogged c.open.new.parts us c.in-Ok-open.next_unit c.in-Ok-open.journal c.args.text (c.in-Ok-open.lasting ∷ []) (g.D.Disk.state c.open.new.disk))
          (sym (c.in-Ok.ensures ∙ ap (λ (rs : List _). no_units (length rs)) (c.regions.ensures.value ∙ ap (λ (y : System). y.regions) c.system.ensures)))
          (subst (λ (t : List ℕ). IsLogged c.open.new.parts (no_units (length c.args.parts.system.regions)) c.in-Ok-open.next_unit c.in-Ok-open.journal t (c.in-Ok-open.lasting ∷ []) (g.D.Disk.state c.open.new.disk)) c.as_slice.ensures
          c.in-Ok-open.ensures.logged);
      steps = ap (λ (l : LastingState). l.steps) c.lasting.view_is;
    })

pub returns-in_default-clause-refused : goal.returns-in_default-clause-refused
returns-in_default-clause-refused g c =
    subst (λ (system : System). HandsBack g.D.Disk.state c.args.how c.args.parts.system c.args.text c.args.disk Memory c.args.disk system c.args.text) (sym c.into_system.ensures)
    (no_memory g.D.Disk.state c.args.how c.args.parts.system c.args.text c.args.disk c.requires.size)
