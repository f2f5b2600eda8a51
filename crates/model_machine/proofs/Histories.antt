-- Histories that go on by one entry.
use Rattle.std.proofs.Common.{◌≡◌, List, [], ◌∷◌, ◌++◌, refl}
use Rattle.model_machine.specs.declared.entry.Entry.{Entry}
use Rattle.model_system.specs.System.{System}
use Rattle.model_machine.specs.Machine.{Moment}
use Rattle.model_machine.specs.History.{after_entry, moment_after, May, AreSteps}

-- one more entry leads from the moment that the others lead to
pub moment_after-append : (system : System) (moment : Moment) (entries : List Entry) (entry : Entry)
    → moment_after system moment (entries ++ entry ∷ []) ≡ after_entry system (moment_after system moment entries) entry
moment_after-append system moment [] entry = refl
moment_after-append system moment (first ∷ entries) entry = moment_after-append system (after_entry system moment first) entries entry

-- steps go on with an answer that is the right one where they lead
pub AreSteps-append : (system : System) (moment : Moment) (entries : List Entry) (entry : Entry)
    → AreSteps system moment entries → May system (moment_after system moment entries) entry → AreSteps system moment (entries ++ entry ∷ [])
AreSteps-append system moment [] entry steps may = (may, tt)
AreSteps-append system moment (first ∷ entries) entry steps may =
    (steps.0, AreSteps-append system (after_entry system moment first) entries entry steps.1 may)
