use Rattle.std.proofs.Common.{sym, ap, ◌∙◌, List}
use Rattle.std.specs.List.{slice_get}
use Rattle.std.specs.Option.{option_and_then}
use Rattle.model_system.specs.declared.code_state.CodeState.{CodeState}
use Rattle.model_machine.specs.Machine.{states_by}
use Rattle.model_machine.proofs.Flags.{states_again}
use Rattle.tm_machine.specs.Parts.{settings_of, flags_of}
use Rattle.tm_machine.proofs.parts.Parts.code_state.Goals as goal

pub returns : goal.returns
returns c =
    rw (sym c.self.view_is)
    (sym (
    ap (option_and_then (slice_get (states_by (settings_of c.self.inside.codes) (flags_of c.self.inside.codes)))) (sym c.in-Some.ensures.value)
    ∙ ap (λ (ss : List CodeState). slice_get ss c.in-Some.place) (states_again c.self.inside.codes ∙ sym c.states.ensures)
    ∙ c.state_at.ensures))
