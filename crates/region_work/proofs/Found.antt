-- The code and the state at the place that a name has.
use Rattle.std.proofs.Common.{◌≡◌, ℕ, ◌+◌, ◌*◌, ◌<◌, List, length, get_or, slice_get, refl, sym, ap, ◌∙◌, true, false, ◌&&◌, Option, Some, None}
use Rattle.std.specs.Prelude.{nat_le, if◌then◌else◌}
use Rattle.std.specs.Option.{option_and_then}
use Rattle.std.specs.Str.{bytes_eq}
use Rattle.std.proofs.lemmas.Option.{slice_get_read}
use Rattle.model_messages.specs.Queue.{first_free}
use Rattle.model_messages.specs.Room.{slot_room}
use Rattle.model_system.specs.declared.code.Code.{Code}
use Rattle.model_system.specs.declared.code_state.CodeState.{CodeState}
use Rattle.model_system.specs.Codes.{code_at, code_place}
use Rattle.model_machine.specs.MachineCalls.{may_go_on}
use Rattle.system_types.proofs.Indexed.{found_at}
use Rattle.lasting_state.specs.Tables.{TablesState, tables_content}
use Rattle.region_work.specs.WorkEnds.{goes_on_with}

module _ (qbytes : ℕ) (tables : TablesState) (name : List ℕ) (taken busy : ℕ) (code : Code) (state : CodeState) where
  pub found_here : (codes : List Code) (states : List CodeState) (place : ℕ) → code_place codes name ≡ Some place → place < length codes → place < length states
      → code ≡ get_or codes place code → state ≡ get_or states place state
      → goes_on_with qbytes tables name taken busy (Some code) (Some state) ≡ goes_on_with qbytes tables name taken busy (code_at codes name) (option_and_then (slice_get states) (code_place codes name))
  found_here codes states place at within within_states is state_is =
      let here : Some code ≡ code_at codes name =
      sym (sym (found_at (λ (c : Code). bytes_eq c.transaction.code name) codes) ∙ ap (option_and_then (slice_get codes)) at ∙ slice_get_read codes (length codes) place code refl within is) in
      let there : Some state ≡ option_and_then (slice_get states) (code_place codes name) =
      sym (ap (option_and_then (slice_get states)) at ∙ slice_get_read states (length states) place state refl within_states state_is) in
      ap (λ c. goes_on_with qbytes tables name taken busy c (Some state)) here ∙ ap (goes_on_with qbytes tables name taken busy (code_at codes name)) there

  pub goes : (found : Option ℕ) → may_go_on code.transaction state taken ≡ true → nat_le (tables_content tables + slot_room * busy) qbytes ≡ true → found ≡ first_free name tables.queues.queued
      → found ≡ goes_on_with qbytes tables name taken busy (Some code) (Some state)
  goes found may has is =
      is ∙ sym (ap (λ b. if b && nat_le (tables_content tables + slot_room * busy) qbytes then first_free name tables.queues.queued else None) may
      ∙ ap (λ b. if b then first_free name tables.queues.queued else None) has)

  pub ends : may_go_on code.transaction state taken ≡ false → None ≡ goes_on_with qbytes tables name taken busy (Some code) (Some state)
  ends may = sym (ap (λ b. if b && nat_le (tables_content tables + slot_room * busy) qbytes then first_free name tables.queues.queued else None) may)
