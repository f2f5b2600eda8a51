-- One output more is counted.
use Rattle.std.proofs.Common.{◌≡◌, ℕ, ◌+◌, ◌<◌, true, false, List, length, take, get_or, sym, ap, ◌∙◌}
use Rattle.std.specs.Prelude.{count_by}
use Rattle.std.proofs.lemmas.List.Sums.{count_by_more_yes, count_by_more_no}
use Rattle.model_messages.specs.declared.ended_message.EndedMessage.{EndedMessage}
use Rattle.lasting_state.specs.OutputRecords.{goes_to}

pub counted_output : (name : List ℕ) (outputs : List EndedMessage) (index n : ℕ) (output : EndedMessage) → index < length outputs → output ≡ get_or outputs index output
    → n ≡ count_by (goes_to name) (take index outputs) → goes_to name output ≡ true → n + 1 ≡ count_by (goes_to name) (take (index + 1) outputs)
counted_output name outputs index n output below here so counted =
    ap (λ k. k + 1) so ∙ sym (count_by_more_yes (goes_to name) outputs index output below (ap (goes_to name) (sym here) ∙ counted))

pub passed_output : (name : List ℕ) (outputs : List EndedMessage) (index n : ℕ) (output : EndedMessage) → index < length outputs → output ≡ get_or outputs index output
    → n ≡ count_by (goes_to name) (take index outputs) → goes_to name output ≡ false → n ≡ count_by (goes_to name) (take (index + 1) outputs)
passed_output name outputs index n output below here so passed =
    so ∙ sym (count_by_more_no (goes_to name) outputs index output below (ap (goes_to name) (sym here) ∙ passed))

pub ruleset counted_steps = (counted_output, passed_output)
