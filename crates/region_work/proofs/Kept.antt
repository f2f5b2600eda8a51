-- A message that is found is one of those of which this is so.
use Rattle.std.proofs.Common.{◌≡◌, ℕ, Bool, true, false, List, [], ◌∷◌, subst}
use Rattle.std.specs.Prelude.{Some, if◌then◌else◌, ◌==◌}
use Rattle.std.specs.List.{AllByRecursion}
use Rattle.tm_types.specs.declared.message.Message.{Message}
use Rattle.model_machine.specs.Machine.{message_at as message_in}

pub all_found : (P : Message → Type 0) (ms : List Message) (id : ℕ) (n : Message) → AllByRecursion P ms → message_in ms id ≡ Some n → P n
all_found P [] id n h e = cc
all_found P (m ∷ ms) id n h e = by (m.id == id) e (λ g. all_found P ms id n h.1 g)
  where
    by : (b : Bool) → (if b then Some m else message_in ms id) ≡ Some n → (message_in ms id ≡ Some n → P n) → P n
    by true g rec = let same : m ≡ n = cc in subst P same h.0
    by false g rec = rec g
