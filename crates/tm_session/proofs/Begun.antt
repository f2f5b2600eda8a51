-- A reader that holds nothing yet.
use Rattle.std.proofs.Common.{◌≡◌, ℕ, List, [], refl}
use Rattle.std.specs.Prelude.{Option, Some, None}
use Rattle.tm_edge.specs.Lines.{unread}

pub nothing_held : (left : Option (List ℕ)) → unread [] left ≡ left
nothing_held (Some bytes) = refl
nothing_held None = refl

pub begun_is : (held : List ℕ) (left : Option (List ℕ)) → held ≡ [] → unread held left ≡ left
begun_is held left none = rw none (nothing_held left)
