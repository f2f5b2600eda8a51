-- What stands in a sector.
use Rattle.std.specs.Prelude.{ℕ, List, replicate}

-- so many zero bytes
unfoldable pub zeros : ℕ → List ℕ
zeros n = replicate n 0

-- a sector of zero bytes
unfoldable pub blank : List ℕ
blank = zeros 4096
