-- The bytes that a reader of lines has taken and not yet served.
use Rattle.std.specs.Prelude.{ℕ, List, take, drop}
use Rattle.tm_edge.specs.declared.buffer.Buffer.{Buffer}

abbrev pub held_bytes : Buffer → List ℕ
held_bytes buffer = drop buffer.start (take buffer.end buffer.bytes.items)
