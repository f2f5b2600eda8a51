-- The layouts of the records.
use Rattle.std.specs.Prelude.{ℕ, Bool, ◌||◌, List, [], ◌∷◌}
use Rattle.std.specs.List.{list_any}
use Rattle.image_reading.specs.declared.parts.Part.{Part}
use Rattle.image_reading.specs.declared.parts.Part.TheVariants.{Exactly, Flag, Any, Abend, Name, Text, Segments}
use Rattle.image_reading.specs.RecordParts.{is_front}

-- numbers of eight bytes, of two and of one
abbrev pub eight_byte_part : Part
eight_byte_part = Any 7

abbrev pub two_byte_part : Part
two_byte_part = Any 1

abbrev pub one_byte_part : Part
one_byte_part = Any 0

-- The content of each record behind its length, by the code, and by the kind where there is one. A pad has three kinds,
-- and a conversation two.
abbrev pub input : List Part
input = Exactly 1 ∷ eight_byte_part ∷ eight_byte_part ∷ Name ∷ Name ∷ eight_byte_part ∷ Flag ∷ Segments ∷ []

abbrev pub command : List Part
command = Exactly 2 ∷ Text 80 ∷ []

abbrev pub reply : List Part
reply = Exactly 3 ∷ eight_byte_part ∷ Name ∷ eight_byte_part ∷ Segments ∷ []

abbrev pub discarded : List Part
discarded = Exactly 7 ∷ eight_byte_part ∷ eight_byte_part ∷ Abend ∷ eight_byte_part ∷ []

abbrev pub completed : List Part
completed = Exactly 54 ∷ Exactly 0 ∷ eight_byte_part ∷ eight_byte_part ∷ []

abbrev pub acknowledged_layout : List Part
acknowledged_layout = Exactly 54 ∷ Exactly 1 ∷ Name ∷ eight_byte_part ∷ []

abbrev pub pad_stays : List Part
pad_stays = Exactly 55 ∷ eight_byte_part ∷ Exactly 0 ∷ Text 0 ∷ []

abbrev pub pad_new : List Part
pad_new = Exactly 55 ∷ eight_byte_part ∷ Exactly 1 ∷ Text 65535 ∷ []

abbrev pub pad_ends : List Part
pad_ends = Exactly 55 ∷ eight_byte_part ∷ Exactly 2 ∷ Text 0 ∷ []

abbrev pub checkpoint : List Part
checkpoint = Exactly 64 ∷ Exactly 0 ∷ eight_byte_part ∷ eight_byte_part ∷ eight_byte_part ∷ eight_byte_part ∷ []

abbrev pub idle_terminal : List Part
idle_terminal = Exactly 64 ∷ Exactly 1 ∷ Name ∷ eight_byte_part ∷ eight_byte_part ∷ Flag ∷ Exactly 0 ∷ Text 0 ∷ []

abbrev pub conversing_terminal : List Part
conversing_terminal = Exactly 64 ∷ Exactly 1 ∷ Name ∷ eight_byte_part ∷ eight_byte_part ∷ Flag ∷ Exactly 1 ∷ Name ∷ Text 65535 ∷ []

abbrev pub code : List Part
code = Exactly 64 ∷ Exactly 2 ∷ Name ∷ Flag ∷ one_byte_part ∷ one_byte_part ∷ []

abbrev pub change : List Part
change = Exactly 80 ∷ eight_byte_part ∷ one_byte_part ∷ two_byte_part ∷ Text 32000 ∷ Text 32000 ∷ []

-- in four groups: messages, what becomes of them, a snapshot, and slots
abbrev pub messages : List (List Part)
messages = input ∷ command ∷ reply ∷ discarded ∷ []

abbrev pub answers : List (List Part)
answers = completed ∷ acknowledged_layout ∷ pad_stays ∷ pad_new ∷ pad_ends ∷ []

abbrev pub tables : List (List Part)
tables = checkpoint ∷ idle_terminal ∷ conversing_terminal ∷ code ∷ []

abbrev pub is_front_in : ℕ → List ℕ → List (List Part) → Bool
is_front_in missing bytes layouts = list_any (λ layout. is_front missing layout bytes) layouts

abbrev pub is_front_of_any : ℕ → List ℕ → Bool
is_front_of_any missing bytes =
    is_front_in missing bytes messages || is_front_in missing bytes answers || is_front_in missing bytes tables || is_front missing change bytes
