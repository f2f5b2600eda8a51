-- How much a session has done: its openings, its entries and its stops, each of which may raise a counter.
use Rattle.std.specs.Prelude.{ℕ, ◌+◌, ◌*◌, List, [], ◌∷◌, length, Option, Some, None}
use Rattle.model_machine.specs.declared.entry.Entry.{Entry}
use Rattle.model_session.specs.declared.asked.Asked.{Asked}
use Rattle.model_session.specs.declared.asked.Asked.TheVariants.{Quiet}
use Rattle.model_session.specs.Lives.{LifeState, LastLife}
use Rattle.model_session.specs.SessionState.{SessionState, last_life}

-- a life's opening and its entries
abbrev pub life_measure : List Entry → ℕ
life_measure history = length history + 1

abbrev pub lives_measure : List LifeState → ℕ
lives_measure [] = 0
lives_measure (life ∷ lives) = life_measure life.history + lives_measure lives

abbrev pub last_measure : Option LastLife → ℕ
last_measure None = 0
last_measure (Some life) = life_measure life.history

-- all lives with the last one, and the stops
abbrev pub measure : SessionState → ℕ
measure state = lives_measure state.lives + last_measure (last_life state.standing) + length state.stops

-- What a block may add to it: an entry, that of a force in which the disk failed, and a stop; and a QUIET the entries of its turns.
abbrev pub block_weight : Asked → ℕ
block_weight (Quiet most) = most + 1
block_weight _ = 3

-- what a block may add at most, as a QUIET names at most a million turns
abbrev pub most_weight : ℕ
most_weight = 1000001

-- what a session may come to whose source has at most a million lines: its opening, its blocks, and the turns of a QUIET that broke
-- off, or the end of its source
abbrev pub most_measure : ℕ
most_measure = 1 + most_weight * 1000000 + most_weight

-- ---- limits

-- where a counter is spent; and where it is near that
abbrev pub limit : ℕ
limit = 1000000000000000000

abbrev pub near_limit : ℕ
near_limit = 900000000000000000

-- no call and no opening raises a counter by more
abbrev pub call_raises : ℕ
call_raises = 4096
