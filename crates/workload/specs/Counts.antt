-- What the entries of a session come to.
use Rattle.std.specs.Prelude.{ℕ, ◌+◌, Bool, true, false, if◌then◌else◌, List, Option, Some, None, Ok, length}
use Rattle.std.specs.List.{flat_map, count_by, sum_by}
use Rattle.model_machine.specs.declared.entry.Entry.{Entry}
use Rattle.model_machine.specs.declared.entry.Entry.TheVariants.{Accept, Turn}
use Rattle.model_machine.specs.declared.entry.Taken.TheVariants.{New}
use Rattle.model_machine.specs.declared.entry.Turned.TheVariants.{Next, QC, Done, Abended, Backed}
use Rattle.openings.specs.declared.life.Life.{Life}
use Rattle.workload.specs.declared.counts.Counts.{Counts}

-- an input was accepted as a new one
abbrev pub is_accepted : Entry → Bool
is_accepted (Accept terminal number segments (Ok (New id))) = true
is_accepted _ = false

-- a message was completed: at the end of its script, or at a further GU, whether the region goes on with another message or not
abbrev pub is_completion : Entry → Bool
is_completion (Turn region (Ok (Next code id next))) = true
is_completion (Turn region (Ok (QC code id))) = true
is_completion (Turn region (Ok (Done code id))) = true
is_completion _ = false

-- a message was ended by an abend
abbrev pub is_abend : Entry → Bool
is_abend (Turn region (Ok (Abended code id abend))) = true
is_abend _ = false

-- how many regions gave way in a turn; their messages keep their places, and are no completions and no abends
abbrev pub victim_count_in : Entry → ℕ
victim_count_in (Turn region (Ok (Backed victims))) = length victims
victim_count_in _ = 0

-- what these entries come to
abbrev pub counts_of : List Entry → Counts
counts_of entries = record {
  accepted = count_by is_accepted entries;
  completed = count_by is_completion entries;
  abended = count_by is_abend entries;
  victims = sum_by victim_count_in entries;
}

-- the entries of all lives, one life after the other
abbrev pub entries_of : List Life → List Entry
entries_of lives = flat_map (λ (life : Life). life.history) lives

-- ---- one entry

-- the counts of both
abbrev pub plus : Counts → Counts → Counts
plus before more = record {
  accepted = before.accepted + more.accepted;
  completed = before.completed + more.completed;
  abended = before.abended + more.abended;
  victims = before.victims + more.victims;
}

abbrev pub one_entry_if : Bool → ℕ
one_entry_if test = if test then 1 else 0

abbrev pub count_of : Entry → Counts
count_of entry = record {
  accepted = one_entry_if (is_accepted entry);
  completed = one_entry_if (is_completion entry);
  abended = one_entry_if (is_abend entry);
  victims = victim_count_in entry;
}

abbrev pub with_found : Counts → Option Entry → Counts
with_found counts None = counts
with_found counts (Some entry) = plus counts (count_of entry)
