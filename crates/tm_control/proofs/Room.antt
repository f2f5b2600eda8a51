-- The room for entries, by the memory that is held.
use Rattle.std.proofs.Common.{◌≡◌, ◌≤◌, ◌+◌, ◌-◌, ◌<◌, ◌∙◌, ℕ, List, [], ◌∷◌, ◌++◌, sym, ap, arith}
use Rattle.std.specs.Prelude.{Option, Some, None, length}
use Rattle.std.proofs.lemmas.List.{length-append}
use Rattle.model_machine.specs.declared.entry.ControlFault.{ControlFault}
use Rattle.model_machine.specs.declared.entry.ControlFault.TheVariants.{Memory, Disk, Spent}
use Rattle.model_machine.specs.declared.entry.Entry.{Entry}
use Rattle.tm_control.specs.ControlOnDisk.{ControlOnDisk}
use Rattle.tm_control.specs.ControlCalls.{SavesRoom, is_noted, noted}

-- an entry takes the room of one
pub one_less : (held count held' count' : ℕ) → 0 < held - count - 1 → held' ≡ held → count' ≡ count + 1 → held - count - 1 ≡ held' - count' - 1 + 1
one_less held count held' count' some same more = omega (arith, some, same, more)

-- memory was held for so many entries, and now is for as many at least
module _ {D : Type 0} (old new : ControlOnDisk D) (before after : List Entry) (count count' held held' : ℕ)
    (room : old.control.room ≡ held - count - 1) (room' : new.control.room ≡ held' - count' - 1) (are : count ≡ length before) (are' : count' ≡ length after) (more : held ≤ held') where
  longer : (entry : Entry) → after ≡ before ++ entry ∷ [] → count' ≡ count + 1
  longer entry adds = are' ∙ ap (λ (es : List Entry). length es) adds ∙ length-append before (entry ∷ []) ∙ ap (λ n. n + 1) (sym are)

  same : after ≡ before → count' ≡ count
  same none = are' ∙ ap (λ (es : List Entry). length es) none ∙ sym are

  pub room_saved : (fault : Option ControlFault) (entry : Entry) → after ≡ noted (is_noted fault) before entry → SavesRoom fault old new
  room_saved None entry adds = omega (arith, room, room', more, longer entry adds)
  room_saved (Some Disk) entry adds = omega (arith, room, room', more, longer entry adds)
  room_saved (Some Memory) entry none = omega (arith, room, room', more, same none)
  room_saved (Some (Spent counter)) entry none = omega (arith, room, room', more, same none)

  -- where room was made for two more, there is room for one yet
  pub room_kept : (fault : Option ControlFault) (entry : Entry) → after ≡ noted (is_noted fault) before entry → count + 2 ≤ held' → count' < held'
  room_kept None entry adds made = omega (arith, made, longer entry adds)
  room_kept (Some Disk) entry adds made = omega (arith, made, longer entry adds)
  room_kept (Some Memory) entry none made = omega (arith, made, same none)
  room_kept (Some (Spent counter)) entry none made = omega (arith, made, same none)
