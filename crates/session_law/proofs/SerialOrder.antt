-- The messages of a serial code end in the order of their ids, over all lives.
use Rattle.std.proofs.Common.{◌≡◌, ℕ, zero, suc, ◌+◌, ◌≤◌, true, List, [], ◌∷◌, ◌++◌, Option, Some, None, length, take, drop, refl, sym, ap, ◌∙◌, subst, arith, append_assoc, append-nil}
use Rattle.std.specs.Prelude.{replicate, slice_get}
use Rattle.std.specs.List.{AllByRecursion}
use Rattle.std.specs.Option.{option_map_or, option_and_then}
use Rattle.std.specs.Str.{bytes_eq}
use Rattle.std.proofs.lemmas.List.{length-append, take-append-drop, take-append-le, take_all}
use Rattle.model_system.specs.declared.code.Code.{Code}
use Rattle.model_system.specs.Codes.{code_at, code_place}
use Rattle.model_system.specs.System.{System}
use Rattle.model_machine.specs.declared.entry.Entry.{Entry}
use Rattle.model_machine.specs.History.{after_entry, call_of, moment_after}
use Rattle.model_machine.specs.LastingSteps.{LastingStep, applied}
use Rattle.model_machine.specs.Machine.{LastingState, Moment, Slot, start_of}
use Rattle.model_machine.specs.MachineCalls.{lasting_step}
use Rattle.model_session.specs.Lives.{LifeState, LifeLeaves}
use Rattle.system_types.specs.ValidSystem.{IsSystem}
use Rattle.system_types.proofs.Indexed.{found_at}
use Rattle.session_law.specs.SentAgain.{alone, AreLeft}
use Rattle.session_law.specs.SerialOrder.{DoneStep, EndsInOrder, all_kept_steps, ended_ids, kept_steps, step_done, steps_in}
use Rattle.session_law.proofs.LifeEnds.{OpenedWith}
use Rattle.session_law.proofs.SerialMessages.{AreFrom, CodeFrom, IdsAscend, ascend_from, code_all}
use Rattle.session_law.proofs.SerialSteps.{Rise, SerialIf, ServesAt, behind, entries_go, ids_append, pairs_rise, rise_front, rise_on}

-- ---- the steps of a life

steps_append : (system : System) (moment : Moment) (front rest : List Entry)
    → steps_in system moment (front ++ rest) ≡ steps_in system moment front ++ steps_in system (moment_after system moment front) rest
steps_append system moment [] rest = refl
steps_append system moment (entry ∷ front) rest =
    let done : List DoneStep = option_map_or (step_done moment.lasting) (lasting_step system moment (call_of entry)) [] in
    let after : Moment = after_entry system moment entry in
    ap (λ (steps : List DoneStep). done ++ steps) (steps_append system after front rest)
    ∙ sym (append_assoc done (steps_in system after front) (steps_in system (moment_after system after front) rest))

one_counted : (lasting : LastingState) (step : Option LastingStep) → (option_map_or (λ s. applied s lasting) step lasting).steps ≡ lasting.steps + length (option_map_or (step_done lasting) step [])
one_counted lasting None = omega arith
one_counted lasting (Some step) = omega arith

-- each counts
steps_counted : (system : System) (moment : Moment) (entries : List Entry) → (moment_after system moment entries).lasting.steps ≡ moment.lasting.steps + length (steps_in system moment entries)
steps_counted system moment [] = omega arith
steps_counted system moment (entry ∷ entries) =
    let step : Option LastingStep = lasting_step system moment (call_of entry) in
    let after : Moment = after_entry system moment entry in
    omega (
      arith,
      one_counted moment.lasting step,
      steps_counted system after entries,
      length-append (option_map_or (step_done moment.lasting) step []) (steps_in system after entries),
    )

-- Of a life that is followed by another one, the steps of a front are kept, and the next life opens with what that leaves.
record IsKeptFront (system : System) (life next : LifeState) : Type 0 where
  front : List Entry
  kept : kept_steps system life ≡ steps_in system (start_of system life.opening) front
  opening : next.opening ≡ (moment_after system (start_of system life.opening) front).lasting

kept_front : (system : System) (life next : LifeState) → LifeLeaves system (alone life) life.kept next.opening → IsKeptFront system life next
kept_front system life next opens =
    let start : Moment = start_of system life.opening in
    let front : List Entry = opens.front in
    let rest : List Entry = opens.rest in
    let steps : List DoneStep = steps_in system start front in
    let others : List DoneStep = steps_in system (moment_after system start front) rest in
    let all : steps_in system start life.history ≡ steps ++ others = ap (steps_in system start) opens.split ∙ steps_append system start front rest in
    let count : life.kept ≡ length steps =
    omega (arith, opens.counted, ap (λ (s : LastingState). s.steps) opens.left, steps_counted system start front) in
    record {
      front = front;
      kept = ap (λ (n : ℕ). take n (steps_in system start life.history)) count ∙ ap (take (length steps)) all
          ∙ take-append-le (length steps) steps others (omega arith) ∙ take_all (length steps) steps (omega arith);
      opening = opens.left;
    }

-- ---- lives

-- no message
abbrev no_slot : Option Slot
no_slot = None

none_in : (n place : ℕ) (slot : Slot) → slice_get (replicate n no_slot) place ≡ Some (Some slot) → ⊥
none_in zero place slot e = cc
none_in (suc n) zero slot e = cc
none_in (suc n) (suc place) slot e = none_in n place slot e

module _ (system : System) (code : List ℕ) (serial : AllByRecursion (SerialIf code) system.codes) where
  -- a life begins with no message worked on
  start_serves : (low : ℕ) (opening : LastingState) → low ≤ opening.next_id → AreFrom 0 opening.next_id opening.messages → CodeFrom code low opening.messages → ServesAt system code serial low (start_of system opening)
  start_serves low opening below ordered least = record {
    below = below;
    ordered = ordered;
    least = least;
    there = λ place slot has. absurd (none_in (length system.regions) place slot has);
    apart = λ place other slot second has too same. absurd (none_in (length system.regions) place slot has);
    alone = λ place other slot second has too of its. absurd (none_in (length system.regions) place slot has);
    first = λ place slot has of. absurd (none_in (length system.regions) place slot has);
  }

  started_again : (low : ℕ) (moment : Moment) (opening : LastingState) → opening ≡ moment.lasting → ServesAt system code serial low moment → ServesAt system code serial low (start_of system opening)
  started_again low moment opening same h =
      subst (λ (state : LastingState). ServesAt system code serial low (start_of system state)) (sym same) (start_serves low moment.lasting h.below h.ordered h.least)

  -- of steps that rise those of a front do
  front_rises : (low n : ℕ) (steps : List DoneStep) → Rise low (ended_ids code steps) → Rise low (ended_ids code (take n steps))
  front_rises low n steps h =
      rise_front low (ended_ids code (take n steps)) (ended_ids code (drop n steps))
      (subst (λ (ids : List ℕ). Rise low ids) (ap (ended_ids code) (sym (take-append-drop n steps)) ∙ ids_append code (take n steps) (drop n steps)) h)

  lives_rise : (low : ℕ) (life : LifeState) (lives : List LifeState) → ServesAt system code serial low (start_of system life.opening) → AreLeft system (life ∷ lives)
      → Rise low (ended_ids code (all_kept_steps system (life ∷ lives)))
  lives_rise low life [] h linked =
      let start : Moment = start_of system life.opening in
      subst (λ (steps : List DoneStep). Rise low (ended_ids code steps)) (sym (append-nil (kept_steps system life)))
      (front_rises low life.kept (steps_in system start life.history) (entries_go system code serial low start life.history h).0)
  lives_rise low life (next ∷ lives) h linked =
      let start : Moment = start_of system life.opening in
      let its = kept_front system life next linked.0 in
      let goes = entries_go system code serial low start its.front h in
      let first : List ℕ = ended_ids code (steps_in system start its.front) in
      let later = lives_rise (behind low first) next lives (started_again (behind low first) (moment_after system start its.front) next.opening its.opening goes.1) linked.1 in
      let whole : ended_ids code (all_kept_steps system (life ∷ next ∷ lives)) ≡ first ++ ended_ids code (all_kept_steps system (next ∷ lives)) =
      ids_append code (kept_steps system life) (all_kept_steps system (next ∷ lives))
      ∙ ap (λ (steps : List DoneStep). ended_ids code steps ++ ended_ids code (all_kept_steps system (next ∷ lives))) its.kept in
      subst (λ (ids : List ℕ). Rise low ids) (sym whole) (rise_on low first (ended_ids code (all_kept_steps system (next ∷ lives))) goes.0 later)

-- ---- the codes of a system

each_code : (P : Code → Type 0) (codes : List Code) → ((place : ℕ) (code : Code) → slice_get codes place ≡ Some code → P code) → AllByRecursion P codes
each_code P [] each = tt
each_code P (code ∷ codes) each = (each zero code refl, each_code P codes (λ place other e. each (suc place) other e))

-- a code of this name is the one that is found by it
serial_codes : (system : System) → IsSystem system → (name : List ℕ) (code : Code) → code_at system.codes name ≡ Some code → code.transaction.serial ≡ true → AllByRecursion (SerialIf name) system.codes
serial_codes system valid name code found serial =
    each_code (SerialIf name) system.codes
    (λ place other e named.
    let at : code_place system.codes name ≡ Some place = ap (code_place system.codes) (sym named) ∙ valid.apart place other e in
    let same : Some other ≡ Some code =
    sym e ∙ sym (ap (λ (o : Option ℕ). option_and_then (slice_get system.codes) o) at) ∙ found_at (λ c. bytes_eq c.transaction.code name) system.codes ∙ found in
    ap (λ (c : Code). c.transaction.serial) (code_is other code same) ∙ serial) where
      code_is : (a b : Code) → Some a ≡ Some b → a ≡ b
      code_is a b e = cc

-- ---- all of it

-- ids ascend, below the next one
abbrev pub IsInOrder : LastingState → Type 0
IsInOrder lasting = IdsAscend lasting.next_id lasting.messages

-- So it is where the first life opened with messages in the order of their ids.
pub ends_in_order : (system : System) → IsSystem system → (lives : List LifeState) → OpenedWith IsInOrder lives → AreLeft system lives → EndsInOrder system lives
ends_in_order system valid [] begins linked = λ name code found serial. pairs_rise 0 [] tt
ends_in_order system valid (life ∷ lives) begins linked = λ name code found serial.
    let codes : AllByRecursion (SerialIf name) system.codes = serial_codes system valid name code found serial in
    let ordered : AreFrom 0 life.opening.next_id life.opening.messages = ascend_from life.opening.next_id life.opening.messages begins in
    pairs_rise 0 (ended_ids name (all_kept_steps system (life ∷ lives)))
    (lives_rise system name codes 0 life lives (start_serves system name codes 0 life.opening (omega arith) ordered (code_all name 0 life.opening.next_id life.opening.messages ordered)) linked)
