-- What a record does to the replay of the definition.
use Rattle.std.proofs.Common.{◌≡◌, Bool, true, false, not, List, [], ◌∷◌, ◌++◌, ℕ, zero, suc, refl, sym, ◌∙◌, ap, subst, Some, None}
use Rattle.std.specs.Prelude.{if◌then◌else◌, Option, ◌==◌, filter, Result, Ok, Err, IfOk}
use Rattle.std.specs.Option.{option_map_or, option_and_then}
use Rattle.std.proofs.lemmas.Bool.{eqb-true, eq-eqb, ne_eqb}
use Rattle.std.proofs.lemmas.List.Elements.{filter-append}
use Rattle.std.proofs.lemmas.List.{append-nil}
use Rattle.model_system.specs.System.{System}
use Rattle.model_machine.specs.Machine.{LastingState}
use Rattle.log_records.specs.declared.record.Record.{Record}
use Rattle.log_records.specs.declared.record.Record.TheVariants.{Input, Command, Reply, Discarded, Completed, Acknowledged, SyncPoint, Checkpoint, Terminal, Code, Change}
use Rattle.model_image.specs.States.{breaks_a_rule}
use Rattle.model_image.specs.Replay.{Replay, is_of_unit, with_waiting, without_unit, with_lasting, replayed, is_record_known, unless_it_breaks, replay_one, replay_accepts, commands}
use Rattle.log_replay.specs.ReplayRules.{lasting_in, AreMessagesFree, RecordLeaves}
use Rattle.image_records.specs.KeptState.{KeptState}
use Rattle.log_replay.specs.ConversationTally.{TallyState, TallyFollows}
use Rattle.log_replay.specs.WaitingRecords.{of_unit, ChangesUnit}
use Rattle.log_replay.specs.WorkState.{WorkState, IsAt, RecordComesTo, RecordWaits, IsRecordDone, waits_for_unit, of_unit_of, does_now, LeavesUnits}

-- ---- records that wait

waiting_unit : (r : Record) (unit : ℕ) → waits_for_unit r ≡ Some unit → (u : ℕ) → is_of_unit u r ≡ (unit == u)
waiting_unit (Input zero id origin code number conversation segments) unit is u = cc
waiting_unit (Input (suc n) id origin code number conversation segments) unit is u = let e : suc n ≡ unit = cc in ap (λ n. n == u) e
waiting_unit (Reply n terminal number segments) unit is u = let e : n ≡ unit = cc in ap (λ n. n == u) e
waiting_unit (Completed n id) unit is u = let e : n ≡ unit = cc in ap (λ n. n == u) e
waiting_unit (Command text) unit is u = cc
waiting_unit (Discarded n id abend number) unit is u = cc
waiting_unit (Acknowledged terminal number) unit is u = cc
waiting_unit (SyncPoint n pad) unit is u = cc
waiting_unit (Checkpoint checkpoint next_id next_unit steps) unit is u = cc
waiting_unit (Terminal name last next stopped conversation) unit is u = cc
waiting_unit (Code name stopped class priority) unit is u = cc
waiting_unit (Change n database slot before after) unit is u = cc

waiting_done : (system : System) (r : Record) (unit : ℕ) → waits_for_unit r ≡ Some unit → (replay : Replay) → replayed system r replay ≡ Some (with_waiting r replay)
waiting_done system (Input zero id origin code number conversation segments) unit is replay = cc
waiting_done system (Input (suc n) id origin code number conversation segments) unit is replay = refl
waiting_done system (Reply n terminal number segments) unit is replay = refl
waiting_done system (Completed n id) unit is replay = refl
waiting_done system (Command text) unit is replay = cc
waiting_done system (Discarded n id abend number) unit is replay = cc
waiting_done system (Acknowledged terminal number) unit is replay = cc
waiting_done system (SyncPoint n pad) unit is replay = cc
waiting_done system (Checkpoint checkpoint next_id next_unit steps) unit is replay = cc
waiting_done system (Terminal name last next stopped conversation) unit is replay = cc
waiting_done system (Code name stopped class priority) unit is replay = cc
waiting_done system (Change n database slot before after) unit is replay = cc

-- ---- the others

-- what waits behind a record
abbrev left_by : Record → Replay → Replay
left_by (SyncPoint unit pad) replay = without_unit unit replay
left_by _ replay = replay

-- the records that a sync point does
abbrev of_its_unit : Record → Replay → List Record
of_its_unit (SyncPoint unit pad) replay = filter (is_of_unit unit) replay.waiting
of_its_unit _ replay = []

now_done : (system : System) (r : Record) → waits_for_unit r ≡ None → (replay : Replay) → replayed system r replay ≡ with_lasting (left_by r replay) (does_now system r (of_its_unit r replay) replay.lasting)
now_done system (Input zero id origin code number conversation segments) is replay = refl
now_done system (Input (suc n) id origin code number conversation segments) is replay = cc
now_done system (Reply n terminal number segments) is replay = cc
now_done system (Completed n id) is replay = cc
now_done system (Command text) is replay = refl
now_done system (Discarded n id abend number) is replay = refl
now_done system (Acknowledged terminal number) is replay = refl
now_done system (SyncPoint n pad) is replay = refl
now_done system (Checkpoint checkpoint next_id next_unit steps) is replay = refl
now_done system (Terminal name last next stopped conversation) is replay = refl
now_done system (Code name stopped class priority) is replay = refl
now_done system (Change n database slot before after) is replay = refl

same_records : (r : Record) (replay : Replay) (units : List (ℕ × List Record)) → ((unit : ℕ) → of_unit unit units ≡ filter (is_of_unit unit) replay.waiting) → of_its_unit r replay ≡ of_unit_of r units
same_records (SyncPoint unit pad) replay units waiting = sym (waiting unit)
same_records (Input n id origin code number conversation segments) replay units waiting = refl
same_records (Reply n terminal number segments) replay units waiting = refl
same_records (Completed n id) replay units waiting = refl
same_records (Command text) replay units waiting = refl
same_records (Discarded n id abend number) replay units waiting = refl
same_records (Acknowledged terminal number) replay units waiting = refl
same_records (Checkpoint checkpoint next_id next_unit steps) replay units waiting = refl
same_records (Terminal name last next stopped conversation) replay units waiting = refl
same_records (Code name stopped class priority) replay units waiting = refl
same_records (Change n database slot before after) replay units waiting = refl

-- a record of one unit is of no other
apart : (u unit : ℕ) → unit == u ≡ false → (r : Record) → is_of_unit u r ≡ true → is_of_unit unit r ≡ false
apart u unit other (Input n id origin code number conversation segments) is = ne_eqb n unit (λ e. absurd (clash u unit n other (eqb-true n u is) e)) where
  clash : (u unit n : ℕ) → unit == u ≡ false → n ≡ u → n ≡ unit → ⊥
  clash u unit n other same e = absurd (subst (λ (b : Bool). b ≡ false → ⊥) (sym (eq-eqb unit u (sym e ∙ same))) (λ f. cc) other)
apart u unit other (Reply n terminal number segments) is = ne_eqb n unit (λ e. absurd (subst (λ (b : Bool). b ≡ false → ⊥) (sym (eq-eqb unit u (sym e ∙ eqb-true n u is))) (λ f. cc) other))
apart u unit other (Completed n id) is = ne_eqb n unit (λ e. absurd (subst (λ (b : Bool). b ≡ false → ⊥) (sym (eq-eqb unit u (sym e ∙ eqb-true n u is))) (λ f. cc) other))
apart u unit other (Command text) is = cc
apart u unit other (Discarded n id abend number) is = cc
apart u unit other (Acknowledged terminal number) is = cc
apart u unit other (SyncPoint n pad) is = cc
apart u unit other (Checkpoint checkpoint next_id next_unit steps) is = cc
apart u unit other (Terminal name last next stopped conversation) is = cc
apart u unit other (Code name stopped class priority) is = cc
apart u unit other (Change n database slot before after) is = cc

-- the other units' records stay
others_stay : (u unit : ℕ) → unit == u ≡ false → (records : List Record) → filter (is_of_unit u) (filter (λ r. not (is_of_unit unit r)) records) ≡ filter (is_of_unit u) records
others_stay u unit other [] = refl
others_stay u unit other (r ∷ records) = by_tests (is_of_unit u r) (is_of_unit unit r) refl refl (others_stay u unit other records) where
  by_tests : (a b : Bool) → is_of_unit u r ≡ a → is_of_unit unit r ≡ b → filter (is_of_unit u) (filter (λ r. not (is_of_unit unit r)) records) ≡ filter (is_of_unit u) records →
      filter (is_of_unit u) (if not b then r ∷ filter (λ r. not (is_of_unit unit r)) records else filter (λ r. not (is_of_unit unit r)) records) ≡ (if a then r ∷ filter (is_of_unit u) records else filter (is_of_unit u) records)
  by_tests true true isa isb rest = absurd (subst (λ (b : Bool). b ≡ true → ⊥) (sym (apart u unit other r isa)) (λ e. cc) isb)
  by_tests true false isa isb rest = ap (λ b. if b then r ∷ filter (is_of_unit u) (filter (λ r. not (is_of_unit unit r)) records) else filter (is_of_unit u) (filter (λ r. not (is_of_unit unit r)) records)) isa ∙ ap (λ (rs : List Record). r ∷ rs) rest
  by_tests false true isa isb rest = rest
  by_tests false false isa isb rest = ap (λ b. if b then r ∷ filter (is_of_unit u) (filter (λ r. not (is_of_unit unit r)) records) else filter (is_of_unit u) (filter (λ r. not (is_of_unit unit r)) records)) isa ∙ rest

own_go : (unit : ℕ) (records : List Record) → filter (is_of_unit unit) (filter (λ r. not (is_of_unit unit r)) records) ≡ []
own_go unit [] = refl
own_go unit (r ∷ records) = by_test (is_of_unit unit r) refl (own_go unit records) where
  by_test : (a : Bool) → is_of_unit unit r ≡ a → filter (is_of_unit unit) (filter (λ r. not (is_of_unit unit r)) records) ≡ [] →
      filter (is_of_unit unit) (if not a then r ∷ filter (λ r. not (is_of_unit unit r)) records else filter (λ r. not (is_of_unit unit r)) records) ≡ []
  by_test true is rest = rest
  by_test false is rest = ap (λ b. if b then r ∷ filter (is_of_unit unit) (filter (λ r. not (is_of_unit unit r)) records) else filter (is_of_unit unit) (filter (λ r. not (is_of_unit unit r)) records)) is ∙ rest

abbrev Wait : Replay → List (ℕ × List Record) → Type 0
Wait replay units = (unit : ℕ) → of_unit unit units ≡ filter (is_of_unit unit) replay.waiting

left_waiting : (r : Record) (replay : Replay) (old new : List (ℕ × List Record)) → Wait replay old → LeavesUnits r old new → Wait (left_by r replay) new
left_waiting (SyncPoint unit pad) replay old new waiting changes u = changes u ∙ by_unit (unit == u) refl where
  by_unit : (b : Bool) → unit == u ≡ b → (if b then [] else of_unit u old) ≡ filter (is_of_unit u) (filter (λ r. not (is_of_unit unit r)) replay.waiting)
  by_unit true is = sym (ap (λ n. filter (is_of_unit n) (filter (λ r. not (is_of_unit unit r)) replay.waiting)) (sym (eqb-true unit u is)) ∙ own_go unit replay.waiting)
  by_unit false is = waiting u ∙ sym (others_stay u unit is replay.waiting)
left_waiting (Input n id origin code number conversation segments) replay old new waiting same u = ap (of_unit u) same ∙ waiting u
left_waiting (Reply n terminal number segments) replay old new waiting same u = ap (of_unit u) same ∙ waiting u
left_waiting (Completed n id) replay old new waiting same u = ap (of_unit u) same ∙ waiting u
left_waiting (Command text) replay old new waiting same u = ap (of_unit u) same ∙ waiting u
left_waiting (Discarded n id abend number) replay old new waiting same u = ap (of_unit u) same ∙ waiting u
left_waiting (Acknowledged terminal number) replay old new waiting same u = ap (of_unit u) same ∙ waiting u
left_waiting (Checkpoint checkpoint next_id next_unit steps) replay old new waiting same u = ap (of_unit u) same ∙ waiting u
left_waiting (Terminal name last next stopped conversation) replay old new waiting same u = ap (of_unit u) same ∙ waiting u
left_waiting (Code name stopped class priority) replay old new waiting same u = ap (of_unit u) same ∙ waiting u
left_waiting (Change n database slot before after) replay old new waiting same u = ap (of_unit u) same ∙ waiting u

-- ---- a record

module _ (system : System) (r : Record) (replay : Replay) (old new : WorkState) (at : IsAt system replay old) where
  -- its names aren't known
  pub unknown : is_record_known system r ≡ false → RecordComesTo system (replay_one system r replay) new false
  unknown is = ap (λ b. if b then option_and_then (unless_it_breaks system) (replayed system r replay) else None) is

  known_is : is_record_known system r ≡ true → (answer : Option Replay) → replayed system r replay ≡ answer → replay_one system r replay ≡ option_and_then (unless_it_breaks system) answer
  known_is is answer done =
      ap (λ b. if b then option_and_then (unless_it_breaks system) (replayed system r replay) else None) is ∙ ap (option_and_then (unless_it_breaks system)) done

  -- it waits for its unit's sync point
  waits_on : is_record_known system r ≡ true → (unit : ℕ) → waits_for_unit r ≡ Some unit → new.kept ≡ old.kept → ChangesUnit unit (λ records. records ++ r ∷ []) old.units new.units → new.tally ≡ old.tally → RecordComesTo system (replay_one system r replay) new true
  waits_on known unit is same changes alike = (
    with_waiting r replay,
    known_is known (Some (with_waiting r replay)) (waiting_done system r unit is replay) ∙ ap (λ b. if b then None else Some (with_waiting r replay)) at.sound,
    record {
      lasting = at.lasting ∙ ap (lasting_in system) (sym same);
      free = subst (AreMessagesFree system) (sym same) at.free;
      sound = at.sound;
      waiting = λ u. changes u ∙ by_unit u (unit == u) refl;
      follows = subst (λ (t : TallyState). TallyFollows system new.kept t) (sym alike) (subst (λ (k : KeptState). TallyFollows system k old.tally) (sym same) at.follows);
    },
  ) where
    by_unit : (u : ℕ) (b : Bool) → unit == u ≡ b → (if b then of_unit u old.units ++ r ∷ [] else of_unit u old.units) ≡ filter (is_of_unit u) (replay.waiting ++ r ∷ [])
    by_unit u b same_unit =
        by_test b (sym (waiting_unit r unit is u ∙ same_unit))
        ∙ sym (filter-append (is_of_unit u) replay.waiting (r ∷ [])) where
          by_test : (b : Bool) → b ≡ is_of_unit u r → (if b then of_unit u old.units ++ r ∷ [] else of_unit u old.units) ≡ filter (is_of_unit u) replay.waiting ++ (if is_of_unit u r then r ∷ [] else [])
          by_test true test = ap (λ (rs : List Record). rs ++ r ∷ []) (at.waiting u) ∙ ap (λ b. filter (is_of_unit u) replay.waiting ++ (if b then r ∷ [] else [])) test
          by_test false test = at.waiting u ∙ sym (append-nil (filter (is_of_unit u) replay.waiting)) ∙ ap (λ b. filter (is_of_unit u) replay.waiting ++ (if b then r ∷ [] else [])) test

  pub waits : is_record_known system r ≡ true → (unit : ℕ) → waits_for_unit r ≡ Some unit → (fine : Bool) → RecordWaits unit r old new fine → RecordComesTo system (replay_one system r replay) new fine
  waits known unit is fine w = subst (RecordComesTo system (replay_one system r replay) new) (sym w.is_fine) (waits_on known unit is w.kept w.units w.tally)

  -- it is done at once
  module _ (known : is_record_known system r ≡ true) (is : waits_for_unit r ≡ None) (units : LeavesUnits r old.units new.units) where
    answer_is : (answer : Option LastingState) → does_now system r (of_unit_of r old.units) (lasting_in system old.kept) ≡ answer → replay_one system r replay ≡ option_and_then (unless_it_breaks system) (with_lasting (left_by r replay) answer)
    answer_is answer done =
        known_is known (with_lasting (left_by r replay) answer)
        (now_done system r is replay
        ∙ ap (λ (rs : List Record). with_lasting (left_by r replay) (does_now system r rs replay.lasting)) (same_records r replay old.units at.waiting)
        ∙ ap (λ (l : LastingState). with_lasting (left_by r replay) (does_now system r (of_unit_of r old.units) l)) at.lasting
        ∙ ap (with_lasting (left_by r replay)) done)

    pub comes : (fine : Bool) → RecordLeaves system (does_now system r (of_unit_of r old.units) (lasting_in system old.kept)) new.kept fine → (fine ≡ true → TallyFollows system new.kept new.tally) → RecordComesTo system (replay_one system r replay) new fine
    comes true leaves follows =
        let after = lasting_in system new.kept in (
          record (left_by r replay) { lasting = after },
          answer_is (Some after) leaves.0 ∙ ap (λ b. if b then None else Some (record (left_by r replay) { lasting = after })) leaves.1,
          record {
            lasting = refl;
            free = leaves.2;
            sound = leaves.1;
            waiting = left_waiting r replay old.units new.units at.waiting units;
            follows = follows refl;
          },
        )
    comes false broken follows = by_answer (does_now system r (of_unit_of r old.units) (lasting_in system old.kept)) refl broken where
      by_answer : (answer : Option LastingState) → does_now system r (of_unit_of r old.units) (lasting_in system old.kept) ≡ answer → option_map_or (breaks_a_rule system) answer true ≡ true → replay_one system r replay ≡ None
      by_answer None done broken = answer_is None done
      by_answer (Some after) done broken = answer_is (Some after) done ∙ ap (λ b. if b then None else Some (record (left_by r replay) { lasting = after })) broken

-- a record that doesn't wait
pub done_now : (system : System) (r : Record) (replay : Replay) (old new : WorkState) (at : IsAt system replay old) → is_record_known system r ≡ true → waits_for_unit r ≡ None → (fine : Bool) → IsRecordDone system r old new fine → RecordComesTo system (replay_one system r replay) new fine
done_now system r replay old new at known is fine done = comes system r replay old new at known is done.units fine done.lasting done.follows

-- an input is done at once
pub input_done : (system : System) (unit id : ℕ) (origin code : List ℕ) (number : ℕ) (conversation : Bool) (segments : List (List ℕ)) (old new : WorkState) (fine : Bool) →
    RecordLeaves system (replay_accepts system id origin code number conversation segments (lasting_in system old.kept)) new.kept fine → new.units ≡ old.units → (fine ≡ true → TallyFollows system new.kept new.tally) → IsRecordDone system (Input unit id origin code number conversation segments) old new fine
input_done system unit id origin code number conversation segments old new fine leaves same follows = record { lasting = leaves; units = same; follows = follows }

pub command_done : (system : System) (text : List ℕ) (old new : WorkState) (fine : Bool) →
    RecordLeaves system (commands text (lasting_in system old.kept)) new.kept fine → new.units ≡ old.units → (fine ≡ true → TallyFollows system new.kept new.tally) → IsRecordDone system (Command text) old new fine
command_done system text old new fine leaves same follows = record { lasting = leaves; units = same; follows = follows }

-- two facts of what is answered give a third one
pub of_both : {X Y : Type 0} (r : Result X Y) (P Q R : X → Type 0) → ((x : X) → P x → Q x → R x) → IfOk r P → IfOk r Q → IfOk r R
of_both (Ok x) P Q R from p q = from x p q
of_both (Err e) P Q R from p q = tt
