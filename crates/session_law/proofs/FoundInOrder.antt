-- The messages of a state that an image recovers to stand in the order of their ids, and its replies have numbers that follow one another.
use Rattle.std.proofs.Common.{◌≡◌, ℕ, ◌+◌, Bool, true, false, not, ◌&&◌, ◌||◌, List, [], ◌∷◌, length, map, Option, Some, None, refl, subst, nat_lt, cond}
use Rattle.std.specs.Prelude.{Result, Ok, Err, ◌==◌}
use Rattle.std.specs.List.{list_all}
use Rattle.std.specs.Str.{bytes_eq}
use Rattle.std.specs.Option.{option_map, option_and_then}
use Rattle.std.proofs.lemmas.Bool.{ltb-true, eqb-true}
use Rattle.tm_types.specs.declared.message.Message.{Message}
use Rattle.tm_types.specs.declared.message.Reply.{Reply}
use Rattle.model_messages.specs.declared.replies.TerminalReplies.{TerminalReplies}
use Rattle.model_messages.specs.Outputs.{fresh_terminal, replies_at, RunUpTo, AreNumbered}
use Rattle.tm_disk.specs.Disk.{Image}
use Rattle.log_records.specs.declared.record.Record.{Record}
use Rattle.log_records.specs.RecordReader.{◌>>=◌}
use Rattle.restart_data.specs.declared.restart.RestartSector.{RestartSector}
use Rattle.restart_data.specs.Restart.{restart_in}
use Rattle.restart_data.specs.Rules.{first_broken, unless_rule_broken}
use Rattle.restart_data.specs.Snapshot.{snapshot_in}
use Rattle.model_system.specs.System.{System}
use Rattle.model_machine.specs.Machine.{LastingState, empty_state}
use Rattle.model_system.specs.Areas.{is_single, log_first, snapshot_area, snapshot_first}
use Rattle.model_image.specs.CutRecords.{records_cut}
use Rattle.model_image.specs.Faults.{Fault, in_sector, or_fault, unless_any, unless_fault}
use Rattle.model_image.specs.Replay.{Replay, replay_all, replay_one}
use Rattle.model_image.specs.RecoveredState.{Recovers, later_sector, log_from, snapshot_from, state_by_restart, state_from, state_with}
use Rattle.model_image.specs.Slots.{image_rows_from}
use Rattle.model_image.specs.Snapshot.{snapshot_rules, snapshot_state}
use Rattle.model_image.specs.States.{ascend_below, run_up_to}
use Rattle.model_image.proofs.Later.{bound}
use Rattle.image_law.proofs.Bools.{first_of, second_of}
use Rattle.image_law.proofs.Replayed.{leaves_sound}
use Rattle.image_law.proofs.SoundLaws.{is_sound}
use Rattle.session_law.proofs.SerialMessages.{IdsAscend}
use Rattle.session_law.proofs.NumberedReplies.{IsNumbered}

ascending : (next : ℕ) (messages : List Message) → ascend_below next messages ≡ true → IdsAscend next messages
ascending next [] is = tt
ascending next (m ∷ []) is = ltb-true m.id next is
ascending next (m ∷ later ∷ messages) is = (
  ltb-true m.id later.id (first_of (nat_lt m.id later.id) (ascend_below next (later ∷ messages)) is),
  ascending next (later ∷ messages) (second_of (nat_lt m.id later.id) (ascend_below next (later ∷ messages)) is),
)

numbered : (next : ℕ) (replies : List Reply) → run_up_to next replies ≡ true → RunUpTo next replies
numbered next [] is = tt
numbered next (r ∷ replies) is =
    let here : not (r.number == 0) && (r.number + length (r ∷ replies) == next) ≡ true = first_of (not (r.number == 0) && (r.number + length (r ∷ replies) == next)) (run_up_to next replies) is in (
      eqb-true (r.number + length (r ∷ replies)) next (second_of (not (r.number == 0)) (r.number + length (r ∷ replies) == next) here),
      numbered next replies (second_of (not (r.number == 0) && (r.number + length (r ∷ replies) == next)) (run_up_to next replies) is),
    )

abbrev is_run : TerminalReplies → Bool
is_run t = run_up_to t.next t.replies

all_numbered : (outputs : List TerminalReplies) → list_all (λ t. run_up_to t.next t.replies) outputs ≡ true → (terminal : List ℕ) (t : TerminalReplies) → replies_at terminal outputs ≡ Some t → AreNumbered t
all_numbered [] all terminal t there = cc
all_numbered (u ∷ outputs) all terminal t there = by (bytes_eq u.terminal terminal) there (all_numbered outputs (second_of (is_run u) (list_all (λ t. run_up_to t.next t.replies) outputs) all) terminal t) where
  by : (b : Bool) → cond b (Some u) (replies_at terminal outputs) ≡ Some t → (replies_at terminal outputs ≡ Some t → AreNumbered t) → AreNumbered t
  by true is later = let same : u ≡ t = cc in subst AreNumbered same (numbered u.next u.replies (first_of (is_run u) (list_all (λ t. run_up_to t.next t.replies) outputs) all))
  by false is later = later is

-- so it is where none is kept
fresh_run : (names : List (List ℕ)) → list_all (λ t. run_up_to t.next t.replies) (map fresh_terminal names) ≡ true
fresh_run [] = refl
fresh_run (name ∷ names) = fresh_run names

-- both tests
abbrev IsOrdered : LastingState → Type 0
IsOrdered lasting = (ascend_below lasting.next_id lasting.messages ≡ true) × (list_all (λ t. run_up_to t.next t.replies) lasting.outputs ≡ true)

module _ (system : System) where
  -- ---- the log's records, done again

  replayed : (records : List Record) (before after : Replay) → IsOrdered before.lasting → replay_all system records before ≡ Some after → IsOrdered after.lasting
  replayed [] before after h e = let same : before ≡ after = cc in subst (λ (r : Replay). IsOrdered r.lasting) same h
  replayed (r ∷ records) before after h e = by (replay_one system r before) refl e (λ next. replayed records next after) where
    by : (found : Option Replay) → replay_one system r before ≡ found → option_and_then (replay_all system records) found ≡ Some after
        → ((next : Replay) → IsOrdered next.lasting → replay_all system records next ≡ Some after → IsOrdered after.lasting) → IsOrdered after.lasting
    by None one rest later = cc
    by (Some next) one rest later = let its = is_sound system next.lasting (leaves_sound system r before next one) in later next (its.ascending, its.runs) rest

  from_log : (fault : Fault) (found : Option Replay) (lasting : LastingState) → ((after : Replay) → found ≡ Some after → IsOrdered after.lasting)
      → or_fault fault (option_map (λ (r : Replay). r.lasting) found) ≡ Ok lasting → IsOrdered lasting
  from_log fault None lasting each e = cc
  from_log fault (Some after) lasting each e = let same : after.lasting ≡ lasting = cc in subst IsOrdered same (each after refl)

  -- ---- the snapshot's records

  none_broken : (a b c d e o f g : Bool) → first_broken ((11, a) ∷ (12, b) ∷ (13, not c) ∷ (14, d) ∷ (15, not e || o) ∷ (16, f) ∷ (17, g) ∷ []) ≡ None → (c ≡ true) × (e ≡ true)
  none_broken true b c d e o f g none = cc
  none_broken false true c d e o f g none = cc
  none_broken false false false d e o f g none = cc
  none_broken false false true true e o f g none = cc
  none_broken false false true false false o f g none = cc
  none_broken false false true false true o f g none = (refl, refl)

  unbroken : (sector : ℕ) (rule : Option ℕ) (one other : List Record) → in_sector sector (unless_rule_broken rule one) ≡ Ok other → (rule ≡ None) × (one ≡ other)
  unbroken sector None one other e = (refl, cc)
  unbroken sector (Some rule) one other e = cc

  from_records : (fault : Fault) (sector : ℕ) (found : Option (List Record)) (records : List Record) → (or_fault fault found >>= λ l. unless_any sector (snapshot_rules system l) l) ≡ Ok records
      → IsOrdered (snapshot_state system records)
  from_records fault sector None records e = cc
  from_records fault sector (Some l) records e =
      let both = unbroken sector (first_broken (snapshot_rules system l)) l records e in
      subst (λ (rs : List Record). IsOrdered (snapshot_state system rs)) both.1
      (none_broken _ _ (ascend_below (snapshot_state system l).next_id (snapshot_state system l).messages) _ (list_all (λ t. run_up_to t.next t.replies) (snapshot_state system l).outputs) _ _ _ both.0)

  from_snapshot : (fault : Fault) (sector : ℕ) (read : Result (List ℕ) Fault) (records : List Record)
      → (read >>= λ bytes. or_fault fault (records_cut bytes) >>= λ l. unless_any sector (snapshot_rules system l) l) ≡ Ok records → IsOrdered (snapshot_state system records)
  from_snapshot fault sector (Ok bytes) records e = from_records fault sector (records_cut bytes) records e
  from_snapshot fault sector (Err bad) records e = cc

  -- ---- the image

  same_messages : (fault : Option Fault) (one other : LastingState) → unless_fault fault one ≡ Ok other → IsOrdered one → IsOrdered other
  same_messages None one other e h = let same : one ≡ other = cc in subst IsOrdered same h
  same_messages (Some bad) one other e h = cc

  with_restart : (image : Image) (r : RestartSector) (cut_off : Bool) (state : LastingState) → state_with system image cut_off r ≡ Ok state → IsOrdered state
  with_restart image r cut_off state is =
      let one = bound (snapshot_from system image r) _ state is in
      let two = bound (log_from system image r cut_off) _ state one.gives in
      let three = bound (state_from system r one.value two.value) _ state two.gives in
      let four = bound (image_rows_from system image one.value two.value) _ state three.gives in
      let first = snapshot_first system r.snapshot in
      let taken : IsOrdered (snapshot_state system one.value) = from_snapshot (10, first) first (snapshot_in r.sectors image first r.checkpoint) one.value one.is in
      same_messages (later_sector system image r) (record three.value { rows = four.value }) state four.gives
      (from_log (19, log_first system r.log) (replay_all system two.value (record { lasting = snapshot_state system one.value; waiting = [] })) three.value
      (λ after e. replayed two.value (record { lasting = snapshot_state system one.value; waiting = [] }) after taken e) three.is)

  by_restart : (image : Image) (cut_off : Bool) (restart : Option RestartSector) (state : LastingState) → state_by_restart system image cut_off restart ≡ Ok state → IsOrdered state
  by_restart image cut_off None state e = let same : empty_state system ≡ state = cc in subst IsOrdered same (refl, fresh_run system.terminals)
  by_restart image cut_off (Some r) state e = with_restart image r cut_off state e

  found_so : (image : Image) (state : LastingState) → Recovers system image (Ok state) → IsOrdered state
  found_so image state recovers =
      let restart = bound (in_sector 0 (restart_in (snapshot_area system) (is_single system) image)) _ state recovers.is in
      by_restart image recovers.is_cut_off restart.value state restart.gives

  pub found_in_order : (image : Image) (state : LastingState) → Recovers system image (Ok state) → IdsAscend state.next_id state.messages
  found_in_order image state recovers = ascending state.next_id state.messages (found_so image state recovers).0

  pub found_numbered : (image : Image) (state : LastingState) → Recovers system image (Ok state) → IsNumbered state
  found_numbered image state recovers = all_numbered state.outputs (found_so image state recovers).1

  -- and so it is in the empty state
  pub empty_numbered : IsNumbered (empty_state system)
  empty_numbered = all_numbered (empty_state system).outputs (fresh_run system.terminals)
