-- The records of a log, one after another.
use Rattle.std.proofs.Common.{◌≡◌, Bool, true, false, List, [], ◌∷◌, ℕ, ◌+◌, ◌-◌, length, refl, sym, ◌∙◌, ap, subst, arith, Some, None}
use Rattle.std.specs.Prelude.{if◌then◌else◌, Option, max}
use Rattle.std.specs.List.{list_all}
use Rattle.std.specs.Option.{option_map, option_and_then}
use Rattle.model_system.specs.System.{System}
use Rattle.model_machine.specs.Machine.{LastingState}
use Rattle.log_records.specs.declared.record.Record.{Record}
use Rattle.log_records.specs.declared.record.Record.TheVariants.{Input, Command, Reply, Discarded, Completed, Acknowledged, SyncPoint, Checkpoint, Terminal, Code, Change}
use Rattle.model_image.specs.Counters.{next_unit}
use Rattle.model_image.specs.Replay.{Replay, is_record_known, replayed, unless_it_breaks, replay_one, replay_all, replay_of}
use Rattle.model_image.specs.Slots.{is_image_of}
use Rattle.model_image.specs.States.{breaks_a_rule}
use Rattle.log_replay.specs.WaitingRecords.{of_unit}
use Rattle.image_records.specs.KeptState.{KeptState}
use Rattle.log_replay.specs.ReplayRules.{lasting_in, AreMessagesFree, AreSound}
use Rattle.model_messages.specs.Queue.{messages_of}
use Rattle.log_replay.specs.ConversationTally.{Counts, TallyFollows}
use Rattle.log_replay.proofs.Right.{follows_sound}
use Rattle.log_replay.specs.WorkState.{WorkState, IsAt, RecordComesTo}
use Rattle.log_replay.specs.ReplayedLog.{ReplayEnds}
use Rattle.log_replay.proofs.Tables.{kept_is}
use Rattle.tm_types.proofs.Truths.{both}

-- ---- the loop

abbrev pub start : System → KeptState → Replay
start system kept = record { lasting = lasting_in system kept; waiting = [] }

-- Where the rest of the records is done again from here, all were.
pub record IsOn (system : System) (kept : KeptState) (records rest : List Record) (work : WorkState) : Type 0 where
  pub replay : Replay
  pub at : IsAt system replay work
  pub same : replay_all system rest replay ≡ replay_all system records (start system kept)

pub begins : (system : System) (kept : KeptState) (records : List Record) (work : WorkState) → AreSound system kept → work.kept ≡ kept → work.units ≡ [] →
    Counts (messages_of kept.queues.queued) work.tally.counts → work.tally.faults ≡ 0 → IsOn system kept records records work
begins system kept records work sound same none counts faults = record {
  replay = start system kept;
  at = record {
    lasting = ap (lasting_in system) (sym same);
    free = subst (AreMessagesFree system) (sym same) sound.free;
    sound = sound.sound;
    waiting = λ unit. ap (of_unit unit) none;
    follows = subst (λ (k : KeptState). TallyFollows system k work.tally) (sym same) (follows_sound system kept work.tally sound counts faults);
  };
  same = refl;
}

module _ (system : System) (kept : KeptState) (records rest : List Record) (r : Record) (work new : WorkState) (on : IsOn system kept records (r ∷ rest) work) where
  pub goes_on : RecordComesTo system (replay_one system r on.replay) new true → IsOn system kept records rest new
  goes_on came = record { replay = came.0; at = came.2; same = sym (ap (option_and_then (replay_all system rest)) came.1) ∙ on.same }

  pub stops : RecordComesTo system (replay_one system r on.replay) new false → replay_of system records (lasting_in system kept) ≡ None
  stops none = ap (option_map (λ replay. replay.lasting)) (sym on.same ∙ ap (option_and_then (replay_all system rest)) none)

-- tables at a point of the replay may be gone on with
pub sound_at : (system : System) (kept : KeptState) (records rest : List Record) (work : WorkState) → IsOn system kept records rest work → AreSound system work.kept
sound_at system kept records rest work on = record { sound = ap (breaks_a_rule system) (sym on.at.lasting) ∙ on.at.sound; free = on.at.free }

pub follows_at : (system : System) (kept : KeptState) (records rest : List Record) (work : WorkState) → IsOn system kept records rest work → TallyFollows system work.kept work.tally
follows_at system kept records rest work on = on.at.follows

pub ends : (system : System) (kept : KeptState) (records : List Record) (work : WorkState) → IsOn system kept records [] work → ReplayEnds system (replay_of system records (lasting_in system kept)) (Some work.kept)
ends system kept records work on = (
  lasting_in system work.kept,
  ap (option_map (λ replay. replay.lasting)) (sym on.same) ∙ ap (λ (l : LastingState). Some l) on.at.lasting,
  record { is = kept_is system work.kept on.at.free; sound = ap (breaks_a_rule system) (sym on.at.lasting) ∙ on.at.sound },
)

-- ---- records that were done again are known

known_image : (system : System) (r : Record) → is_record_known system r ≡ true → is_image_of system r ≡ true
known_image system (Change unit database slot before after) is = is
known_image system (Input unit id origin code number conversation segments) is = refl
known_image system (Command text) is = refl
known_image system (Reply unit terminal number segments) is = refl
known_image system (Discarded unit id abend number) is = refl
known_image system (Completed unit id) is = refl
known_image system (Acknowledged terminal number) is = refl
known_image system (SyncPoint unit pad) is = refl
known_image system (Checkpoint checkpoint next_id next_unit steps) is = refl
known_image system (Terminal name last next stopped conversation) is = refl
known_image system (Code name stopped class priority) is = refl

images_all : (system : System) (records : List Record) (replay end : Replay) → replay_all system records replay ≡ Some end → list_all (is_image_of system) records ≡ true
images_all system [] replay end is = refl
images_all system (r ∷ records) replay end is = by_one (is_record_known system r) refl is (λ next. images_all system records next end) where
  by_rest : (o : Option Replay) → option_and_then (replay_all system records) o ≡ Some end → ((next : Replay) → replay_all system records next ≡ Some end → list_all (is_image_of system) records ≡ true) → list_all (is_image_of system) records ≡ true
  by_rest (Some next) is later = later next is
  by_rest None is later = cc

  by_one : (b : Bool) → is_record_known system r ≡ b → option_and_then (replay_all system records) (if b then option_and_then (unless_it_breaks system) (replayed system r replay) else None) ≡ Some end → ((next : Replay) → replay_all system records next ≡ Some end → list_all (is_image_of system) records ≡ true) → list_all (is_image_of system) (r ∷ records) ≡ true
  by_one true known is later = both (is_image_of system r) (list_all (is_image_of system) records) (known_image system r known) (by_rest (option_and_then (unless_it_breaks system) (replayed system r replay)) is later)
  by_one false known is later = cc

pub images_of : (system : System) (records : List Record) (lasting end : LastingState) → replay_of system records lasting ≡ Some end → list_all (is_image_of system) records ≡ true
images_of system records lasting end is = by_all (replay_all system records (record { lasting = lasting; waiting = [] })) refl is where
  by_all : (o : Option Replay) → replay_all system records (record { lasting = lasting; waiting = [] }) ≡ o → option_map (λ replay. replay.lasting) o ≡ Some end → list_all (is_image_of system) records ≡ true
  by_all (Some replay) all is = images_all system records (record { lasting = lasting; waiting = [] }) replay all
  by_all None all is = cc

-- ---- the last unit

pub unit_is : (last next greatest : ℕ) → last ≡ max (next - 1) greatest → last + 1 ≡ max next (greatest + 1)
unit_is last next greatest is = omega (arith, is)

-- ---- lists

pub nothing_left : {X : Type 0} (xs : List X) → length xs ≡ 0 → xs ≡ []
nothing_left [] none = refl
nothing_left (x ∷ xs) none = absurd (omega arith)
