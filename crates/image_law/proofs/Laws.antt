-- The laws: the records of a step, done again on the state before, leave the state after it.
use Rattle.std.proofs.Common.{◌≡◌, Bool, true, false, not, List, [], ◌∷◌, ◌++◌, ℕ, zero, suc, ◌+◌, ◌<◌, take, refl, sym, ◌∙◌, ap, subst, arith, Some}
use Rattle.std.specs.Prelude.{if◌then◌else◌, ◌==◌, filter, Option}
use Rattle.std.specs.List.{list_all}
use Rattle.std.specs.Option.{is_some, option_and_then, option_map_or}
use Rattle.std.proofs.lemmas.Bool.{eq-eqb}
use Rattle.std.proofs.lemmas.List.Elements.{filter-append}
use Rattle.std.proofs.lemmas.List.{append-nil}
use Rattle.tm_types.specs.declared.abend.AbendCode.{AbendCode}
use Rattle.tm_types.specs.declared.command.LastingCommand.{LastingCommand}
use Rattle.tm_types.specs.declared.message.Message.{Message}
use Rattle.tm_types.specs.Commands.{IsSpellable, command_spelling}
use Rattle.tm_types.proofs.Commands.{spelled_read}
use Rattle.tm_types.specs.declared.message.Reply.{Reply as KeptReply}
use Rattle.model_messages.specs.declared.conversation.PadChange.{PadChange}
use Rattle.model_messages.specs.declared.conversation.PadChange.TheVariants.{Stays, Ends}
use Rattle.model_messages.specs.Outputs.{next_of, reply_at}
use Rattle.model_messages.specs.declared.ended_message.EndedMessage.{EndedMessage}
use Rattle.model_system.specs.System.{System}
use Rattle.model_machine.specs.declared.lasting.TerminalState.{TerminalState}
use Rattle.model_machine.specs.Machine.{LastingState, terminal_at, message_at, output_at}
use Rattle.model_machine.specs.LastingSteps.{applied, output_sent, kept_input, finished_by, with_pad_by, discarded_pad, abend_outputs}
use Rattle.model_machine.specs.LastingSteps.LastingStep.{Accepts, Acknowledges, Completes, Discards, Commands}
use Rattle.log_records.specs.declared.record.Record.{Record}
use Rattle.log_records.specs.declared.record.Record.TheVariants.{Input, Command, Reply, Discarded, Acknowledged, SyncPoint}
use Rattle.model_image.specs.States.{is_system_terminal, is_system_code, breaks_a_rule}
use Rattle.model_image.specs.Slots.{is_image_of}
use Rattle.model_image.specs.Replay.{Replay, is_of_unit, without_unit, with_lasting, syncs, names_known, is_record_known, replay_one, replay_all}
use Rattle.model_image.specs.StepRecords.{output_record, completion_records}
use Rattle.model_image.proofs.Steps.{accepts_again, acknowledges_again, commands_again, discards_again, completes_again}
use Rattle.image_law.specs.SoundState.{FitsRanges}
use Rattle.image_law.specs.StepNeeds.{EndsNoneWaiting, HasPads, IsConversationFree, PadFits, takes_switched, has_receiver}
use Rattle.image_law.specs.Records.{without_changes, waits}
use Rattle.image_law.proofs.Bools.{first_of, second_of}
use Rattle.image_law.proofs.Lists.{all_imply}
use Rattle.image_law.proofs.SoundLaws.{breaks_none, is_sound}
use Rattle.image_law.proofs.Ordered.{below_next}
use Rattle.image_law.proofs.Kept.{stands, sound_where, origin_known, receivers_stay, finished_stands, acknowledged_stands}
use Rattle.image_law.specs.StandingState.{StandsLasting}
use Rattle.image_law.proofs.Accepted.{accepted_stands}
use Rattle.image_law.proofs.Commanded.{commanded_stands}
use Rattle.image_law.proofs.Replayed.{all_take, keeps_all, drops_all, keeps_others, one_done, appended, all_wait, replay_more}
use Rattle.tm_types.proofs.Truths.{both}

-- one step more is counted
counted_stands : (system : System) (steps : ℕ) (lasting : LastingState) → StandsLasting system lasting → StandsLasting system (record lasting { steps = steps })
counted_stands system steps lasting s = record {
  settings = s.settings;
  pads = s.pads;
  ascending = s.ascending;
  known = s.known;
  alone = s.alone;
  runs = s.runs;
}

-- a state that stands and fits breaks no rule
none_broken : (system : System) (lasting : LastingState) → StandsLasting system lasting → FitsRanges system lasting → breaks_a_rule system lasting ≡ false
none_broken system lasting s fits = breaks_none system lasting (sound_where system lasting s fits)

-- ---- the records of a completion

module _ (system : System) (unit : ℕ) (origin : List ℕ) (from : is_system_terminal system origin ≡ true) where
  output_waits : (b : Bool) (output : EndedMessage) (lasting : LastingState) →
      waits (if b then Reply (suc unit) output.to (next_of output.to lasting.outputs) output.segments else Input (suc unit) lasting.next_id origin output.to 0 false output.segments) ≡ true
  output_waits true output lasting = refl
  output_waits false output lasting = refl

  completion_waits : (id : ℕ) (outputs : List EndedMessage) (lasting : LastingState) → list_all waits (completion_records (suc unit) origin id outputs lasting) ≡ true
  completion_waits id [] lasting = refl
  completion_waits id (output ∷ outputs) lasting =
      both (waits (output_record (suc unit) origin output lasting)) (list_all waits (completion_records (suc unit) origin id outputs (output_sent origin output lasting)))
      (output_waits (is_some (output_at lasting.outputs output.to)) output lasting) (completion_waits id outputs (output_sent origin output lasting))

  output_is_of : (b : Bool) (output : EndedMessage) (lasting : LastingState) →
      is_of_unit (suc unit) (if b then Reply (suc unit) output.to (next_of output.to lasting.outputs) output.segments else Input (suc unit) lasting.next_id origin output.to 0 false output.segments) ≡ true
  output_is_of true output lasting = eq-eqb (suc unit) (suc unit) refl
  output_is_of false output lasting = eq-eqb (suc unit) (suc unit) refl

  completion_is_of : (id : ℕ) (outputs : List EndedMessage) (lasting : LastingState) → list_all (is_of_unit (suc unit)) (completion_records (suc unit) origin id outputs lasting) ≡ true
  completion_is_of id [] lasting = both (suc unit == suc unit) true (eq-eqb (suc unit) (suc unit) refl) refl
  completion_is_of id (output ∷ outputs) lasting =
      both (is_of_unit (suc unit) (output_record (suc unit) origin output lasting)) (list_all (is_of_unit (suc unit)) (completion_records (suc unit) origin id outputs (output_sent origin output lasting)))
      (output_is_of (is_some (output_at lasting.outputs output.to)) output lasting) (completion_is_of id outputs (output_sent origin output lasting))

  output_known : (b : Bool) (output : EndedMessage) (lasting : LastingState) → (if b then is_system_terminal system output.to else takes_switched system output.to) ≡ true →
      is_record_known system (if b then Reply (suc unit) output.to (next_of output.to lasting.outputs) output.segments else Input (suc unit) lasting.next_id origin output.to 0 false output.segments) ≡ true
  output_known true output lasting is = is
  output_known false output lasting is =
      both (is_system_terminal system origin) (is_system_code system output.to) from (first_of (is_system_code system output.to) _ is)

  completion_known : (id : ℕ) (outputs : List EndedMessage) (lasting : LastingState) → list_all (has_receiver system lasting.outputs) outputs ≡ true → list_all (is_record_known system) (completion_records (suc unit) origin id outputs lasting) ≡ true
  completion_known id [] lasting there = refl
  completion_known id (output ∷ outputs) lasting there =
      let b = is_some (output_at lasting.outputs output.to) in
      both (is_record_known system (output_record (suc unit) origin output lasting)) (list_all (is_record_known system) (completion_records (suc unit) origin id outputs (output_sent origin output lasting)))
      (output_known b output lasting (first_of (has_receiver system lasting.outputs output) (list_all (has_receiver system lasting.outputs) outputs) there))
      (completion_known id outputs (output_sent origin output lasting)
      (all_imply (has_receiver system lasting.outputs) (has_receiver system (output_sent origin output lasting).outputs) outputs
      (λ other is. ap (λ (b : Bool). if b then is_system_terminal system other.to else takes_switched system other.to) (receivers_stay system origin from output other lasting b refl) ∙ is)
      (second_of (has_receiver system lasting.outputs output) (list_all (has_receiver system lasting.outputs) outputs) there)))

-- ---- the steps

-- A state that breaks no rule, and records of open units that wait behind the log so far.
module _ (system : System) (lasting : LastingState) (waiting : List Record) (sound : breaks_a_rule system lasting ≡ false) where
  abbrev Before : Replay
  Before = record { lasting = lasting; waiting = waiting }

  abbrev After : LastingState → Replay
  After after = record { lasting = after; waiting = waiting }

  s : StandsLasting system lasting
  s = stands system lasting (is_sound system lasting sound)

  alone : (r : Record) (after : Replay) → replay_one system r Before ≡ Some after → replay_all system (r ∷ []) Before ≡ Some after
  alone r after is = ap (option_and_then (replay_all system [])) is

  -- an input is accepted
  pub accept_replayed : HasPads system → (terminal : List ℕ) (number : ℕ) (segments : List (List ℕ)) (t : TerminalState) → terminal_at lasting.terminals terminal ≡ Some t → t.last + 1 ≡ number →
      is_system_terminal system terminal ≡ true → IsConversationFree terminal lasting → let kept = kept_input system lasting terminal segments in
      is_system_code system kept.code ≡ true → FitsRanges system (applied (Accepts terminal number kept) lasting) →
      replay_all system (Input 0 lasting.next_id terminal kept.code number kept.conversation kept.segments ∷ []) Before ≡ Some (After (applied (Accepts terminal number kept) lasting))
  accept_replayed pads terminal number segments t found next from free there fits =
      let kept = kept_input system lasting terminal segments in
      let after = applied (Accepts terminal number kept) lasting in
      alone (Input 0 lasting.next_id terminal kept.code number kept.conversation kept.segments) (After after)
      (one_done system (Input 0 lasting.next_id terminal kept.code number kept.conversation kept.segments) Before (After after)
      (both (is_system_terminal system terminal) (is_system_code system kept.code) from there)
      (ap (with_lasting Before) (accepts_again system lasting terminal number segments t found next))
      (none_broken system after (counted_stands system (lasting.steps + 1) _ (accepted_stands system pads terminal number segments lasting s free from there)) fits))

  -- a reply is acknowledged
  pub acknowledge_replayed : (terminal : List ℕ) (reply : KeptReply) → reply_at terminal 0 lasting.outputs ≡ Some reply → is_system_terminal system terminal ≡ true → FitsRanges system (applied (Acknowledges terminal) lasting) →
      replay_all system (Acknowledged terminal reply.number ∷ []) Before ≡ Some (After (applied (Acknowledges terminal) lasting))
  acknowledge_replayed terminal reply found known fits =
      let after = applied (Acknowledges terminal) lasting in
      alone (Acknowledged terminal reply.number) (After after)
      (one_done system (Acknowledged terminal reply.number) Before (After after) known
      (ap (with_lasting Before) (acknowledges_again lasting terminal reply found))
      (none_broken system after (counted_stands system (lasting.steps + 1) _ (acknowledged_stands system terminal lasting s)) fits))

  -- a command is done
  pub command_replayed : (command : LastingCommand) → IsSpellable command → names_known system command ≡ true → EndsNoneWaiting command lasting → FitsRanges system (applied (Commands command) lasting) →
      replay_all system (Command (command_spelling command) ∷ []) Before ≡ Some (After (applied (Commands command) lasting))
  command_replayed command named known none fits =
      let after = applied (Commands command) lasting in
      alone (Command (command_spelling command)) (After after)
      (one_done system (Command (command_spelling command)) Before (After after)
      (ap (λ (o : Option LastingCommand). option_map_or (names_known system) o false) (spelled_read (command_spelling command) command (record { spelled = refl; named = named.0; assigned = named.1 })) ∙ known)
      (ap (with_lasting Before) (commands_again lasting command named))
      (none_broken system after (counted_stands system (lasting.steps + 1) _ (commanded_stands system command lasting s none named.1)) fits))

  module _ (id : ℕ) (message : Message) (found : message_at lasting.messages id ≡ Some message) where
    -- a message is discarded
    pub abend_replayed : (unit : ℕ) (abend : AbendCode) → is_some (output_at lasting.outputs message.origin) ≡ true → FitsRanges system (applied (Discards id abend) lasting) →
        replay_all system (Discarded unit id abend (next_of message.origin lasting.outputs) ∷ []) Before ≡ Some (After (applied (Discards id abend) lasting))
    abend_replayed unit abend there fits =
        let after = applied (Discards id abend) lasting in
        alone (Discarded unit id abend (next_of message.origin lasting.outputs)) (After after)
        (one_done system (Discarded unit id abend (next_of message.origin lasting.outputs)) Before (After after) refl
        (ap (with_lasting Before) (discards_again lasting id abend message found))
        (none_broken system after (counted_stands system (lasting.steps + 1) _ its) fits)) where
          pad_fits : (b : Bool) → message.conversation ≡ b → PadFits system (if b then Ends else Stays) message lasting
          pad_fits true flag = flag
          pad_fits false flag = tt

          its : StandsLasting system (finished_by (message_at lasting.messages id) (λ message. abend_outputs message abend) (with_pad_by (message_at lasting.messages id) discarded_pad lasting))
          its =
              subst (λ (o : Option Message). StandsLasting system (finished_by o (λ message. abend_outputs message abend) (with_pad_by o discarded_pad lasting))) (sym found)
              (finished_stands system id message lasting found s (discarded_pad message) (abend_outputs message abend) (pad_fits message.conversation refl)
              (both (has_receiver system lasting.outputs (record { to = message.origin; segments = [] })) true (rw there (origin_known system id message lasting found s)) refl))

    module _ (outputs : List EndedMessage) (there : list_all (has_receiver system lasting.outputs) outputs ≡ true) where
      from : is_system_terminal system message.origin ≡ true
      from = origin_known system id message lasting found s

      sync : (unit : ℕ) (pad : PadChange) → PadFits system pad message lasting → filter (is_of_unit (suc unit)) waiting ≡ [] → FitsRanges system (applied (Completes id lasting.rows outputs pad) lasting) →
          let records = completion_records (suc unit) message.origin id outputs lasting in
          replay_all system (SyncPoint (suc unit) pad ∷ []) (record { lasting = lasting; waiting = waiting ++ records }) ≡ Some (After (applied (Completes id lasting.rows outputs pad) lasting))
      sync unit pad pad_fits none fits =
          let records = completion_records (suc unit) message.origin id outputs lasting in
          let after = applied (Completes id lasting.rows outputs pad) lasting in
          let its_own : filter (is_of_unit (suc unit)) (waiting ++ records) ≡ records =
          filter-append (is_of_unit (suc unit)) waiting records ∙ ap (λ (l : List Record). l ++ filter (is_of_unit (suc unit)) records) none ∙ keeps_all (is_of_unit (suc unit)) records (completion_is_of system unit message.origin from id outputs lasting) in
          let others : filter (λ r. not (is_of_unit (suc unit) r)) (waiting ++ records) ≡ waiting =
          filter-append (λ r. not (is_of_unit (suc unit) r)) waiting records
          ∙ ap (λ (l : List Record). filter (λ r. not (is_of_unit (suc unit) r)) waiting ++ l) (drops_all (is_of_unit (suc unit)) records (completion_is_of system unit message.origin from id outputs lasting))
          ∙ append-nil (filter (λ r. not (is_of_unit (suc unit) r)) waiting)
          ∙ keeps_others (is_of_unit (suc unit)) waiting none in
          ap (option_and_then (replay_all system []))
          (one_done system (SyncPoint (suc unit) pad) (record { lasting = lasting; waiting = waiting ++ records }) (After after) refl
          (ap (λ (l : List Record). with_lasting (without_unit (suc unit) (record { lasting = lasting; waiting = waiting ++ records })) (syncs pad l lasting)) its_own
          ∙ ap (with_lasting (without_unit (suc unit) (record { lasting = lasting; waiting = waiting ++ records }))) (completes_again (suc unit) id message outputs pad lasting found (below_next lasting.next_id id lasting.messages message s.ascending found))
          ∙ ap (λ (l : List Record). Some (record { lasting = after; waiting = l })) others)
          (none_broken system after (counted_stands system (lasting.steps + 1) _ its) fits)) where
            its : StandsLasting system (finished_by (message_at lasting.messages id) (λ _. outputs) (with_pad_by (message_at lasting.messages id) (λ _. pad) lasting))
            its =
                subst (λ (o : Option Message). StandsLasting system (finished_by o (λ _. outputs) (with_pad_by o (λ _. pad) lasting))) (sym found)
                (finished_stands system id message lasting found s pad outputs pad_fits there)

      -- a message is completed: its outputs, that it is completed, and the sync point with what becomes of the pad
      pub completion_replayed : (unit : ℕ) → 0 < unit → (pad : PadChange) → PadFits system pad message lasting → filter (is_of_unit unit) waiting ≡ [] → FitsRanges system (applied (Completes id lasting.rows outputs pad) lasting) →
          replay_all system (completion_records unit message.origin id outputs lasting ++ SyncPoint unit pad ∷ []) Before ≡ Some (After (applied (Completes id lasting.rows outputs pad) lasting))
      completion_replayed zero some pad pad_fits none fits = absurd (omega (arith, some))
      completion_replayed (suc unit) some pad pad_fits none fits =
          let records = completion_records (suc unit) message.origin id outputs lasting in
          replay_more system records (SyncPoint (suc unit) pad ∷ []) Before
          ∙ ap (option_and_then (replay_all system (SyncPoint (suc unit) pad ∷ [])))
          (all_wait system records Before (completion_waits system unit message.origin from id outputs lasting) (completion_known system unit message.origin from id outputs lasting there) sound)
          ∙ sync unit pad pad_fits none fits

      -- a front of these without the sync point leaves what lasts as it was
      pub front_waits : (unit : ℕ) → 0 < unit → (n : ℕ) → let front = take n (completion_records unit message.origin id outputs lasting) in
          replay_all system front Before ≡ Some (record { lasting = lasting; waiting = waiting ++ front })
      front_waits zero some n = absurd (omega (arith, some))
      front_waits (suc unit) some n =
          let records = completion_records (suc unit) message.origin id outputs lasting in
          all_wait system (take n records) Before
          (all_take waits n records (completion_waits system unit message.origin from id outputs lasting))
          (all_take (is_record_known system) n records (completion_known system unit message.origin from id outputs lasting there)) sound

  -- Changes of slots, among them all that ROLB logs, leave all as it was.
  pub changes_replayed : (records : List Record) → list_all (is_image_of system) records ≡ true → without_changes records ≡ [] → replay_all system records Before ≡ Some Before
  changes_replayed records images none = appended system [] records [] Before Before Before refl sound images none refl
