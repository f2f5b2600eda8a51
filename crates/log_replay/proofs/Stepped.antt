-- What is done on the tables, step by step.
use Rattle.std.proofs.Common.{◌≡◌, Bool, true, false, not, ◌&&◌, ◌||◌, List, [], ◌∷◌, ℕ, suc, ◌+◌, refl, sym, ◌∙◌, ap, subst, Some, None}
use Rattle.std.specs.Prelude.{if◌then◌else◌, Option, ◌==◌, position, find, slice_get, IfSome}
use Rattle.std.specs.Option.{option_map_or, option_map, option_and_then, is_some}
use Rattle.std.proofs.lemmas.Bool.{eq-eqb, ne_eqb}
use Rattle.tm_types.specs.declared.abend.AbendCode.{AbendCode}
use Rattle.tm_types.specs.declared.message.Message.{Message}
use Rattle.model_messages.specs.declared.conversation.Conversation.{Conversation}
use Rattle.model_system.specs.System.{System}
use Rattle.model_system.specs.Lists.{change_at}
use Rattle.model_machine.specs.declared.lasting.TerminalState.{TerminalState}
use Rattle.model_machine.specs.Machine.{terminal_at, terminal_place}
use Rattle.model_machine.specs.LastingSteps.{KeptInput, with_last_number, with_begun, input_message, dfs555i_text, discarded_pad}
use Rattle.log_records.specs.declared.record.Record.{Record}
use Rattle.log_records.specs.declared.record.Record.TheVariants.{Input, Command, Reply, Discarded, Completed, Acknowledged, SyncPoint, Checkpoint, Terminal, Code, Change}
use Rattle.model_image.specs.Replay.{completed_id}
use Rattle.model_image.specs.States.{is_small}
use Rattle.model_image.specs.Snapshot.{snapshot_message}
use Rattle.model_messages.specs.declared.conversation.PadChange.{PadChange}
use Rattle.model_messages.specs.declared.replies.TerminalReplies.{TerminalReplies}
use Rattle.model_messages.specs.Queue.{queued_message}
use Rattle.model_messages.specs.Outputs.{replies_at, next_of, with_reply}
use Rattle.std.specs.List.{list_all, list_any}
use Rattle.std.specs.Str.{bytes_eq}
use Rattle.image_records.specs.KeptState.{KeptState}
use Rattle.log_replay.specs.ReplaySteps.{with_added, with_replied, with_gone, with_kept_pad, with_pad_at, with_told, with_discarded, with_counted, with_accepted, begins_by_input, first_completed, does, does_all, message_done, is_over, step_accepts, step_discards, step_syncs}
use Rattle.log_replay.specs.ReplayRules.{IsOrderly, AreSmall, DoesStep}
use Rattle.image_law.proofs.Bools.{neither_second}
use Rattle.image_law.proofs.Lists.{found_passes}
use Rattle.log_replay.proofs.Orders.{not_small, any_changed, orderly_gone}
use Rattle.log_replay.proofs.DoneSteps.{all_keep, over_answer}
use Rattle.tm_types.proofs.Positions.{position_more}

-- the first that passes stands at its place
pub found_at : {X : Type 0} (p : X → Bool) (xs : List X) → find p xs ≡ option_and_then (λ n. slice_get xs n) (position p xs)
found_at p [] = refl
found_at p (x ∷ xs) =
    by_first (p x) (position p xs) (found_at p xs) ∙ ap (option_and_then (λ n. slice_get (x ∷ xs) n)) (sym (position_more p x xs (p x) refl))
  where
    by_first : (b : Bool) (o : Option ℕ) → find p xs ≡ option_and_then (λ n. slice_get xs n) o →
        (if b then Some x else find p xs) ≡ option_and_then (λ n. slice_get (x ∷ xs) n) (if b then Some 0 else option_map (λ n. suc n) o)
    by_first true o rest = refl
    by_first false (Some n) rest = rest
    by_first false None rest = rest

module _ (system : System) (kept : KeptState) (number : ℕ) (message : Message) where
  abbrev next_input : Bool
  next_input = option_map_or (λ terminal. terminal.last + 1 == number) (terminal_at kept.terminals message.origin) false

  abbrev accepts_it : Option KeptState
  accepts_it = step_accepts system message.id message.origin message.code number message.conversation message.segments kept

  abbrev input : KeptInput
  input = record { code = message.code; conversation = message.conversation; segments = message.segments; begins = begins_by_input system kept.conversations message.origin message.code message.conversation }

  pub not_next_input : next_input ≡ false → accepts_it ≡ None
  not_next_input other = ap (λ b. if b && (kept.next_id == message.id) then Some (with_accepted message.origin number input kept) else None) other

  pub not_next_id : kept.next_id == message.id ≡ false → accepts_it ≡ None
  not_next_id other = by_input next_input (kept.next_id == message.id) other where
    by_input : (a b : Bool) → b ≡ false → (if a && b then Some (with_accepted message.origin number input kept) else None) ≡ None
    by_input true b other = ap (λ b. if b then Some (with_accepted message.origin number input kept) else None) other
    by_input false b other = refl

  module _ (begins : Option Conversation) (place : ℕ) (middle new : KeptState) where
    pub accepted_is : next_input ≡ true → kept.next_id ≡ message.id → begins ≡ begins_by_input system kept.conversations message.origin message.code message.conversation → terminal_place kept.terminals message.origin ≡ Some place →
        middle ≡ with_added message kept → new ≡ record middle { terminals = change_at middle.terminals (Some place) (with_last_number number); conversations = with_begun message.origin begins middle.conversations; steps = middle.steps + 1 } →
        accepts_it ≡ Some new
    accepted_is next same begun there added changed =
        ap (λ b. if b then Some (with_accepted message.origin number input kept) else None) (both_true next_input (kept.next_id == message.id) next (eq-eqb kept.next_id message.id same))
        ∙ ap (λ (k : KeptState). Some k) (sym (changed ∙ made))
      where
        both_true : (a b : Bool) → a ≡ true → b ≡ true → a && b ≡ true
        both_true true b isa isb = isb
        both_true false b isa isb = isa

        -- the message that is added is the input's
        its_message : with_added message kept ≡ with_added (input_message kept.next_id message.origin input) kept
        its_message = ap (λ (n : ℕ). with_added (record message { id = n }) kept) (sym same)

        made : record middle { terminals = change_at middle.terminals (Some place) (with_last_number number); conversations = with_begun message.origin begins middle.conversations; steps = middle.steps + 1 } ≡ with_accepted message.origin number input kept
        made =
            ap (λ (o : Option Conversation). record middle { terminals = change_at middle.terminals (Some place) (with_last_number number); conversations = with_begun message.origin o middle.conversations; steps = middle.steps + 1 }) begun
            ∙ ap (λ (k : KeptState). record k { terminals = change_at k.terminals (Some place) (with_last_number number); conversations = with_begun message.origin input.begins k.conversations; steps = k.steps + 1 }) (added ∙ its_message)
            ∙ ap (λ (o : Option ℕ). record (with_added (input_message kept.next_id message.origin input) kept) { terminals = change_at kept.terminals o (with_last_number number); conversations = with_begun message.origin input.begins kept.conversations; steps = kept.steps + 1 }) (sym there)

-- ---- a discarded message

module _ (id : ℕ) (abend : AbendCode) (number : ℕ) (kept : KeptState) (message : Message) (found : queued_message id kept.queues.queued ≡ Some message) where
  pub discarded_is : next_of message.origin kept.outputs ≡ number → step_discards id abend number kept ≡ Some (with_discarded id abend message kept)
  discarded_is next =
      ap (option_and_then (λ message. if next_of message.origin kept.outputs == number then Some (with_discarded id abend message kept) else None)) found
      ∙ ap (λ b. if b then Some (with_discarded id abend message kept) else None) (eq-eqb (next_of message.origin kept.outputs) number next)

  pub other_number : (next_of message.origin kept.outputs ≡ number → ⊥) → step_discards id abend number kept ≡ None
  other_number other =
      ap (option_and_then (λ message. if next_of message.origin kept.outputs == number then Some (with_discarded id abend message kept) else None)) found
      ∙ ap (λ b. if b then Some (with_discarded id abend message kept) else None) (ne_eqb (next_of message.origin kept.outputs) number other)

  module _ (o : IsOrderly kept) (next : next_of message.origin kept.outputs ≡ number) where
    none_over : list_any not_small kept.outputs ≡ false
    none_over = neither_second (not (is_small kept.next_id)) (list_any not_small kept.outputs) o.small

    told_outputs : (t : Option TerminalReplies) → replies_at message.origin kept.outputs ≡ t → option_map_or (λ t. t.next) t 1 ≡ number →
        list_any not_small (with_discarded id abend message kept).outputs ≡ option_map_or (λ _. not (is_small (number + 1))) t false
    told_outputs (Some t) is same =
        ap (λ b. list_any not_small (if b then with_replied message.origin (dfs555i_text message.code abend ∷ []) gone else with_added (snapshot_message kept.next_id message.origin message.origin false (dfs555i_text message.code abend ∷ [])) gone).outputs) (ap is_some is)
        ∙ any_changed message.origin (with_reply (dfs555i_text message.code abend ∷ [])) not_small kept.outputs t is none_over
        ∙ ap (λ (n : ℕ). not (is_small (n + 1))) same where
          gone : KeptState
          gone = with_gone id (with_kept_pad (Some message) (discarded_pad message) kept)
    told_outputs None is same =
        ap (λ b. list_any not_small (if b then with_replied message.origin (dfs555i_text message.code abend ∷ []) gone else with_added (snapshot_message kept.next_id message.origin message.origin false (dfs555i_text message.code abend ∷ [])) gone).outputs) (ap is_some is)
        ∙ none_over where
          gone : KeptState
          gone = with_gone id (with_kept_pad (Some message) (discarded_pad message) kept)

    pub discarded_small : is_small (number + 1) ≡ true → AreSmall (with_discarded id abend message kept)
    discarded_small small =
        told_outputs (replies_at message.origin kept.outputs) refl next ∙ by_terminal (replies_at message.origin kept.outputs) where
          by_terminal : (t : Option TerminalReplies) → option_map_or (λ _. not (is_small (number + 1))) t false ≡ false
          by_terminal (Some t) = ap (λ b. not b) small
          by_terminal None = refl

    pub discarded_over : (new : KeptState) → is_small (number + 1) ≡ false → DoesStep (step_discards id abend number kept) new false
    discarded_over new over =
        ap (λ (k : Option KeptState). option_map_or is_over k true) (discarded_is next)
        ∙ or_second (not (is_small (with_discarded id abend message kept).next_id)) (list_any not_small (with_discarded id abend message kept).outputs)
        (told_outputs (replies_at message.origin kept.outputs) refl next ∙ by_terminal (replies_at message.origin kept.outputs) next) where
          or_second : (a b : Bool) → b ≡ true → a || b ≡ true
          or_second true b is = refl
          or_second false b is = is

          by_terminal : (t : Option TerminalReplies) → option_map_or (λ t. t.next) t 1 ≡ number → option_map_or (λ _. not (is_small (number + 1))) t false ≡ true
          by_terminal (Some t) same = ap (λ b. not b) over
          by_terminal None same = absurd (subst (λ (n : ℕ). is_small (n + 1) ≡ false → ⊥) same (λ f. cc) over)

-- ---- a sync point

pub pad_at_is : (message : Option Message) (pad : PadChange) (kept : KeptState) → with_kept_pad message pad kept ≡ with_pad_at (option_map (λ message. message.origin) message) pad kept
pad_at_is (Some message) pad kept = refl
pad_at_is None pad kept = refl

pub synced_is : (pad : PadChange) (records : List Record) (kept after new : KeptState) → does_all records kept ≡ Some after → new ≡ with_counted (with_pad_at (option_map (λ message. message.origin) (message_done records kept)) pad after) → step_syncs pad records kept ≡ Some new
synced_is pad records kept after new done is =
    ap (option_map (λ after. with_counted (with_kept_pad (message_done records kept) pad after))) done
    ∙ ap (λ (k : KeptState). Some (with_counted k)) (pad_at_is (message_done records kept) pad after) ∙ ap (λ (k : KeptState). Some k) (sym is)

pub sync_over : (pad : PadChange) (records : List Record) (kept any : KeptState) → DoesStep (does_all records kept) any false → DoesStep (step_syncs pad records kept) any false
sync_over pad records kept any over = by_done (does_all records kept) over where
  by_message : (m : Option Message) (after : KeptState) → is_over after ≡ true → is_over (with_counted (with_kept_pad m pad after)) ≡ true
  by_message (Some message) after is = is
  by_message None after is = is

  by_done : (o : Option KeptState) → option_map_or is_over o true ≡ true → option_map_or is_over (option_map (λ after. with_counted (with_kept_pad (message_done records kept) pad after)) o) true ≡ true
  by_done (Some after) over = by_message (message_done records kept) after over
  by_done None over = refl

pub sync_small : (origin : Option (List ℕ)) (pad : PadChange) (after : KeptState) → IsOrderly after → AreSmall (with_pad_at origin pad after)
sync_small (Some name) pad after o = neither_second (not (is_small after.next_id)) (list_any not_small after.outputs) o.small
sync_small None pad after o = neither_second (not (is_small after.next_id)) (list_any not_small after.outputs) o.small

-- ---- the terminal of an input

module _ (terminals : List TerminalState) (name : List ℕ) (number : ℕ) where
  abbrev behind : Option TerminalState → Bool
  behind t = option_map_or (λ terminal. terminal.last + 1 == number) t false

  pub place_there : (t : TerminalState) → terminal_at terminals name ≡ Some t → is_some (terminal_place terminals name) ≡ true
  place_there t found = by_place (terminal_place terminals name) (sym (found_at (λ terminal. bytes_eq terminal.name name) terminals) ∙ found) where
    by_place : (o : Option ℕ) → option_and_then (λ n. slice_get terminals n) o ≡ Some t → is_some o ≡ true
    by_place (Some n) is = refl
    by_place None is = cc

pub small_last : (terminals : List TerminalState) (name : List ℕ) (t : TerminalState) → list_all (λ t. is_small t.last) terminals ≡ true → terminal_at terminals name ≡ Some t → is_small t.last ≡ true
small_last terminals name t all found = found_passes (λ t. is_small t.last) (λ terminal. bytes_eq terminal.name name) terminals t all found

pub some_place : (o p : Option ℕ) → o ≡ p → IfSome o (λ n. p ≡ Some n)
some_place (Some n) p is = sym is
some_place None p is = tt

-- ---- what steps leave is counted

module _ (id : ℕ) (abend : AbendCode) (message : Message) (kept : KeptState) where
  abbrev away : KeptState
  away = with_gone id (with_pad_at (Some message.origin) (discarded_pad message) kept)

  pub counted_is : (told new : KeptState) → told ≡ with_told message.origin (dfs555i_text message.code abend ∷ []) away → new ≡ record told { steps = kept.steps + 1 } → new ≡ with_discarded id abend message kept
  counted_is told new is counted =
      counted ∙ ap (λ (k : KeptState). record k { steps = kept.steps + 1 }) is ∙ by_terminal (is_some (replies_at message.origin kept.outputs)) where
        by_terminal : (b : Bool) →
            record (if b then with_replied message.origin (dfs555i_text message.code abend ∷ []) away else with_added (snapshot_message kept.next_id message.origin message.origin false (dfs555i_text message.code abend ∷ [])) away) { steps = kept.steps + 1 }
            ≡ with_counted (if b then with_replied message.origin (dfs555i_text message.code abend ∷ []) away else with_added (snapshot_message kept.next_id message.origin message.origin false (dfs555i_text message.code abend ∷ [])) away)
        by_terminal true = refl
        by_terminal false = refl

  pub orderly_away : IsOrderly kept → IsOrderly away
  orderly_away o = let gone = orderly_gone id kept o in record { ascending = gone.ascending; small = gone.small }

pub not_found : (id : ℕ) (abend : AbendCode) (number : ℕ) (kept new : KeptState) → queued_message id kept.queues.queued ≡ None → DoesStep (step_discards id abend number kept) new false
not_found id abend number kept new none =
    ap (λ (o : Option Message). option_map_or is_over (option_and_then (λ message. if next_of message.origin kept.outputs == number then Some (with_discarded id abend message kept) else None) o) true) none

pub none_refused : (step : Option KeptState) (new : KeptState) → step ≡ None → DoesStep step new false
none_refused step new none = ap (λ (o : Option KeptState). option_map_or is_over o true) none

pub small_now : (kept : KeptState) → IsOrderly kept → AreSmall kept
small_now kept o = neither_second (not (is_small kept.next_id)) (list_any not_small kept.outputs) o.small

-- the steps that a unit's records leave are those before
steps_stay : (records : List Record) (kept after : KeptState) → does_all records kept ≡ Some after → after.steps ≡ kept.steps
steps_stay records kept after done = all_keep (λ k. k.steps ≡ kept.steps) (λ terminal segments k same. same) (λ message k is same. same) (λ id k same. same) records kept after done refl

pub sync_counted : (pad : PadChange) (records : List Record) (kept after padded new : KeptState) (origin : Option (List ℕ)) → does_all records kept ≡ Some after → origin ≡ option_map (λ message. message.origin) (message_done records kept) →
    padded ≡ with_pad_at origin pad after → new ≡ record padded { steps = kept.steps + 1 } → step_syncs pad records kept ≡ Some new
sync_counted pad records kept after padded new origin done from changed counted =
    synced_is pad records kept after new done
    (counted ∙ ap (λ (k : KeptState). record k { steps = kept.steps + 1 }) (changed ∙ ap (λ (o : Option (List ℕ)). with_pad_at o pad after) from)
    ∙ ap (λ n. record (with_pad_at (option_map (λ message. message.origin) (message_done records kept)) pad after) { steps = n + 1 }) (sym (steps_stay records kept after done))
    ∙ by_origin (option_map (λ message. message.origin) (message_done records kept))) where
      by_origin : (o : Option (List ℕ)) → record (with_pad_at o pad after) { steps = after.steps + 1 } ≡ with_counted (with_pad_at o pad after)
      by_origin (Some name) = refl
      by_origin None = refl

pub sync_small_then : (pad : PadChange) (after padded new : KeptState) (origin : Option (List ℕ)) (steps : ℕ) → IsOrderly after → padded ≡ with_pad_at origin pad after → new ≡ record padded { steps = steps } → AreSmall new
sync_small_then pad after padded new origin steps o_after changed counted =
    subst AreSmall (sym (counted ∙ ap (λ (k : KeptState). record k { steps = steps }) changed)) (by_origin origin) where
      by_origin : (o : Option (List ℕ)) → AreSmall (record (with_pad_at o pad after) { steps = steps })
      by_origin (Some name) = small_now after o_after
      by_origin None = small_now after o_after

-- ---- the records of a unit that stop

pub stops : (records : List Record) (r : Record) (kept any : KeptState) → slice_get records 0 ≡ Some r → DoesStep (does r kept) any false → DoesStep (does_all records kept) any false
stops [] r kept any first over = cc
stops (x ∷ records) r kept any first over =
    by_done (does x kept) (subst (λ (x : Record). DoesStep (does x kept) any false) (let e : r ≡ x = cc in e) over) where
      by_done : (o : Option KeptState) → option_map_or is_over o true ≡ true → option_map_or is_over (option_and_then (does_all records) o) true ≡ true
      by_done (Some next) over = over_answer records next over
      by_done None over = refl

-- the first message that records complete
pub completed_is : (records : List Record) → first_completed records ≡ completed_id records
completed_is [] = refl
completed_is (Completed unit id ∷ records) = refl
completed_is (Input unit id origin code number conversation segments ∷ records) = completed_is records
completed_is (Command text ∷ records) = completed_is records
completed_is (Reply unit terminal number segments ∷ records) = completed_is records
completed_is (Discarded unit id abend number ∷ records) = completed_is records
completed_is (Acknowledged terminal number ∷ records) = completed_is records
completed_is (SyncPoint unit pad ∷ records) = completed_is records
completed_is (Checkpoint checkpoint next_id next_unit steps ∷ records) = completed_is records
completed_is (Terminal name last next stopped conversation ∷ records) = completed_is records
completed_is (Code name stopped class priority ∷ records) = completed_is records
completed_is (Change unit database slot before after ∷ records) = completed_is records
