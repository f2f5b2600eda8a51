-- A step leaves counts in their range where they were far from its end.
use Rattle.std.proofs.Common.{◌≡◌, ℕ, zero, suc, ◌+◌, ◌*◌, ◌<◌, ◌≤◌, nat_lt, Bool, true, false, not, ◌&&◌, List, [], ◌∷◌, length, refl, sym, ◌∙◌, ap, subst, arith, Some, None}
use Rattle.std.specs.Prelude.{Option, ◌==◌, if◌then◌else◌}
use Rattle.std.specs.List.{list_all}
use Rattle.std.specs.Option.{is_some}
use Rattle.std.proofs.lemmas.Bool.{ltb-true}
use Rattle.std.proofs.lemmas.Bool.Decides.{nat_tests}
use Rattle.std.proofs.lemmas.List.Sums.{sum_by-cons}
use Rattle.tm_types.specs.declared.abend.AbendCode.{AbendCode}
use Rattle.tm_types.specs.declared.command.LastingCommand.{LastingCommand}
use Rattle.tm_types.specs.declared.command.LastingCommand.TheVariants.{StartTransaction, StopTransaction, StartTerminal, StopTerminal, DequeueFirst, DequeueAll, Exit, AssignClass, AssignPriority}
use Rattle.tm_types.specs.declared.message.Message.{Message}
use Rattle.model_messages.specs.declared.conversation.PadChange.{PadChange}
use Rattle.model_messages.specs.declared.replies.TerminalReplies.{TerminalReplies}
use Rattle.model_messages.specs.Outputs.{are_replies_of, with_terminal, with_reply, without_first}
use Rattle.model_messages.specs.declared.ended_message.EndedMessage.{EndedMessage}
use Rattle.model_data.specs.declared.row.Row.{Row}
use Rattle.model_system.specs.System.{System}
use Rattle.model_machine.specs.Machine.{LastingState, message_at, output_at, content, terminal_place}
use Rattle.model_machine.specs.LastingSteps.{LastingStep, KeptInput, abend_outputs, all_sent, applied, finished, finished_by, replied, output_sent, stopped_terminal, switched, with_pad_by, with_last_number, without_replies}
use Rattle.model_machine.specs.LastingSteps.LastingStep.{Accepts, Acknowledges, Commands, Completes, Discards}
use Rattle.model_image.specs.States.{is_small, is_next}
use Rattle.image_law.specs.SoundState.{FitsRanges}
use Rattle.image_law.proofs.Bools.{first_of, second_of}
use Rattle.image_law.specs.StandingState.{StandsLasting, is_run}
use Rattle.image_law.proofs.Lists.{all_imply}
use Rattle.image_law.specs.SentMessages.{ended_bytes, sent_bytes}
use Rattle.image_law.proofs.Changes.{all_changed}
use Rattle.journal.specs.UnspentCounts.{AreUnspent}
use Rattle.tm_types.proofs.Truths.{both}

-- each terminal's next number is below this
abbrev pub are_below : ℕ → List TerminalReplies → Bool
are_below most outputs = list_all (λ terminal. nat_lt terminal.next most) outputs

less : (a b : ℕ) → a < b → nat_lt a b ≡ true
less a b h = grind (arith, nat_tests, h)

wider : (most more : ℕ) (outputs : List TerminalReplies) → most ≤ more → are_below most outputs ≡ true → are_below more outputs ≡ true
wider most more outputs le are =
    all_imply (λ terminal. nat_lt terminal.next most) (λ terminal. nat_lt terminal.next more) outputs
    (λ t low. less t.next more (omega (arith, ltb-true t.next most low, le))) are

-- one reply more at a terminal
one_more : (most : ℕ) (name : List ℕ) (segments : List (List ℕ)) (outputs : List TerminalReplies) → are_below most outputs ≡ true → are_below (most + 1) (with_terminal name (with_reply segments) outputs) ≡ true
one_more most name segments [] are = refl
one_more most name segments (t ∷ ts) are = by (are_replies_of name t) (one_more most name segments ts) where
  here : nat_lt t.next most ≡ true
  here = first_of (nat_lt t.next most) (are_below most ts) are

  there : are_below most ts ≡ true
  there = second_of (nat_lt t.next most) (are_below most ts) are

  by : (b : Bool) → (are_below most ts ≡ true → are_below (most + 1) (with_terminal name (with_reply segments) ts) ≡ true) → are_below (most + 1) (if b then with_reply segments t ∷ ts else t ∷ with_terminal name (with_reply segments) ts) ≡ true
  by true later = both (nat_lt (t.next + 1) (most + 1)) (are_below (most + 1) ts) (less (t.next + 1) (most + 1) (omega (arith, ltb-true t.next most here))) (wider most (most + 1) ts (omega arith) there)
  by false later =
      both (nat_lt t.next (most + 1)) (are_below (most + 1) (with_terminal name (with_reply segments) ts))
      (less t.next (most + 1) (omega (arith, ltb-true t.next most here))) (later there)

-- what counts behind a step: the id rose by so many at most, the steps by one, and so did each terminal's next reply by so many
pub record CountsBehind (most : ℕ) (before after : LastingState) : Type 0 where
  pub least : before.next_id ≤ after.next_id
  pub id : after.next_id ≤ before.next_id + most
  pub inputs : after.terminals ≡ before.terminals
  pub outputs : (limit : ℕ) → are_below limit before.outputs ≡ true → are_below (limit + most) after.outputs ≡ true

one_sent : (origin : List ℕ) (output : EndedMessage) (lasting : LastingState) → CountsBehind 1 lasting (output_sent origin output lasting)
one_sent origin output lasting = by (is_some (output_at lasting.outputs output.to)) where
  by : (b : Bool) → CountsBehind 1 lasting (if b then replied output lasting else switched origin output lasting)
  by true = record { least = omega arith; id = omega arith; inputs = refl; outputs = λ limit are. one_more limit output.to output.segments lasting.outputs are }
  by false = record { least = omega arith; id = omega arith; inputs = refl; outputs = λ limit are. wider limit (limit + 1) lasting.outputs (omega arith) are }

all_sent_counts : (origin : List ℕ) (outputs : List EndedMessage) (lasting : LastingState) → CountsBehind (length outputs) lasting (all_sent origin outputs lasting)
all_sent_counts origin [] lasting = record { least = omega arith; id = omega arith; inputs = refl; outputs = λ limit are. wider limit (limit + 0) lasting.outputs (omega arith) are }
all_sent_counts origin (output ∷ outputs) lasting =
    let one = one_sent origin output lasting in
    let more = all_sent_counts origin outputs (output_sent origin output lasting) in
    record {
      least = omega (arith, one.least, more.least);
      id = omega (arith, one.id, more.id);
      inputs = more.inputs ∙ one.inputs;
      outputs = λ limit are.
          wider (limit + 1 + length outputs) (limit + length (output ∷ outputs)) (all_sent origin outputs (output_sent origin output lasting)).outputs (omega arith) (more.outputs (limit + 1) (one.outputs limit are));
    }

finished_counts : (found : Option Message) (outputs : Message → List EndedMessage) (change : Message → PadChange) (lasting : LastingState) (most : ℕ) → ((message : Message) → length (outputs message) ≤ most)
    → CountsBehind most lasting (finished_by found outputs (with_pad_by found change lasting))
finished_counts None outputs change lasting most few = record { least = omega arith; id = omega arith; inputs = refl; outputs = λ limit are. wider limit (limit + most) lasting.outputs (omega arith) are }
finished_counts (Some message) outputs change lasting most few =
    let behind = with_pad_by (Some message) change lasting in
    let all = all_sent_counts message.origin (outputs message) (record behind { messages = Rattle.model_machine.specs.LastingSteps.without_message behind.messages message.id }) in
    record {
      least = omega (arith, all.least);
      id = omega (arith, all.id, few message);
      inputs = all.inputs;
      outputs = λ limit are.
          wider (limit + length (outputs message)) (limit + most) (finished message (outputs message) behind).outputs (omega (arith, few message)) (all.outputs limit are);
    }

-- the outputs of a unit are few
pub few_sent : (outputs : List EndedMessage) → sent_bytes outputs ≤ 65536 → length outputs ≤ 1366
few_sent outputs most = omega (arith, weigh outputs, most) where
  weigh : (some : List EndedMessage) → length some * 48 ≤ sent_bytes some
  weigh [] = omega arith
  weigh (output ∷ some) = omega (arith, weigh some, sum_by-cons ended_bytes output some)

next_small : (next : ℕ) (run : Bool) → (not (next == 0) && run) ≡ true → nat_lt next 1500000000000000000 ≡ true → is_next next ≡ true
next_small next run is low =
    both (not (next == 0)) (is_small next) (first_of (not (next == 0)) run is) (less next 2000000000000000000 (omega (arith, ltb-true next 1500000000000000000 low)))

all_next : (outputs : List TerminalReplies) → list_all is_run outputs ≡ true → are_below 1500000000000000000 outputs ≡ true → list_all (λ terminal. is_next terminal.next) outputs ≡ true
all_next [] runs low = refl
all_next (t ∷ ts) runs low =
    both (is_next t.next) (list_all (λ terminal. is_next terminal.next) ts)
    (next_small t.next _ (first_of (is_run t) (list_all is_run ts) runs) (first_of (nat_lt t.next 1500000000000000000) (are_below 1500000000000000000 ts) low))
    (all_next ts (second_of (is_run t) (list_all is_run ts) runs) (second_of (nat_lt t.next 1500000000000000000) (are_below 1500000000000000000 ts) low))

not_over : (need limit : ℕ) → need ≤ limit → nat_lt limit need ≡ false
not_over need limit fits = grind (arith, nat_tests, fits)

not_zero : (n : ℕ) → (not (n == 0) && is_small n) ≡ true → 0 < n
not_zero zero is = absurd cc
not_zero (suc n) is = omega arith

is_next_of : (n : ℕ) → 0 < n → n < 2000000000000000000 → is_next n ≡ true
is_next_of n some low = grind (arith, nat_tests, some, low)

-- What a step leaves fits, where what was before did and was far from the end, and its terminals' inputs are small.
pub fits_behind : (system : System) (most : ℕ) (before after : LastingState) → most ≤ 1366 → FitsRanges system before → AreUnspent before → StandsLasting system after
    → before.next_id ≤ after.next_id → after.next_id ≤ before.next_id + most → after.steps ≡ before.steps + 1 → list_all (λ terminal. is_small terminal.last) after.terminals ≡ true
    → are_below (1000000000000000000 + most) after.outputs ≡ true → content after ≤ system.qbytes → FitsRanges system after
fits_behind system most before after few fits unspent stands least id steps inputs outputs room = record {
  id = is_next_of after.next_id (omega (arith, least, not_zero before.next_id fits.id)) (omega (arith, id, few, unspent.id));
  counted = less after.steps 2000000000000000000 (omega (arith, steps, unspent.steps));
  inputs = inputs;
  numbers = all_next after.outputs stands.runs (wider (1000000000000000000 + most) 1500000000000000000 after.outputs (omega (arith, few)) outputs);
  room = not_over (content after) system.qbytes room;
}

module _ (system : System) (lasting : LastingState) (fits : FitsRanges system lasting) (unspent : AreUnspent lasting) where
  -- a completion or an abend
  ended_fits : (step : LastingStep) (most : ℕ) → most ≤ 1366 → CountsBehind most lasting (applied step lasting) → (applied step lasting).steps ≡ lasting.steps + 1 → StandsLasting system (applied step lasting) → content (applied step lasting) ≤ system.qbytes → FitsRanges system (applied step lasting)
  ended_fits step most few counts steps stands room =
      fits_behind system most lasting (applied step lasting) few fits unspent stands counts.least counts.id steps
      (subst (λ ts. list_all (λ terminal. is_small terminal.last) ts ≡ true) (sym counts.inputs) fits.inputs)
      (counts.outputs 1000000000000000000 unspent.outputs) room

  completes_counts : (id : ℕ) (rows : List (List Row)) (outputs : List EndedMessage) (pad : PadChange) → CountsBehind (length outputs) lasting (applied (Completes id rows outputs pad) lasting)
  completes_counts id rows outputs pad =
      let c = finished_counts (message_at lasting.messages id) (λ _. outputs) (λ _. pad) (record lasting { rows = rows }) (length outputs) (λ message. omega arith) in
      record { least = c.least; id = c.id; inputs = c.inputs; outputs = c.outputs }

  pub completes_fits : (id : ℕ) (rows : List (List Row)) (outputs : List EndedMessage) (pad : PadChange) → sent_bytes outputs ≤ 65536 → StandsLasting system (applied (Completes id rows outputs pad) lasting)
      → content (applied (Completes id rows outputs pad) lasting) ≤ system.qbytes → FitsRanges system (applied (Completes id rows outputs pad) lasting)
  completes_fits id rows outputs pad few stands room = ended_fits (Completes id rows outputs pad) (length outputs) (few_sent outputs few) (completes_counts id rows outputs pad) refl stands room

  discards_counts : (id : ℕ) (abend : AbendCode) → CountsBehind 1 lasting (applied (Discards id abend) lasting)
  discards_counts id abend =
      let c = finished_counts (message_at lasting.messages id) (λ message. abend_outputs message abend) Rattle.model_machine.specs.LastingSteps.discarded_pad lasting 1 (λ message. omega arith) in
      record { least = c.least; id = c.id; inputs = c.inputs; outputs = c.outputs }

  pub discards_fits : (id : ℕ) (abend : AbendCode) → StandsLasting system (applied (Discards id abend) lasting) → content (applied (Discards id abend) lasting) ≤ system.qbytes → FitsRanges system (applied (Discards id abend) lasting)
  discards_fits id abend stands room = ended_fits (Discards id abend) 1 (omega arith) (discards_counts id abend) refl stands room

  -- an input
  pub accepts_fits : (terminal : List ℕ) (number : ℕ) (kept : KeptInput) → is_small number ≡ true → StandsLasting system (applied (Accepts terminal number kept) lasting)
      → content (applied (Accepts terminal number kept) lasting) ≤ system.qbytes → FitsRanges system (applied (Accepts terminal number kept) lasting)
  accepts_fits terminal number kept small stands room =
      fits_behind system 1 lasting (applied (Accepts terminal number kept) lasting) (omega arith) fits unspent stands (omega arith) (omega arith) refl
      (inputs_small (Rattle.model_machine.specs.Machine.terminal_place lasting.terminals terminal))
      (wider 1000000000000000000 (1000000000000000000 + 1) lasting.outputs (omega arith) unspent.outputs) room where
        inputs_small : (place : Option ℕ) → list_all (λ t. is_small t.last) (Rattle.model_system.specs.Lists.change_at lasting.terminals place (with_last_number number)) ≡ true
        inputs_small None = fits.inputs
        inputs_small (Some place) = all_changed (λ t. is_small t.last) lasting.terminals place (with_last_number number) fits.inputs (λ t is. small)

  -- an acknowledgement
  changed_below : (most : ℕ) (name : List ℕ) (change : TerminalReplies → TerminalReplies) → ((t : TerminalReplies) → (change t).next ≡ t.next) → (outputs : List TerminalReplies)
      → are_below most outputs ≡ true → are_below most (with_terminal name change outputs) ≡ true
  changed_below most name change same [] are = refl
  changed_below most name change same (t ∷ ts) are = by (are_replies_of name t) (changed_below most name change same ts) where
    by : (b : Bool) → (are_below most ts ≡ true → are_below most (with_terminal name change ts) ≡ true) → are_below most (if b then change t ∷ ts else t ∷ with_terminal name change ts) ≡ true
    by true later = ap (λ n. nat_lt n most && are_below most ts) (same t) ∙ are
    by false later =
        both (nat_lt t.next most) (are_below most (with_terminal name change ts)) (first_of (nat_lt t.next most) (are_below most ts) are)
        (later (second_of (nat_lt t.next most) (are_below most ts) are))

  pub acknowledges_fits : (terminal : List ℕ) → StandsLasting system (applied (Acknowledges terminal) lasting) → content (applied (Acknowledges terminal) lasting) ≤ system.qbytes → FitsRanges system (applied (Acknowledges terminal) lasting)
  acknowledges_fits terminal stands room =
      fits_behind system 0 lasting (applied (Acknowledges terminal) lasting) (omega arith) fits unspent stands (omega arith) (omega arith) refl fits.inputs
      (wider 1000000000000000000 (1000000000000000000 + 0) (with_terminal terminal without_first lasting.outputs) (omega arith) (changed_below 1000000000000000000 terminal without_first (λ t. refl) lasting.outputs unspent.outputs)) room

  -- a command
  as_before : are_below (1000000000000000000 + 0) lasting.outputs ≡ true
  as_before = wider 1000000000000000000 (1000000000000000000 + 0) lasting.outputs (omega arith) unspent.outputs

  stopped_small : (stopped : Bool) (place : Option ℕ) → list_all (λ t. is_small t.last) (Rattle.model_system.specs.Lists.change_at lasting.terminals place (stopped_terminal stopped)) ≡ true
  stopped_small stopped None = fits.inputs
  stopped_small stopped (Some place) = all_changed (λ t. is_small t.last) lasting.terminals place (stopped_terminal stopped) fits.inputs (λ t is. is)

  replies_below : (terminal : List ℕ) (change : TerminalReplies → TerminalReplies) → ((t : TerminalReplies) → (change t).next ≡ t.next) → are_below (1000000000000000000 + 0) (with_terminal terminal change lasting.outputs) ≡ true
  replies_below terminal change same =
      wider 1000000000000000000 (1000000000000000000 + 0) (with_terminal terminal change lasting.outputs) (omega arith) (changed_below 1000000000000000000 terminal change same lasting.outputs unspent.outputs)

  pub commands_fits : (command : LastingCommand) → StandsLasting system (applied (Commands command) lasting) → content (applied (Commands command) lasting) ≤ system.qbytes → FitsRanges system (applied (Commands command) lasting)
  commands_fits (StartTransaction code) stands room = fits_behind system 0 lasting (applied (Commands (StartTransaction code)) lasting) (omega arith) fits unspent stands (omega arith) (omega arith) refl fits.inputs as_before room
  commands_fits (StopTransaction code) stands room = fits_behind system 0 lasting (applied (Commands (StopTransaction code)) lasting) (omega arith) fits unspent stands (omega arith) (omega arith) refl fits.inputs as_before room
  commands_fits (StartTerminal terminal) stands room =
      fits_behind system 0 lasting (applied (Commands (StartTerminal terminal)) lasting) (omega arith) fits unspent stands (omega arith) (omega arith) refl (stopped_small false (terminal_place lasting.terminals terminal)) as_before room
  commands_fits (StopTerminal terminal) stands room =
      fits_behind system 0 lasting (applied (Commands (StopTerminal terminal)) lasting) (omega arith) fits unspent stands (omega arith) (omega arith) refl (stopped_small true (terminal_place lasting.terminals terminal)) as_before room
  commands_fits (DequeueFirst terminal) stands room =
      fits_behind system 0 lasting (applied (Commands (DequeueFirst terminal)) lasting) (omega arith) fits unspent stands (omega arith) (omega arith) refl fits.inputs (replies_below terminal without_first (λ t. refl)) room
  commands_fits (DequeueAll terminal) stands room =
      fits_behind system 0 lasting (applied (Commands (DequeueAll terminal)) lasting) (omega arith) fits unspent stands (omega arith) (omega arith) refl fits.inputs (replies_below terminal without_replies (λ t. refl)) room
  commands_fits (Exit terminal) stands room = fits_behind system 0 lasting (applied (Commands (Exit terminal)) lasting) (omega arith) fits unspent stands (omega arith) (omega arith) refl fits.inputs as_before room
  commands_fits (AssignClass code class) stands room = fits_behind system 0 lasting (applied (Commands (AssignClass code class)) lasting) (omega arith) fits unspent stands (omega arith) (omega arith) refl fits.inputs as_before room
  commands_fits (AssignPriority code priority) stands room = fits_behind system 0 lasting (applied (Commands (AssignPriority code priority)) lasting) (omega arith) fits unspent stands (omega arith) (omega arith) refl fits.inputs as_before room
