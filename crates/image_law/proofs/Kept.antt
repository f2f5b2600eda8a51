-- A step leaves a state that breaks no rule.
use Rattle.std.proofs.Common.{◌≡◌, Bool, true, false, not, ◌&&◌, List, [], ◌∷◌, ◌++◌, ℕ, ◌+◌, refl, sym, ◌∙◌, ap, subst, arith, drop, Some, None}
use Rattle.std.specs.Prelude.{if◌then◌else◌, ◌==◌, Option}
use Rattle.std.specs.List.{list_all, list_any}
use Rattle.std.specs.Option.{is_some, option_map, option_map_or, option_and_then}
use Rattle.std.proofs.lemmas.Bool.{ne_eqb}
use Rattle.tm_types.specs.declared.message.Message.{Message}
use Rattle.model_messages.specs.declared.conversation.Conversation.{Conversation}
use Rattle.model_messages.specs.declared.conversation.PadChange.{PadChange}
use Rattle.model_messages.specs.declared.conversation.PadChange.TheVariants.{Stays, New, Ends}
use Rattle.model_messages.specs.declared.conversation.TerminalConversation.{TerminalConversation}
use Rattle.model_messages.specs.Terminals as conversations
use Rattle.model_messages.specs.ConversationInput.{is_conversing}
use Rattle.model_messages.specs.declared.replies.TerminalReplies.{TerminalReplies}
use Rattle.model_messages.specs.Outputs.{with_terminal, with_reply, without_first}
use Rattle.model_messages.specs.declared.ended_message.EndedMessage.{EndedMessage}
use Rattle.model_system.specs.Codes.{code_at}
use Rattle.model_system.specs.System.{System}
use Rattle.model_machine.specs.Machine.{LastingState, message_at, output_at}
use Rattle.model_machine.specs.LastingSteps.{output_sent, all_sent, with_pad_changed, with_conversation_text, finished_by, with_pad_by}
use Rattle.model_image.specs.States.{is_small, is_next, is_system_terminal, is_system_code, is_conversation, has_right_pad, is_of_conversation, has_no_pad, is_message_known, run_up_to}
use Rattle.image_law.specs.SoundState.{FitsRanges, IsSound}
use Rattle.image_law.specs.StandingState.{is_run, StandsLasting}
use Rattle.image_law.specs.StepNeeds.{takes_switched, has_receiver, PadFits}
use Rattle.image_law.proofs.Bools.{first_of, second_of, not_of_false}
use Rattle.image_law.proofs.Lists.{all_more, all_imply, all_filter, found_passes}
use Rattle.image_law.proofs.Conversing.{put, put_at, all_known_changed, all_put, none_else}
use Rattle.image_law.proofs.Ordered.{ascend_more, ascend_filter, alone_more, alone_filter, run_more, run_drop, all_at, stays_there}
use Rattle.model_image.proofs.Steps.{gone, has_its_id}
use Rattle.tm_types.proofs.Truths.{both}

all_runs : (outputs : List TerminalReplies) → list_all (λ t. is_next t.next) outputs ≡ true → list_all (λ t. run_up_to t.next t.replies) outputs ≡ true → list_all is_run outputs ≡ true
all_runs [] numbers runs = refl
all_runs (t ∷ ts) numbers runs =
    both (is_run t) (list_all is_run ts)
    (both (not (t.next == 0)) (run_up_to t.next t.replies)
    (first_of (not (t.next == 0)) (is_small t.next) (first_of (is_next t.next) (list_all (λ t. is_next t.next) ts) numbers))
    (first_of (run_up_to t.next t.replies) (list_all (λ t. run_up_to t.next t.replies) ts) runs))
    (all_runs ts (second_of (is_next t.next) (list_all (λ t. is_next t.next) ts) numbers) (second_of (run_up_to t.next t.replies) (list_all (λ t. run_up_to t.next t.replies) ts) runs))

pub stands : (system : System) (lasting : LastingState) → IsSound system lasting → StandsLasting system lasting
stands system lasting s = record {
  settings = s.settings;
  pads = s.pads;
  ascending = s.ascending;
  known = s.known;
  alone = s.alone;
  runs = all_runs lasting.outputs s.fits.numbers s.runs;
}

pub sound_where : (system : System) (lasting : LastingState) → StandsLasting system lasting → FitsRanges system lasting → IsSound system lasting
sound_where system lasting s fits = record {
  fits = fits;
  settings = s.settings;
  pads = s.pads;
  ascending = s.ascending;
  known = s.known;
  alone = s.alone;
  runs = all_imply is_run (λ t. run_up_to t.next t.replies) lasting.outputs (λ t. second_of (not (t.next == 0)) (run_up_to t.next t.replies)) s.runs;
}

-- ---- outputs

reply_runs : (segments : List (List ℕ)) (t : TerminalReplies) → is_run t ≡ true → is_run (with_reply segments t) ≡ true
reply_runs segments t is =
    let positive = first_of (not (t.next == 0)) (run_up_to t.next t.replies) is in
    both (not (t.next + 1 == 0)) (run_up_to (t.next + 1) (t.replies ++ record { number = t.next; segments = segments } ∷ [])) (not_of_false (t.next + 1 == 0) (ne_eqb (t.next + 1) 0 (λ e. omega (arith, e))))
    (run_more t.next t.replies (record { number = t.next; segments = segments }) refl positive (second_of (not (t.next == 0)) (run_up_to t.next t.replies) is))

module _ (system : System) (origin : List ℕ) (from : is_system_terminal system origin ≡ true) where
  sent_stands : (output : EndedMessage) (lasting : LastingState) (b : Bool) → is_some (output_at lasting.outputs output.to) ≡ b → has_receiver system lasting.outputs output ≡ true → StandsLasting system lasting → StandsLasting system (output_sent origin output lasting)
  sent_stands output lasting true is there s =
      rw is (record {
        settings = s.settings;
        pads = s.pads;
        ascending = s.ascending;
        known = s.known;
        alone = s.alone;
        runs = all_at is_run output.to (with_reply output.segments) lasting.outputs s.runs (reply_runs output.segments);
      })
  sent_stands output lasting false is there s =
      let message : Message = record { id = lasting.next_id; origin = origin; code = output.to; conversation = false; segments = output.segments } in
      let takes : takes_switched system output.to ≡ true = subst (λ (b : Bool). (if b then is_system_terminal system output.to else takes_switched system output.to) ≡ true) is there in
      let pad = option_map_or (λ code. code.transaction.scratch_pad == 0) (code_at system.codes output.to) true in
      rw is (record {
        settings = s.settings;
        pads = s.pads;
        ascending = ascend_more lasting.next_id lasting.messages message s.ascending refl;
        known = all_more (is_message_known system lasting) lasting.messages message s.known
            (both (is_system_terminal system origin && is_system_code system output.to) pad
            (both (is_system_terminal system origin) (is_system_code system output.to) from (first_of (is_system_code system output.to) pad takes)) (second_of (is_system_code system output.to) pad takes));
        alone = alone_more lasting.messages message refl s.alone;
        runs = s.runs;
      })

  pub receivers_stay : (output other : EndedMessage) (lasting : LastingState) (b : Bool) → is_some (output_at lasting.outputs output.to) ≡ b → is_some (output_at (output_sent origin output lasting).outputs other.to) ≡ is_some (output_at lasting.outputs other.to)
  receivers_stay output other lasting true is = rw is (stays_there other.to output.to (with_reply output.segments) (λ t. refl) lasting.outputs)
  receivers_stay output other lasting false is = rw is refl

  pub all_sent_stands : (outputs : List EndedMessage) (lasting : LastingState) → list_all (has_receiver system lasting.outputs) outputs ≡ true → StandsLasting system lasting → StandsLasting system (all_sent origin outputs lasting)
  all_sent_stands [] lasting there s = s
  all_sent_stands (output ∷ outputs) lasting there s =
      let b = is_some (output_at lasting.outputs output.to) in
      all_sent_stands outputs (output_sent origin output lasting)
      (all_imply (has_receiver system lasting.outputs) (has_receiver system (output_sent origin output lasting).outputs) outputs
      (λ other is. ap (λ (b : Bool). if b then is_system_terminal system other.to else takes_switched system other.to) (receivers_stay output other lasting b refl) ∙ is)
      (second_of (has_receiver system lasting.outputs output) (list_all (has_receiver system lasting.outputs) outputs) there))
      (sent_stands output lasting b refl (first_of (has_receiver system lasting.outputs output) (list_all (has_receiver system lasting.outputs) outputs) there) s)

-- ---- a message that is done with

abbrev pads_changed : PadChange → List ℕ → LastingState → LastingState
pads_changed pad origin lasting = record lasting { conversations = with_pad_changed pad origin lasting.conversations }

gone_stands : (system : System) (id : ℕ) (lasting : LastingState) → StandsLasting system lasting → StandsLasting system (gone id lasting)
gone_stands system id lasting s = record {
  settings = s.settings;
  pads = s.pads;
  runs = s.runs;
  ascending = ascend_filter (λ m. not (m.id == id)) lasting.next_id lasting.messages s.ascending;
  known = all_filter (is_message_known system lasting) (λ m. not (m.id == id)) lasting.messages s.known;
  alone = alone_filter (λ m. not (m.id == id)) lasting.messages s.alone;
}

-- a pad changes of which no other message is
pub changes_stand : (system : System) (origin : List ℕ) (change : Option Conversation → Option Conversation) (lasting : LastingState) → StandsLasting system lasting → list_any (is_conversing origin) lasting.messages ≡ false →
    ((t : TerminalConversation) → conversations.conversation_terminal origin lasting.conversations ≡ Some t → has_right_pad system (put change t) ≡ true) → StandsLasting system (put_at origin change lasting)
changes_stand system origin change lasting s none right = record {
  settings = s.settings;
  ascending = s.ascending;
  alone = s.alone;
  runs = s.runs;
  pads = all_put origin change (has_right_pad system) lasting.conversations s.pads right;
  known = all_known_changed origin change system lasting lasting.messages none s.known;
}

module _ (system : System) (id : ℕ) (message : Message) (lasting : LastingState) (found : message_at lasting.messages id ≡ Some message) (s : StandsLasting system lasting) where
  pads_stand : (pad : PadChange) → PadFits system pad message lasting → StandsLasting system (pads_changed pad message.origin (gone id lasting))
  pads_stand Stays fits = gone_stands system id lasting s
  pads_stand Ends flag =
      changes_stand system message.origin (λ _. None) (gone id lasting) (gone_stands system id lasting s) (none_else id lasting.messages message s.alone found flag) (λ t is. refl)
  pads_stand (New text) fits =
      changes_stand system message.origin (option_map (with_conversation_text text)) (gone id lasting) (gone_stands system id lasting s) (none_else id lasting.messages message s.alone found fits.0)
      (λ t is. new_right t.conversation
      (subst (λ (o : Option TerminalConversation). option_map_or (λ c. is_conversation system (with_conversation_text text c)) (option_and_then (λ t. t.conversation) o) true ≡ true) is fits.1)) where
        new_right : (o : Option Conversation) → option_map_or (λ c. is_conversation system (with_conversation_text text c)) o true ≡ true → option_map_or (is_conversation system) (option_map (with_conversation_text text) o) true ≡ true
        new_right (Some c) is = is
        new_right None is = refl

  pub origin_known : is_system_terminal system message.origin ≡ true
  origin_known =
      let names = is_system_terminal system message.origin && is_system_code system message.code in
      first_of (is_system_terminal system message.origin) (is_system_code system message.code)
      (first_of names (if message.conversation then is_of_conversation lasting message else has_no_pad system message)
      (found_passes (is_message_known system lasting) (λ m. m.id == id) lasting.messages message s.known found))

  -- What completing or discarding it leaves.
  pub finished_stands : (pad : PadChange) (outputs : List EndedMessage) → PadFits system pad message lasting → list_all (has_receiver system lasting.outputs) outputs ≡ true →
      StandsLasting system (finished_by (Some message) (λ _. outputs) (with_pad_by (Some message) (λ _. pad) lasting))
  finished_stands pad outputs fits there =
      subst (λ (n : ℕ). StandsLasting system (all_sent message.origin outputs (pads_changed pad message.origin (gone n lasting)))) (sym (has_its_id id lasting.messages message found))
      (all_sent_stands system message.origin origin_known outputs (pads_changed pad message.origin (gone id lasting)) there (pads_stand pad fits))

-- ---- what is acknowledged

pub acknowledged_stands : (system : System) (terminal : List ℕ) (lasting : LastingState) → StandsLasting system lasting → StandsLasting system (record lasting { outputs = with_terminal terminal without_first lasting.outputs })
acknowledged_stands system terminal lasting s = record {
  settings = s.settings;
  pads = s.pads;
  ascending = s.ascending;
  known = s.known;
  alone = s.alone;
  runs = all_at is_run terminal without_first lasting.outputs s.runs (λ t is.
      both (not (t.next == 0)) (run_up_to t.next (drop 1 t.replies)) (first_of (not (t.next == 0)) (run_up_to t.next t.replies) is)
      (run_drop t.next t.replies (second_of (not (t.next == 0)) (run_up_to t.next t.replies) is)));
}
