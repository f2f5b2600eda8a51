-- What a command that lasts leaves of the parts.
use Rattle.std.proofs.Common.{◌≡◌, ℕ, zero, suc, ◌+◌, Bool, true, false, not, ◌&&◌, List, [], ◌∷◌, map, length, refl, sym, ap, ◌∙◌, subst}
use Rattle.std.specs.Prelude.{Option, Some, None, IfSome, find, cond, if◌then◌else◌, nat_lt, slice_get, slice_set, position}
use Rattle.std.specs.List.{AllByRecursion, prefix_len}
use Rattle.std.specs.Option.{option_map, option_map_or}
use Rattle.std.specs.Str.{bytes_eq}
use Rattle.std.proofs.lemmas.Slice.Eq.{bytes_eq-Decides}
use Rattle.tm_types.specs.declared.command.LastingCommand.{LastingCommand}
use Rattle.tm_types.specs.declared.command.LastingCommand.TheVariants.{StartTransaction, StopTransaction, StartTerminal, StopTerminal, DequeueFirst, DequeueAll, Exit, AssignClass, AssignPriority}
use Rattle.tm_types.specs.declared.message.Message.{Message}
use Rattle.model_messages.specs.declared.conversation.Conversation.{Conversation}
use Rattle.model_messages.specs.declared.conversation.TerminalConversation.{TerminalConversation}
use Rattle.model_messages.specs.ConversationInput.{busy_id, is_conversing}
use Rattle.model_messages.specs.Terminals.{conversation_at, with_conversation}
use Rattle.model_messages.specs.declared.queued.Queued.{Queued}
use Rattle.model_messages.specs.Queue.{free_count, messages_of}
use Rattle.model_system.specs.declared.code_state.CodeState.{CodeState}
use Rattle.model_system.specs.Lists.{change_at}
use Rattle.model_system.specs.System.{System}
use Rattle.system_types.specs.Codes.{is_state_of, classed_state, ranked_state, stopped_state}
use Rattle.model_machine.specs.declared.lasting.CodeSetting.{CodeSetting}
use Rattle.model_machine.specs.Machine.{Moment, moment_with, setting_of, setting_place, terminal_place}
use Rattle.model_machine.specs.LastingSteps.{applied, with_conversing, classed_code, ranked_code, stopped_code, stopped_terminal}
use Rattle.model_machine.specs.LastingSteps.LastingStep.{Commands}
use Rattle.model_machine.specs.Trial.{Given}
use Rattle.program_rows.specs.DatabasesState.{DatabasesState}
use Rattle.lasting_state.specs.Tables.{TablesState, lasting_of}
use Rattle.lasting_state.specs.DoneCommands.{AppliesCommand, command_done, command_set}
use Rattle.region_work.specs.declared.region.Busy.{Busy}
use Rattle.tm_machine.specs.LastingCommands.{EndsNoneBusy, IsCommanded, states_set}
use Rattle.tm_machine.specs.Parts.{PartsState, AreAtWork, AreConversations, AreParts, IsConversationOf, IsOfConversation, flags_of, settings_of, work_slots}
use Rattle.region_work.specs.RegionWork.{IsWork, given_in}
use Rattle.tm_machine.proofs.Asked.{length_map}
use Rattle.tm_machine.proofs.Conversing.{all_both, all_map, all_with, belongs_still, names_stay, no_both, other_terminal}
use Rattle.region_work.proofs.Kept.{all_found}
use Rattle.tm_machine.proofs.Joining.{none_conversing}
use Rattle.tm_machine.proofs.Leaving.{moment_is}
use Rattle.model_messages.proofs.Laws.{message_found}
use Rattle.tm_machine.proofs.Raising.{followed_none}

-- ---- lists of which one element changes

-- what the change keeps of an element stays of all
map_kept : {X Y : Type 0} (f : X → Y) (change : X → X) → ((x : X) → f (change x) ≡ f x) → (xs : List X) (place : Option ℕ) → map f (change_at xs place change) ≡ map f xs
map_kept f change keeps xs None = refl
map_kept {X} {Y} f change keeps xs (Some place) = at xs place where
  at : (xs : List X) (p : ℕ) → map f (change_at xs (Some p) change) ≡ map f xs
  at [] p = refl
  at (x ∷ xs) zero = ap (λ y. y ∷ map f xs) (keeps x)
  at (x ∷ xs) (suc p) = by (slice_get xs p) (at xs p) where
    by : (found : Option X) → map f (option_map_or (λ y. slice_set xs p (change y)) found xs) ≡ map f xs
        → map f (option_map_or (λ y. slice_set (x ∷ xs) (suc p) (change y)) found (x ∷ xs)) ≡ f x ∷ map f xs
    by (Some y) rest = ap (λ ys. f x ∷ ys) rest
    by None rest = refl

-- where it becomes another change, that is done
map_changed : {X Y : Type 0} (f : X → Y) (change : X → X) (other : Y → Y) → ((x : X) → f (change x) ≡ other (f x)) → (xs : List X) (place : Option ℕ)
    → map f (change_at xs place change) ≡ change_at (map f xs) place other
map_changed f change other same xs None = refl
map_changed {X} {Y} f change other same xs (Some place) = at xs place where
  at : (xs : List X) (p : ℕ) → map f (change_at xs (Some p) change) ≡ change_at (map f xs) (Some p) other
  at [] p = refl
  at (x ∷ xs) zero = ap (λ y. y ∷ map f xs) (same x)
  at (x ∷ xs) (suc p) = by (slice_get xs p) (slice_get (map f xs) p) (get_map xs p) (at xs p) where
    get_map : (zs : List X) (q : ℕ) → slice_get (map f zs) q ≡ option_map f (slice_get zs q)
    get_map [] q = refl
    get_map (z ∷ zs) zero = refl
    get_map (z ∷ zs) (suc q) = get_map zs q

    by : (found : Option X) (mapped : Option Y) → mapped ≡ option_map f found
        → map f (option_map_or (λ y. slice_set xs p (change y)) found xs) ≡ option_map_or (λ y. slice_set (map f xs) p (other y)) mapped (map f xs)
        → map f (option_map_or (λ y. slice_set (x ∷ xs) (suc p) (change y)) found (x ∷ xs)) ≡ option_map_or (λ y. slice_set (map f (x ∷ xs)) (suc p) (other y)) mapped (map f (x ∷ xs))
    by (Some y) (Some z) e rest = ap (λ ys. f x ∷ ys) rest
    by None None e rest = refl
    by (Some y) None e rest = cc
    by None (Some z) e rest = cc

length_kept : {X : Type 0} (change : X → X) (xs : List X) (place : Option ℕ) → length (change_at xs place change) ≡ length xs
length_kept change xs place =
    sym (length_map {Y = ℕ} (λ _. 0) (change_at xs place change)) ∙ ap length (map_kept {Y = ℕ} (λ _. 0) change (λ x. refl) xs place) ∙ length_map {Y = ℕ} (λ _. 0) xs

prefix_of : {X Y : Type 0} (q : Y → Bool) (f : X → Y) (xs : List X) → prefix_len q (map f xs) ≡ prefix_len (λ x. q (f x)) xs
prefix_of q f [] = refl
prefix_of q f (x ∷ xs) = ap (λ n. if q (f x) then 1 + n else 0) (prefix_of q f xs)

-- a code has the same place among its settings
setting_at : (states : List CodeState) (code : List ℕ) → setting_place (settings_of states) code ≡ position (is_state_of code) states
setting_at states code =
    ap (λ k. cond (nat_lt k (length (settings_of states))) (Some k) None) (prefix_of (λ s. not (bytes_eq s.code code)) setting_of states)
    ∙ ap (λ m. cond (nat_lt (prefix_len (λ (s : CodeState). not (bytes_eq s.code code)) states) m) (Some (prefix_len (λ (s : CodeState). not (bytes_eq s.code code)) states)) None) (length_map setting_of states)

set_settings : (change : CodeState → CodeState) (other : CodeSetting → CodeSetting) → ((state : CodeState) → setting_of (change state) ≡ other (setting_of state)) → (states : List CodeState) (code : List ℕ)
    → settings_of (change_at states (position (is_state_of code) states) change) ≡ change_at (settings_of states) (setting_place (settings_of states) code) other
set_settings change other same states code =
    map_changed setting_of change other same states (position (is_state_of code) states)
    ∙ ap (λ p. change_at (settings_of states) p other) (sym (setting_at states code))

pub settings_then : (command : LastingCommand) (states : List CodeState) → settings_of (states_set command states) ≡ command_set command (settings_of states)
settings_then (StartTransaction code) states = set_settings (stopped_state false) (stopped_code false) (λ s. refl) states code
settings_then (StopTransaction code) states = set_settings (stopped_state true) (stopped_code true) (λ s. refl) states code
settings_then (StartTerminal terminal) states = refl
settings_then (StopTerminal terminal) states = refl
settings_then (DequeueFirst terminal) states = refl
settings_then (DequeueAll terminal) states = refl
settings_then (Exit terminal) states = refl
settings_then (AssignClass code class) states = set_settings (classed_state class) (classed_code class) (λ s. refl) states code
settings_then (AssignPriority code priority) states = set_settings (ranked_state priority) (ranked_code priority) (λ s. refl) states code

flags_then : (command : LastingCommand) (states : List CodeState) → flags_of (states_set command states) ≡ flags_of states
flags_then (StartTransaction code) states = map_kept (λ s. s.raised) (stopped_state false) (λ s. refl) states (position (is_state_of code) states)
flags_then (StopTransaction code) states = map_kept (λ s. s.raised) (stopped_state true) (λ s. refl) states (position (is_state_of code) states)
flags_then (StartTerminal terminal) states = refl
flags_then (StopTerminal terminal) states = refl
flags_then (DequeueFirst terminal) states = refl
flags_then (DequeueAll terminal) states = refl
flags_then (Exit terminal) states = refl
flags_then (AssignClass code class) states = map_kept (λ s. s.raised) (classed_state class) (λ s. refl) states (position (is_state_of code) states)
flags_then (AssignPriority code priority) states = map_kept (λ s. s.raised) (ranked_state priority) (λ s. refl) states (position (is_state_of code) states)

size_then : (command : LastingCommand) (states : List CodeState) → length (states_set command states) ≡ length states
size_then (StartTransaction code) states = length_kept (stopped_state false) states (position (is_state_of code) states)
size_then (StopTransaction code) states = length_kept (stopped_state true) states (position (is_state_of code) states)
size_then (StartTerminal terminal) states = refl
size_then (StopTerminal terminal) states = refl
size_then (DequeueFirst terminal) states = refl
size_then (DequeueAll terminal) states = refl
size_then (Exit terminal) states = refl
size_then (AssignClass code class) states = length_kept (classed_state class) states (position (is_state_of code) states)
size_then (AssignPriority code priority) states = length_kept (ranked_state priority) states (position (is_state_of code) states)

-- ---- a conversation ends

module _ (system : System) (conversations : List TerminalConversation) (ms : List Message) (are : AreConversations system conversations ms) (terminal : List ℕ)
    (free : busy_id terminal ms ≡ None) where
  ended : List TerminalConversation
  ended = with_conversing terminal None conversations

  none_found : (o : Option Message) → option_map (λ (m : Message). m.id) o ≡ None → o ≡ None
  none_found None e = refl
  none_found (Some m) e = let clash : Some m.id ≡ None = e in absurd cc

  apart : AllByRecursion (λ n. is_conversing terminal n ≡ false) ms
  apart = none_conversing terminal ms (none_found (find (is_conversing terminal) ms) free)

  abbrev made : Message → Option Conversation → Given
  made n c = record { message = n; conversation = c }

  given_same : (n : Message) → is_conversing terminal n ≡ false → given_in (with_conversing terminal None conversations) n ≡ given_in conversations n
  given_same n other = by n.conversation refl where
    elsewhere : n.conversation ≡ true → n.origin ≡ terminal → ⊥
    elsewhere x s = no_both (sym (ap (λ b. b && n.conversation) ((bytes_eq-Decides n.origin terminal).1 s) ∙ x) ∙ other)

    by : (f : Bool) → n.conversation ≡ f → made n (if f then conversation_at n.origin (with_conversing terminal None conversations) else None) ≡ made n (if f then conversation_at n.origin conversations else None)
    by true e = ap (made n) (other_terminal terminal n.origin (with_conversation None) conversations (λ t. refl) (elsewhere e))
    by false e = refl

  pub given_then : AllByRecursion (λ n. given_in (with_conversing terminal None conversations) n ≡ given_in conversations n) ms
  given_then = all_map (λ n. is_conversing terminal n ≡ false) (λ n. given_in (with_conversing terminal None conversations) n ≡ given_in conversations n) ms given_same apart

  pub are_then : AreConversations system (with_conversing terminal None conversations) ms
  are_then = record {
    names = names_stay terminal (with_conversation None) conversations (λ t. refl) ∙ are.names;
    pads = all_with (λ t. IfSome t.conversation (IsConversationOf system)) terminal (with_conversation None) conversations are.pads (λ t e was. tt);
    belong = all_both (λ n. given_in (with_conversing terminal None conversations) n ≡ given_in conversations n) (IsOfConversation conversations) (IsOfConversation (with_conversing terminal None conversations)) ms
        (λ n same was. belongs_still conversations (with_conversing terminal None conversations) n same was) given_then are.belong;
    alone = are.alone;
  }

at_work_then : (system : System) (databases : DatabasesState) (conversations after : List TerminalConversation) (queued : List Queued) (regions : List (Option Busy))
    → AllByRecursion (λ n. given_in after n ≡ given_in conversations n) (messages_of queued) → AreAtWork system databases conversations queued regions → AreAtWork system databases after queued regions
at_work_then system databases conversations after queued regions given at_work place busy e =
    let was = at_work place busy e in
    let same : given_in after was.message ≡ given_in conversations was.message =
    all_found (λ n. given_in after n ≡ given_in conversations n) (messages_of queued) busy.id was.message given (message_found busy.id queued ∙ ap (option_map (λ q. q.message)) was.found) in
    record {
      message = was.message;
      found = was.found;
      work = subst (λ g. IsWork system databases (place + 1) g busy) (sym same) was.work;
    }

-- ---- the parts
module _ (system : System) (tables : TablesState) (states : List CodeState) (regions : List (Option Busy)) (parts : AreParts system tables states regions) where
  abbrev moment_by : TablesState → List CodeState → Moment
  moment_by t ss = record { lasting = lasting_of (settings_of ss) t; slots = work_slots regions; enqueues = t.databases.table; raised = flags_of ss }

  abbrev state_by : TablesState → List CodeState → PartsState
  state_by t ss = record { system = system; moment = moment_by t ss; databases = t.databases }

  -- a change of terminals, replies or the count alone
  tables_then : (t : TablesState) (ss : List CodeState) → t.databases ≡ tables.databases → t.queues ≡ tables.queues → map (λ n. n.name) t.terminals ≡ map (λ n. n.name) tables.terminals → t.conversations ≡ tables.conversations
      → flags_of ss ≡ flags_of states → length ss ≡ length states → AreParts system t ss regions
  tables_then t ss databases queues names conversations flags size = record {
    valid = parts.valid;
    limit = ap (λ q. q.limit) queues ∙ parts.limit;
    names = names ∙ parts.names;
    regions_are = parts.regions_are;
    states_are = size ∙ parts.states_are;
    settled = rw queues (rw flags parts.settled);
    told = rw queues parts.told;
    at_work = rw queues (rw conversations (rw databases parts.at_work));
    conversations = rw queues (rw conversations parts.conversations);
    databases = rw databases parts.databases;
    idle = rw databases parts.idle;
  }

  exit_then : (terminal : List ℕ) → busy_id terminal (messages_of tables.queues.queued) ≡ None → AreParts system (command_done (Exit terminal) tables) states regions
  exit_then terminal free = record {
    valid = parts.valid;
    limit = parts.limit;
    names = parts.names;
    regions_are = parts.regions_are;
    states_are = parts.states_are;
    settled = parts.settled;
    told = parts.told;
    at_work = at_work_then system tables.databases tables.conversations (with_conversing terminal None tables.conversations) tables.queues.queued regions
        (given_then system tables.conversations (messages_of tables.queues.queued) parts.conversations terminal free) parts.at_work;
    conversations = are_then system tables.conversations (messages_of tables.queues.queued) parts.conversations terminal free;
    databases = parts.databases;
    idle = parts.idle;
  }

  done_parts : (command : LastingCommand) → EndsNoneBusy command (lasting_of (settings_of states) tables) → AreParts system (command_done command tables) (states_set command states) regions
  done_parts (StartTransaction code) free = tables_then (command_done (StartTransaction code) tables) (states_set (StartTransaction code) states) refl refl refl refl (flags_then (StartTransaction code) states) (size_then (StartTransaction code) states)
  done_parts (StopTransaction code) free = tables_then (command_done (StopTransaction code) tables) (states_set (StopTransaction code) states) refl refl refl refl (flags_then (StopTransaction code) states) (size_then (StopTransaction code) states)
  done_parts (StartTerminal terminal) free =
      tables_then (command_done (StartTerminal terminal) tables) states refl refl (map_kept (λ n. n.name) (stopped_terminal false) (λ t. refl) tables.terminals (terminal_place tables.terminals terminal)) refl refl refl
  done_parts (StopTerminal terminal) free =
      tables_then (command_done (StopTerminal terminal) tables) states refl refl (map_kept (λ n. n.name) (stopped_terminal true) (λ t. refl) tables.terminals (terminal_place tables.terminals terminal)) refl refl refl
  done_parts (DequeueFirst terminal) free = tables_then (command_done (DequeueFirst terminal) tables) states refl refl refl refl refl refl
  done_parts (DequeueAll terminal) free = tables_then (command_done (DequeueAll terminal) tables) states refl refl refl refl refl refl
  done_parts (Exit terminal) free = exit_then terminal free
  done_parts (AssignClass code class) free = tables_then (command_done (AssignClass code class) tables) (states_set (AssignClass code class) states) refl refl refl refl (flags_then (AssignClass code class) states) (size_then (AssignClass code class) states)
  done_parts (AssignPriority code priority) free = tables_then (command_done (AssignPriority code priority) tables) (states_set (AssignPriority code priority) states) refl refl refl refl (flags_then (AssignPriority code priority) states) (size_then (AssignPriority code priority) states)

  same_queues : (command : LastingCommand) → (command_done command tables).queues ≡ tables.queues
  same_queues (StartTransaction code) = refl
  same_queues (StopTransaction code) = refl
  same_queues (StartTerminal terminal) = refl
  same_queues (StopTerminal terminal) = refl
  same_queues (DequeueFirst terminal) = refl
  same_queues (DequeueAll terminal) = refl
  same_queues (Exit terminal) = refl
  same_queues (AssignClass code class) = refl
  same_queues (AssignPriority code priority) = refl

  pub same_databases : (command : LastingCommand) → (command_done command tables).databases ≡ tables.databases
  same_databases (StartTransaction code) = refl
  same_databases (StopTransaction code) = refl
  same_databases (StartTerminal terminal) = refl
  same_databases (StopTerminal terminal) = refl
  same_databases (DequeueFirst terminal) = refl
  same_databases (DequeueAll terminal) = refl
  same_databases (Exit terminal) = refl
  same_databases (AssignClass code class) = refl
  same_databases (AssignPriority code priority) = refl

  module _ (command : LastingCommand) (free : EndsNoneBusy command (lasting_of (settings_of states) tables)) (tables' : TablesState) (states' : List CodeState)
      (done : tables' ≡ command_done command tables) (applies : AppliesCommand command tables tables') (set : states' ≡ states_set command states) where
    pub parts_commanded : AreParts system tables' states' regions
    parts_commanded = subst (λ t. AreParts system t states' regions) (sym done) (subst (λ ss. AreParts system (command_done command tables) ss regions) (sym set) (done_parts command free))

    lasts : lasting_of (settings_of states') tables' ≡ applied (Commands command) (lasting_of (settings_of states) tables)
    lasts = ap (λ ss. lasting_of (settings_of ss) tables') set ∙ ap (λ k. lasting_of k tables') (settings_then command states) ∙ applies (settings_of states)

    pub commanded_is : IsCommanded (state_by tables states) (state_by tables' states') command
    commanded_is = record {
      moment =
          moment_is system (applied (Commands command) (lasting_of (settings_of states) tables)) (work_slots regions) tables' states' states' regions tables.databases.table
          (followed_none system (λ name. free_count name tables'.queues.queued) (λ name. free_count name tables'.queues.queued) states' parts_commanded.settled (λ name. refl))
          parts_commanded.told lasts refl (ap (λ t. t.databases.table) done ∙ ap (λ d. d.table) (same_databases command))
          ∙ ap (λ f. moment_with system (applied (Commands command) (lasting_of (settings_of states) tables)) (work_slots regions) tables.databases.table f) (ap flags_of set ∙ flags_then command states);
      system = refl;
    }
