-- An empty control region, and an input that comes.
use Rattle.std.proofs.Common.{◌≡◌, ℕ, zero, suc, ◌+◌, ◌-◌, ◌<◌, false, List, [], ◌∷◌, map, length, replicate, get_or, refl, sym, ap, ◌∙◌, arith, subst}
use Rattle.std.specs.Prelude.{Option, Some, None, IfSome, Result, Ok, slice_get, slice_set}
use Rattle.std.specs.List.{AllByRecursion}
use Rattle.std.specs.Option.{option_map_or}
use Rattle.std.specs.Str.{bytes_eq}
use Rattle.tm_types.specs.declared.message.Message.{Message}
use Rattle.model_messages.specs.Queue.{IsNewId, free_count, messages_of}
use Rattle.model_messages.specs.declared.conversation.TerminalConversation.{TerminalConversation}
use Rattle.model_messages.specs.Terminals.{without_conversation}
use Rattle.model_system.specs.declared.code.Code.{Code}
use Rattle.model_system.specs.declared.code_state.CodeState.{CodeState}
use Rattle.model_system.specs.Lists.{change_at}
use Rattle.model_system.specs.System.{System}
use Rattle.system_types.specs.Codes as codes
use Rattle.system_types.specs.ValidSystem.{IsSystem}
use Rattle.model_machine.specs.declared.entry.Taken.{Taken}
use Rattle.model_machine.specs.declared.entry.Taken.TheVariants.{New}
use Rattle.model_machine.specs.declared.entry.InputRefused.{InputRefused}
use Rattle.model_machine.specs.declared.entry.ControlCall.TheVariants.{Input}
use Rattle.model_machine.specs.declared.lasting.TerminalState.{TerminalState}
use Rattle.model_machine.specs.Machine.{LastingState, Moment, terminal_place, fresh_terminal_state, first_setting, raised_now, moment_with, empty_state, start_of}
use Rattle.model_machine.specs.LastingSteps.{KeptInput, input_message, kept_input, with_begun, with_last_number, applied}
use Rattle.model_machine.specs.LastingSteps.LastingStep.{Accepts}
use Rattle.model_machine.specs.MachineCalls.{accepted_step, input_answer, After}
use Rattle.model_machine.specs.Flags.{all_followed}
use Rattle.model_data.specs.Table.{empty_table, wait_of}
use Rattle.program_rows.specs.DatabasesState.{DatabasesState, RegionRows, AreRowsOf, IsClean, clean_region, committed_rows, dbds_of, no_rows, region_at}
use Rattle.lasting_state.specs.Tables.{TablesState, lasting_of, enqueued}
use Rattle.region_work.specs.declared.region.Busy.{Busy}
use Rattle.tm_machine.specs.Parts.{work_slots, settings_of, flags_of, AreHoldersTold, AreConversations, AreParts, IsConversationOf}
use Rattle.tm_machine.proofs.Joining.{Joined}
use Rattle.lasting_state.proofs.Finished.{messages_both}
use Rattle.tm_machine.proofs.Free.{count_added, or_none}
use Rattle.tm_machine.proofs.Leaving.{moment_is, moment_stays}
use Rattle.tm_machine.proofs.Linked.{new_told, new_free, new_at_work}
use Rattle.tm_machine.proofs.Raising.{IsFollowed, followed_all, followed_settled}

pub none_busy : (n place : ℕ) (busy : Busy) → slice_get (replicate n None) place ≡ Some (Some busy) → ⊥
none_busy zero place busy e = cc
none_busy (suc n) zero busy e = cc
none_busy (suc n) (suc place) busy e = none_busy n place busy e

pub none_slots : (n : ℕ) → work_slots (replicate n None) ≡ replicate n None
none_slots zero = refl
none_slots (suc n) = ap (λ ss. None ∷ ss) (none_slots n)

pub none_length : (n : ℕ) → length (replicate {A = Option Busy} n None) ≡ n
none_length zero = refl
none_length (suc n) = ap suc (none_length n)

pub rows_length : (n : ℕ) (rows : RegionRows) → length (replicate n rows) ≡ n
rows_length zero rows = refl
rows_length (suc n) rows = ap suc (rows_length n rows)

pub below_none : (n place : ℕ) → ◌≡◌ {A = Option (Option Busy)} (slice_get (replicate n None) place) (Some None) → place < n
below_none zero place e = cc
below_none (suc n) zero e = omega arith
below_none (suc n) (suc place) e = let rest = below_none n place e in omega (arith, rest)

get_rows : (n place : ℕ) (rows d : RegionRows) → place < n → get_or (replicate n rows) place d ≡ rows
get_rows zero place rows d h = absurd (omega (arith, h))
get_rows (suc n) zero rows d h = refl
get_rows (suc n) (suc place) rows d h = get_rows n place rows d (omega (arith, h))

-- a region of a fresh control region has changed nothing
pub clean_first : (databases : DatabasesState) (n place : ℕ) → databases.regions ≡ replicate n (clean_region (committed_rows databases)) → place < n → IsClean (place + 1) databases
clean_first databases n place e below = record { sees = ap (λ r. r.rows) here; changed = ap (λ r. r.changed) here }
  where
    same : place + 1 - 1 ≡ place
    same = omega arith

    here : region_at (place + 1) databases ≡ clean_region (committed_rows databases)
    here = ap (λ (p : ℕ). get_or databases.regions p no_rows) same ∙ ap (λ (rs : List RegionRows). get_or rs place no_rows) e
        ∙ get_rows n place (clean_region (committed_rows databases)) no_rows below

states_length : (all : List Code) → length (map codes.first_state all) ≡ length all
states_length [] = refl
states_length (code ∷ all) = ap suc (states_length all)

first_settings : (all : List Code) → settings_of (map codes.first_state all) ≡ map first_setting all
first_settings [] = refl
first_settings (code ∷ all) = ap (λ ss. first_setting code ∷ ss) (first_settings all)

first_flags : (all : List Code) → flags_of (map codes.first_state all) ≡ map (λ _. false) all
first_flags [] = refl
first_flags (code ∷ all) = ap (λ ss. false ∷ ss) (first_flags all)

none_raised : (all : List Code) → raised_now (λ _. 0) all (map (λ _. false) all) ≡ map (λ _. false) all
none_raised [] = refl
none_raised (code ∷ all) = ap (λ bs. false ∷ bs) (none_raised all)

fresh_names : (terminals : List (List ℕ)) → map (λ t. t.name) (map fresh_terminal_state terminals) ≡ terminals
fresh_names [] = refl
fresh_names (name ∷ terminals) = ap (λ ns. name ∷ ns) (fresh_names terminals)

conversing_names : (terminals : List (List ℕ)) → map (λ t. t.terminal) (map without_conversation terminals) ≡ terminals
conversing_names [] = refl
conversing_names (name ∷ terminals) = ap (λ ns. name ∷ ns) (conversing_names terminals)

no_pads : (system : System) (terminals : List (List ℕ)) → AllByRecursion (λ t. IfSome t.conversation (IsConversationOf system)) (map without_conversation terminals)
no_pads system [] = tt
no_pads system (name ∷ terminals) = (tt, no_pads system terminals)

pub parts_start : (system : System) (tables : TablesState) (states : List CodeState) (regions : List (Option Busy))
    → IsSystem system → tables.queues ≡ record { limit = system.qbytes; queued = [] } → lasting_of (map first_setting system.codes) tables ≡ empty_state system
    → regions ≡ replicate (length system.regions) None → states ≡ map codes.first_state system.codes
    → dbds_of tables.databases ≡ system.databases → tables.databases.regions ≡ replicate (length system.regions) (clean_region (committed_rows tables.databases))
    → tables.databases.table ≡ empty_table (length system.regions) → AreRowsOf (dbds_of tables.databases) (committed_rows tables.databases)
    → AreParts system tables states regions
parts_start system tables states regions valid queues lasting empty first dbds clean table rows = record {
  valid = valid;
  limit = ap (λ q. q.limit) queues;
  names = ap (λ l. map (λ t. t.name) l.terminals) lasting ∙ fresh_names system.terminals;
  regions_are = ap length empty ∙ none_length (length system.regions);
  states_are = ap length first ∙ states_length system.codes;
  settled = rw first (rw (ap (λ q. q.queued) queues) (rw (first_flags system.codes) (none_raised system.codes)));
  told = rw (ap (λ q. q.queued) queues) tt;
  at_work = λ place busy e. absurd (none_busy (length system.regions) place busy (sym (ap (λ rs. slice_get rs place) empty) ∙ e));
  conversations = record {
    names = ap (λ l. map (λ t. t.terminal) l.conversations) lasting ∙ conversing_names system.terminals;
    pads = subst (AllByRecursion (λ t. IfSome t.conversation (IsConversationOf system))) (sym (ap (λ l. l.conversations) lasting)) (no_pads system system.terminals);
    belong = rw (ap (λ q. q.queued) queues) tt;
    alone = rw (ap (λ q. q.queued) queues) tt;
  };
  databases = record { stores = dbds; rows = rows; regions = ap length clean ∙ rows_length (length system.regions) (clean_region (committed_rows tables.databases)); table = ap (λ t. t.regions) table };
  idle = λ place e. record {
    clean = clean_first tables.databases (length system.regions) place clean (below_none (length system.regions) place (sym (ap (λ rs. slice_get rs place) empty) ∙ e));
    waits = ap (wait_of (place + 1)) table;
  };
}

pub moment_start : (system : System) (tables : TablesState) (states : List CodeState) (regions : List (Option Busy)) → AreParts system tables states regions
    → lasting_of (map first_setting system.codes) tables ≡ empty_state system → regions ≡ replicate (length system.regions) None → states ≡ map codes.first_state system.codes
    → tables.databases.table ≡ empty_table (length system.regions)
    → record { lasting = lasting_of (settings_of states) tables; slots = work_slots regions; enqueues = tables.databases.table; raised = flags_of states } ≡ start_of system (empty_state system)
moment_start system tables states regions parts lasting empty first table =
    moment_stays system tables states regions parts
    ∙ ap (λ l. moment_with system l (work_slots regions) tables.databases.table (flags_of states)) (ap (λ ss. lasting_of ss tables) (ap settings_of first ∙ first_settings system.codes) ∙ lasting)
    ∙ ap (λ ss. moment_with system (empty_state system) ss tables.databases.table (flags_of states)) (ap work_slots empty ∙ none_slots (length system.regions))
    ∙ ap (λ t. moment_with system (empty_state system) (replicate (length system.regions) None) t (flags_of states)) table
    ∙ ap (moment_with system (empty_state system) (replicate (length system.regions) None) (empty_table (length system.regions))) (ap flags_of first ∙ first_flags system.codes)

-- ---- an input comes
names_kept : (terminals : List TerminalState) (place : Option ℕ) (number : ℕ) → map (λ t. t.name) (change_at terminals place (with_last_number number)) ≡ map (λ t. t.name) terminals
names_kept terminals None number = refl
names_kept terminals (Some place) number = at terminals place
  where
    at : (ts : List TerminalState) (p : ℕ) → map (λ t. t.name) (change_at ts (Some p) (with_last_number number)) ≡ map (λ t. t.name) ts
    at [] p = refl
    at (t ∷ ts) zero = refl
    at (t ∷ ts) (suc p) = by (slice_get ts p) (at ts p)
      where
        by : (found : Option TerminalState) → map (λ x. x.name) (option_map_or (λ f. slice_set ts p (with_last_number number f)) found ts) ≡ map (λ x. x.name) ts
            → map (λ x. x.name) (option_map_or (λ f. slice_set (t ∷ ts) (suc p) (with_last_number number f)) found (t ∷ ts)) ≡ t.name ∷ map (λ x. x.name) ts
        by (Some f) rest = ap (λ ns. t.name ∷ ns) rest
        by None rest = refl

module _ (system : System) (tables : TablesState) (states : List CodeState) (regions : List (Option Busy)) (terminal : List ℕ) (number : ℕ) (kept : KeptInput)
    (parts : AreParts system tables states regions) (above : IsNewId tables.next_id tables.queues.queued)
    (tables' : TablesState) (is : tables' ≡ enqueued tables terminal number kept) where
  abbrev message_of : Message
  message_of = input_message tables.next_id terminal kept

  abbrev conversations_then : List TerminalConversation
  conversations_then = with_begun terminal kept.begins tables.conversations

  abbrev pub IsJoined : Type 0
  IsJoined = Joined system tables.conversations conversations_then (messages_of tables.queues.queued) message_of

  told_after : AreHoldersTold (work_slots regions) tables'.queues.queued
  told_after = rw is (new_told tables.queues.queued (work_slots regions) message_of (new_free system tables.databases tables.conversations tables.next_id tables.queues.queued regions above parts.at_work) parts.told)

  pub follows_enqueued : (states' : List CodeState) (name : List ℕ) → name ≡ kept.code
      → states' ≡ all_followed system.codes (λ n. free_count n tables'.queues.queued) (name ∷ []) states → IsFollowed system (λ n. free_count n tables'.queues.queued) states states'
  follows_enqueued states' name named follow =
      followed_all system (λ n. free_count n tables.queues.queued) (λ n. free_count n tables'.queues.queued) (name ∷ []) states states' parts.valid parts.states_are parts.settled
      (λ n none. ap (λ t. free_count n t.queues.queued) is
      ∙ count_added n message_of tables.queues.queued (ap (bytes_eq n) (sym named) ∙ (or_none (bytes_eq n name) false none).0)) follow

  pub parts_enqueued : IsJoined → (states' : List CodeState) → IsFollowed system (λ n. free_count n tables'.queues.queued) states states' → AreParts system tables' states' regions
  parts_enqueued joined states' follows = record {
    valid = parts.valid;
    limit = ap (λ t. t.queues.limit) is ∙ parts.limit;
    names = ap (λ t. map (λ n. n.name) t.terminals) is ∙ names_kept tables.terminals (terminal_place tables.terminals terminal) number ∙ parts.names;
    regions_are = parts.regions_are;
    states_are = follows.size ∙ parts.states_are;
    settled = followed_settled system (λ n. free_count n tables'.queues.queued) states states' follows;
    told = told_after;
    at_work = rw is (new_at_work system tables.databases tables.conversations conversations_then tables.queues.queued regions message_of joined.given parts.at_work);
    conversations = rw is (subst (AreConversations system conversations_then) (sym (messages_both tables.queues.queued (message_of ∷ []))) joined.are);
    databases = rw is parts.databases;
    idle = rw is parts.idle;
  }

  abbrev lasting_now : LastingState
  lasting_now = lasting_of (settings_of states) tables

  abbrev now : Moment
  now = record { lasting = lasting_now; slots = work_slots regions; enqueues = tables.databases.table; raised = flags_of states }

  pub moment_enqueued : (segments : List (List ℕ)) (states' : List CodeState) (id : ℕ) → kept ≡ kept_input system lasting_now terminal segments
      → IsFollowed system (λ n. free_count n tables'.queues.queued) states states'
      → lasting_of (settings_of states) tables' ≡ applied (Accepts terminal number kept) lasting_now
      → Ok (New id) ≡ input_answer system now terminal number segments
      → record { lasting = lasting_of (settings_of states') tables'; slots = work_slots regions; enqueues = tables'.databases.table; raised = flags_of states' }
      ≡ After system now (Input terminal number segments) []
  moment_enqueued segments states' id kept_is follows applies answer =
      moment_is system (applied (Accepts terminal number kept) lasting_now) (work_slots regions) tables' states states' regions tables.databases.table follows told_after applies refl (ap (λ t. t.databases.table) is)
      ∙ ap (λ a. moment_with system (option_map_or (λ s. applied s lasting_now) (accepted_step terminal number kept a) lasting_now) (work_slots regions) tables.databases.table (flags_of states)) answer
      ∙ ap (λ k. moment_with system (option_map_or (λ s. applied s lasting_now) (accepted_step terminal number k (input_answer system now terminal number segments)) lasting_now) (work_slots regions) tables.databases.table (flags_of states)) kept_is

-- an input that isn't new leaves the moment
pub moment_refused : (system : System) (tables : TablesState) (states : List CodeState) (regions : List (Option Busy)) (terminal : List ℕ) (number : ℕ) (segments : List (List ℕ))
    (answer : Result Taken InputRefused) → AreParts system tables states regions → accepted_step terminal number (kept_input system (lasting_of (settings_of states) tables) terminal segments) answer ≡ None
    → answer ≡ input_answer system (record { lasting = lasting_of (settings_of states) tables; slots = work_slots regions; enqueues = tables.databases.table; raised = flags_of states }) terminal number segments
    → record { lasting = lasting_of (settings_of states) tables; slots = work_slots regions; enqueues = tables.databases.table; raised = flags_of states }
    ≡ After system (record { lasting = lasting_of (settings_of states) tables; slots = work_slots regions; enqueues = tables.databases.table; raised = flags_of states }) (Input terminal number segments) []
moment_refused system tables states regions terminal number segments answer parts none says =
    moment_stays system tables states regions parts
    ∙ ap (λ o. moment_with system (option_map_or (λ s. applied s (lasting_of (settings_of states) tables)) o (lasting_of (settings_of states) tables)) (work_slots regions) tables.databases.table (flags_of states))
    (sym none ∙ ap (accepted_step terminal number (kept_input system (lasting_of (settings_of states) tables) terminal segments)) says)
