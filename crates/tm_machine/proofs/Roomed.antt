-- An input that is new, but for the room.
use Rattle.std.proofs.Common.{◌≡◌, ℕ, ◌<◌, ◌≤◌, List, [], ◌∷◌, length, refl, sym, ap, ◌∙◌, subst, arith}
use Rattle.std.specs.Prelude.{Option, Some, None, Ok, Err, if◌then◌else◌, nat_lt}
use Rattle.std.specs.Option.{unwrap_or, is_some}
use Rattle.std.specs.List.{count_by}
use Rattle.std.proofs.lemmas.Bool.{lt-ltb, le-ltb}
use Rattle.tm_types.specs.Segment.{counted_bytes}
use Rattle.model_messages.specs.Queue.{IsNewId, free_count, messages_of}
use Rattle.model_messages.specs.Room.{input_needs}
use Rattle.model_system.specs.declared.code_state.CodeState.{CodeState}
use Rattle.model_system.specs.System.{System}
use Rattle.model_machine.specs.declared.entry.Taken.TheVariants.{New}
use Rattle.model_machine.specs.declared.entry.InputRefused.TheVariants.{QueueFull}
use Rattle.model_machine.specs.declared.entry.Entry.TheVariants.{Accept}
use Rattle.model_machine.specs.declared.entry.ControlCall.TheVariants.{Input}
use Rattle.log_records.specs.RecordSpelling.{IsCount}
use Rattle.model_machine.specs.LastingSteps.{KeptInput, input_message, kept_input, with_begun}
use Rattle.model_machine.specs.LastingSteps.LastingStep.{Accepts}
use Rattle.model_machine.specs.MachineCalls.{no_room, input_answer}
use Rattle.lasting_state.specs.Tables.{TablesState, lasting_of, tables_content, tables_input_needs, enqueued, Applies}
use Rattle.region_work.specs.declared.region.Busy.{Busy}
use Rattle.tm_machine.specs.declared.input.NewInput.{NewInput}
use Rattle.tm_machine.specs.Answers.{IsAnswered}
use Rattle.tm_types.specs.Name.{IsName}
use Rattle.tm_machine.specs.declared.input.Way.{Way}
use Rattle.tm_machine.specs.declared.input.Way.TheVariants.{Alone, GoesOn, Begins}
use Rattle.tm_machine.proofs.Joining.{Joined, input_joined, terminal_there}
use Rattle.tm_machine.specs.Inputs.{IsNewInput, kept_so}
use Rattle.tm_machine.specs.Parts.{PartsState, work_slots, settings_of, flags_of, AreParts}
use Rattle.lasting_state.specs.ToldSteps.{TellsStep as TablesTell, WouldTell}
use Rattle.tm_machine.specs.ToldByCall.{IsCallLonger, TellsLastingStep}
use Rattle.tm_machine.proofs.Telling.{accepts_step, longer_step, refused_tells, tells_step}
use Rattle.tm_machine.proofs.Linked.{busy_is}
use Rattle.tm_machine.proofs.Raising.{IsFollowed}
use Rattle.tm_machine.proofs.Started.{moment_enqueued, moment_refused}

module _ (system : System) (tables : TablesState) (states : List CodeState) (regions : List (Option Busy)) (parts : AreParts system tables states regions)
    (terminal : List ℕ) (number : ℕ) (segments : List (List ℕ)) (kept : KeptInput) (kept_is : kept ≡ kept_input system (lasting_of (settings_of states) tables) terminal segments) (input : NewInput) (some : 0 < length segments) (busy : ℕ) (counted : busy ≡ count_by is_some regions) where
  abbrev state_with : TablesState → List CodeState → PartsState
  state_with t ss = record { system = system; moment = record { lasting = lasting_of (settings_of ss) t; slots = work_slots regions; enqueues = t.databases.table; raised = flags_of ss }; databases = t.databases }

  room_is : no_room system (state_with tables states).moment kept.segments
      ≡ (if nat_lt system.qbytes (tables_input_needs tables kept.segments busy) then Some (Err (QueueFull (tables_input_needs tables kept.segments busy) system.qbytes)) else None)
  room_is =
      ap (λ n. if nat_lt system.qbytes (input_needs (tables_content tables) (counted_bytes kept.segments) n) then Some (Err (QueueFull (input_needs (tables_content tables) (counted_bytes kept.segments) n) system.qbytes)) else None)
      (busy_is regions ∙ sym counted)

  -- an input for which there is room is new
  pub new_says : IsNewInput (state_with tables states) terminal number segments input → (id : ℕ) → id ≡ tables.next_id → tables_input_needs tables kept.segments busy ≤ tables.queues.limit
      → Ok (New id) ≡ input_answer system (state_with tables states).moment terminal number segments
  new_says new id same fits =
      ap (λ n. Ok (New n)) same
      ∙ sym (new.answer ∙ ap (λ k. unwrap_or (no_room system (state_with tables states).moment k.segments) (Ok (New tables.next_id))) (sym kept_is)
      ∙ ap (λ r. unwrap_or r (Ok (New tables.next_id))) (room_is
      ∙ ap (λ b. if b then Some (Err (QueueFull (tables_input_needs tables kept.segments busy) system.qbytes)) else None) (le-ltb system.qbytes (tables_input_needs tables kept.segments busy) (subst (λ n. tables_input_needs tables kept.segments busy ≤ n) parts.limit fits))))

  -- and else it is refused
  pub full_says : IsNewInput (state_with tables states) terminal number segments input → (need limit : ℕ) → need ≡ tables_input_needs tables kept.segments busy → limit ≡ tables.queues.limit
      → limit < need → Err (QueueFull need limit) ≡ input_answer system (state_with tables states).moment terminal number segments
  full_says new need limit n l less =
      ap (λ k. Err (QueueFull k limit)) n ∙ ap (λ k. Err (QueueFull (tables_input_needs tables kept.segments busy) k)) (l ∙ parts.limit)
      ∙ sym (new.answer ∙ ap (λ k. unwrap_or (no_room system (state_with tables states).moment k.segments) (Ok (New tables.next_id))) (sym kept_is)
      ∙ ap (λ r. unwrap_or r (Ok (New tables.next_id))) (room_is
      ∙ ap (λ b. if b then Some (Err (QueueFull (tables_input_needs tables kept.segments busy) system.qbytes)) else None)
      (lt-ltb system.qbytes (tables_input_needs tables kept.segments busy) (subst (λ k. k < tables_input_needs tables kept.segments busy) (l ∙ parts.limit) (subst (λ k. limit < k) n less)))))

  pub new_answer : IsNewInput (state_with tables states) terminal number segments input → IsNewId tables.next_id tables.queues.queued → (tables' : TablesState) (states' : List CodeState) (id : ℕ) → id ≡ tables.next_id
      → tables_input_needs tables kept.segments busy ≤ tables.queues.limit → tables' ≡ enqueued tables terminal number kept → Applies (Accepts terminal number kept) tables tables'
      → IsFollowed system (λ n. free_count n tables'.queues.queued) states states'
      → IsAnswered (state_with tables states) (state_with tables' states') (Accept terminal number segments (Ok (New id)))
  new_answer new above tables' states' id same fits is applies follows = record {
    may = record { call = some; victims = refl; answer = ap (Accept terminal number segments) (new_says new id same fits) };
    after = moment_enqueued system tables states regions terminal number kept parts above tables' is segments states' id kept_is follows (applies (settings_of states)) (new_says new id same fits);
    system = refl;
  }

  pub full_answer : IsNewInput (state_with tables states) terminal number segments input → (tables' : TablesState) (need limit : ℕ) → need ≡ tables_input_needs tables kept.segments busy → limit ≡ tables.queues.limit
      → limit < need → tables' ≡ tables → IsAnswered (state_with tables states) (state_with tables' states) (Accept terminal number segments (Err (QueueFull need limit)))
  full_answer new tables' need limit n l less stays = record {
    may = record { call = some; victims = refl; answer = ap (Accept terminal number segments) (full_says new need limit n l less) };
    after = ap (λ t. (state_with t states).moment) stays ∙ moment_refused system tables states regions terminal number segments (Err (QueueFull need limit)) parts refl (full_says new need limit n l less);
    system = refl;
  }

  -- what an input that is new tells, and that it doesn't fit
  module _ (new : IsNewInput (state_with tables states) terminal number segments input) (room : ℕ) where
    pub new_tells : (id : ℕ) → id ≡ tables.next_id → tables_input_needs tables kept.segments busy ≤ tables.queues.limit → (before after : List ℕ)
        → TablesTell 0 room (Accepts terminal number kept) tables before after → TellsLastingStep system (state_with tables states).moment 0 room (Input terminal number segments) before after
    new_tells id same fits before after h =
        tells_step system (state_with tables states).moment 0 room (Input terminal number segments) (Accepts terminal number kept) tables (settings_of states) refl
        (accepts_step system (state_with tables states).moment terminal number segments kept id kept_is (new_says new id same fits)) before after h

    pub new_longer : WouldTell tables terminal number kept busy room → IsCallLonger system (state_with tables states).moment 0 room (Input terminal number segments)
    new_longer would =
        longer_step system (state_with tables states).moment 0 room (Input terminal number segments) (Accepts terminal number kept) tables (settings_of states) refl
        (accepts_step system (state_with tables states).moment terminal number segments kept tables.next_id kept_is (new_says new tables.next_id refl would.fits)) would.longer

    pub full_tells : (need limit : ℕ) → need ≡ tables_input_needs tables kept.segments busy → limit ≡ tables.queues.limit → limit < need → (before after : List ℕ) → after ≡ before
        → TellsLastingStep system (state_with tables states).moment 0 room (Input terminal number segments) before after
    full_tells need limit n l less before after stays =
        subst (TellsLastingStep system (state_with tables states).moment 0 room (Input terminal number segments) before) (sym stays)
        (refused_tells system (state_with tables states).moment room terminal number segments before (Err (QueueFull need limit)) (full_says new need limit n l less))

-- the segments of an input as it is kept are as many as before
kept_many : (way : Way) (code : List ℕ) (segments : List (List ℕ)) → length (kept_so way code segments).segments ≡ length segments
kept_many Alone code segments = refl
kept_many GoesOn code segments = refl
kept_many (Begins pad) code [] = refl
kept_many (Begins pad) code (segment ∷ segments) = refl

pub kept_counts : (input : NewInput) (segments : List (List ℕ)) (kept : KeptInput) → kept ≡ kept_so input.way input.code segments → 0 < length segments → length segments ≤ 16 → IsCount kept.segments
kept_counts input segments kept is some few =
    let many : length kept.segments ≡ length segments = ap (λ k. length k.segments) is ∙ kept_many input.way input.code segments in
    (omega (arith, many, some), omega (arith, many, few))

-- ---- the conversations with a new input
kept_code : (way : Way) (code : List ℕ) (segments : List (List ℕ)) → (kept_so way code segments).code ≡ code
kept_code Alone code segments = refl
kept_code GoesOn code segments = refl
kept_code (Begins pad) code segments = refl

module _ (system : System) (tables : TablesState) (states : List CodeState) (regions : List (Option Busy)) (parts : AreParts system tables states regions)
    (terminal : List ℕ) (number : ℕ) (segments : List (List ℕ)) (input : NewInput) (kept : KeptInput)
    (new : IsNewInput (record { system = system; moment = record { lasting = lasting_of (settings_of states) tables; slots = work_slots regions; enqueues = tables.databases.table; raised = flags_of states }; databases = tables.databases }) terminal number segments input)
    (is : kept ≡ kept_so input.way input.code segments) where
  pub kept_here : kept ≡ kept_input system (lasting_of (settings_of states) tables) terminal segments
  kept_here = is ∙ new.kept

  pub code_here : kept.code ≡ input.code
  code_here = ap (λ k. k.code) is ∙ kept_code input.way input.code segments

  pub joined_here : Joined system tables.conversations (with_begun terminal kept.begins tables.conversations) (messages_of tables.queues.queued) (input_message tables.next_id terminal kept)
  joined_here =
      input_joined system parts.valid tables.conversations (messages_of tables.queues.queued) parts.conversations terminal tables.next_id
      (terminal_there tables.terminals tables.conversations terminal input.place (parts.names ∙ sym parts.conversations.names) new.place new.within)
      segments kept kept_here new.free (subst IsName (sym code_here) new.named)
