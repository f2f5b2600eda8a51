-- An empty region takes a message.
use Rattle.std.proofs.Common.{◌≡◌, ℕ, ◌+◌, ◌-◌, ◌≤◌, ◌<◌, false, List, [], ◌∷◌, map, length, refl, sym, ap, ◌∙◌, subst, arith}
use Rattle.std.proofs.lemmas.Bool.{lt-ltb, le-ltb}
use Rattle.std.specs.Str.{bytes_eq}
use Rattle.std.specs.Prelude.{Option, Some, None, IsSome, IsSomeAnd, if◌then◌else◌, nat_lt, slice_get, slice_set, unwrap_or}
use Rattle.std.specs.Option.{option_map, option_and_then, IfSome}
use Rattle.tm_types.specs.declared.message.Message.{Message}
use Rattle.model_messages.specs.declared.queued.Queued.{Queued}
use Rattle.model_messages.specs.Queue.{queued_at, messages_of, with_holder, free_count}
use Rattle.model_messages.proofs.Laws.{messages_held}
use Rattle.model_system.specs.declared.code_state.CodeState.{CodeState}
use Rattle.model_system.specs.System.{System}
use Rattle.model_system.specs.Codes.{code_at}
use Rattle.model_system.specs.declared.code.Code.{Code}
use Rattle.model_system.specs.declared.system_program.SystemProgram.{SystemProgram}
use Rattle.model_system.specs.Jobs.{Job, job_of, job_by, job_with, program_at}
use Rattle.model_machine.specs.declared.entry.ControlCall.TheVariants.{Turn}
use Rattle.model_machine.specs.declared.entry.Turned.{Turned}
use Rattle.model_machine.specs.declared.entry.Turned.TheVariants.{Scheduled, Idle, Held}
use Rattle.model_machine.specs.Machine.{Moment, Slot, slot_at, raised_now, moment_with}
use Rattle.model_machine.specs.Pick.{Candidate, pick_of}
use Rattle.model_machine.specs.Requests.{BreaksRingsAt, table_after}
use Rattle.tm_machine.specs.Turns.{IsRegionTurned}
use Rattle.model_machine.specs.MachineCalls.{offered_among, pick_now, need_now, schedule_answer, slot_after, turn_by, turn_answer, After}
use Rattle.model_machine.specs.Flags.{all_followed}
use Rattle.model_machine.proofs.Flags.{states_again}
use Rattle.model_machine.proofs.Picks.{pick_same}
use Rattle.tran_pick.specs.RegionPick.{offered_in, IsFirstFree}
use Rattle.tran_pick.proofs.Found.{first_codes}
use Rattle.tran_pick.specs.declared.picked.Pick.{Pick}
use Rattle.lasting_state.specs.Tables.{TablesState, lasting_of, message_held}
use Rattle.region_work.specs.declared.region.Busy.{Busy}
use Rattle.region_work.specs.RegionWork.{given_in, IsWork, calls_made}
use Rattle.tm_machine.specs.Parts.{work_slot, work_slots, settings_of, flags_of, AreHoldersTold, AreAtWork, AreConversations, AreParts}
use Rattle.tm_machine.proofs.Linked.{offered_is, take_told, take_at_work, set_length, set_slots, get_slots}
use Rattle.tm_machine.proofs.Free.{count_held, or_none}
use Rattle.tm_machine.proofs.Conversing.{found_holds}
use Rattle.tm_machine.proofs.Leaving.{moment_is, moment_stays, turn_leaves}
use Rattle.tm_machine.proofs.Raising.{IsFollowed, followed_all}
use Rattle.tm_machine.proofs.Stepped.{slot_is, set_same}
use Rattle.tm_machine.proofs.Others.{idle_taken}

abbrev pub pick_with : Candidate → Pick
pick_with c = record { code = c.code; id = c.id }

none_map : (o : Option Candidate) → None ≡ option_map pick_with o → o ≡ None
none_map None e = refl
none_map (Some c) e = cc

some_map : (o : Option Candidate) (p : Pick) → Some p ≡ option_map pick_with o → IsSomeAnd o (λ c. (c.code ≡ p.code) × (c.id ≡ p.id))
some_map None p e = cc
some_map (Some c) p e = let same : pick_with c ≡ p = cc in (ap (λ q. q.code) same, ap (λ q. q.id) same)

-- a code with a program has a job
job_there : (system : System) (code : Option Code) → IsSome code → IfSome code (λ c. IsSome (program_at system.programs c.psb)) → IsSome (option_and_then (job_by system) code)
job_there system (Some code) there program = by (program_at system.programs code.psb) program
  where
    by : (found : Option SystemProgram) → IsSome found → IsSome (option_map (job_with system code) found)
    by (Some p) h = cc
    by None h = cc
job_there system None there program = cc

-- a region whose slot is empty is empty
pub empty_at : (regions : List (Option Busy)) (place : ℕ) (found : Option Busy) → slice_get regions place ≡ Some found
    → unwrap_or (slice_get (work_slots regions) place) None ≡ None → found ≡ None
empty_at regions place None e empty = refl
empty_at regions place (Some busy) e empty =
    absurd (no-slot (work_slot (Some busy)) refl (sym (ap (λ s. unwrap_or s None) (get_slots regions place ∙ ap (option_map work_slot) e)) ∙ empty))
  where
    no-slot : (s : Option Slot) → s ≡ work_slot (Some busy) → s ≡ None → ⊥
    no-slot s a b = cc

module _ (system : System) (tables : TablesState) (states : List CodeState) (regions : List (Option Busy)) (region : ℕ)
    (parts : AreParts system tables states regions) where
  abbrev pub moment_now : Moment
  moment_now = record { lasting = lasting_of (settings_of states) tables; slots = work_slots regions; enqueues = tables.databases.table; raised = flags_of states }

  pub pick_is : pick_now system moment_now region ≡ pick_of system region states (offered_in tables.queues.queued)
  pick_is =
      ap (λ ss. pick_of system region ss (offered_among (work_slots regions) (messages_of tables.queues.queued))) (states_again states)
      ∙ pick_same system region states (offered_among (work_slots regions) (messages_of tables.queues.queued)) (offered_in tables.queues.queued)
      (offered_is (work_slots regions) tables.queues.queued parts.told)

  pub none_picked : (result : Option Pick) → result ≡ None → result ≡ option_map pick_with (pick_of system region states (offered_in tables.queues.queued))
      → pick_now system moment_now region ≡ None
  none_picked result e value = pick_is ∙ none_map _ (sym e ∙ value)

  pub some_picked : (result : Option Pick) (p : Pick) → result ≡ Some p → result ≡ option_map pick_with (pick_of system region states (offered_in tables.queues.queued))
      → IsSomeAnd (pick_now system moment_now region) (λ c. (c.code ≡ p.code) × (c.id ≡ p.id))
  some_picked result p e value = rw pick_is (some_map _ p (sym e ∙ value))

  -- an empty region's turn, by what is picked
  module _ (empty : slice_get regions (region - 1) ≡ Some None) where
    pub empty_slot : slot_at moment_now region ≡ None
    empty_slot = slot_is system tables states regions region parts None empty

    answers : (picked : Option Candidate) → pick_now system moment_now region ≡ picked → turn_answer system moment_now region [] ≡ schedule_answer picked (need_now moment_now) system.qbytes
    answers picked e = ap (turn_by system moment_now region []) empty_slot ∙ ap (λ p. schedule_answer p (need_now moment_now) system.qbytes) e

    pub idle_answer : pick_now system moment_now region ≡ None → Idle ≡ turn_answer system moment_now region []
    idle_answer e = sym (answers None e)

    by_pick : (p : Pick) → IsSomeAnd (pick_now system moment_now region) (λ c. (c.code ≡ p.code) × (c.id ≡ p.id))
        → turn_answer system moment_now region [] ≡ (if nat_lt system.qbytes (need_now moment_now) then Held (need_now moment_now) system.qbytes else Scheduled p.code p.id)
    by_pick p h = by (pick_now system moment_now region) refl h
      where
        by : (found : Option Candidate) → pick_now system moment_now region ≡ found → IsSomeAnd found (λ c. (c.code ≡ p.code) × (c.id ≡ p.id))
            → turn_answer system moment_now region [] ≡ (if nat_lt system.qbytes (need_now moment_now) then Held (need_now moment_now) system.qbytes else Scheduled p.code p.id)
        by (Some c) e g =
            answers (Some c) e
            ∙ ap (λ n. if nat_lt system.qbytes (need_now moment_now) then Held (need_now moment_now) system.qbytes else Scheduled n c.id) g.0
            ∙ ap (λ n. if nat_lt system.qbytes (need_now moment_now) then Held (need_now moment_now) system.qbytes else Scheduled p.code n) g.1
        by None e g = absurd g

    pub held_answer : (p : Pick) (need limit : ℕ) → IsSomeAnd (pick_now system moment_now region) (λ c. (c.code ≡ p.code) × (c.id ≡ p.id))
        → need ≡ need_now moment_now → limit ≡ system.qbytes → limit < need → Held need limit ≡ turn_answer system moment_now region []
    held_answer p need limit h n l less =
        ap (λ k. Held k limit) n ∙ ap (Held (need_now moment_now)) l
        ∙ sym (by_pick p h ∙ ap (λ b. if b then Held (need_now moment_now) system.qbytes else Scheduled p.code p.id) (lt-ltb system.qbytes (need_now moment_now) (omega (arith, n, l, less))))

    pub scheduled_answer : (p : Pick) (need limit : ℕ) → IsSomeAnd (pick_now system moment_now region) (λ c. (c.code ≡ p.code) × (c.id ≡ p.id))
        → need ≡ need_now moment_now → limit ≡ system.qbytes → need ≤ limit → Scheduled p.code p.id ≡ turn_answer system moment_now region []
    scheduled_answer p need limit h n l fits =
        sym (by_pick p h ∙ ap (λ b. if b then Held (need_now moment_now) system.qbytes else Scheduled p.code p.id) (le-ltb system.qbytes (need_now moment_now) (omega (arith, n, l, fits))))

    -- a region that stays empty
    slots_same : slice_set (work_slots regions) (region - 1) None ≡ work_slots regions
    slots_same = sym (set_slots regions (region - 1) None) ∙ ap work_slots (set_same regions (region - 1) None empty)

    pub stays_empty : (answer : Turned) → answer ≡ turn_answer system moment_now region [] → slot_after answer None ≡ None → table_after answer region tables.databases.table ≡ tables.databases.table → moment_now ≡ After system moment_now (Turn region) []
    stays_empty answer says none same =
        moment_stays system tables states regions parts
        ∙ ap (λ ss. moment_with system moment_now.lasting ss tables.databases.table (flags_of states)) (sym slots_same)
        ∙ ap (λ s. moment_with system moment_now.lasting (slice_set (work_slots regions) (region - 1) s) tables.databases.table (flags_of states)) (sym none)
        ∙ ap (λ t. moment_with system moment_now.lasting (slice_set (work_slots regions) (region - 1) (slot_after answer None)) t (flags_of states)) (sym same)
        ∙ sym (turn_leaves system moment_now region [] None answer None tables.databases.table empty_slot (sym says) refl refl)

    -- nobody gives way where a region is empty
    nobody : BreaksRingsAt system moment_now region [] (slot_at moment_now region)
    nobody = rw empty_slot refl

    pub idle_turned : pick_now system moment_now region ≡ None → IsRegionTurned (record { system = system; moment = moment_now; databases = tables.databases }) (record { system = system; moment = moment_now; databases = tables.databases }) region Idle
    idle_turned e = record { victims = nobody; answer = idle_answer e; after = stays_empty Idle (idle_answer e) refl refl; system = refl }

    pub held_turned : (p : Pick) (need limit : ℕ) → IsSomeAnd (pick_now system moment_now region) (λ c. (c.code ≡ p.code) × (c.id ≡ p.id))
        → need ≡ need_now moment_now → limit ≡ system.qbytes → limit < need
        → IsRegionTurned (record { system = system; moment = moment_now; databases = tables.databases }) (record { system = system; moment = moment_now; databases = tables.databases }) region (Held need limit)
    held_turned p need limit h n l less = record {
      victims = nobody;
      answer = held_answer p need limit h n l less;
      after = stays_empty (Held need limit) (held_answer p need limit h n l less) refl refl;
      system = refl;
    }

  module _ (busy : Busy) (empty : slice_get regions (region - 1) ≡ Some None) (positive : 1 ≤ region) where
    back : region - 1 + 1 ≡ region
    back = omega (arith, positive)

    -- the flags behind the taking, where those of some names followed
    pub told_taken : AreHoldersTold (work_slots (slice_set regions (region - 1) (Some busy))) (with_holder busy.id (Some region) tables.queues.queued)
    told_taken = take_told busy.id region tables.queues.queued regions (region - 1) busy empty refl parts.told

    pub parts_taken : (tables' : TablesState) (states' : List CodeState) → tables' ≡ message_held tables busy.id region
        → IsSomeAnd (queued_at busy.id tables.queues.queued) (λ q. q.holder ≡ None)
        → IsSome (code_at system.codes busy.code) → busy.unit ≡ None → length states' ≡ length states
        → raised_now (λ name. free_count name tables'.queues.queued) system.codes (flags_of states') ≡ flags_of states'
        → AreParts system tables' states' (slice_set regions (region - 1) (Some busy))
    parts_taken tables' states' is free known fresh same settled = record {
      valid = parts.valid;
      limit = ap (λ t. t.queues.limit) is ∙ parts.limit;
      names = ap (λ t. map (λ n. n.name) t.terminals) is ∙ parts.names;
      regions_are = set_length regions (region - 1) (Some busy) ∙ parts.regions_are;
      states_are = same ∙ parts.states_are;
      settled = settled;
      told = rw is told_taken;
      at_work = rw is (by (queued_at busy.id tables.queues.queued) (job_of system busy.code) refl refl free (is_served_by known));
      conversations = rw is (subst (AreConversations system tables.conversations) (sym (messages_held busy.id (Some region) tables.queues.queued)) parts.conversations);
      databases = rw is parts.databases;
      idle = rw is (idle_taken tables.databases regions (region - 1) busy parts.idle);
    }
      where
        is_served_by : IsSome (code_at system.codes busy.code) → IsSome (job_of system busy.code)
        is_served_by there = job_there system (code_at system.codes busy.code) there
            (found_holds (λ code. IsSome (program_at system.programs code.psb)) (λ code. bytes_eq code.transaction.code busy.code) system.codes parts.valid.served)

        by : (found : Option Queued) (job : Option Job) → queued_at busy.id tables.queues.queued ≡ found → job_of system busy.code ≡ job
            → IsSomeAnd found (λ q. q.holder ≡ None) → IsSome job
            → AreAtWork system tables.databases tables.conversations (with_holder busy.id (Some region) tables.queues.queued) (slice_set regions (region - 1) (Some busy))
        by (Some q) (Some job) f g none k =
            let here : queued_at busy.id tables.queues.queued ≡ Some (record { message = q.message; holder = None }) = f ∙ ap (λ h. Some (record { message = q.message; holder = h })) none in
            let work : IsWork system tables.databases (region - 1 + 1) (given_in tables.conversations q.message) busy
            = record { job = job; serves = g; unit = rw fresh (parts.idle (region - 1) empty).clean } in
            subst (λ n. AreAtWork system tables.databases tables.conversations (with_holder busy.id (Some n) tables.queues.queued) (slice_set regions (region - 1) (Some busy))) back
            (take_at_work system tables.databases tables.conversations busy.id tables.queues.queued regions (region - 1) busy q.message empty refl here work parts.at_work)
        by (Some q) None f g none k = cc
        by None job f g none k = absurd none

    -- as many messages of other codes wait
    pub others_wait : (tables' : TablesState) → tables' ≡ message_held tables busy.id region → IsFirstFree tables.queues.queued busy.code busy.id → (name : List ℕ)
        → bytes_eq name busy.code ≡ false → free_count name tables'.queues.queued ≡ free_count name tables.queues.queued
    others_wait tables' is free name other =
        ap (λ t. free_count name t.queues.queued) is
        ∙ count_held name busy.code busy.id (Some region) tables.queues.queued other (first_codes busy.code tables.queues.queued busy.id free.ordered free.first)

    pub follows_taken : (tables' : TablesState) (states' : List CodeState) → tables' ≡ message_held tables busy.id region → IsFirstFree tables.queues.queued busy.code busy.id
        → states' ≡ all_followed system.codes (λ name. free_count name tables'.queues.queued) (busy.code ∷ []) states
        → IsFollowed system (λ name. free_count name tables'.queues.queued) states states'
    follows_taken tables' states' is free follow =
        followed_all system (λ name. free_count name tables.queues.queued) (λ name. free_count name tables'.queues.queued) (busy.code ∷ []) states states' parts.valid parts.states_are parts.settled
        (λ name none. others_wait tables' is free name (or_none (bytes_eq name busy.code) false none).0) follow

    pub moment_taken : (tables' : TablesState) (states' : List CodeState) → tables' ≡ message_held tables busy.id region → busy.taken ≡ 1 → calls_made busy.unit ≡ 0
        → IsFollowed system (λ name. free_count name tables'.queues.queued) states states'
        → Scheduled busy.code busy.id ≡ turn_answer system moment_now region []
        → record { lasting = lasting_of (settings_of states') tables'; slots = work_slots (slice_set regions (region - 1) (Some busy)); enqueues = tables'.databases.table; raised = flags_of states' }
        ≡ After system moment_now (Turn region) []
    moment_taken tables' states' is one none follows says =
        moment_is system moment_now.lasting (slice_set (work_slots regions) (region - 1) (Some (record { code = busy.code; taken = 1; id = busy.id; calls = 0 }))) tables' states states' (slice_set regions (region - 1) (Some busy)) tables.databases.table
        follows (rw is told_taken)
        (ap (lasting_of (settings_of states)) is ∙ ap {A = List Message} (λ ms. record (lasting_of (settings_of states) tables) { messages = ms }) (messages_held busy.id (Some region) tables.queues.queued))
        (set_slots regions (region - 1) (Some busy)
        ∙ ap (λ n. slice_set (work_slots regions) (region - 1) (Some (record { code = busy.code; taken = n; id = busy.id; calls = calls_made busy.unit }))) one
        ∙ ap (λ n. slice_set (work_slots regions) (region - 1) (Some (record { code = busy.code; taken = 1; id = busy.id; calls = n }))) none)
        (ap (λ t. t.databases.table) is)
        ∙ sym (turn_leaves system moment_now region [] None (Scheduled busy.code busy.id) None tables.databases.table (empty_slot empty) (sym says) refl refl)

    pub scheduled_turned : (tables' : TablesState) (states' : List CodeState) → tables' ≡ message_held tables busy.id region → busy.taken ≡ 1 → calls_made busy.unit ≡ 0
        → IsFollowed system (λ name. free_count name tables'.queues.queued) states states'
        → Scheduled busy.code busy.id ≡ turn_answer system moment_now region []
        → IsRegionTurned (record { system = system; moment = moment_now; databases = tables.databases })
        (record { system = system; moment = record { lasting = lasting_of (settings_of states') tables'; slots = work_slots (slice_set regions (region - 1) (Some busy)); enqueues = tables'.databases.table; raised = flags_of states' }; databases = tables'.databases })
        region (Scheduled busy.code busy.id)
    scheduled_turned tables' states' is one none follows says = record {
      victims = nobody empty;
      answer = says;
      after = moment_taken tables' states' is one none follows says;
      system = refl;
    }
