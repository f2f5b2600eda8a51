-- A control region that goes on with what lasts.
use Rattle.std.proofs.Common.{◌≡◌, ℕ, zero, suc, ◌+◌, ◌-◌, ◌≤◌, Bool, true, false, not, List, [], ◌∷◌, map, take, drop, length, replicate, refl, sym, ap, ◌∙◌, subst, arith, ◌&&◌, ◌||◌}
use Rattle.std.specs.Prelude.{Option, Some, None, IfSome, IsSomeAnd, slice_get, if◌then◌else◌, ◌==◌, nat_lt}
use Rattle.std.specs.Option.{option_map_or}
use Rattle.std.specs.List.{AllByRecursion, list_all, list_any}
use Rattle.std.specs.Str.{bytes_eq}
use Rattle.std.proofs.lemmas.Bool.{false≢true, and_parts, eqb-true, ltb-true}
use Rattle.std.proofs.lemmas.List.{length-map, take-append-drop}
use Rattle.std.proofs.lemmas.Slice.Eq.{bytes_eq-Decides}
use Rattle.tm_types.specs.Name.{IsName}
use Rattle.tm_types.specs.Segment.{is_printable}
use Rattle.tm_types.specs.declared.message.Message.{Message}
use Rattle.model_messages.specs.declared.conversation.Conversation.{Conversation}
use Rattle.model_messages.specs.declared.conversation.TerminalConversation.{TerminalConversation}
use Rattle.model_messages.specs.Pads.{code_field}
use Rattle.model_messages.specs.Terminals.{conversation_at}
use Rattle.model_messages.specs.ConversationInput.{is_conversing}
use Rattle.model_messages.specs.Queue.{IsNewId, free_count, messages_of}
use Rattle.model_system.specs.declared.code.Code.{Code}
use Rattle.model_system.specs.Codes.{code_at}
use Rattle.model_system.specs.System.{System}
use Rattle.model_machine.specs.declared.lasting.CodeSetting.{CodeSetting}
use Rattle.model_machine.specs.declared.lasting.TerminalState.{TerminalState}
use Rattle.model_machine.specs.Machine.{LastingState, Slot, is_held, raised_now, states_by, start_of, waiting_now}
use Rattle.model_machine.proofs.Flags.{now_twice, now_same}
use Rattle.model_data.specs.Table.{empty_table, wait_of}
use Rattle.model_image.specs.States.{ascend_below, are_alone, breaks_a_rule, has_right_pad, is_conversation, is_message_known, is_of_conversation, is_system_terminal, is_system_code, is_pad_of, has_no_pad, is_next, is_small, is_setting, wrong_ids, wrong_values, unknown_messages, wrong_replies, over_full}
use Rattle.checkpointing.specs.SnapshotRecords.{IsOfSystem}
use Rattle.system_types.specs.ValidSystem.{IsSystem}
use Rattle.openings.specs.OpeningParts.{OpeningParts, AreOpeningParts, waiting_message}
use Rattle.program_rows.specs.DatabasesState.{DatabasesState, AreRowsOf, clean_region, committed_rows, dbds_of, rows_of_stores}
use Rattle.lasting_state.specs.Tables.{TablesState, lasting_of}
use Rattle.lasting_changes.proofs.Abended.{both, name_prints}
use Rattle.region_work.specs.declared.region.Busy.{Busy}
use Rattle.tm_machine.specs.Parts.{work_slot, work_slots, settings_of, flags_of, AreHoldersTold, AreAlone, AreOfOtherConversations, AreParts, IsConversationOf, IsOfConversation}
use Rattle.tm_machine.proofs.Joining.{field_is, blanks_print}
use Rattle.tm_machine.proofs.Linked.{free_count_is}
use Rattle.tm_machine.proofs.Started.{none_busy, none_slots, none_length, rows_length, below_none, clean_first}

-- ---- what the rules say
no_rule : true ≡ false → ⊥
no_rule e = cc

not_broken : (b : Bool) → not b ≡ false → b ≡ true
not_broken true e = refl
not_broken false e = absurd (no_rule e)

not_true : (b : Bool) → not b ≡ true → b ≡ false
not_true true e = sym e
not_true false e = refl

three : (a b c d e : Bool) → (a || b || c || d || e) ≡ false → (a ≡ false) × (b ≡ false) × (c ≡ false)
three false false false d e h = (refl, refl, refl)
three true b c d e h = absurd (no_rule h)
three false true c d e h = absurd (no_rule h)
three false false true d e h = absurd (no_rule h)

last_of : (a b c d e f : Bool) → not (a && b && c && d && e && f) ≡ false → f ≡ true
last_of true true true true true f h = not_broken f h
last_of false b c d e f h = absurd (no_rule h)
last_of true false c d e f h = absurd (no_rule h)
last_of true true false d e f h = absurd (no_rule h)
last_of true true true false e f h = absurd (no_rule h)
last_of true true true true false f h = absurd (no_rule h)

all_below : (next : ℕ) (ms : List Message) → ascend_below next ms ≡ true → IsNewId next (map waiting_message ms)
all_below next [] h = tt
all_below next (m ∷ []) h = (ltb-true m.id next h, tt)
all_below next (m ∷ later ∷ ms) h =
    let p = and_parts (nat_lt m.id later.id) (ascend_below next (later ∷ ms)) h in
    let rest = all_below next (later ∷ ms) p.1 in
    let less = ltb-true m.id later.id p.0 in
    (omega (arith, less, rest.0), rest)

-- ---- the conversations
module _ (system : System) (names : AllByRecursion (λ code. IsName code.transaction.code) system.codes) where
  named : (codes : List Code) → AllByRecursion (λ code. IsName code.transaction.code) codes → (name : List ℕ) (code : Code) → code_at codes name ≡ Some code → IsName name
  named [] h name code e = cc
  named (c ∷ codes) h name code e = by (bytes_eq c.transaction.code name) refl (named codes h.1 name code)
    where
      by : (b : Bool) → bytes_eq c.transaction.code name ≡ b → (code_at codes name ≡ Some code → IsName name) → IsName name
      by true q rest = subst IsName ((bytes_eq-Decides c.transaction.code name).0 q) h.0
      by false q rest = rest (sym (ap (λ b. if b then Some c else code_at codes name) q) ∙ e)

  field_prints : (code : List ℕ) → IsName code → list_all is_printable (code_field code) ≡ true
  field_prints code is =
      subst (λ f. list_all is_printable f ≡ true) (sym (field_is code is)) (both code (replicate (8 - length code) 32) (name_prints code is.2) (blanks_print (8 - length code)))

  right : (c : Conversation) → is_conversation system c ≡ true → IsConversationOf system c
  right c h = by (code_at system.codes c.code) refl
    where
      by : (o : Option Code) → code_at system.codes c.code ≡ o → IsConversationOf system c
      by None q = absurd (false≢true (sym (ap (λ o. option_map_or (λ (code : Code). is_pad_of code.transaction.scratch_pad c) o false) q) ∙ h))
      by (Some code) q =
          let pad : is_pad_of code.transaction.scratch_pad c ≡ true = sym (ap (λ o. option_map_or (λ (code : Code). is_pad_of code.transaction.scratch_pad c) o false) q) ∙ h in
          let three_of = and_parts (not (code.transaction.scratch_pad == 0) && (length c.pad + 6 == code.transaction.scratch_pad) && bytes_eq (take 8 c.pad) (code_field c.code)) (list_all is_printable (drop 8 c.pad)) pad in
          let two_of = and_parts (not (code.transaction.scratch_pad == 0) && (length c.pad + 6 == code.transaction.scratch_pad)) (bytes_eq (take 8 c.pad) (code_field c.code)) three_of.0 in
          let one_of = and_parts (not (code.transaction.scratch_pad == 0)) (length c.pad + 6 == code.transaction.scratch_pad) two_of.0 in
          let front : take 8 c.pad ≡ code_field c.code = (bytes_eq-Decides (take 8 c.pad) (code_field c.code)).0 two_of.1 in
          let size : length c.pad + 6 ≡ code.transaction.scratch_pad = eqb-true (length c.pad + 6) code.transaction.scratch_pad one_of.1 in
          record {
            size = subst (λ o. IsSomeAnd o (λ code. (1 ≤ code.transaction.scratch_pad) × (length c.pad + 6 ≡ code.transaction.scratch_pad))) (sym q) (omega (arith, size), size);
            front = front;
            prints =
                subst (λ p. list_all is_printable p ≡ true) (take-append-drop 8 c.pad)
                (both (take 8 c.pad) (drop 8 c.pad) (subst (λ f. list_all is_printable f ≡ true) (sym front) (field_prints c.code (named system.codes names c.code code q))) three_of.1);
          }

  pads : (ts : List TerminalConversation) → list_all (has_right_pad system) ts ≡ true → AllByRecursion (λ t. IfSome t.conversation (IsConversationOf system)) ts
  pads [] h = tt
  pads (t ∷ ts) h = let p = and_parts (has_right_pad system t) (list_all (has_right_pad system) ts) h in (by t.conversation p.0, pads ts p.1)
    where
      by : (o : Option Conversation) → option_map_or (is_conversation system) o true ≡ true → IfSome o (IsConversationOf system)
      by None e = tt
      by (Some c) e = right c e

belongs : (system : System) (lasting : LastingState) (ms : List Message) → list_all (is_message_known system lasting) ms ≡ true → AllByRecursion (IsOfConversation lasting.conversations) ms
belongs system lasting [] h = tt
belongs system lasting (m ∷ ms) h = let p = and_parts (is_message_known system lasting m) (list_all (is_message_known system lasting) ms) h in (one p.0, belongs system lasting ms p.1)
  where
    one : is_message_known system lasting m ≡ true → IsOfConversation lasting.conversations m
    one k belonging =
        let a = and_parts (is_system_terminal system m.origin && is_system_code system m.code) (if m.conversation then is_of_conversation lasting m else has_no_pad system m) k in
        let c : is_of_conversation lasting m ≡ true = sym (ap (λ t. if t then is_of_conversation lasting m else has_no_pad system m) belonging) ∙ a.1 in
        subst (λ t. IsSomeAnd (if t then conversation_at m.origin lasting.conversations else None) (λ (x : Conversation). x.code ≡ m.code)) (sym belonging)
        (by (conversation_at m.origin lasting.conversations) c)
      where
        by : (o : Option Conversation) → option_map_or (λ (x : Conversation). bytes_eq x.code m.code) o false ≡ true → IsSomeAnd o (λ x. x.code ≡ m.code)
        by None e = absurd (false≢true e)
        by (Some x) e = (bytes_eq-Decides x.code m.code).0 e

alone : (ms : List Message) → are_alone ms ≡ true → AreAlone ms
alone [] h = tt
alone (m ∷ ms) h =
    let p = and_parts (not (m.conversation && list_any (is_conversing m.origin) ms)) (are_alone ms) h in
    (apart ms (not_true (m.conversation && list_any (is_conversing m.origin) ms) p.0), alone ms p.1)
  where
    apart : (others : List Message) → (m.conversation && list_any (is_conversing m.origin) others) ≡ false → AllByRecursion (AreOfOtherConversations m) others
    apart [] e = tt
    apart (o ∷ others) e = (one, apart others rest)
      where
        rest : (m.conversation && list_any (is_conversing m.origin) others) ≡ false
        rest = by m.conversation (is_conversing m.origin o) (list_any (is_conversing m.origin) others) e
          where
            by : (a b c : Bool) → (a && (b || c)) ≡ false → (a && c) ≡ false
            by false b c q = refl
            by true false c q = q
            by true true c q = absurd (no_rule q)

        one : AreOfOtherConversations m o
        one mine its same =
            no_rule (sym (both_true m.conversation (is_conversing m.origin o) (list_any (is_conversing m.origin) others) mine
            (and_true (bytes_eq o.origin m.origin) o.conversation ((bytes_eq-Decides o.origin m.origin).1 same) its)) ∙ e)
          where
            and_true : (a b : Bool) → a ≡ true → b ≡ true → (a && b) ≡ true
            and_true a b p q = λ i. p i && q i

            both_true : (a b c : Bool) → a ≡ true → b ≡ true → (a && (b || c)) ≡ true
            both_true a b c p q = λ i. p i && (q i || c)

-- ---- the flags
flags_by : (settings : List CodeSetting) (flags : List Bool) → length settings ≡ length flags → flags_of (states_by settings flags) ≡ flags
flags_by [] [] e = refl
flags_by [] (f ∷ flags) e = absurd (omega (arith, e))
flags_by (s ∷ settings) [] e = absurd (omega (arith, e))
flags_by (s ∷ settings) (f ∷ flags) e = ap (λ fs. f ∷ fs) (flags_by settings flags (omega (arith, e)))

settings_by : (settings : List CodeSetting) (flags : List Bool) → length settings ≡ length flags → settings_of (states_by settings flags) ≡ settings
settings_by [] flags e = refl
settings_by (s ∷ settings) [] e = absurd (omega (arith, e))
settings_by (s ∷ settings) (f ∷ flags) e = ap (λ ss. s ∷ ss) (settings_by settings flags (omega (arith, e)))

count_by_flags : (settings : List CodeSetting) (flags : List Bool) → length settings ≡ length flags → length (states_by settings flags) ≡ length flags
count_by_flags [] [] e = refl
count_by_flags [] (f ∷ flags) e = absurd (omega (arith, e))
count_by_flags (s ∷ settings) [] e = absurd (omega (arith, e))
count_by_flags (s ∷ settings) (f ∷ flags) e = let rest = count_by_flags settings flags (omega (arith, e)) in omega (arith, rest)

raised_count : (w : List ℕ → ℕ) (codes : List Code) → length (raised_now w codes (map (λ _. false) codes)) ≡ length codes
raised_count w [] = refl
raised_count w (c ∷ codes) = let rest = raised_count w codes in omega (arith, rest)

none_held : (n id : ℕ) → is_held (replicate n None) id ≡ false
none_held zero id = refl
none_held (suc n) id = none_held n id

waiting_messages : (ms : List Message) → messages_of (map waiting_message ms) ≡ ms
waiting_messages [] = refl
waiting_messages (m ∷ ms) = ap (λ l. m ∷ l) (waiting_messages ms)

told_none : (slots : List (Option Slot)) → ((id : ℕ) → is_held slots id ≡ false) → (ms : List Message) → AreHoldersTold slots (map waiting_message ms)
told_none slots none [] = tt
told_none slots none (m ∷ ms) = (none m.id, told_none slots none ms)

abbrev rest_of : List (Option Slot) → List (Option Slot)
rest_of [] = []
rest_of (s ∷ slots) = slots

pub all_empty : (n : ℕ) (regions : List (Option Busy)) → work_slots regions ≡ replicate n None → regions ≡ replicate n None
all_empty zero [] e = refl
all_empty zero (r ∷ regions) e = cc
all_empty (suc n) [] e = cc
all_empty (suc n) (None ∷ regions) e = ap (λ rs. None ∷ rs) (all_empty n regions (ap rest_of e))
all_empty (suc n) (Some busy ∷ regions) e = absurd (clash (ap (λ l. slice_get l 0) e))
  where
    clash : ◌≡◌ {A = Option (Option Slot)} (Some (work_slot (Some busy))) (Some None) → ⊥
    clash q = cc

module _ (system : System) (state : LastingState) (p : OpeningParts) (a : AreOpeningParts system state p) (rules : breaks_a_rule system state ≡ false) where
  parts_of : (wrong_values system state ≡ false) × (wrong_ids state ≡ false) × (unknown_messages system state ≡ false)
  parts_of = three (wrong_values system state) (wrong_ids state) (unknown_messages system state) (wrong_replies state) (over_full system state) rules

  right_pads : list_all (has_right_pad system) state.conversations ≡ true
  right_pads =
      last_of (is_next state.next_id) (is_small state.steps) (list_all (λ terminal. is_small terminal.last) state.terminals) (list_all (λ terminal. is_next terminal.next) state.outputs)
      (list_all is_setting state.codes) (list_all (has_right_pad system) state.conversations) parts_of.0

  known : (list_all (is_message_known system state) state.messages ≡ true) × (are_alone state.messages ≡ true)
  known = and_parts (list_all (is_message_known system state) state.messages) (are_alone state.messages) (not_broken (list_all (is_message_known system state) state.messages && are_alone state.messages) parts_of.2)

  pub new_id : IsNewId p.next_id p.queues.queued
  new_id =
      subst (λ n. IsNewId n p.queues.queued) (sym a.next_id) (subst (λ q. IsNewId state.next_id q) (sym (ap (λ q. q.queued) a.queues)) (all_below state.next_id state.messages (not_broken (ascend_below state.next_id state.messages) parts_of.1)))

  messages_are : messages_of p.queues.queued ≡ state.messages
  messages_are = ap (λ q. messages_of q.queued) a.queues ∙ waiting_messages state.messages

module _ (system : System) (state : LastingState) (p : OpeningParts) (d : DatabasesState) (regions : List (Option Busy)) (a : AreOpeningParts system state p)
    (rules : breaks_a_rule system state ≡ false) (of : IsOfSystem system state) (valid : IsSystem system) (all_named : AllByRecursion (λ code. IsName code.transaction.code) system.codes)
    (empty : regions ≡ replicate (length system.regions) None) (stores : d.stores ≡ p.stores.stores) (committed : d.committed ≡ p.stores.stores)
    (clean : d.regions ≡ replicate (length system.regions) (clean_region (rows_of_stores p.stores.stores))) (table : d.table ≡ empty_table (length system.regions))
    (rows : AreRowsOf (dbds_of d) (committed_rows d)) where
  abbrev tables : TablesState
  tables = record { databases = d; queues = p.queues; next_id = p.next_id; terminals = p.terminals; outputs = p.outputs; conversations = p.conversations; steps = p.steps }

  count : length state.codes ≡ length system.codes
  count = sym (length-map state.codes (λ (c : CodeSetting). c.code)) ∙ ap length of.codes ∙ length-map system.codes (λ (c : Code). c.transaction.code)

  abbrev slots : List (Option Slot)
  slots = replicate (length system.regions) None

  abbrev flags : List Bool
  flags = raised_now (waiting_now state slots) system.codes (map (λ _. false) system.codes)

  fit : length state.codes ≡ length flags
  fit = count ∙ sym (raised_count (waiting_now state slots) system.codes)

  flags_are : flags_of p.codes ≡ flags
  flags_are = ap flags_of a.codes ∙ flags_by state.codes flags fit

  slots_are : work_slots regions ≡ slots
  slots_are = ap work_slots empty ∙ none_slots (length system.regions)

  told : AreHoldersTold (work_slots regions) p.queues.queued
  told = subst (λ ss. AreHoldersTold ss p.queues.queued) (sym slots_are) (subst (λ q. AreHoldersTold slots q) (sym (ap (λ q. q.queued) a.queues)) (told_none slots (none_held (length system.regions)) state.messages))

  waits : (name : List ℕ) → free_count name p.queues.queued ≡ waiting_now state slots name
  waits name =
      sym (free_count_is name (work_slots regions) p.queues.queued told)
      ∙ (λ i. waiting_now (record state { messages = messages_are system state p a rules i }) (slots_are i) name)

  clean_now : d.regions ≡ replicate (length system.regions) (clean_region (committed_rows d))
  clean_now = clean ∙ ap (λ ss. replicate (length system.regions) (clean_region (rows_of_stores ss))) (sym committed)

  pub parts_opened : AreParts system tables p.codes regions
  parts_opened = record {
    valid = valid;
    limit = ap (λ q. q.limit) a.queues;
    names = ap (map (λ (t : TerminalState). t.name)) a.terminals ∙ of.terminals;
    regions_are = ap length empty ∙ none_length (length system.regions);
    states_are = ap length a.codes ∙ count_by_flags state.codes flags fit ∙ sym fit ∙ count;
    settled =
        ap (raised_now (λ name. free_count name p.queues.queued) system.codes) flags_are
        ∙ now_same (λ name. free_count name p.queues.queued) (waiting_now state slots) system.codes flags waits
        ∙ now_twice (waiting_now state slots) system.codes (map (λ _. false) system.codes)
        ∙ sym flags_are;
    told = told;
    at_work = λ place busy e. absurd (none_busy (length system.regions) place busy (sym (ap (λ rs. slice_get rs place) empty) ∙ e));
    conversations = record {
      names = ap (map (λ (t : TerminalConversation). t.terminal)) a.conversations ∙ of.conversations;
      pads = subst (AllByRecursion (λ t. IfSome t.conversation (IsConversationOf system))) (sym a.conversations) (pads system all_named state.conversations (right_pads system state p a rules));
      belong = subst (λ cs. AllByRecursion (IsOfConversation cs) (messages_of p.queues.queued)) (sym a.conversations)
          (subst (AllByRecursion (IsOfConversation state.conversations)) (sym (messages_are system state p a rules)) (belongs system state state.messages (known system state p a rules).0));
      alone = subst AreAlone (sym (messages_are system state p a rules)) (alone state.messages (known system state p a rules).1);
    };
    databases = record { stores = ap (map (λ s. s.dbd)) stores ∙ a.databases; rows = rows; regions = ap length clean_now ∙ rows_length (length system.regions) (clean_region (committed_rows d)); table = ap (λ t. t.regions) table };
    idle = λ place e. record {
      clean = clean_first d (length system.regions) place clean_now (below_none (length system.regions) place (sym (ap (λ rs. slice_get rs place) empty) ∙ e));
      waits = ap (wait_of (place + 1)) table;
    };
  }

  pub moment_opened : record { lasting = lasting_of (settings_of p.codes) tables; slots = work_slots regions; enqueues = d.table; raised = flags_of p.codes } ≡ start_of system state
  moment_opened = λ i. record {
    lasting = record {
      rows = (ap rows_of_stores committed ∙ a.rows) i;
      messages = messages_are system state p a rules i;
      next_id = a.next_id i;
      terminals = a.terminals i;
      outputs = a.outputs i;
      conversations = a.conversations i;
      codes = (ap settings_of a.codes ∙ settings_by state.codes flags fit) i;
      steps = a.steps i;
    };
    slots = slots_are i;
    enqueues = table i;
    raised = flags_are i;
  }
