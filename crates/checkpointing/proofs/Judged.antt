-- The records of a snapshot of a state that keeps the rules break no rule.
use Rattle.std.proofs.Common.{◌≡◌, ℕ, ◌≤◌, Bool, true, false, not, ◌&&◌, ◌||◌, List, [], ◌∷◌, ◌++◌, length, map, refl, sym, ◌∙◌, ap, arith, Some, None, nat_le}
use Rattle.std.proofs.lemmas.List.Quantifiers.{position-Some}
use Rattle.std.proofs.lemmas.List.Folds.{list_any_at}
use Rattle.std.proofs.lemmas.List.{length-append}
use Rattle.std.specs.Prelude.{Option, filter_map, position, ◌==◌}
use Rattle.std.specs.List.{list_all, list_any, cons_option, AllByRecursion}
use Rattle.std.specs.Str.{bytes_eq}
use Rattle.std.proofs.lemmas.Slice.Eq.{bytes_eq-Decides}
use Rattle.tm_types.specs.declared.message.Message.{Message}
use Rattle.tm_types.specs.declared.message.Reply.{Reply}
use Rattle.model_messages.specs.declared.conversation.TerminalConversation.{TerminalConversation}
use Rattle.model_system.specs.System.{System}
use Rattle.model_messages.specs.declared.replies.TerminalReplies.{TerminalReplies}
use Rattle.model_machine.specs.declared.lasting.TerminalState.{TerminalState}
use Rattle.model_machine.specs.declared.lasting.CodeSetting.{CodeSetting}
use Rattle.model_machine.specs.Machine.{LastingState}
use Rattle.log_records.specs.declared.record.Record.{Record}
use Rattle.log_records.specs.declared.record.Record.TheVariants.{Checkpoint, Terminal}
use Rattle.restart_data.specs.Rules.{first_broken}
use Rattle.model_image.specs.States.{is_system_terminal, is_small, is_next, wrong_values, wrong_ids, unknown_messages, wrong_replies, over_full, breaks_a_rule}
use Rattle.model_image.specs.Snapshot.{is_of_no_unit, terminal_name, code_name, reply_terminal, are_same, are_others_in_order, has_name, ascend_places, names_follow, snapshot_rules, out_of_order, missing_or_twice, wrong_record, reply_of_none, wrong_changes, begins_with_counts, ascend, code_names}
use Rattle.model_image.specs.Slots.{is_image_of}
use Rattle.checkpointing.specs.SnapshotRecords.{terminal_records, code_record, message_record, reply_record, reply_records, snapshot_records, AreApart, IsOfSystem}
use Rattle.checkpointing.specs.Changes.{IsChange, AreChanges}
use Rattle.checkpointing.proofs.Changed.{changes_no_terminal, changes_no_code, changes_no_reply, named_before}
use Rattle.checkpointing.proofs.Named.{regroup, place_among, position_map}
use Rattle.checkpointing.proofs.Told.{AreOne, one_names, state_told, of_output}
use Rattle.checkpointing.proofs.Plain.{state_sections, ascend_more, le_is, are_both}

-- ---- names

module _ (g : Record → Option (List ℕ)) where
  past_terminals : ((t : TerminalState) (o : TerminalReplies) (c : TerminalConversation) → g (Terminal t.name t.last o.next t.stopped c.conversation) ≡ None) → (ts : List TerminalState) (os : List TerminalReplies) (cs : List TerminalConversation) (more : List Record) → filter_map g (terminal_records ts os cs ++ more) ≡ filter_map g more
  past_terminals none [] os cs more = refl
  past_terminals none (t ∷ ts) [] cs more = refl
  past_terminals none (t ∷ ts) (o ∷ os) [] more = refl
  past_terminals none (t ∷ ts) (o ∷ os) (c ∷ cs) more = ap (λ (h : Option (List ℕ)). cons_option h (filter_map g (terminal_records ts os cs ++ more))) (none t o c) ∙ past_terminals none ts os cs more

  past_codes : ((c : CodeSetting) → g (code_record c) ≡ None) → (cs : List CodeSetting) (more : List Record) → filter_map g (map code_record cs ++ more) ≡ filter_map g more
  past_codes none [] more = refl
  past_codes none (c ∷ cs) more = ap (λ (h : Option (List ℕ)). cons_option h (filter_map g (map code_record cs ++ more))) (none c) ∙ past_codes none cs more

  past_messages : ((m : Message) → g (message_record m) ≡ None) → (ms : List Message) (more : List Record) → filter_map g (map message_record ms ++ more) ≡ filter_map g more
  past_messages none [] more = refl
  past_messages none (m ∷ ms) more = ap (λ (h : Option (List ℕ)). cons_option h (filter_map g (map message_record ms ++ more))) (none m) ∙ past_messages none ms more

  past_replies_of : ((n : List ℕ) (r : Reply) → g (reply_record n r) ≡ None) → (n : List ℕ) (rs : List Reply) (more : List Record) → filter_map g (map (reply_record n) rs ++ more) ≡ filter_map g more
  past_replies_of none n [] more = refl
  past_replies_of none n (r ∷ rs) more = ap (λ (h : Option (List ℕ)). cons_option h (filter_map g (map (reply_record n) rs ++ more))) (none n r) ∙ past_replies_of none n rs more

  past_replies : ((n : List ℕ) (r : Reply) → g (reply_record n r) ≡ None) → (os : List TerminalReplies) → filter_map g (reply_records os) ≡ []
  past_replies none [] = refl
  past_replies none (o ∷ os) = past_replies_of none o.terminal o.replies (reply_records os) ∙ past_replies none os

terminals_named : (ts : List TerminalState) (os : List TerminalReplies) (cs : List TerminalConversation) (more : List Record) → AreOne ts os cs → filter_map terminal_name more ≡ [] → filter_map terminal_name (terminal_records ts os cs ++ more) ≡ map (λ t. t.name) ts
terminals_named [] os cs more one none = none
terminals_named (t ∷ ts) [] [] more one none = absurd one
terminals_named (t ∷ ts) [] (c ∷ cs) more one none = absurd one
terminals_named (t ∷ ts) (o ∷ os) [] more one none = absurd one
terminals_named (t ∷ ts) (o ∷ os) (c ∷ cs) more one none = ap (λ (l : List (List ℕ)). t.name ∷ l) (terminals_named ts os cs more one.2 none)

codes_named : (cs : List CodeSetting) (more : List Record) → filter_map code_name more ≡ [] → filter_map code_name (map code_record cs ++ more) ≡ map (λ c. c.code) cs
codes_named [] more none = none
codes_named (c ∷ cs) more none = ap (λ (l : List (List ℕ)). c.code ∷ l) (codes_named cs more none)

module _ (checkpoint unit : ℕ) (state : LastingState) (changes : List Record) (are : AllByRecursion IsChange changes) where
  terminal_names : AreOne state.terminals state.outputs state.conversations → filter_map terminal_name (snapshot_records checkpoint unit state changes) ≡ map (λ t. t.name) state.terminals
  terminal_names one =
      terminals_named state.terminals state.outputs state.conversations (map code_record state.codes ++ (map message_record state.messages ++ (reply_records state.outputs ++ changes))) one
      (past_codes terminal_name (λ c. refl) state.codes (map message_record state.messages ++ (reply_records state.outputs ++ changes))
      ∙ past_messages terminal_name (λ m. refl) state.messages (reply_records state.outputs ++ changes)
      ∙ named_before terminal_name (reply_records state.outputs) changes (changes_no_terminal changes are)
      ∙ past_replies terminal_name (λ n r. refl) state.outputs)

  names_of_codes : filter_map code_name (snapshot_records checkpoint unit state changes) ≡ map (λ c. c.code) state.codes
  names_of_codes =
      past_terminals code_name (λ t o c. refl) state.terminals state.outputs state.conversations (map code_record state.codes ++ (map message_record state.messages ++ (reply_records state.outputs ++ changes)))
      ∙ codes_named state.codes (map message_record state.messages ++ (reply_records state.outputs ++ changes))
      (past_messages code_name (λ m. refl) state.messages (reply_records state.outputs ++ changes)
      ∙ named_before code_name (reply_records state.outputs) changes (changes_no_code changes are)
      ∙ past_replies code_name (λ n r. refl) state.outputs)

  names_of_replies : filter_map reply_terminal (snapshot_records checkpoint unit state changes) ≡ filter_map reply_terminal (reply_records state.outputs)
  names_of_replies =
      past_terminals reply_terminal (λ t o c. refl) state.terminals state.outputs state.conversations (map code_record state.codes ++ (map message_record state.messages ++ (reply_records state.outputs ++ changes)))
      ∙ past_codes reply_terminal (λ c. refl) state.codes (map message_record state.messages ++ (reply_records state.outputs ++ changes))
      ∙ past_messages reply_terminal (λ m. refl) state.messages (reply_records state.outputs ++ changes)
      ∙ named_before reply_terminal (reply_records state.outputs) changes (changes_no_reply changes are)

same_is : (names : List (List ℕ)) → are_same names names ≡ true
same_is [] = refl
same_is (n ∷ ns) = are_both (bytes_eq n n) (are_same ns ns) ((bytes_eq-Decides n n).1 refl) (same_is ns)

-- ---- the terminals of the replies

module _ (names : List (List ℕ)) (apart : AreApart names) where
  placed : (done : List TerminalReplies) (o : TerminalReplies) (rest : List TerminalReplies) → map of_output (done ++ o ∷ rest) ≡ names → position (λ other. bytes_eq other o.terminal) names ≡ Some (length done)
  placed done o rest are =
      ap (λ (l : List (List ℕ)). position (λ other. bytes_eq other o.terminal) l) (sym are)
      ∙ sym (position_map of_output o.terminal (done ++ o ∷ rest))
      ∙ place_among of_output names apart done o rest are

  follow_of : (o : TerminalReplies) (place least : ℕ) (rs : List Reply) (more : List Record) → position (λ other. bytes_eq other o.terminal) names ≡ Some place → least ≤ place
      → ((low : ℕ) → low ≤ place → ascend_places low (filter_map (λ name. position (λ other. bytes_eq other name) names) (filter_map reply_terminal more)) ≡ true)
      → ascend_places least (filter_map (λ name. position (λ other. bytes_eq other name) names) (filter_map reply_terminal (map (reply_record o.terminal) rs ++ more))) ≡ true
  follow_of o place least [] more here low others = others least low
  follow_of o place least (r ∷ rs) more here low others =
      ap (λ (p : Option ℕ). ascend_places least (cons_option p (filter_map (λ name. position (λ other. bytes_eq other name) names) (filter_map reply_terminal (map (reply_record o.terminal) rs ++ more))))) here
      ∙ are_both (nat_le least place) (ascend_places place (filter_map (λ name. position (λ other. bytes_eq other name) names) (filter_map reply_terminal (map (reply_record o.terminal) rs ++ more))))
      (le_is least place low) (follow_of o place place rs more here (omega arith) others)

  follow_all : (os done : List TerminalReplies) (least : ℕ) → map of_output (done ++ os) ≡ names → least ≤ length done
      → ascend_places least (filter_map (λ name. position (λ other. bytes_eq other name) names) (filter_map reply_terminal (reply_records os))) ≡ true
  follow_all [] done least are low = refl
  follow_all (o ∷ os) done least are low =
      follow_of o (length done) least o.replies (reply_records os) (placed done o os are) low (λ below small.
      follow_all os (done ++ o ∷ []) below (ap (map of_output) (sym (regroup done o os)) ∙ are) (omega (arith, small, length-append done (o ∷ []))))

  named_any : (n : List ℕ) (place : ℕ) → position (λ other. bytes_eq other n) names ≡ Some place → list_any (λ other. bytes_eq other n) names ≡ true
  named_any n place is =
      let found = position-Some (λ other. bytes_eq other n) names place [] is in
      list_any_at (λ other. bytes_eq other n) names place [] found.0 found.1

  known_of : (o : TerminalReplies) (rs : List Reply) (more : List Record) → list_any (λ other. bytes_eq other o.terminal) names ≡ true
      → list_all (λ n. list_any (λ other. bytes_eq other n) names) (filter_map reply_terminal more) ≡ true
      → list_all (λ n. list_any (λ other. bytes_eq other n) names) (filter_map reply_terminal (map (reply_record o.terminal) rs ++ more)) ≡ true
  known_of o [] more here others = others
  known_of o (r ∷ rs) more here others =
      are_both (list_any (λ other. bytes_eq other o.terminal) names) (list_all (λ n. list_any (λ other. bytes_eq other n) names) (filter_map reply_terminal (map (reply_record o.terminal) rs ++ more))) here (known_of o rs more here others)

  known_all : (os done : List TerminalReplies) → map of_output (done ++ os) ≡ names → list_all (λ n. list_any (λ other. bytes_eq other n) names) (filter_map reply_terminal (reply_records os)) ≡ true
  known_all [] done are = refl
  known_all (o ∷ os) done are =
      known_of o o.replies (reply_records os) (named_any o.terminal (length done) (placed done o os are))
      (known_all os (done ++ o ∷ []) (ap (map of_output) (sym (regroup done o os)) ∙ are))

-- ---- the rules

none_broken : (a b c d e f g : Bool) → a ≡ false → b ≡ false → c ≡ false → d ≡ false → e ≡ false → f ≡ false → g ≡ false → first_broken ((11, a) ∷ (12, b) ∷ (13, c) ∷ (14, d) ∷ (15, e) ∷ (16, f) ∷ (17, g) ∷ []) ≡ None
none_broken a b c d e f g ha hb hc hd he hf hg = rw (ha, hb, hc, hd, he, hf, hg) refl

neither_is : (a b : Bool) → a || b ≡ false → (a ≡ false) × (b ≡ false)
neither_is false false h = (refl, refl)
neither_is false true h = absurd cc
neither_is true b h = absurd cc

in_order : (counts units follows ascends others more : Bool) → counts ≡ true → units ≡ true → follows ≡ true → ascends ≡ true → others ≡ false → more ≡ false → not (counts && units && follows && ascends) || others || more ≡ false
in_order counts units follows ascends others more a b c d e f = rw (a, b, c, d, e, f) refl

other_order : (same longer found : Bool) → same ≡ true → not same && longer && found ≡ false
other_order same longer found h = rw (h) refl

all_there : (terminals codes counts values : Bool) → terminals ≡ true → codes ≡ true → counts ≡ false → values ≡ false → not (terminals && codes) || counts || values ≡ false
all_there terminals codes counts values a b c d = rw (a, b, c, d) refl

right_counts : (small next others : Bool) → small ≡ true → next ≡ true → others ≡ false → not (small && next) || others ≡ false
right_counts small next others a b c = rw (a, b, c) refl

one_of_two : (replies none : Bool) → replies ≡ false → none ≡ true → replies || not none ≡ false
one_of_two replies none a b = rw (a, b) refl

not_true : (b : Bool) → b ≡ true → not b ≡ false
not_true b h = rw (h) refl

others_not : (names defined : List (List ℕ)) → are_same names defined ≡ true → are_others_in_order names defined ≡ false
others_not names defined same = other_order (are_same names defined) (length names == length defined) (list_all (has_name names) defined) same

-- what a snapshot may count
pub record AreCounts (checkpoint unit : ℕ) : Type 0 where
  pub checkpoint_small : is_small checkpoint ≡ true
  pub unit_next : is_next unit ≡ true

-- what stands behind the counts
abbrev rest_of : LastingState → List Record → List Record
rest_of state changes =
    terminal_records state.terminals state.outputs state.conversations ++ (map code_record state.codes ++ (map message_record state.messages ++ (reply_records state.outputs ++ changes)))

abbrev rules_with : System → List Record → LastingState → List (ℕ × Bool)
rules_with system records lasting =
    (11, out_of_order system records)
    ∷ (12, missing_or_twice system records || wrong_values system lasting)
    ∷ (13, wrong_ids lasting)
    ∷ (14, unknown_messages system lasting)
    ∷ (15, wrong_replies lasting || reply_of_none system records)
    ∷ (16, over_full system lasting)
    ∷ (17, wrong_changes system records)
    ∷ []

module _ (system : System) (state : LastingState) (checkpoint unit : ℕ) (terminals_apart : AreApart system.terminals) (codes_apart : AreApart (code_names system)) (is : IsOfSystem system state) (counts : AreCounts checkpoint unit) (sound : breaks_a_rule system state ≡ false) (changes : List Record) (changed : AreChanges system changes) where
  terminals_same : are_same (filter_map terminal_name (snapshot_records checkpoint unit state changes)) system.terminals ≡ true
  terminals_same = ap (λ (l : List (List ℕ)). are_same l system.terminals) (terminal_names checkpoint unit state changes changed.each (one_names state.terminals state.outputs state.conversations (is.outputs ∙ sym is.terminals) (is.conversations ∙ sym is.terminals)) ∙ is.terminals) ∙ same_is system.terminals

  codes_same : are_same (filter_map code_name (snapshot_records checkpoint unit state changes)) (code_names system) ≡ true
  codes_same = ap (λ (l : List (List ℕ)). are_same l (code_names system)) (names_of_codes checkpoint unit state changes changed.each ∙ is.codes) ∙ same_is (code_names system)

  follows : names_follow system.terminals (filter_map reply_terminal (snapshot_records checkpoint unit state changes)) ≡ true
  follows =
      ap (λ (l : List (List ℕ)). names_follow system.terminals l) (names_of_replies checkpoint unit state changes changed.each)
      ∙ follow_all system.terminals terminals_apart state.outputs [] 0 is.outputs (omega arith)

  known : list_all (is_system_terminal system) (filter_map reply_terminal (snapshot_records checkpoint unit state changes)) ≡ true
  known =
      ap (λ (l : List (List ℕ)). list_all (is_system_terminal system) l) (names_of_replies checkpoint unit state changes changed.each)
      ∙ known_all system.terminals terminals_apart state.outputs [] is.outputs

  pub no_rule_broken : first_broken (snapshot_rules system (snapshot_records checkpoint unit state changes)) ≡ None
  no_rule_broken =
      let records : List Record = snapshot_records checkpoint unit state changes in
      let parts = state_sections system state changes changed in
      let first = neither_is (wrong_values system state || wrong_ids state || unknown_messages system state || wrong_replies state) (over_full system state) sound in
      let second = neither_is (wrong_values system state || wrong_ids state || unknown_messages system state) (wrong_replies state) first.0 in
      let third = neither_is (wrong_values system state || wrong_ids state) (unknown_messages system state) second.0 in
      let fourth = neither_is (wrong_values system state) (wrong_ids state) third.0 in
      ap (λ (lasting : LastingState). first_broken (rules_with system records lasting)) (state_told system state terminals_apart codes_apart is checkpoint unit changes changed.each)
      ∙ none_broken (out_of_order system records) (missing_or_twice system records || wrong_values system state) (wrong_ids state) (unknown_messages system state) (wrong_replies state || reply_of_none system records) (over_full system state) (wrong_changes system records)
      (in_order (begins_with_counts records) (list_all is_of_no_unit records) (names_follow system.terminals (filter_map reply_terminal records)) (ascend records)
      (are_others_in_order (filter_map terminal_name records) system.terminals) (are_others_in_order (filter_map code_name records) (code_names system))
      parts.ranked parts.no_unit (follows) (ascend_more system (Checkpoint checkpoint state.next_id unit state.steps) (rest_of state changes) (λ next. refl) parts.ascending) (others_not (filter_map terminal_name records) system.terminals terminals_same) (others_not (filter_map code_name records) (code_names system) codes_same))
      (all_there (are_same (filter_map terminal_name records) system.terminals) (are_same (filter_map code_name records) (code_names system)) (list_any wrong_record records) (wrong_values system state)
      (terminals_same) (codes_same) (right_counts (is_small checkpoint) (is_next unit) (list_any wrong_record (rest_of state changes)) counts.checkpoint_small counts.unit_next parts.counts) fourth.0)
      fourth.1 third.1 (one_of_two (wrong_replies state) (list_all (is_system_terminal system) (filter_map reply_terminal records)) second.1 (known)) first.1 (not_true (list_all (is_image_of system) records) parts.images)
