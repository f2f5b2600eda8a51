-- What holds of each record of a snapshot by itself, and of their order.
use Rattle.std.proofs.Common.{◌≡◌, ℕ, ◌<◌, ◌≤◌, Bool, true, false, ◌&&◌, ◌||◌, List, [], ◌∷◌, ◌++◌, map, refl, sym, subst, arith, nat_le, nat_lt, append-nil, ap, ◌∙◌, filter}
use Rattle.std.specs.Prelude.{if◌then◌else◌}
use Rattle.std.proofs.lemmas.Bool.Decides.{nat_tests}
use Rattle.std.specs.List.{list_all, list_any, AllByRecursion}
use Rattle.tm_types.specs.declared.message.Message.{Message}
use Rattle.tm_types.specs.declared.message.Reply.{Reply}
use Rattle.model_messages.specs.declared.conversation.TerminalConversation.{TerminalConversation}
use Rattle.model_system.specs.System.{System}
use Rattle.model_messages.specs.declared.replies.TerminalReplies.{TerminalReplies}
use Rattle.model_machine.specs.declared.lasting.TerminalState.{TerminalState}
use Rattle.model_machine.specs.declared.lasting.CodeSetting.{CodeSetting}
use Rattle.model_machine.specs.Machine.{LastingState}
use Rattle.log_records.specs.declared.record.Record.{Record}
use Rattle.model_image.specs.Slots.{is_image_of, is_change_of}
use Rattle.model_image.specs.Snapshot.{rank, are_ranked, is_of_no_unit, is_record_before, ascend, wrong_record}
use Rattle.checkpointing.specs.Changes.{AreChanges}
use Rattle.checkpointing.proofs.Changed.{changes_ranked, changes_no_unit, changes_count}
use Rattle.checkpointing.specs.SnapshotRecords.{terminal_records, code_record, message_record, reply_record, reply_records, snapshot_records}

-- ---- each record

-- a record of this rank, that is of no unit, tells of no change, and counts nothing
pub record Plain (system : System) (k : ℕ) (r : Record) : Type 0 where
  pub ranked : rank r ≡ k
  pub no_unit : is_of_no_unit r ≡ true
  pub first : (next : Record) → is_record_before r next ≡ true
  pub image : is_image_of system r ≡ true
  pub counts : wrong_record r ≡ false
  pub unnamed : (database slot : ℕ) → is_change_of database slot r ≡ false

abbrev pub ArePlain : System → ℕ → List Record → Type 0
ArePlain system k rs = AllByRecursion (Plain system k) rs

plain_terminals : (system : System) (ts : List TerminalState) (os : List TerminalReplies) (cs : List TerminalConversation) → ArePlain system 1 (terminal_records ts os cs)
plain_terminals system [] os cs = tt
plain_terminals system (t ∷ ts) [] cs = tt
plain_terminals system (t ∷ ts) (o ∷ os) [] = tt
plain_terminals system (t ∷ ts) (o ∷ os) (c ∷ cs) =
    (record { ranked = refl; no_unit = refl; first = λ next. refl; image = refl; counts = refl; unnamed = λ database slot. refl }, plain_terminals system ts os cs)

plain_codes : (system : System) (cs : List CodeSetting) → ArePlain system 2 (map code_record cs)
plain_codes system [] = tt
plain_codes system (c ∷ cs) =
    (record { ranked = refl; no_unit = refl; first = λ next. refl; image = refl; counts = refl; unnamed = λ database slot. refl }, plain_codes system cs)

plain_messages : (system : System) (ms : List Message) → ArePlain system 3 (map message_record ms)
plain_messages system [] = tt
plain_messages system (m ∷ ms) =
    (record { ranked = refl; no_unit = refl; first = λ next. refl; image = refl; counts = refl; unnamed = λ database slot. refl }, plain_messages system ms)

plain_of : (system : System) (name : List ℕ) (rs : List Reply) (more : List Record) → ArePlain system 4 more → ArePlain system 4 (map (reply_record name) rs ++ more)
plain_of system name [] more plain = plain
plain_of system name (r ∷ rs) more plain =
    (record { ranked = refl; no_unit = refl; first = λ next. refl; image = refl; counts = refl; unnamed = λ database slot. refl }, plain_of system name rs more plain)

plain_replies : (system : System) (os : List TerminalReplies) → ArePlain system 4 (reply_records os)
plain_replies system [] = tt
plain_replies system (o ∷ os) = plain_of system o.terminal o.replies (reply_records os) (plain_replies system os)

-- ---- their order

pub le_is : (a b : ℕ) → a ≤ b → nat_le a b ≡ true
le_is a b h = grind (arith, nat_tests)

lt_is : (a b : ℕ) → a < b → nat_lt a b ≡ true
lt_is a b h = grind (arith, nat_tests)

is_le : (a b : ℕ) → nat_le a b ≡ true → a ≤ b
is_le a b h = grind (arith, nat_tests)

both_are : (a b : Bool) → a && b ≡ true → (a ≡ true) × (b ≡ true)
both_are true true h = (refl, refl)
both_are true false h = absurd cc
both_are false b h = absurd cc

pub are_both : (a b : Bool) → a ≡ true → b ≡ true → a && b ≡ true
are_both a b h k = rw (h, k) refl

ranked_lower : (least k : ℕ) (rs : List Record) → least ≤ k → are_ranked k rs ≡ true → are_ranked least rs ≡ true
ranked_lower least k [] h are = refl
ranked_lower least k (r ∷ rs) h are =
    let outer = both_are (nat_le k (rank r) && nat_lt (rank r) 6) (are_ranked (rank r) rs) are in
    let inner = both_are (nat_le k (rank r)) (nat_lt (rank r) 6) outer.0 in
    let low = is_le k (rank r) inner.0 in
    are_both (nat_le least (rank r) && nat_lt (rank r) 6) (are_ranked (rank r) rs) (are_both (nat_le least (rank r)) (nat_lt (rank r) 6) (le_is least (rank r) (omega (arith, h, low))) inner.1) outer.1

module _ (system : System) where
  ranked_section : (least k : ℕ) (rs more : List Record) → least ≤ k → k < 6 → ArePlain system k rs → are_ranked k more ≡ true → are_ranked least (rs ++ more) ≡ true
  ranked_section least k [] more low high plain are = ranked_lower least k more low are
  ranked_section least k (r ∷ rs) more low high plain are =
      let here : rank r ≡ k = plain.0.ranked in
      subst (λ (n : ℕ). nat_le least n && nat_lt n 6 && are_ranked n (rs ++ more) ≡ true) (sym here)
      (are_both (nat_le least k && nat_lt k 6) (are_ranked k (rs ++ more)) (are_both (nat_le least k) (nat_lt k 6) (le_is least k low) (lt_is k 6 high))
      (ranked_section k k rs more (omega arith) high plain.1 are))

  pub ascend_more : (r : Record) (rs : List Record) → ((next : Record) → is_record_before r next ≡ true) → ascend rs ≡ true → ascend (r ∷ rs) ≡ true
  ascend_more r [] first are = refl
  ascend_more r (next ∷ rs) first are = are_both (is_record_before r next) (ascend (next ∷ rs)) (first next) are

  ascend_section : (k : ℕ) (rs more : List Record) → ArePlain system k rs → ascend more ≡ true → ascend (rs ++ more) ≡ true
  ascend_section k [] more plain are = are
  ascend_section k (r ∷ rs) more plain are = ascend_more r (rs ++ more) plain.0.first (ascend_section k rs more plain.1 are)

  no_unit_section : (k : ℕ) (rs more : List Record) → ArePlain system k rs → list_all is_of_no_unit more ≡ true → list_all is_of_no_unit (rs ++ more) ≡ true
  no_unit_section k [] more plain are = are
  no_unit_section k (r ∷ rs) more plain are = are_both (is_of_no_unit r) (list_all is_of_no_unit (rs ++ more)) plain.0.no_unit (no_unit_section k rs more plain.1 are)

  image_section : (k : ℕ) (rs more : List Record) → ArePlain system k rs → list_all (is_image_of system) more ≡ true → list_all (is_image_of system) (rs ++ more) ≡ true
  image_section k [] more plain are = are
  image_section k (r ∷ rs) more plain are = are_both (is_image_of system r) (list_all (is_image_of system) (rs ++ more)) plain.0.image (image_section k rs more plain.1 are)

  neither : (a b : Bool) → a ≡ false → b ≡ false → a || b ≡ false
  neither a b h k = rw (h, k) refl

  counts_section : (k : ℕ) (rs more : List Record) → ArePlain system k rs → list_any wrong_record more ≡ false → list_any wrong_record (rs ++ more) ≡ false
  counts_section k [] more plain are = are
  counts_section k (r ∷ rs) more plain are = neither (wrong_record r) (list_any wrong_record (rs ++ more)) plain.0.counts (counts_section k rs more plain.1 are)

  unnamed_section : (k : ℕ) (rs more : List Record) → ArePlain system k rs → (database slot : ℕ) → filter (is_change_of database slot) more ≡ [] → filter (is_change_of database slot) (rs ++ more) ≡ []
  unnamed_section k [] more plain database slot are = are
  unnamed_section k (r ∷ rs) more plain database slot are =
      ap (λ (b : Bool). if b then r ∷ filter (is_change_of database slot) (rs ++ more) else filter (is_change_of database slot) (rs ++ more)) (plain.0.unnamed database slot)
      ∙ unnamed_section k rs more plain.1 database slot are

  -- four sections and the changes, one after another
  pub record Sections (one two three four changes : List Record) : Type 0 where
    pub ranked : are_ranked 1 (one ++ (two ++ (three ++ (four ++ changes)))) ≡ true
    pub ascending : ascend (one ++ (two ++ (three ++ (four ++ changes)))) ≡ true
    pub no_unit : list_all is_of_no_unit (one ++ (two ++ (three ++ (four ++ changes)))) ≡ true
    pub images : list_all (is_image_of system) (one ++ (two ++ (three ++ (four ++ changes)))) ≡ true
    pub counts : list_any wrong_record (one ++ (two ++ (three ++ (four ++ changes)))) ≡ false

  pub sections : (one two three four changes : List Record) → ArePlain system 1 one → ArePlain system 2 two → ArePlain system 3 three → ArePlain system 4 four → AreChanges system changes → Sections one two three four changes
  sections one two three four changes a b c d are = record {
    ranked =
        ranked_section 1 1 one (two ++ (three ++ (four ++ changes))) (omega arith) (omega arith) a
        (ranked_section 1 2 two (three ++ (four ++ changes)) (omega arith) (omega arith) b
        (ranked_section 2 3 three (four ++ changes) (omega arith) (omega arith) c
        (ranked_section 3 4 four changes (omega arith) (omega arith) d (changes_ranked 4 changes (omega arith) are.each))));
    ascending =
        ascend_section 1 one (two ++ (three ++ (four ++ changes))) a
        (ascend_section 2 two (three ++ (four ++ changes)) b (ascend_section 3 three (four ++ changes) c (ascend_section 4 four changes d are.ascending)));
    no_unit =
        no_unit_section 1 one (two ++ (three ++ (four ++ changes))) a
        (no_unit_section 2 two (three ++ (four ++ changes)) b (no_unit_section 3 three (four ++ changes) c (no_unit_section 4 four changes d (changes_no_unit changes are.each))));
    images =
        image_section 1 one (two ++ (three ++ (four ++ changes))) a
        (image_section 2 two (three ++ (four ++ changes)) b (image_section 3 three (four ++ changes) c (image_section 4 four changes d are.images)));
    counts =
        counts_section 1 one (two ++ (three ++ (four ++ changes))) a
        (counts_section 2 two (three ++ (four ++ changes)) b (counts_section 3 three (four ++ changes) c (counts_section 4 four changes d (changes_count changes are.each))));
  }

  pub state_sections : (state : LastingState) (changes : List Record) → AreChanges system changes → Sections (terminal_records state.terminals state.outputs state.conversations) (map code_record state.codes) (map message_record state.messages) (reply_records state.outputs) changes
  state_sections state changes are =
      sections (terminal_records state.terminals state.outputs state.conversations) (map code_record state.codes) (map message_record state.messages) (reply_records state.outputs) changes
      (plain_terminals system state.terminals state.outputs state.conversations) (plain_codes system state.codes) (plain_messages system state.messages) (plain_replies system state.outputs) are

-- no record of a snapshot without changes names a slot
pub none_named : (system : System) (checkpoint unit : ℕ) (state : LastingState) (database slot : ℕ) → filter (is_change_of database slot) (snapshot_records checkpoint unit state [] ++ []) ≡ []
none_named system checkpoint unit state database slot =
    ap (filter (is_change_of database slot)) (append-nil (snapshot_records checkpoint unit state []))
    ∙ unnamed_section system 1 (terminal_records state.terminals state.outputs state.conversations) (map code_record state.codes ++ (map message_record state.messages ++ (reply_records state.outputs ++ []))) (plain_terminals system state.terminals state.outputs state.conversations) database slot
    (unnamed_section system 2 (map code_record state.codes) (map message_record state.messages ++ (reply_records state.outputs ++ [])) (plain_codes system state.codes) database slot
    (unnamed_section system 3 (map message_record state.messages) (reply_records state.outputs ++ []) (plain_messages system state.messages) database slot
    (unnamed_section system 4 (reply_records state.outputs) [] (plain_replies system state.outputs) database slot refl)))
