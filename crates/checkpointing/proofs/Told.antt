-- What a snapshot's records tell is the state that they were made of.
use Rattle.std.proofs.Common.{◌≡◌, ℕ, suc, Bool, true, false, List, [], ◌∷◌, ◌++◌, map, refl, sym, ◌∙◌, ap, subst, Some, None, append_assoc, append-nil}
use Rattle.std.specs.Prelude.{Option, position, slice_get, slice_set, slice_index_or, drop, if◌then◌else◌}
use Rattle.std.specs.Option.{option_map, option_map_or}
use Rattle.std.specs.List.{AllByRecursion}
use Rattle.std.specs.Str.{bytes_eq}
use Rattle.tm_types.specs.declared.message.Message.{Message}
use Rattle.tm_types.specs.declared.message.Reply.{Reply}
use Rattle.model_messages.specs.declared.conversation.TerminalConversation.{TerminalConversation}
use Rattle.model_messages.specs.Terminals as conversations
use Rattle.model_system.specs.System.{System}
use Rattle.model_system.specs.Lists.{change_at}
use Rattle.model_system.specs.declared.code.Code.{Code}
use Rattle.model_messages.specs.declared.replies.TerminalReplies.{TerminalReplies}
use Rattle.model_messages.specs.Outputs as outputs
use Rattle.model_machine.specs.declared.lasting.TerminalState.{TerminalState}
use Rattle.model_machine.specs.declared.lasting.CodeSetting.{CodeSetting}
use Rattle.model_machine.specs.Machine.{LastingState, empty_state, fresh_terminal_state, first_setting}
use Rattle.log_records.specs.declared.record.Record.{Record}
use Rattle.log_records.specs.declared.record.Record.TheVariants.{Terminal}
use Rattle.model_image.specs.Snapshot.{with_record_told, with_records_told, snapshot_state, with_kept, code_names}
use Rattle.checkpointing.specs.SnapshotRecords.{terminal_records, code_record, message_record, reply_record, reply_records, snapshot_records, AreApart, IsOfSystem}
use Rattle.checkpointing.specs.Changes.{IsChange}
use Rattle.checkpointing.proofs.Changed.{changes_told}
use Rattle.checkpointing.proofs.Named.{change_among, place_among, map_among, change_named, put_all, Pairs, Puts, put_each, regroup}
use Rattle.tm_types.proofs.Positions.{position_more}

-- ---- records one after another

pub told_both : (some more : List Record) (state : LastingState) → with_records_told (some ++ more) state ≡ with_records_told more (with_records_told some state)
told_both [] more state = refl
told_both (r ∷ some) more state = told_both some more (with_record_told r state)

-- ---- the first terminal of a name

shift_by : {X : Type 0} (y : X) (ys : List X) (n : ℕ) (f : X → X) (g : Option X) → y ∷ option_map_or (λ z. slice_set ys n (f z)) g ys ≡ option_map_or (λ z. slice_set (y ∷ ys) (suc n) (f z)) g (y ∷ ys)
shift_by y ys n f None = refl
shift_by y ys n f (Some z) = refl

shifted : {X : Type 0} (y : X) (ys : List X) (p : Option ℕ) (f : X → X) → y ∷ change_at ys p f ≡ change_at (y ∷ ys) (option_map (λ n. suc n) p) f
shifted y ys None f = refl
shifted y ys (Some n) f = shift_by y ys n f (slice_get ys n)

output_named_more : (name : List ℕ) (f : TerminalReplies → TerminalReplies) (x : TerminalReplies) (xs : List TerminalReplies) (b : Bool) → bytes_eq x.terminal name ≡ b → outputs.with_terminal name f xs ≡ change_named (λ y. y.terminal) name f xs → outputs.with_terminal name f (x ∷ xs) ≡ change_named (λ y. y.terminal) name f (x ∷ xs)
output_named_more name f x xs true h more =
    ap (λ (t : Bool). if t then f x ∷ xs else x ∷ outputs.with_terminal name f xs) h
    ∙ sym (ap (λ (p : Option ℕ). change_at (x ∷ xs) p f) (position_more (λ y. bytes_eq y.terminal name) x xs true h))
output_named_more name f x xs false h more =
    ap (λ (t : Bool). if t then f x ∷ xs else x ∷ outputs.with_terminal name f xs) h
    ∙ ap (λ (l : List TerminalReplies). x ∷ l) more
    ∙ shifted x xs (position (λ y. bytes_eq y.terminal name) xs) f
    ∙ sym (ap (λ (p : Option ℕ). change_at (x ∷ xs) p f) (position_more (λ y. bytes_eq y.terminal name) x xs false h))

output_named : (name : List ℕ) (f : TerminalReplies → TerminalReplies) (xs : List TerminalReplies) → outputs.with_terminal name f xs ≡ change_named (λ y. y.terminal) name f xs
output_named name f [] = refl
output_named name f (x ∷ xs) = output_named_more name f x xs (bytes_eq x.terminal name) refl (output_named name f xs)

conversation_named_more : (name : List ℕ) (f : TerminalConversation → TerminalConversation) (x : TerminalConversation) (xs : List TerminalConversation) (b : Bool) → bytes_eq x.terminal name ≡ b → conversations.with_terminal name f xs ≡ change_named (λ y. y.terminal) name f xs → conversations.with_terminal name f (x ∷ xs) ≡ change_named (λ y. y.terminal) name f (x ∷ xs)
conversation_named_more name f x xs true h more =
    ap (λ (t : Bool). if t then f x ∷ xs else x ∷ conversations.with_terminal name f xs) h
    ∙ sym (ap (λ (p : Option ℕ). change_at (x ∷ xs) p f) (position_more (λ y. bytes_eq y.terminal name) x xs true h))
conversation_named_more name f x xs false h more =
    ap (λ (t : Bool). if t then f x ∷ xs else x ∷ conversations.with_terminal name f xs) h
    ∙ ap (λ (l : List TerminalConversation). x ∷ l) more
    ∙ shifted x xs (position (λ y. bytes_eq y.terminal name) xs) f
    ∙ sym (ap (λ (p : Option ℕ). change_at (x ∷ xs) p f) (position_more (λ y. bytes_eq y.terminal name) x xs false h))

conversation_named : (name : List ℕ) (f : TerminalConversation → TerminalConversation) (xs : List TerminalConversation) → conversations.with_terminal name f xs ≡ change_named (λ y. y.terminal) name f xs
conversation_named name f [] = refl
conversation_named name f (x ∷ xs) = conversation_named_more name f x xs (bytes_eq x.terminal name) refl (conversation_named name f xs)

names_stay : (xs : List TerminalReplies) → map (λ o. o.terminal) (map (λ (o : TerminalReplies). record o { replies = [] }) xs) ≡ map (λ o. o.terminal) xs
names_stay [] = refl
names_stay (x ∷ xs) = ap (λ (l : List (List ℕ)). x.terminal ∷ l) (names_stay xs)

-- ---- terminals and codes

abbrev put_terminal : TerminalState → TerminalState → TerminalState
put_terminal t y = record y { last = t.last; stopped = t.stopped }

abbrev put_output : TerminalReplies → TerminalReplies → TerminalReplies
put_output o y = record y { next = o.next }

abbrev put_conversation : TerminalConversation → TerminalConversation → TerminalConversation
put_conversation c y = conversations.with_conversation c.conversation y

abbrev put_code : CodeSetting → CodeSetting → CodeSetting
put_code c y = record y { stopped = c.stopped; class = c.class; priority = c.priority }

-- a terminal of which no reply was told yet
abbrev pub without_replies : TerminalReplies → TerminalReplies
without_replies o = record o { replies = [] }

-- what lasts with other lists
abbrev with_lists : LastingState → List TerminalState → List TerminalReplies → List TerminalConversation → LastingState
with_lists state ts os cs = record state { terminals = ts; outputs = os; conversations = cs }

abbrev name_of : TerminalState → List ℕ
name_of t = t.name

abbrev pub of_output : TerminalReplies → List ℕ
of_output o = o.terminal

abbrev of_conversation : TerminalConversation → List ℕ
of_conversation c = c.terminal

abbrev of_code : CodeSetting → List ℕ
of_code c = c.code

-- the lists once each element was told
abbrev with_terminals : List TerminalState → List TerminalReplies → List TerminalConversation → LastingState → LastingState
with_terminals ts os cs state =
    with_lists state (put_all name_of put_terminal ts state.terminals) (put_all of_output put_output os state.outputs) (put_all of_conversation put_conversation cs state.conversations)

-- the names of the terminals are the same in the three lists
abbrev pub AreOne : List TerminalState → List TerminalReplies → List TerminalConversation → Type 0
AreOne [] [] [] = Unit {0}
AreOne (t ∷ ts) (o ∷ os) (c ∷ cs) = (o.terminal ≡ t.name) × (c.terminal ≡ t.name) × AreOne ts os cs
AreOne _ _ _ = ⊥

terminals_step : (t : TerminalState) (o : TerminalReplies) (c : TerminalConversation) (ts : List TerminalState) (os : List TerminalReplies) (cs : List TerminalConversation) (state : LastingState) → o.terminal ≡ t.name → c.terminal ≡ t.name
    → with_terminals ts os cs (with_record_told (Terminal t.name t.last o.next t.stopped c.conversation) state) ≡ with_terminals (t ∷ ts) (o ∷ os) (c ∷ cs) state
terminals_step t o c ts os cs state same_o same_c =
    let terminals : List TerminalState = put_all name_of put_terminal (t ∷ ts) state.terminals in
    let told_outputs : outputs.with_terminal t.name (put_output o) state.outputs ≡ change_named of_output o.terminal (put_output o) state.outputs =
    ap (λ (n : List ℕ). outputs.with_terminal n (put_output o) state.outputs) (sym same_o) ∙ output_named o.terminal (put_output o) state.outputs in
    let told_conversations : conversations.with_terminal t.name (put_conversation c) state.conversations ≡ change_named of_conversation c.terminal (put_conversation c) state.conversations =
    ap (λ (n : List ℕ). conversations.with_terminal n (put_conversation c) state.conversations) (sym same_c) ∙ conversation_named c.terminal (put_conversation c) state.conversations in
    ap (λ (l : List TerminalReplies). with_lists state terminals (put_all of_output put_output os l) (put_all of_conversation put_conversation cs (conversations.with_terminal t.name (put_conversation c) state.conversations))) told_outputs
    ∙ ap (λ (l : List TerminalConversation). with_lists state terminals (put_all of_output put_output (o ∷ os) state.outputs) (put_all of_conversation put_conversation cs l)) told_conversations

terminals_told : (ts : List TerminalState) (os : List TerminalReplies) (cs : List TerminalConversation) (state : LastingState) → AreOne ts os cs → with_records_told (terminal_records ts os cs) state ≡ with_terminals ts os cs state
terminals_told [] [] [] state one = refl
terminals_told [] [] (c ∷ cs) state one = absurd one
terminals_told [] (o ∷ os) [] state one = absurd one
terminals_told [] (o ∷ os) (c ∷ cs) state one = absurd one
terminals_told (t ∷ ts) [] [] state one = absurd one
terminals_told (t ∷ ts) [] (c ∷ cs) state one = absurd one
terminals_told (t ∷ ts) (o ∷ os) [] state one = absurd one
terminals_told (t ∷ ts) (o ∷ os) (c ∷ cs) state one =
    terminals_told ts os cs (with_record_told (Terminal t.name t.last o.next t.stopped c.conversation) state) one.2
    ∙ terminals_step t o c ts os cs state one.0 one.1

codes_told : (cs : List CodeSetting) (state : LastingState) → with_records_told (map code_record cs) state ≡ record state { codes = put_all of_code put_code cs state.codes }
codes_told [] state = refl
codes_told (c ∷ cs) state = codes_told cs (with_record_told (code_record c) state)

-- ---- messages

abbrev with_messages : LastingState → List Message → LastingState
with_messages state ms = record state { messages = ms }

messages_told : (ms : List Message) (state : LastingState) → with_records_told (map message_record ms) state ≡ with_messages state (state.messages ++ ms)
messages_told [] state = ap (with_messages state) (sym (append-nil state.messages))
messages_told (m ∷ ms) state =
    messages_told ms (with_record_told (message_record m) state) ∙ ap (with_messages state) (append_assoc state.messages (m ∷ []) ms)

-- ---- replies

abbrev with_outputs : LastingState → List TerminalReplies → LastingState
with_outputs state os = record state { outputs = os }

abbrev with_more : TerminalReplies → List Reply → TerminalReplies
with_more x rs = record x { replies = x.replies ++ rs }

module _ (names : List (List ℕ)) (apart : AreApart names) where
  kept_among : (r : Reply) (done : List TerminalReplies) (x : TerminalReplies) (rest : List TerminalReplies) → map of_output (done ++ x ∷ rest) ≡ names → outputs.with_terminal x.terminal (with_kept r.number r.segments) (done ++ x ∷ rest) ≡ done ++ with_more x (r ∷ []) ∷ rest
  kept_among r done x rest are =
      output_named x.terminal (with_kept r.number r.segments) (done ++ x ∷ rest)
      ∙ change_among done x rest (with_kept r.number r.segments) (position (λ y. bytes_eq y.terminal x.terminal) (done ++ x ∷ rest)) (place_among of_output names apart done x rest are)

  same_names : (done : List TerminalReplies) (x y : TerminalReplies) (rest : List TerminalReplies) → x.terminal ≡ y.terminal → map of_output (done ++ x ∷ rest) ≡ names → map of_output (done ++ y ∷ rest) ≡ names
  same_names done x y rest same are =
      map_among of_output done y rest ∙ ap (λ (n : List ℕ). map of_output done ++ n ∷ map of_output rest) (sym same) ∙ sym (map_among of_output done x rest) ∙ are

  replies_told : (rs : List Reply) (done : List TerminalReplies) (x : TerminalReplies) (rest : List TerminalReplies) (state : LastingState) → map of_output (done ++ x ∷ rest) ≡ names
      → with_records_told (map (reply_record x.terminal) rs) (with_outputs state (done ++ x ∷ rest)) ≡ with_outputs state (done ++ with_more x rs ∷ rest)
  replies_told [] done x rest state are =
      ap (λ (l : List Reply). with_outputs state (done ++ record x { replies = l } ∷ rest)) (sym (append-nil x.replies))
  replies_told (r ∷ rs) done x rest state are =
      ap (λ (l : List TerminalReplies). with_records_told (map (reply_record x.terminal) rs) (with_outputs state l)) (kept_among r done x rest are)
      ∙ replies_told rs done (with_more x (r ∷ [])) rest state (same_names done x (with_more x (r ∷ [])) rest refl are)
      ∙ ap (λ (l : List Reply). with_outputs state (done ++ record x { replies = l } ∷ rest)) (append_assoc x.replies (r ∷ []) rs)

  all_replies_told : (os done : List TerminalReplies) (state : LastingState) → map of_output (done ++ os) ≡ names → with_records_told (reply_records os) (with_outputs state (done ++ map without_replies os)) ≡ with_outputs state (done ++ os)
  all_replies_told [] done state are = refl
  all_replies_told (o ∷ os) done state are =
      let bare : map of_output (done ++ without_replies o ∷ map without_replies os) ≡ names =
      map_among of_output done (without_replies o) (map without_replies os)
      ∙ ap (λ (l : List (List ℕ)). map of_output done ++ o.terminal ∷ l) (names_stay os)
      ∙ sym (map_among of_output done o os) ∙ are in
      told_both (map (reply_record o.terminal) o.replies) (reply_records os) (with_outputs state (done ++ without_replies o ∷ map without_replies os))
      ∙ ap (with_records_told (reply_records os))
      (replies_told o.replies done (without_replies o) (map without_replies os) state bare
      ∙ ap (with_outputs state) (regroup done o (map without_replies os)))
      ∙ all_replies_told os (done ++ o ∷ []) state (ap (map of_output) (sym (regroup done o os)) ∙ are)
      ∙ ap (with_outputs state) (sym (regroup done o os))

-- ---- all

fresh_terminals : (ts : List TerminalState) → Pairs (Puts name_of put_terminal (λ t. t)) ts (map fresh_terminal_state (map name_of ts))
fresh_terminals [] = tt
fresh_terminals (t ∷ ts) = (record { named = refl; leaves = refl; kept = refl }, fresh_terminals ts)

fresh_outputs : (os : List TerminalReplies) → Pairs (Puts of_output put_output without_replies) os (map outputs.fresh_terminal (map of_output os))
fresh_outputs [] = tt
fresh_outputs (o ∷ os) = (record { named = refl; leaves = refl; kept = refl }, fresh_outputs os)

fresh_conversations : (cs : List TerminalConversation) → Pairs (Puts of_conversation put_conversation (λ c. c)) cs (map conversations.without_conversation (map of_conversation cs))
fresh_conversations [] = tt
fresh_conversations (c ∷ cs) = (record { named = refl; leaves = refl; kept = refl }, fresh_conversations cs)

put_code_is : (c y : CodeSetting) → y.code ≡ c.code → put_code c y ≡ c
put_code_is c y same = ap (λ (n : List ℕ). record c { code = n }) same

code_heads : (a b : List ℕ) (more others : List (List ℕ)) → a ∷ more ≡ b ∷ others → (a ≡ b) × (more ≡ others)
code_heads a b more others is = (ap (λ (l : List (List ℕ)). slice_index_or l 0 a) is, ap (λ (l : List (List ℕ)). drop 1 l) is)

first_codes : (cs : List CodeSetting) (codes : List Code) → map of_code cs ≡ map (λ code. code.transaction.code) codes → Pairs (Puts of_code put_code (λ c. c)) cs (map first_setting codes)
first_codes [] [] is = tt
first_codes [] (code ∷ codes) is = absurd cc
first_codes (c ∷ cs) [] is = absurd cc
first_codes (c ∷ cs) (code ∷ codes) is =
    let heads = code_heads c.code code.transaction.code (map of_code cs) (map (λ code. code.transaction.code) codes) is in
    (record { named = sym heads.0; leaves = put_code_is c (first_setting code) (sym heads.0); kept = refl }, first_codes cs codes heads.1)

map_same : {X : Type 0} (xs : List X) → map (λ x. x) xs ≡ xs
map_same [] = refl
map_same (x ∷ xs) = ap (λ (l : List _). x ∷ l) (map_same xs)

pub one_names : (ts : List TerminalState) (os : List TerminalReplies) (cs : List TerminalConversation) → map of_output os ≡ map name_of ts → map of_conversation cs ≡ map name_of ts → AreOne ts os cs
one_names [] [] [] a b = tt
one_names [] [] (c ∷ cs) a b = absurd cc
one_names [] (o ∷ os) cs a b = absurd cc
one_names (t ∷ ts) [] cs a b = absurd cc
one_names (t ∷ ts) (o ∷ os) [] a b = absurd cc
one_names (t ∷ ts) (o ∷ os) (c ∷ cs) a b =
    let left = code_heads o.terminal t.name (map of_output os) (map name_of ts) a in
    let right = code_heads c.terminal t.name (map of_conversation cs) (map name_of ts) b in
    (left.0, right.0, one_names ts os cs left.1 right.1)

named_states : (ns : List (List ℕ)) → map name_of (map fresh_terminal_state ns) ≡ ns
named_states [] = refl
named_states (n ∷ ns) = ap (λ (l : List (List ℕ)). n ∷ l) (named_states ns)

named_outputs : (ns : List (List ℕ)) → map of_output (map outputs.fresh_terminal ns) ≡ ns
named_outputs [] = refl
named_outputs (n ∷ ns) = ap (λ (l : List (List ℕ)). n ∷ l) (named_outputs ns)

named_conversations : (ns : List (List ℕ)) → map of_conversation (map conversations.without_conversation ns) ≡ ns
named_conversations [] = refl
named_conversations (n ∷ ns) = ap (λ (l : List (List ℕ)). n ∷ l) (named_conversations ns)

named_codes : (codes : List Code) → map of_code (map first_setting codes) ≡ map (λ code. code.transaction.code) codes
named_codes [] = refl
named_codes (c ∷ cs) = ap (λ (l : List (List ℕ)). c.transaction.code ∷ l) (named_codes cs)

-- what lasts, but for the rows
abbrev pub without_rows : System → LastingState → LastingState
without_rows system state = record state { rows = map (λ _. []) system.databases }

module _ (system : System) (state : LastingState) (terminals_apart : AreApart system.terminals) (codes_apart : AreApart (code_names system)) (is : IsOfSystem system state) where
  all_terminals : put_all name_of put_terminal state.terminals (map fresh_terminal_state system.terminals) ≡ state.terminals
  all_terminals =
      put_each name_of put_terminal (λ t. t) system.terminals terminals_apart state.terminals (map fresh_terminal_state system.terminals) []
      (subst (λ (ns : List (List ℕ)). Pairs (Puts name_of put_terminal (λ t. t)) state.terminals (map fresh_terminal_state ns)) is.terminals (fresh_terminals state.terminals))
      (named_states system.terminals) ∙ map_same state.terminals

  all_outputs : put_all of_output put_output state.outputs (map outputs.fresh_terminal system.terminals) ≡ map without_replies state.outputs
  all_outputs =
      put_each of_output put_output without_replies system.terminals terminals_apart state.outputs (map outputs.fresh_terminal system.terminals) []
      (subst (λ (ns : List (List ℕ)). Pairs (Puts of_output put_output without_replies) state.outputs (map outputs.fresh_terminal ns)) is.outputs (fresh_outputs state.outputs))
      (named_outputs system.terminals)

  all_conversations : put_all of_conversation put_conversation state.conversations (map conversations.without_conversation system.terminals) ≡ state.conversations
  all_conversations =
      put_each of_conversation put_conversation (λ c. c) system.terminals terminals_apart state.conversations (map conversations.without_conversation system.terminals) []
      (subst (λ (ns : List (List ℕ)). Pairs (Puts of_conversation put_conversation (λ c. c)) state.conversations (map conversations.without_conversation ns)) is.conversations (fresh_conversations state.conversations))
      (named_conversations system.terminals) ∙ map_same state.conversations

  all_codes : put_all of_code put_code state.codes (map first_setting system.codes) ≡ state.codes
  all_codes =
      put_each of_code put_code (λ c. c) (code_names system) codes_apart state.codes (map first_setting system.codes) []
      (first_codes state.codes system.codes is.codes)
      (named_codes system.codes) ∙ map_same state.codes

  of_terminals : with_records_told (terminal_records state.terminals state.outputs state.conversations) (record (empty_state system) { next_id = state.next_id; steps = state.steps })
      ≡ with_lists (record (empty_state system) { next_id = state.next_id; steps = state.steps }) state.terminals (map without_replies state.outputs) state.conversations
  of_terminals =
      let base : LastingState = record (empty_state system) { next_id = state.next_id; steps = state.steps } in
      terminals_told state.terminals state.outputs state.conversations base (one_names state.terminals state.outputs state.conversations (is.outputs ∙ sym is.terminals) (is.conversations ∙ sym is.terminals))
      ∙ ap (λ (l : List TerminalState). with_lists base l (put_all of_output put_output state.outputs base.outputs) (put_all of_conversation put_conversation state.conversations base.conversations)) all_terminals
      ∙ ap (λ (l : List TerminalReplies). with_lists base state.terminals l (put_all of_conversation put_conversation state.conversations base.conversations)) all_outputs
      ∙ ap (λ (l : List TerminalConversation). with_lists base state.terminals (map without_replies state.outputs) l) all_conversations

  -- the state is told again
  pub state_told : (checkpoint unit : ℕ) (changes : List Record) → AllByRecursion IsChange changes → snapshot_state system (snapshot_records checkpoint unit state changes) ≡ without_rows system state
  state_told checkpoint unit changes are =
      let base : LastingState = record (empty_state system) { next_id = state.next_id; steps = state.steps } in
      let one : LastingState = with_lists base state.terminals (map without_replies state.outputs) state.conversations in
      let two : LastingState = record one { codes = state.codes } in
      let three : LastingState = record two { messages = state.messages } in
      told_both (terminal_records state.terminals state.outputs state.conversations) (map code_record state.codes ++ (map message_record state.messages ++ (reply_records state.outputs ++ changes))) base
      ∙ ap (with_records_told (map code_record state.codes ++ (map message_record state.messages ++ (reply_records state.outputs ++ changes)))) of_terminals
      ∙ told_both (map code_record state.codes) (map message_record state.messages ++ (reply_records state.outputs ++ changes)) one
      ∙ ap (with_records_told (map message_record state.messages ++ (reply_records state.outputs ++ changes))) (codes_told state.codes one ∙ ap (λ (l : List CodeSetting). record one { codes = l }) all_codes)
      ∙ told_both (map message_record state.messages) (reply_records state.outputs ++ changes) two
      ∙ ap (with_records_told (reply_records state.outputs ++ changes)) (messages_told state.messages two)
      ∙ told_both (reply_records state.outputs) changes (with_outputs three (map without_replies state.outputs))
      ∙ ap (with_records_told changes) (all_replies_told system.terminals terminals_apart state.outputs [] three is.outputs)
      ∙ changes_told changes (without_rows system state) are
