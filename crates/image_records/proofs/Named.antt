-- The terminals and codes of a state stand in the order of the definition, so a name has the same place in all lists.
use Rattle.std.proofs.Common.{◌≡◌, ℕ, zero, suc, ◌<◌, Bool, true, false, List, [], ◌∷◌, length, get_or, map, refl, sym, ◌∙◌, ap, subst, arith, Some, None, cond}
use Rattle.std.specs.Prelude.{Option, slice_get, slice_set, position}
use Rattle.std.specs.Option.{option_map, option_map_or}
use Rattle.std.specs.Str.{bytes_eq}
use Rattle.std.proofs.lemmas.Option.{slice_get-get_or}
use Rattle.model_messages.specs.declared.conversation.TerminalConversation.{TerminalConversation}
use Rattle.model_messages.specs.Terminals as conversations
use Rattle.model_messages.specs.declared.replies.TerminalReplies.{TerminalReplies}
use Rattle.model_messages.specs.Outputs as outputs
use Rattle.model_system.specs.declared.code.Code.{Code}
use Rattle.model_system.specs.System.{System}
use Rattle.model_system.specs.Codes.{code_place}
use Rattle.model_system.specs.Lists.{change_at}
use Rattle.model_machine.specs.declared.lasting.TerminalState.{TerminalState}
use Rattle.model_machine.specs.declared.lasting.CodeSetting.{CodeSetting}
use Rattle.model_machine.specs.Machine.{LastingState, terminal_place, empty_state, first_setting, fresh_terminal_state}
use Rattle.log_records.specs.declared.record.Record.{Record}
use Rattle.log_records.specs.declared.record.Record.TheVariants.{Input, Command, Reply, Discarded, Completed, Acknowledged, SyncPoint, Checkpoint, Terminal, Code as CodeRecord, Change}
use Rattle.model_image.specs.Snapshot.{code_names, with_record_told, with_kept}
use Rattle.image_records.specs.ChangeRecords.{AreNamesKept, of_state, of_output, of_conversation, of_setting}
use Rattle.tm_types.proofs.Positions.{found, position_more}

-- ---- places

mapped : {X : Type 0} (name : X → List ℕ) (n : List ℕ) (x : X) (xs : List X) (b : Bool) → bytes_eq (name x) n ≡ b → position (λ y. bytes_eq (name y) n) xs ≡ position (λ m. bytes_eq m n) (map name xs)
    → position (λ y. bytes_eq (name y) n) (x ∷ xs) ≡ position (λ m. bytes_eq m n) (map name (x ∷ xs))
mapped name n x xs b h more =
    position_more (λ y. bytes_eq (name y) n) x xs b h
    ∙ ap (λ (r : Option ℕ). cond b (Some 0) (option_map (λ k. suc k) r)) more
    ∙ sym (position_more (λ m. bytes_eq m n) (name x) (map name xs) b h)

position_map : {X : Type 0} (name : X → List ℕ) (n : List ℕ) (xs : List X) → position (λ y. bytes_eq (name y) n) xs ≡ position (λ m. bytes_eq m n) (map name xs)
position_map name n [] = refl
position_map name n (x ∷ xs) = mapped name n x xs (bytes_eq (name x) n) refl (position_map name n xs)

-- where the names are these, a name has its place there
pub placed : {X : Type 0} (name : X → List ℕ) (names : List (List ℕ)) (n : List ℕ) (xs : List X) (place : Option ℕ) → map name xs ≡ names → place ≡ position (λ m. bytes_eq m n) names → position (λ y. bytes_eq (name y) n) xs ≡ place
placed name names n xs place are is =
    position_map name n xs ∙ ap (λ (l : List (List ℕ)). position (λ m. bytes_eq m n) l) are ∙ sym is

pub placed_code : (system : System) (n : List ℕ) (xs : List CodeSetting) (place : Option ℕ) → map of_setting xs ≡ code_names system → place ≡ code_place system.codes n → position (λ y. bytes_eq y.code n) xs ≡ place
placed_code system n xs place are is =
    placed of_setting (code_names system) n xs place are (is ∙ position_map (λ (code : Code). code.transaction.code) n system.codes)

map_size : {X : Type 0} (name : X → List ℕ) (xs : List X) → length (map name xs) ≡ length xs
map_size name [] = refl
map_size name (x ∷ xs) = ap suc (map_size name xs)

pub state_within : (names : List (List ℕ)) (xs : List TerminalState) (place : ℕ) → map of_state xs ≡ names → place < length names → place < length xs
state_within names xs place are within = omega (arith, ap (length {A = List ℕ}) are, map_size of_state xs, within)

pub output_within : (names : List (List ℕ)) (xs : List TerminalReplies) (place : ℕ) → map of_output xs ≡ names → place < length names → place < length xs
output_within names xs place are within = omega (arith, ap (length {A = List ℕ}) are, map_size of_output xs, within)

pub conversation_within : (names : List (List ℕ)) (xs : List TerminalConversation) (place : ℕ) → map of_conversation xs ≡ names → place < length names → place < length xs
conversation_within names xs place are within = omega (arith, ap (length {A = List ℕ}) are, map_size of_conversation xs, within)

pub setting_within : (system : System) (xs : List CodeSetting) (place : ℕ) → map of_setting xs ≡ code_names system → place < length system.codes → place < length xs
setting_within system xs place are within =
    omega (arith, ap (length {A = List ℕ}) are, map_size of_setting xs, map_size (λ (code : Code). code.transaction.code) system.codes, within)

pub ruleset within_names = (state_within, output_within, conversation_within, setting_within)

-- an element that is put back changed
pub put_at : {X : Type 0} (xs : List X) (i : ℕ) (d new : X) (f : X → X) (place : Option ℕ) → i < length xs → new ≡ f (get_or xs i d) → place ≡ Some i → slice_set xs i new ≡ change_at xs place f
put_at {X} xs i d new f place within is at =
    ap (slice_set xs i) is
    ∙ sym (ap (λ (p : Option ℕ). change_at xs p f) at ∙ ap (λ (found : Option X). option_map_or (λ x. slice_set xs i (f x)) found xs) (slice_get-get_or xs i d within))

-- ---- what a record tells leaves the names

set_names : {X : Type 0} (name : X → List ℕ) (xs : List X) (k : ℕ) (x y : X) → slice_get xs k ≡ Some x → name y ≡ name x → map name (slice_set xs k y) ≡ map name xs
set_names name [] zero x y at same = cc
set_names name [] (suc k) x y at same = cc
set_names name (z ∷ xs) zero x y at same = let e : z ≡ x = cc in ap (λ (n : List ℕ). n ∷ map name xs) (same ∙ ap name (sym e))
set_names name (z ∷ xs) (suc k) x y at same = ap (λ (l : List (List ℕ)). name z ∷ l) (set_names name xs k x y at same)

pub change_names : {X : Type 0} (name : X → List ℕ) (f : X → X) → ((x : X) → name (f x) ≡ name x) → (xs : List X) (place : Option ℕ) → map name (change_at xs place f) ≡ map name xs
change_names name f same xs None = refl
change_names {X} name f same xs (Some k) = by (slice_get xs k) refl where
  by : (at : Option X) → slice_get xs k ≡ at → map name (option_map_or (λ x. slice_set xs k (f x)) at xs) ≡ map name xs
  by None e = refl
  by (Some x) e = set_names name xs k x (f x) e (same x)

pub output_names : (n : List ℕ) (f : TerminalReplies → TerminalReplies) → ((t : TerminalReplies) → of_output (f t) ≡ of_output t) → (ts : List TerminalReplies) → map of_output (outputs.with_terminal n f ts) ≡ map of_output ts
output_names n f same [] = refl
output_names n f same (t ∷ ts) = by (outputs.are_replies_of n t) (output_names n f same ts) where
  by : (b : Bool) → map of_output (outputs.with_terminal n f ts) ≡ map of_output ts → map of_output (cond b (f t ∷ ts) (t ∷ outputs.with_terminal n f ts)) ≡ map of_output (t ∷ ts)
  by true rec = ap (λ (m : List ℕ). m ∷ map of_output ts) (same t)
  by false rec = ap (λ (l : List (List ℕ)). of_output t ∷ l) rec

pub conversation_names : (n : List ℕ) (f : TerminalConversation → TerminalConversation) → ((t : TerminalConversation) → of_conversation (f t) ≡ of_conversation t) → (ts : List TerminalConversation)
    → map of_conversation (conversations.with_terminal n f ts) ≡ map of_conversation ts
conversation_names n f same [] = refl
conversation_names n f same (t ∷ ts) = by (conversations.is_conversation_of n t) (conversation_names n f same ts) where
  by : (b : Bool) → map of_conversation (conversations.with_terminal n f ts) ≡ map of_conversation ts → map of_conversation (cond b (f t ∷ ts) (t ∷ conversations.with_terminal n f ts)) ≡ map of_conversation (t ∷ ts)
  by true rec = ap (λ (m : List ℕ). m ∷ map of_conversation ts) (same t)
  by false rec = ap (λ (l : List (List ℕ)). of_conversation t ∷ l) rec

same_named : (system : System) (old new : LastingState) → AreNamesKept system old → map of_state new.terminals ≡ map of_state old.terminals → map of_output new.outputs ≡ map of_output old.outputs
    → map of_conversation new.conversations ≡ map of_conversation old.conversations → map of_setting new.codes ≡ map of_setting old.codes → AreNamesKept system new
same_named system old new named terminals outputs conversations codes = record {
  terminals = terminals ∙ named.terminals;
  outputs = outputs ∙ named.outputs;
  conversations = conversations ∙ named.conversations;
  codes = codes ∙ named.codes;
}

pub told_named : (system : System) (r : Record) (old : LastingState) → AreNamesKept system old → AreNamesKept system (with_record_told r old)
told_named system (Checkpoint checkpoint next_id next_unit steps) old named =
    same_named system old (with_record_told (Checkpoint checkpoint next_id next_unit steps) old) named refl refl refl refl
told_named system (Terminal name last next stopped conversation) old named =
    same_named system old (with_record_told (Terminal name last next stopped conversation) old) named
    (change_names of_state (λ t. record t { last = last; stopped = stopped }) (λ t. refl) old.terminals (terminal_place old.terminals name))
    (output_names name (λ t. record t { next = next }) (λ t. refl) old.outputs)
    (conversation_names name (conversations.with_conversation conversation) (λ t. refl) old.conversations)
    refl
told_named system (CodeRecord name stopped class priority) old named =
    same_named system old (with_record_told (CodeRecord name stopped class priority) old) named refl refl refl
    (change_names of_setting (λ c. record c { stopped = stopped; class = class; priority = priority }) (λ c. refl) old.codes (position (λ code. bytes_eq code.code name) old.codes))
told_named system (Input unit id origin code number conversation segments) old named =
    same_named system old (with_record_told (Input unit id origin code number conversation segments) old) named refl refl refl refl
told_named system (Reply unit terminal number segments) old named =
    same_named system old (with_record_told (Reply unit terminal number segments) old) named refl
    (output_names terminal (with_kept number segments) (λ t. refl) old.outputs) refl refl
told_named system (Command text) old named = named
told_named system (Discarded unit id abend number) old named = named
told_named system (Completed unit id) old named = named
told_named system (Acknowledged terminal number) old named = named
told_named system (SyncPoint unit pad) old named = named
told_named system (Change unit database slot before after) old named = named

pub named_told : (system : System) (r : Record) (old new : LastingState) → AreNamesKept system old → new ≡ with_record_told r old → AreNamesKept system new
named_told system r old new named is = subst (AreNamesKept system) (sym is) (told_named system r old named)

-- ---- the empty state

again : {X : Type 0} (name : X → List ℕ) (make : List ℕ → X) → ((n : List ℕ) → name (make n) ≡ n) → (names : List (List ℕ)) → map name (map make names) ≡ names
again name make same [] = refl
again name make same (n ∷ names) = ap (λ (m : List ℕ). m ∷ map name (map make names)) (same n) ∙ ap (λ (l : List (List ℕ)). n ∷ l) (again name make same names)

codes_again : (codes : List Code) → map of_setting (map first_setting codes) ≡ map (λ code. code.transaction.code) codes
codes_again [] = refl
codes_again (c ∷ codes) = ap (λ (l : List (List ℕ)). c.transaction.code ∷ l) (codes_again codes)

pub empty_named : (system : System) → AreNamesKept system (empty_state system)
empty_named system = record {
  terminals = again of_state fresh_terminal_state (λ n. refl) system.terminals;
  outputs = again of_output outputs.fresh_terminal (λ n. refl) system.terminals;
  conversations = again of_conversation conversations.without_conversation (λ n. refl) system.terminals;
  codes = codes_again system.codes;
}

pub named_empty : (system : System) (lasting : LastingState) → lasting ≡ empty_state system → AreNamesKept system lasting
named_empty system lasting is = subst (AreNamesKept system) (sym is) (empty_named system)
