-- How many messages of a code no region has, when messages come, change hands and go.
use Rattle.std.proofs.Common.{◌≡◌, ℕ, suc, ◌+◌, Bool, true, false, not, ◌&&◌, ◌||◌, cond, List, [], ◌∷◌, ◌++◌, map, length, refl, sym, ap, ◌∙◌}
use Rattle.std.specs.Prelude.{Option, Some, None, if◌then◌else◌}
use Rattle.std.specs.Option.{is_some, is_none}
use Rattle.std.specs.Str.{bytes_eq}
use Rattle.std.specs.List.{filter, list_any, AllByRecursion}
use Rattle.std.proofs.lemmas.List.{append-nil}
use Rattle.std.proofs.lemmas.List.Elements.{filter-append}
use Rattle.std.proofs.lemmas.List.Sums.{length-filter}
use Rattle.std.proofs.lemmas.Bool.{eqb-true}
use Rattle.std.proofs.lemmas.Slice.Eq.{bytes_eq-Decides}
use Rattle.tm_types.specs.declared.message.Message.{Message}
use Rattle.model_messages.specs.declared.queued.Queued.{Queued}
use Rattle.model_messages.specs.declared.replies.TerminalReplies.{TerminalReplies}
use Rattle.model_messages.specs.Queue.{has_id, is_free_of, with_message, with_holder, without_id_queued, free_count}
use Rattle.model_messages.specs.declared.ended_message.EndedMessage.{EndedMessage}
use Rattle.model_machine.specs.Machine.{Slot, is_held}
use Rattle.lasting_state.specs.SentOutputs.{is_switched, outputs_to_codes, switched_message, switched_messages, with_messages}
use Rattle.region_work.specs.WorkEnds.{destinations}
use Rattle.tm_machine.specs.Parts.{AreHoldersTold}
use Rattle.lasting_state.proofs.Finished.{waiting}

pub or_none : (a b : Bool) → (a || b) ≡ false → (a ≡ false) × (b ≡ false)
or_none true b e = cc
or_none false b e = (refl, e)

pub other_name : (a b : List ℕ) → bytes_eq a b ≡ false → bytes_eq b a ≡ false
other_name a b e = by (bytes_eq b a) refl
  where
    by : (c : Bool) → bytes_eq b a ≡ c → bytes_eq b a ≡ false
    by false f = f
    by true f = let clash : true ≡ false = sym ((bytes_eq-Decides a b).1 (sym ((bytes_eq-Decides b a).0 f))) ∙ e in absurd (cc)

by_length : (name : List ℕ) (old new : List Queued) → filter (is_free_of name) new ≡ filter (is_free_of name) old → free_count name new ≡ free_count name old
by_length name old new e = sym (length-filter (is_free_of name) new) ∙ ap length e ∙ length-filter (is_free_of name) old

-- messages of other codes come
filter_none : (p : Queued → Bool) (q : Queued) (qs : List Queued) → p q ≡ false → filter p (q ∷ qs) ≡ filter p qs
filter_none p q qs e = ap (λ b. cond b (q ∷ filter p qs) (filter p qs)) e

none_switched : (name origin : List ℕ) (terminals : List TerminalReplies) (outputs : List EndedMessage) (next : ℕ) → list_any (λ n. bytes_eq name n) (destinations outputs) ≡ false
    → filter (is_free_of name) (map waiting (switched_messages origin (outputs_to_codes terminals outputs) next)) ≡ []
none_switched name origin terminals [] next h = refl
none_switched name origin terminals (output ∷ outputs) next h =
    let parts = or_none (bytes_eq name output.to) (list_any (λ n. bytes_eq name n) (destinations outputs)) h in
    by (is_switched terminals output) (other_name name output.to parts.0) (λ n. none_switched name origin terminals outputs n parts.1)
  where
    by : (b : Bool) → bytes_eq output.to name ≡ false
        → ((n : ℕ) → filter (is_free_of name) (map waiting (switched_messages origin (outputs_to_codes terminals outputs) n)) ≡ [])
        → filter (is_free_of name) (map waiting (switched_messages origin (cond b (output ∷ outputs_to_codes terminals outputs) (outputs_to_codes terminals outputs)) next)) ≡ []
    by true other rest =
        filter_none (is_free_of name) (waiting (switched_message origin output next)) _ (ap (λ b. b && true) other) ∙ rest (next + 1)
    by false other rest = rest next

pub count_sent : (name origin : List ℕ) (terminals : List TerminalReplies) (outputs : List EndedMessage) (next : ℕ) (queued : List Queued)
    → list_any (λ n. bytes_eq name n) (destinations outputs) ≡ false
    → free_count name (with_messages (switched_messages origin (outputs_to_codes terminals outputs) next) queued) ≡ free_count name queued
count_sent name origin terminals outputs next queued h =
    by_length name queued (with_messages (switched_messages origin (outputs_to_codes terminals outputs) next) queued)
    (filter-append (is_free_of name) queued (map waiting (switched_messages origin (outputs_to_codes terminals outputs) next))
    ∙ ap (λ qs. filter (is_free_of name) queued ++ qs) (none_switched name origin terminals outputs next h) ∙ append-nil (filter (is_free_of name) queued))

pub count_added : (name : List ℕ) (message : Message) (queued : List Queued) → bytes_eq name message.code ≡ false
    → free_count name (with_message message queued) ≡ free_count name queued
count_added name message queued h =
    by_length name queued (with_message message queued)
    (filter-append (is_free_of name) queued (waiting message ∷ [])
    ∙ ap (λ qs. filter (is_free_of name) queued ++ qs) (filter_none (is_free_of name) (waiting message) [] (ap (λ b. b && true) (other_name name message.code h)))
    ∙ append-nil (filter (is_free_of name) queued))

-- a message that a region has goes
has_holder : (holder : Option ℕ) → is_some holder ≡ true → is_none holder ≡ false
has_holder (Some h) e = refl
has_holder None e = cc

and_none : (a : Bool) → (a && false) ≡ false
and_none true = refl
and_none false = refl

pub count_without : (name : List ℕ) (id : ℕ) (slots : List (Option Slot)) (queued : List Queued) → is_held slots id ≡ true → AreHoldersTold slots queued
    → free_count name (without_id_queued id queued) ≡ free_count name queued
count_without name id slots queued held told = by_length name queued (without_id_queued id queued) (same queued told)
  where
    same : (qs : List Queued) → AreHoldersTold slots qs → filter (is_free_of name) (without_id_queued id qs) ≡ filter (is_free_of name) qs
    same [] t = refl
    same (q ∷ qs) t = by (has_id id q) refl (is_free_of name q) refl (same qs t.1)
      where
        by : (b : Bool) → has_id id q ≡ b → (c : Bool) → is_free_of name q ≡ c → filter (is_free_of name) (without_id_queued id qs) ≡ filter (is_free_of name) qs
            → filter (is_free_of name) (cond (not b) (q ∷ without_id_queued id qs) (without_id_queued id qs)) ≡ cond c (q ∷ filter (is_free_of name) qs) (filter (is_free_of name) qs)
        by true e true f rest =
            let some : is_some q.holder ≡ true = sym t.0 ∙ ap (is_held slots) (eqb-true q.message.id id e) ∙ held in
            let clash : true ≡ false = sym f ∙ ap (λ b. bytes_eq q.message.code name && b) (has_holder q.holder some) ∙ and_none (bytes_eq q.message.code name) in
            absurd (cc)
        by true e false f rest = rest
        by false e true f rest = ap (λ b. cond b (q ∷ filter (is_free_of name) (without_id_queued id qs)) (filter (is_free_of name) (without_id_queued id qs))) f ∙ ap (λ r. q ∷ r) rest
        by false e false f rest = ap (λ b. cond b (q ∷ filter (is_free_of name) (without_id_queued id qs)) (filter (is_free_of name) (without_id_queued id qs))) f ∙ rest

-- a message of another code changes hands
pub count_held : (name code : List ℕ) (id : ℕ) (holder : Option ℕ) (queued : List Queued) → bytes_eq name code ≡ false
    → AllByRecursion (λ q. has_id id q ≡ true → q.message.code ≡ code) queued
    → free_count name (with_holder id holder queued) ≡ free_count name queued
count_held name code id holder queued other codes =
    sym (length-filter (is_free_of name) (with_holder id holder queued)) ∙ same queued codes ∙ length-filter (is_free_of name) queued
  where
    same : (qs : List Queued) → AllByRecursion (λ q. has_id id q ≡ true → q.message.code ≡ code) qs
        → length (filter (is_free_of name) (with_holder id holder qs)) ≡ length (filter (is_free_of name) qs)
    same [] t = refl
    same (q ∷ qs) t = by (has_id id q) refl (is_free_of name q) refl (same qs t.1)
      where
        not_of : has_id id q ≡ true → bytes_eq q.message.code name ≡ false
        not_of e = ap (λ c. bytes_eq c name) (t.0 e) ∙ other_name name code other

        by : (b : Bool) → has_id id q ≡ b → (c : Bool) → is_free_of name q ≡ c → length (filter (is_free_of name) (with_holder id holder qs)) ≡ length (filter (is_free_of name) qs)
            → length (filter (is_free_of name) ((if b then record q { holder = holder } else q) ∷ with_holder id holder qs)) ≡ length (cond c (q ∷ filter (is_free_of name) qs) (filter (is_free_of name) qs))
        by true e true f rest = let clash : true ≡ false = sym f ∙ ap (λ b. b && is_none q.holder) (not_of e) in absurd (cc)
        by true e false f rest = ap length (filter_none (is_free_of name) (record q { holder = holder }) (with_holder id holder qs) (ap (λ b. b && is_none holder) (not_of e))) ∙ rest
        by false e true f rest = ap (λ b. length (cond b (q ∷ filter (is_free_of name) (with_holder id holder qs)) (filter (is_free_of name) (with_holder id holder qs)))) f ∙ ap suc rest
        by false e false f rest = ap (λ b. length (cond b (q ∷ filter (is_free_of name) (with_holder id holder qs)) (filter (is_free_of name) (with_holder id holder qs)))) f ∙ rest
