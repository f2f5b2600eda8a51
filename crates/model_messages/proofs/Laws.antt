-- What follows of the queues when a message comes, changes hands or goes.
use Rattle.std.proofs.Common.{◌≡◌, ◌≢◌, ℕ, ◌<◌, Bool, true, false, not, List, [], ◌∷◌, ◌++◌, refl, sym, ap, ◌∙◌, subst}
use Rattle.std.specs.Prelude.{Option, Some, None, if◌then◌else◌, ◌==◌}
use Rattle.std.specs.Option.{option_map}
use Rattle.std.specs.List.{find, filter}
use Rattle.std.proofs.lemmas.Bool.{eqb-true, ne_eqb}
use Rattle.tm_types.specs.declared.message.Message.{Message}
use Rattle.model_messages.specs.declared.queued.Queued.{Queued}
use Rattle.model_messages.specs.Queue.{IsNewId, has_id, queued_at, queued_message, messages_of, with_message, with_holder, without_id_queued}

-- what is found under an id has that id
pub found_id : (id : ℕ) (qs : List Queued) (q : Queued) → queued_at id qs ≡ Some q → q.message.id ≡ id
found_id id [] q e = cc
found_id id (p ∷ qs) q e = by (has_id id p) refl e (found_id id qs q)
  where
    by : (b : Bool) → has_id id p ≡ b → (if b then Some p else queued_at id qs) ≡ Some q → (queued_at id qs ≡ Some q → q.message.id ≡ id) → q.message.id ≡ id
    by true same h rest = let here : p ≡ q = cc in subst (λ r. r.message.id ≡ id) here (eqb-true p.message.id id same)
    by false same h rest = rest h

pub found_message : (id : ℕ) (qs : List Queued) (m : Message) → queued_message id qs ≡ Some m → m.id ≡ id
found_message id qs m e = by (queued_at id qs) refl e
  where
    by : (found : Option Queued) → queued_at id qs ≡ found → option_map (λ q. q.message) found ≡ Some m → m.id ≡ id
    by (Some q) is h = let here : q.message ≡ m = cc in subst (λ n. n.id ≡ id) here (found_id id qs q is)
    by None is h = cc

-- an id that is above all stays so when a message goes
pub new_id_without : (next id : ℕ) (qs : List Queued) → IsNewId next qs → IsNewId next (without_id_queued id qs)
new_id_without next id [] h = tt
new_id_without next id (q ∷ qs) h = by (not (has_id id q)) (new_id_without next id qs h.1)
  where
    by : (b : Bool) → IsNewId next (without_id_queued id qs) → IsNewId next (if b then q ∷ without_id_queued id qs else without_id_queued id qs)
    by true rest = (h.0, rest)
    by false rest = rest

-- what has an id is found again behind other messages
pub found_behind : (id : ℕ) (qs others : List Queued) (q : Queued) → queued_at id qs ≡ Some q → queued_at id (qs ++ others) ≡ Some q
found_behind id [] others q e = cc
found_behind id (p ∷ qs) others q e = by (has_id id p) e (found_behind id qs others q)
  where
    by : (b : Bool) → (if b then Some p else queued_at id qs) ≡ Some q → (queued_at id qs ≡ Some q → queued_at id (qs ++ others) ≡ Some q)
        → (if b then Some p else queued_at id (qs ++ others)) ≡ Some q
    by true h rest = h
    by false h rest = rest h

-- a message of another id changes nothing for this one
apart : (id other : ℕ) (p : Queued) → id ≢ other → has_id id p ≡ true → has_id other p ≡ false
apart id other p differ same = ne_eqb p.message.id other (λ e. differ (sym (eqb-true p.message.id id same) ∙ e))

pub found_without : (id other : ℕ) (qs : List Queued) → id ≢ other → queued_at id (without_id_queued other qs) ≡ queued_at id qs
found_without id other [] differ = refl
found_without id other (p ∷ qs) differ = by (has_id id p) (has_id other p) refl refl (found_without id other qs differ)
  where
    by : (b c : Bool) → has_id id p ≡ b → has_id other p ≡ c → queued_at id (without_id_queued other qs) ≡ queued_at id qs
        → queued_at id (if not c then p ∷ without_id_queued other qs else without_id_queued other qs) ≡ (if b then Some p else queued_at id qs)
    by true true x y rest = absurd (no-both (sym y ∙ apart id other p differ x))
      where
        no-both : true ≡ false → ⊥
        no-both e = cc
    by false true x y rest = rest
    by true false x y rest = rw x refl
    by false false x y rest = rw x rest

pub found_held : (id other : ℕ) (holder : Option ℕ) (qs : List Queued) → id ≢ other → queued_at id (with_holder other holder qs) ≡ queued_at id qs
found_held id other holder [] differ = refl
found_held id other holder (p ∷ qs) differ = by (has_id id p) (has_id other p) refl refl (found_held id other holder qs differ)
  where
    by : (b c : Bool) → has_id id p ≡ b → has_id other p ≡ c → queued_at id (with_holder other holder qs) ≡ queued_at id qs
        → queued_at id ((if c then record p { holder = holder } else p) ∷ with_holder other holder qs) ≡ (if b then Some p else queued_at id qs)
    by true true x y rest = absurd (no-both (sym y ∙ apart id other p differ x))
      where
        no-both : true ≡ false → ⊥
        no-both e = cc
    by false true x y rest = rw x rest
    by true false x y rest = rw x refl
    by false false x y rest = rw x rest

-- a message that changes hands is found with its new holder
pub found_own : (id : ℕ) (holder : Option ℕ) (qs : List Queued) (q : Queued) → queued_at id qs ≡ Some q
    → queued_at id (with_holder id holder qs) ≡ Some (record q { holder = holder })
found_own id holder [] q e = cc
found_own id holder (p ∷ qs) q e = by (has_id id p) refl e (found_own id holder qs q)
  where
    by : (b : Bool) → has_id id p ≡ b → (if b then Some p else queued_at id qs) ≡ Some q
        → (queued_at id qs ≡ Some q → queued_at id (with_holder id holder qs) ≡ Some (record q { holder = holder }))
        → queued_at id ((if b then record p { holder = holder } else p) ∷ with_holder id holder qs) ≡ Some (record q { holder = holder })
    by true x h rest = let here : p ≡ q = cc in rw x (ap {A = Queued} (λ r. Some (record r { holder = holder })) here)
    by false x h rest = rw x (rest h)

-- the messages themselves
pub messages_held : (id : ℕ) (holder : Option ℕ) (qs : List Queued) → messages_of (with_holder id holder qs) ≡ messages_of qs
messages_held id holder [] = refl
messages_held id holder (q ∷ qs) = by (has_id id q) ∙ ap (λ ms. q.message ∷ ms) (messages_held id holder qs)
  where
    by : (b : Bool) → (if b then record q { holder = holder } else q).message ∷ messages_of (with_holder id holder qs) ≡ q.message ∷ messages_of (with_holder id holder qs)
    by true = refl
    by false = refl

pub messages_behind : (qs : List Queued) (m : Message) → messages_of (with_message m qs) ≡ messages_of qs ++ m ∷ []
messages_behind [] m = refl
messages_behind (q ∷ qs) m = ap (λ ms. q.message ∷ ms) (messages_behind qs m)

pub messages_without : (id : ℕ) (qs : List Queued) → messages_of (without_id_queued id qs) ≡ filter (λ m. not (m.id == id)) (messages_of qs)
messages_without id [] = refl
messages_without id (q ∷ qs) = by (has_id id q) (messages_without id qs)
  where
    by : (b : Bool) → messages_of (without_id_queued id qs) ≡ filter (λ m. not (m.id == id)) (messages_of qs)
        → messages_of (if not b then q ∷ without_id_queued id qs else without_id_queued id qs) ≡ (if not b then q.message ∷ filter (λ m. not (m.id == id)) (messages_of qs) else filter (λ m. not (m.id == id)) (messages_of qs))
    by true rest = rest
    by false rest = ap (λ ms. q.message ∷ ms) rest

-- a message is found among the messages as it is in the queues
pub message_found : (id : ℕ) (qs : List Queued) → find (λ m. m.id == id) (messages_of qs) ≡ queued_message id qs
message_found id [] = refl
message_found id (q ∷ qs) = by (has_id id q) (message_found id qs)
  where
    by : (b : Bool) → find (λ m. m.id == id) (messages_of qs) ≡ queued_message id qs
        → (if b then Some q.message else find (λ m. m.id == id) (messages_of qs)) ≡ option_map (λ p. p.message) (if b then Some q else queued_at id qs)
    by true rest = refl
    by false rest = rest

pub new_id_held : (next id : ℕ) (holder : Option ℕ) (qs : List Queued) → IsNewId next qs → IsNewId next (with_holder id holder qs)
new_id_held next id holder [] h = tt
new_id_held next id holder (q ∷ qs) h = (by (has_id id q), new_id_held next id holder qs h.1)
  where
    by : (b : Bool) → (if b then record q { holder = holder } else q).message.id < next
    by true = h.0
    by false = h.0
