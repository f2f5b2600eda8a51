-- What a change of the messages leaves of what is kept by their codes, and by the terminals of conversations.
use Rattle.std.proofs.Common.{◌≡◌, ℕ, ◌+◌, ◌-◌, ◌<◌, ◌^◌, ◌++◌, ◌∷◌, [], List, refl, sym, ◌∙◌, ap, subst, arith, Bool, true, false, cond, not, ◌&&◌, ◌||◌, Option, Some, None, eqb}
use Rattle.std.specs.Prelude.{map, find, filter}
use Rattle.std.specs.List.{AllByRecursion}
use Rattle.std.specs.List.Sorted.{IsStrictlySortedBy}
use Rattle.std.specs.Map.{keys_of, values_of, lookup}
use Rattle.std.specs.Option.{option_map, is_some, is_none}
use Rattle.std.specs.Ordering.{nat_cmp, is_eq}
use Rattle.std.specs.BTreeMap.{is_at}
use Rattle.std.specs.Str.{bytes_eq}
use Rattle.std.proofs.lemmas.Bool.{eq-eqb, ne_eqb, eqb-true}
use Rattle.std.proofs.lemmas.List.Sums.{sum_by-cons}
use Rattle.tm_types.specs.declared.message.Message.{Message}
use Rattle.model_messages.specs.declared.queued.Queued.{Queued}
use Rattle.model_messages.specs.ConversationInput.{is_conversing, busy_id}
use Rattle.model_messages.specs.Room.{message_bytes, messages_bytes}
use Rattle.model_messages.specs.Queue.{messages_of, IsNewId, has_id, queued_at, queued_message, with_message, with_holder, without_id_queued, is_free_of, first_free, free_count, any_held}
use Rattle.msg_queues.specs.FreeMessages.{free_total}
use Rattle.msg_queues.specs.KeptMessages.{AreKeyed, AreMessagesKept, HasCode}
use Rattle.msg_queues.specs.Places.{flagged_ids, places, conversing_ids, IsIdBehind, with_id, with_flag, without_id, first_open, unheld_count, any_held_id}
use Rattle.msg_queues.specs.Index.{of_name, when, ChangesName, KeepsNames, AreIndexed, AreConversing}
use Rattle.msg_queues.proofs.Keys.{at_key, key_is, first_below, others_ascend}
use Rattle.msg_queues.proofs.ById.{AreOwn, AreAbove, found_is, messages_held, bytes_added}
use Rattle.msg_queues.proofs.Free.{total_added}
use Rattle.msg_queues.proofs.Names.{same_name, same_either}

abbrev Places : Type 0
Places = List (ℕ × Bool)

-- the message of the id, where it is there, has this
abbrev Has : {X : Type 0} → (Message → X) → ℕ → X → List Queued → Type 0
Has f id x queued = AllByRecursion (λ q. has_id id q ≡ true → f q.message ≡ x) queued

-- ---- a new message
added_step : (t u : Bool) (p new : ℕ × Bool) (ps more : Places) → more ≡ cond u (ps ++ new ∷ []) ps → cond t (p ∷ more) more ≡ cond u (cond t (p ∷ ps) ps ++ new ∷ []) (cond t (p ∷ ps) ps)
added_step true true p new ps more e = ap (λ qs. p ∷ qs) e
added_step true false p new ps more e = ap (λ qs. p ∷ qs) e
added_step false true p new ps more e = e
added_step false false p new ps more e = e

-- ---- a removal
removed_step : (id : ℕ) (q : Queued) (f b t u : Bool) (ps more : Places) → has_id id q ≡ b → (b ≡ true → t ≡ u) → more ≡ cond u (without_id id ps) ps
    → cond (not b) (cond t ((q.message.id, f) ∷ more) more) more ≡ cond u (without_id id (cond t ((q.message.id, f) ∷ ps) ps)) (cond t ((q.message.id, f) ∷ ps) ps)
removed_step id q f true true true ps more e g rec = rec ∙ sym (ap (λ b. cond (not b) ((q.message.id, f) ∷ without_id id ps) (without_id id ps)) e)
removed_step id q f true true false ps more e g rec = let clash : true ≡ false = g refl in absurd (cc)
removed_step id q f true false true ps more e g rec = let clash : false ≡ true = g refl in absurd (cc)
removed_step id q f true false false ps more e g rec = rec
removed_step id q f false true true ps more e g rec =
    ap (λ qs. (q.message.id, f) ∷ qs) rec ∙ sym (ap (λ b. cond (not b) ((q.message.id, f) ∷ without_id id ps) (without_id id ps)) e)
removed_step id q f false true false ps more e g rec = ap (λ qs. (q.message.id, f) ∷ qs) rec
removed_step id q f false false true ps more e g rec = rec
removed_step id q f false false false ps more e g rec = rec

module _ (test : Message → Bool) (flag : Queued → Bool) where
  ids_cons : (q : Queued) (queued : List Queued)
      → flagged_ids test flag (q ∷ queued) ≡ cond (test q.message) ((q.message.id, flag q) ∷ flagged_ids test flag queued) (flagged_ids test flag queued)
  ids_cons q queued =
      elim (test q.message) as (λ b. map (λ (r : Queued). (r.message.id, flag r)) (cond b (q ∷ filter (λ r. test r.message) queued) (filter (λ r. test r.message) queued))
      ≡ cond b ((q.message.id, flag q) ∷ flagged_ids test flag queued) (flagged_ids test flag queued)) [
        | true ↦ refl
        | false ↦ refl
      ]

  ids_added : (message : Message) (queued : List Queued) → flag (record { message = message; holder = None }) ≡ false
      → flagged_ids test flag (with_message message queued) ≡ cond (test message) (with_id message.id (flagged_ids test flag queued)) (flagged_ids test flag queued)
  ids_added message [] free =
      ids_cons (record { message = message; holder = None }) [] ∙ ap (λ f. cond (test message) ((message.id, f) ∷ []) []) free
  ids_added message (q ∷ queued) free =
      ids_cons q (with_message message queued)
      ∙ (added_step (test q.message) (test message) (q.message.id, flag q) (message.id, false) (flagged_ids test flag queued) (flagged_ids test flag (with_message message queued)) (ids_added message queued free)
      ∙ ap (λ ps. cond (test message) (with_id message.id ps) ps) (sym (ids_cons q queued)))

  ids_behind : (id : ℕ) (queued : List Queued) → IsNewId id queued → IsIdBehind id (flagged_ids test flag queued)
  ids_behind id [] h = tt
  ids_behind id (q ∷ queued) h = subst (IsIdBehind id) (sym (ids_cons q queued)) (by (test q.message) (ids_behind id queued h.1))
    where
      by : (b : Bool) → IsIdBehind id (flagged_ids test flag queued) → IsIdBehind id (cond b ((q.message.id, flag q) ∷ flagged_ids test flag queued) (flagged_ids test flag queued))
      by true rec = (h.0, rec)
      by false rec = rec

  without_cons : (id : ℕ) (q : Queued) (queued : List Queued)
      → flagged_ids test flag (without_id_queued id (q ∷ queued))
      ≡ cond (not (has_id id q)) (cond (test q.message) ((q.message.id, flag q) ∷ flagged_ids test flag (without_id_queued id queued)) (flagged_ids test flag (without_id_queued id queued))) (flagged_ids test flag (without_id_queued id queued))
  without_cons id q queued = by (has_id id q)
    where
      by : (b : Bool) → flagged_ids test flag (cond (not b) (q ∷ without_id_queued id queued) (without_id_queued id queued))
          ≡ cond (not b) (cond (test q.message) ((q.message.id, flag q) ∷ flagged_ids test flag (without_id_queued id queued)) (flagged_ids test flag (without_id_queued id queued))) (flagged_ids test flag (without_id_queued id queued))
      by true = refl
      by false = ids_cons q (without_id_queued id queued)

  ids_removed : (id : ℕ) (message : Message) (queued : List Queued) → Has (λ m. m) id message queued
      → flagged_ids test flag (without_id_queued id queued) ≡ cond (test message) (without_id id (flagged_ids test flag queued)) (flagged_ids test flag queued)
  ids_removed id message [] h =
      elim (test message) as (λ b. [] ≡ cond b (without_id id []) []) [
        | true ↦ refl
        | false ↦ refl
      ]
  ids_removed id message (q ∷ queued) h =
      without_cons id q queued
      ∙ (removed_step id q (flag q) (has_id id q) (test q.message) (test message) (flagged_ids test flag queued) (flagged_ids test flag (without_id_queued id queued)) refl
      (λ e. ap test (h.0 e)) (ids_removed id message queued h.1)
      ∙ ap (λ ps. cond (test message) (without_id id ps) ps) (sym (ids_cons q queued)))

pub places_behind : (code : List ℕ) (id : ℕ) (queued : List Queued) → IsNewId id queued → IsIdBehind id (places code queued)
places_behind code id queued fresh = ids_behind (λ message. bytes_eq message.code code) (λ q. is_some q.holder) id queued fresh

pub conversing_behind : (terminal : List ℕ) (id : ℕ) (queued : List Queued) → IsNewId id queued → IsIdBehind id (conversing_ids terminal queued)
conversing_behind terminal id queued fresh = ids_behind (is_conversing terminal) (λ _. false) id queued fresh

-- an id that was added and is removed again
pub undone : (id : ℕ) (ids : Places) → IsIdBehind id ids → without_id id (with_id id ids) ≡ ids
undone id [] h = ap (λ b. cond (not b) ((id, false) ∷ []) []) (eq-eqb id id refl)
undone id (p ∷ ids) h =
    let other : eqb p.0 id ≡ false = ne_eqb p.0 id (λ e. absurd (omega (arith, h.0))) in
    λ i. cond (not (other i)) (p ∷ undone id ids h.1 i) (undone id ids h.1 i)

-- ---- a new holder
abbrev place : Queued → ℕ × Bool
place q = (q.message.id, is_some q.holder)

held_step : (id : ℕ) (holder : Option ℕ) (q : Queued) (b t u : Bool) (ps more : Places) → has_id id q ≡ b → (b ≡ true → t ≡ u) → more ≡ cond u (with_flag id (is_some holder) ps) ps
    → cond t (place (cond b (record q { holder = holder }) q) ∷ more) more ≡ cond u (with_flag id (is_some holder) (cond t (place q ∷ ps) ps)) (cond t (place q ∷ ps) ps)
held_step id holder q true true true ps more e g rec = λ i. cond (sym e i) (q.message.id, is_some holder) (place q) ∷ rec i
held_step id holder q true true false ps more e g rec = let clash : true ≡ false = g refl in absurd (cc)
held_step id holder q true false true ps more e g rec = let clash : false ≡ true = g refl in absurd (cc)
held_step id holder q true false false ps more e g rec = rec
held_step id holder q false true true ps more e g rec = λ i. cond (sym e i) (q.message.id, is_some holder) (place q) ∷ rec i
held_step id holder q false true false ps more e g rec = ap (λ qs. place q ∷ qs) rec
held_step id holder q false false true ps more e g rec = rec
held_step id holder q false false false ps more e g rec = rec

same_message : (b : Bool) (q : Queued) (holder : Option ℕ) → (cond b (record q { holder = holder }) q).message ≡ q.message
same_message true q holder = refl
same_message false q holder = refl

abbrev of_code : List ℕ → Message → Bool
of_code code message = bytes_eq message.code code

abbrev is_held : Queued → Bool
is_held q = is_some q.holder

pub places_held : (code : List ℕ) (id : ℕ) (holder : Option ℕ) (own : List ℕ) (queued : List Queued) → HasCode id own queued
    → places code (with_holder id holder queued) ≡ cond (bytes_eq own code) (with_flag id (is_some holder) (places code queued)) (places code queued)
places_held code id holder own [] h =
    elim (bytes_eq own code) as (λ b. [] ≡ cond b (with_flag id (is_some holder) []) []) [
      | true ↦ refl
      | false ↦ refl
    ]
places_held code id holder own (q ∷ queued) h =
    let new : Queued = cond (has_id id q) (record q { holder = holder }) q in
    ids_cons (of_code code) is_held new (with_holder id holder queued)
    ∙ (ap (λ m. cond (bytes_eq m.code code) (place new ∷ places code (with_holder id holder queued)) (places code (with_holder id holder queued))) (same_message (has_id id q) q holder)
    ∙ (held_step id holder q (has_id id q) (bytes_eq q.message.code code) (bytes_eq own code) (places code queued) (places code (with_holder id holder queued)) refl
    (λ e. ap (λ c. bytes_eq c code) (h.0 e)) (places_held code id holder own queued h.1)
    ∙ ap (λ ps. cond (bytes_eq own code) (with_flag id (is_some holder) ps) ps) (sym (ids_cons (of_code code) is_held q queued))))

-- no one that belongs to a conversation is noted as held
conversing_held : (terminal : List ℕ) (id : ℕ) (holder : Option ℕ) (queued : List Queued) → conversing_ids terminal (with_holder id holder queued) ≡ conversing_ids terminal queued
conversing_held terminal id holder [] = refl
conversing_held terminal id holder (q ∷ queued) =
    ids_cons (is_conversing terminal) (λ _. false) (cond (has_id id q) (record q { holder = holder }) q) (with_holder id holder queued)
    ∙ ((λ i. cond (is_conversing terminal (same_message (has_id id q) q holder i)) (((same_message (has_id id q) q holder i).id, false) ∷ conversing_held terminal id holder queued i) (conversing_held terminal id holder queued i))
    ∙ sym (ids_cons (is_conversing terminal) (λ _. false) q queued))

-- ---- what the index tells
first_step : (t : Bool) (o : Option ℕ) (id : ℕ) (ps : Places) (r : Option ℕ) → first_open ps ≡ r → first_open (cond t ((id, is_some o) ∷ ps) ps) ≡ cond (t && is_none o) (Some id) r
first_step true None id ps r e = refl
first_step true (Some o) id ps r e = e
first_step false None id ps r e = e
first_step false (Some o) id ps r e = e

pub first_is : (code : List ℕ) (queued : List Queued) → first_open (places code queued) ≡ first_free code queued
first_is code [] = refl
first_is code (q ∷ queued) =
    ap first_open (ids_cons (of_code code) is_held q queued)
    ∙ (first_step (bytes_eq q.message.code code) q.holder q.message.id (places code queued) (first_free code queued) (first_is code queued)
    ∙ elim (is_free_of code q) as (λ b. cond b (Some q.message.id) (first_free code queued) ≡ option_map (λ r. r.message.id) (cond b (Some q) (find (is_free_of code) queued))) [
      | true ↦ refl
      | false ↦ refl
    ])

pub first_conversing : (terminal : List ℕ) (queued : List Queued) → first_open (conversing_ids terminal queued) ≡ busy_id terminal (messages_of queued)
first_conversing terminal [] = refl
first_conversing terminal (q ∷ queued) =
    ap first_open (ids_cons (is_conversing terminal) (λ _. false) q queued)
    ∙ elim (is_conversing terminal q.message) as (λ b. first_open (cond b ((q.message.id, false) ∷ conversing_ids terminal queued) (conversing_ids terminal queued))
    ≡ option_map (λ (m : Message). m.id) (cond b (Some q.message) (find (is_conversing terminal) (messages_of queued)))) [
      | true ↦ refl
      | false ↦ first_conversing terminal queued
    ]

count_step : (t : Bool) (o : Option ℕ) (id : ℕ) (ps : Places) (n : ℕ) → unheld_count ps ≡ n → unheld_count (cond t ((id, is_some o) ∷ ps) ps) ≡ cond (t && is_none o) 1 0 + n
count_step true None id ps n e = omega (arith, e, sum_by-cons (λ held. cond (not held) 1 0) false (values_of ps))
count_step true (Some o) id ps n e = omega (arith, e, sum_by-cons (λ held. cond (not held) 1 0) true (values_of ps))
count_step false None id ps n e = omega (arith, e)
count_step false (Some o) id ps n e = omega (arith, e)

pub count_is : (code : List ℕ) (queued : List Queued) → unheld_count (places code queued) ≡ free_count code queued
count_is code [] = refl
count_is code (q ∷ queued) =
    ap unheld_count (ids_cons (of_code code) is_held q queued)
    ∙ (count_step (bytes_eq q.message.code code) q.holder q.message.id (places code queued) (free_count code queued) (count_is code queued)
    ∙ sym (sum_by-cons (λ r. cond (is_free_of code r) 1 0) q queued))

taken_step : (t : Bool) (o : Option ℕ) (id : ℕ) (ps : Places) (r : Bool) → any_held_id ps ≡ r → any_held_id (cond t ((id, is_some o) ∷ ps) ps) ≡ (t && is_some o || r)
taken_step true None id ps r e = e
taken_step true (Some o) id ps r e = refl
taken_step false o id ps r e = e

pub held_is : (code : List ℕ) (queued : List Queued) → any_held_id (places code queued) ≡ any_held code queued
held_is code [] = refl
held_is code (q ∷ queued) =
    ap any_held_id (ids_cons (of_code code) is_held q queued)
    ∙ taken_step (bytes_eq q.message.code code) q.holder q.message.id (places code queued) (any_held code queued) (held_is code queued)

-- ---- the message of an id
none_above : {X : Type 0} (f : Message → X) (id : ℕ) (x : X) (es : List (ℕ × Queued)) → AreOwn es → AreAbove id es → Has f id x (values_of es)
none_above f id x [] h g = tt
none_above f id x (e ∷ es) h g =
    (λ is. let clash : true ≡ false = sym is ∙ (ap (λ n. eqb n id) h.0 ∙ (sym (at_key id e.0) ∙ ap is_eq g.0)) in absurd (cc), none_above f id x es h.1 g.1)

has_here : {X : Type 0} (f : Message → X) (id : ℕ) (es : List (ℕ × Queued)) (q : Queued) → AreOwn es → IsStrictlySortedBy nat_cmp (keys_of es) → lookup (is_at (nat_cmp id)) es ≡ Some q
    → Has f id (f q.message) (values_of es)
has_here f id [] q h s e = tt
has_here f id (e ∷ es) q h s here = by (is_at (nat_cmp id) e.0) refl here (has_here f id es q h.1 (others_ascend e es s))
  where
    by : (b : Bool) → is_at (nat_cmp id) e.0 ≡ b → cond b (Some e.1) (lookup (is_at (nat_cmp id)) es) ≡ Some q
        → (lookup (is_at (nat_cmp id)) es ≡ Some q → Has f id (f q.message) (values_of es)) → Has f id (f q.message) (values_of (e ∷ es))
    by true t g rec =
        let some : Some e.1 ≡ Some q = g in
        let same : e.1 ≡ q = cc in
        (λ is. ap (λ r. f r.message) same, none_above f id (f q.message) es h.1 (subst (λ k. AreAbove k es) (key_is id e.0 t) (first_below e es s)))
    by false t g rec =
        (λ is. let clash : true ≡ false = sym is ∙ (ap (λ n. eqb n id) h.0 ∙ (sym (at_key id e.0) ∙ t)) in absurd (cc), rec g)

pub has_code : (id : ℕ) (es : List (ℕ × Queued)) (q : Queued) → AreKeyed es → lookup (is_at (nat_cmp id)) es ≡ Some q → HasCode id q.message.code (values_of es)
has_code id es q h f = has_here (λ m. m.code) id es q h.each h.ascending f

same_id : (id : ℕ) (message : Message) (queued : List Queued) → Some message ≡ queued_message id queued → message.id ≡ id
same_id id message [] e = let clash : Some message ≡ None = e in absurd (cc)
same_id id message (q ∷ queued) e = by (has_id id q) refl e (same_id id message queued)
  where
    by : (b : Bool) → has_id id q ≡ b → Some message ≡ option_map (λ (r : Queued). r.message) (cond b (Some q) (queued_at id queued))
        → (Some message ≡ queued_message id queued → message.id ≡ id) → message.id ≡ id
    by true t g rec =
        let some : Some message ≡ Some q.message = g in
        let same : message ≡ q.message = cc in
        ap (λ (m : Message). m.id) same ∙ eqb-true q.message.id id t
    by false t g rec = rec g

has_message : (id : ℕ) (es : List (ℕ × Queued)) (message : Message) → AreKeyed es → Some message ≡ queued_message id (values_of es) → Has (λ m. m) id message (values_of es)
has_message id es message h found =
    by (lookup (is_at (nat_cmp id)) es) refl (found ∙ ap (option_map (λ (q : Queued). q.message)) (found_is id es h.each))
  where
    by : (o : Option Queued) → lookup (is_at (nat_cmp id)) es ≡ o → Some message ≡ option_map (λ (q : Queued). q.message) o → Has (λ m. m) id message (values_of es)
    by None e g = let clash : Some message ≡ None = g in absurd (cc)
    by (Some q) e g =
        let some : Some message ≡ Some q.message = g in
        let same : message ≡ q.message = cc in
        subst (λ m. Has (λ n. n) id m (values_of es)) (sym same) (has_here (λ m. m) id es q h.each h.ascending e)

-- ---- the index after a change
abbrev Index : Type 0
Index = List (List ℕ × Places)

when_both : (a b : Bool) (f : Places → Places) (ids : Places) → cond (a && b) (f ids) ids ≡ cond a (when b f ids) ids
when_both true b f ids = refl
when_both false b f ids = refl

-- a change of a message's name changes what is kept under each name as it has to be
pub follows : (old new : Index) (name : List ℕ) (change : Places → Places) (before after : List ℕ → Places) → ((c : List ℕ) → of_name c old ≡ before c) → ChangesName name change old new
    → ((c : List ℕ) → after c ≡ cond (bytes_eq name c) (change (before c)) (before c)) → (c : List ℕ) → of_name c new ≡ after c
follows old new name change before after h e g c =
    e c ∙ (ap (λ ps. cond (bytes_eq name c) (change ps) ps) (h c) ∙ sym (g c))

-- an id that was put in and taken out again
pub names_undone : (old mid new : Index) (name : List ℕ) (id : ℕ) → IsIdBehind id (of_name name old)
    → ChangesName name (with_id id) old mid → ChangesName name (without_id id) mid new → KeepsNames old new
names_undone old mid new name id behind e f c = f c ∙ by (bytes_eq name c) refl (e c)
  where
    by : (b : Bool) → bytes_eq name c ≡ b → of_name c mid ≡ cond b (with_id id (of_name c old)) (of_name c old) → cond b (without_id id (of_name c mid)) (of_name c mid) ≡ of_name c old
    by true t g = ap (without_id id) g ∙ undone id (of_name c old) (subst (λ n. IsIdBehind id (of_name n old)) (same_name name c t) behind)
    by false t g = g

-- the same where it is put in and taken out on a condition
when_undone : (old mid new : Index) (name : List ℕ) (condition : Bool) (id : ℕ) → IsIdBehind id (of_name name old)
    → ChangesName name (when condition (with_id id)) old mid → ChangesName name (when condition (without_id id)) mid new → KeepsNames old new
when_undone old mid new name true id behind e f c = names_undone old mid new name id behind e f c
when_undone old mid new name false id behind e f c = f c ∙ (same_either (bytes_eq name c) (of_name c mid) ∙ (e c ∙ same_either (bytes_eq name c) (of_name c old)))

-- ---- all that is kept, after a call
module _ (es fs : List (ℕ × Queued)) (content unheld : ℕ) (codes codes' terminals terminals' : Index) (h : AreMessagesKept es content unheld codes terminals) where
  pub kept_held : (id : ℕ) (holder : Option ℕ) (code : List ℕ) → values_of fs ≡ with_holder id holder (values_of es) → AreKeyed fs → HasCode id code (values_of es)
      → ChangesName code (with_flag id (is_some holder)) codes codes' → (left : ℕ) → left ≡ free_total (values_of fs) → AreMessagesKept fs content left codes' terminals
  kept_held id holder code e keyed own change left free =
      record {
        keyed = keyed;
        indexed =
            subst (AreIndexed codes') (sym e)
            (follows codes codes' code (with_flag id (is_some holder)) (λ c. places c (values_of es)) (λ c. places c (with_holder id holder (values_of es))) h.indexed change (λ c. places_held c id holder code (values_of es) own));
        conversing = subst (AreConversing terminals) (sym e) (λ t. h.conversing t ∙ sym (conversing_held t id holder (values_of es)));
        counted = h.counted ∙ ap messages_bytes (sym (ap messages_of e ∙ messages_held id holder (values_of es)));
        small = h.small;
        free = free;
      }

  pub kept_removed : (id bytes : ℕ) (message : Message) → Some message ≡ queued_message id (values_of es) → values_of fs ≡ without_id_queued id (values_of es) → AreKeyed fs
      → ChangesName message.code (without_id message.id) codes codes' → ChangesName message.origin (when message.conversation (without_id message.id)) terminals terminals'
      → messages_bytes (messages_of (values_of fs)) + message_bytes message ≡ messages_bytes (messages_of (values_of es)) → bytes ≡ message_bytes message → (left : ℕ) → left ≡ free_total (values_of fs) → AreMessagesKept fs (content - bytes) left codes' terminals'
  kept_removed id bytes message found e keyed change change' less b left free =
      let has = has_message id es message h.keyed found in
      let same : message.id ≡ id = same_id id message (values_of es) found in
      record {
        keyed = keyed;
        indexed =
            subst (AreIndexed codes') (sym e)
            (follows codes codes' message.code (without_id id) (λ c. places c (values_of es)) (λ c. places c (without_id_queued id (values_of es))) h.indexed
            (subst (λ n. ChangesName message.code (without_id n) codes codes') same change) (λ c. ids_removed (of_code c) is_held id message (values_of es) has));
        conversing =
            subst (AreConversing terminals') (sym e)
            (follows terminals terminals' message.origin (when message.conversation (without_id id)) (λ t. conversing_ids t (values_of es)) (λ t. conversing_ids t (without_id_queued id (values_of es))) h.conversing
            (subst (λ n. ChangesName message.origin (when message.conversation (without_id n)) terminals terminals') same change')
            (λ t. ids_removed (is_conversing t) (λ _. false) id message (values_of es) has
            ∙ when_both (bytes_eq message.origin t) message.conversation (without_id id) (conversing_ids t (values_of es))));
        counted = omega (arith, h.counted, less, b);
        small = omega (arith, h.small);
        free = free;
      }

  pub kept_added : (message : Message) (bytes : ℕ) → values_of fs ≡ with_message message (values_of es) → AreKeyed fs
      → ChangesName message.code (with_id message.id) codes codes' → ChangesName message.origin (when message.conversation (with_id message.id)) terminals terminals'
      → bytes ≡ message_bytes message → messages_bytes (messages_of (values_of es)) + message_bytes message < 2 ^ 62
      → (left : ℕ) → left ≡ unheld + 1 → AreMessagesKept fs (content + bytes) left codes' terminals'
  kept_added message bytes e keyed change change' b fits left more =
      record {
        keyed = keyed;
        indexed =
            subst (AreIndexed codes') (sym e)
            (follows codes codes' message.code (with_id message.id) (λ c. places c (values_of es)) (λ c. places c (with_message message (values_of es))) h.indexed change
            (λ c. ids_added (of_code c) is_held message (values_of es) refl));
        conversing =
            subst (AreConversing terminals') (sym e)
            (follows terminals terminals' message.origin (when message.conversation (with_id message.id)) (λ t. conversing_ids t (values_of es)) (λ t. conversing_ids t (with_message message (values_of es))) h.conversing change'
            (λ t. ids_added (is_conversing t) (λ _. false) message (values_of es) refl
            ∙ when_both (bytes_eq message.origin t) message.conversation (with_id message.id) (conversing_ids t (values_of es))));
        counted = omega (arith, h.counted, b, ap (λ qs. messages_bytes (messages_of qs)) e, bytes_added message (values_of es));
        small = omega (arith, h.counted, b, fits);
        free = omega (arith, more, h.free, ap free_total e, total_added message (values_of es));
      }

  -- the messages stay
  pub kept_same : fs ≡ es → KeepsNames codes codes' → KeepsNames terminals terminals' → AreMessagesKept fs content unheld codes' terminals'
  kept_same e same same' =
      subst (λ gs. AreMessagesKept gs content unheld codes' terminals') (sym e) (record {
        keyed = h.keyed;
        indexed = λ c. same c ∙ h.indexed c;
        conversing = λ t. same' t ∙ h.conversing t;
        counted = h.counted;
        small = h.small;
        free = h.free;
      })

  -- a message that was put in and taken out again
  pub kept_undone : (mid mid' : Index) (message back : Message) → IsNewId message.id (values_of es) → fs ≡ es → back ≡ message
      → ChangesName message.code (with_id message.id) codes mid → ChangesName message.origin (when message.conversation (with_id message.id)) terminals mid'
      → ChangesName back.code (without_id back.id) mid codes' → ChangesName back.origin (when back.conversation (without_id back.id)) mid' terminals' → AreMessagesKept fs content unheld codes' terminals'
  kept_undone mid mid' message back fresh e is put put' taken taken' =
      kept_same e
      (names_undone codes mid codes' message.code message.id
      (subst (IsIdBehind message.id) (sym (h.indexed message.code)) (places_behind message.code message.id (values_of es) fresh))
      put (subst (λ (m : Message). ChangesName m.code (without_id m.id) mid codes') is taken))
      (when_undone terminals mid' terminals' message.origin message.conversation message.id
      (subst (IsIdBehind message.id) (sym (h.conversing message.origin)) (conversing_behind message.origin message.id (values_of es) fresh))
      put' (subst (λ (m : Message). ChangesName m.origin (when m.conversation (without_id m.id)) mid' terminals') is taken'))
