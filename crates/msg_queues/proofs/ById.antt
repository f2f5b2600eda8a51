-- Messages that are kept by their ids, as the list of them.
use Rattle.std.proofs.Common.{◌≡◌, ℕ, ◌+◌, ◌<◌, ◌++◌, ◌∷◌, [], List, refl, sym, ◌∙◌, ap, subst, Bool, true, false, cond, not, Option, Some, None, eqb}
use Rattle.std.specs.Prelude.{sum_by}
use Rattle.std.specs.List.{AllByRecursion}
use Rattle.std.specs.List.Sorted.{IsStrictlySortedBy}
use Rattle.std.specs.Option.{option_map, unwrap_or}
use Rattle.std.specs.Ordering.{nat_cmp, is_eq, match_ordering}
use Rattle.std.specs.declared.cmp.Ordering.TheVariants.{Less}
use Rattle.std.specs.BTreeMap.{insert_entry, is_at}
use Rattle.std.specs.Map.{keys_of, values_of, lookup, remove_entry, set_value}
use Rattle.std.proofs.lemmas.Map.{keys-set_value}
use Rattle.std.proofs.lemmas.List.{map-append}
use Rattle.std.proofs.lemmas.List.Sums.{sum_by-cons, sum_by_push}
use Rattle.std.proofs.lemmas.Map.Entries.{sum_by-remove_entry}
use Rattle.tm_types.specs.declared.message.Message.{Message}
use Rattle.model_messages.specs.declared.queued.Queued.{Queued}
use Rattle.model_messages.specs.Room.{message_bytes, messages_bytes}
use Rattle.model_messages.specs.Queue.{AreInOrder, ids_of, IsNewId, messages_of, has_id, queued_at, with_message, with_holder, without_id_queued}
use Rattle.msg_queues.specs.KeptMessages.{AreKeyed}
use Rattle.msg_queues.proofs.Keys.{at_key, key_is, first_below, others_ascend}
use Rattle.tm_types.proofs.Ordered.{greater_from}

-- each message is kept under its id
abbrev pub AreOwn : List (ℕ × Queued) → Type 0
AreOwn es = AllByRecursion (λ e. e.1.message.id ≡ e.0) es

abbrev pub AreAbove : ℕ → List (ℕ × Queued) → Type 0
AreAbove id es = AllByRecursion (λ k. nat_cmp id k ≡ Less) (keys_of es)

-- the test of an entry's message is the test of its key
pub own_test : (id : ℕ) (e : ℕ × Queued) → e.1.message.id ≡ e.0 → has_id id e.1 ≡ is_at (nat_cmp id) e.0
own_test id e h = ap (λ n. eqb n id) h ∙ sym (at_key id e.0)

-- an id below all keys isn't there
other_test : (id : ℕ) (e : ℕ × Queued) → e.1.message.id ≡ e.0 → nat_cmp id e.0 ≡ Less → has_id id e.1 ≡ false
other_test id e h less = own_test id e h ∙ ap is_eq less

pub found_is : (id : ℕ) (es : List (ℕ × Queued)) → AreOwn es → queued_at id (values_of es) ≡ lookup (is_at (nat_cmp id)) es
found_is id [] h = refl
found_is id (e ∷ es) h = λ i. cond (own_test id e h.0 i) (Some e.1) (found_is id es h.1 i)

pub with_holder_above : (id : ℕ) (holder : Option ℕ) (es : List (ℕ × Queued)) → AreOwn es → AreAbove id es → with_holder id holder (values_of es) ≡ values_of es
with_holder_above id holder [] h g = refl
with_holder_above id holder (e ∷ es) h g =
    λ i. cond (other_test id e h.0 g.0 i) (record e.1 { holder = holder }) e.1 ∷ with_holder_above id holder es h.1 g.1 i

pub without_above : (id : ℕ) (es : List (ℕ × Queued)) → AreOwn es → AreAbove id es → without_id_queued id (values_of es) ≡ values_of es
without_above id [] h g = refl
without_above id (e ∷ es) h g =
    λ i. cond (not (other_test id e h.0 g.0 i)) (e.1 ∷ without_above id es h.1 g.1 i) (without_above id es h.1 g.1 i)

-- a key that is the first entry's is below the others
pub above_first : (id : ℕ) (e : ℕ × Queued) (es : List (ℕ × Queued)) → IsStrictlySortedBy nat_cmp (keys_of (e ∷ es)) → is_at (nat_cmp id) e.0 ≡ true → AreAbove id es
above_first id e es s q = subst (λ k. AreAbove k es) (key_is id e.0 q) (first_below e es s)

-- ---- a new holder
pub holder_set : (id : ℕ) (holder : Option ℕ) (es : List (ℕ × Queued)) (v : Queued) → AreOwn es → IsStrictlySortedBy nat_cmp (keys_of es)
    → lookup (is_at (nat_cmp id)) es ≡ Some v → values_of (set_value (is_at (nat_cmp id)) es (record v { holder = holder })) ≡ with_holder id holder (values_of es)
holder_set id holder [] v h s e = let clash : None ≡ Some v = e in absurd (cc)
holder_set id holder (e ∷ es) v h s f = by (is_at (nat_cmp id) e.0) refl f (holder_set id holder es v h.1 (others_ascend e es s))
  where
    w : Queued
    w = record v { holder = holder }

    by : (b : Bool) → is_at (nat_cmp id) e.0 ≡ b → cond b (Some e.1) (lookup (is_at (nat_cmp id)) es) ≡ Some v
        → (lookup (is_at (nat_cmp id)) es ≡ Some v → values_of (set_value (is_at (nat_cmp id)) es w) ≡ with_holder id holder (values_of es))
        → values_of (cond (is_at (nat_cmp id) e.0) ((e.0, w) ∷ es) (e ∷ set_value (is_at (nat_cmp id)) es w))
        ≡ cond (has_id id e.1) (record e.1 { holder = holder }) e.1 ∷ with_holder id holder (values_of es)
    by true q g rec =
        let some : Some e.1 ≡ Some v = g in
        let same : e.1 ≡ v = cc in
        ap (λ b. values_of (cond b ((e.0, w) ∷ es) (e ∷ set_value (is_at (nat_cmp id)) es w))) q
        ∙ ((λ i. record (sym same i) { holder = holder } ∷ sym (with_holder_above id holder es h.1 (above_first id e es s q)) i)
        ∙ ap (λ b. cond b (record e.1 { holder = holder }) e.1 ∷ with_holder id holder (values_of es)) (sym (own_test id e h.0 ∙ q)))
    by false q g rec =
        ap (λ b. values_of (cond b ((e.0, w) ∷ es) (e ∷ set_value (is_at (nat_cmp id)) es w))) q
        ∙ (ap (λ vs. e.1 ∷ vs) (rec g)
        ∙ ap (λ b. cond b (record e.1 { holder = holder }) e.1 ∷ with_holder id holder (values_of es)) (sym (own_test id e h.0 ∙ q)))

pub holder_none : (id : ℕ) (holder : Option ℕ) (es : List (ℕ × Queued)) → AreOwn es → lookup (is_at (nat_cmp id)) es ≡ None → with_holder id holder (values_of es) ≡ values_of es
holder_none id holder [] h f = refl
holder_none id holder (e ∷ es) h f = by (is_at (nat_cmp id) e.0) refl f (holder_none id holder es h.1)
  where
    by : (b : Bool) → is_at (nat_cmp id) e.0 ≡ b → cond b (Some e.1) (lookup (is_at (nat_cmp id)) es) ≡ None
        → (lookup (is_at (nat_cmp id)) es ≡ None → with_holder id holder (values_of es) ≡ values_of es)
        → cond (has_id id e.1) (record e.1 { holder = holder }) e.1 ∷ with_holder id holder (values_of es) ≡ e.1 ∷ values_of es
    by true q g rec = let clash : Some e.1 ≡ None = g in absurd (cc)
    by false q g rec =
        λ i. cond ((own_test id e h.0 ∙ q) i) (record e.1 { holder = holder }) e.1 ∷ rec g i

own_set : (id : ℕ) (es : List (ℕ × Queued)) (v w : Queued) → AreOwn es → lookup (is_at (nat_cmp id)) es ≡ Some v → w.message.id ≡ v.message.id → AreOwn (set_value (is_at (nat_cmp id)) es w)
own_set id [] v w h f g = tt
own_set id (e ∷ es) v w h f g = by (is_at (nat_cmp id) e.0) f (λ q. own_set id es v w h.1 q g)
  where
    by : (b : Bool) → cond b (Some e.1) (lookup (is_at (nat_cmp id)) es) ≡ Some v
        → (lookup (is_at (nat_cmp id)) es ≡ Some v → AreOwn (set_value (is_at (nat_cmp id)) es w)) → AreOwn (cond b ((e.0, w) ∷ es) (e ∷ set_value (is_at (nat_cmp id)) es w))
    by true q rec =
        let some : Some e.1 ≡ Some v = q in
        let same : e.1 ≡ v = cc in
        (g ∙ (ap (λ u. u.message.id) (sym same) ∙ h.0), h.1)
    by false q rec = (h.0, rec q)

pub keyed_set : (id : ℕ) (holder : Option ℕ) (es fs : List (ℕ × Queued)) (v : Queued) → AreKeyed es → lookup (is_at (nat_cmp id)) es ≡ Some v
    → fs ≡ set_value (is_at (nat_cmp id)) es (record v { holder = holder }) → AreKeyed fs
keyed_set id holder es fs v h f g =
    subst AreKeyed (sym g) (record {
      each = own_set id es v (record v { holder = holder }) h.each f refl;
      ascending = subst (IsStrictlySortedBy nat_cmp) (sym (keys-set_value (is_at (nat_cmp id)) es (record v { holder = holder }))) h.ascending;
    })

-- ---- a removal
pub removed : (id : ℕ) (es : List (ℕ × Queued)) → AreOwn es → IsStrictlySortedBy nat_cmp (keys_of es) → values_of (remove_entry (is_at (nat_cmp id)) es) ≡ without_id_queued id (values_of es)
removed id [] h s = refl
removed id (e ∷ es) h s = by (is_at (nat_cmp id) e.0) refl (removed id es h.1 (others_ascend e es s))
  where
    by : (b : Bool) → is_at (nat_cmp id) e.0 ≡ b → values_of (remove_entry (is_at (nat_cmp id)) es) ≡ without_id_queued id (values_of es)
        → values_of (cond (is_at (nat_cmp id) e.0) es (e ∷ remove_entry (is_at (nat_cmp id)) es)) ≡ cond (not (has_id id e.1)) (e.1 ∷ without_id_queued id (values_of es)) (without_id_queued id (values_of es))
    by true q rec =
        ap (λ b. values_of (cond b es (e ∷ remove_entry (is_at (nat_cmp id)) es))) q
        ∙ (sym (without_above id es h.1 (above_first id e es s q))
        ∙ ap (λ b. cond (not b) (e.1 ∷ without_id_queued id (values_of es)) (without_id_queued id (values_of es))) (sym (own_test id e h.0 ∙ q)))
    by false q rec =
        ap (λ b. values_of (cond b es (e ∷ remove_entry (is_at (nat_cmp id)) es))) q
        ∙ (ap (λ vs. e.1 ∷ vs) rec
        ∙ ap (λ b. cond (not b) (e.1 ∷ without_id_queued id (values_of es)) (without_id_queued id (values_of es))) (sym (own_test id e h.0 ∙ q)))

pub own_removed : (test : ℕ → Bool) (es : List (ℕ × Queued)) → AreOwn es → AreOwn (remove_entry test es)
own_removed test [] h = tt
own_removed test (e ∷ es) h =
    elim (test e.0) as (λ b. AreOwn (cond b es (e ∷ remove_entry test es))) [
      | true ↦ h.1
      | false ↦ (h.0, own_removed test es h.1)
    ]

pub keyed_removed : (id : ℕ) (es fs : List (ℕ × Queued)) → AreKeyed es → fs ≡ remove_entry (is_at (nat_cmp id)) es → IsStrictlySortedBy nat_cmp (keys_of fs) → AreKeyed fs
keyed_removed id es fs h e ordered =
    record {
      each = subst AreOwn (sym e) (own_removed (is_at (nat_cmp id)) es h.each);
      ascending = ordered;
    }

-- ---- a new message
appended : (id : ℕ) (q : Queued) (es : List (ℕ × Queued)) → AreOwn es → IsNewId id (values_of es) → insert_entry nat_cmp es id q ≡ es ++ (id, q) ∷ []
appended id q [] h g = refl
appended id q (e ∷ es) h g =
    let below : e.0 < id = subst (λ n. n < id) h.0 g.0 in
    λ i. match_ordering (greater_from id e.0 below i) ((id, q) ∷ e ∷ es) ((e.0, q) ∷ es) (e ∷ appended id q es h.1 g.1 i)

own_appended : (id : ℕ) (q : Queued) (es : List (ℕ × Queued)) → AreOwn es → q.message.id ≡ id → AreOwn (es ++ (id, q) ∷ [])
own_appended id q [] h e = (e, tt)
own_appended id q (f ∷ es) h e = (h.0, own_appended id q es h.1 e)

pub values_inserted : (message : Message) (es fs : List (ℕ × Queued)) → AreKeyed es → IsNewId message.id (values_of es)
    → fs ≡ insert_entry nat_cmp es message.id (record { message = message; holder = None }) → values_of fs ≡ with_message message (values_of es)
values_inserted message es fs h new e =
    let q : Queued = record { message = message; holder = None } in
    ap values_of (e ∙ appended message.id q es h.each new) ∙ map-append (λ (f : ℕ × Queued). f.1) es ((message.id, q) ∷ [])

pub keyed_inserted : (message : Message) (es fs : List (ℕ × Queued)) → AreKeyed es → IsNewId message.id (values_of es)
    → fs ≡ insert_entry nat_cmp es message.id (record { message = message; holder = None }) → IsStrictlySortedBy nat_cmp (keys_of fs) → AreKeyed fs
keyed_inserted message es fs h new e ordered =
    let q : Queued = record { message = message; holder = None } in
    record {
      each = subst AreOwn (sym (e ∙ appended message.id q es h.each new)) (own_appended message.id q es h.each refl);
      ascending = ordered;
    }

-- ---- the bytes
pub bytes_sum : (qs : List Queued) → messages_bytes (messages_of qs) ≡ sum_by (λ q. message_bytes q.message) qs
bytes_sum [] = refl
bytes_sum (q ∷ qs) =
    sum_by-cons message_bytes q.message (messages_of qs)
    ∙ (ap (λ n. message_bytes q.message + n) (bytes_sum qs) ∙ sym (sum_by-cons (λ r. message_bytes r.message) q qs))

pub bytes_removed : (id : ℕ) (es : List (ℕ × Queued)) → AreKeyed es
    → messages_bytes (messages_of (without_id_queued id (values_of es))) + unwrap_or (option_map (λ q. message_bytes q.message) (queued_at id (values_of es))) 0
    ≡ messages_bytes (messages_of (values_of es))
bytes_removed id es h =
    let f : Queued → ℕ = λ q. message_bytes q.message in
    (λ i. (ap (λ qs. messages_bytes (messages_of qs)) (sym (removed id es h.each h.ascending)) ∙ bytes_sum (values_of (remove_entry (is_at (nat_cmp id)) es))) i
    + unwrap_or (option_map f (found_is id es h.each i)) 0)
    ∙ (sum_by-remove_entry f (is_at (nat_cmp id)) es ∙ sym (bytes_sum (values_of es)))

pub bytes_added : (message : Message) (qs : List Queued) → messages_bytes (messages_of (with_message message qs)) ≡ messages_bytes (messages_of qs) + message_bytes message
bytes_added message qs =
    let q : Queued = record { message = message; holder = None } in
    ap (λ ms. messages_bytes ms) (map-append (λ (r : Queued). r.message) qs (q ∷ [])) ∙ sum_by_push message_bytes (messages_of qs) message

pub messages_held : (id : ℕ) (holder : Option ℕ) (qs : List Queued) → messages_of (with_holder id holder qs) ≡ messages_of qs
messages_held id holder [] = refl
messages_held id holder (q ∷ qs) =
    (λ i. same (has_id id q) i ∷ messages_held id holder qs i)
  where
    same : (b : Bool) → (cond b (record q { holder = holder }) q).message ≡ q.message
    same true = refl
    same false = refl

-- the ids are the keys
ids_own : (es : List (ℕ × Queued)) → AreOwn es → ids_of (values_of es) ≡ keys_of es
ids_own [] h = refl
ids_own (e ∷ es) h = λ i. h.0 i ∷ ids_own es h.1 i

pub in_order : (es : List (ℕ × Queued)) → AreKeyed es → AreInOrder (values_of es)
in_order es h = subst (IsStrictlySortedBy nat_cmp) (sym (ids_own es h.each)) h.ascending
