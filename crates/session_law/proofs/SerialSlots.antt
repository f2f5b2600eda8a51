-- What always holds of the messages of a serial code: no two regions have one, and the one that a region has is the lowest.
use Rattle.std.proofs.Common.{◌≡◌, ◌⊎◌, inl, inr, ℕ, zero, suc, ◌+◌, ◌-◌, ◌≤◌, Bool, true, false, not, ◌&&◌, ◌||◌, List, [], ◌∷◌, ◌++◌, Option, Some, None, find, refl, sym, ap, ◌∙◌, subst, cond, arith}
use Rattle.std.specs.Prelude.{◌==◌, slice_get, slice_set}
use Rattle.std.specs.List.{list_any}
use Rattle.std.specs.Str.{bytes_eq}
use Rattle.std.proofs.lemmas.Bool.{eq-eqb, eqb-true, eqb-false}
use Rattle.std.proofs.lemmas.Slice.Eq.{bytes_eq-Decides}
use Rattle.tm_types.specs.declared.message.Message.{Message}
use Rattle.model_data.specs.declared.victim.Victim.{Victim}
use Rattle.model_messages.specs.Waiting.{is_waiting, any_worked_on}
use Rattle.model_machine.specs.Machine.{Slot, message_at, has_message, is_held}
use Rattle.model_machine.specs.LastingSteps.{without_message}
use Rattle.model_machine.specs.Requests.{without_victims}
use Rattle.session_law.proofs.SerialMessages.{AreFrom, CodeFrom, at_gone, at_more, by_id, code_filtered, code_found, code_gone, code_more, filtered, first_least, found_below, one_more, passes}

-- ---- a list with one element replaced

some_is : {X : Type 0} (x y : X) → Some x ≡ Some y → x ≡ y
some_is x y e = cc

-- what stands at a place is what was put there, or what stood there before
abbrev Got : {X : Type 0} → List X → ℕ → ℕ → X → X → Type 0
Got xs at place put x = ((place ≡ at) × (x ≡ put)) ⊎ ((place ≡ at → ⊥) × (slice_get xs place ≡ Some x))

got : {X : Type 0} (xs : List X) (at place : ℕ) (put x : X) → slice_get (slice_set xs at put) place ≡ Some x → Got xs at place put x
got [] at place put x e = cc
got (y ∷ xs) zero zero put x e = inl (refl, sym (some_is put x e))
got (y ∷ xs) zero (suc place) put x e = inr ((λ same. omega (arith, same)), e)
got (y ∷ xs) (suc at) zero put x e = inr ((λ same. omega (arith, same)), e)
got {X} (y ∷ xs) (suc at) (suc place) put x e = by (got xs at place put x e) where
  by : Got xs at place put x → Got (y ∷ xs) (suc at) (suc place) put x
  by (inl here) = inl (ap suc here.0, here.1)
  by (inr there) = inr ((λ same. there.0 (omega (arith, same))), there.1)

set_other : {X : Type 0} (xs : List X) (at place : ℕ) (put x : X) → (place ≡ at → ⊥) → slice_get xs place ≡ Some x → slice_get (slice_set xs at put) place ≡ Some x
set_other [] at place put x other e = cc
set_other (y ∷ xs) zero zero put x other e = absurd (other refl)
set_other (y ∷ xs) zero (suc place) put x other e = e
set_other (y ∷ xs) (suc at) zero put x other e = e
set_other (y ∷ xs) (suc at) (suc place) put x other e = set_other xs at place put x (λ same. other (ap suc same)) e

-- ---- slots

abbrev pub HasSlot : List (Option Slot) → ℕ → Slot → Type 0
HasSlot slots place slot = slice_get slots place ≡ Some (Some slot)

no_slot : (slot : Slot) → Some slot ≡ None → ⊥
no_slot slot e = cc

-- of slots of which one was given up
left : (slots : List (Option Slot)) (at place : ℕ) (slot : Slot) → HasSlot (slice_set slots at None) place slot → (place ≡ at → ⊥) × HasSlot slots place slot
left slots at place slot e = by (got slots at place None (Some slot) e) where
  by : Got slots at place None (Some slot) → (place ≡ at → ⊥) × HasSlot slots place slot
  by (inl here) = absurd (no_slot slot here.1)
  by (inr there) = there

-- and of which one is another now
abbrev IsNew : List (Option Slot) → ℕ → ℕ → Slot → Slot → Type 0
IsNew slots at place new slot = ((place ≡ at) × (slot ≡ new)) ⊎ HasSlot (slice_set slots at None) place slot

is_new : (slots : List (Option Slot)) (at place : ℕ) (new slot : Slot) → HasSlot (slice_set slots at (Some new)) place slot → IsNew slots at place new slot
is_new slots at place new slot e = by (got slots at place (Some new) (Some slot) e) where
  by : Got slots at place (Some new) (Some slot) → IsNew slots at place new slot
  by (inl here) = inl (here.0, some_is slot new here.1)
  by (inr there) = inr (set_other slots at place None (Some slot) there.0 there.1)

-- a message is held exactly where a slot has it
or_true : (a b : Bool) → b ≡ true → a || b ≡ true
or_true true b e = refl
or_true false b e = e

holds : (slots : List (Option Slot)) (place : ℕ) (slot : Slot) → HasSlot slots place slot → is_held slots slot.id ≡ true
holds [] place slot e = cc
holds (s ∷ slots) zero slot e =
    let same : s ≡ Some slot = some_is s (Some slot) e in
    ap (λ (o : Option Slot). has_message slot.id o || is_held slots slot.id) same ∙ ap (λ (b : Bool). b || is_held slots slot.id) (eq-eqb slot.id slot.id refl)
holds (s ∷ slots) (suc place) slot e = or_true (has_message slot.id s) (is_held slots slot.id) (holds slots place slot e)

record IsHeldAt (slots : List (Option Slot)) (id : ℕ) : Type 0 where
  place : ℕ
  slot : Slot
  has : HasSlot slots place slot
  is : slot.id ≡ id

held_at : (slots : List (Option Slot)) (id : ℕ) → is_held slots id ≡ true → IsHeldAt slots id
held_at [] id e = cc
held_at (s ∷ slots) id e = by s refl e (held_at slots id) where
  later : IsHeldAt slots id → IsHeldAt (s ∷ slots) id
  later h = record { place = suc h.place; slot = h.slot; has = h.has; is = h.is }

  by_id : (slot : Slot) → s ≡ Some slot → (b : Bool) → slot.id == id ≡ b → b || is_held slots id ≡ true → (is_held slots id ≡ true → IsHeldAt slots id) → IsHeldAt (s ∷ slots) id
  by_id slot same true is h rest = record { place = zero; slot = slot; has = ap (λ (o : Option Slot). Some o) same; is = eqb-true slot.id id is }
  by_id slot same false is h rest = later (rest h)

  by : (o : Option Slot) → s ≡ o → has_message id o || is_held slots id ≡ true → (is_held slots id ≡ true → IsHeldAt slots id) → IsHeldAt (s ∷ slots) id
  by None same h rest = later (rest h)
  by (Some slot) same h rest = by_id slot same (slot.id == id) refl h rest

-- ---- messages that are worked on

any_one : (held : ℕ → Bool) (code : List ℕ) (messages : List Message) (m : Message) (test : Message → Bool) → find test messages ≡ Some m → bytes_eq m.code code ≡ true → held m.id ≡ true → any_worked_on held code messages ≡ true
any_one held code [] m test e of is = cc
any_one held code (x ∷ messages) m test e of is = by (test x) e (λ later. any_one held code messages m test later of is) where
  by : (b : Bool) → cond b (Some x) (find test messages) ≡ Some m → (find test messages ≡ Some m → any_worked_on held code messages ≡ true) → (bytes_eq x.code code && held x.id) || any_worked_on held code messages ≡ true
  by true here later =
      let same : x ≡ m = some_is x m here in
      ap (λ (y : Message). (bytes_eq y.code code && held y.id) || any_worked_on held code messages) same
      ∙ ap (λ (b : Bool). (b && held m.id) || any_worked_on held code messages) of ∙ ap (λ (b : Bool). b || any_worked_on held code messages) is
  by false there later = or_true (bytes_eq x.code code && held x.id) (any_worked_on held code messages) (later there)

record IsFound (test : Message → Bool) (messages : List Message) : Type 0 where
  message : Message
  found : find test messages ≡ Some message

any_found : (test : Message → Bool) (messages : List Message) → list_any test messages ≡ true → IsFound test messages
any_found test [] e = cc
any_found test (x ∷ messages) e = by (test x) refl e (any_found test messages) where
  by : (b : Bool) → test x ≡ b → b || list_any test messages ≡ true → (list_any test messages ≡ true → IsFound test messages) → IsFound test (x ∷ messages)
  by true is h rest = record { message = x; found = ap (λ (b : Bool). cond b (Some x) (find test messages)) is }
  by false is h rest = let later = rest h in record { message = later.message; found = ap (λ (b : Bool). cond b (Some x) (find test messages)) is ∙ later.found }

-- ---- what always holds

-- the slot's message is there, and is of the slot's code
pub record IsThere (messages : List Message) (slot : Slot) : Type 0 where
  pub message : Message
  pub found : message_at messages slot.id ≡ Some message
  pub of : message.code ≡ slot.code

pub has_its_id : (messages : List Message) (id : ℕ) (m : Message) → message_at messages id ≡ Some m → m.id ≡ id
has_its_id messages id m e = eqb-true m.id id (passes (λ x. x.id == id) messages m e)

-- Ids ascend, and each region has a message of its own. Messages of the code have ids from `low` on, at most one region has one, and that
-- is the one with the lowest id.
pub record Serves (code : List ℕ) (low : ℕ) (messages : List Message) (next : ℕ) (slots : List (Option Slot)) : Type 0 where
  pub below : low ≤ next
  pub ordered : AreFrom 0 next messages
  pub least : CodeFrom code low messages
  pub there : (place : ℕ) (slot : Slot) → HasSlot slots place slot → IsThere messages slot
  pub apart : (place other : ℕ) (slot second : Slot) → HasSlot slots place slot → HasSlot slots other second → slot.id ≡ second.id → place ≡ other
  pub alone : (place other : ℕ) (slot second : Slot) → HasSlot slots place slot → HasSlot slots other second → slot.code ≡ code → second.code ≡ code → place ≡ other
  pub first : (place : ℕ) (slot : Slot) → HasSlot slots place slot → slot.code ≡ code → CodeFrom code slot.id messages

module _ (code : List ℕ) (low : ℕ) (messages : List Message) (next : ℕ) (slots : List (Option Slot)) (h : Serves code low messages next slots) where
  slot_below : (place : ℕ) (slot : Slot) → HasSlot slots place slot → slot.id + 1 ≤ next
  slot_below place slot has =
      let t = h.there place slot has in
      omega (arith, found_below (λ x. x.id == slot.id) 0 next messages t.message h.ordered t.found, has_its_id messages slot.id t.message t.found)

  -- a message of the code in a slot is one of those
  pub slot_above : (place : ℕ) (slot : Slot) → HasSlot slots place slot → slot.code ≡ code → low ≤ slot.id
  slot_above place slot has of =
      let t = h.there place slot has in
      let le = code_found code low (λ x. x.id == slot.id) messages t.message h.least t.found ((bytes_eq-Decides t.message.code code).1 (t.of ∙ of)) in
      omega (arith, le, has_its_id messages slot.id t.message t.found)

  -- one message more, under the next id
  pub more : (m : Message) → m.id ≡ next → Serves code low (messages ++ m ∷ []) (next + 1) slots
  more m is = record {
    below = omega (arith, h.below);
    ordered = one_more 0 next messages m is h.ordered;
    least = code_more code low messages m (omega (arith, is, h.below)) h.least;
    there = λ place slot has. let t = h.there place slot has in record { message = t.message; found = at_more messages slot.id m t.message t.found; of = t.of };
    apart = h.apart;
    alone = h.alone;
    first = λ place slot has of. let below = slot_below place slot has in code_more code slot.id messages m (omega (arith, is, below)) (h.first place slot has of);
  }

  -- a region gives its message up
  pub freed : (at : ℕ) → Serves code low messages next (slice_set slots at None)
  freed at = record {
    below = h.below;
    ordered = h.ordered;
    least = h.least;
    there = λ place slot has. h.there place slot (left slots at place slot has).1;
    apart = λ place other slot second has too same. h.apart place other slot second (left slots at place slot has).1 (left slots at other second too).1 same;
    alone = λ place other slot second has too of its. h.alone place other slot second (left slots at place slot has).1 (left slots at other second too).1 of its;
    first = λ place slot has of. h.first place slot (left slots at place slot has).1 of;
  }

  -- the message of a slot is gone
  pub gone : (at : ℕ) (slot : Slot) → HasSlot slots at slot → (least : ℕ) → least ≤ next → CodeFrom code least (without_message messages slot.id)
      → Serves code least (without_message messages slot.id) next (slice_set slots at None)
  gone at slot held least below from = record {
    below = below;
    ordered = filtered (λ m. not (m.id == slot.id)) 0 next messages h.ordered;
    least = from;
    there = λ place second has.
        let its = left slots at place second has in
        let t = h.there place second its.1 in
        record { message = t.message; found = at_gone messages slot.id second.id t.message (λ same. its.0 (h.apart place at second slot its.1 held same)) t.found; of = t.of };
    apart = λ place other second third has too same. h.apart place other second third (left slots at place second has).1 (left slots at other third too).1 same;
    alone = λ place other second third has too of its. h.alone place other second third (left slots at place second has).1 (left slots at other third too).1 of its;
    first = λ place second has of. code_filtered (λ m. not (m.id == slot.id)) code second.id messages (h.first place second (left slots at place second has).1 of);
  }

  pub gone_of : (at : ℕ) (slot : Slot) → HasSlot slots at slot → slot.code ≡ code → Serves code (slot.id + 1) (without_message messages slot.id) next (slice_set slots at None)
  gone_of at slot held of = gone at slot held (slot.id + 1) (slot_below at slot held) (code_gone code slot.id messages (h.first at slot held of))

  pub gone_other : (at : ℕ) (slot : Slot) → HasSlot slots at slot → Serves code low (without_message messages slot.id) next (slice_set slots at None)
  gone_other at slot held = gone at slot held low h.below (code_filtered (λ m. not (m.id == slot.id)) code low messages h.least)

module _ (code : List ℕ) (low : ℕ) (messages : List Message) (next : ℕ) (slots : List (Option Slot)) (at : ℕ) (rest : Serves code low messages next (slice_set slots at None)) where
  -- a region without a message gets one
  put : (new : Slot) → IsThere messages new → ((place : ℕ) (slot : Slot) → HasSlot (slice_set slots at None) place slot → slot.id ≡ new.id → ⊥)
      → ((place : ℕ) (slot : Slot) → HasSlot (slice_set slots at None) place slot → slot.code ≡ code → new.code ≡ code → ⊥) → (new.code ≡ code → CodeFrom code new.id messages)
      → Serves code low messages next (slice_set slots at (Some new))
  put new there free alone first = record {
    below = rest.below;
    ordered = rest.ordered;
    least = rest.least;
    there = λ place slot has. there_by place slot (is_new slots at place new slot has);
    apart = λ place other slot second has too same. apart_by place other slot second (is_new slots at place new slot has) (is_new slots at other new second too) same;
    alone = λ place other slot second has too of its. alone_by place other slot second (is_new slots at place new slot has) (is_new slots at other new second too) of its;
    first = λ place slot has of. first_by place slot (is_new slots at place new slot has) of;
  } where
    there_by : (place : ℕ) (slot : Slot) → IsNew slots at place new slot → IsThere messages slot
    there_by place slot (inl here) = subst (IsThere messages) (sym here.1) there
    there_by place slot (inr has) = rest.there place slot has

    apart_by : (place other : ℕ) (slot second : Slot) → IsNew slots at place new slot → IsNew slots at other new second → slot.id ≡ second.id → place ≡ other
    apart_by place other slot second (inl here) (inl too) same = here.0 ∙ sym too.0
    apart_by place other slot second (inl here) (inr has) same = absurd (free other second has (sym same ∙ ap (λ (s : Slot). s.id) here.1))
    apart_by place other slot second (inr has) (inl here) same = absurd (free place slot has (same ∙ ap (λ (s : Slot). s.id) here.1))
    apart_by place other slot second (inr has) (inr too) same = rest.apart place other slot second has too same

    alone_by : (place other : ℕ) (slot second : Slot) → IsNew slots at place new slot → IsNew slots at other new second → slot.code ≡ code → second.code ≡ code → place ≡ other
    alone_by place other slot second (inl here) (inl too) of its = here.0 ∙ sym too.0
    alone_by place other slot second (inl here) (inr has) of its = absurd (alone other second has its (sym (ap (λ (s : Slot). s.code) here.1) ∙ of))
    alone_by place other slot second (inr has) (inl here) of its = absurd (alone place slot has of (sym (ap (λ (s : Slot). s.code) here.1) ∙ its))
    alone_by place other slot second (inr has) (inr too) of its = rest.alone place other slot second has too of its

    first_by : (place : ℕ) (slot : Slot) → IsNew slots at place new slot → slot.code ≡ code → CodeFrom code slot.id messages
    first_by place slot (inl here) of = subst (λ (s : Slot). CodeFrom code s.id messages) (sym here.1) (first (sym (ap (λ (s : Slot). s.code) here.1) ∙ of))
    first_by place slot (inr has) of = rest.first place slot has of

  first_part : (a b : Bool) → a && b ≡ true → a ≡ true
  first_part true b e = refl
  first_part false b e = cc

  second_part : (a b : Bool) → a && b ≡ true → b ≡ true
  second_part true b e = e
  second_part false b e = cc

  not_true : (b : Bool) → not b ≡ true → b ≡ true → ⊥
  not_true true e f = cc
  not_true false e f = cc

  is_false : (b : Bool) → b ≡ false → b ≡ true → ⊥
  is_false true e f = cc
  is_false false e f = cc

  -- it takes the first message of a code that waits; of the code itself only where no region has one
  pub taken : (new : Slot) (m : Message) → find (is_waiting (is_held slots) new.code) messages ≡ Some m → m.id ≡ new.id → (new.code ≡ code → any_worked_on (is_held slots) code messages ≡ false)
      → Serves code low messages next (slice_set slots at (Some new))
  taken new m waits is quiet =
      put new (record { message = m; found = subst (λ (id : ℕ). message_at messages id ≡ Some m) is at_id; of = (bytes_eq-Decides m.code new.code).0 (first_part (bytes_eq m.code new.code) (not (is_held slots m.id)) waiting) })
      free alone first
    where
      at_id : message_at messages m.id ≡ Some m
      at_id = by_id (is_waiting (is_held slots) new.code) 0 next messages m rest.ordered waits

      waiting : is_waiting (is_held slots) new.code m ≡ true
      waiting = passes (is_waiting (is_held slots) new.code) messages m waits

      free : (place : ℕ) (slot : Slot) → HasSlot (slice_set slots at None) place slot → slot.id ≡ new.id → ⊥
      free place slot has same =
          not_true (is_held slots m.id) (second_part (bytes_eq m.code new.code) (not (is_held slots m.id)) waiting)
          (ap (is_held slots) (is ∙ sym same) ∙ holds slots place slot (left slots at place slot has).1)

      alone : (place : ℕ) (slot : Slot) → HasSlot (slice_set slots at None) place slot → slot.code ≡ code → new.code ≡ code → ⊥
      alone place slot has of its =
          let t = rest.there place slot has in
          is_false (any_worked_on (is_held slots) code messages) (quiet its)
          (any_one (is_held slots) code messages t.message (λ x. x.id == slot.id) t.found ((bytes_eq-Decides t.message.code code).1 (t.of ∙ of))
          (ap (is_held slots) (has_its_id messages slot.id t.message t.found) ∙ holds slots place slot (left slots at place slot has).1))

      first : new.code ≡ code → CodeFrom code new.id messages
      first its =
          subst (λ (id : ℕ). CodeFrom code id messages) is
          (first_least (is_held slots) code 0 next messages m rest.ordered (quiet its) (ap (λ (name : List ℕ). find (is_waiting (is_held slots) name) messages) (sym its) ∙ waits))

  -- Where a region's message of the code has ended, no region has one any more.
  pub none_worked_on : (slot : Slot) → HasSlot slots at slot → slot.code ≡ code → slot.id + 1 ≤ low
      → ((place : ℕ) (second : Slot) → HasSlot slots place second → second.code ≡ code → place ≡ at) → any_worked_on (is_held slots) code messages ≡ false
  none_worked_on slot has of past only = by (any_worked_on (is_held slots) code messages) refl where
    test : Message → Bool
    test x = bytes_eq x.code code && is_held slots x.id

    never : IsFound test messages → ⊥
    never f = by_place (held.place == at) refl where
      x : Message
      x = f.message

      is : test x ≡ true
      is = passes test messages x f.found

      held : IsHeldAt slots x.id
      held = held_at slots x.id (second_part (bytes_eq x.code code) (is_held slots x.id) is)

      above : low ≤ x.id
      above = code_found code low test messages x rest.least f.found (first_part (bytes_eq x.code code) (is_held slots x.id) is)

      by_place : (b : Bool) → held.place == at ≡ b → ⊥
      by_place true here =
          let same : held.slot ≡ slot = option_same held.slot slot (sym (subst (λ (place : ℕ). HasSlot slots place held.slot) (eqb-true held.place at here) held.has) ∙ has) in
          omega (arith, past, above, held.is, ap (λ (s : Slot). s.id) same)
        where
          option_same : (a b : Slot) → Some (Some a) ≡ Some (Some b) → a ≡ b
          option_same a b e = cc
      by_place false there =
          let at_none : HasSlot (slice_set slots at None) held.place held.slot = set_other slots at held.place None (Some held.slot) (eqb-false held.place at there) held.has in
          let t = rest.there held.place held.slot at_none in
          let found : message_at messages held.slot.id ≡ Some x = ap (message_at messages) held.is ∙ by_id test 0 next messages x rest.ordered f.found in
          let same : t.message ≡ x = some_is t.message x (sym t.found ∙ found) in
          eqb-false held.place at there
          (only held.place held.slot held.has (sym t.of ∙ ap (λ (y : Message). y.code) same ∙ (bytes_eq-Decides x.code code).0 (first_part (bytes_eq x.code code) (is_held slots x.id) is)))

    by : (b : Bool) → any_worked_on (is_held slots) code messages ≡ b → any_worked_on (is_held slots) code messages ≡ false
    by false e = e
    by true e = absurd (never (any_found test messages e))

-- the region has the same message as before
pub again : (code : List ℕ) (low : ℕ) (messages : List Message) (next : ℕ) (slots : List (Option Slot)) → Serves code low messages next slots → (at : ℕ) (slot new : Slot) → HasSlot slots at slot → new.id ≡ slot.id → new.code ≡ slot.code
    → Serves code low messages next (slice_set slots at (Some new))
again code low messages next slots h at slot new held id is =
    put code low messages next slots at (freed code low messages next slots h at) new
    (let t = h.there at slot held in record { message = t.message; found = ap (message_at messages) id ∙ t.found; of = t.of ∙ sym is })
    (λ place second has same. let its = left slots at place second has in its.0 (h.apart place at second slot its.1 held (same ∙ id)))
    (λ place second has of its. let was = left slots at place second has in was.0 (h.alone place at second slot was.1 held of (sym is ∙ its)))
    (λ of. subst (λ (n : ℕ). CodeFrom code n messages) (sym id) (h.first at slot held (sym is ∙ of)))

-- victims give up their messages
pub victims_freed : (code : List ℕ) (low : ℕ) (messages : List Message) (next : ℕ) (victims : List Victim) (slots : List (Option Slot)) → Serves code low messages next slots → Serves code low messages next (without_victims victims slots)
victims_freed code low messages next [] slots h = h
victims_freed code low messages next (v ∷ victims) slots h = victims_freed code low messages next victims (slice_set slots (v.region - 1) None) (freed code low messages next slots h (v.region - 1))
