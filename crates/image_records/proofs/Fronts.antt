-- Lists of names and of records that are compared from the front.
use Rattle.std.proofs.Common.{◌≡◌, Bool, true, false, List, [], ◌∷◌, ℕ, zero, suc, ◌≤◌, ◌<◌, ◌+◌, length, drop, get_or, slice_get, refl, sym, ◌∙◌, ap, arith, Some}
use Rattle.std.specs.Prelude.{◌&&◌, nat_lt}
use Rattle.std.specs.Option.{option_map_or}
use Rattle.std.proofs.Math.Bool.{and-true}
use Rattle.std.proofs.lemmas.Option.{slice_get-get_or}
use Rattle.tm_types.specs.declared.message.Message.{Message}
use Rattle.model_image.specs.States.{ascend_below}
use Rattle.std.specs.Str.{bytes_eq}
use Rattle.log_records.specs.declared.record.Record.{Record}
use Rattle.model_image.specs.Snapshot.{are_same, ascend}

pub ascend_short : (records : List Record) → length records ≤ 1 → ascend records ≡ true
ascend_short [] few = refl
ascend_short (r ∷ []) few = refl
ascend_short (r ∷ next ∷ records) few = absurd (omega (arith, few))

pub lengths_apart : (names others : List (List ℕ)) → (length names ≡ length others → ⊥) → are_same names others ≡ false
lengths_apart [] [] apart = absurd (apart refl)
lengths_apart [] (name ∷ others) apart = refl
lengths_apart (name ∷ names) [] apart = refl
lengths_apart (name ∷ names) (other ∷ others) apart = by_first (bytes_eq name other) (lengths_apart names others (λ e. apart (omega (arith, e)))) where
  by_first : (b : Bool) → are_same names others ≡ false → b && are_same names others ≡ false
  by_first true later = later
  by_first false later = refl

-- ---- ids that ascend

ids_step : (next : ℕ) (messages : List Message) (place : ℕ) (m : Message) (bound : ℕ) → slice_get messages place ≡ Some m → option_map_or (λ x. x.id) (slice_get messages (suc place)) next ≡ bound →
    ascend_below next (drop place messages) ≡ nat_lt m.id bound && ascend_below next (drop (suc place) messages)
ids_step next [] place m bound at is = cc
ids_step next (x ∷ []) zero m bound at is =
    let e : x ≡ m = cc in
    ap (λ (y : Message). nat_lt y.id next) e ∙ ap (λ k. nat_lt m.id k) is ∙ sym (and-true (nat_lt m.id bound))
ids_step next (x ∷ y ∷ messages) zero m bound at is =
    let e : x ≡ m = cc in
    ap (λ (z : Message). nat_lt z.id y.id && ascend_below next (y ∷ messages)) e ∙ ap (λ k. nat_lt m.id k && ascend_below next (y ∷ messages)) is
ids_step next (x ∷ messages) (suc place) m bound at is = ids_step next messages place m bound at is

pub ids_after : (next : ℕ) (messages : List Message) (place : ℕ) (m : Message) (bound : ℕ) → place < length messages → m ≡ get_or messages place m → bound ≡ option_map_or (λ x. x.id) (slice_get messages (place + 1)) next →
    ascend_below next (drop place messages) ≡ nat_lt m.id bound && ascend_below next (drop (place + 1) messages)
ids_after next messages place m bound within at is =
    let one : suc place ≡ place + 1 = omega arith in
    ids_step next messages place m bound (slice_get-get_or messages place m within ∙ ap (λ (x : Message). Some x) (sym at)) (ap (λ k. option_map_or (λ x. x.id) (slice_get messages k) next) one ∙ sym is)
    ∙ ap (λ k. nat_lt m.id bound && ascend_below next (drop k messages)) one
