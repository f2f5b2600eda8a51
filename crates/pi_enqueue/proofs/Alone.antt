-- A region beside which no other one holds anything, and nobody waits.
use Rattle.std.proofs.Common.{◌≡◌, ℕ, ◌-◌, ◌≤◌, ◌∷◌, ◌++◌, [], List, refl, sym, ap, ◌∙◌, arith, Bool, true, false, cond, not, ◌&&◌, None, take, drop, length, zero, suc}
use Rattle.std.specs.Prelude.{filter, map, slice_get, slice_index_or}
use Rattle.std.specs.List.{AllByRecursion}
use Rattle.std.specs.Map.{keys_of}
use Rattle.std.proofs.lemmas.Bool.{eq-eqb}
use Rattle.tm_types.specs.declared.resource.Resource.{Resource}
use Rattle.tm_types.specs.declared.resource.Mode.{Mode}
use Rattle.model_data.specs.declared.request.Holder.{Holder}
use Rattle.model_data.specs.declared.request.Request.{Request}
use Rattle.model_data.specs.Modes.{excludes}
use Rattle.model_data.specs.Table.{EnqueueTable, holds_of, holders_against, is_against, ahead, is_upgrade, is_request_served, blocked_by}
use Rattle.pi_enqueue.specs.Grants.{AreRequestsFree, without_waits}
use Rattle.pi_enqueue.specs.Lists.{AreEmpty, AreListed, IsUpTo, is_on, is_listed}

no_items : {A : Type 0} (xs : List A) → length xs ≡ 0 → xs ≡ []
no_items [] h = refl
no_items (x ∷ xs) h = absurd (omega arith)

-- where nobody waits, nobody stops waiting
pub none_waits : (qs ws : List Request) → length ws ≡ 0 → ws ≡ without_waits qs ws
none_waits qs ws h = no_items ws h ∙ (none qs ∙ ap (without_waits qs) (sym (no_items ws h)))
  where
    none : (qs : List Request) → [] ≡ without_waits qs []
    none [] = refl
    none (q ∷ qs) = none qs

empty_at : (n : ℕ) (index : List (List Resource)) (r : Resource) → AreEmpty index → is_on (slice_index_or index n []) r ≡ true → ⊥
empty_at n [] r h e = let clash : false ≡ true = e in absurd (cc)
empty_at zero (l ∷ index) r h e = let clash : false ≡ true = sym (ap (λ x. is_on x r) h.0) ∙ e in absurd (cc)
empty_at (suc n) (l ∷ index) r h e = empty_at n index r h.1 e

-- what is on a list is on the one that isn't empty
own_place : (own n : ℕ) (index : List (List Resource)) (r : Resource) → AreEmpty (take own index) → AreEmpty (drop (suc own) index) → is_on (slice_index_or index n []) r ≡ true → n ≡ own
own_place own n [] r before behind e = let clash : false ≡ true = e in absurd (cc)
own_place zero zero (l ∷ index) r before behind e = refl
own_place zero (suc n) (l ∷ index) r before behind e = absurd (empty_at n index r behind e)
own_place (suc own) zero (l ∷ index) r before behind e = let clash : false ≡ true = sym (ap (λ x. is_on x r) before.0) ∙ e in absurd (cc)
own_place (suc own) (suc n) (l ∷ index) r before behind e = ap suc (own_place own n index r before.1 behind e)

module _ (region last : ℕ) (first : 1 ≤ region) (index : List (List Resource)) (before : AreEmpty (take (region - 1) index)) (behind : AreEmpty (drop (suc (region - 1)) index))
    (q : Request) (own : q.region ≡ region) where
  its_own : (h : Holder) → IsUpTo last h → is_listed index h ≡ true → h.region ≡ q.region
  its_own h small on =
      let at : h.region - 1 ≡ region - 1 = own_place (region - 1) (h.region - 1) index h.resource before behind on in
      let same : h.region ≡ region = omega (arith, at, first, small.0) in same ∙ sym own

  not_against : (e : Holder × Mode) → e.0.region ≡ q.region → is_against q e ≡ false
  not_against e same = ap (λ b. holds_of q.resource e.0 && (not b && excludes e.1 q.mode)) (eq-eqb e.0.region q.region same) ∙ and_false (holds_of q.resource e.0)
    where
      and_false : (b : Bool) → b && false ≡ false
      and_false true = refl
      and_false false = refl

  nobody_against : (es : List (Holder × Mode)) → AllByRecursion (IsUpTo last) (keys_of es) → AreListed index es → holders_against q es ≡ []
  nobody_against [] small listed = refl
  nobody_against (e ∷ es) small listed =
      ap (λ b. map (λ (h : Holder × Mode). h.0.region) (cond b (e ∷ filter (is_against q) es) (filter (is_against q) es))) (not_against e (its_own e.0 small.0 listed.0))
      ∙ nobody_against es small.1 listed.1

  -- nothing blocks it
  pub alone_free : (T : EnqueueTable) → length T.upgrades ≡ 0 → length T.waits ≡ 0 → AllByRecursion (IsUpTo last) (keys_of T.holds) → AreListed index T.holds → blocked_by q T ≡ None
  alone_free T us ws small listed =
      (λ i. slice_get (cond (is_request_served q T.holds) [] (nobody_against T.holds small listed i
      ++ (ahead q (no_items T.upgrades us i) ++ cond (is_upgrade q T.holds) [] (ahead q (no_items T.waits ws i))))) 0)
      ∙ by (is_request_served q T.holds) (is_upgrade q T.holds)
    where
      nobody : List ℕ
      nobody = []

      by : (a b : Bool) → slice_get (cond a nobody (nobody ++ (nobody ++ cond b nobody nobody))) 0 ≡ None
      by true b = refl
      by false true = refl
      by false false = refl

pub alone_all : (region : ℕ) (qs : List Request) (T : EnqueueTable) → ((q : Request) → q.region ≡ region → blocked_by q T ≡ None) → AllByRecursion (λ q. q.region ≡ region) qs → AreRequestsFree qs T
alone_all region [] T free own = tt
alone_all region (q ∷ qs) T free own = (free q own.0, alone_all region qs T free own.1)
