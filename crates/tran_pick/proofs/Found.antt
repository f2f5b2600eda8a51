-- What a pick is: a message that no region has, and a code of the system.
use Rattle.std.proofs.Common.{◌≡◌, ℕ, ◌∷◌, [], List, refl, sym, ◌∙◌, ap, subst, Bool, true, false, cond, Option, Some, None, eqb}
use Rattle.std.specs.Prelude.{find}
use Rattle.std.specs.List.{AllByRecursion}
use Rattle.std.specs.Option.{IfSome, IsSome, IsSomeAnd, is_none, is_some, option_map, option_or}
use Rattle.std.specs.Ordering.{nat_cmp}
use Rattle.std.specs.declared.cmp.Ordering.TheVariants.{Less, Equal}
use Rattle.std.specs.Str.{bytes_eq}
use Rattle.std.proofs.lemmas.Bool.{eq-eqb, eqb-true, ne_eqb, and_parts}
use Rattle.std.proofs.lemmas.Map.Keys.{sorted_head, sorted_tail}
use Rattle.std.proofs.lemmas.Slice.Eq.{bytes_eq-Decides}
use Rattle.model_messages.specs.declared.queued.Queued.{Queued}
use Rattle.model_messages.specs.Queue.{AreInOrder, ids_of, has_id, queued_at, is_free_of, first_free}
use Rattle.model_system.specs.declared.code.Code.{Code}
use Rattle.model_system.specs.declared.code_state.CodeState.{CodeState}
use Rattle.model_system.specs.Codes.{code_at}
use Rattle.model_machine.specs.Pick.{Candidate, candidate_by, candidate_of, is_code_served, goes_first, better, best_of, pick_among}
use Rattle.tran_pick.specs.RegionPick.{IsFirstFree}
use Rattle.tm_types.proofs.Ordered.{equal_from}

-- ---- the message
-- the message of the id is there, and no region has it
abbrev pub IsFree : List Queued → ℕ → Type 0
IsFree queued id = IsSomeAnd (queued_at id queued) (λ q. q.holder ≡ None)

-- what a search finds passes its test
found_passes : (test : Queued → Bool) (qs : List Queued) (q : Queued) → find test qs ≡ Some q → test q ≡ true
found_passes test [] q e = cc
found_passes test (p ∷ qs) q e = by (test p) refl e (found_passes test qs q)
  where
    by : (b : Bool) → test p ≡ b → cond b (Some p) (find test qs) ≡ Some q → (find test qs ≡ Some q → test q ≡ true) → test q ≡ true
    by true passes h rest = let here : p ≡ q = cc in subst (λ r. test r ≡ true) here passes
    by false passes h rest = rest h

-- an id below all others is below that of what a search finds
found_above : (id : ℕ) (test : Queued → Bool) (qs : List Queued) (q : Queued) → AllByRecursion (λ k. nat_cmp id k ≡ Less) (ids_of qs) → find test qs ≡ Some q
    → nat_cmp id q.message.id ≡ Less
found_above id test [] q below e = cc
found_above id test (p ∷ qs) q below e = by (test p) e (found_above id test qs q below.1)
  where
    by : (b : Bool) → cond b (Some p) (find test qs) ≡ Some q → (find test qs ≡ Some q → nat_cmp id q.message.id ≡ Less) → nat_cmp id q.message.id ≡ Less
    by true h rest = let here : p ≡ q = cc in subst (λ r. nat_cmp id r.message.id ≡ Less) here below.0
    by false h rest = rest h

other_id : (a b : ℕ) → nat_cmp a b ≡ Less → eqb a b ≡ false
other_id a b less = ne_eqb a b (λ e. let clash : Less ≡ Equal = sym less ∙ equal_from a b e in absurd (cc))

-- where the ids ascend, what a search finds is what is there under its id
found_by_id : (test : Queued → Bool) (qs : List Queued) (q : Queued) → AreInOrder qs → find test qs ≡ Some q → queued_at q.message.id qs ≡ Some q
found_by_id test [] q ordered e = cc
found_by_id test (p ∷ qs) q ordered e = by (test p) e (found_by_id test qs q (sorted_tail nat_cmp p.message.id (ids_of qs) ordered))
  where
    by : (b : Bool) → cond b (Some p) (find test qs) ≡ Some q → (find test qs ≡ Some q → queued_at q.message.id qs ≡ Some q)
        → cond (has_id q.message.id p) (Some p) (queued_at q.message.id qs) ≡ Some q
    by true h rest =
        let here : p ≡ q = cc in
        ap (λ b. cond b (Some p) (queued_at q.message.id qs)) (eq-eqb p.message.id q.message.id (ap {A = Queued} (λ r. r.message.id) here)) ∙ h
    by false h rest =
        ap (λ b. cond b (Some p) (queued_at q.message.id qs))
        (other_id p.message.id q.message.id (found_above p.message.id test qs q (sorted_head nat_cmp p.message.id (ids_of qs) ordered) h))
        ∙ rest h

no_holder : (holder : Option ℕ) → is_none holder ≡ true → holder ≡ None
no_holder None e = refl
no_holder (Some h) e = cc

-- the first free message of a code is there, and no region has it
pub first_is_free : (code : List ℕ) (qs : List Queued) (id : ℕ) → AreInOrder qs → first_free code qs ≡ Some id → IsFree qs id
first_is_free code qs id ordered e = by (find (is_free_of code) qs) refl e
  where
    by : (found : Option Queued) → find (is_free_of code) qs ≡ found → option_map (λ q. q.message.id) found ≡ Some id → IsFree qs id
    by None is h = cc
    by (Some q) is h =
        let same : q.message.id ≡ id = cc in
        let passes : is_free_of code q ≡ true = found_passes (is_free_of code) qs q is in
        subst (IsFree qs) same
        (subst (λ found. IsSomeAnd found (λ r. r.holder ≡ None)) (sym (found_by_id (is_free_of code) qs q ordered is))
        (no_holder q.holder (and_parts (bytes_eq q.message.code code) (is_none q.holder) passes).1))

pub free_first : (code : List ℕ) (qs : List Queued) → AreInOrder qs → IfSome (first_free code qs) (λ id. IsFirstFree qs code id)
free_first code qs ordered = by (first_free code qs) refl
  where
    by : (found : Option ℕ) → first_free code qs ≡ found → IfSome found (λ id. IsFirstFree qs code id)
    by (Some id) e = record { first = e; free = first_is_free code qs id ordered e; ordered = ordered }
    by None e = tt

-- where an id is below all others, none of these has it
pub none_above : (code : List ℕ) (id : ℕ) (qs : List Queued) → AllByRecursion (λ k. nat_cmp id k ≡ Less) (ids_of qs) → AllByRecursion (λ q. has_id id q ≡ true → q.message.code ≡ code) qs
none_above code id [] below = tt
none_above code id (q ∷ qs) below =
    (λ same. let clash : Less ≡ Equal = sym below.0 ∙ equal_from id q.message.id (sym (eqb-true q.message.id id same)) in absurd (cc), none_above code id qs below.1)

-- all messages that have the id of the code's first free message are of this code
pub first_codes : (code : List ℕ) (qs : List Queued) (id : ℕ) → AreInOrder qs → first_free code qs ≡ Some id → AllByRecursion (λ q. has_id id q ≡ true → q.message.code ≡ code) qs
first_codes code [] id ordered e = tt
first_codes code (p ∷ qs) id ordered e =
    by (is_free_of code p) refl e (first_codes code qs id (sorted_tail nat_cmp p.message.id (ids_of qs) ordered))
  where
    Rest : Type 0
    Rest = AllByRecursion (λ q. has_id id q ≡ true → q.message.code ≡ code) qs

    later : (found : Option Queued) → find (is_free_of code) qs ≡ found → option_map (λ q. q.message.id) found ≡ Some id → has_id id p ≡ true → ⊥
    later None is h same = cc
    later (Some q) is h same =
        let there : q.message.id ≡ id = cc in
        let clash : Less ≡ Equal = sym (found_above p.message.id (is_free_of code) qs q (sorted_head nat_cmp p.message.id (ids_of qs) ordered) is)
        ∙ equal_from p.message.id q.message.id (eqb-true p.message.id id same ∙ sym there) in cc

    by : (b : Bool) → is_free_of code p ≡ b → option_map (λ q. q.message.id) (cond b (Some p) (find (is_free_of code) qs)) ≡ Some id
        → (first_free code qs ≡ Some id → Rest) → (has_id id p ≡ true → p.message.code ≡ code) × Rest
    by true passes h rest =
        let here : p.message.id ≡ id = cc in (
          λ same. (bytes_eq-Decides p.message.code code).0 (and_parts (bytes_eq p.message.code code) (is_none p.holder) passes).0,
          none_above code id qs (subst (λ n. AllByRecursion (λ k. nat_cmp n k ≡ Less) (ids_of qs)) here (sorted_head nat_cmp p.message.id (ids_of qs) ordered)),
        )
    by false passes h rest = (λ same. absurd (later (find (is_free_of code) qs) refl h same), rest h)

-- what holds of both candidates holds of the one that goes first
pub better_keeps : (P : Candidate → Type 0) (a b : Option Candidate) → IfSome a P → IfSome b P → IfSome (better a b) P
better_keeps P None b h g = g
better_keeps P (Some a) None h g = h
better_keeps P (Some a) (Some b) h g = by (goes_first b a)
  where
    by : (t : Bool) → IfSome (cond t (Some b) (Some a)) P
    by true = g
    by false = h

-- ---- the code
abbrev IsOf : List Code → Candidate → Type 0
IsOf codes c = IsSome (code_at codes c.code)

first_code : (code : Code) (codes : List Code) → IsSome (code_at (code ∷ codes) code.transaction.code)
first_code code codes =
    let name : List ℕ = code.transaction.code in
    ap (λ b. is_some (cond b (Some code) (code_at codes name))) ((bytes_eq-Decides name name).1 refl)

candidate_code : (offers : Code → Option ℕ) (class : ℕ) (code : Code) (codes : List Code) (state : CodeState)
    → IfSome (candidate_of offers class code state) (IsOf (code ∷ codes))
candidate_code offers class code codes state = by (is_code_served class code state) (offers code)
  where
    by : (b : Bool) (first : Option ℕ) → IfSome (cond b (candidate_by code state first) None) (IsOf (code ∷ codes))
    by false first = tt
    by true None = tt
    by true (Some id) = first_code code codes

later_code : (code : Code) (codes : List Code) (found : Option Candidate) → IfSome found (IsOf codes) → IfSome found (IsOf (code ∷ codes))
later_code code codes None h = tt
later_code code codes (Some c) h = by (bytes_eq code.transaction.code c.code)
  where
    by : (b : Bool) → IsSome (cond b (Some code) (code_at codes c.code))
    by true = refl
    by false = h

best_code : (offers : Code → Option ℕ) (class : ℕ) (codes : List Code) (states : List CodeState) → IfSome (best_of offers class codes states) (IsOf codes)
best_code offers class [] states = tt
best_code offers class (code ∷ codes) [] = tt
best_code offers class (code ∷ codes) (state ∷ states) =
    better_keeps (IsOf (code ∷ codes)) (candidate_of offers class code state) (best_of offers class codes states)
    (candidate_code offers class code codes state) (later_code code codes (best_of offers class codes states) (best_code offers class codes states))

-- the code of what is picked is one of the codes
pub picked_code : (offers : Code → Option ℕ) (classes : List ℕ) (codes : List Code) (states : List CodeState)
    → IfSome (pick_among offers classes codes states) (λ c. IsSome (code_at codes c.code))
picked_code offers [] codes states = tt
picked_code offers (class ∷ classes) codes states =
    by (best_of offers class codes states) (best_code offers class codes states) (picked_code offers classes codes states)
  where
    by : (best : Option Candidate) → IfSome best (IsOf codes) → IfSome (pick_among offers classes codes states) (IsOf codes)
        → IfSome (option_or best (pick_among offers classes codes states)) (IsOf codes)
    by None h rest = rest
    by (Some c) h rest = h
