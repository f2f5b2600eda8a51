-- What is picked is what the rule says.
use Rattle.std.proofs.Common.{◌≡◌, ℕ, ◌∷◌, [], List, refl, sym, ◌∙◌, subst, arith, Bool, true, false, cond, Option, Some, None, inl, inr, ⊎_elim}
use Rattle.std.specs.Option.{option_or}
use Rattle.model_system.specs.declared.code.Code.{Code}
use Rattle.model_system.specs.declared.code_state.CodeState.{CodeState}
use Rattle.model_machine.specs.Pick.{Candidate, candidate_of, goes_first, better, best_of, pick_among}
use Rattle.tran_pick.specs.RegionPick.{IsEligible, NoneEligible, IsFirstToServe, IsPicked, NonePicked}
use Rattle.tran_pick.proofs.Better.{GoesFirst, GoesAlong, first_from, along_from, along_by, along_along}

not_itself : (a : Candidate) → goes_first a a ≡ false
not_itself a = along_by a a (inr (refl, omega arith))

along_after : (a b : Candidate) → GoesFirst a b → GoesAlong a b
along_after a b (inl t) = inl t
along_after a b (inr t) = inr (t.0, omega (arith, t.1))

no_value : {X : Type 0} {P : Type 0} (o : Option X) (x : X) → o ≡ None → o ≡ Some x → P
no_value o x e f = let clash : None ≡ Some x = sym e ∙ f in absurd (cc)

the_value : {X : Type 0} (x y : X) → Some x ≡ Some y → x ≡ y
the_value x y e = cc

both_none : (a b : Option Candidate) → better a b ≡ None → (a ≡ None) × (b ≡ None)
both_none None b e = (refl, e)
both_none (Some a) None e = no_value (Some a) a e refl
both_none (Some a) (Some b) e = by (goes_first b a) e
  where
    by : (t : Bool) → cond t (Some b) (Some a) ≡ None → (Some a ≡ None) × (Some b ≡ None)
    by true f = no_value (Some b) b f refl
    by false f = no_value (Some a) a f refl

module _ (offers : Code → Option ℕ) (class : ℕ) where
  pub none_from : (codes : List Code) (states : List CodeState) → best_of offers class codes states ≡ None → NoneEligible offers class codes states
  none_from [] states e c h = h
  none_from (code ∷ codes) [] e c h = h
  none_from (code ∷ codes) (state ∷ states) e c h =
      let both = both_none (candidate_of offers class code state) (best_of offers class codes states) e in
      ⊎_elim (λ q. no_value (candidate_of offers class code state) c both.0 q) (none_from codes states both.1 c) h

  pub first_of : (codes : List Code) (states : List CodeState) (c : Candidate) → best_of offers class codes states ≡ Some c → IsFirstToServe offers class codes states c
  first_of [] states c e = no_value None c refl e
  first_of (code ∷ codes) [] c e = no_value None c refl e
  first_of (code ∷ codes) (state ∷ states) c e =
      by (candidate_of offers class code state) (best_of offers class codes states) refl refl e (first_of codes states)
    where
      Whole : Candidate → Type 0
      Whole d = IsFirstToServe offers class (code ∷ codes) (state ∷ states) d

      here : (a : Candidate) → candidate_of offers class code state ≡ Some a → ((d : Candidate) → IsEligible offers class codes states d → goes_first d a ≡ false)
          → IsFirstToServe offers class (code ∷ codes) (state ∷ states) a
      here a q others =
          record {
            eligible = inl q;
            before = λ d h. ⊎_elim (λ r. let same : a ≡ d = the_value a d (sym q ∙ r) in subst (λ x. goes_first x a ≡ false) same (not_itself a)) (others d) h;
          }

      later : (b : Candidate) → IsFirstToServe offers class codes states b → ((d : Candidate) → candidate_of offers class code state ≡ Some d → goes_first d b ≡ false)
          → IsFirstToServe offers class (code ∷ codes) (state ∷ states) b
      later b h this = record { eligible = inr h.eligible; before = λ d g. ⊎_elim (this d) (h.before d) g }

      by : (o r : Option Candidate) → candidate_of offers class code state ≡ o → best_of offers class codes states ≡ r → better o r ≡ Some c
          → ((b : Candidate) → best_of offers class codes states ≡ Some b → IsFirstToServe offers class codes states b) → IsFirstToServe offers class (code ∷ codes) (state ∷ states) c
      by None r q s f rec = later c (rec c (s ∙ f)) (λ d t. no_value (candidate_of offers class code state) d q t)
      by (Some a) None q s f rec =
          subst (λ x. IsFirstToServe offers class (code ∷ codes) (state ∷ states) x) (the_value a c f) (here a q (λ d h. absurd (none_from codes states s d h)))
      by (Some a) (Some b) q s f rec = choose (goes_first b a) refl f
        where
          choose : (t : Bool) → goes_first b a ≡ t → cond t (Some b) (Some a) ≡ Some c → IsFirstToServe offers class (code ∷ codes) (state ∷ states) c
          choose true u g =
              subst (λ x. IsFirstToServe offers class (code ∷ codes) (state ∷ states) x) (the_value b c g)
              (later b (rec b s) (λ d t. subst (λ x. goes_first x b ≡ false) (the_value a d (sym q ∙ t)) (along_by b a (along_after b a (first_from b a u)))))
          choose false u g =
              subst (λ x. IsFirstToServe offers class (code ∷ codes) (state ∷ states) x) (the_value a c g)
              (here a q (λ d h. along_by a d (along_along a b d (along_from a b u) (along_from b d ((rec b s).before d h)))))

module _ (offers : Code → Option ℕ) (codes : List Code) (states : List CodeState) where
  pub picked_from : (classes : List ℕ) (c : Candidate) → pick_among offers classes codes states ≡ Some c → IsPicked offers classes codes states c
  picked_from [] c e = no_value None c refl e
  picked_from (class ∷ classes) c e = by (best_of offers class codes states) refl e (picked_from classes c)
    where
      by : (o : Option Candidate) → best_of offers class codes states ≡ o → option_or o (pick_among offers classes codes states) ≡ Some c
          → (pick_among offers classes codes states ≡ Some c → IsPicked offers classes codes states c) → IsPicked offers (class ∷ classes) codes states c
      by None q f rec = inr (none_from offers class codes states q, rec f)
      by (Some b) q f rec = inl (first_of offers class codes states c (q ∙ f))

  pub nothing_from : (classes : List ℕ) → pick_among offers classes codes states ≡ None → NonePicked offers classes codes states
  nothing_from [] e = tt
  nothing_from (class ∷ classes) e = by (best_of offers class codes states) refl e (nothing_from classes)
    where
      by : (o : Option Candidate) → best_of offers class codes states ≡ o → option_or o (pick_among offers classes codes states) ≡ None
          → (pick_among offers classes codes states ≡ None → NonePicked offers classes codes states) → NonePicked offers (class ∷ classes) codes states
      by None q f rec = (none_from offers class codes states q, rec f)
      by (Some b) q f rec = no_value (Some b) b f refl
