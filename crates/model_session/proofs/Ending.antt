-- Only the disk's fault ends a life whose entries are answered, or whose last one has that fault.
use Rattle.std.proofs.Common.{◌≡◌, true, false, List, [], ◌∷◌, ◌++◌, sym, ◌∙◌, ap, subst}
use Rattle.std.specs.Prelude.{Some}
use Rattle.model_machine.specs.declared.entry.Entry.{Entry}
use Rattle.model_system.specs.System.{System}
use Rattle.model_machine.specs.Machine.{Moment}
use Rattle.model_machine.specs.History.{AreSteps, IsEnd, IsLegal, after_entry, history_ended_by, is_fault}
use Rattle.model_session.specs.Lives.{is_disk_fault}
use Rattle.model_session.proofs.Unfaulted.{unfaulted}
use Rattle.tm_types.proofs.Truths.{apart}

last_fine : (system : System) (steps : List Entry) (entry : Entry) (moment : Moment) → AreSteps system moment (steps ++ entry ∷ []) → is_fault entry ≡ false
last_fine system [] entry moment legal = unfaulted system moment entry legal.0
last_fine system (step ∷ steps) entry moment legal = last_fine system steps entry (after_entry system moment step) legal.1

none_left : (entry first : Entry) (entries : List Entry) → [] ≡ entries ++ entry ∷ [] → ⊥
none_left entry first [] e = cc
none_left entry first (next ∷ entries) e = cc

tail_is : (x y : Entry) (xs ys : List Entry) → x ∷ xs ≡ y ∷ ys → xs ≡ ys
tail_is x y xs ys e = cc

head_is : (x y : Entry) (xs ys : List Entry) → x ∷ xs ≡ y ∷ ys → x ≡ y
head_is x y xs ys e = cc

last_is : (xs ys : List Entry) (x y : Entry) → xs ++ x ∷ [] ≡ ys ++ y ∷ [] → x ≡ y
last_is [] [] x y e = head_is x y [] [] e
last_is [] (first ∷ ys) x y e = absurd (none_left y x ys (tail_is x first [] (ys ++ y ∷ []) e))
last_is (first ∷ xs) [] x y e = absurd (none_left x y xs (sym (tail_is first y (xs ++ x ∷ []) [] e)))
last_is (first ∷ xs) (second ∷ ys) x y e = last_is xs ys x y (tail_is first second (xs ++ x ∷ []) (ys ++ y ∷ []) e)

module _ (system : System) (moment : Moment) (history : List Entry) (legal : IsLegal system moment history) (entry : Entry) (last : legal.last ≡ Some entry) where
  all : history ≡ legal.steps ++ entry ∷ []
  all = subst (λ l. history ≡ history_ended_by legal.steps l) last legal.all

  faulted : is_fault entry ≡ true
  faulted = (subst (λ l. IsEnd system l) last legal.end).0

  -- no entry has a fault
  pub answered_end : AreSteps system moment history → is_disk_fault entry ≡ true
  answered_end steps = absurd (apart (sym faulted ∙ last_fine system legal.steps entry moment (subst (λ h. AreSteps system moment h) all steps)))

  -- the last one has
  pub faulted_end : (before : List Entry) (end : Entry) → history ≡ before ++ end ∷ [] → is_disk_fault end ≡ true → is_disk_fault entry ≡ true
  faulted_end before end split is = ap is_disk_fault (last_is legal.steps before entry end (sym all ∙ split)) ∙ is
