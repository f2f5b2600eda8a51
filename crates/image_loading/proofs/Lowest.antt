-- The lowest rule of two lists of databases.
use Rattle.std.proofs.Common.{◌≡◌, ℕ, List, [], ◌∷◌, ◌++◌, refl, sym, ◌∙◌, ap, Some, None}
use Rattle.std.specs.Prelude.{Option}
use Rattle.std.specs.Option.{option_or}
use Rattle.model_image.specs.Faults.{Fault}
use Rattle.model_image.specs.Slots.{SlotOnImage, first_wrong, first_no_record, first_doubled, fault_of, first_in, slot_fault}
use Rattle.image_loading.specs.Databases.{lowest_fault}

-- the fault of three findings, of the rules 20 to 22
abbrev of_three : Option ℕ → Option ℕ → Option ℕ → Option Fault
of_three a b c = option_or (fault_of 20 a) (option_or (fault_of 21 b) (fault_of 22 c))

-- what is found in a list and in another one
both_lower : (a b c d e f : Option ℕ) → lowest_fault (of_three a b c) (of_three d e f) ≡ of_three (option_or a d) (option_or b e) (option_or c f)
both_lower (Some s) b c (Some t) e f = refl
both_lower (Some s) b c None (Some t) f = refl
both_lower (Some s) b c None None (Some t) = refl
both_lower (Some s) b c None None None = refl
both_lower None (Some s) c (Some t) e f = refl
both_lower None (Some s) c None (Some t) f = refl
both_lower None (Some s) c None None (Some t) = refl
both_lower None (Some s) c None None None = refl
both_lower None None (Some s) (Some t) e f = refl
both_lower None None (Some s) None (Some t) f = refl
both_lower None None (Some s) None None (Some t) = refl
both_lower None None (Some s) None None None = refl
both_lower None None None d e f = refl

or_both : (a b c : Option ℕ) → option_or (option_or a b) c ≡ option_or a (option_or b c)
or_both None b c = refl
or_both (Some s) b c = refl

first_both : (place : List SlotOnImage → Option ℕ) (xs ys : List (List SlotOnImage)) → first_in place (xs ++ ys) ≡ option_or (first_in place xs) (first_in place ys)
first_both place [] ys = refl
first_both place (x ∷ xs) ys = ap (option_or (place x)) (first_both place xs ys) ∙ sym (or_both (place x) (first_in place xs) (first_in place ys))

pub fault_both : (xs ys : List (List SlotOnImage)) → lowest_fault (slot_fault xs) (slot_fault ys) ≡ slot_fault (xs ++ ys)
fault_both xs ys =
    both_lower (first_in first_wrong xs) (first_in first_no_record xs) (first_in first_doubled xs) (first_in first_wrong ys) (first_in first_no_record ys) (first_in first_doubled ys)
    ∙ ap (λ (o : Option ℕ). of_three o (option_or (first_in first_no_record xs) (first_in first_no_record ys)) (option_or (first_in first_doubled xs) (first_in first_doubled ys))) (sym (first_both first_wrong xs ys))
    ∙ ap (λ (o : Option ℕ). of_three (first_in first_wrong (xs ++ ys)) o (option_or (first_in first_doubled xs) (first_in first_doubled ys))) (sym (first_both first_no_record xs ys))
    ∙ ap (λ (o : Option ℕ). of_three (first_in first_wrong (xs ++ ys)) (first_in first_no_record (xs ++ ys)) o) (sym (first_both first_doubled xs ys))

pub lowest_none : (o : Option Fault) → o ≡ lowest_fault o None
lowest_none None = refl
lowest_none (Some f) = refl

pub lowest_some : (o : Option Fault) (f : Fault) → lowest_fault o (Some f) ≡ None → ⊥
lowest_some None f e = cc
lowest_some (Some g) f e = cc
