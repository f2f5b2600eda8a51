-- Sectors that are read one after another.
use Rattle.std.proofs.Common.{◌≡◌, ℕ, zero, suc, ◌+◌, ◌-◌, ◌<◌, ◌≤◌, Bool, true, false, refl, sym, ◌∙◌, ap, arith, Some, None}
use Rattle.std.specs.Prelude.{Option, if◌then◌else◌}
use Rattle.tm_disk.specs.Disk.{Image, sector_at}
use Rattle.model_image.specs.RecoveredState.{is_later, first_later}

-- ---- later epochs

later_more : (n count place at : ℕ) (image : Image) (first epoch : ℕ) → count - place ≡ suc n → first_later (count - place) image (first + place) epoch ≡ (if is_later epoch (sector_at image (first + place)) then Some (first + place) else first_later (count - (place + 1)) image (first + (place + 1)) epoch)
later_more n count place at image first epoch is =
    ap (λ k. first_later k image (first + place) epoch) is
    ∙ ap (λ k. if is_later epoch (sector_at image (first + place)) then Some (first + place) else first_later k image (first + place + 1) epoch) (omega (arith, is))
    ∙ ap (λ k. if is_later epoch (sector_at image (first + place)) then Some (first + place) else first_later (count - (place + 1)) image k epoch) (omega arith)

pub later_next : (count place : ℕ) (image : Image) (first epoch : ℕ) (whole : Option ℕ) → place < count → whole ≡ first_later (count - place) image (first + place) epoch → is_later epoch (sector_at image (first + place)) ≡ false → whole ≡ first_later (count - (place + 1)) image (first + (place + 1)) epoch
later_next count place image first epoch whole lt so_far not =
    so_far ∙ later_more (count - place - 1) count place 0 image first epoch (omega (arith, lt))
    ∙ ap (λ (b : Bool). if b then Some (first + place) else first_later (count - (place + 1)) image (first + (place + 1)) epoch) not

pub later_here : (count place : ℕ) (image : Image) (first epoch : ℕ) (whole : Option ℕ) → place < count → whole ≡ first_later (count - place) image (first + place) epoch → is_later epoch (sector_at image (first + place)) ≡ true → whole ≡ Some (first + place)
later_here count place image first epoch whole lt so_far is =
    so_far ∙ later_more (count - place - 1) count place 0 image first epoch (omega (arith, lt))
    ∙ ap (λ (b : Bool). if b then Some (first + place) else first_later (count - (place + 1)) image (first + (place + 1)) epoch) is

pub later_end : (count place : ℕ) (image : Image) (first epoch : ℕ) (whole : Option ℕ) → count ≤ place → whole ≡ first_later (count - place) image (first + place) epoch → whole ≡ None
later_end count place image first epoch whole le so_far = let none : count - place ≡ 0 = omega (arith, le) in so_far ∙ ap (λ k. first_later k image (first + place) epoch) none

-- by the first of them

later_begins : (n count : ℕ) (image : Image) (at epoch : ℕ) → count ≡ suc n → first_later count image at epoch ≡ (if is_later epoch (sector_at image at) then Some at else first_later (count - 1) image (at + 1) epoch)
later_begins n count image at epoch is =
    ap (λ k. first_later k image at epoch) is
    ∙ ap (λ k. if is_later epoch (sector_at image at) then Some at else first_later k image (at + 1) epoch) (omega (arith, is))

pub later_first : (count : ℕ) (image : Image) (at epoch : ℕ) → 0 < count → is_later epoch (sector_at image at) ≡ true → first_later count image at epoch ≡ Some at
later_first count image at epoch some is =
    later_begins (count - 1) count image at epoch (omega (arith, some))
    ∙ ap (λ (b : Bool). if b then Some at else first_later (count - 1) image (at + 1) epoch) is

pub later_behind : (count : ℕ) (image : Image) (at epoch : ℕ) → 0 < count → is_later epoch (sector_at image at) ≡ false → first_later count image at epoch ≡ first_later (count - 1) image (at + 1) epoch
later_behind count image at epoch some not =
    later_begins (count - 1) count image at epoch (omega (arith, some))
    ∙ ap (λ (b : Bool). if b then Some at else first_later (count - 1) image (at + 1) epoch) not

-- in two areas, one behind the other

abbrev pub in_both : Option ℕ → Option ℕ → Option ℕ
in_both (Some at) behind = Some at
in_both None behind = behind

later_or : (b : Bool) (at : ℕ) (rest behind : Option ℕ) → in_both (if b then Some at else rest) behind ≡ (if b then Some at else in_both rest behind)
later_or true at rest behind = refl
later_or false at rest behind = refl

pub later_in_both : (one two : ℕ) (image : Image) (at epoch : ℕ) → first_later (one + two) image at epoch ≡ in_both (first_later one image at epoch) (first_later two image (at + one) epoch)
later_in_both zero two image at epoch =
    let count : 0 + two ≡ two = omega arith in
    let place : at ≡ at + 0 = omega arith in
    ap (λ k. first_later k image at epoch) count ∙ ap (λ k. first_later two image k epoch) place
later_in_both (suc one) two image at epoch =
    let count : suc one + two ≡ suc (one + two) = omega arith in
    let place : at + 1 + one ≡ at + suc one = omega arith in
    ap (λ k. first_later k image at epoch) count
    ∙ ap (λ (rest : Option ℕ). if is_later epoch (sector_at image at) then Some at else rest)
    (later_in_both one two image (at + 1) epoch ∙ ap (λ k. in_both (first_later one image (at + 1) epoch) (first_later two image k epoch)) place)
    ∙ sym (later_or (is_later epoch (sector_at image at)) at (first_later one image (at + 1) epoch) (first_later two image (at + suc one) epoch))
