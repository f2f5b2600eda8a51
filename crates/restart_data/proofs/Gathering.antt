-- Parts of a snapshot, one after another.
use Rattle.std.proofs.Common.{◌≡◌, ℕ, suc, ◌+◌, ◌-◌, ◌<◌, Bool, true, false, List, [], refl, sym, ◌∙◌, ap, arith, append_assoc, Ok, Err}
use Rattle.std.specs.Prelude.{Result, nat_le}
use Rattle.std.proofs.lemmas.Bool.{leb-true, leb-false, le-leb, lt-leb}
use Rattle.std.proofs.lemmas.List.{append-nil}
use Rattle.tm_disk.specs.Disk.{Image, sector_at}
use Rattle.restart_data.specs.Snapshot.{SectorFault, lower_sector_fault, part_of, part_in, bytes_and_then, parts_in}

lower_by : (a b c : SectorFault) (x y : Bool) → nat_le a.0 b.0 ≡ x → nat_le b.0 c.0 ≡ y → lower_sector_fault (lower_sector_fault a b) c ≡ lower_sector_fault a (lower_sector_fault b c)
lower_by a b c true true ab bc =
    let ac : nat_le a.0 c.0 ≡ true = le-leb a.0 c.0 (omega (arith, leb-true a.0 b.0 ab, leb-true b.0 c.0 bc)) in
    rw (ab, bc) (rw (ab, ac) refl)
lower_by a b c true false ab bc = rw (ab, bc) refl
lower_by a b c false true ab bc = rw (ab, bc) (rw ab refl)
lower_by a b c false false ab bc =
    let ac : nat_le a.0 c.0 ≡ false = lt-leb a.0 c.0 (omega (arith, leb-false a.0 b.0 ab, leb-false b.0 c.0 bc)) in
    rw (ab, bc) (rw ac refl)

pub lower_assoc : (a b c : SectorFault) → lower_sector_fault (lower_sector_fault a b) c ≡ lower_sector_fault a (lower_sector_fault b c)
lower_assoc a b c = lower_by a b c (nat_le a.0 b.0) (nat_le b.0 c.0) refl refl

pub then_assoc : (a b c : Result (List ℕ) SectorFault) → bytes_and_then (bytes_and_then a b) c ≡ bytes_and_then a (bytes_and_then b c)
then_assoc (Ok a) (Ok b) (Ok c) = ap (λ (l : List ℕ). Ok l) (append_assoc a b c)
then_assoc (Ok a) (Ok b) (Err c) = refl
then_assoc (Ok a) (Err b) (Ok c) = refl
then_assoc (Ok a) (Err b) (Err c) = refl
then_assoc (Err a) (Ok b) (Ok c) = refl
then_assoc (Err a) (Ok b) (Err c) = refl
then_assoc (Err a) (Err b) (Ok c) = refl
then_assoc (Err a) (Err b) (Err c) = ap (λ (f : SectorFault). Err f) (lower_assoc a b c)

pub then_none : (a : Result (List ℕ) SectorFault) → bytes_and_then a (Ok []) ≡ a
then_none (Ok bytes) = ap (λ (l : List ℕ). Ok l) (append-nil bytes)
then_none (Err fault) = refl

pub first_none : (a : Result (List ℕ) SectorFault) → bytes_and_then (Ok []) a ≡ a
first_none (Ok bytes) = refl
first_none (Err fault) = refl

-- what stands from a place on, by its first part
pub parts_next : (count place : ℕ) (image : Image) (first checkpoint : ℕ) → place < count → parts_in (count - place) image (first + place) checkpoint place ≡ bytes_and_then (part_in (first + place) (part_of ((count - place) - 1) checkpoint place (sector_at image (first + place)))) (parts_in (count - (place + 1)) image (first + (place + 1)) checkpoint (place + 1))
parts_next count place image first checkpoint lt =
    let n = count - (place + 1) in
    let one : count - place ≡ suc n = omega (arith, lt) in
    let behind : n ≡ (count - place) - 1 = omega arith in
    let at : (first + place) + 1 ≡ first + (place + 1) = omega arith in
    ap (λ k. parts_in k image (first + place) checkpoint place) one
    ∙ ap (λ k. bytes_and_then (part_in (first + place) (part_of n checkpoint place (sector_at image (first + place)))) (parts_in n image k checkpoint (place + 1))) at
    ∙ ap (λ k. bytes_and_then (part_in (first + place) (part_of k checkpoint place (sector_at image (first + place)))) (parts_in n image (first + (place + 1)) checkpoint (place + 1))) behind

-- one sector on
pub gathers : (all so_far part now rest left : Result (List ℕ) SectorFault) → all ≡ bytes_and_then so_far left → left ≡ bytes_and_then part rest → now ≡ bytes_and_then so_far part → all ≡ bytes_and_then now rest
gathers all so_far part now rest left is next made =
    is ∙ ap (bytes_and_then so_far) next ∙ sym (then_assoc so_far part rest) ∙ ap (λ (r : Result (List ℕ) SectorFault). bytes_and_then r rest) (sym made)
