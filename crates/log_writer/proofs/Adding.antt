-- What forcing adds to the log.
use Rattle.std.proofs.Common.{◌≡◌, ◌⊎◌, ℕ, ◌+◌, ◌-◌, ◌*◌, ◌<◌, ◌≤◌, List, [], ◌++◌, length, take, drop, refl, sym, ◌∙◌, ap, subst, inl, inr, ⊎_elim, arith, Option, Some, None, IsSome}
use Rattle.std.proofs.lemmas.Bool.{cases_lt}
use Rattle.std.proofs.lemmas.List.{length-take, length-drop}
use Rattle.tm_disk.specs.Disk.{Image, sector_at}
use Rattle.log_sectors.specs.SealedSector.{sealed, opened_payload}
use Rattle.log_sectors.specs.Chain.{chain, joined_payloads}
use Rattle.log_sectors.proofs.Sealing.{opened-sealed}
use Rattle.log_writer.specs.Writer.{Writer}
use Rattle.log_writer.specs.ForcedLog.{log_of_writer, log_sectors_of, IsAtEnd, StaysOrLogs, AddsFront, AddsAll, log_pieces, log_piece, Lays, HasLaid}
use Rattle.log_writer.proofs.Laying.{length-pieces, piece-pieces, joined-pieces}
use Rattle.log_writer.proofs.Gaining.{link, link_at, chain-front, chain-all, joined-append, joined-front, sectors-enough, log-split, log-old}

-- each piece has bytes, and not too many
pub piece-some : (bytes : List ℕ) (x : ℕ) → x < log_sectors_of (length bytes) → 0 < length (log_piece (log_pieces (log_sectors_of (length bytes)) bytes) x)
piece-some bytes x lt =
    let is = piece-pieces (log_sectors_of (length bytes)) x bytes lt in
    subst (λ (l : List ℕ). 0 < length l) (sym is) (omega (arith, lt, length-take 4064 (drop (x * 4064) bytes), length-drop (x * 4064) bytes))

pub piece-fits : (bytes : List ℕ) (x : ℕ) → x < log_sectors_of (length bytes) → length (log_piece (log_pieces (log_sectors_of (length bytes)) bytes) x) ≤ 4064
piece-fits bytes x lt =
    let is = piece-pieces (log_sectors_of (length bytes)) x bytes lt in
    subst (λ (l : List ℕ). length l ≤ 4064) (sym is) (omega (arith, length-take 4064 (drop (x * 4064) bytes)))

pub sectors-fit : (n k : ℕ) → n ≤ k * 4064 → log_sectors_of n ≤ k
sectors-fit n k le = omega (arith, le)

abbrev pub at_of : Writer → ℕ
at_of w = w.first + w.place

abbrev pub sequence_of : Writer → ℕ
sequence_of w = w.sequence + w.place

abbrev pub count_of : Writer → ℕ
count_of w = log_sectors_of (length w.appended)

abbrev pub payloads_of : Writer → List (List ℕ)
payloads_of w = log_pieces (log_sectors_of (length w.appended)) w.appended

-- a sector that stays isn't of the chain
stays_free : (w : Writer) (old new : Image) (x : ℕ) → IsAtEnd w old → w.place + x < w.count → sector_at new (at_of w + x) ≡ sector_at old (at_of w + x) → link new (at_of w) (sequence_of w) w.epoch x ≡ None
stays_free w old new x end lt same =
    ap (λ (s : List ℕ). opened_payload w.epoch (sequence_of w + x) s) same ∙ link_at w old x ∙ end.free (w.place + x) (omega arith) lt

-- a sector that was laid holds its payload
laid_some : (w : Writer) (new : Image) (x : ℕ) → x < count_of w → sector_at new (at_of w + x) ≡ sealed w.epoch (sequence_of w + x) (log_piece (payloads_of w) x) → link new (at_of w) (sequence_of w) w.epoch x ≡ Some (log_piece (payloads_of w) x)
laid_some w new x lt is =
    ap (λ (s : List ℕ). opened_payload w.epoch (sequence_of w + x) s) is
    ∙ opened-sealed w.epoch (sequence_of w + x) (log_piece (payloads_of w) x) (piece-some w.appended x lt) (piece-fits w.appended x lt)

length-payloads : (w : Writer) → length (payloads_of w) ≡ count_of w
length-payloads w = length-pieces (count_of w) w.appended

-- the logs before and after, by the payloads of the chain behind the writer's place
log-gains : (w : Writer) (old new : Image) (tail : List (List ℕ)) → IsAtEnd w old → w.place ≤ w.count → ((x : ℕ) → x < w.place → sector_at new (w.first + x) ≡ sector_at old (w.first + x)) → chain (w.count - w.place) new (at_of w) (sequence_of w) w.epoch ≡ tail → log_of_writer w new ≡ log_of_writer w old ++ joined_payloads tail
log-gains w old new tail end le same is =
    ap joined_payloads (log-split w old new end new le same ∙ ap (λ (l : List (List ℕ)). chain w.place old w.first w.sequence w.epoch ++ l) is)
    ∙ joined-append (chain w.place old w.first w.sequence w.epoch) tail
    ∙ ap (λ (l : List ℕ). l ++ joined_payloads tail) (sym (ap joined_payloads (log-old w old new end le)))

some_is : (o : Option (List ℕ)) (p : List ℕ) → o ≡ Some p → IsSome o
some_is None p e = cc
some_is (Some q) p e = refl

-- each sector of the area stays or is a log sector
lays_or_stays : (w : Writer) (old new : Image) → w.place + count_of w ≤ w.count → Lays (at_of w) (sequence_of w) w.epoch (payloads_of w) (count_of w) old new → (x : ℕ) → StaysOrLogs w old new x
lays_or_stays w old new room lays x =
    ⊎_elim
    (λ (near : x < w.place). inl (lays.below (w.first + x) (omega (arith, near))))
    (λ (far : w.place ≤ x).
    let y = x - w.place in
    let is : w.place + y ≡ x = omega (arith, far) in
    let place : at_of w + y ≡ w.first + x = omega (arith, is) in
    ⊎_elim
    (λ (within : y < count_of w).
    ⊎_elim
    (λ same. inl (subst (λ k. sector_at new k ≡ sector_at old k) place same))
    (λ laid. inr (some_is (link new w.first w.sequence w.epoch x) (log_piece (payloads_of w) y)
    (ap (λ k. link new w.first w.sequence w.epoch k) (sym is) ∙ sym (link_at w new y) ∙ laid_some w new y within laid)))
    (lays.each y within))
    (λ (behind : count_of w ≤ y). inl (lays.above (w.first + x) (omega (arith, behind, is))))
    (cases_lt y (count_of w)))
    (cases_lt x w.place)

has_laid_lays : (w : Writer) (old new : Image) → HasLaid (at_of w) (sequence_of w) w.epoch (payloads_of w) (count_of w) old new → Lays (at_of w) (sequence_of w) w.epoch (payloads_of w) (count_of w) old new
has_laid_lays w old new laid = record { size = laid.size; below = laid.below; above = laid.above; each = λ x lt. inr (laid.each x lt) }

pub adds-front : (w : Writer) (old new : Image) → IsAtEnd w old → w.place + count_of w ≤ w.count → Lays (at_of w) (sequence_of w) w.epoch (payloads_of w) (count_of w) old new → AddsFront w old new
adds-front w old new end room lays =
    let size = length-payloads w in
    let front = chain-front (payloads_of w) (w.count - w.place) new (at_of w) (sequence_of w) w.epoch
    (λ x lt. ⊎_elim
    (λ same. inl (stays_free w old new x end (omega (arith, size, lt)) same))
    (λ is. inr (laid_some w new x (omega (arith, size, lt)) is))
    (lays.each x (omega (arith, size, lt))))
    (λ x far lt. stays_free w old new x end (omega arith) (lays.above (at_of w + x) (omega (arith, size, far)))) in
    let tail = take front.count (payloads_of w) in
    let log : log_of_writer w new ≡ log_of_writer w old ++ joined_payloads tail = log-gains w old new tail end (omega arith) (λ x lt. lays.below (w.first + x) (omega arith)) front.is in
    let bytes : joined_payloads (payloads_of w) ≡ w.appended = joined-pieces (count_of w) w.appended (sectors-enough (length w.appended)) in
    record {
      changes = record { size = lays.size; below = lays.below; above = lays.above };
      each = lays_or_stays w old new room lays;
      front = length (joined_payloads tail);
      log = log ∙ ap (λ (l : List ℕ). log_of_writer w old ++ l) (joined-front front.count (payloads_of w) ∙ ap (λ (l : List ℕ). take (length (joined_payloads tail)) l) bytes);
    }

pub adds-all : (w : Writer) (old new : Image) → IsAtEnd w old → w.place + count_of w ≤ w.count → HasLaid (at_of w) (sequence_of w) w.epoch (payloads_of w) (count_of w) old new → AddsAll w old new
adds-all w old new end room laid =
    let size = length-payloads w in
    let all : chain (w.count - w.place) new (at_of w) (sequence_of w) w.epoch ≡ payloads_of w =
    chain-all (payloads_of w) (w.count - w.place) new (at_of w) (sequence_of w) w.epoch (omega (arith, size))
    (λ x lt. laid_some w new x (omega (arith, size, lt)) (laid.each x (omega (arith, size, lt))))
    (λ x far lt. stays_free w old new x end (omega arith) (laid.above (at_of w + x) (omega (arith, size, far)))) in
    let bytes : joined_payloads (payloads_of w) ≡ w.appended = joined-pieces (count_of w) w.appended (sectors-enough (length w.appended)) in
    record {
      changes = record { size = laid.size; below = laid.below; above = laid.above };
      each = lays_or_stays w old new room (has_laid_lays w old new laid);
      log = log-gains w old new (payloads_of w) end (omega arith) (λ x lt. laid.below (w.first + x) (omega arith)) all ∙ ap (λ (l : List ℕ). log_of_writer w old ++ l) bytes;
    }

-- the writer behind what it wrote
abbrev pub moved : Writer → Writer
moved w = record w { place = w.place + count_of w; appended = [] }

pub at_end-moved : (w : Writer) (old new : Image) → IsAtEnd w old → w.place + count_of w ≤ w.count → HasLaid (at_of w) (sequence_of w) w.epoch (payloads_of w) (count_of w) old new → IsAtEnd (moved w) new
at_end-moved w old new end room laid = record {
  written = λ x lt.
      ⊎_elim
      (λ (near : x < w.place). subst (λ (s : List ℕ). IsSome (opened_payload w.epoch (w.sequence + x) s)) (sym (laid.below (w.first + x) (omega arith))) (end.written x near))
      (λ (far : w.place ≤ x).
      let y = x - w.place in
      let is : w.place + y ≡ x = omega arith in
      let less : y < count_of w = omega (arith, lt, far) in
      some_is (link new w.first w.sequence w.epoch x) (log_piece (payloads_of w) y)
      (ap (λ k. link new w.first w.sequence w.epoch k) (sym is) ∙ sym (link_at w new y) ∙ laid_some w new y less (laid.each y less)))
      (cases_lt x w.place);
  free = λ x far lt.
      let same : sector_at new (w.first + x) ≡ sector_at old (w.first + x) = laid.above (w.first + x) (omega (arith, far)) in
      ap (λ (s : List ℕ). opened_payload w.epoch (w.sequence + x) s) same ∙ end.free x (omega (arith, far)) lt;
}

-- what was appended fits where the writer's own sectors end
pub room_for : (w : Writer) → w.place ≤ w.count → length w.appended ≤ (w.count - w.place) * 4064 → w.place + count_of w ≤ w.count
room_for w le fits = omega (arith, le, sectors-fit (length w.appended) (w.count - w.place) fits)
