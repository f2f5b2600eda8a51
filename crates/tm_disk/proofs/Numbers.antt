-- Sectors by the numbers of the writes that made them.
use Rattle.std.proofs.Common.{◌≡◌, ◌≢◌, ℕ, suc, zero, ◌+◌, ◌-◌, ◌^◌, ◌<◌, ◌≤◌, List, [], ◌∷◌, ◌++◌, length, map, drop, refl, sym, ◌∙◌, ap, subst, ⊎_elim, arith, get_or, set}
use Rattle.std.specs.Prelude.{All, replicate, cond}
use Rattle.std.proofs.lemmas.Bool.{cases_eq, eq-eqb, ne_eqb}
use Rattle.std.proofs.lemmas.List.{drop-append-le, drop_all, drop_more, get_or-set_same, get_or-set_other, get_or-map, length-map, length-replicate, length-set, length_push, map-set}
use Rattle.std.proofs.lemmas.List.Elements.{All-set, All-replicate}
use Rattle.tm_disk.specs.Disk.{Image, sector_at, with_sector}
use Rattle.tm_disk.specs.Sector.{blank}
use Rattle.tm_disk.specs.Moments.{DiskMoment, zero_disk, writes_to, picked, settled_by, after_write, moments_past, IsMomentSound}
use Rattle.tm_disk.specs.MomentLaws.{writes_to-same, writes_to-other}
use Rattle.tm_disk.specs.NumberedSectors.{written_content, made_by, image_by, AreNumbers, chosen_by}
use Rattle.tm_disk.specs.Written.{Written}
use Rattle.tm_disk.specs.declared.record.Before.{Before}
use Rattle.tm_disk.specs.declared.record.Before.TheVariants.{Nothing, Synced, Cut}
use Rattle.tm_disk.proofs.Crash.{writes_to-push-same, writes_to-push-other}
use Rattle.tm_disk.proofs.Keeping.{moment_of, sound-write, write-now, Settling, settling-sync, settling-cut}

-- ---- one write more

made-push : (writes : List Written) (write : Written) (n : ℕ) (d : List ℕ) → n < length writes → get_or (map written_content (writes ++ write ∷ [])) n d ≡ get_or (map written_content writes) n d
made-push [] write n d lt = absurd (omega (arith, lt))
made-push (first ∷ writes) write zero d lt = refl
made-push (first ∷ writes) write (suc n) d lt = made-push writes write n d (omega (arith, lt))

pub made_by-push : (writes : List Written) (write : Written) (number : ℕ) → number ≤ length writes → made_by (writes ++ write ∷ []) number ≡ made_by writes number
made_by-push writes write zero le = refl
made_by-push writes write (suc n) le = made-push writes write n blank (omega (arith, le))

made-last : (writes : List Written) (write : Written) (d : List ℕ) → get_or (map written_content (writes ++ write ∷ [])) (length writes) d ≡ write.content
made-last [] write d = refl
made-last (first ∷ writes) write d = made-last writes write d

pub made_by-last : (writes : List Written) (write : Written) (number : ℕ) → number ≡ length writes + 1 → made_by (writes ++ write ∷ []) number ≡ write.content
made_by-last writes write number is =
    let next : number ≡ suc (length writes) = omega (arith, is) in
    ap (made_by (writes ++ write ∷ [])) next ∙ made-last writes write blank

-- the write at a place has the number behind it
made-at : (writes : List Written) (place : ℕ) (w : Written) (d : List ℕ) → place < length writes → get_or (map written_content writes) place d ≡ (get_or writes place w).content
made-at [] place w d lt = absurd (omega (arith, lt))
made-at (first ∷ writes) zero w d lt = refl
made-at (first ∷ writes) (suc n) w d lt = made-at writes n w d (omega (arith, lt))

pub made_by-at : (writes : List Written) (place : ℕ) (w : Written) → place < length writes → made_by writes (place + 1) ≡ (get_or writes place w).content
made_by-at writes place w lt =
    let next : place + 1 ≡ suc place = omega arith in
    ap (made_by writes) next ∙ made-at writes place w blank lt

pub image_by-push : (writes : List Written) (write : Written) (numbers : List ℕ) → All (λ n. n ≤ length writes) numbers → image_by (writes ++ write ∷ []) numbers ≡ image_by writes numbers
image_by-push writes write [] all = refl
image_by-push writes write (number ∷ numbers) all =
    let here : number ≤ length writes = all 0 0 (omega arith) in
    let rest : All (λ n. n ≤ length writes) numbers = λ k d lt. all (suc k) d (omega (arith, lt)) in
    ap (λ s. s ∷ image_by (writes ++ write ∷ []) numbers) (made_by-push writes write number here)
    ∙ ap (λ l. made_by writes number ∷ l) (image_by-push writes write numbers rest)

pub image_by-zeros : (writes : List Written) (n : ℕ) → image_by writes (replicate n 0) ≡ replicate n blank
image_by-zeros writes zero = refl
image_by-zeros writes (suc n) = ap (λ l. blank ∷ l) (image_by-zeros writes n)

pub image_by-set : (writes : List Written) (numbers : List ℕ) (at number : ℕ) → image_by writes (set numbers at number) ≡ with_sector (image_by writes numbers) at (made_by writes number)
image_by-set writes numbers at number = map-set (made_by writes) numbers at number

pub length_image_by : (writes : List Written) (numbers : List ℕ) → length (image_by writes numbers) ≡ length numbers
length_image_by writes numbers = length-map numbers (made_by writes)

pub sector_at-image_by : (writes : List Written) (numbers : List ℕ) (k : ℕ) → k < length numbers → sector_at (image_by writes numbers) k ≡ made_by writes (get_or numbers k 0)
sector_at-image_by writes numbers k lt = get_or-map (made_by writes) numbers k 0 [] lt

cons_isnt : (x : List ℕ) (xs : List (List ℕ)) → x ∷ xs ≡ [] → ⊥
cons_isnt x xs e = cc

push_isnt : (xs : List (List ℕ)) (x : List ℕ) → xs ++ x ∷ [] ≡ [] → ⊥
push_isnt [] x e = cc
push_isnt (y ∷ xs) x e = cc

-- no write of a list to a sector
none_to : (k : ℕ) (write : Written) (writes : List Written) → writes_to k (write ∷ writes) ≡ [] → (write.at ≢ k) × (writes_to k writes ≡ [])
none_to k write writes none =
    let other : write.at ≢ k = λ e. absurd (cons_isnt write.content (writes_to k writes) (sym (writes_to-same k write writes e) ∙ none)) in
    (other, sym (writes_to-other k write writes other) ∙ none)

-- a write has the number behind all others, where its sector is shown
pub numbers-write : (shown synced : List ℕ) (writes : List Written) (settled at number : ℕ) (write : Written) → AreNumbers shown synced writes settled → settled ≤ length writes → write.at ≡ at
    → number ≡ length writes + 1 → AreNumbers (set shown at number) synced (writes ++ write ∷ []) settled
numbers-write shown synced writes settled at number write are settled_in is_at is =
    let grown : length (writes ++ write ∷ []) ≡ length writes + 1 = length_push writes write in
    let more : drop settled (writes ++ write ∷ []) ≡ drop settled writes ++ write ∷ [] = drop-append-le settled writes (write ∷ []) settled_in in
    record {
      size = length-set shown at number ∙ are.size;
      shown_in = All-set (λ n. n ≤ length (writes ++ write ∷ [])) shown at number (omega (arith, is, grown)) (λ k d lt. omega (arith, are.shown_in k d lt, grown));
      synced_in = λ k d lt. omega (arith, are.synced_in k d lt, grown);
      same = λ k none.
          let without : writes_to k (drop settled writes ++ write ∷ []) ≡ [] = ap (λ l. writes_to k l) (sym more) ∙ none in
          ⊎_elim
          (λ (e : write.at ≡ k). absurd (push_isnt (writes_to k (drop settled writes)) write.content (sym (writes_to-push-same k (drop settled writes) write e) ∙ without)))
          (λ (ne : write.at ≡ k → ⊥).
          get_or-set_other shown at k number 0 (λ e. ne (is_at ∙ sym e)) ∙ are.same k (sym (writes_to-push-other k (drop settled writes) write ne) ∙ without))
          (cases_eq write.at k);
    }

-- once settled, both are the same
pub numbers-settled : (next : List ℕ) (writes : List Written) (n : ℕ) → All (λ number. number ≤ length writes) next → AreNumbers next next writes n
numbers-settled next writes n within = record { size = refl; shown_in = within; synced_in = within; same = λ k none. refl }

-- ---- a cut

-- what a pick leaves, as far as the writes before a place are looked at
pub record Chosen (writes : List Written) (settled place : ℕ) (old left_then numbers left : List ℕ) : Type 0 where
  pub size : length numbers ≡ length old
  pub left_size : length left ≡ length old
  pub chosen : (k : ℕ) → k < length old → get_or (made_by writes (get_or old k 0) ∷ writes_to k (drop settled writes)) (get_or left_then k 0) (made_by writes (get_or old k 0))
      ≡ get_or (made_by writes (get_or numbers k 0) ∷ writes_to k (drop place writes)) (get_or left k 0) (made_by writes (get_or numbers k 0))
  pub others : (k : ℕ) → writes_to k (drop settled writes) ≡ [] → (writes_to k (drop place writes) ≡ []) × (get_or numbers k 0 ≡ get_or old k 0)
  pub within : All (λ n. n ≤ length writes) old → All (λ n. n ≤ length writes) numbers

pub chosen_start : (writes : List Written) (settled : ℕ) (old left : List ℕ) → length left ≡ length old → Chosen writes settled settled old left old left
chosen_start writes settled old left size = record { size = refl; left_size = size; chosen = λ k within. refl; others = λ k none. (none, refl); within = λ all. all }

-- one write that is not the one to be chosen
step_later : (c d : List ℕ) (rest : List (List ℕ)) (l : ℕ) → (l ≡ 1 → ⊥) → get_or (c ∷ d ∷ rest) l c ≡ get_or (c ∷ rest) (l - 1) c
step_later c d rest zero ne = refl
step_later c d rest (suc zero) ne = absurd (ne refl)
step_later c d rest (suc (suc m)) ne =
    let up : suc (suc m) - 1 ≡ suc m = omega arith in
    sym (ap (λ n. get_or (c ∷ rest) n c) up)

one_left : (c : List ℕ) (l : ℕ) → get_or (c ∷ []) l c ≡ c
one_left c zero = refl
one_left c (suc l) = refl

module _ (writes : List Written) (settled place : ℕ) (old left_then numbers left : List ℕ) (write : Written) (lt : place < length writes) (is : write ≡ get_or writes place write) (in_range : write.at < length old)
    (c : Chosen writes settled place old left_then numbers left) where
  step : drop place writes ≡ write ∷ drop (place + 1) writes
  step = drop_more writes place write lt ∙ ap (λ w. w ∷ drop (place + 1) writes) (sym is)

  to_it : (k : ℕ) → write.at ≡ k → writes_to k (drop place writes) ≡ write.content ∷ writes_to k (drop (place + 1) writes)
  to_it k e = ap (λ l. writes_to k l) step ∙ writes_to-same k write (drop (place + 1) writes) e

  to_other : (k : ℕ) → (write.at ≡ k → ⊥) → writes_to k (drop place writes) ≡ writes_to k (drop (place + 1) writes)
  to_other k ne = ap (λ l. writes_to k l) step ∙ writes_to-other k write (drop (place + 1) writes) ne

  others_next : (k : ℕ) → writes_to k (drop settled writes) ≡ [] → (write.at ≢ k) × (writes_to k (drop (place + 1) writes) ≡ [])
  others_next k none = none_to k write (drop (place + 1) writes) (ap (λ l. writes_to k l) (sym step) ∙ (c.others k none).0)

  in_numbers : write.at < length numbers
  in_numbers = omega (arith, in_range, c.size)

  in_left : write.at < length left
  in_left = omega (arith, in_range, c.left_size)

  abbrev value : ℕ → List ℕ → List ℕ → ℕ → List ℕ
  value p ns ls k = get_or (made_by writes (get_or ns k 0) ∷ writes_to k (drop p writes)) (get_or ls k 0) (made_by writes (get_or ns k 0))

  kept : (k : ℕ) (ns ls : List ℕ) → (write.at ≡ k → ⊥) → get_or ns k 0 ≡ get_or numbers k 0 → get_or ls k 0 ≡ get_or left k 0 → value place numbers left k ≡ value (place + 1) ns ls k
  kept k ns ls ne same_n same_l =
      ap (λ l. get_or (made_by writes (get_or numbers k 0) ∷ l) (get_or left k 0) (made_by writes (get_or numbers k 0))) (to_other k ne)
      ∙ ap (λ n. get_or (made_by writes n ∷ writes_to k (drop (place + 1) writes)) (get_or left k 0) (made_by writes n)) (sym same_n)
      ∙ ap (λ j. get_or (made_by writes (get_or ns k 0) ∷ writes_to k (drop (place + 1) writes)) j (made_by writes (get_or ns k 0))) (sym same_l)

  here_now : (number : ℕ) → number ≡ place + 1 → get_or left write.at 0 ≡ 1
      → value place numbers left write.at ≡ value (place + 1) (set numbers write.at number) (set left write.at (get_or left write.at 0 - 1)) write.at
  here_now number number_is one =
      let here : List ℕ = made_by writes (get_or numbers write.at 0) in
      let there : List ℕ = made_by writes (get_or (set numbers write.at number) write.at 0) in
      let rest : List (List ℕ) = writes_to write.at (drop (place + 1) writes) in
      let made : there ≡ write.content =
      ap (made_by writes) (get_or-set_same numbers write.at number 0 in_numbers ∙ number_is) ∙ made_by-at writes place write lt ∙ ap (λ (w : Written). w.content) (sym is) in
      let none : get_or (set left write.at (get_or left write.at 0 - 1)) write.at 0 ≡ 0 =
      get_or-set_same left write.at (get_or left write.at 0 - 1) 0 in_left ∙ ap (λ n. n - 1) one in
      ap (λ l. get_or (here ∷ l) (get_or left write.at 0) here) (to_it write.at refl)
      ∙ ap (λ j. get_or (here ∷ write.content ∷ rest) j here) one
      ∙ sym made
      ∙ ap (λ j. get_or (there ∷ rest) j there) (sym none)

  here_later : (get_or left write.at 0 ≡ 1 → ⊥) → value place numbers left write.at ≡ value (place + 1) numbers (set left write.at (get_or left write.at 0 - 1)) write.at
  here_later ne =
      let here : List ℕ = made_by writes (get_or numbers write.at 0) in
      let rest : List (List ℕ) = writes_to write.at (drop (place + 1) writes) in
      ap (λ l. get_or (here ∷ l) (get_or left write.at 0) here) (to_it write.at refl)
      ∙ step_later here write.content rest (get_or left write.at 0) ne
      ∙ ap (λ j. get_or (here ∷ rest) j here) (sym (get_or-set_same left write.at (get_or left write.at 0 - 1) 0 in_left))

  chosen_now : (number : ℕ) → number ≡ place + 1 → get_or left write.at 0 ≡ 1
      → Chosen writes settled (place + 1) old left_then (set numbers write.at number) (set left write.at (get_or left write.at 0 - 1))
  chosen_now number number_is one =
      let then_left : List ℕ = set left write.at (get_or left write.at 0 - 1) in
      record {
        size = length-set numbers write.at number ∙ c.size;
        left_size = length-set left write.at (get_or left write.at 0 - 1) ∙ c.left_size;
        chosen = λ k inside. c.chosen k inside
            ∙ ⊎_elim
            (λ (e : write.at ≡ k). subst (λ j. value place numbers left j ≡ value (place + 1) (set numbers write.at number) then_left j) e (here_now number number_is one))
            (λ (ne : write.at ≡ k → ⊥). kept k (set numbers write.at number) then_left ne (get_or-set_other numbers write.at k number 0 (λ e. ne (sym e))) (get_or-set_other left write.at k (get_or left write.at 0 - 1) 0 (λ e. ne (sym e))))
            (cases_eq write.at k);
        others = λ k none. let next = others_next k none in (next.1, get_or-set_other numbers write.at k number 0 (λ e. next.0 (sym e)) ∙ (c.others k none).1);
        within = λ all. All-set (λ n. n ≤ length writes) numbers write.at number (omega (arith, number_is, lt)) (c.within all);
      }

  chosen_later : (get_or left write.at 0 ≡ 1 → ⊥) → Chosen writes settled (place + 1) old left_then numbers (set left write.at (get_or left write.at 0 - 1))
  chosen_later ne =
      let then_left : List ℕ = set left write.at (get_or left write.at 0 - 1) in
      record {
        size = c.size;
        left_size = length-set left write.at (get_or left write.at 0 - 1) ∙ c.left_size;
        chosen = λ k inside. c.chosen k inside
            ∙ ⊎_elim
            (λ (e : write.at ≡ k). subst (λ j. value place numbers left j ≡ value (place + 1) numbers then_left j) e (here_later ne))
            (λ (other : write.at ≡ k → ⊥). kept k numbers then_left other refl (get_or-set_other left write.at k (get_or left write.at 0 - 1) 0 (λ e. other (sym e))))
            (cases_eq write.at k);
        others = λ k none. let next = others_next k none in (next.1, (c.others k none).1);
        within = c.within;
      }

  pub chosen_next : (numbers' left' : List ℕ) (number : ℕ) → number ≡ place + 1 → left' ≡ set left write.at (get_or left write.at 0 - 1) → numbers' ≡ chosen_by (get_or left write.at 0) numbers write.at number
      → Chosen writes settled (place + 1) old left_then numbers' left'
  chosen_next numbers' left' number number_is is_left is_numbers =
      subst (λ l. Chosen writes settled (place + 1) old left_then numbers' l) (sym is_left)
      (subst (λ n. Chosen writes settled (place + 1) old left_then n (set left write.at (get_or left write.at 0 - 1))) (sym is_numbers)
      (⊎_elim
      (λ (one : get_or left write.at 0 ≡ 1).
      subst (λ b. Chosen writes settled (place + 1) old left_then (cond b (set numbers write.at number) numbers) (set left write.at (get_or left write.at 0 - 1))) (sym (eq-eqb (get_or left write.at 0) 1 one)) (chosen_now number number_is one))
      (λ (ne : get_or left write.at 0 ≡ 1 → ⊥).
      subst (λ b. Chosen writes settled (place + 1) old left_then (cond b (set numbers write.at number) numbers) (set left write.at (get_or left write.at 0 - 1))) (sym (ne_eqb (get_or left write.at 0) 1 ne)) (chosen_later ne))
      (cases_eq (get_or left write.at 0) 1)))

pub chosen_end : (writes : List Written) (settled place : ℕ) (old left_then numbers left : List ℕ) → length writes ≤ place → Chosen writes settled place old left_then numbers left → (k : ℕ) → k < length old
    → made_by writes (get_or numbers k 0) ≡ get_or (made_by writes (get_or old k 0) ∷ writes_to k (drop settled writes)) (get_or left_then k 0) (made_by writes (get_or old k 0))
chosen_end writes settled place old left_then numbers left past c k inside =
    let here : List ℕ = made_by writes (get_or numbers k 0) in
    sym (c.chosen k inside
    ∙ ap (λ l. get_or (here ∷ writes_to k l) (get_or left k 0) here) (drop_all place writes past)
    ∙ one_left here (get_or left k 0))

-- ---- what is sound

pub numbered-write : (shown synced : List ℕ) (writes : List Written) (settled : ℕ) (pending : Before) (at number : ℕ) (content : List ℕ) → AreNumbers shown synced writes settled
    → IsMomentSound (image_by writes shown) (image_by writes synced) writes settled pending → at < length (image_by writes synced) → length writes < 262144 → number ≡ length writes + 1
    → let grown = writes ++ record { at = at; content = content; before = pending } ∷ [] in IsMomentSound (image_by grown (set shown at number)) (image_by grown synced) grown settled Nothing
numbered-write shown synced writes settled pending at number content are sound lt room is =
    let write : Written = record { at = at; content = content; before = pending } in
    let grown : List Written = writes ++ write ∷ [] in
    let is_shown : image_by grown (set shown at number) ≡ with_sector (image_by writes shown) at content =
    image_by-set grown shown at number
    ∙ ap (λ s. with_sector (image_by grown shown) at s) (made_by-last writes write number is)
    ∙ ap (λ i. with_sector i at content) (image_by-push writes write shown are.shown_in) in
    subst (λ i. IsMomentSound i (image_by grown synced) grown settled Nothing) (sym is_shown)
    (subst (λ i. IsMomentSound (with_sector (image_by writes shown) at content) i grown settled Nothing) (sym (image_by-push writes write synced are.synced_in))
    (sound-write (image_by writes shown) (image_by writes synced) writes settled pending at content sound lt room))

pub numbered-now : (synced : List ℕ) (writes : List Written) (settled : ℕ) (write : Written) → All (λ n. n ≤ length writes) synced → settled ≤ length writes
    → moment_of (image_by (writes ++ write ∷ []) synced) (writes ++ write ∷ []) settled ≡ after_write write (moment_of (image_by writes synced) writes settled)
numbered-now synced writes settled write all le =
    ap (λ i. moment_of i (writes ++ write ∷ []) settled) (image_by-push writes write synced all) ∙ write-now (image_by writes synced) writes settled write le

-- the moments past, by how many sectors have numbers
pub past_numbers : (writes record_ : List Written) (new old : List ℕ) (pending before : Before) (now : DiskMoment)
    → moments_past (zero_disk (length (image_by writes new))) record_ pending ≡ moments_past (zero_disk (length (image_by writes old))) writes before ++ now ∷ []
    → moments_past (zero_disk (length new)) record_ pending ≡ moments_past (zero_disk (length old)) writes before ++ now ∷ []
past_numbers writes record_ new old pending before now past =
    subst (λ n. moments_past (zero_disk n) record_ pending ≡ moments_past (zero_disk (length old)) writes before ++ now ∷ []) (length_image_by writes new)
    (subst (λ n. moments_past (zero_disk (length (image_by writes new))) record_ pending ≡ moments_past (zero_disk n) writes before ++ now ∷ []) (length_image_by writes old) past)

-- what a sync or a cut leaves
pub record NumberedSettling (shown synced : List ℕ) (writes : List Written) (settled : ℕ) (shown' synced' : List ℕ) (settled' : ℕ) (before : Before) : Type 0 where
  pub size : length synced' ≡ length synced
  pub numbers : AreNumbers shown' synced' writes settled'
  pub sound : IsMomentSound (image_by writes shown') (image_by writes synced') writes settled' before
  pub now : moment_of (image_by writes synced') writes settled' ≡ settled_by before (moment_of (image_by writes synced) writes settled)
  pub past : moments_past (zero_disk (length synced')) writes before ≡ moments_past (zero_disk (length synced)) writes Nothing ++ moment_of (image_by writes synced) writes settled ∷ []

pub numbered-sync : (shown synced next : List ℕ) (writes : List Written) (settled n : ℕ) → AreNumbers shown synced writes settled → IsMomentSound (image_by writes shown) (image_by writes synced) writes settled Nothing
    → next ≡ shown → n ≡ length writes → NumberedSettling shown synced writes settled shown next n Synced
numbered-sync shown synced next writes settled n are sound is end =
    let settling : Settling (image_by writes shown) (image_by writes synced) writes settled (image_by writes shown) (image_by writes next) n Synced =
    settling-sync (image_by writes shown) (image_by writes synced) (image_by writes next) writes settled n sound (ap (image_by writes) is ∙ sound.shown_is) end in
    record {
      size = ap (length {A = ℕ}) is ∙ are.size;
      numbers = subst (λ l. AreNumbers shown l writes n) (sym is) (numbers-settled shown writes n are.shown_in);
      sound = settling.sound;
      now = settling.now;
      past = past_numbers writes writes next synced Synced Nothing (moment_of (image_by writes synced) writes settled) settling.past;
    }

pub numbered-cut : (shown synced shown' next : List ℕ) (writes : List Written) (settled n pick : ℕ) → AreNumbers shown synced writes settled → IsMomentSound (image_by writes shown) (image_by writes synced) writes settled Nothing
    → image_by writes next ≡ picked pick 0 (drop settled writes) (image_by writes synced) → All (λ number. number ≤ length writes) next → length next ≡ length synced → shown' ≡ next → n ≡ length writes
    → NumberedSettling shown synced writes settled shown' next n (Cut pick)
numbered-cut shown synced shown' next writes settled n pick are sound is within size is_shown end =
    let settling : Settling (image_by writes shown) (image_by writes synced) writes settled (image_by writes shown') (image_by writes next) n (Cut pick) =
    settling-cut (image_by writes shown) (image_by writes synced) (image_by writes shown') (image_by writes next) writes settled n pick sound is (ap (image_by writes) is_shown) end in
    record {
      size = size;
      numbers = subst (λ l. AreNumbers l next writes n) (sym is_shown) (numbers-settled next writes n within);
      sound = settling.sound;
      now = settling.now;
      past = past_numbers writes writes next synced (Cut pick) Nothing (moment_of (image_by writes synced) writes settled) settling.past;
    }

-- before the first write all sectors are blank
pub numbered-start : (n : ℕ) → n < 2 ^ 32 → IsMomentSound (image_by [] (replicate n 0)) (image_by [] (replicate n 0)) [] 0 Nothing
numbered-start n fits =
    let is : image_by [] (replicate n 0) ≡ replicate n blank = image_by-zeros [] n in
    let size : length (image_by [] (replicate n 0)) ≡ n = length_image_by [] (replicate n 0) ∙ length-replicate n 0 in
    record {
      size_fits = subst (λ k. k < 2 ^ 32) (sym size) fits;
      few = omega arith;
      settled_in = omega arith;
      in_range = λ k d lt. absurd (omega (arith, lt));
      now_is = ap (λ (i : Image). record { synced = i; since = [] }) (ap (λ k. replicate k blank) size ∙ sym is);
      shown_is = refl;
    }

pub numbers-start : (n : ℕ) → AreNumbers (replicate n 0) (replicate n 0) [] 0
numbers-start n =
    numbers-settled (replicate n 0) [] 0 (All-replicate (λ number. number ≤ length {A = Written} []) n 0 (omega arith))
