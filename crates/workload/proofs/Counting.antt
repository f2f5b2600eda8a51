-- Counts, one entry and one life after another.
use Rattle.std.proofs.Common.{◌≡◌, ℕ, zero, suc, ◌+◌, ◌<◌, List, [], ◌∷◌, ◌++◌, length, take, get_or, refl, sym, ap, ◌∙◌, arith}
use Rattle.std.specs.Prelude.{Some, slice_get}
use Rattle.std.proofs.lemmas.List.{take_more, take_all, append-nil}
use Rattle.std.proofs.lemmas.List.Sums.{sum_by-append}
use Rattle.std.proofs.lemmas.List.Concat.{flat_map-append}
use Rattle.model_machine.specs.declared.entry.Entry.{Entry}
use Rattle.openings.specs.declared.life.Life.{Life}
use Rattle.workload.specs.declared.counts.Counts.{Counts}
use Rattle.workload.specs.Counts.{is_accepted, is_completion, is_abend, victim_count_in, one_entry_if, counts_of, count_of, entries_of, plus, with_found}

abbrev counts : ℕ → ℕ → ℕ → ℕ → Counts
counts a b c d = record { accepted = a; completed = b; abended = c; victims = d }

pub four : (a a' b b' c c' d d' : ℕ) → a ≡ a' → b ≡ b' → c ≡ c' → d ≡ d'
    → counts a b c d ≡ counts a' b' c' d'
four a a' b b' c c' d d' p q r s = rw (p, q, r, s) refl

abbrev nothing : Counts
nothing = record { accepted = 0; completed = 0; abended = 0; victims = 0 }

start_plus : (c : Counts) → plus nothing c ≡ c
start_plus c = four _ _ _ _ _ _ _ _ (omega arith) (omega arith) (omega arith) (omega arith)

plus_nothing : (c : Counts) → plus c nothing ≡ c
plus_nothing c = four _ _ _ _ _ _ _ _ (omega arith) (omega arith) (omega arith) (omega arith)

plus_plus : (a b c : Counts) → plus (plus a b) c ≡ plus a (plus b c)
plus_plus a b c = four _ _ _ _ _ _ _ _ (omega arith) (omega arith) (omega arith) (omega arith)

-- what two lists of entries come to
counts-append : (xs ys : List Entry) → counts_of (xs ++ ys) ≡ plus (counts_of xs) (counts_of ys)
counts-append xs ys =
    four _ _ _ _ _ _ _ _
    (sum_by-append (λ e. one_entry_if (is_accepted e)) xs ys)
    (sum_by-append (λ e. one_entry_if (is_completion e)) xs ys)
    (sum_by-append (λ e. one_entry_if (is_abend e)) xs ys)
    (sum_by-append victim_count_in xs ys)

counts_one : (e : Entry) → counts_of (e ∷ []) ≡ count_of e
counts_one e = four _ _ _ _ _ _ _ _ (omega arith) (omega arith) (omega arith) (omega arith)

-- ---- one entry more

pub record IsFound (xs : List Entry) (i : ℕ) : Type 0 where
  pub entry : Entry
  pub is : slice_get xs i ≡ Some entry
  pub front : take (i + 1) xs ≡ take i xs ++ entry ∷ []

found_later : (x : Entry) (xs : List Entry) (i : ℕ) → IsFound xs i → IsFound (x ∷ xs) (suc i)
found_later x xs i found = let one_up : suc i + 1 ≡ suc (i + 1) = omega arith in record { entry = found.entry; is = found.is; front = ap (λ n. take n (x ∷ xs)) one_up ∙ ap (λ l. x ∷ l) found.front }

found_at : (xs : List Entry) (i : ℕ) → i < length xs → IsFound xs i
found_at [] i within = absurd (omega arith)
found_at (x ∷ xs) zero within = record { entry = x; is = refl; front = refl }
found_at (x ∷ xs) (suc i) within = found_later x xs i (found_at xs i (omega arith))

pub entry_more : (before counts next : Counts) (entries : List Entry) (i : ℕ) → i < length entries → next ≡ with_found counts (slice_get entries i)
    → counts ≡ plus before (counts_of (take i entries)) → next ≡ plus before (counts_of (take (i + 1) entries))
entry_more before counts next entries i within is so_far =
    let found = found_at entries i within in
    is ∙ ap (with_found counts) found.is ∙ ap (λ c. plus c (count_of found.entry)) so_far
    ∙ plus_plus before (counts_of (take i entries)) (count_of found.entry)
    ∙ ap (λ c. plus before (plus (counts_of (take i entries)) c)) (sym (counts_one found.entry))
    ∙ ap (plus before) (sym (counts-append (take i entries) (found.entry ∷ [])))
    ∙ ap (λ l. plus before (counts_of l)) (sym found.front)

pub entry_start : (before : Counts) → before ≡ plus before (counts_of [])
entry_start before = sym (plus_nothing before)

pub entry_all : (entries : List Entry) → take (length entries) entries ≡ entries
entry_all entries = take_all (length entries) entries (omega arith)

pub ruleset entry_steps = (entry_more, entry_start, entry_all)

-- ---- one life more

pub life_more : (counts next : Counts) (lives : List Life) (i : ℕ) (d : Life) → i < length lives → next ≡ plus counts (counts_of (get_or lives i d).history)
    → counts ≡ counts_of (entries_of (take i lives)) → next ≡ counts_of (entries_of (take (i + 1) lives))
life_more counts next lives i d within is so_far =
    let life : Life = get_or lives i d in
    is ∙ ap (λ c. plus c (counts_of life.history)) so_far
    ∙ sym (counts-append (entries_of (take i lives)) life.history)
    ∙ ap counts_of (sym (entries-append (take i lives) life))
    ∙ ap (λ l. counts_of (entries_of l)) (sym (take_more lives i d within))
  where
    last_one : (es : List Entry) (l : Life) → es ++ (l.history ++ []) ≡ es ++ l.history
    last_one es l = ap (λ h. es ++ h) (append-nil l.history)

    entries-append : (ls : List Life) (l : Life) → entries_of (ls ++ l ∷ []) ≡ entries_of ls ++ l.history
    entries-append ls l = flat_map-append (λ (x : Life). x.history) ls (l ∷ []) ∙ last_one (entries_of ls) l

pub life_all : (lives : List Life) → take (length lives) lives ≡ lives
life_all lives = take_all (length lives) lives (omega arith)

pub ruleset life_steps = (life_more, life_all)
