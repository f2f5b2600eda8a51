-- What one call of the reader serves, from the bytes that it holds and with those that the source has left.
use Rattle.std.proofs.Common.{◌≡◌, ℕ, ◌+◌, ◌<◌, ◌≤◌, inl, inr, List, [], ◌∷◌, ◌++◌, length, drop, min, refl, sym, ap, subst, ◌∙◌, arith, length-append}
use Rattle.std.specs.Prelude.{Option, Some, None, IfSome}
use Rattle.std.specs.Io.KnownBytes.{prepend_known, IsAtEnd}
use Rattle.std.proofs.lemmas.List.{append-nil, drop_all}
use Rattle.std.proofs.lemmas.Bool.{cases_lt}
use Rattle.tm_edge.specs.Lines.{line_size, line_text, behind_line, cut_lines, ServesLine, IsLineTooLong, ServesNextLine, ServesTold}
use Rattle.tm_edge.proofs.CutLines.{cut_first}
use Rattle.tm_edge.proofs.FirstLine.{size-append, text-append, behind-append, size_within, size_whole}

drop_min : (k : ℕ) (xs : List ℕ) → drop (min k (length xs)) xs ≡ drop k xs
drop_min k xs = elim (cases_lt k (length xs)) [
  | inl less ↦ ap (λ n. drop n xs) (omega arith)
  | inr more ↦
      ap (λ n. drop n xs) (let e : min k (length xs) ≡ length xs = omega arith in e) ∙ drop_all (length xs) xs (omega arith) ∙ sym (drop_all k xs more)
]

-- all lines, by equal parts
cut_served : (held text after : List ℕ) → 0 < length held → text ≡ line_text held → after ≡ behind_line held →
    cut_lines held ≡ record { text = text; size = line_size held } ∷ cut_lines after
cut_served held text after some line rest =
    cut_first held some ∙ (λ i. record { text = sym line i; size = line_size held } ∷ cut_lines (sym rest i))

pub serves_line : (held text after : List ℕ) (n : ℕ) → 0 < length held → n ≡ line_size held → n ≤ 4096 → text ≡ line_text held →
    after ≡ drop (min (n + 1) (length held)) held → ServesLine held text after
serves_line held text after n some is fits line rest =
    let behind : after ≡ behind_line held = rest ∙ drop_min (n + 1) held ∙ ap (λ k. drop (k + 1) held) is in
    record { some = some; short = omega arith; line = line; rest = behind; lines = cut_served held text after some line behind }

-- ---- with the bytes that the source has left

serves_more : (held text after rest : List ℕ) → line_size held < length held → ServesLine held text after → ServesLine (held ++ rest) text (after ++ rest)
serves_more held text after rest within serves =
    let size : line_size (held ++ rest) ≡ line_size held = size-append held rest within in
    let some : 0 < length (held ++ rest) = (let more = length-append held rest in omega arith) in
    let line : text ≡ line_text (held ++ rest) = serves.line ∙ sym (text-append held rest within) in
    let behind : after ++ rest ≡ behind_line (held ++ rest) = ap (λ xs. xs ++ rest) serves.rest ∙ sym (behind-append held rest within) in
    record { some = some; short = (let short = serves.short in omega arith); line = line; rest = behind; lines = cut_served (held ++ rest) text (after ++ rest) some line behind }

serves_within : (held after rest : List ℕ) (line : Option (List ℕ)) → line_size held < length held → ServesNextLine held line after → ServesNextLine (held ++ rest) line (after ++ rest)
serves_within held after rest None within serves = absurd (let none = ap (λ (xs : List ℕ). length xs) serves.0 in omega arith)
serves_within held after rest (Some text) within serves = serves_more held text after rest within serves

serves_all : (held after rest : List ℕ) (line : Option (List ℕ)) → rest ≡ [] → ServesNextLine held line after → ServesNextLine (held ++ rest) line (after ++ rest)
serves_all held after rest line none serves =
    let whole : held ≡ held ++ rest = sym (append-nil held) ∙ ap (λ xs. held ++ xs) (sym none) in
    let behind : after ≡ after ++ rest = sym (append-nil after) ∙ ap (λ xs. after ++ xs) (sym none) in
    let P : List ℕ → Type 0 = λ xs. ServesNextLine xs line after in
    let Q : List ℕ → Type 0 = λ xs. ServesNextLine (held ++ rest) line xs in
    subst Q behind (subst P whole serves)

pub serves_told : (held after : List ℕ) (line left : Option (List ℕ)) → (line_size held ≡ length held → IsAtEnd left) → ServesNextLine held line after →
    ServesTold (prepend_known held left) line (prepend_known after left)
serves_told held after line None ending serves = refl
serves_told held after line (Some rest) ending serves = elim (cases_lt (line_size held) (length held)) [
  | inl within ↦ serves_within held after rest line within serves
  | inr whole ↦ serves_all held after rest line (ending (let most = size_within held in omega arith)) serves
]

too_long_more : (held rest : List ℕ) → 4096 < line_size held → 4096 < line_size (held ++ rest)
too_long_more held rest long = elim (cases_lt (line_size held) (length held)) [
  | inl within ↦ (let size = size-append held rest within in omega arith)
  | inr whole ↦ (let most = size_within held in let less : length held ≤ line_size (held ++ rest) = size_whole held rest (omega arith) in omega arith)
]

pub too_long_told : (held : List ℕ) (left : Option (List ℕ)) → IsLineTooLong held → IfSome (prepend_known held left) IsLineTooLong
too_long_told held None long = tt
too_long_told held (Some rest) long = too_long_more held rest long
