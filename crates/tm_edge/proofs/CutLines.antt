-- All lines are the first one and then those of the bytes behind it.
use Rattle.std.proofs.Common.{◌≡◌, ℕ, ◌+◌, ◌<◌, Bool, true, false, ◌&&◌, List, [], ◌∷◌, length, drop, suc, refl, sym, ap, ◌∙◌, arith, add_comm}
use Rattle.std.specs.Prelude.{cond, ◌==◌}
use Rattle.tm_edge.specs.Lines.{line_size, line_text, behind_line, begins_with_lf, CutLine, with_byte, cut_lines}

cut_lf : (b : ℕ) (bytes : List ℕ) → (b == 10) ≡ true → cut_lines (b ∷ bytes) ≡ record { text = []; size = 0 } ∷ cut_lines bytes
unfolding cut_lines
cut_lf b bytes lf = rw lf refl

cut_more : (b : ℕ) (bytes : List ℕ) → (b == 10) ≡ false → cut_lines (b ∷ bytes) ≡ with_byte (begins_with_lf bytes && b == 13) b (cut_lines bytes)
unfolding cut_lines
cut_more b bytes no_lf = rw no_lf refl

pub text_lf : (b : ℕ) (bytes : List ℕ) → (b == 10) ≡ true → line_text (b ∷ bytes) ≡ []
unfolding line_text
text_lf b bytes lf = rw lf refl

pub text_more : (b : ℕ) (bytes : List ℕ) → (b == 10) ≡ false → line_text (b ∷ bytes) ≡ cond (begins_with_lf bytes && b == 13) [] (b ∷ line_text bytes)
unfolding line_text
text_more b bytes no_lf = rw no_lf refl

pub size_lf : (b : ℕ) (bytes : List ℕ) → (b == 10) ≡ true → line_size (b ∷ bytes) ≡ 0
size_lf b bytes lf = rw lf refl

pub size_more : (b : ℕ) (bytes : List ℕ) → (b == 10) ≡ false → line_size (b ∷ bytes) ≡ line_size bytes + 1
size_more b bytes no_lf = rw no_lf (add_comm 1 (line_size bytes))

drop_from : (n m b : ℕ) (bytes : List ℕ) → n ≡ m + 1 → drop (n + 1) (b ∷ bytes) ≡ drop (m + 1) bytes
drop_from n m b bytes is = ap (λ k. drop k (b ∷ bytes)) (let e : n + 1 ≡ suc (m + 1) = omega arith in e)

pub behind_lf : (b : ℕ) (bytes : List ℕ) → (b == 10) ≡ true → behind_line (b ∷ bytes) ≡ bytes
behind_lf b bytes lf = ap (λ k. drop (k + 1) (b ∷ bytes)) (size_lf b bytes lf)

pub behind_more : (b : ℕ) (bytes : List ℕ) → (b == 10) ≡ false → behind_line (b ∷ bytes) ≡ behind_line bytes
behind_more b bytes no_lf = drop_from _ (line_size bytes) b bytes (size_more b bytes no_lf)

same_cut : (text text' : List ℕ) (size size' : ℕ) (more more' : List CutLine) → text ≡ text' → size ≡ size' → more ≡ more' →
    record { text = text; size = size } ∷ more ≡ record { text = text'; size = size' } ∷ more'
same_cut text text' size size' more more' e f g = λ i. record { text = e i; size = f i } ∷ g i

at_lf : (b : ℕ) (bytes : List ℕ) → (b == 10) ≡ true →
    cut_lines (b ∷ bytes) ≡ record { text = line_text (b ∷ bytes); size = line_size (b ∷ bytes) } ∷ cut_lines (behind_line (b ∷ bytes))
at_lf b bytes lf = cut_lf b bytes lf
    ∙ same_cut _ _ _ _ _ _ (sym (text_lf b bytes lf)) (sym (size_lf b bytes lf)) (ap cut_lines (sym (behind_lf b bytes lf)))

at_last : (b : ℕ) → (b == 10) ≡ false →
    cut_lines (b ∷ []) ≡ record { text = line_text (b ∷ []); size = line_size (b ∷ []) } ∷ cut_lines (behind_line (b ∷ []))
unfolding cut_lines line_text
at_last b no_lf = rw no_lf refl

at_other : (b : ℕ) (bytes : List ℕ) → (b == 10) ≡ false →
    cut_lines bytes ≡ record { text = line_text bytes; size = line_size bytes } ∷ cut_lines (behind_line bytes) →
    cut_lines (b ∷ bytes) ≡ record { text = line_text (b ∷ bytes); size = line_size (b ∷ bytes) } ∷ cut_lines (behind_line (b ∷ bytes))
at_other b bytes no_lf first = cut_more b bytes no_lf ∙ ap (with_byte (begins_with_lf bytes && b == 13) b) first
    ∙ same_cut _ _ _ _ _ _ (sym (text_more b bytes no_lf)) (sym (size_more b bytes no_lf)) (ap cut_lines (sym (behind_more b bytes no_lf)))

by_byte : (b : ℕ) (bytes : List ℕ) (lf : Bool) → (b == 10) ≡ lf →
    (0 < length bytes → cut_lines bytes ≡ record { text = line_text bytes; size = line_size bytes } ∷ cut_lines (behind_line bytes)) →
    cut_lines (b ∷ bytes) ≡ record { text = line_text (b ∷ bytes); size = line_size (b ∷ bytes) } ∷ cut_lines (behind_line (b ∷ bytes))
by_byte b bytes true is rest = at_lf b bytes is
by_byte b [] false is rest = at_last b is
by_byte b (c ∷ bytes) false is rest = at_other b (c ∷ bytes) is (rest (omega arith))

pub cut_first : (bytes : List ℕ) → 0 < length bytes →
    cut_lines bytes ≡ record { text = line_text bytes; size = line_size bytes } ∷ cut_lines (behind_line bytes)
cut_first [] some = absurd (omega arith)
cut_first (b ∷ bytes) some = by_byte b bytes (b == 10) refl (cut_first bytes)
