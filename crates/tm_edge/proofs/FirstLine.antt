-- The text of the first line, by where its LF stands, and the first line of bytes with more behind them.
use Rattle.std.proofs.Common.{◌≡◌, ℕ, ◌+◌, ◌-◌, ◌<◌, ◌≤◌, Bool, true, false, ◌&&◌, List, [], ◌∷◌, ◌++◌, length, take, drop, get_or, suc, refl, sym, ap, subst, ◌∙◌, arith, zero, take-append-drop, length-drop}
use Rattle.std.specs.Prelude.{cond, ◌==◌, nat_lt, Option, Some, None, MatchOption, position}
use Rattle.std.proofs.lemmas.Bool.Decides.{nat_tests}
use Rattle.std.specs.Str.Lines.{strip_carriage_return}
use Rattle.tm_edge.specs.Lines.{line_size, line_text, behind_line, begins_with_lf}
use Rattle.tm_edge.proofs.CutLines.{text_lf, text_more, size_lf, size_more, behind_lf, behind_more}

-- ---- the size

pub size_within : (bytes : List ℕ) → line_size bytes ≤ length bytes
size_within [] = omega arith
size_within (b ∷ bytes) = by_byte (b == 10) refl (size_within bytes)
  where
    by_byte : (lf : Bool) → (b == 10) ≡ lf → line_size bytes ≤ length bytes → line_size (b ∷ bytes) ≤ length (b ∷ bytes)
    by_byte true is rest = rw (size_lf b bytes is) (omega arith)
    by_byte false is rest = rw (size_more b bytes is) (omega arith)

-- ---- more bytes behind

size_step : (b : ℕ) (bytes more : List ℕ) (lf : Bool) → (b == 10) ≡ lf →
    (line_size bytes < length bytes → line_size (bytes ++ more) ≡ line_size bytes) →
    line_size (b ∷ bytes) < length (b ∷ bytes) → line_size (b ∷ (bytes ++ more)) ≡ line_size (b ∷ bytes)
size_step b bytes more true is rest within = size_lf b (bytes ++ more) is ∙ sym (size_lf b bytes is)
size_step b bytes more false is rest within =
    size_more b (bytes ++ more) is
    ∙ ap (λ n. n + 1) (rest (let e = size_more b bytes is in omega arith))
    ∙ sym (size_more b bytes is)

pub size-append : (bytes more : List ℕ) → line_size bytes < length bytes → line_size (bytes ++ more) ≡ line_size bytes
size-append [] more within = absurd (omega arith)
size-append (b ∷ bytes) more within = size_step b bytes more (b == 10) refl (size-append bytes more) within

-- how the bytes go on doesn't matter to whether they begin with an LF, where there are some
begins-append : (b : ℕ) (bytes more : List ℕ) → begins_with_lf ((b ∷ bytes) ++ more) ≡ begins_with_lf (b ∷ bytes)
begins-append b bytes more = refl

text_step : (b : ℕ) (bytes more : List ℕ) (lf : Bool) → (b == 10) ≡ lf →
    (line_size bytes < length bytes → line_text (bytes ++ more) ≡ line_text bytes) →
    line_size (b ∷ bytes) < length (b ∷ bytes) → line_text (b ∷ (bytes ++ more)) ≡ line_text (b ∷ bytes)
text_step b bytes more true is rest within = text_lf b (bytes ++ more) is ∙ sym (text_lf b bytes is)
text_step b [] more false is rest within = absurd (let e = size_more b [] is in omega arith)
text_step b (c ∷ bytes) more false is rest within =
    text_more b (c ∷ (bytes ++ more)) is
    ∙ ap (λ text. cond ((c == 10) && (b == 13)) [] (b ∷ text)) (rest (let e = size_more b (c ∷ bytes) is in omega arith))
    ∙ sym (text_more b (c ∷ bytes) is)

pub text-append : (bytes more : List ℕ) → line_size bytes < length bytes → line_text (bytes ++ more) ≡ line_text bytes
text-append [] more within = absurd (omega arith)
text-append (b ∷ bytes) more within = text_step b bytes more (b == 10) refl (text-append bytes more) within

behind_step : (b : ℕ) (bytes more : List ℕ) (lf : Bool) → (b == 10) ≡ lf →
    (line_size bytes < length bytes → behind_line (bytes ++ more) ≡ behind_line bytes ++ more) →
    line_size (b ∷ bytes) < length (b ∷ bytes) → behind_line (b ∷ (bytes ++ more)) ≡ behind_line (b ∷ bytes) ++ more
behind_step b bytes more true is rest within = behind_lf b (bytes ++ more) is ∙ ap (λ xs. xs ++ more) (sym (behind_lf b bytes is))
behind_step b bytes more false is rest within =
    behind_more b (bytes ++ more) is
    ∙ rest (let e = size_more b bytes is in omega arith)
    ∙ ap (λ xs. xs ++ more) (sym (behind_more b bytes is))

pub behind-append : (bytes more : List ℕ) → line_size bytes < length bytes → behind_line (bytes ++ more) ≡ behind_line bytes ++ more
behind-append [] more within = absurd (omega arith)
behind-append (b ∷ bytes) more within = behind_step b bytes more (b == 10) refl (behind-append bytes more) within

-- ---- the text, by where the LF stands

begins_no : (bytes : List ℕ) → line_size bytes ≡ length bytes → begins_with_lf bytes ≡ false
begins_no [] whole = refl
begins_no (b ∷ bytes) whole = by_byte (b == 10) refl
  where
    by_byte : (lf : Bool) → (b == 10) ≡ lf → (b == 10) ≡ false
    by_byte true is = absurd (let e = size_lf b bytes is in omega arith)
    by_byte false is = is

text_none : line_text [] ≡ []
unfolding line_text
text_none = refl

uncut_step : (b : ℕ) (bytes : List ℕ) (lf : Bool) → (b == 10) ≡ lf → (line_size bytes ≡ length bytes → line_text bytes ≡ bytes) →
    line_size (b ∷ bytes) ≡ length (b ∷ bytes) → line_text (b ∷ bytes) ≡ b ∷ bytes
uncut_step b bytes true is rest whole = absurd (let e = size_lf b bytes is in omega arith)
uncut_step b bytes false is rest whole =
    let shorter : line_size bytes ≡ length bytes = (let e = size_more b bytes is in omega arith) in
    text_more b bytes is
    ∙ ap (λ begins. cond (begins && b == 13) [] (b ∷ line_text bytes)) (begins_no bytes shorter)
    ∙ ap (λ text. b ∷ text) (rest shorter)

pub text_uncut : (bytes : List ℕ) → line_size bytes ≡ length bytes → line_text bytes ≡ bytes
text_uncut [] whole = text_none
text_uncut (b ∷ bytes) whole = uncut_step b bytes (b == 10) refl (text_uncut bytes) whole

strip_at : (line : List ℕ) (k : ℕ) → length line - 1 ≡ k → strip_carriage_return line ≡ cond (get_or line k 0 == 13) (take k line) line
strip_at line k e = ap (λ n. cond (get_or line n 0 == 13) (take n line) line) e

cond_cons : (t : Bool) (b : ℕ) (xs ys : List ℕ) → cond t (b ∷ xs) (b ∷ ys) ≡ b ∷ cond t xs ys
cond_cons true b xs ys = refl
cond_cons false b xs ys = refl

strip_longer : (b c : ℕ) (bytes : List ℕ) → strip_carriage_return (b ∷ c ∷ bytes) ≡ b ∷ strip_carriage_return (c ∷ bytes)
strip_longer b c bytes =
    strip_at (b ∷ c ∷ bytes) (suc (length bytes)) (omega arith)
    ∙ cond_cons (get_or (c ∷ bytes) (length bytes) 0 == 13) b (take (length bytes) (c ∷ bytes)) (c ∷ bytes)
    ∙ ap (λ line. b ∷ line) (sym (strip_at (c ∷ bytes) (length bytes) (omega arith)))

take_from : (n m b : ℕ) (bytes : List ℕ) → n ≡ m + 1 → take n (b ∷ bytes) ≡ b ∷ take m bytes
take_from n m b bytes is = ap (λ k. take k (b ∷ bytes)) (let e : n ≡ suc m = omega arith in e)

cut_before_lf : (b c : ℕ) (bytes : List ℕ) → (b == 10) ≡ false → (c == 10) ≡ true →
    line_text (b ∷ c ∷ bytes) ≡ strip_carriage_return (take (line_size (b ∷ c ∷ bytes)) (b ∷ c ∷ bytes))
cut_before_lf b c bytes no_lf lf =
    text_more b (c ∷ bytes) no_lf
    ∙ ap (λ begins. cond (begins && b == 13) [] (b ∷ line_text (c ∷ bytes))) lf
    ∙ ap (λ text. cond (b == 13) [] (b ∷ text)) (text_lf c bytes lf)
    ∙ ap (λ n. strip_carriage_return (take n (b ∷ c ∷ bytes))) (sym (size_more b (c ∷ bytes) no_lf ∙ ap (λ n. n + 1) (size_lf c bytes lf)))

cut_further : (b c : ℕ) (bytes : List ℕ) → (b == 10) ≡ false → (c == 10) ≡ false →
    line_text (c ∷ bytes) ≡ strip_carriage_return (take (line_size (c ∷ bytes)) (c ∷ bytes)) →
    line_text (b ∷ c ∷ bytes) ≡ strip_carriage_return (take (line_size (b ∷ c ∷ bytes)) (b ∷ c ∷ bytes))
cut_further b c bytes no_lf other rest =
    let front : take (line_size (c ∷ bytes)) (c ∷ bytes) ≡ c ∷ take (line_size bytes) bytes = take_from _ (line_size bytes) c bytes (size_more c bytes other) in
    text_more b (c ∷ bytes) no_lf
    ∙ ap (λ begins. cond (begins && b == 13) [] (b ∷ line_text (c ∷ bytes))) other
    ∙ ap (λ text. b ∷ text) (rest ∙ ap strip_carriage_return front)
    ∙ sym (strip_longer b c (take (line_size bytes) bytes))
    ∙ ap (λ line. strip_carriage_return (b ∷ line)) (sym front)
    ∙ ap strip_carriage_return (sym (take_from _ (line_size (c ∷ bytes)) b (c ∷ bytes) (size_more b (c ∷ bytes) no_lf)))

cut_step : (b : ℕ) (bytes : List ℕ) (lf : Bool) → (b == 10) ≡ lf →
    (line_size bytes < length bytes → line_text bytes ≡ strip_carriage_return (take (line_size bytes) bytes)) →
    line_size (b ∷ bytes) < length (b ∷ bytes) → line_text (b ∷ bytes) ≡ strip_carriage_return (take (line_size (b ∷ bytes)) (b ∷ bytes))
cut_step b bytes true is rest within =
    text_lf b bytes is ∙ ap (λ n. strip_carriage_return (take n (b ∷ bytes))) (sym (size_lf b bytes is))
cut_step b [] false is rest within = absurd (let e = size_more b [] is in omega arith)
cut_step b (c ∷ bytes) false is rest within = by_next (c == 10) refl
  where
    by_next : (lf : Bool) → (c == 10) ≡ lf → line_text (b ∷ c ∷ bytes) ≡ strip_carriage_return (take (line_size (b ∷ c ∷ bytes)) (b ∷ c ∷ bytes))
    by_next true lf = cut_before_lf b c bytes is lf
    by_next false other = cut_further b c bytes is other (rest (let e = size_more b (c ∷ bytes) is in omega arith))

pub text_cut : (bytes : List ℕ) → line_size bytes < length bytes → line_text bytes ≡ strip_carriage_return (take (line_size bytes) bytes)
text_cut [] within = absurd (omega arith)
text_cut (b ∷ bytes) within = cut_step b bytes (b == 10) refl (text_cut bytes) within

-- ---- a search that goes on

drop_step : (seen b : ℕ) (bytes : List ℕ) (lf : Bool) → (b == 10) ≡ lf → (seen ≤ line_size bytes → line_size bytes ≡ seen + line_size (drop seen bytes)) →
    suc seen ≤ line_size (b ∷ bytes) → line_size (b ∷ bytes) ≡ suc seen + line_size (drop seen bytes)
drop_step seen b bytes true is rest clear = absurd (let e = size_lf b bytes is in omega arith)
drop_step seen b bytes false is rest clear =
    let more : line_size (b ∷ bytes) ≡ line_size bytes + 1 = size_more b bytes is in
    let further : line_size bytes ≡ seen + line_size (drop seen bytes) = rest (omega arith) in
    omega arith

-- where no LF stands in the first bytes, it is sought behind them
pub size_behind : (seen : ℕ) (bytes : List ℕ) → seen ≤ line_size bytes → line_size bytes ≡ seen + line_size (drop seen bytes)
size_behind zero bytes clear = omega arith
size_behind (suc seen) [] clear = absurd (omega arith)
size_behind (suc seen) (b ∷ bytes) clear = drop_step seen b bytes (b == 10) refl (size_behind seen bytes) clear

whole_step : (b : ℕ) (xs ys : List ℕ) (lf : Bool) → (b == 10) ≡ lf → (line_size xs ≡ length xs → length xs ≤ line_size (xs ++ ys)) →
    line_size (b ∷ xs) ≡ length (b ∷ xs) → length (b ∷ xs) ≤ line_size (b ∷ (xs ++ ys))
whole_step b xs ys true is rest whole = absurd (let e = size_lf b xs is in omega arith)
whole_step b xs ys false is rest whole =
    let more : line_size (b ∷ xs) ≡ line_size xs + 1 = size_more b xs is in
    let after : line_size (b ∷ (xs ++ ys)) ≡ line_size (xs ++ ys) + 1 = size_more b (xs ++ ys) is in
    let further : length xs ≤ line_size (xs ++ ys) = rest (omega arith) in
    omega arith

pub size_whole : (xs ys : List ℕ) → line_size xs ≡ length xs → length xs ≤ line_size (xs ++ ys)
size_whole [] ys whole = omega arith
size_whole (b ∷ xs) ys whole = whole_step b xs ys (b == 10) refl (size_whole xs ys) whole

-- bytes without an LF stay so when others come behind them
pub still_clear : (old new : List ℕ) → take (length old) new ≡ old → line_size old ≡ length old → length old ≤ line_size new
still_clear old new front whole =
    let split : old ++ drop (length old) new ≡ new = ap (λ xs. xs ++ drop (length old) new) (sym front) ∙ take-append-drop (length old) new in
    let P : List ℕ → Type 0 = λ xs. length old ≤ line_size xs in
    subst P split (size_whole old (drop (length old) new) whole)

-- ---- what a search answers

found_from_test : (xs : List ℕ) (test : Bool) (r : Option ℕ) → r ≡ cond test (Some (line_size xs)) None → nat_lt (line_size xs) (length xs) ≡ test →
    MatchOption r (line_size xs ≡ length xs) (λ n. (n ≡ line_size xs) × (n < length xs))
found_from_test xs true (Some n) is test = (cc, (let e : n ≡ line_size xs = cc in rw e (grind (arith, nat_tests))))
found_from_test xs true None is test = cc
found_from_test xs false (Some n) is test = cc
found_from_test xs false None is test = (let w = size_within xs in grind (arith, nat_tests))

-- an LF sought behind bytes that have none
pub found_behind : (seen : ℕ) (xs : List ℕ) (r : Option ℕ) → seen ≤ line_size xs → seen ≤ length xs → r ≡ position (λ b. b == 10) (drop seen xs) →
    MatchOption r (line_size xs ≡ length xs) (λ n. (seen + n ≡ line_size xs) × (seen + n < length xs))
found_behind seen xs r clear within is = by_found r (found_from_test (drop seen xs) _ r is refl)
  where
    by_found : (r : Option ℕ) → MatchOption r (line_size (drop seen xs) ≡ length (drop seen xs)) (λ n. (n ≡ line_size (drop seen xs)) × (n < length (drop seen xs))) →
        MatchOption r (line_size xs ≡ length xs) (λ n. (seen + n ≡ line_size xs) × (seen + n < length xs))
    by_found None none = (let e = size_behind seen xs clear in let l = length-drop seen xs in omega arith)
    by_found (Some n) some = (let e = size_behind seen xs clear in let l = length-drop seen xs in (omega arith, omega arith))
