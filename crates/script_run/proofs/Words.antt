-- The first word of a text, and the words behind it.
use Rattle.std.proofs.Common.{◌≡◌, ℕ, suc, ◌+◌, ◌≤◌, Bool, true, false, cond, List, [], ◌∷◌, length, take, drop, refl, ap, sym, ◌∙◌, arith, length-take-le}
use Rattle.std.specs.Prelude.{◌==◌, not, filter, slice_index_or, Some, None, position, nat_lt}
use Rattle.std.specs.List.{position_or_len}
use Rattle.std.proofs.lemmas.Bool.Decides.{nat_tests}
use Rattle.std.proofs.lemmas.List.Sums.{prefix_len-le-length}
use Rattle.std.proofs.lemmas.List.Recursion.{is_position_or_len}
use Rattle.tm_types.specs.Words.{first_word}
use Rattle.model_system.specs.Texts.{with_front_byte, blank_pieces, is_filled, words}
use Rattle.script_run.specs.TextRuns.{blanks_before, word_length}

-- what position gives, or the length
by_test : (b : Bool) (n place : ℕ) → cond b (Some n) None ≡ Some place → place ≡ n
by_test true n place e = cc
by_test false n place e = cc

past_end : (b : Bool) (n : ℕ) → cond b (Some n) None ≡ None → b ≡ false
past_end true n e = cc
past_end false n e = refl

place_is : (p : ℕ → Bool) (text : List ℕ) (place : ℕ) → position p text ≡ Some place → place ≡ position_or_len p text
place_is p text place e = by_test _ _ place e

none_is : (p : ℕ → Bool) (text : List ℕ) → position p text ≡ None → length text ≡ position_or_len p text
none_is p text e =
    let past : nat_lt (position_or_len p text) (length text) ≡ false = past_end _ _ e in
    let most : position_or_len p text ≤ length text = prefix_len-le-length (λ b. not (p b)) text in
    grind (arith, nat_tests)

one_more : (b : Bool) (n : ℕ) → cond b 0 (suc n) ≡ cond b 0 (1 + n)
one_more true n = refl
one_more false n = omega arith

one_blank : (b : Bool) (n : ℕ) → cond b (suc n) 0 ≡ cond (not b) 0 (1 + n)
one_blank true n = omega arith
one_blank false n = refl

word_length_is : (text : List ℕ) → word_length text ≡ position_or_len (λ b. b == 32) text
word_length_is text = is_position_or_len word_length (λ b. b == 32) refl (λ b bs. one_more (b == 32) (word_length bs)) text

blanks_is : (text : List ℕ) → blanks_before text ≡ position_or_len (λ b. not (b == 32)) text
blanks_is text = is_position_or_len blanks_before (λ b. not (b == 32)) refl (λ b bs. one_blank (b == 32) (blanks_before bs)) text

pub word_within : (text : List ℕ) → word_length text ≤ length text
word_within text = let most = prefix_len-le-length (λ b. not (b == 32)) text in omega (arith, most, word_length_is text)

-- how the first word of a text is taken
pub word_taken : (text : List ℕ) → first_word text ≡ take (word_length text) text
word_taken text = ap (λ n. take n text) (sym (word_length_is text))

pub word_size : (text : List ℕ) → length (first_word text) ≡ word_length text
word_size text = ap length (word_taken text) ∙ length-take-le (word_length text) text (word_within text)

pub blanks_place : (text : List ℕ) (place : ℕ) → position (λ b. not (b == 32)) text ≡ Some place → place ≡ blanks_before text
blanks_place text place e = place_is (λ b. not (b == 32)) text place e ∙ sym (blanks_is text)

pub blanks_end : (text : List ℕ) → position (λ b. not (b == 32)) text ≡ None → length text ≡ blanks_before text
blanks_end text e = none_is (λ b. not (b == 32)) text e ∙ sym (blanks_is text)

pub blanks_within : (text : List ℕ) → blanks_before text ≤ length text
blanks_within text = let most = prefix_len-le-length (λ b. not (not (b == 32))) text in omega (arith, most, blanks_is text)

pub ruleset blank_steps = (blanks_place, blanks_end, blanks_within)

-- the first piece of a text, and the words behind it
record IsFirstPiece (text : List ℕ) (tail : List (List ℕ)) : Type 0 where
  first : blank_pieces text ≡ take (word_length text) text ∷ tail
  behind : filter is_filled tail ≡ words (drop (word_length text) text)

blank_first : (b : Bool) (byte : ℕ) (bytes : List ℕ) → (byte == 32) ≡ b → ((tail : List (List ℕ)) × IsFirstPiece bytes tail) → (tail : List (List ℕ)) × IsFirstPiece (byte ∷ bytes) tail
blank_first true byte bytes e more = (
  blank_pieces bytes,
  record {
    first = ap (λ b. cond b ([] ∷ blank_pieces bytes) (with_front_byte byte (blank_pieces bytes))) e ∙ ap (λ b. take (cond b 0 (suc (word_length bytes))) (byte ∷ bytes) ∷ blank_pieces bytes) (sym e);
    behind = ap (λ b. filter is_filled (cond b ([] ∷ blank_pieces bytes) (with_front_byte byte (blank_pieces bytes)))) (sym e) ∙ ap (λ b. words (drop (cond b 0 (suc (word_length bytes))) (byte ∷ bytes))) (sym e);
  },
)
blank_first false byte bytes e (tail, more) = (
  tail,
  record {
    first = ap (λ b. cond b ([] ∷ blank_pieces bytes) (with_front_byte byte (blank_pieces bytes))) e ∙ ap (with_front_byte byte) more.first ∙ ap (λ b. take (cond b 0 (suc (word_length bytes))) (byte ∷ bytes) ∷ tail) (sym e);
    behind = more.behind ∙ ap (λ b. words (drop (cond b 0 (suc (word_length bytes))) (byte ∷ bytes))) (sym e);
  },
)

first_piece : (text : List ℕ) → (tail : List (List ℕ)) × IsFirstPiece text tail
first_piece [] = ([], record { first = refl; behind = refl })
first_piece (byte ∷ bytes) = blank_first (byte == 32) byte bytes refl (first_piece bytes)

-- the first word, where the text doesn't begin with a blank
starts_by : (text : List ℕ) (tail : List (List ℕ)) → blank_pieces text ≡ tail → (filter is_filled tail ≡ words text)
starts_by text tail e = ap (filter is_filled) (sym e)

record IsSplit (text rest : List ℕ) : Type 0 where
  pub first : take (word_length rest) rest ≡ slice_index_or (words text) 0 []
  pub behind : words (drop (word_length rest) rest) ≡ drop 1 (words text)

word_first : (byte : ℕ) (bytes : List ℕ) → (byte == 32) ≡ false → ((tail : List (List ℕ)) × IsFirstPiece (byte ∷ bytes) tail) → IsSplit (byte ∷ bytes) (byte ∷ bytes)
word_first byte bytes e (tail, piece) =
    let long : word_length (byte ∷ bytes) ≡ suc (word_length bytes) = ap (λ b. cond b 0 (suc (word_length bytes))) e in
    let front : take (word_length (byte ∷ bytes)) (byte ∷ bytes) ≡ byte ∷ take (word_length bytes) bytes = ap (λ n. take n (byte ∷ bytes)) long in
    let here : words (byte ∷ bytes) ≡ (byte ∷ take (word_length bytes) bytes) ∷ filter is_filled tail = ap (filter is_filled) (piece.first ∙ ap (λ w. w ∷ tail) front) in
    record {
      first = front ∙ sym (ap (λ ws. slice_index_or ws 0 []) here);
      behind = sym piece.behind ∙ sym (ap (drop 1) here);
    }

split_by : (b : Bool) (byte : ℕ) (bytes : List ℕ) → (byte == 32) ≡ b → IsSplit bytes (drop (blanks_before bytes) bytes) → IsSplit (byte ∷ bytes) (drop (cond b (suc (blanks_before bytes)) 0) (byte ∷ bytes))
split_by true byte bytes e more =
    let same : words (byte ∷ bytes) ≡ words bytes = ap (λ b. filter is_filled (cond b ([] ∷ blank_pieces bytes) (with_front_byte byte (blank_pieces bytes)))) e in
    record {
      first = more.first ∙ ap (λ ws. slice_index_or ws 0 []) (sym same);
      behind = more.behind ∙ ap (drop 1) (sym same);
    }
split_by false byte bytes e more = word_first byte bytes e (first_piece (byte ∷ bytes))

split : (text : List ℕ) → IsSplit text (drop (blanks_before text) text)
split [] = record { first = refl; behind = refl }
split (byte ∷ bytes) = split_by (byte == 32) byte bytes refl (split bytes)

pub split_first : (text rest : List ℕ) → rest ≡ drop (blanks_before text) text → take (word_length rest) rest ≡ slice_index_or (words text) 0 []
split_first text rest e = ap (λ r. take (word_length r) r) e ∙ (split text).first

pub split_behind : (text rest : List ℕ) → rest ≡ drop (blanks_before text) text → words (drop (word_length rest) rest) ≡ drop 1 (words text)
split_behind text rest e = ap (λ r. words (drop (word_length r) r)) e ∙ (split text).behind

pub ruleset word_steps = (word_within)

pub ruleset split_steps = (split_first, split_behind)
