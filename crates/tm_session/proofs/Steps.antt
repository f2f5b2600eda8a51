-- What one line does to the blocks ahead.
use Rattle.std.proofs.Common.{◌≡◌, ◌⊎◌, ℕ, ◌+◌, ◌≤◌, Bool, true, false, List, [], ◌∷◌, ◌++◌, length, codes, sym, ◌∙◌, ap, subst, refl, arith, append_assoc, inl, inr, ⊎_elim}
use Rattle.std.proofs.lemmas.List.{append-nil}
use Rattle.std.proofs.lemmas.Bool.{cases_Bool}
use Rattle.std.specs.Prelude.{◌||◌, Option, Some, None, MatchOption, if◌then◌else◌}
use Rattle.std.specs.Str.{bytes_eq}
use Rattle.std.proofs.lemmas.Slice.Eq.{bytes_eq-Decides}
use Rattle.text_rows.specs.Lines.{is_passed_over}
use Rattle.tm_types.specs.Words.{first_word}
use Rattle.model_session.specs.SessionState.{Setting, SessionState}
use Rattle.model_session.specs.Session.{IsSourceEnded}
use Rattle.model_session.specs.Text.{broken_text}
use Rattle.model_session.specs.Blocks.{Block, block_alone, and_line, is_further, takes_further, open_before, line_before, blocks_behind, closed_blocks}
use Rattle.tm_session.specs.declared.outcome.Ended.{Ended}
use Rattle.tm_session.specs.declared.outcome.Ended.TheVariants.{Done, Memory}
use Rattle.tm_session.specs.DrivenSession.{IsTextWritten, ServesBlocks, FailsAt, SessionGoes, SessionEnds, EndsWhole, AreClosed, IsBlockOpen, IsSessionBroken, end_by, line_blocks, ahead_with, kept_blocks}
use Rattle.tm_session.proofs.Driven.{nothing_written, serves_none, serves_twice, serves_stops, stops_none}
use Rattle.session_lines.proofs.Enough.{line_stays}

pub choose : {A : Type 0} (b : Bool) (x y : A) → b ≡ true → (if b then x else y) ≡ x
choose true x y e = refl
choose false x y e = cc

pub other : {A : Type 0} (b : Bool) (x y : A) → b ≡ false → (if b then x else y) ≡ y
other true x y e = cc
other false x y e = refl

-- ---- closed blocks

-- the last blocks alone tell what is closed
closed_behind : (blocks : List Block) (block : Block) (more : List Block) → closed_blocks (blocks ++ block ∷ more) ≡ blocks ++ closed_blocks (block ∷ more)
closed_behind [] block more = refl
closed_behind (first ∷ []) block more = refl
closed_behind (first ∷ second ∷ blocks) block more = ap (λ bs. first ∷ bs) (closed_behind (second ∷ blocks) block more)

shut : (block : Block) → takes_further block.line ≡ false → closed_blocks (block ∷ []) ≡ block ∷ []
shut block plain = other (takes_further block.line) [] (block ∷ []) plain

still_open : (block : Block) → takes_further block.line ≡ true → closed_blocks (block ∷ []) ≡ []
still_open block takes = choose (takes_further block.line) [] (block ∷ []) takes

-- a last block that takes no `+` line is closed, and one that does is not
pub closed_last : (blocks : List Block) (block : Block) → takes_further block.line ≡ false → closed_blocks (blocks ++ block ∷ []) ≡ blocks ++ block ∷ []
closed_last blocks block plain = closed_behind blocks block [] ∙ ap (λ bs. blocks ++ bs) (shut block plain)

pub open_last : (blocks : List Block) (block : Block) → takes_further block.line ≡ true → closed_blocks (blocks ++ block ∷ []) ≡ blocks
open_last blocks block takes = closed_behind blocks block [] ∙ ap (λ bs. blocks ++ bs) (still_open block takes) ∙ append-nil blocks

-- ---- a line alone

not_passed : (line : List ℕ) (behind : List Block) → is_passed_over line ≡ false → line_blocks line behind ≡ line_before line behind
not_passed line behind seen = other (is_passed_over line) behind (line_before line behind) seen

before_open : (line : List ℕ) (behind : List Block) → is_passed_over line ≡ false → takes_further line ≡ true → line_blocks line behind ≡ open_before (block_alone line) behind
before_open line behind seen takes = not_passed line behind seen ∙ choose (takes_further line) (open_before (block_alone line) behind) (block_alone line ∷ behind) takes

before_alone : (line : List ℕ) (behind : List Block) → is_passed_over line ≡ false → takes_further line ≡ false → line_blocks line behind ≡ block_alone line ∷ behind
before_alone line behind seen plain = not_passed line behind seen ∙ other (takes_further line) (open_before (block_alone line) behind) (block_alone line ∷ behind) plain

pub goes_open : (setting : Setting) (line : List ℕ) (w : Option (List ℕ)) (a : SessionState) → is_passed_over line ≡ false → takes_further line ≡ true
    → SessionGoes setting None line (Some (block_alone line)) w w a a
goes_open setting line w a seen takes =
    record { blocks = []; split = λ behind. before_open line behind seen takes; shut = λ served h. takes; serves = serves_none setting w a }

pub goes_alone : (setting : Setting) (line : List ℕ) (w w' : Option (List ℕ)) (a b : SessionState) → is_passed_over line ≡ false → takes_further line ≡ false
    → ServesBlocks setting (block_alone line ∷ []) w w' a b → SessionGoes setting None line None w w' a b
goes_alone setting line w w' a b seen plain serves = record {
  blocks = block_alone line ∷ [];
  split = λ behind. before_alone line behind seen plain;
  shut = λ served h. closed_last served (block_alone line) plain;
  serves = serves;
}

alone_front : (line : List ℕ) (served : List Block) → is_passed_over line ≡ false → takes_further line ≡ false
    → closed_blocks (served ++ ahead_with None line []) ≡ served ++ block_alone line ∷ []
alone_front line served seen plain = ap (λ bs. closed_blocks (served ++ bs)) (before_alone line [] seen plain) ∙ closed_last served (block_alone line) plain

pub ends_alone : (setting : Setting) (ended : Ended) (line : List ℕ) (w w' : Option (List ℕ)) (a b : SessionState) → is_passed_over line ≡ false → takes_further line ≡ false
    → FailsAt setting ended (block_alone line) w w' a b → SessionEnds setting ended None line w w' a b
ends_alone setting ended line w w' a b seen plain (inl f) =
    subst (λ s. SessionEnds setting s None line w w' a b) (sym f.writing)
    (record { broken = inl refl; blocks = block_alone line ∷ []; others = []; front = λ served. alone_front line served seen plain; stops = f.stops [] })
ends_alone setting ended line w w' a b seen plain (inr f) =
    record { broken = inr f.undone; blocks = []; others = block_alone line ∷ []; front = λ served. alone_front line served seen plain; stops = f.stops [] }

-- a block that is the line alone
pub alone_step : (setting : Setting) (result : Option Ended) (line : List ℕ) (block : Block) (pending : Option Block) (w w' : Option (List ℕ)) (a b : SessionState)
    → is_passed_over line ≡ false → takes_further line ≡ false → block ≡ block_alone line → pending ≡ None
    → MatchOption result (ServesBlocks setting (block ∷ []) w w' a b) (λ ended. FailsAt setting ended block w w' a b)
    → MatchOption result (SessionGoes setting None line pending w w' a b) (λ ended. SessionEnds setting ended None line w w' a b)
alone_step setting None line block pending w w' a b seen plain is none step =
    subst (λ p. SessionGoes setting None line p w w' a b) (sym none) (goes_alone setting line w w' a b seen plain (subst (λ x. ServesBlocks setting (x ∷ []) w w' a b) is step))
alone_step setting (Some ended) line block pending w w' a b seen plain is none step =
    ends_alone setting ended line w w' a b seen plain (subst (λ x. FailsAt setting ended x w w' a b) is step)

pub open_step : (setting : Setting) (line : List ℕ) (block : Block) (w : Option (List ℕ)) (a : SessionState) → is_passed_over line ≡ false → takes_further line ≡ true → block ≡ block_alone line
    → SessionGoes setting None line (Some block) w w a a
open_step setting line block w a seen takes is = subst (λ x. SessionGoes setting None line (Some x) w w a a) (sym is) (goes_open setting line w a seen takes)

-- ---- a line behind one that may take `+` lines

pub stays_open : (block : Block) (line : List ℕ) → IsBlockOpen block → IsBlockOpen (and_line block line)
stays_open block line takes = ap takes_further (line_stays block line) ∙ takes

-- a `+` line takes none
further_takes : (line : List ℕ) → is_further line ≡ true → takes_further line ≡ false
further_takes line plus = ap (λ w. bytes_eq w (codes "IN") || bytes_eq w (codes "SCREEN")) ((bytes_eq-Decides (first_word line) (codes "+")).0 plus)

longer : (block : Block) (line : List ℕ) (behind : List Block) → is_passed_over line ≡ false → is_further line ≡ true
    → ahead_with (Some block) line behind ≡ open_before (and_line block line) behind
longer block line behind seen plus =
    ap (open_before block) (before_alone line behind seen (further_takes line plus))
    ∙ choose (is_further line) (open_before (and_line block line) behind) (block ∷ block_alone line ∷ behind) plus

pub goes_longer : (setting : Setting) (block : Block) (line : List ℕ) (w : Option (List ℕ)) (a : SessionState) → is_passed_over line ≡ false → is_further line ≡ true → IsBlockOpen block
    → SessionGoes setting (Some block) line (Some (and_line block line)) w w a a
goes_longer setting block line w a seen plus takes =
    record { blocks = []; split = λ behind. longer block line behind seen plus; shut = λ served h. stays_open block line takes; serves = serves_none setting w a }

pub ends_longer : (setting : Setting) (block : Block) (line : List ℕ) (w : Option (List ℕ)) (a : SessionState) → is_passed_over line ≡ false → is_further line ≡ true → IsBlockOpen block
    → SessionEnds setting Memory (Some block) line w w a a
ends_longer setting block line w a seen plus takes = record {
  broken = inr refl;
  blocks = [];
  others = [];
  front = λ served. ap (λ bs. closed_blocks (served ++ bs)) (longer block line [] seen plus) ∙ open_last served (and_line block line) (stays_open block line takes) ∙ sym (append-nil served);
  stops = stops_none setting Memory [] w a tt (refl, refl);
}

-- another line closes it
closes : (block begun : Block) (behind : List Block) → is_further begun.line ≡ false → open_before block (open_before begun behind) ≡ block ∷ open_before begun behind
closes block begun [] plain = other (is_further begun.line) (open_before (and_line block begun.line) []) (block ∷ begun ∷ []) plain
closes block begun (next ∷ behind) plain =
    elim (is_further next.line) as
    (λ t. open_before block (if t then open_before (and_line begun next.line) behind else begun ∷ next ∷ behind) ≡ block ∷ (if t then open_before (and_line begun next.line) behind else begun ∷ next ∷ behind)) [
      | true ↦ closes block (and_line begun next.line) behind (ap is_further (line_stays begun next.line) ∙ plain)
      | false ↦ other (is_further begun.line) (open_before (and_line block begun.line) (next ∷ behind)) (block ∷ begun ∷ next ∷ behind) plain
    ]

closes_before : (block : Block) (line : List ℕ) (behind : List Block) → is_further line ≡ false → open_before block (line_before line behind) ≡ block ∷ line_before line behind
closes_before block line behind plain =
    elim (takes_further line) as
    (λ t. open_before block (if t then open_before (block_alone line) behind else block_alone line ∷ behind) ≡ block ∷ (if t then open_before (block_alone line) behind else block_alone line ∷ behind)) [
      | true ↦ closes block (block_alone line) behind plain
      | false ↦ other (is_further line) (open_before (and_line block line) behind) (block ∷ block_alone line ∷ behind) plain
    ]

both_ahead : (block : Block) (line : List ℕ) (behind : List Block) → is_passed_over line ≡ false → is_further line ≡ false
    → ahead_with (Some block) line behind ≡ block ∷ ahead_with None line behind
both_ahead block line behind seen plain =
    ap (open_before block) (not_passed line behind seen) ∙ closes_before block line behind plain ∙ ap (λ bs. block ∷ bs) (sym (not_passed line behind seen))

module _ (setting : Setting) (block : Block) (line : List ℕ) (w w1 w2 : Option (List ℕ)) (a b c : SessionState) (seen : is_passed_over line ≡ false) (plain : is_further line ≡ false) where
  goes_both : (after : Option Block) → ServesBlocks setting (block ∷ []) w w1 a b → SessionGoes setting None line after w1 w2 b c → SessionGoes setting (Some block) line after w w2 a c
  goes_both after first second = record {
    blocks = block ∷ second.blocks;
    split = λ behind. both_ahead block line behind seen plain ∙ ap (λ bs. block ∷ bs) (second.split behind);
    shut = λ served h. subst (λ bs. AreClosed after bs) (append_assoc served (block ∷ []) second.blocks) (second.shut (served ++ block ∷ []) (λ passed. cc));
    serves = serves_twice setting (block ∷ []) second.blocks w w1 w2 a b c first second.serves;
  }

  front_behind : (blocks others served : List Block) → ((before : List Block) → closed_blocks (before ++ ahead_with None line []) ≡ before ++ (blocks ++ others))
      → closed_blocks (served ++ ahead_with (Some block) line []) ≡ served ++ (block ∷ (blocks ++ others))
  front_behind blocks others served front =
      ap (λ bs. closed_blocks (served ++ bs)) (both_ahead block line [] seen plain)
      ∙ ap closed_blocks (sym (append_assoc served (block ∷ []) (ahead_with None line [])))
      ∙ front (served ++ block ∷ []) ∙ append_assoc served (block ∷ []) (blocks ++ others)

  ends_second : (ended : Ended) → ServesBlocks setting (block ∷ []) w w1 a b → SessionEnds setting ended None line w1 w2 b c → SessionEnds setting ended (Some block) line w w2 a c
  ends_second ended first second = record {
    broken = second.broken;
    blocks = block ∷ second.blocks;
    others = second.others;
    front = λ served. front_behind second.blocks second.others served second.front;
    stops = serves_stops setting ended (block ∷ []) second.blocks second.others w w1 w2 a b c first second.stops;
  }

  pub both_step : (result : Option Ended) (after : Option Block) → ServesBlocks setting (block ∷ []) w w1 a b
      → MatchOption result (SessionGoes setting None line after w1 w2 b c) (λ ended. SessionEnds setting ended None line w1 w2 b c)
      → MatchOption result (SessionGoes setting (Some block) line after w w2 a c) (λ ended. SessionEnds setting ended (Some block) line w w2 a c)
  both_step None after first step = goes_both after first step
  both_step (Some ended) after first step = ends_second ended first step

-- a line behind nothing makes one block
alone_of : (line : List ℕ) → is_passed_over line ≡ false → ahead_with None line [] ≡ block_alone line ∷ []
alone_of line seen =
    not_passed line [] seen
    ∙ (elim (takes_further line) as (λ t. (if t then block_alone line ∷ [] else block_alone line ∷ []) ≡ block_alone line ∷ []) [
      | true ↦ refl
      | false ↦ refl
    ])

closed_two : (block : Block) (line : List ℕ) → is_passed_over line ≡ false → closed_blocks (block ∷ ahead_with None line []) ≡ block ∷ closed_blocks (ahead_with None line [])
closed_two block line seen = ap (λ bs. closed_blocks (block ∷ bs)) (alone_of line seen) ∙ ap (λ bs. block ∷ closed_blocks bs) (sym (alone_of line seen))

-- the last of the two is closed, or may still take `+` lines
first_front : (block : Block) (line : List ℕ) (served : List Block) → is_passed_over line ≡ false → is_further line ≡ false
    → closed_blocks (served ++ ahead_with (Some block) line []) ≡ served ++ (block ∷ closed_blocks (ahead_with None line []))
first_front block line served seen plain =
    ap (λ bs. closed_blocks (served ++ bs)) (both_ahead block line [] seen plain) ∙ closed_behind served block (ahead_with None line [])
    ∙ ap (λ bs. served ++ bs) (closed_two block line seen)

pub ends_first : (setting : Setting) (ended : Ended) (block : Block) (line : List ℕ) (w w' : Option (List ℕ)) (a b : SessionState) → is_passed_over line ≡ false → is_further line ≡ false
    → FailsAt setting ended block w w' a b → SessionEnds setting ended (Some block) line w w' a b
ends_first setting ended block line w w' a b seen plain (inl f) =
    subst (λ s. SessionEnds setting s (Some block) line w w' a b) (sym f.writing)
    (record { broken = inl refl; blocks = block ∷ []; others = closed_blocks (ahead_with None line []); front = λ served. first_front block line served seen plain; stops = f.stops (closed_blocks (ahead_with None line [])) })
ends_first setting ended block line w w' a b seen plain (inr f) =
    record { broken = inr f.undone; blocks = []; others = block ∷ closed_blocks (ahead_with None line []); front = λ served. first_front block line served seen plain; stops = f.stops (closed_blocks (ahead_with None line [])) }

-- what was kept stands behind it
pub kept_goes : (setting : Setting) (pending kept : Option Block) (line : List ℕ) (result : Option Ended) (after : Option Block) (w w' : Option (List ℕ)) (a b : SessionState) → pending ≡ kept
    → MatchOption result (SessionGoes setting kept line after w w' a b) (λ ended. SessionEnds setting ended kept line w w' a b)
    → MatchOption result (SessionGoes setting pending line after w w' a b) (λ ended. SessionEnds setting ended pending line w w' a b)
kept_goes setting pending kept line result after w w' a b is step =
    subst (λ p. MatchOption result (SessionGoes setting p line after w w' a b) (λ ended. SessionEnds setting ended p line w w' a b)) (sym is) step

-- ---- any line

pub goes_passed : (setting : Setting) (pending : Option Block) (line : List ℕ) (w : Option (List ℕ)) (a : SessionState) → is_passed_over line ≡ true → SessionGoes setting pending line pending w w a a
goes_passed setting pending line w a passed = record {
  blocks = [];
  split = λ behind. ap (blocks_behind pending) (choose (is_passed_over line) behind (line_before line behind) passed);
  shut = λ served h. subst (λ bs. AreClosed pending bs) (sym (append-nil served)) (h passed);
  serves = serves_none setting w a;
}

-- ---- how many blocks there are

few_before : (block : Block) (blocks : List Block) → length (open_before block blocks) ≤ length blocks + 1
few_before block [] = omega arith
few_before block (next ∷ blocks) = by (is_further next.line) (few_before (and_line block next.line) blocks)
  where
    by : (b : Bool) → length (open_before (and_line block next.line) blocks) ≤ length blocks + 1
        → length (if b then open_before (and_line block next.line) blocks else block ∷ next ∷ blocks) ≤ length (next ∷ blocks) + 1
    by true less = omega (arith, less)
    by false less = omega arith

few_line : (line : List ℕ) → length (line_blocks line []) ≤ 1
few_line line =
    ⊎_elim (λ passed. omega (arith, ap (λ (bs : List Block). length bs) (choose (is_passed_over line) [] (line_before line []) passed)))
    (λ seen. omega (arith, ap (λ (bs : List Block). length bs) (alone_of line seen)))
    (cases_Bool (is_passed_over line))

-- a line makes one more at most
pub few_ahead : (pending : Option Block) (line : List ℕ) → length (ahead_with pending line []) ≤ length (kept_blocks pending) + 1
few_ahead None line = omega (arith, few_line line)
few_ahead (Some block) line = omega (arith, few_before block (line_blocks line []), few_line line)

pub few_closed : (blocks : List Block) → length (closed_blocks blocks) ≤ length blocks
few_closed [] = omega arith
few_closed (block ∷ []) =
    ⊎_elim (λ takes. omega (arith, ap (λ (bs : List Block). length bs) (still_open block takes))) (λ plain. omega (arith, ap (λ (bs : List Block). length bs) (shut block plain)))
    (cases_Bool (takes_further block.line))
few_closed (block ∷ next ∷ blocks) = omega (arith, few_closed (next ∷ blocks))

-- ---- the end of the source

-- it was forced, or the disk failed in that, and of that was told
module _ (setting : Setting) (w w' : Option (List ℕ)) (a b : SessionState) where
  pub whole_forced : IsSourceEnded setting.system a b [] → w' ≡ w → EndsWhole setting Done None w w' a b
  whole_forced ends same = record {
    blocks = [];
    others = [];
    settled = inl (refl, refl, refl);
    stops = record { mid = a; text = []; served = (refl, refl); end_text = []; behind = ends; undone = tt; printed = same ∙ nothing_written w };
  }

  pub whole_broke : (result : Option Ended) → IsSourceEnded setting.system a b broken_text → IsTextWritten w w' broken_text result → EndsWhole setting (end_by result) None w w' a b
  whole_broke None ends written = record {
    blocks = [];
    others = [];
    settled = inl (refl, refl, refl);
    stops = record { mid = a; text = []; served = (refl, refl); end_text = broken_text; behind = ends; undone = tt; printed = written };
  }
  whole_broke (Some ended) ends (writing, front) = subst (λ s. EndsWhole setting s None w w' a b) (sym writing) (record {
    blocks = [];
    others = [];
    settled = inr (inl refl, refl);
    stops = record { mid = a; text = []; served = (refl, refl); end_text = broken_text; behind = inr (refl, refl, ends); undone = tt; printed = front };
  })

-- the line that was kept was served before
settled_behind : (ended : Ended) (block : Block) (blocks others : List Block)
    → ((ended ≡ Done) × (kept_blocks None ≡ blocks) × (others ≡ [])) ⊎ (IsSessionBroken ended × (kept_blocks None ≡ blocks ++ others))
    → ((ended ≡ Done) × (kept_blocks (Some block) ≡ block ∷ blocks) × (others ≡ [])) ⊎ (IsSessionBroken ended × (kept_blocks (Some block) ≡ (block ∷ blocks) ++ others))
settled_behind ended block blocks others (inl (done, kept, none)) = inl (done, ap (λ bs. block ∷ bs) kept, none)
settled_behind ended block blocks others (inr (broken, kept)) = inr (broken, ap (λ bs. block ∷ bs) kept)

pub whole_behind : (setting : Setting) (ended : Ended) (block : Block) (w w1 w2 : Option (List ℕ)) (a b c : SessionState) → ServesBlocks setting (block ∷ []) w w1 a b → EndsWhole setting ended None w1 w2 b c
    → EndsWhole setting ended (Some block) w w2 a c
whole_behind setting ended block w w1 w2 a b c serves ends = record {
  blocks = block ∷ ends.blocks;
  others = ends.others;
  settled = settled_behind ended block ends.blocks ends.others ends.settled;
  stops = serves_stops setting ended (block ∷ []) ends.blocks ends.others w w1 w2 a b c serves ends.stops;
}

pub whole_failed : (setting : Setting) (ended : Ended) (block : Block) (w w' : Option (List ℕ)) (a b : SessionState) → FailsAt setting ended block w w' a b → EndsWhole setting ended (Some block) w w' a b
whole_failed setting ended block w w' a b (inl f) =
    subst (λ s. EndsWhole setting s (Some block) w w' a b) (sym f.writing) (record { blocks = block ∷ []; others = []; settled = inr (inl refl, refl); stops = f.stops [] })
whole_failed setting ended block w w' a b (inr f) =
    record { blocks = []; others = block ∷ []; settled = inr (inr f.undone, refl); stops = f.stops [] }

pub ruleset line_steps = (goes_open, goes_alone, ends_alone)
