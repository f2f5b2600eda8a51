-- Lines that are read, what was served of them, and how a session ends.
use Rattle.std.proofs.Common.{◌≡◌, ◌≢◌, ◌⊎◌, ℕ, ◌+◌, ◌≤◌, ◌<◌, Bool, true, false, List, [], ◌∷◌, ◌++◌, length, sym, ◌∙◌, ap, subst, refl, arith, append_assoc, length-append, inl, inr}
use Rattle.std.proofs.lemmas.List.{append-nil}
use Rattle.std.specs.Prelude.{Option, Some, None, IfSome, MatchOption}
use Rattle.model_system.specs.System.{System}
use Rattle.model_session.specs.SessionState.{Setting, SessionState}
use Rattle.model_session.specs.declared.asked.ImageRefused.{ImageRefused}
use Rattle.model_session.specs.Blocks.{Block, blocks_of, blocks_behind, closed_blocks}
use Rattle.tm_edge.specs.Fault.{HasRisen}
use Rattle.tm_edge.specs.Lines.{CutLine, IsLineTooLong, ServesTold, line_size}
use Rattle.tm_edge.proofs.ServedSoFar.{none_served, one_served}
use Rattle.tm_session.specs.declared.outcome.Ended.{Ended}
use Rattle.tm_session.specs.declared.outcome.Ended.TheVariants.{Done, Words, BadLine, BadCross, Down, Read, Write, Image, Memory, Limit, Spent}
use Rattle.tm_session.specs.Outcome.{ending_of, texts_of_lines, is_undone, IsLeftBehind, UndoneAs, AreSettled, IsLimit, IsAtLimit, IsTextBack, IsReadToEnd, HasCause}
use Rattle.tm_session.specs.Outcome.Ending.{Whole, Stopped, NotBegun}
use Rattle.tm_session.specs.UnreadLine.{IsUnread}
use Rattle.tm_session.specs.DrivenSession.{Stops, SessionGoes, SessionEnds, EndsWhole, IsSessionBroken, AreClosed, ahead_with, kept_blocks, may_pass, IsTextBehind, behind_last, StopsBetween, StopsAt, StopsWhole, StopsLast, StopsHere, SessionSteps, ReadSoFar, SoFar, ReadsTold, HasDriven}
use Rattle.tm_session.proofs.Driven.{serves_none, serves_twice, serves_stops, stops_none}
use Rattle.tm_session.proofs.Steps.{open_last, few_ahead, few_closed}
use Rattle.tm_session.proofs.Taking.{back_same, back_served}

-- ---- one line

pub next_step : (setting : Setting) (result : Option Ended) (told told' : Option (List ℕ)) (pending after : Option Block) (line : List ℕ) (w w' : Option (List ℕ)) (a b : SessionState)
    → ServesTold told (Some line) told'
    → MatchOption result (SessionGoes setting pending line after w w' a b) (λ ended. SessionEnds setting ended pending line w w' a b)
    → MatchOption result (SessionSteps setting told told' pending after w w' a b) (λ ended. (count : ℕ) → count < 1000000 → StopsHere setting count ended told told' pending w w' a b)
next_step setting None told told' pending after line w w' a b serves step = record { line = line; read = serves; goes = step }
next_step setting (Some ended) told told' pending after line w w' a b serves step = λ count below. inr (record { line = line; read = serves; ends = step })

pub stops_whole : (setting : Setting) (ended : Ended) (told told' : Option (List ℕ)) (pending : Option Block) (w w' : Option (List ℕ)) (a b : SessionState)
    → ServesTold told None told' → EndsWhole setting ended pending w w' a b → (count : ℕ) → StopsLast setting count ended told told' pending w w' a b
stops_whole setting ended told told' pending w w' a b serves ends count = inr (record { read = serves; ends = ends })

-- ---- no line

none_at : (told : Option (List ℕ)) → IfSome told (λ rest. Unit {0})
none_at (Some rest) = tt
none_at None = tt

too_long_at : (n count : ℕ) (told : Option (List ℕ)) → n ≡ 4097 → count < 1000000 → IfSome told IsLineTooLong → IfSome told (λ rest. IsLimit n count rest)
too_long_at n count (Some rest) number below long = inl (number, below, long)
too_long_at n count None number below long = tt

pub unread_between : (ended : Ended) (told told' : Option (List ℕ)) (held : List ℕ) (r r' : ℕ) (w : Option (List ℕ)) (a : SessionState)
    → told' ≡ told → IsUnread ended told held r r' → (count : ℕ) → count < 1000000 → StopsBetween count ended told told' w w a a
unread_between Read told told' held r r' w a same h count below = record { stopped = inl refl; behind = same; limit = none_at told; printed = refl; same = refl }
unread_between Memory told told' held r r' w a same h count below = record { stopped = inr refl; behind = same; limit = none_at told; printed = refl; same = refl }
unread_between (Limit n) told told' held r r' w a same h count below =
    record { stopped = inl refl; behind = back_same told told' same; limit = too_long_at n count told h.0 below h.1; printed = refl; same = refl }
unread_between Done told told' held r r' w a same h count below = absurd h
unread_between Write told told' held r r' w a same h count below = absurd h
unread_between (Words word rule) told told' held r r' w a same h count below = absurd h
unread_between (BadLine line rule) told told' held r r' w a same h count below = absurd h
unread_between (BadCross line rule) told told' held r r' w a same h count below = absurd h
unread_between Down told told' held r r' w a same h count below = absurd h
unread_between Spent told told' held r r' w a same h count below = absurd h
unread_between (Image refusal) told told' held r r' w a same h count below = absurd h

some_bytes : (bytes : List ℕ) → 0 < length bytes → bytes ≢ []
some_bytes [] h = absurd (omega (arith, h))
some_bytes (b ∷ bytes) h = λ e. cc

long_bytes : (bytes : List ℕ) → IsLineTooLong bytes → bytes ≢ []
long_bytes [] long = absurd (omega (arith, long))
long_bytes (b ∷ bytes) long = λ e. cc

past_at : (told : Option (List ℕ)) → IfSome told IsLineTooLong → IfSome told (λ rest. IsLimit 1000001 1000000 rest)
past_at (Some rest) long = inr (refl, refl, long_bytes rest long)
past_at None long = tt

line_at : (told told' : Option (List ℕ)) (line : List ℕ) → ServesTold told (Some line) told' → IfSome told (λ rest. IsLimit 1000001 1000000 rest)
line_at (Some rest) (Some behind) line serves = inr (refl, refl, some_bytes rest serves.some)
line_at (Some rest) None line serves = absurd serves
line_at None told' line serves = tt

-- behind the last line that there may be
pub last_between : (ended : Ended) (told told' : Option (List ℕ)) (held : List ℕ) (r r' : ℕ) (w : Option (List ℕ)) (a : SessionState)
    → told' ≡ told → IsUnread ended told held r r' → StopsBetween 1000000 (behind_last ended) told told' w w a a
last_between Read told told' held r r' w a same h = record { stopped = inl refl; behind = same; limit = none_at told; printed = refl; same = refl }
last_between Memory told told' held r r' w a same h = record { stopped = inr refl; behind = same; limit = none_at told; printed = refl; same = refl }
last_between (Limit n) told told' held r r' w a same h =
    record { stopped = inl refl; behind = back_same told told' same; limit = past_at told h.1; printed = refl; same = refl }
last_between Done told told' held r r' w a same h = absurd h
last_between Write told told' held r r' w a same h = absurd h
last_between (Words word rule) told told' held r r' w a same h = absurd h
last_between (BadLine line rule) told told' held r r' w a same h = absurd h
last_between (BadCross line rule) told told' held r r' w a same h = absurd h
last_between Down told told' held r r' w a same h = absurd h
last_between Spent told told' held r r' w a same h = absurd h
last_between (Image refusal) told told' held r r' w a same h = absurd h

pub past_between : (told told' : Option (List ℕ)) (line : List ℕ) (w : Option (List ℕ)) (a : SessionState)
    → ServesTold told (Some line) told' → StopsBetween 1000000 (Limit 1000001) told told' w w a a
past_between told told' line w a serves =
    record { stopped = inl refl; behind = back_served told (Some line) told' serves; limit = line_at told told' line serves; printed = refl; same = refl }

-- ---- causes

pub unread_cause : (ended : Ended) (told : Option (List ℕ)) (held : List ℕ) (r r' w : ℕ) → IsUnread ended told held r r' → HasCause ended r r' w w
unread_cause Read told held r r' w h = (h, refl)
unread_cause Memory told held r r' w h = (h.1, refl)
unread_cause (Limit n) told held r r' w h = (inl h.0, h.2, refl)
unread_cause Done told held r r' w h = absurd h
unread_cause Write told held r r' w h = absurd h
unread_cause (Words word rule) told held r r' w h = absurd h
unread_cause (BadLine line rule) told held r r' w h = absurd h
unread_cause (BadCross line rule) told held r r' w h = absurd h
unread_cause Down told held r r' w h = absurd h
unread_cause Spent told held r r' w h = absurd h
unread_cause (Image refusal) told held r r' w h = absurd h

pub last_cause : (ended : Ended) (told : Option (List ℕ)) (held : List ℕ) (r r' w : ℕ) → IsUnread ended told held r r' → HasCause (behind_last ended) r r' w w
last_cause Read told held r r' w h = (h, refl)
last_cause Memory told held r r' w h = (h.1, refl)
last_cause (Limit n) told held r r' w h = (inr refl, h.2, refl)
last_cause Done told held r r' w h = absurd h
last_cause Write told held r r' w h = absurd h
last_cause (Words word rule) told held r r' w h = absurd h
last_cause (BadLine line rule) told held r r' w h = absurd h
last_cause (BadCross line rule) told held r r' w h = absurd h
last_cause Down told held r r' w h = absurd h
last_cause Spent told held r r' w h = absurd h
last_cause (Image refusal) told held r r' w h = absurd h

pub last_whole : (ended : Ended) (told : Option (List ℕ)) (held : List ℕ) (r r' : ℕ) (left : Option (List ℕ)) → IsUnread ended told held r r' → IsReadToEnd (behind_last ended) left
last_whole Read told held r r' left h = tt
last_whole Memory told held r r' left h = tt
last_whole (Limit n) told held r r' left h = tt
last_whole Done told held r r' left h = absurd h
last_whole Write told held r r' left h = absurd h
last_whole (Words word rule) told held r r' left h = absurd h
last_whole (BadLine line rule) told held r r' left h = absurd h
last_whole (BadCross line rule) told held r r' left h = absurd h
last_whole Down told held r r' left h = absurd h
last_whole Spent told held r r' left h = absurd h
last_whole (Image refusal) told held r r' left h = absurd h

pub unread_whole : (ended : Ended) (told : Option (List ℕ)) (held : List ℕ) (r r' : ℕ) (left : Option (List ℕ)) → IsUnread ended told held r r' → IsReadToEnd ended left
unread_whole Read told held r r' left h = tt
unread_whole Memory told held r r' left h = tt
unread_whole (Limit n) told held r r' left h = tt
unread_whole Done told held r r' left h = absurd h
unread_whole Write told held r r' left h = absurd h
unread_whole (Words word rule) told held r r' left h = absurd h
unread_whole (BadLine line rule) told held r r' left h = absurd h
unread_whole (BadCross line rule) told held r r' left h = absurd h
unread_whole Down told held r r' left h = absurd h
unread_whole Spent told held r r' left h = absurd h
unread_whole (Image refusal) told held r r' left h = absurd h

no_rise : HasRisen 0 0 → ⊥
no_rise (inl less) = omega (arith, less)
no_rise (inr full) = omega (arith, full)

-- a cause that lies with the sink, where reading met no fault
pub sink_cause : (ended : Ended) (r r' w w' : ℕ) → r' ≡ r → HasCause ended 0 0 w w' → HasCause ended r r' w w'
sink_cause Read r r' w w' same h = absurd (no_rise h.0)
sink_cause Write r r' w w' same h = (same, h.1)
sink_cause (Limit n) r r' w w' same h = (h.0, same, h.2)
sink_cause Memory r r' w w' same h = (same, h.1)
sink_cause Done r r' w w' same h = (same, h.1)
sink_cause (Words word rule) r r' w w' same h = (same, h.1)
sink_cause (BadLine line rule) r r' w w' same h = (same, h.1)
sink_cause (BadCross line rule) r r' w w' same h = (same, h.1)
sink_cause Down r r' w w' same h = (same, h.1)
sink_cause Spent r r' w w' same h = (same, h.1)
sink_cause (Image refusal) r r' w w' same h = (same, h.1)

-- by the ways to break off
undone_cases : (P : Ended → Type 0) (ended : Ended) → is_undone ended ≡ true → P Memory → P Spent → ((refusal : ImageRefused) → P (Image refusal)) → P ended
undone_cases P Memory undone memory spent image = memory
undone_cases P Spent undone memory spent image = spent
undone_cases P (Image refusal) undone memory spent image = image refusal
undone_cases P Done undone memory spent image = cc
undone_cases P Down undone memory spent image = cc
undone_cases P Read undone memory spent image = cc
undone_cases P Write undone memory spent image = cc
undone_cases P (Limit n) undone memory spent image = cc
undone_cases P (Words word rule) undone memory spent image = cc
undone_cases P (BadLine line rule) undone memory spent image = cc
undone_cases P (BadCross line rule) undone memory spent image = cc

broken_cases : (P : Ended → Type 0) (ended : Ended) → IsSessionBroken ended → P Write → P Memory → P Spent → ((refusal : ImageRefused) → P (Image refusal)) → P ended
broken_cases P ended (inl same) write memory spent image = subst P (sym same) write
broken_cases P ended (inr undone) write memory spent image = undone_cases P ended undone memory spent image

pub broken_whole : (ended : Ended) (left : Option (List ℕ)) → IsSessionBroken ended → IsReadToEnd ended left
broken_whole ended left broken = broken_cases (λ s. IsReadToEnd s left) ended broken tt tt tt (λ refusal. tt)

pub broken_unread : (ended : Option Ended) (left : Option (List ℕ)) → IfSome ended IsSessionBroken → IfSome ended (λ ended. IsReadToEnd ended left)
broken_unread None left broken = tt
broken_unread (Some ended) left broken = broken_whole ended left broken

-- ---- a session so far

pub texts_twice : (cut more : List CutLine) → texts_of_lines (cut ++ more) ≡ texts_of_lines cut ++ texts_of_lines more
texts_twice [] more = refl
texts_twice (line ∷ cut) more = ap (λ texts. line.text ∷ texts) (texts_twice cut more)

read_start : (before : ℕ) (told : Option (List ℕ)) → ReadSoFar before before told told None []
read_start before (Some bytes) = record { cut = []; counted = omega arith; served = none_served bytes; split = λ lines. refl }
read_start before None = refl

pub so_far_start : (setting : Setting) (before : ℕ) (told w : Option (List ℕ)) (a : SessionState) → SoFar setting before before told told None w w a a
so_far_start setting before told w a = record { blocks = []; serves = serves_none setting w a; read = read_start before told; shut = refl; few = omega arith }

split_line : (cut : List CutLine) (line : List ℕ) (size : ℕ) (pending : Option Block) (blocks : List Block) (lines : List (List ℕ))
    → ((more : List (List ℕ)) → blocks_of (texts_of_lines cut ++ more) ≡ blocks ++ blocks_behind pending (blocks_of more))
    → blocks_of (texts_of_lines (cut ++ record { text = line; size = size } ∷ []) ++ lines) ≡ blocks ++ ahead_with pending line (blocks_of lines)
split_line cut line size pending blocks lines split =
    ap (λ texts. blocks_of (texts ++ lines)) (texts_twice cut (record { text = line; size = size } ∷ []))
    ∙ ap blocks_of (append_assoc (texts_of_lines cut) (line ∷ []) lines) ∙ split (line ∷ lines)

read_next : (before count : ℕ) (told now after : Option (List ℕ)) (line : List ℕ) (p q : Option Block) (xs ys : List Block) → ReadSoFar before count told now p xs
    → ServesTold now (Some line) after → ((behind : List Block) → ahead_with p line behind ≡ ys ++ blocks_behind q behind)
    → ReadSoFar before (count + 1) told after q (xs ++ ys)
read_next before count (Some bytes) (Some rest) (Some after) line p q xs ys far serves split = record {
  cut = far.cut ++ record { text = line; size = line_size rest } ∷ [];
  counted = rw (length-append far.cut (record { text = line; size = line_size rest } ∷ [])) (omega (arith, far.counted));
  served = one_served bytes far.cut rest line after far.served serves;
  split = λ lines. split_line far.cut line (line_size rest) p xs lines far.split ∙ ap (λ bs. xs ++ bs) (split (blocks_of lines)) ∙ sym (append_assoc xs ys (blocks_behind q (blocks_of lines)));
}
read_next before count (Some bytes) (Some rest) None line p q xs ys far serves split = absurd serves
read_next before count (Some bytes) None after line p q xs ys far serves split = absurd far
read_next before count None None after line p q xs ys far serves split = serves
read_next before count None (Some rest) after line p q xs ys far serves split = cc

-- what a line leaves is no more than what was kept, and one block
few_next : (before count : ℕ) (line : List ℕ) (p q : Option Block) (xs ys : List Block) → before + length xs + length (kept_blocks p) ≤ count
    → ahead_with p line [] ≡ ys ++ kept_blocks q → before + length (xs ++ ys) + length (kept_blocks q) ≤ count + 1
few_next before count line p q xs ys few split =
    omega (arith, few, length-append xs ys, few_ahead p line, ap (λ (bs : List Block). length bs) split, length-append ys (kept_blocks q))

pub so_far_next : (setting : Setting) (before count : ℕ) (told now after : Option (List ℕ)) (p q : Option Block) (w w1 w2 : Option (List ℕ)) (a b c : SessionState)
    → SoFar setting before count told now p w w1 a b → SessionSteps setting now after p q w1 w2 b c → SoFar setting before (count + 1) told after q w w2 a c
so_far_next setting before count told now after p q w w1 w2 a b c far one = record {
  blocks = far.blocks ++ one.goes.blocks;
  serves = serves_twice setting far.blocks one.goes.blocks w w1 w2 a b c far.serves one.goes.serves;
  read = read_next before count told now after one.line p q far.blocks one.goes.blocks far.read one.read one.goes.split;
  shut = one.goes.shut far.blocks (λ passed. far.shut);
  few = few_next before count one.line p q far.blocks one.goes.blocks far.few (one.goes.split []);
}

-- ---- how it ends

-- all blocks of the lines that were read
all_blocks : (cut : List CutLine) (pending : Option Block) (blocks : List Block)
    → ((more : List (List ℕ)) → blocks_of (texts_of_lines cut ++ more) ≡ blocks ++ blocks_behind pending (blocks_of more))
    → blocks_of (texts_of_lines cut) ≡ blocks ++ kept_blocks pending
all_blocks cut pending blocks split = ap blocks_of (sym (append-nil (texts_of_lines cut))) ∙ split []

-- just the closed ones were served
closed_kept : (pending : Option Block) (blocks : List Block) → AreClosed pending blocks → closed_blocks (blocks ++ kept_blocks pending) ≡ blocks
closed_kept (Some block) blocks takes = open_last blocks block takes
closed_kept None blocks shut = ap closed_blocks (append-nil blocks) ∙ shut

stopped_settled : (ended : Ended) (lines : List (List ℕ)) (rest : List ℕ) (blocks : List Block) → (ending_of ended ≡ Stopped) ⊎ (ended ≡ Memory)
    → closed_blocks (blocks_of lines) ≡ blocks → AreSettled (ending_of ended) lines rest blocks []
stopped_settled ended lines rest blocks (inl stopped) same = subst (λ k. AreSettled k lines rest blocks []) (sym stopped) (same, refl)
stopped_settled ended lines rest blocks (inr memory) same = subst (λ s. AreSettled (ending_of s) lines rest blocks []) (sym memory) (inl (same ∙ sym (append-nil blocks)))

stopped_begun : (ended : Ended) → (ending_of ended ≡ Stopped) ⊎ (ended ≡ Memory) → ending_of ended ≢ NotBegun
stopped_begun ended (inl stopped) = λ e. let never : Stopped ≡ NotBegun = sym stopped ∙ e in cc
stopped_begun ended (inr memory) = subst (λ s. ending_of s ≢ NotBegun) (sym memory) (λ e. cc)

-- what ends between two lines is no block that could not be served
stopped_cause : (ended : Ended) (setting : Setting) (last : SessionState) → (ending_of ended ≡ Stopped) ⊎ (ended ≡ Memory) → UndoneAs ended [] setting last
stopped_cause Done setting last why = tt
stopped_cause Down setting last why = tt
stopped_cause Read setting last why = tt
stopped_cause Write setting last why = tt
stopped_cause Memory setting last why = tt
stopped_cause (Limit n) setting last why = tt
stopped_cause (Words word rule) setting last why = tt
stopped_cause (BadLine line rule) setting last why = tt
stopped_cause (BadCross line rule) setting last why = tt
stopped_cause Spent setting last (inl stopped) = cc
stopped_cause Spent setting last (inr memory) = cc
stopped_cause (Image refusal) setting last (inl stopped) = cc
stopped_cause (Image refusal) setting last (inr memory) = cc

-- and nothing comes behind what was served
stopped_behind : (ended : Ended) (system : System) (a : SessionState) → (ending_of ended ≡ Stopped) ⊎ (ended ≡ Memory) → IsLeftBehind ended system [] a a []
stopped_behind Read system a why = (refl, refl)
stopped_behind Write system a why = inl (refl, refl)
stopped_behind Memory system a why = (refl, refl)
stopped_behind (Limit n) system a why = (refl, refl)
stopped_behind (Words word rule) system a why = (refl, refl)
stopped_behind (BadLine line rule) system a why = (refl, refl)
stopped_behind (BadCross line rule) system a why = (refl, refl)
stopped_behind Spent system a why = (refl, refl)
stopped_behind (Image refusal) system a why = (refl, refl)
stopped_behind Done system a (inl stopped) = cc
stopped_behind Done system a (inr memory) = cc
stopped_behind Down system a (inl stopped) = cc
stopped_behind Down system a (inr memory) = cc

broken_begun : (ended : Ended) → IsSessionBroken ended → ending_of ended ≢ NotBegun
broken_begun ended broken = broken_cases (λ s. ending_of s ≢ NotBegun) ended broken (λ e. cc) (λ e. cc) (λ e. cc) (λ refusal e. cc)

stopped_up : (ended : Ended) → (ending_of ended ≡ Stopped) ⊎ (ended ≡ Memory) → ended ≢ Down
stopped_up ended (inl stopped) = λ e. let never : Whole ≡ Stopped = sym (ap ending_of e) ∙ stopped in cc
stopped_up ended (inr memory) = λ e. let never : Memory ≡ Down = sym memory ∙ e in cc

broken_up : (ended : Ended) → IsSessionBroken ended → ended ≢ Down
broken_up ended broken = broken_cases (λ s. s ≢ Down) ended broken (λ e. cc) (λ e. cc) (λ e. cc) (λ refusal e. cc)

pub told_behind : (past : Bool) (rest : List ℕ) (told' : Option (List ℕ)) → IsTextBehind past (Some rest) told' → IsTextBack (Some rest) told'
told_behind true rest told' h = h
told_behind false rest told' h = back_same (Some rest) told' h

between_read : (before count : ℕ) (told now told' : Option (List ℕ)) (pending : Option Block) (w w' : Option (List ℕ)) (a b : SessionState) (blocks : List Block) (ended : Ended)
    → ReadSoFar before count told now pending blocks → AreClosed pending blocks → count ≤ 1000000
    → StopsBetween count ended now told' w w' a b → ReadsTold before told told' blocks [] ended
between_read before count (Some bytes) (Some rest) (Some left) pending w w' a b blocks ended far shut few stops = record {
  cut = far.cut;
  rest = rest;
  served = far.served;
  few = omega (arith, far.counted);
  settled = stopped_settled ended (texts_of_lines far.cut) rest blocks stops.stopped (ap closed_blocks (all_blocks far.cut pending blocks far.split) ∙ closed_kept pending blocks shut);
  limit = subst (λ n. IsAtLimit ended n rest) (sym far.counted) stops.limit;
  behind = stops.behind;
}
between_read before count (Some bytes) (Some rest) None pending w w' a b blocks ended far shut few stops = absurd (told_behind (may_pass ended) rest None stops.behind)
between_read before count (Some bytes) None told' pending w w' a b blocks ended far shut few stops = absurd far
between_read before count None now told' pending w w' a b blocks ended far shut few stops = untold (may_pass ended) now told' far stops.behind
  where
    untold : (past : Bool) (now told' : Option (List ℕ)) → now ≡ None → IsTextBehind past now told' → told' ≡ None
    untold true None told' none h = h
    untold true (Some rest) told' none h = cc
    untold false now told' none h = h ∙ none

whole_settled : (ended : Ended) (lines : List (List ℕ)) (rest : List ℕ) (pending : Option Block) (served blocks others : List Block) → rest ≡ []
    → blocks_of lines ≡ served ++ kept_blocks pending
    → ((ended ≡ Done) × (kept_blocks pending ≡ blocks) × (others ≡ [])) ⊎ (IsSessionBroken ended × (kept_blocks pending ≡ blocks ++ others))
    → AreSettled (ending_of ended) lines rest (served ++ blocks) others
whole_settled ended lines rest pending served blocks others none all (inl (done, kept, no_others)) =
    subst (λ s. AreSettled (ending_of s) lines rest (served ++ blocks) others) (sym done) (none, all ∙ ap (λ bs. served ++ bs) kept, no_others)
whole_settled ended lines rest pending served blocks others none all (inr (broken, kept)) =
    let front : blocks_of lines ≡ (served ++ blocks) ++ others = all ∙ ap (λ bs. served ++ bs) kept ∙ sym (append_assoc served blocks others) in
    broken_cases (λ s. AreSettled (ending_of s) lines rest (served ++ blocks) others) ended broken (inr (none, front)) (inr (none, front)) (inr (none, front)) (λ refusal. inr (none, front))

whole_cases : (P : Ended → Type 0) (ended : Ended) (pending : Option Block) (blocks others : List Block)
    → ((ended ≡ Done) × (kept_blocks pending ≡ blocks) × (others ≡ [])) ⊎ (IsSessionBroken ended × (kept_blocks pending ≡ blocks ++ others)) → P Done → P Write → P Memory → P Spent → ((refusal : ImageRefused) → P (Image refusal)) → P ended
whole_cases P ended pending blocks others (inl (done, kept, none)) first write memory spent image = subst P (sym done) first
whole_cases P ended pending blocks others (inr (broken, kept)) first write memory spent image = broken_cases P ended broken write memory spent image

whole_of : (setting : Setting) (P : Ended → Type 0) (ended : Ended) (pending : Option Block) (w w' : Option (List ℕ)) (a b : SessionState) → EndsWhole setting ended pending w w' a b → P Done → P Write → P Memory → P Spent → ((refusal : ImageRefused) → P (Image refusal)) → P ended
whole_of setting P ended pending w w' a b ends first write memory spent image = whole_cases P ended pending ends.blocks ends.others ends.settled first write memory spent image

whole_read : (setting : Setting) (before count : ℕ) (told now told' : Option (List ℕ)) (pending : Option Block) (w w' : Option (List ℕ)) (a b : SessionState) (served : List Block) (ended : Ended)
    → ReadSoFar before count told now pending served → count ≤ 1000000 → ServesTold now None told' → (ends : EndsWhole setting ended pending w w' a b)
    → ReadsTold before told told' (served ++ ends.blocks) ends.others ended
whole_read setting before count (Some bytes) (Some rest) (Some left) pending w w' a b served ended far few serves ends = record {
  cut = far.cut;
  rest = rest;
  served = far.served;
  few = omega (arith, far.counted);
  settled = whole_settled ended (texts_of_lines far.cut) rest pending served ends.blocks ends.others serves.0 (all_blocks far.cut pending served far.split) ends.settled;
  limit = whole_of setting (λ s. IsAtLimit s (before + length far.cut) rest) ended pending w w' a b ends tt tt tt tt (λ refusal. tt);
  behind =
      let same : Some left ≡ Some rest = ap Some (serves.1 ∙ sym serves.0) in
      whole_of setting (λ s. IsTextBehind (may_pass s) (Some rest) (Some left)) ended pending w w' a b ends same same same same (λ refusal. same);
}
whole_read setting before count (Some bytes) (Some rest) None pending w w' a b served ended far few serves ends = absurd serves
whole_read setting before count (Some bytes) None told' pending w w' a b served ended far few serves ends = absurd far
whole_read setting before count None None told' pending w w' a b served ended far few serves ends = serves
whole_read setting before count None (Some rest) told' pending w w' a b served ended far few serves ends = cc

broken_read : (setting : Setting) (before count : ℕ) (told now told' : Option (List ℕ)) (pending : Option Block) (line : List ℕ) (w w' : Option (List ℕ)) (a b : SessionState) (served : List Block) (ended : Ended)
    → ReadSoFar before count told now pending served → count < 1000000 → ServesTold now (Some line) told' → (ends : SessionEnds setting ended pending line w w' a b)
    → ReadsTold before told told' (served ++ ends.blocks) ends.others ended
broken_read setting before count (Some bytes) (Some rest) (Some left) pending line w w' a b served ended far below serves ends =
    let cut : List CutLine = far.cut ++ record { text = line; size = line_size rest } ∷ [] in
    let all : blocks_of (texts_of_lines cut) ≡ served ++ ahead_with pending line [] =
    ap blocks_of (sym (append-nil (texts_of_lines cut))) ∙ split_line far.cut line (line_size rest) pending served [] far.split in
    let front : closed_blocks (blocks_of (texts_of_lines cut)) ≡ (served ++ ends.blocks) ++ ends.others =
    ap closed_blocks all ∙ ends.front served ∙ sym (append_assoc served ends.blocks ends.others) in
    record {
      cut = cut;
      rest = left;
      served = one_served bytes far.cut rest line left far.served serves;
      few = rw (length-append far.cut (record { text = line; size = line_size rest } ∷ [])) (omega (arith, far.counted));
      settled = broken_cases (λ s. AreSettled (ending_of s) (texts_of_lines cut) left (served ++ ends.blocks) ends.others) ended ends.broken (inl front) (inl front) (inl front) (λ refusal. inl front);
      limit = broken_cases (λ s. IsAtLimit s (before + length cut) left) ended ends.broken tt tt tt (λ refusal. tt);
      behind = broken_cases (λ s. IsTextBehind (may_pass s) (Some left) (Some left)) ended ends.broken refl refl refl (λ refusal. refl);
    }
broken_read setting before count (Some bytes) (Some rest) None pending line w w' a b served ended far below serves ends = absurd serves
broken_read setting before count (Some bytes) None told' pending line w w' a b served ended far below serves ends = absurd far
broken_read setting before count None None told' pending line w w' a b served ended far below serves ends = serves
broken_read setting before count None (Some rest) told' pending line w w' a b served ended far below serves ends = cc

module _ (setting : Setting) (before count : ℕ) (told now told' : Option (List ℕ)) (pending : Option Block) (w w1 w2 : Option (List ℕ)) (a b c : SessionState) (ended : Ended) (far : SoFar setting before count told now pending w w1 a b) where
  whole_few : (blocks others : List Block) → ((ended ≡ Done) × (kept_blocks pending ≡ blocks) × (others ≡ [])) ⊎ (IsSessionBroken ended × (kept_blocks pending ≡ blocks ++ others))
      → length blocks ≤ length (kept_blocks pending)
  whole_few blocks others (inl (done, kept, none)) = omega (arith, ap (λ (bs : List Block). length bs) kept)
  whole_few blocks others (inr (broken, kept)) = omega (arith, ap (λ (bs : List Block). length bs) kept, length-append blocks others)

  broken_few : (line : List ℕ) (blocks others : List Block) → closed_blocks (ahead_with pending line []) ≡ blocks ++ others → length blocks ≤ length (kept_blocks pending) + 1
  broken_few line blocks others front =
      omega (arith, ap (λ (bs : List Block). length bs) front, length-append blocks others, few_closed (ahead_with pending line []), few_ahead pending line)

  driven_between : count ≤ 1000000 → StopsBetween count ended now told' w1 w2 b c → HasDriven setting before told told' w w2 a c ended
  driven_between few stops = record {
    blocks = far.blocks ++ [];
    others = [];
    begun = stopped_begun ended stops.stopped;
    not_down = stopped_up ended stops.stopped;
    few = omega (arith, few, far.few, length-append far.blocks []);
    stops = serves_stops setting ended far.blocks [] [] w w1 w2 a b c far.serves
        (subst (λ v. Stops setting ended [] [] w1 v b c) (sym stops.printed) (subst (λ d. Stops setting ended [] [] w1 w1 b d) (sym stops.same) (stops_none setting ended [] w1 b (stopped_cause ended setting b stops.stopped) (stopped_behind ended setting.system b stops.stopped))));
    read = subst (λ bs. ReadsTold before told told' bs [] ended) (sym (append-nil far.blocks))
        (between_read before count told now told' pending w1 w2 b c far.blocks ended far.read far.shut few stops);
  }

  driven_whole : count ≤ 1000000 → StopsWhole setting ended now told' pending w1 w2 b c → HasDriven setting before told told' w w2 a c ended
  driven_whole few stops = record {
    blocks = far.blocks ++ stops.ends.blocks;
    others = stops.ends.others;
    begun = whole_of setting (λ s. ending_of s ≢ NotBegun) ended pending w1 w2 b c stops.ends (λ e. cc) (λ e. cc) (λ e. cc) (λ e. cc) (λ refusal e. cc);
    not_down = whole_of setting (λ s. s ≢ Down) ended pending w1 w2 b c stops.ends (λ e. cc) (λ e. cc) (λ e. cc) (λ e. cc) (λ refusal e. cc);
    few = omega (arith, few, far.few, length-append far.blocks stops.ends.blocks, whole_few stops.ends.blocks stops.ends.others stops.ends.settled);
    stops = serves_stops setting ended far.blocks stops.ends.blocks stops.ends.others w w1 w2 a b c far.serves stops.ends.stops;
    read = whole_read setting before count told now told' pending w1 w2 b c far.blocks ended far.read few stops.read stops.ends;
  }

  driven_broken : count < 1000000 → StopsAt setting ended now told' pending w1 w2 b c → HasDriven setting before told told' w w2 a c ended
  driven_broken below stops = record {
    blocks = far.blocks ++ stops.ends.blocks;
    others = stops.ends.others;
    begun = broken_begun ended stops.ends.broken;
    not_down = broken_up ended stops.ends.broken;
    few = omega (arith, below, far.few, length-append far.blocks stops.ends.blocks, broken_few stops.line stops.ends.blocks stops.ends.others (stops.ends.front []));
    stops = serves_stops setting ended far.blocks stops.ends.blocks stops.ends.others w w1 w2 a b c far.serves stops.ends.stops;
    read = broken_read setting before count told now told' pending stops.line w1 w2 b c far.blocks ended far.read below stops.read stops.ends;
  }

  driven_last : count ≤ 1000000 → StopsLast setting count ended now told' pending w1 w2 b c → HasDriven setting before told told' w w2 a c ended
  driven_last few (inl between) = driven_between few between
  driven_last few (inr whole) = driven_whole few whole

  pub driven_here : count < 1000000 → StopsHere setting count ended now told' pending w1 w2 b c → HasDriven setting before told told' w w2 a c ended
  driven_here below (inl last) = driven_last (omega arith) last
  driven_here below (inr broken) = driven_broken below broken

  pub driven_end : count ≡ 1000000 → StopsLast setting 1000000 ended now told' pending w1 w2 b c → HasDriven setting before told told' w w2 a c ended
  driven_end last stops = driven_last (omega arith) (subst (λ n. StopsLast setting n ended now told' pending w1 w2 b c) (sym last) stops)
