-- The definition, read line by line.
use Rattle.std.proofs.Common.{◌≡◌, ℕ, suc, ◌+◌, ◌-◌, ◌≤◌, Bool, true, false, ◌&&◌, List, [], ◌∷◌, ◌++◌, length, map, sym, ◌∙◌, ap, subst, refl, arith, append_assoc, length-append, append-nil, inl, inr, ◌⊎◌}
use Rattle.std.specs.Prelude.{Option, Some, None, IfSome}
use Rattle.std.specs.List.{list_all}
use Rattle.std.proofs.lemmas.List.Folds.{list_all-append}
use Rattle.model_session.specs.Blocks.{Block, blocks_of}
use Rattle.tm_edge.specs.Lines.{CutLine, HasServed, IsLineTooLong, ServesTold, unread, cut_lines, lines_of, line_size, line_text, behind_line, is_short_line}
use Rattle.tm_edge.proofs.ServedSoFar.{none_served, one_served, long_first}
use Rattle.tm_session.specs.declared.outcome.Ended.{Ended}
use Rattle.tm_session.specs.declared.outcome.Ended.TheVariants.{Done, Words, BadLine, BadCross, Down, Read, Write, Image, Memory, Limit, Spent}
use Rattle.std.specs.Prelude.{◌||◌, nat_lt}
use Rattle.std.proofs.lemmas.Bool.Decides.{nat_tests}
use Rattle.sysdef_text.specs.DefinitionEnd.{is_end_line, ends_definition, stays_inside, definition_from, behind_from, definition_lines, lines_behind}
use Rattle.tm_session.specs.Outcome.{texts_of_lines, ending_of, AreSettled, IsAtLimit}
use Rattle.tm_session.specs.ReadSources.{HasRead, HasReadTold}
use Rattle.tm_session.specs.DrivenSession.{may_pass, ReadsSession, ReadsTold}
use Rattle.tm_session.specs.UnreadLine.{IsUnread}
use Rattle.tm_session.specs.ReadDefinition.{ReadsLines, ReadsDefinition, IsCutShort, StopsBefore, ReadsSome, DefinitionSoFar}
use Rattle.tm_session.proofs.Reading.{told_behind, texts_twice}
use Rattle.tm_session.proofs.Steps.{choose, other}

texts_line : (bytes rest line : List ℕ) (size : ℕ) → cut_lines bytes ≡ record { text = line; size = size } ∷ cut_lines rest → lines_of bytes ≡ line ∷ lines_of rest
texts_line bytes rest line size cut = ap (map (λ (l : CutLine). l.text)) cut

pub reading_start : (told : Option (List ℕ)) → DefinitionSoFar told [] told false 262144
reading_start (Some bytes) = record { cut = []; lines = refl; served = none_served bytes; definition = refl; session = λ more. refl }
reading_start None = refl

one_cut : (cut : List CutLine) (texts : List (List ℕ)) (line : List ℕ) (size : ℕ) → texts_of_lines cut ≡ texts
    → texts_of_lines (cut ++ record { text = line; size = size } ∷ []) ≡ texts ++ line ∷ []
one_cut cut texts line size same = texts_twice cut (record { text = line; size = size } ∷ []) ∙ ap (λ ts. ts ++ line ∷ []) same

pub reading_next : (told now after : Option (List ℕ)) (texts : List (List ℕ)) (line : List ℕ) (inside : Bool) (room : ℕ) → DefinitionSoFar told texts now inside room
    → ServesTold now (Some line) after → ends_definition inside room line ≡ false
    → DefinitionSoFar told (texts ++ line ∷ []) after (stays_inside inside line) (room - (length line + 1))
reading_next (Some bytes) (Some rest) (Some behind) texts line inside room far serves goes =
    let cut : lines_of rest ≡ line ∷ lines_of behind = texts_line rest behind line (line_size rest) serves.lines in
    record {
      cut = far.cut ++ record { text = line; size = line_size rest } ∷ [];
      lines = one_cut far.cut texts line (line_size rest) far.lines;
      served = one_served bytes far.cut rest line behind far.served serves;
      definition = far.definition ∙ ap (λ ls. texts ++ definition_from inside room ls) cut
          ∙ ap (λ ls. texts ++ line ∷ ls) (other (ends_definition inside room line) [] (definition_from (stays_inside inside line) (room - (length line + 1)) (lines_of behind)) goes)
          ∙ sym (append_assoc texts (line ∷ []) (definition_from (stays_inside inside line) (room - (length line + 1)) (lines_of behind)));
      session = λ more. ap lines_behind (append_assoc texts (line ∷ []) more) ∙ far.session (line ∷ more)
          ∙ other (ends_definition inside room line) more (behind_from (stays_inside inside line) (room - (length line + 1)) more) goes;
    }
reading_next (Some bytes) (Some rest) None texts line inside room far serves goes = absurd serves
reading_next (Some bytes) None after texts line inside room far serves goes = absurd far
reading_next None None after texts line inside room far serves goes = serves
reading_next None (Some rest) after texts line inside room far serves goes = cc

pub reading_ends : (told now after : Option (List ℕ)) (texts : List (List ℕ)) (line : List ℕ) (inside : Bool) (room : ℕ) → DefinitionSoFar told texts now inside room
    → ServesTold now (Some line) after → ends_definition inside room line ≡ true → ReadsDefinition told (texts ++ line ∷ []) after
reading_ends (Some bytes) (Some rest) (Some behind) texts line inside room far serves ends =
    let cut : lines_of rest ≡ line ∷ lines_of behind = texts_line rest behind line (line_size rest) serves.lines in
    record {
      cut = far.cut ++ record { text = line; size = line_size rest } ∷ [];
      lines = one_cut far.cut texts line (line_size rest) far.lines;
      served = one_served bytes far.cut rest line behind far.served serves;
      definition = far.definition ∙ ap (λ ls. texts ++ definition_from inside room ls) cut
          ∙ ap (λ ls. texts ++ line ∷ ls) (choose (ends_definition inside room line) [] (definition_from (stays_inside inside line) (room - (length line + 1)) (lines_of behind)) ends);
      session = inl (λ more. ap lines_behind (append_assoc texts (line ∷ []) more) ∙ far.session (line ∷ more)
          ∙ choose (ends_definition inside room line) more (behind_from (stays_inside inside line) (room - (length line + 1)) more) ends);
    }
reading_ends (Some bytes) (Some rest) None texts line inside room far serves ends = absurd serves
reading_ends (Some bytes) None after texts line inside room far serves ends = absurd far
reading_ends None None after texts line inside room far serves ends = serves
reading_ends None (Some rest) after texts line inside room far serves ends = cc

-- a line that doesn't end the definition has room
later_one : (a b : Bool) → (a || b) ≡ false → b ≡ false
later_one true b e = cc
later_one false b e = e

pub room_for : (inside : Bool) (room : ℕ) (line : List ℕ) → ends_definition inside room line ≡ false → length line + 1 ≤ room
unfolding ends_definition
room_for inside room line goes =
    let within : nat_lt room (length line + 1) ≡ false = later_one (is_end_line inside line) (nat_lt room (length line + 1)) goes in
    grind (arith, nat_tests)

cut_none : cut_lines [] ≡ []
unfolding cut_lines
cut_none = refl

no_lines : (bytes : List ℕ) → bytes ≡ [] → lines_of bytes ≡ []
no_lines bytes none = ap lines_of none ∙ ap (map (λ (l : CutLine). l.text)) cut_none

-- the source ends within the definition
pub reading_none : (told now after : Option (List ℕ)) (texts : List (List ℕ)) (inside : Bool) (room : ℕ) → DefinitionSoFar told texts now inside room
    → ServesTold now None after → ReadsDefinition told texts after
reading_none (Some bytes) (Some rest) (Some behind) texts inside room far serves =
    record {
      cut = far.cut;
      lines = far.lines;
      served = subst (HasServed bytes far.cut) (serves.0 ∙ sym serves.1) far.served;
      definition = far.definition ∙ ap (λ ls. texts ++ definition_from inside room ls) (no_lines rest serves.0) ∙ append-nil texts;
      session = inr (serves.1, ap lines_behind (sym (append-nil texts)) ∙ far.session []);
    }
reading_none (Some bytes) (Some rest) None texts inside room far serves = absurd serves
reading_none (Some bytes) None after texts inside room far serves = absurd far
reading_none None None after texts inside room far serves = serves
reading_none None (Some rest) after texts inside room far serves = cc

length_texts : (cut : List CutLine) → length (texts_of_lines cut) ≡ length cut
length_texts [] = refl
length_texts (line ∷ cut) = ap suc (length_texts cut)

cut_short : (bytes rest : List ℕ) (texts : List (List ℕ)) (inside : Bool) (room : ℕ) → ReadsSome bytes texts rest inside room → IsLineTooLong rest → IsCutShort bytes
cut_short bytes rest texts inside room far long =
    let next : lines_of rest ≡ line_text rest ∷ lines_of (behind_line rest) = texts_line rest (behind_line rest) (line_text rest) (line_size rest) (long_first rest long) in
    let all : length (definition_lines (lines_of bytes)) ≡ length texts + length (definition_from inside room (lines_of rest)) =
    ap length far.definition ∙ length-append texts (definition_from inside room (lines_of rest)) in
    let more : 1 ≤ length (definition_from inside room (lines_of rest)) = rw next (omega arith) in
    record { cut = far.cut; rest = rest; served = far.served; within = omega (arith, sym (ap length far.lines) ∙ length_texts far.cut); long = long }

long_limit : (n : ℕ) (told now : Option (List ℕ)) (texts : List (List ℕ)) (inside : Bool) (room : ℕ) → DefinitionSoFar told texts now inside room → n ≡ 4097 → IfSome now IsLineTooLong
    → StopsBefore (Limit n) told
long_limit n (Some bytes) (Some rest) texts inside room far number long = (number, cut_short bytes rest texts inside room far long)
long_limit n (Some bytes) None texts inside room far number long = absurd far
long_limit n None now texts inside room far number long = (number, tt)

-- it wasn't read to its end
pub reading_stops : (ended : Ended) (told now : Option (List ℕ)) (texts : List (List ℕ)) (inside : Bool) (room : ℕ) (held : List ℕ) (r r' : ℕ) → DefinitionSoFar told texts now inside room
    → IsUnread ended now held r r' → StopsBefore ended told
reading_stops Read told now texts inside room held r r' far h = tt
reading_stops Memory told now texts inside room held r r' far h = tt
reading_stops (Limit n) told now texts inside room held r r' far h = long_limit n told now texts inside room far h.0 h.1
reading_stops Done told now texts inside room held r r' far h = absurd h
reading_stops Write told now texts inside room held r r' far h = absurd h
reading_stops (Words word rule) told now texts inside room held r r' far h = absurd h
reading_stops (BadLine line rule) told now texts inside room held r r' far h = absurd h
reading_stops (BadCross line rule) told now texts inside room held r r' far h = absurd h
reading_stops Down told now texts inside room held r r' far h = absurd h
reading_stops Spent told now texts inside room held r r' far h = absurd h
reading_stops (Image refusal) told now texts inside room held r r' far h = absurd h

-- ---- a definition and a session

short_both : (p : CutLine → Bool) (a b : List CutLine) → list_all p a ≡ true → list_all p b ≡ true → list_all p (a ++ b) ≡ true
short_both p a b first second = list_all-append p a b ∙ ap (λ t. t && list_all p b) first ∙ second

served_twice : (bytes mid rest : List ℕ) (a b : List CutLine) → HasServed bytes a mid → HasServed mid b rest → HasServed bytes (a ++ b) rest
served_twice bytes mid rest a b first second = record {
  short = short_both is_short_line a b first.short second.short;
  cut = first.cut ∙ ap (λ ls. a ++ ls) second.cut ∙ sym (append_assoc a b (cut_lines rest));
}

-- nothing is cut from no bytes
none_cut : (behind rest : List ℕ) (cut : List CutLine) → behind ≡ [] → HasServed behind cut rest → cut ≡ []
none_cut behind rest [] none served = refl
none_cut behind rest (line ∷ cut) none served =
    let empty : cut_lines behind ≡ [] = ap cut_lines none ∙ cut_none in
    let never : line ∷ (cut ++ cut_lines rest) ≡ [] = sym served.cut ∙ empty in
    cc

-- the session's lines are those that were read behind the definition
session_read : (texts : List (List ℕ)) (behind rest : List ℕ) (first second : List CutLine) → texts_of_lines first ≡ texts → HasServed behind second rest
    → ((more : List (List ℕ)) → lines_behind (texts ++ more) ≡ more) ⊎ ((behind ≡ []) × (lines_behind texts ≡ []))
    → lines_behind (texts_of_lines (first ++ second)) ≡ texts_of_lines second
session_read texts behind rest first second same served (inl all) =
    ap lines_behind (texts_twice first second ∙ ap (λ ts. ts ++ texts_of_lines second) same) ∙ all (texts_of_lines second)
session_read texts behind rest first second same served (inr (none, nothing)) =
    let no_cut : second ≡ [] = none_cut behind rest second none served in
    ap (λ more. lines_behind (texts_of_lines (first ++ more))) no_cut ∙ ap (λ cut. lines_behind (texts_of_lines cut)) (append-nil first) ∙ ap lines_behind same ∙ nothing
    ∙ ap texts_of_lines (sym no_cut)

read_all : (ended : Ended) (bytes behind held left : List ℕ) (texts : List (List ℕ)) (blocks others : List Block)
    → ReadsLines bytes texts behind → ReadsSession (length texts) behind (held ++ left) blocks others ended → HasRead bytes left blocks others ended
read_all ended bytes behind held left texts blocks others first second =
    let back = told_behind (may_pass ended) second.rest (Some (held ++ left)) second.behind in
    let front : List ℕ = back.0 in
    let same : second.rest ≡ (front ++ held) ++ left = back.1 ∙ sym (append_assoc front held left) in
    let served : HasServed bytes (first.cut ++ second.cut) second.rest = served_twice bytes behind second.rest first.cut second.cut first.served second.served in
    let count : length (first.cut ++ second.cut) ≡ length texts + length second.cut =
    length-append first.cut second.cut ∙ ap (λ n. n + length second.cut) (sym (length_texts first.cut) ∙ ap length first.lines) in
    let lines : lines_behind (texts_of_lines (first.cut ++ second.cut)) ≡ texts_of_lines second.cut = session_read texts behind second.rest first.cut second.cut first.lines second.served first.session in
    record {
      cut = first.cut ++ second.cut;
      held = front ++ held;
      served = subst (HasServed bytes (first.cut ++ second.cut)) same served;
      few = rw count second.few;
      settled = subst (λ rest. AreSettled (ending_of ended) (lines_behind (texts_of_lines (first.cut ++ second.cut))) rest blocks others) same
          (subst (λ ls. AreSettled (ending_of ended) ls second.rest blocks others) (sym lines) second.settled);
      limit = subst (λ rest. IsAtLimit ended (length (first.cut ++ second.cut)) rest) same (subst (λ n. IsAtLimit ended n second.rest) (sym count) second.limit);
    }

pub whole_session : (ended : Ended) (told mid : Option (List ℕ)) (held : List ℕ) (left : Option (List ℕ)) (texts : List (List ℕ)) (blocks others : List Block)
    → ReadsDefinition told texts mid → ReadsTold (length texts) mid (unread held left) blocks others ended → HasReadTold told left blocks others ended
whole_session ended (Some bytes) (Some behind) held (Some left) texts blocks others first second = read_all ended bytes behind held left texts blocks others first second
whole_session ended (Some bytes) (Some behind) held None texts blocks others first second = absurd second
whole_session ended (Some bytes) None held left texts blocks others first second = absurd first
whole_session ended None (Some behind) held left texts blocks others first second = cc
whole_session ended None None held (Some left) texts blocks others first second = cc
whole_session ended None None held None texts blocks others first second = refl

-- at the end of the source all of its blocks were served
pub all_served : (bytes left : List ℕ) (blocks others : List Block) → HasRead bytes left blocks others Done → blocks_of (lines_behind (lines_of bytes)) ≡ blocks
all_served bytes left blocks others read =
    let lines : lines_of bytes ≡ texts_of_lines read.cut =
    ap (map (λ (l : CutLine). l.text)) read.served.cut ∙ texts_twice read.cut (cut_lines (read.held ++ left))
    ∙ ap (λ (ts : List (List ℕ)). texts_of_lines read.cut ++ ts) (no_lines (read.held ++ left) read.settled.0) ∙ append-nil (texts_of_lines read.cut) in
    ap (λ (ls : List (List ℕ)). blocks_of (lines_behind ls)) lines ∙ read.settled.1
