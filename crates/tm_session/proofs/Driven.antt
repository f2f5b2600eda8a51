-- Blocks that were served, one after another.
use Rattle.std.proofs.Common.{◌≡◌, ℕ, ◌+◌, true, List, [], ◌∷◌, ◌++◌, length, take, sym, ◌∙◌, ap, subst, refl, arith, append_assoc, length-append, inl, inr}
use Rattle.std.proofs.lemmas.List.{append-nil}
use Rattle.std.proofs.Math.Seq.{take-append-add}
use Rattle.std.specs.Prelude.{Option, Some, None, MatchOption}
use Rattle.std.specs.Io.KnownBytes.{append_known}
use Rattle.model_system.specs.System.{System}
use Rattle.model_session.specs.declared.asked.Asked.{Asked}
use Rattle.model_session.specs.declared.asked.Asked.TheVariants.{Bad, BadCommand, Stopped, Call, Quiet, Power, PowerIn, Restart, ColdStart}
use Rattle.model_session.specs.Blocks.{Block}
use Rattle.model_session.specs.Lines.{asked_of}
use Rattle.model_session.specs.Text.{broken_text}
use Rattle.model_session.specs.SessionState.{Setting, SessionState, Standing}
use Rattle.model_session.specs.SessionState.Standing.{Up, Down}
use Rattle.model_session.specs.Session.{IsBlockServed, AreServed, IsBegunBy, IsSessionBegun}
use Rattle.model_session.proofs.Sessions.{served_on}
use Rattle.tm_edge.specs.Fault.{AppendsFront}
use Rattle.tm_session.specs.declared.outcome.Ended.{Ended}
use Rattle.tm_session.specs.declared.outcome.Ended.TheVariants.{Done, Words, BadLine, BadCross, Down as DownAtEnd, Read, Write, Image, Memory, Limit, Spent}
use Rattle.session_lives.specs.declared.called.Served.{Served}
use Rattle.session_lives.specs.declared.called.Served.TheVariants.{Printed, Broke, Undone as NotServed}
use Rattle.session_lives.specs.declared.called.Undone.{Undone}
use Rattle.session_lives.specs.declared.called.Undone.TheVariants.{Memory as NoMemory, Spent as SpentCounter, Image as BadImage}
use Rattle.session_lives.specs.Openings.{UndoneBy, IsServedSo}
use Rattle.tm_session.specs.Outcome.{HasWrittenText, is_undone, IsLeftBehind, UndoneAs}
use Rattle.tm_session.specs.DrivenSession.{session_ended_by, IsTextWritten, IsBlockFinished, IsSessionBroken, ServesBlocks, Stops, FailsAt}

-- ---- what was written

-- nothing was written
pub nothing_written : (written : Option (List ℕ)) → written ≡ append_known written []
nothing_written (Some bytes) = ap Some (sym (append-nil bytes))
nothing_written None = refl

pub append_twice : (old : Option (List ℕ)) (a b : List ℕ) → append_known (append_known old a) b ≡ append_known old (a ++ b)
append_twice (Some bytes) a b = ap Some (append_assoc bytes a b)
append_twice None a b = refl

-- a front of a text behind another is a front of both together
front_behind : (old mid new : Option (List ℕ)) (first text : List ℕ) → mid ≡ append_known old first → AppendsFront mid new text → AppendsFront old new (first ++ text)
front_behind old mid new first text was (k, within, front) = (
  length first + k,
  rw (length-append first text) (omega arith),
  front ∙ ap (λ w. append_known w (take k text)) was ∙ append_twice old first (take k text) ∙ ap (append_known old) (sym (take-append-add first text k)),
)

written_behind : (ended : Ended) (old mid new : Option (List ℕ)) (first text : List ℕ) → mid ≡ append_known old first → HasWrittenText mid new text ended → HasWrittenText old new (first ++ text) ended
written_behind Write old mid new first text was front = front_behind old mid new first text was front
written_behind Done old mid new first text was all = all ∙ ap (λ w. append_known w text) was ∙ append_twice old first text
written_behind DownAtEnd old mid new first text was all = all ∙ ap (λ w. append_known w text) was ∙ append_twice old first text
written_behind (Limit n) old mid new first text was all = all ∙ ap (λ w. append_known w text) was ∙ append_twice old first text
written_behind Spent old mid new first text was all = all ∙ ap (λ w. append_known w text) was ∙ append_twice old first text
written_behind (Image refusal) old mid new first text was all = all ∙ ap (λ w. append_known w text) was ∙ append_twice old first text
written_behind (Words word rule) old mid new first text was all = all ∙ ap (λ w. append_known w text) was ∙ append_twice old first text
written_behind (BadLine line rule) old mid new first text was all = all ∙ ap (λ w. append_known w text) was ∙ append_twice old first text
written_behind (BadCross line rule) old mid new first text was all = all ∙ ap (λ w. append_known w text) was ∙ append_twice old first text
written_behind Read old mid new first text was all = all ∙ ap (λ w. append_known w text) was ∙ append_twice old first text
written_behind Memory old mid new first text was all = all ∙ ap (λ w. append_known w text) was ∙ append_twice old first text

all_written : (ended : Ended) (old new : Option (List ℕ)) → new ≡ old → HasWrittenText old new [] ended
all_written Write old new same = (0, omega arith, same ∙ nothing_written old)
all_written Done old new same = same ∙ nothing_written old
all_written DownAtEnd old new same = same ∙ nothing_written old
all_written (Limit n) old new same = same ∙ nothing_written old
all_written Spent old new same = same ∙ nothing_written old
all_written (Image refusal) old new same = same ∙ nothing_written old
all_written (Words word rule) old new same = same ∙ nothing_written old
all_written (BadLine line rule) old new same = same ∙ nothing_written old
all_written (BadCross line rule) old new same = same ∙ nothing_written old
all_written Read old new same = same ∙ nothing_written old
all_written Memory old new same = same ∙ nothing_written old

-- ---- one block

served_one : (setting : Setting) (block : Block) (old new : SessionState) (text : List ℕ) → IsBlockServed (asked_of setting.system block) setting old new text
    → AreServed setting (block ∷ []) old new text
served_one setting block old new text here =
    record { mid = new; first = text; later = []; here = here; printed = sym (append-nil text); on = (refl, refl) }

undone_ended : (undone : Undone) → is_undone (session_ended_by undone) ≡ true
undone_ended NoMemory = refl
undone_ended SpentCounter = refl
undone_ended (BadImage refusal) = refl

undone_behind : (undone : Undone) (system : System) (others : List Block) (old new : SessionState) → IsSessionBegun system others old new → IsLeftBehind (session_ended_by undone) system others old new []
undone_behind NoMemory system others old new begun = (begun, refl)
undone_behind SpentCounter system others old new begun = (begun, refl)
undone_behind (BadImage refusal) system others old new begun = (begun, refl)

undone_as : (undone : Undone) (block : Block) (others : List Block) (setting : Setting) (last : SessionState) → UndoneBy undone (asked_of setting.system block) setting last
    → UndoneAs (session_ended_by undone) (block ∷ others) setting last
undone_as NoMemory block others setting last cause = tt
undone_as SpentCounter block others setting last cause = cause
undone_as (BadImage refusal) block others setting last cause = cause

pub undone_broken : (undone : Undone) → IsSessionBroken (session_ended_by undone)
undone_broken undone = inr (undone_ended undone)

module _ (setting : Setting) (block : Block) (w w' : Option (List ℕ)) (a b : SessionState) where
  -- whether the text of a block that was served could be written
  wrote : (text : List ℕ) (ended : Option Ended) → IsBlockServed (asked_of setting.system block) setting a b text → IsTextWritten w w' text ended
      → MatchOption ended (ServesBlocks setting (block ∷ []) w w' a b) (λ ended. FailsAt setting ended block w w' a b)
  wrote text None here printed = record { text = text; served = served_one setting block a b text here; printed = printed }
  wrote text (Some ended) here (writing, front) = inl (record {
    writing = writing;
    stops = λ others. record {
      mid = b;
      text = text;
      served = served_one setting block a b text here;
      end_text = [];
      behind = inl (refl, refl);
      undone = tt;
      printed = subst (AppendsFront w w') (sym (append-nil text)) front;
    };
  })

  undone : (why : Undone) (ended : Option Ended) → IsBegunBy (asked_of setting.system block) setting.system a a.standing b → UndoneBy why (asked_of setting.system block) setting b → w' ≡ w → ended ≡ Some (session_ended_by why)
      → MatchOption ended (ServesBlocks setting (block ∷ []) w w' a b) (λ ended. FailsAt setting ended block w w' a b)
  undone why ended begun cause same is =
      subst (λ e. MatchOption e (ServesBlocks setting (block ∷ []) w w' a b) (λ ended. FailsAt setting ended block w w' a b)) (sym is)
      (inr (record {
        undone = undone_ended why;
        stops = λ others. record {
          mid = a;
          text = [];
          served = (refl, refl);
          end_text = [];
          behind = undone_behind why setting.system (block ∷ others) a b begun;
          undone = undone_as why block others setting b cause;
          printed = all_written (session_ended_by why) w w' same;
        };
      }))

  pub whole_block : (served : Served) (text : List ℕ) (ended : Option Ended) → IsServedSo (asked_of setting.system block) text served setting a b → IsBlockFinished text served w w' ended
      → MatchOption ended (ServesBlocks setting (block ∷ []) w w' a b) (λ ended. FailsAt setting ended block w w' a b)
  whole_block Printed text ended here finished = wrote text ended here finished
  whole_block Broke text ended here finished = wrote broken_text ended here finished
  whole_block (NotServed why) text ended here finished = undone why ended here.0 here.1 finished.0 finished.1

-- ---- several blocks

pub serves_none : (setting : Setting) (written : Option (List ℕ)) (a : SessionState) → ServesBlocks setting [] written written a a
serves_none setting written a = record { text = []; served = (refl, refl); printed = nothing_written written }

pub serves_twice : (setting : Setting) (xs ys : List Block) (w w1 w2 : Option (List ℕ)) (a b c : SessionState)
    → ServesBlocks setting xs w w1 a b → ServesBlocks setting ys w1 w2 b c → ServesBlocks setting (xs ++ ys) w w2 a c
serves_twice setting xs ys w w1 w2 a b c first second = record {
  text = first.text ++ second.text;
  served = served_on setting xs ys a b c first.text second.text first.served second.served;
  printed = second.printed ∙ ap (λ w. append_known w second.text) first.printed ∙ append_twice w first.text second.text;
}

pub serves_stops : (setting : Setting) (ended : Ended) (xs ys others : List Block) (w w1 w2 : Option (List ℕ)) (a b c : SessionState)
    → ServesBlocks setting xs w w1 a b → Stops setting ended ys others w1 w2 b c → Stops setting ended (xs ++ ys) others w w2 a c
serves_stops setting ended xs ys others w w1 w2 a b c first second = record {
  mid = second.mid;
  text = first.text ++ second.text;
  served = served_on setting xs ys a b second.mid first.text second.text first.served second.served;
  end_text = second.end_text;
  behind = second.behind;
  undone = second.undone;
  printed = subst (λ t. HasWrittenText w w2 t ended) (sym (append_assoc first.text second.text second.end_text))
      (written_behind ended w w1 w2 first.text (second.text ++ second.end_text) first.printed second.printed);
}

-- a session that ends without a further block
nothing_up : (asked : Asked) (system : System) (a : SessionState) (standing : Standing) → IsBegunBy asked system a standing a
nothing_up (Bad rule) system a standing = refl
nothing_up (BadCommand rule) system a standing = refl
nothing_up (Stopped terminal number reason) system a standing = refl
nothing_up (Call call) system a standing = refl
nothing_up (Quiet most) system a (Up life) = inl refl
nothing_up (Quiet most) system a (Down outage) = refl
nothing_up (Power pick) system a standing = refl
nothing_up (PowerIn writes pick) system a standing = refl
nothing_up Restart system a standing = refl
nothing_up ColdStart system a standing = refl

pub none_begun : (system : System) (others : List Block) (a : SessionState) → IsSessionBegun system others a a
none_begun system [] a = refl
none_begun system (block ∷ others) a = nothing_up (asked_of system block) system a a.standing

pub stops_none : (setting : Setting) (ended : Ended) (others : List Block) (written : Option (List ℕ)) (a : SessionState) → UndoneAs ended others setting a → IsLeftBehind ended setting.system others a a []
    → Stops setting ended [] others written written a a
stops_none setting ended others written a cause behind = record {
  mid = a;
  text = [];
  served = (refl, refl);
  end_text = [];
  behind = behind;
  undone = cause;
  printed = all_written ended written written refl;
}
