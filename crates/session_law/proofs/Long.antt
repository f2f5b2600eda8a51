-- An input of more than 17 segments is refused before its texts are looked at behind the first.
use Rattle.std.proofs.Common.{◌≡◌, ◌∙◌, refl, sym, ap, subst, ℕ, ◌+◌, ◌-◌, ◌<◌, ◌≤◌, Bool, true, false, List, [], ◌∷◌, ◌++◌, length, take, replicate, Option, Some, None, nat_lt, arith}
use Rattle.std.specs.Prelude.{⊤, Result, Ok, Err, nat_le, ◌==◌, if◌then◌else◌}
use Rattle.std.specs.Option.{is_some, option_and_then, option_map_or, option_or, unwrap_or}
use Rattle.std.proofs.lemmas.List.{append-nil, length-append, length-replicate, length-take-le, take_all}
use Rattle.std.proofs.lemmas.Bool.Decides.{nat_tests}
use Rattle.model_messages.specs.declared.conversation.Conversation.{Conversation}
use Rattle.model_messages.specs.ConversationInput.{busy_id}
use Rattle.model_messages.specs.Terminals.{conversation_at}
use Rattle.model_system.specs.declared.code.Code.{Code}
use Rattle.model_system.specs.declared.code.SegmentKind.{SegmentKind}
use Rattle.model_system.specs.declared.code.SegmentKind.TheVariants.{Multiple, Single}
use Rattle.model_system.specs.declared.code_state.CodeState.{CodeState}
use Rattle.model_system.specs.Codes.{code_at}
use Rattle.model_system.specs.System.{System}
use Rattle.model_machine.specs.declared.entry.ControlCall.TheVariants.{Input}
use Rattle.model_machine.specs.declared.entry.Taken.{Taken}
use Rattle.model_machine.specs.declared.entry.Taken.TheVariants.{New, Already}
use Rattle.model_machine.specs.declared.entry.InputRefused.{InputRefused}
use Rattle.model_machine.specs.declared.entry.InputRefused.TheVariants.{Terminal as NoTerminal, StoppedTerminal, Expected, Code as NoCode, StoppedCode, SegmentsOver}
use Rattle.model_machine.specs.declared.lasting.TerminalState.{TerminalState}
use Rattle.model_machine.specs.Machine.{Moment, terminal_at}
use Rattle.model_machine.specs.CommandAnswers.{state_now}
use Rattle.model_machine.specs.LastingSteps.{KeptInput, code_word, kept_alone, kept_by, kept_by_code, kept_first, kept_input, without_word}
use Rattle.model_machine.specs.MachineCalls.{Refusal, accepted_step, busy_by, busy_conversation, by_count, by_number, input_answer, most_segments, no_room, stopped_by, stopped_code, lasting_step, stopped_terminal, unknown_terminal, wrong_number}
use Rattle.model_session.specs.BoundedBlocks.{first_texts}
use Rattle.session_law.specs.LongInputs.{IsAnsweredAlike}

-- ---- the input as it is kept

-- it goes to the same code, and has as many segments
record KeptAlike (a b : KeptInput) : Type 0 where
  pub code : a.code ≡ b.code
  pub count : length a.segments ≡ length b.segments

as_many : (texts : List (List ℕ)) → length (without_word texts) ≡ length texts
as_many [] = refl
as_many (text ∷ texts) = refl

alike_by_code : (found : Option Code) (a b : List (List ℕ)) → code_word a ≡ code_word b → length a ≡ length b → KeptAlike (kept_by_code found a) (kept_by_code found b)
alike_by_code None a b word count = record { code = word; count = count }
alike_by_code (Some code) a b word count = by (code.transaction.scratch_pad == 0) where
  by : (none : Bool) → KeptAlike (if none then kept_alone a else kept_first code.transaction.scratch_pad a) (if none then kept_alone b else kept_first code.transaction.scratch_pad b)
  by true = record { code = word; count = count }
  by false = record { code = word; count = as_many a ∙ count ∙ sym (as_many b) }

alike_by : (system : System) (c : Option Conversation) (a b : List (List ℕ)) → code_word a ≡ code_word b → length a ≡ length b → KeptAlike (kept_by system c a) (kept_by system c b)
alike_by system (Some c) a b word count = record { code = refl; count = count }
alike_by system None a b word count =
    subst (λ w. KeptAlike (kept_by_code (code_at system.codes w) a) (kept_by_code (code_at system.codes (code_word b)) b)) (sym word)
    (alike_by_code (code_at system.codes (code_word b)) a b word count)

-- ---- its refusals

-- the last four of them, of which the last is looked at where the code takes so many segments
abbrev last_by : Option Code → Refusal → ℕ → Refusal → Refusal
last_by found stopped count room =
    option_or (if is_some found then None else Some (Err NoCode))
    (option_or stopped (option_or (option_and_then (λ (code : Code). by_count (most_segments code.transaction.segment_kind) count) found) (option_or room None)))

-- it refuses, with anything but that the input is new
abbrev IsRefusal : Result Taken InputRefused → Type 0
IsRefusal answer = (terminal : List ℕ) (number : ℕ) (kept : KeptInput) → accepted_step terminal number kept answer ≡ None

abbrev MayRefuse : Refusal → Type 0
MayRefuse None = ⊤
MayRefuse (Some answer) = IsRefusal answer

abbrev Refuses : Refusal → Type 0
Refuses None = ⊥
Refuses (Some answer) = IsRefusal answer

or_may : (a b : Refusal) → MayRefuse a → MayRefuse b → MayRefuse (option_or a b)
or_may None b m n = n
or_may (Some answer) b m n = m

or_refuses : (a b : Refusal) → MayRefuse a → Refuses b → Refuses (option_or a b)
or_refuses None b m r = r
or_refuses (Some answer) b m r = m

refuses_first : (a b : Refusal) → Refuses a → Refuses (option_or a b)
refuses_first None b r = absurd r
refuses_first (Some answer) b r = r

over_any : (kind : SegmentKind) (count : ℕ) → 16 < count → nat_lt (most_segments kind) count ≡ true
over_any Multiple count over = grind (arith, nat_tests, over)
over_any Single count over = grind (arith, nat_tests, over)

-- too many for any code
too_many : (kind : SegmentKind) (count : ℕ) → 16 < count → by_count (most_segments kind) count ≡ Some (Err (SegmentsOver count (most_segments kind)))
too_many kind count over = ap (λ (b : Bool). if b then Some (Err (SegmentsOver count (most_segments kind))) else None) (over_any kind count over)

last_refuses : (found : Option Code) (stopped : Refusal) (count : ℕ) (room : Refusal) → 16 < count → MayRefuse stopped → Refuses (last_by found stopped count room)
last_refuses None stopped count room over may = λ terminal number kept. refl
last_refuses (Some code) stopped count room over may =
    or_refuses stopped (option_or (by_count (most_segments code.transaction.segment_kind) count) (option_or room None)) may
    (subst (λ (r : Refusal). Refuses (option_or r (option_or room None))) (sym (too_many code.transaction.segment_kind count over)) (λ terminal number kept. refl))

last_alike : (found : Option Code) (stopped : Refusal) (count : ℕ) (a b : Refusal) → 16 < count → last_by found stopped count a ≡ last_by found stopped count b
last_alike None stopped count a b over = refl
last_alike (Some code) stopped count a b over =
    ap (λ (r : Refusal). option_or stopped (option_or r (option_or a None))) (too_many code.transaction.segment_kind count over)
    ∙ sym (ap (λ (r : Refusal). option_or stopped (option_or r (option_or b None))) (too_many code.transaction.segment_kind count over))

may_stop : (code : List ℕ) (state : Option CodeState) → MayRefuse (stopped_by code state)
may_stop code state = by (option_map_or (λ (s : CodeState). s.stopped) state false) where
  by : (b : Bool) → MayRefuse (if b then Some (Err (StoppedCode code)) else None)
  by true = λ terminal number kept. refl
  by false = tt

may_know : (known : Bool) → MayRefuse (if known then None else Some (Err NoTerminal))
may_know true = tt
may_know false = λ terminal number kept. refl

may_serve : (stopped : Bool) → MayRefuse (if stopped then Some (Err StoppedTerminal) else None)
may_serve true = λ terminal number kept. refl
may_serve false = tt

may_number : (t : Option TerminalState) (number : ℕ) → MayRefuse (option_and_then (λ (t : TerminalState). by_number t.last number) t)
may_number None number = tt
may_number (Some t) number = by (nat_le number t.last) (nat_lt (t.last + 1) number) where
  by : (old ahead : Bool) → MayRefuse (if old then Some (Ok Already) else if ahead then Some (Err (Expected (t.last + 1))) else None)
  by true ahead = λ terminal n kept. refl
  by false true = λ terminal n kept. refl
  by false false = tt

may_talk : (c : Option Conversation) (id : Option ℕ) → MayRefuse (busy_by c id)
may_talk None id = tt
may_talk (Some c) None = tt
may_talk (Some c) (Some id) = λ terminal number kept. refl

-- ---- the answer

module _ (system : System) (moment : Moment) (terminal : List ℕ) (number : ℕ) where
  -- the refusals that don't look at the text, before those that do
  abbrev behind : Refusal → Refusal
  behind last =
      option_or (unknown_terminal moment.lasting terminal)
      (option_or (stopped_terminal moment.lasting terminal) (option_or (wrong_number moment.lasting terminal number) (option_or (busy_conversation moment.lasting terminal) last)))

  abbrev last_of : List ℕ → ℕ → Refusal → Refusal
  last_of code count room = last_by (code_at system.codes code) (stopped_code system moment code) count room

  abbrev refusal : KeptInput → Refusal
  refusal kept = behind (last_of kept.code (length kept.segments) (no_room system moment kept.segments))

  behind_refuses : (last : Refusal) → Refuses last → Refuses (behind last)
  behind_refuses last r =
      or_refuses (unknown_terminal moment.lasting terminal) _ (may_know (is_some (terminal_at moment.lasting.terminals terminal)))
      (or_refuses (stopped_terminal moment.lasting terminal) _ (may_serve (option_map_or (λ (t : TerminalState). t.stopped) (terminal_at moment.lasting.terminals terminal) false))
      (or_refuses (wrong_number moment.lasting terminal number) _ (may_number (terminal_at moment.lasting.terminals terminal) number)
      (or_refuses (busy_conversation moment.lasting terminal) last (may_talk (conversation_at terminal moment.lasting.conversations) (busy_id terminal moment.lasting.messages)) r)))

  same_refusal : (a b : KeptInput) → KeptAlike a b → 16 < length b.segments → refusal a ≡ refusal b
  same_refusal a b alike over =
      ap (λ (last : Refusal). behind last)
      (ap (λ (code : List ℕ). last_of code (length a.segments) (no_room system moment a.segments)) alike.code
      ∙ ap (λ (count : ℕ). last_of b.code count (no_room system moment a.segments)) alike.count
      ∙ last_alike (code_at system.codes b.code) (stopped_code system moment b.code) (length b.segments) (no_room system moment a.segments) (no_room system moment b.segments) over)

  refused : (kept : KeptInput) → 16 < length kept.segments → Refuses (refusal kept)
  refused kept over =
      behind_refuses (last_of kept.code (length kept.segments) (no_room system moment kept.segments))
      (last_refuses (code_at system.codes kept.code) (stopped_code system moment kept.code) (length kept.segments) (no_room system moment kept.segments) over (may_stop kept.code (state_now system moment kept.code)))

  not_new : (r : Refusal) (kept : KeptInput) → Refuses r → accepted_step terminal number kept (unwrap_or r (Ok (New moment.lasting.next_id))) ≡ None
  not_new None kept r = absurd r
  not_new (Some answer) kept r = r terminal number kept

  same_answer : (a b : KeptInput) → KeptAlike a b → 16 < length b.segments
      → unwrap_or (refusal a) (Ok (New moment.lasting.next_id)) ≡ unwrap_or (refusal b) (Ok (New moment.lasting.next_id))
  same_answer a b alike over = ap (λ (r : Refusal). unwrap_or r (Ok (New moment.lasting.next_id))) (same_refusal a b alike over)

  no_step : (kept : KeptInput) → 16 < length kept.segments → accepted_step terminal number kept (unwrap_or (refusal kept) (Ok (New moment.lasting.next_id))) ≡ None
  no_step kept over = not_new (refusal kept) kept (refused kept over)

  kept_count : (c : Option Conversation) (texts : List (List ℕ)) → length (kept_by system c texts).segments ≡ length texts
  kept_count (Some c) texts = refl
  kept_count None texts = by (code_at system.codes (code_word texts)) where
    by_pad : (none : Bool) (pad : ℕ) → length (if none then kept_alone texts else kept_first pad texts).segments ≡ length texts
    by_pad true pad = refl
    by_pad false pad = as_many texts

    by : (found : Option Code) → length (kept_by_code found texts).segments ≡ length texts
    by None = refl
    by (Some code) = by_pad (code.transaction.scratch_pad == 0) code.transaction.scratch_pad

  -- ---- its first texts

  same_word : (texts : List (List ℕ)) → code_word (first_texts texts) ≡ code_word texts
  same_word [] = refl
  same_word (text ∷ texts) = refl

  same_count : (texts : List (List ℕ)) → 17 < length texts → length (first_texts texts) ≡ length texts
  same_count texts over =
      let firsts = length-take-le 17 texts (omega (arith, over)) in
      let empty : List ℕ = [] in
      let others = length-replicate (length texts - 17) empty in
      omega (arith, over, firsts, others, length-append (take 17 texts) (replicate (length texts - 17) []))

  all_texts : (texts : List (List ℕ)) → length texts ≤ 17 → first_texts texts ≡ texts
  all_texts texts few =
      let none : length texts - 17 ≡ 0 = omega (arith, few) in
      ap (λ (n : ℕ). take 17 texts ++ replicate n []) none ∙ append-nil (take 17 texts) ∙ take_all 17 texts few

  long_alike : (texts : List (List ℕ)) → 17 < length texts → IsAnsweredAlike system moment terminal number texts
  long_alike texts over =
      let kept = kept_input system moment.lasting terminal (first_texts texts) in
      let whole = kept_input system moment.lasting terminal texts in
      let c = conversation_at terminal moment.lasting.conversations in
      let alike : KeptAlike kept whole = alike_by system c (first_texts texts) texts (same_word texts) (same_count texts over) in
      let many : 16 < length whole.segments = omega (arith, over, kept_count c texts) in
      let as_many_kept : 16 < length kept.segments = omega (arith, many, alike.count) in
      record {
        answer = same_answer kept whole alike many;
        step = no_step kept as_many_kept ∙ sym (no_step whole many);
      }

  few_alike : (texts : List (List ℕ)) → length texts ≤ 17 → IsAnsweredAlike system moment terminal number texts
  few_alike texts few =
      record {
        answer = ap (λ (ts : List (List ℕ)). input_answer system moment terminal number ts) (all_texts texts few);
        step = ap (λ (ts : List (List ℕ)). lasting_step system moment (Input terminal number ts)) (all_texts texts few);
      }

-- an input is answered, and lasts, by its first 17 texts
pub answered_by_first : (system : System) (moment : Moment) (terminal : List ℕ) (number : ℕ) (texts : List (List ℕ)) → IsAnsweredAlike system moment terminal number texts
answered_by_first system moment terminal number texts = by (nat_lt 17 (length texts)) refl where
  by : (over : Bool) → nat_lt 17 (length texts) ≡ over → IsAnsweredAlike system moment terminal number texts
  by true is = long_alike system moment terminal number texts (grind (arith, nat_tests, is))
  by false is = few_alike system moment terminal number texts (grind (arith, nat_tests, is))
