-- Where no count of the source or the sink rose and no limit is met, the status is that of the definition, memory was wanting, or the disk decides it.
use Rattle.std.proofs.Common.{◌≡◌, ◌≢◌, ◌⊎◌, ℕ, ◌≤◌, ◌<◌, ◌+◌, true, false, ◌&&◌, Bool, List, [], ◌∷◌, ◌++◌, length, sym, ◌∙◌, ap, subst, refl, arith, inl, inr, length-append}
use Rattle.std.proofs.lemmas.List.Folds.{list_all-append}
use Rattle.std.proofs.lemmas.Bool.Decides.{nat_tests}
use Rattle.std.specs.Prelude.{Option, Some, None, IsNone, IfSome, Result, Ok, Err, nat_le}
use Rattle.std.specs.List.{list_all}
use Rattle.tm_disk.specs.Disk.{DiskState, IsDisk, FailedSince}
use Rattle.model_system.specs.System.{System}
use Rattle.model_session.specs.declared.asked.ImageRefused.{ImageRefused}
use Rattle.model_session.specs.Blocks.{Block, blocks_of}
use Rattle.model_session.specs.SessionState.{Stop}
use Rattle.openings.specs.declared.life.Life.{Life}
use Rattle.std.specs.Io.KnownBytes.{append_known}
use Rattle.tm_edge.specs.Fault.{HasRisen, AppendsFront}
use Rattle.tm_edge.specs.Lines.{CutLine, cut_lines, lines_of, is_short_line, line_size, line_text, behind_line, HasServed, IsLineTooLong}
use Rattle.tm_edge.proofs.ServedSoFar.{long_first}
use Rattle.tm_edge.proofs.CutLines.{cut_first}
use Rattle.tm_session.specs.declared.outcome.Ended.{Ended}
use Rattle.tm_session.specs.declared.outcome.Ended.TheVariants.{Done, Words, BadLine, BadCross, Down, Read, Write, Image, Memory, Limit, Spent}
use Rattle.tm_session.specs.Outcome.{IsLimit, HasCause}
use Rattle.tm_session.specs.DefinedSystem.{judged_definition, text_of_definition}
use Rattle.tm_session.specs.Headline.{HasSession, IsNeverOpened, IsSession, IsDiskValid, IsDiskOpened, IsFoundDisk, AskNoColdStart, Defines, IsDefinitionBroken}
use Rattle.tm_session.proofs.Near.{near_session, near_never}
use Rattle.tm_session.proofs.Opened.{all_served}
use Rattle.tm_session.proofs.Complete.{no_stops, done_opened, done_found, not_down, not_refused, valid_opened}
use Rattle.sysdef_text.specs.DefinitionEnd.{definition_lines, lines_behind}
use Rattle.tm_prog.specs.declared.words.Workload.{Workload}
use Rattle.tm_prog.specs.Words.{WordFault, word_fault, workload_of}
use Rattle.tm_prog.specs.Workload.{bytes_served_by, workload_bytes_of as workload_bytes, summary_of, status_by, IsSummaryWritten, IsToldByWorkload, IsWorkloadTold, IsWorkload}
use Rattle.tm_prog.specs.Status.{IsSessionServed, IsByWords, IsRun, IsLastLine, IsWithinLimits, IsServedBy, IsServedWhole, is_by_disk, IsComplete, IsNearLimit, IsNear, session_status_text}

-- ---- statuses that aren't 0

memory_isnt : Memory ≡ Done → ⊥
memory_isnt e = cc

spent_isnt : Spent ≡ Done → ⊥
spent_isnt e = cc

down_isnt : Down ≡ Done → ⊥
down_isnt e = cc

image_isnt : (refusal : ImageRefused) → Image refusal ≡ Done → ⊥
image_isnt refusal e = cc

-- ---- limits

-- a line that is too long isn't short
long_is_not : (size : ℕ) (others : Bool) → 4096 < size → (nat_le size 4096 && others) ≡ true → ⊥
long_is_not size others long h = let e : nat_le size 4096 ≡ false = grind (arith, nat_tests) in let f : false ≡ true = rw e at h in cc

long_line : (bytes rest : List ℕ) (cut : List CutLine) → HasServed bytes cut rest → IsLineTooLong rest → IsWithinLimits (Some bytes) → ⊥
long_line bytes rest cut served long within =
    let all : list_all is_short_line (cut_lines bytes) ≡ true = within.1 in
    let parts : cut_lines bytes ≡ cut ++ record { text = line_text rest; size = line_size rest } ∷ cut_lines (behind_line rest) =
    served.cut ∙ ap (λ more. cut ++ more) (long_first rest long) in
    let joined : (list_all is_short_line cut && (nat_le (line_size rest) 4096 && list_all is_short_line (cut_lines (behind_line rest)))) ≡ true =
    sym (list_all-append is_short_line cut (record { text = line_text rest; size = line_size rest } ∷ cut_lines (behind_line rest))) ∙ sym (ap (list_all is_short_line) parts) ∙ all in
    let short : (nat_le (line_size rest) 4096 && list_all is_short_line (cut_lines (behind_line rest))) ≡ true = sym (ap (λ s. s && (nat_le (line_size rest) 4096 && list_all is_short_line (cut_lines (behind_line rest)))) served.short) ∙ joined in
    long_is_not (line_size rest) (list_all is_short_line (cut_lines (behind_line rest))) long short

-- bytes that aren't empty have a line
some_line : (rest : List ℕ) → rest ≢ [] → 0 < length (cut_lines rest)
some_line [] h = absurd (h refl)
some_line (b ∷ bytes) h = rw (cut_first (b ∷ bytes) (omega arith)) (omega arith)

-- where no limit is met, no session ends by one
no_limit : (n : ℕ) (bytes rest : List ℕ) (cut : List CutLine) → HasServed bytes cut rest → IsLimit n (length cut) rest → IsWithinLimits (Some bytes) → ⊥
no_limit n bytes rest cut served (inl long) within = long_line bytes rest cut served long.2 within
no_limit n bytes rest cut served (inr many) within =
    let more : 0 < length (cut_lines rest) = some_line rest many.2 in
    let total : length (cut_lines bytes) ≡ length cut + length (cut_lines rest) = ap length served.cut ∙ length-append cut (cut_lines rest) in
    let few : length (cut_lines bytes) ≤ 1000000 = within.0 in
    omega (arith, many.1)

module _ {D : Type 0} (state : D → DiskState) (is_disk : (disk : D) → IsDisk (state disk)) (handed disk : D) (lives : List Life) (stops : List Stop) where
  abbrev Session : Option (List ℕ) → Option (List ℕ) → Option (List ℕ) → Option (List ℕ) → Ended → Type 0
  Session told left old new status = IsSession state told left old new handed disk status lives stops

  session_limit : (n : ℕ) (told left old new : Option (List ℕ)) → Session told left old new (Limit n) → IsWithinLimits told → ⊥
  session_limit n (Some bytes) (Some left) old new (inl h) within =
      no_limit n bytes (h.lived.read.held ++ left) h.lived.read.cut h.lived.read.served h.lived.read.limit within
  session_limit n (Some bytes) None old new (inl h) within = h.lived.read
  session_limit n (Some bytes) left old new (inr (inl begun, nothing)) within =
      long_line bytes begun.unbegun.1.rest begun.unbegun.1.cut begun.unbegun.1.served begun.unbegun.1.long within
  session_limit n told left old new (inr (inr never, nothing)) within = never.refusal
  session_limit n None left old new session within = within

  -- ---- without a disk fault

  abbrev Calm : Type 0
  Calm = ¬ FailedSince (state handed) (state disk)

  no_stop : (told left old new : Option (List ℕ)) (status : Ended) → Session told left old new status → Calm → stops ≡ []
  no_stop told left old new status (inl h) calm = no_stops (state handed).faults (state disk).faults stops h.lived.counted calm
  no_stop told left old new status (inr (never, nothing)) calm = nothing.no_stop

  -- ---- by the status

  abbrev text_of : List ℕ → List ℕ
  text_of bytes = text_of_definition (definition_lines (lines_of bytes))

  abbrev blocks_in : List ℕ → List Block
  blocks_in bytes = blocks_of (lines_behind (lines_of bytes))

  abbrev Complete : Option (List ℕ) → Ended → Type 0
  Complete told status = IsComplete told (state handed) (state disk) status stops

  abbrev Whole : System → List ℕ → Ended → Type 0
  Whole system bytes status = IsServedWhole system (text_of bytes) (blocks_in bytes) (state handed) (state disk) status stops

  by_system : (bytes : List ℕ) (system : System) (status : Ended) → Defines bytes system → Whole system bytes status → Complete (Some bytes) status
  by_system bytes system status defines whole =
      subst (λ (r : Result System Ended). IsServedBy r (text_of bytes) (blocks_in bytes) (state handed) (state disk) status stops) (sym defines) whole

  by_break : (told : Option (List ℕ)) (status : Ended) → IfSome told (λ bytes. IsDefinitionBroken bytes status) → Complete told status
  by_break (Some bytes) status h = subst (λ (r : Result System Ended). IsServedBy r (text_of bytes) (blocks_in bytes) (state handed) (state disk) status stops) (sym h.broken) (inl refl)
  by_break None status h = tt

  by_done : (told left old new : Option (List ℕ)) → Session told left old new Done → Complete told Done
  by_done (Some bytes) (Some left) old new (inl h) =
      by_system bytes h.system Done h.defines (record {
        status_is = inl refl;
        calm = no_stop (Some bytes) (Some left) old new Done (inl h);
        valid = λ calm valid. inl refl;
        opened = λ none done.
            subst (λ (t : List ℕ). IsDiskOpened h.system t (state handed)) h.text_is (done_opened state handed disk (Some bytes) (Some left) old new lives stops h none);
        found = λ warm done.
            subst (λ (t : List ℕ). IsFoundDisk h.system t (state handed)) h.text_is
            (done_found state handed disk (Some bytes) (Some left) old new lives stops h
            (subst (AskNoColdStart h.system) (all_served bytes left h.lived.blocks h.lived.others h.lived.read) warm));
      })
  by_done (Some bytes) None old new (inl h) = absurd h.lived.read
  by_done None left old new session = tt
  by_done told left old new (inr (inl begun, nothing)) = absurd begun.unbegun
  by_done told left old new (inr (inr never, nothing)) = absurd never.refusal

  bad_line : (line rule : ℕ) (told left old new : Option (List ℕ)) → Session told left old new (BadLine line rule) → Complete told (BadLine line rule)
  bad_line line rule told left old new (inl h) = absurd (h.lived.begun refl)
  bad_line line rule told left old new (inr (inl begun, nothing)) = by_break told (BadLine line rule) begun.unbegun
  bad_line line rule told left old new (inr (inr never, nothing)) = absurd never.refusal

  bad_cross : (line rule : ℕ) (told left old new : Option (List ℕ)) → Session told left old new (BadCross line rule) → Complete told (BadCross line rule)
  bad_cross line rule told left old new (inl h) = absurd (h.lived.begun refl)
  bad_cross line rule told left old new (inr (inl begun, nothing)) = by_break told (BadCross line rule) begun.unbegun
  bad_cross line rule told left old new (inr (inr never, nothing)) = absurd never.refusal

  no_words : (word rule : ℕ) (told left old new : Option (List ℕ)) → Session told left old new (Words word rule) → ⊥
  no_words word rule told left old new (inl h) = h.lived.begun refl
  no_words word rule told left old new (inr (inl begun, nothing)) = begun.unbegun
  no_words word rule told left old new (inr (inr never, nothing)) = never.refusal

  -- a status that isn't 0
  other_whole : (system : System) (text : List ℕ) (blocks : List Block) (status : Ended) → (status ≡ Done → ⊥) → (status ≡ Done) ⊎ ((status ≡ Memory) ⊎ (is_by_disk status ≡ true)) → (Calm → stops ≡ [])
      → (Calm → IsDiskValid system text (state handed) → (status ≡ Done) ⊎ ((status ≡ Memory) ⊎ (status ≡ Spent))) → IsServedWhole system text blocks (state handed) (state disk) status stops
  other_whole system text blocks status other is calm valid =
      record { status_is = is; calm = calm; valid = valid; opened = λ none done. absurd (other done); found = λ warm done. absurd (other done) }

  memory_of : (r : Result System Ended) (text : List ℕ) (blocks : List Block) → (Calm → stops ≡ []) → IsServedBy r text blocks (state handed) (state disk) Memory stops
  memory_of (Ok system) text blocks none = other_whole system text blocks Memory memory_isnt (inr (inl refl)) none (λ calm valid. inr (inl refl))
  memory_of (Err ended) text blocks none = inr refl

  by_memory : (told left old new : Option (List ℕ)) → Session told left old new Memory → Complete told Memory
  by_memory (Some bytes) left old new session =
      memory_of (judged_definition (definition_lines (lines_of bytes))) (text_of bytes) (blocks_in bytes) (no_stop (Some bytes) left old new Memory session)
  by_memory None left old new session = tt

  spent_whole : (system : System) (bytes : List ℕ) → (Calm → stops ≡ []) → Whole system bytes Spent
  spent_whole system bytes none = other_whole system (text_of bytes) (blocks_in bytes) Spent spent_isnt (inr (inr refl)) none (λ calm valid. inr (inr refl))

  by_spent : (told left old new : Option (List ℕ)) → Session told left old new Spent → Complete told Spent
  by_spent (Some bytes) left old new (inl h) = by_system bytes h.system Spent h.defines (spent_whole h.system bytes (no_stop (Some bytes) left old new Spent (inl h)))
  by_spent (Some bytes) left old new (inr (inr never, nothing)) = by_system bytes never.system Spent never.defines (spent_whole never.system bytes (λ calm. nothing.no_stop))
  by_spent None left old new session = tt
  by_spent told left old new (inr (inl begun, nothing)) = absurd begun.unbegun

  down_whole : (bytes : List ℕ) (left old new : Option (List ℕ)) (h : HasSession state (Some bytes) left old new handed disk Down lives stops) → (Calm → stops ≡ []) → Whole h.system bytes Down
  down_whole bytes left old new h none =
      other_whole h.system (text_of bytes) (blocks_in bytes) Down down_isnt (inr (inr refl)) none (λ calm valid. absurd (not_down state handed disk (Some bytes) left old new lives stops h (none calm)))

  by_down : (told left old new : Option (List ℕ)) → Session told left old new Down → Complete told Down
  by_down (Some bytes) left old new (inl h) = by_system bytes h.system Down h.defines (down_whole bytes left old new h (no_stop (Some bytes) left old new Down (inl h)))
  by_down None left old new session = tt
  by_down told left old new (inr (inl begun, nothing)) = absurd begun.unbegun
  by_down told left old new (inr (inr never, nothing)) = absurd never.refusal

  image_whole : (refusal : ImageRefused) (bytes : List ℕ) (left old new : Option (List ℕ)) (h : HasSession state (Some bytes) left old new handed disk (Image refusal) lives stops) → (Calm → stops ≡ [])
      → Whole h.system bytes (Image refusal)
  image_whole refusal bytes left old new h none =
      other_whole h.system (text_of bytes) (blocks_in bytes) (Image refusal) (image_isnt refusal) (inr (inr refl)) none
      (λ calm valid. absurd (not_refused state handed disk (Some bytes) left old new lives stops refusal h (none calm)))

  image_never : (refusal : ImageRefused) (bytes : List ℕ) (never : IsNeverOpened state (Some bytes) handed disk (Image refusal)) → stops ≡ [] → Whole never.system bytes (Image refusal)
  image_never refusal bytes never none =
      other_whole never.system (text_of bytes) (blocks_in bytes) (Image refusal) (image_isnt refusal) (inr (inr refl)) (λ calm. none)
      (λ calm valid. absurd (valid_opened state bytes handed disk refusal (is_disk handed) never valid))

  by_image : (refusal : ImageRefused) (told left old new : Option (List ℕ)) → Session told left old new (Image refusal) → Complete told (Image refusal)
  by_image refusal (Some bytes) left old new (inl h) =
      by_system bytes h.system (Image refusal) h.defines (image_whole refusal bytes left old new h (no_stop (Some bytes) left old new (Image refusal) (inl h)))
  by_image refusal (Some bytes) left old new (inr (inr never, nothing)) =
      by_system bytes never.system (Image refusal) never.defines (image_never refusal bytes never nothing.no_stop)
  by_image refusal None left old new session = tt
  by_image refusal told left old new (inr (inl begun, nothing)) = absurd begun.unbegun

  complete : (status : Ended) (told left old mid new : Option (List ℕ)) (r r' w w1 w2 : ℕ)
      → Session told left old mid status → HasCause status r r' w w1 → IsLastLine mid new (session_status_text status) w1 w2
      → ¬ HasRisen r r' → ¬ HasRisen w w2 → IsWithinLimits told → Complete told status
  complete Done told left old mid new r r' w w1 w2 session cause last reads writes within = by_done told left old mid session
  complete Memory told left old mid new r r' w w1 w2 session cause last reads writes within = by_memory told left old mid session
  complete Down told left old mid new r r' w w1 w2 session cause last reads writes within = by_down told left old mid session
  complete (Image refusal) told left old mid new r r' w w1 w2 session cause last reads writes within = by_image refusal told left old mid session
  complete Spent told left old mid new r r' w w1 w2 session cause last reads writes within = by_spent told left old mid session
  complete Read told left old mid new r r' w w1 w2 session cause last reads writes within = absurd (reads cause.0)
  complete Write told left old mid new r r' w w1 w2 session cause last reads writes within = absurd (writes (subst (HasRisen w) (sym last.1) cause.1))
  complete (Words word rule) told left old mid new r r' w w1 w2 session cause last reads writes within = absurd (no_words word rule told left old mid session)
  complete (BadLine line rule) told left old mid new r r' w w1 w2 session cause last reads writes within = bad_line line rule told left old mid session
  complete (BadCross line rule) told left old mid new r r' w w1 w2 session cause last reads writes within = bad_cross line rule told left old mid session
  complete (Limit n) told left old mid new r r' w w1 w2 session cause last reads writes within = absurd (session_limit n told left old mid session within)

  -- ---- a workload

  no_rise : HasRisen 0 0 → ⊥
  no_rise (inl more) = omega (arith, more)
  no_rise (inr last) = omega (arith, last)

  -- where the session of these bytes was served, and memory was wanting behind it
  memory_behind : (ended : Ended) (told left old new : Option (List ℕ)) → Session told left old new ended → Complete told Memory
  memory_behind ended (Some bytes) left old new session =
      memory_of (judged_definition (definition_lines (lines_of bytes))) (text_of bytes) (blocks_in bytes) (no_stop (Some bytes) left old new ended session)
  memory_behind ended None left old new session = tt

  complete_by : (ended : Ended) (told left old new : Option (List ℕ)) (writes : ℕ) → Session told left old new ended → HasCause ended 0 0 0 writes → IsWithinLimits told → Complete told (status_by ended)
  complete_by Done told left old new writes session cause within = by_done told left old new session
  complete_by Memory told left old new writes session cause within = by_memory told left old new session
  complete_by Down told left old new writes session cause within = by_down told left old new session
  complete_by (Image refusal) told left old new writes session cause within = by_image refusal told left old new session
  complete_by Spent told left old new writes session cause within = by_spent told left old new session
  complete_by Read told left old new writes session cause within = absurd (no_rise cause.0)
  complete_by Write told left old new writes session cause within = memory_behind Write told left old new session
  complete_by (Words word rule) told left old new writes session cause within = absurd (no_words word rule told left old new session)
  complete_by (BadLine line rule) told left old new writes session cause within = bad_line line rule told left old new session
  complete_by (BadCross line rule) told left old new writes session cause within = bad_cross line rule told left old new session
  complete_by (Limit n) told left old new writes session cause within = absurd (session_limit n told left old new session within)

  -- the sink failed
  risen : (status : Ended) (mid new : Option (List ℕ)) (summary : List ℕ) (r r' w w1 w2 : ℕ) → status ≡ Write → summary ≡ []
      → HasCause status r r' w w1 → IsLastLine mid new (summary ++ session_status_text status) w1 w2 → HasRisen w w2
  risen status mid new summary r r' w w1 w2 is none cause last =
      let calm : IsLastLine mid new [] w1 w2 = subst (λ (line : List ℕ). IsLastLine mid new line w1 w2) (ap (λ (l : List ℕ). l ++ session_status_text status) none ∙ ap session_status_text is) last in
      let rose : HasCause Write r r' w w1 = subst (λ (s : Ended). HasCause s r r' w w1) is cause in
      subst (HasRisen w) (sym calm.1) rose.1

  module _ (text : List ℕ) (summed : List ℕ) (printed left : List ℕ) (old mid new : Option (List ℕ)) (summary : List ℕ) (status : Ended) (r r' w w1 w2 writes : ℕ)
      (cause : HasCause status r r' w w1) (last : IsLastLine mid new (summary ++ session_status_text status) w1 w2) (calm : ¬ HasRisen w w2) (within : IsWithinLimits (Some text)) where
    abbrev Told : Type 0
    Told = Complete (Some text) status

    as_ended : (ended : Ended) → Session (Some text) (Some left) (Some []) (Some printed) ended → HasCause ended 0 0 0 writes → status ≡ status_by ended → Told
    as_ended ended session why is = subst (λ (s : Ended). Complete (Some text) s) (sym is) (complete_by ended (Some text) (Some left) (Some []) (Some printed) writes session why within)

    as_written : Session (Some text) (Some left) (Some []) (Some printed) Done → HasCause Done 0 0 0 writes → IsSummaryWritten summed status old mid summary → Told
    as_written session why told = done_or told.written
      where
        done_or : ((status ≡ Done) × (mid ≡ append_known old summed)) ⊎ ((status ≡ Write) × AppendsFront old mid summed) → Told
        done_or (inl whole) = as_ended Done session why whole.0
        done_or (inr front) = absurd (calm (risen status mid new summary r r' w w1 w2 front.0 told.none cause last))

    as_told : (ended : Ended) → Session (Some text) (Some left) (Some []) (Some printed) ended → HasCause ended 0 0 0 writes → IsToldByWorkload ended summed status old mid summary → Told
    as_told Done session why told = as_written session why told
    as_told (Words word rule) session why told = as_ended (Words word rule) session why told.status_is
    as_told (BadLine line rule) session why told = as_ended (BadLine line rule) session why told.status_is
    as_told (BadCross line rule) session why told = as_ended (BadCross line rule) session why told.status_is
    as_told Down session why told = as_ended Down session why told.status_is
    as_told Read session why told = as_ended Read session why told.status_is
    as_told Write session why told = as_ended Write session why told.status_is
    as_told (Image refusal) session why told = as_ended (Image refusal) session why told.status_is
    as_told Memory session why told = as_ended Memory session why told.status_is
    as_told (Limit n) session why told = as_ended (Limit n) session why told.status_is
    as_told Spent session why told = as_ended Spent session why told.status_is

    as_any : (ended : Ended) → Session (Some text) (Some left) (Some []) (Some printed) ended → HasCause ended 0 0 0 writes → IsWorkloadTold ended summed status old mid summary → Told
    as_any ended session why (inl told) = as_told ended session why told
    as_any ended session why (inr untold) =
        subst (λ (s : Ended). Complete (Some text) s) (sym untold.status_is) (memory_behind ended (Some text) (Some left) (Some []) (Some printed) session)

  -- ---- by the words

  complete_served : (workload : Option Workload) (told left old mid new : Option (List ℕ)) (summary : List ℕ) (status : Ended) (r r' w w1 w2 : ℕ)
      → IsSessionServed state workload told left old mid summary handed disk status lives stops → HasCause status r r' w w1 → IsLastLine mid new (summary ++ session_status_text status) w1 w2
      → ¬ HasRisen r r' → ¬ HasRisen w w2 → IsWithinLimits (bytes_served_by workload told) → Complete (bytes_served_by workload told) status
  complete_served (Some workload) told left old mid new summary status r r' w w1 w2 served cause last reads writes within =
      let run : IsWorkload state workload old mid summary handed disk status lives stops = served.1 in
      as_any (workload_bytes workload) (summary_of workload lives run.printed) run.printed run.drilled.left old mid new summary status r r' w w1 w2 run.drilled.writes cause last writes within
      run.ended run.drilled.session run.drilled.cause run.told
  complete_served None told left old mid new summary status r r' w w1 w2 served cause last reads writes within =
      complete status told left old mid new r r' w w1 w2 served.1 cause
      (subst (λ (line : List ℕ). IsLastLine mid new line w1 w2) (ap (λ (l : List ℕ). l ++ session_status_text status) served.0) last) reads writes within

  never : true ≡ false → ⊥
  never e = cc

  served_of : (fault : Option WordFault) (workload : Option Workload) (told left old new : Option (List ℕ)) (summary : List ℕ) (status : Ended) → IsNone fault
      → IsByWords state fault workload told left old new summary handed disk status lives stops → IsSessionServed state workload told left old new summary handed disk status lives stops
  served_of None workload told left old new summary status none served = served
  served_of (Some fault) workload told left old new summary status none served = absurd (never none)

  pub complete_run : (words : List (List ℕ)) (told left old new : Option (List ℕ)) (status : Ended) (r r' w w' : ℕ)
      → IsRun state words told left old new handed disk status lives stops r r' w w' → IsNone (word_fault words) → ¬ HasRisen r r' → ¬ HasRisen w w'
      → IsWithinLimits (bytes_served_by (workload_of words) told) → IsComplete (bytes_served_by (workload_of words) told) (state handed) (state disk) status stops
  complete_run words told left old new status r r' w w' run none reads writes within =
      complete_served (workload_of words) told left old run.before new run.summary status r r' w run.writes w'
      (served_of (word_fault words) (workload_of words) told left old run.before run.summary status none run.session) run.cause run.last reads writes within

  -- ---- a counter

  spent_near : (told left old new : Option (List ℕ)) → Session told left old new Spent → IsNearLimit told (state handed)
  spent_near told left old new (inl h) = record { system = h.system; defines = h.defines; near = near_session state is_disk handed disk told left old new lives stops h }
  spent_near told left old new (inr (inr never, nothing)) = record { system = never.system; defines = never.defines; near = near_never state is_disk handed disk told left old new never }
  spent_near told left old new (inr (inl begun, nothing)) = absurd begun.unbegun

  session_near : (ended : Ended) (told left old new : Option (List ℕ)) → Session told left old new ended → IsNear told (state handed) ended
  session_near Spent told left old new session = spent_near told left old new session
  session_near Done told left old new session = tt
  session_near (Words word rule) told left old new session = tt
  session_near (BadLine line rule) told left old new session = tt
  session_near (BadCross line rule) told left old new session = tt
  session_near Down told left old new session = tt
  session_near Read told left old new session = tt
  session_near Write told left old new session = tt
  session_near (Image refusal) told left old new session = tt
  session_near Memory told left old new session = tt
  session_near (Limit n) told left old new session = tt

  module _ (text : List ℕ) (summed : List ℕ) (printed left : List ℕ) (old mid : Option (List ℕ)) (summary : List ℕ) (status : Ended) where
    abbrev Near : Ended → Type 0
    Near ended = IsNear (Some text) (state handed) ended

    near_as : (other : Ended) → status ≡ other → Near other → Near status
    near_as other is near = subst (λ (s : Ended). Near s) (sym is) near

    near_written : IsSummaryWritten summed status old mid summary → Near status
    near_written told = done_or told.written
      where
        done_or : ((status ≡ Done) × (mid ≡ append_known old summed)) ⊎ ((status ≡ Write) × AppendsFront old mid summed) → Near status
        done_or (inl whole) = near_as Done whole.0 tt
        done_or (inr front) = near_as Write front.0 tt

    near_told : (ended : Ended) → Session (Some text) (Some left) (Some []) (Some printed) ended → IsToldByWorkload ended summed status old mid summary → Near status
    near_told Done session told = near_written told
    near_told (Words word rule) session told = near_as (Words word rule) told.status_is tt
    near_told (BadLine line rule) session told = near_as (BadLine line rule) told.status_is tt
    near_told (BadCross line rule) session told = near_as (BadCross line rule) told.status_is tt
    near_told Down session told = near_as Down told.status_is tt
    near_told Read session told = near_as Read told.status_is tt
    near_told Write session told = near_as Memory told.status_is tt
    near_told (Image refusal) session told = near_as (Image refusal) told.status_is tt
    near_told Memory session told = near_as Memory told.status_is tt
    near_told (Limit n) session told = near_as (Limit n) told.status_is tt
    near_told Spent session told = near_as Spent told.status_is (spent_near (Some text) (Some left) (Some []) (Some printed) session)

    near_any : (ended : Ended) → Session (Some text) (Some left) (Some []) (Some printed) ended → IsWorkloadTold ended summed status old mid summary → Near status
    near_any ended session (inl told) = near_told ended session told
    near_any ended session (inr untold) = near_as Memory untold.status_is tt

  near_served : (workload : Option Workload) (told left old mid : Option (List ℕ)) (summary : List ℕ) (status : Ended)
      → IsSessionServed state workload told left old mid summary handed disk status lives stops → IsNear (bytes_served_by workload told) (state handed) status
  near_served (Some workload) told left old mid summary status served =
      let run : IsWorkload state workload old mid summary handed disk status lives stops = served.1 in
      near_any (workload_bytes workload) (summary_of workload lives run.printed) run.printed run.drilled.left old mid summary status run.ended run.drilled.session run.told
  near_served None told left old mid summary status served = session_near status told left old mid served.1

  near_words : (fault : Option WordFault) (workload : Option Workload) (told left old mid : Option (List ℕ)) (summary : List ℕ) (status : Ended)
      → IsByWords state fault workload told left old mid summary handed disk status lives stops → IsNear (bytes_served_by workload told) (state handed) status
  near_words None workload told left old mid summary status served = near_served workload told left old mid summary status served
  near_words (Some fault) workload told left old mid summary status refused = of refused.1.status_is
    where
      of : (status ≡ Words fault.word fault.rule) ⊎ (status ≡ Memory) → IsNear (bytes_served_by workload told) (state handed) status
      of (inl is) = subst (λ (s : Ended). IsNear (bytes_served_by workload told) (state handed) s) (sym is) tt
      of (inr is) = subst (λ (s : Ended). IsNear (bytes_served_by workload told) (state handed) s) (sym is) tt

  -- That a counter is spent is told of a disk alone that was near it.
  pub near_run : (words : List (List ℕ)) (told left old new : Option (List ℕ)) (status : Ended) (r r' w w' : ℕ)
      → IsRun state words told left old new handed disk status lives stops r r' w w' → IsNear (bytes_served_by (workload_of words) told) (state handed) status
  near_run words told left old new status r r' w w' run = near_words (word_fault words) (workload_of words) told left old run.before run.summary status run.session
