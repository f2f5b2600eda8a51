-- A whole session, from its definition to its end.
use Rattle.std.proofs.Common.{◌≡◌, ◌≢◌, ℕ, ◌+◌, ◌*◌, Bool, true, false, List, [], ◌∷◌, ◌++◌, length, map, sym, ◌∙◌, ap, subst, refl, arith, inl, inr}
use Rattle.std.proofs.lemmas.List.{append-nil}
use Rattle.std.specs.Prelude.{Option, Some, None, IfSome}
use Rattle.std.specs.Option.{option_map, is_some}
use Rattle.tm_disk.specs.Disk.{DiskState, IsDisk, IsSameDisk, Only}
use Rattle.tm_disk.proofs.Words.{same_itself}
use Rattle.model_system.specs.System.{System}
use Rattle.system_types.specs.ValidSystem.{IsSystem}
use Rattle.checkpointing.proofs.Counted.{up_to_more}
use Rattle.session_law.specs.LeftOver.{IsLeftOver}
use Rattle.session_law.specs.Measures.{call_raises, measure}
use Rattle.session_law.proofs.Bound.{lives_bound}
use Rattle.model_session.specs.Blocks.{Block}
use Rattle.model_session.specs.Lives.{AreLegal}
use Rattle.model_session.specs.SessionState.{DiskEvent, SessionState, Standing, Stop, AreStops, LastAnswered, IsKnown, no_life, unbegun, is_session_stopped, last_life}
use Rattle.model_session.specs.SessionState.DiskEvent.{CutWith}
use Rattle.model_session.specs.SessionState.Standing.{Down as StandsDown}
use Rattle.model_session.specs.Session.{BeginsSession, AreServed, OpensSession as OpensLife, FailsToOpen}
use Rattle.openings.specs.OpenedImage.{WroteNothing}
use Rattle.openings.specs.declared.how.How.TheVariants.{Found}
use Rattle.openings.specs.LifeBeginning.{Refuses}
use Rattle.openings.specs.declared.refusals.OpenError.{OpenError}
use Rattle.openings.specs.declared.refusals.OpenError.TheVariants.{Spent as NoCounter}
use Rattle.openings.specs.declared.life.Life.{Life}
use Rattle.tm_edge.specs.Lines.{unread, lines_of}
use Rattle.sysdef_text.specs.DefinitionEnd.{definition_lines}
use Rattle.session_lives.specs.declared.called.Opening.{Opening}
use Rattle.session_lives.specs.declared.called.Opening.TheVariants.{Opened, Broke, Refused, Memory as NoMemory, Spent as SpentCounter}
use Rattle.session_lives.specs.declared.place.Place.{Place}
use Rattle.session_lives.specs.declared.place.Place.TheVariants.{Up, Down, Moved}
use Rattle.session_lives.specs.declared.place.Kept.{Kept}
use Rattle.session_lives.specs.declared.place.Session.{Session}
use Rattle.session_lives.specs.RunningSession.{life_of, last_life_of, kept_steps, outage_of, standing_of, session_at, session_of, session_setting, error_of, IsDownSound, IsSessionSound, IsSoundAt, Leads, LeadsBy}
use Rattle.session_lives.specs.DiskEvents.{GoesOn}
use Rattle.session_lives.specs.ToldNumbers.{numbers_so_far}
use Rattle.session_lives.specs.Openings.{HasGone, HasOpened, StaysIdle}
use Rattle.session_lives.specs.ClosedSession.{HasSectors, listed, IsClosedDown, IsClosedAt, IsSessionClosed, Remains, SessionLeaves}
use Rattle.session_lives.proofs.Ends.{same_state, outage_with, past_with}
use Rattle.session_lives.proofs.Happening.{goes_itself}
use Rattle.session_lives.proofs.Valid.{opened_valid}
use Rattle.session_lives.proofs.Restarted.{events_opening, opens_gone, fails_gone, gone_sound}
use Rattle.tm_session.specs.declared.outcome.Ended.{Ended}
use Rattle.tm_session.specs.declared.outcome.Ended.TheVariants.{Done, Words, BadLine, BadCross, Down as DownAtEnd, Read, Write, Image as BadImage, Memory, Limit, Spent}
use Rattle.tm_session.specs.DefinedSystem.{text_of_definition}
use Rattle.tm_session.specs.Outcome.{ending_of, HasWrittenText, IsLeftBehind, UndoneAs, IsBy}
use Rattle.tm_session.specs.ReadSources.{HasReadTold}
use Rattle.tm_session.specs.Outcome.Ending.{NotBegun}
use Rattle.tm_session.specs.DrivenSession.{HasDriven}
use Rattle.tm_session.specs.ReadDefinition.{ReadsDefinition}
use Rattle.tm_session.specs.BegunSession.{IsDefinitionRead, HasBegun, IsNothing, refusal, down_at_end, by_standing}
use Rattle.tm_session.specs.Headline.{HasLived, IsWhole, IsOpenedBy, IsDiskOpened, IsFoundDisk, AskNoColdStart, IsSession, Defines, IsUnbegun, IsDiskRefusal}
use Rattle.tm_session.proofs.First.{IsFound, opened_found}
use Rattle.tm_session.proofs.Opened.{whole_session}
use Rattle.tm_session.proofs.SourceEnd.{left_over, whole_image}

-- ---- how a session begins

no_first : (last : Option Life) → last ≡ None → is_some last ≡ true → ⊥
no_first None none some = cc
no_first (Some life) none some = cc

module _ {D : Type 0} (state : D → DiskState) (is_disk : (disk : D) → IsDisk (state disk)) (system : System) (text : List ℕ) (handed : D) (session : Session D) (ended : Option Ended)
    (alone : Only (state handed).shown (state handed)) (b : HasBegun state system text handed session ended) where
  first_same : IsSameDisk (state handed) (state b.idle.disk)
  first_same = subst (λ d. IsSameDisk (state handed) (state d)) (sym b.disk_is) (same_itself (state handed))

  first_outage : outage_of b.idle ≡ no_life
  first_outage =
      ap (λ l. outage_with (option_map last_life_of l) b.idle.emptied b.idle.stopped) b.last_is ∙ ap (λ e. outage_with None e b.idle.stopped) b.emptied_is ∙ ap (outage_with None false) b.stopped_is

  first_state : session_at [] (Down b.idle) b.kept ≡ unbegun
  first_state =
      same_state [] (map life_of b.kept.lives.items) [] b.kept.stops.items (past_with [] 0) (past_with [] b.kept.pick) (StandsDown no_life) (StandsDown (outage_of b.idle))
      (ap (map life_of) b.lives) b.stops (ap (past_with []) b.pick) (ap StandsDown first_outage)

  -- no life has begun
  first_sound : IsDownSound state system text handed [] b.idle b.kept
  first_sound = record {
    handed_alone = alone;
    system_is = b.system_is;
    text_is = b.text_is;
    size = λ begun. absurd (no_first b.idle.last b.last_is begun);
    texts = λ image left. inr (record { no_life = ap (λ l. option_map last_life_of l) b.last_is; left = subst (λ d. (state d).may_leave image) b.disk_is left });
    same = first_same;
    stops = subst (λ s. AreStops (state handed).faults s (state b.idle.disk).faults) (sym b.stops) (ap (λ d. (state d).faults) (sym b.disk_is));
    legal = subst (λ l. AreLegal system (map life_of l)) (sym b.lives) tt;
    answered = subst (λ l. LastAnswered system (option_map last_life_of l) (kept_steps l)) (sym b.last_is) refl;
    images = λ image left. inr (record {
      no_life = ap (λ l. option_map last_life_of l) b.last_is;
      before = image;
      left = subst (λ d. (state d).may_leave image) b.disk_is left;
      alike = λ answer is. is;
    });
    numbered = λ image left.
        inr (λ number known.
        subst (λ l. IsKnown (session_setting state system text handed) (option_map last_life_of l) number) b.last_is known image (subst (λ d. (state d).may_leave image) b.disk_is left));
    valid = b.valid;
    counts = λ high first image left.
        up_to_more system high (high + call_raises * measure (session_at [] (Down b.idle) b.kept)) image (omega arith) (first.images image (subst (λ d. (state d).may_leave image) b.disk_is left));
    happened = subst (λ (d : D). GoesOn (state handed) (state d)) (sym b.disk_is) (goes_itself (state handed));
    told = sym (ap numbers_so_far first_state);
  }

  begins_by : (opening : Opening) → HasGone state b.idle b.kept false session opening → refusal opening ≡ None
      → BeginsSession (session_setting state system text handed) (session_of (events_opening [] b.kept opening) session)
  begins_by Opened gone none =
      inl (subst (λ o. OpensLife false (session_setting state system text handed) unbegun o (session_of [] session)) first_outage
      (subst (λ s. OpensLife false (session_setting state system text handed) s (outage_of b.idle) (session_of [] session)) first_state
      (opens_gone state is_disk system text handed [] b.idle b.kept session first_sound false gone)))
  begins_by Broke gone none =
      inr (subst (λ o. FailsToOpen false unbegun o (session_of (CutWith b.kept.pick ∷ []) session)) first_outage
      (subst (λ s. FailsToOpen false s (outage_of b.idle) (session_of (CutWith b.kept.pick ∷ []) session)) first_state
      (fails_gone state is_disk system text handed [] b.idle b.kept session first_sound false gone)))
  begins_by (Refused refused) gone none = cc
  begins_by NoMemory gone none = cc
  begins_by SpentCounter gone none = cc

  pub begins : ended ≡ None → BeginsSession (session_setting state system text handed) (session_of (events_opening [] b.kept b.opening) session)
  begins none = begins_by b.opening b.gone (sym b.ends ∙ none)

  pub begun_sound : IsSessionSound state system text handed (events_opening [] b.kept b.opening) session
  begun_sound = gone_sound state is_disk system text handed [] b.idle b.kept session first_sound false b.opening b.gone

  -- it was opened as it was handed in
  opened_disk : (gone : HasOpened state b.idle b.kept false session) → IsDiskOpened system text (state handed)
  opened_disk gone =
      let same : IsDiskOpened b.idle.system b.idle.text (state b.idle.disk) = record {
        size = gone.opens.size;
        valid = λ tells. opened_valid b.idle.system b.idle.text (state b.idle.disk) gone.opens.begins.parts gone.control.control.opening
            (subst (λ d. Only (state d).shown (state d)) (sym b.disk_is) alone) gone.opens.size tells (gone.opens.begins.found refl tells);
      } in
      subst (λ d. IsDiskOpened system text (state d)) b.disk_is
      (subst (λ t. IsDiskOpened system t (state b.idle.disk)) b.text_is (subst (λ s. IsDiskOpened s b.idle.text (state b.idle.disk)) b.system_is same))

  opened_by : (opening : Opening) → HasGone state b.idle b.kept false session opening → refusal opening ≡ None → IsOpenedBy (standing_of session.place) system text (state handed)
  opened_by Opened gone none = subst (λ p. IsOpenedBy (standing_of p) system text (state handed)) (sym gone.place) (opened_disk gone)
  opened_by Broke gone none = subst (λ p. IsOpenedBy (standing_of p) system text (state handed)) (sym gone.place) tt
  opened_by (Refused refused) gone none = cc
  opened_by NoMemory gone none = cc
  opened_by SpentCounter gone none = cc

  pub opened_first : ended ≡ None → IsOpenedBy (standing_of session.place) system text (state handed)
  opened_first none = opened_by b.opening b.gone (sym b.ends ∙ none)

  -- ---- or it was refused

  refuses_first : (error : OpenError) → Refuses Found b.idle.system b.idle.text (state b.idle.disk) error → Refuses Found system text (state handed) error
  refuses_first error refuses =
      subst (λ d. Refuses Found system text (state d) error) b.disk_is
      (subst (λ t. Refuses Found system t (state b.idle.disk) error) b.text_is
      (subst (λ s. Refuses Found s b.idle.text (state b.idle.disk) error) b.system_is refuses))

  why_is : (a b : Ended) → Some a ≡ Some b → a ≡ b
  why_is a b e = cc

  idles_by : (opening : Opening) (why : Ended) → HasGone state b.idle b.kept false session opening → refusal opening ≡ Some why
      → StaysIdle state b.idle b.kept session × IsDiskRefusal system text (state handed) why
  idles_by (Refused refused) why gone is = (
    gone.0,
    subst (λ e. IsDiskRefusal system text (state handed) e) (why_is (BadImage refused) why is) (refuses_first (error_of refused) gone.1),
  )
  idles_by NoMemory why gone is = (gone, subst (λ e. IsDiskRefusal system text (state handed) e) (why_is Memory why is) tt)
  idles_by SpentCounter why gone is = (
    gone.0,
    subst (λ e. IsDiskRefusal system text (state handed) e) (why_is Spent why is) (record { counter = gone.1.counter; refuses = refuses_first (NoCounter gone.1.counter) gone.1.refuses }),
  )
  idles_by Opened why gone is = cc
  idles_by Broke why gone is = cc

  unstopped : (stopped : Bool) (why : Ended) → stopped ≡ false → by_standing stopped why ≡ why
  unstopped false why is = refl
  unstopped true why is = cc

  never_by : (told told' w : Option (List ℕ)) (why status : Ended) (disk : D) (lives : List Life) (stops : List Stop) → IfSome told (λ bytes. Defines bytes system)
      → IfSome told (λ bytes. text ≡ text_of_definition (definition_lines (lines_of bytes))) → (idles : StaysIdle state b.idle b.kept session) → IsDiskRefusal system text (state handed) why
      → status ≡ by_standing idles.after.stopped why → IsClosedDown idles.after session.kept disk lives stops → IsSession state told told' w w handed disk status lives stops
  never_by told told' w why status disk lives stops defines text_is idles refused at over =
      let same : status ≡ why = at ∙ unstopped idles.after.stopped why (idles.stopped ∙ b.stopped_is) in
      let none : idles.after.last ≡ None = idles.last ∙ b.last_is in
      inr (
        inr (record {
          system = system;
          defines = defines;
          text = text;
          text_is = text_is;
          refusal = subst (λ s. IsDiskRefusal system text (state handed) s) (sym same) refused;
          wrote = subst (λ d. WroteNothing (state handed) (state d)) (sym over.disk_is) (subst (λ d. WroteNothing (state d) (state idles.after.disk)) b.disk_is idles.wrote);
        }),
        record {
          no_life = over.lives_are ∙ ap (λ l. session.kept.lives.items ++ listed l) none ∙ append-nil session.kept.lives.items ∙ idles.lives ∙ b.lives;
          no_stop = over.stops_are ∙ idles.stops ∙ b.stops;
          nothing = refl;
        },
      )

  pub never_opened : (told told' w : Option (List ℕ)) (why status : Ended) (disk : D) (lives : List Life) (stops : List Stop) → ended ≡ Some why → IfSome told (λ bytes. Defines bytes system)
      → IfSome told (λ bytes. text ≡ text_of_definition (definition_lines (lines_of bytes))) → status ≡ by_standing (is_session_stopped (standing_of session.place)) why → IsSessionClosed state session disk lives stops
      → IsSession state told told' w w handed disk status lives stops
  never_opened told told' w why status disk lives stops is defines text_is at over =
      let one = idles_by b.opening why b.gone (sym b.ends ∙ is) in
      never_by told told' w why status disk lives stops defines text_is one.0 one.1 (at ∙ ap (λ p. by_standing (is_session_stopped (standing_of p)) why) one.0.place)
      (subst (λ p. IsClosedAt state p session.kept disk lives stops) one.0.place over)

-- ---- how it ends

-- what holds of an end, and where the source was read to its end also if the system is down
at_end : (P : Ended → Type 0) (ended : Ended) → P ended → (ended ≡ Done → P DownAtEnd) → P (down_at_end ended)
at_end P Done one other = other refl
at_end P (Words word rule) one other = one
at_end P (BadLine line rule) one other = one
at_end P (BadCross line rule) one other = one
at_end P DownAtEnd one other = one
at_end P Read one other = one
at_end P Write one other = one
at_end P (BadImage refused) one other = one
at_end P Memory one other = one
at_end P (Limit n) one other = one
at_end P Spent one other = one

by_stopped : (P : Ended → Type 0) (stopped : Bool) (ended : Ended) → P ended → (P Done → P DownAtEnd) → P (by_standing stopped ended)
by_stopped P true ended one other = at_end P ended one (λ e. other (subst P e one))
by_stopped P false ended one other = one

read_down : (told left : Option (List ℕ)) (blocks others : List Block) → HasReadTold told left blocks others Done → HasReadTold told left blocks others DownAtEnd
read_down (Some bytes) (Some left) blocks others read = record { cut = read.cut; held = read.held; served = read.served; few = read.few; settled = read.settled; limit = tt }
read_down (Some bytes) None blocks others read = absurd read
read_down None left blocks others read = read

by_is : (stopped : Bool) (ended : Ended) (standing : Standing) → ended ≢ DownAtEnd → is_session_stopped standing ≡ stopped → IsBy (by_standing stopped ended) standing
by_is true Done standing not is = is
by_is false Done standing not is = is
by_is stopped DownAtEnd standing not is = absurd (not refl)
by_is true (Words word rule) standing not is = tt
by_is true (BadLine line rule) standing not is = tt
by_is true (BadCross line rule) standing not is = tt
by_is true Read standing not is = tt
by_is true Write standing not is = tt
by_is true (BadImage refused) standing not is = tt
by_is true Memory standing not is = tt
by_is true (Limit n) standing not is = tt
by_is true Spent standing not is = tt
by_is false (Words word rule) standing not is = tt
by_is false (BadLine line rule) standing not is = tt
by_is false (BadCross line rule) standing not is = tt
by_is false Read standing not is = tt
by_is false Write standing not is = tt
by_is false (BadImage refused) standing not is = tt
by_is false Memory standing not is = tt
by_is false (Limit n) standing not is = tt
by_is false Spent standing not is = tt

module _ {D : Type 0} (state : D → DiskState) (system : System) (source : List ℕ) (handed : D) where
  valid_at : (events : List DiskEvent) (place : Place D) (kept : Kept) → IsSoundAt state system source handed events place kept → IsSystem system
  valid_at events (Up control) kept sound = sound.valid
  valid_at events (Down idle) kept sound = sound.valid
  valid_at events Moved kept sound = absurd sound

  -- the disk that the first life began with
  found_disk : (blocks others : List Block) (first mid last : SessionState) (text : List ℕ) → BeginsSession (session_setting state system source handed) first
      → AreServed (session_setting state system source handed) blocks first mid text → IsLeftOver system others mid last → AskNoColdStart system blocks → is_some (last_life last.standing) ≡ true
      → HasSectors system (state handed) → IsFoundDisk system source (state handed)
  found_disk blocks others first mid last text begins served left warm some enough = record {
    size = enough;
    right_text = λ tells. (opened_found (session_setting state system source handed) tells blocks others first mid last text begins served left warm some).right;
    states = λ tells image there.
        let f : IsFound (session_setting state system source handed) = opened_found (session_setting state system source handed) tells blocks others first mid last text begins served left warm some in
        record { state = f.opening; found = f.begins image there };
  }

  lived_by : (told mid : Option (List ℕ)) (held : List ℕ) (left w w' : Option (List ℕ)) (texts : List (List ℕ)) (disk : D) (first last : SessionState) (stopped : Bool) (ended : Ended)
      (lives : List Life) (stops : List Stop) → IsSystem system → ReadsDefinition told texts mid → BeginsSession (session_setting state system source handed) first → IsOpenedBy first.standing system source (state handed)
      → HasDriven (session_setting state system source handed) (length texts) mid (unread held left) w w' first last ended → is_session_stopped last.standing ≡ stopped
      → Remains state system source handed disk last lives stops → HasLived state system source told left w w' handed disk (by_standing stopped ended) (map life_of lives) stops
  lived_by told mid held left w w' texts disk first last stopped ended lives stops valid definition begins opened driven is rest = record {
    blocks = driven.blocks;
    others = driven.others;
    valid = valid;
    few = driven.few;
    first = first;
    mid = driven.stops.mid;
    last = last;
    text = driven.stops.text;
    begun = by_stopped (λ s. ending_of s ≢ NotBegun) stopped ended driven.begun (λ one. one);
    begins = begins;
    opened = opened;
    enough = rest.enough;
    found = λ some warm.
        found_disk driven.blocks driven.others first driven.stops.mid last driven.stops.text begins driven.stops.served
        (left_over ended system driven.others driven.stops.mid last driven.stops.end_text driven.stops.behind) warm some (rest.enough some);
    session = driven.stops.served;
    end_text = driven.stops.end_text;
    behind = by_stopped (λ s. IsLeftBehind s system driven.others driven.stops.mid last driven.stops.end_text) stopped ended driven.stops.behind (λ one. one);
    undone = by_stopped (λ s. UndoneAs s driven.others (session_setting state system source handed) last) stopped ended driven.stops.undone (λ one. tt);
    read = by_stopped (λ s. HasReadTold told left driven.blocks driven.others s) stopped ended (whole_session ended told mid held left texts driven.blocks driven.others definition driven.read)
        (read_down told left driven.blocks driven.others);
    written = by_stopped (λ s. HasWrittenText w w' (driven.stops.text ++ driven.stops.end_text) s) stopped ended driven.stops.printed (λ one. one);
    lives_are = rest.lives_are;
    legal = rest.legal;
    bound = lives_bound (session_setting state system source handed) driven.blocks driven.others first driven.stops.mid last driven.stops.text (map life_of lives) begins driven.stops.served
        (left_over ended system driven.others driven.stops.mid last driven.stops.end_text driven.stops.behind) rest.lives_are;
    stops_are = rest.stops_are;
    same = rest.same;
    happened = rest.happened;
    told_as = rest.told;
    counted = rest.counted;
    images = rest.images;
    whole = λ image left.
        by_stopped (λ s. IsWhole s system last.standing image) stopped ended
        (whole_image state system source handed ended driven.others driven.stops.mid last driven.stops.end_text image driven.stops.behind (rest.images image left)) (λ one. tt);
    numbered = rest.numbered;
    by = by_is stopped ended last.standing driven.not_down is;
  }

  -- a session that was driven from where it began
  pub is_session : (told mid : Option (List ℕ)) (held : List ℕ) (left w w' : Option (List ℕ)) (count : ℕ) (disk : D) (events : List DiskEvent) (a b : Session D) (ended status : Ended)
      (lives : List Life) (stops : List Stop) → IsDefinitionRead told mid count system source → IfSome told (λ bytes. source ≡ text_of_definition (definition_lines (lines_of bytes)))
      → BeginsSession (session_setting state system source handed) (session_of events a) → IsOpenedBy (standing_of a.place) system source (state handed) → IsSessionSound state system source handed events a
      → Leads state (λ setting x y. HasDriven setting count mid (unread held left) w w' x y ended) a b → status ≡ by_standing (is_session_stopped (standing_of b.place)) ended
      → SessionLeaves state b disk lives stops
      → IsSession state told left w w' handed disk status lives stops
  is_session told mid held left w w' count disk events a b ended status lives stops definition text_is begins opened sound leads at over =
      let led : LeadsBy state (λ setting x y. HasDriven setting count mid (unread held left) w w' x y ended) system source handed events a b = leads system source handed events sound in
      inl (record {
        system = system;
        defines = definition.defines;
        text = source;
        text_is = text_is;
        lived = subst (λ s. HasLived state system source told left w w' handed disk s (map life_of lives) stops) (sym at)
            (lived_by told mid held left w w' definition.texts disk (session_of events a) (session_of led.events_now b) (is_session_stopped (standing_of b.place)) ended lives stops (valid_at events a.place a.kept sound) definition.read begins opened
            (subst (λ n. HasDriven (session_setting state system source handed) n mid (unread held left) w w' (session_of events a) (session_of led.events_now b) ended) (sym definition.counted) led.goes) refl
            (over system source handed led.events_now led.sound));
      })

-- a session that has not begun
pub nothing_session : {D : Type 0} (state : D → DiskState) (told told' w : Option (List ℕ)) (handed disk : D) (ended status : Ended) (lives : List Life) (stops : List Stop) → IsUnbegun told ended
    → IsNothing handed ended status disk lives stops → IsSession state told told' w w handed disk status lives stops
nothing_session state told told' w handed disk ended status lives stops unbegun nothing =
    inr (
      inl (record { unbegun = subst (λ s. IsUnbegun told s) (sym nothing.status_is) unbegun; same = nothing.disk_is }),
      record { no_life = nothing.no_life; no_stop = nothing.no_stop; nothing = refl },
    )
