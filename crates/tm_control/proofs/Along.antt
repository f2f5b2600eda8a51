-- What lasted along the entries of a life, and what of it pends.
use Rattle.std.proofs.Common.{◌≡◌, ◌≤◌, ◌+◌, ◌-◌, ℕ, zero, suc, Bool, true, false, List, [], ◌∷◌, ◌++◌, refl, sym, ◌∙◌, ap, subst, arith, length, drop}
use Rattle.std.specs.Prelude.{Option, Some, None, Ok, slice_get, if◌then◌else◌}
use Rattle.std.specs.Option.{is_some, option_map_or}
use Rattle.std.proofs.lemmas.List.{drop-append-le, length-append, length-drop}
use Rattle.std.proofs.Math.Seq.{drop-append_seam}
use Rattle.tm_disk.specs.Disk.{Image, DiskState}
use Rattle.model_image.specs.RecoveredState.{Recovers}
use Rattle.model_system.specs.System.{System}
use Rattle.model_machine.specs.LastingSteps.{LastingStep, applied}
use Rattle.model_machine.specs.Machine.{LastingState, Moment, start_of}
use Rattle.model_machine.specs.MachineCalls.{lasting_step}
use Rattle.model_machine.specs.History.{after_entry, call_of, moment_after}
use Rattle.model_machine.specs.declared.entry.Entry.{Entry}
use Rattle.disk_law.specs.KeptImages.{RecoversOne}
use Rattle.logged_machine.specs.CallOutcome.{with_step}
use Rattle.logged_machine.specs.LoggedState.{LoggedState}
use Rattle.tm_control.specs.ControlOnDisk.{RecoversSince, lasting_after_entries}
use Rattle.tm_control.specs.ControlParts.{IsControlServed, states_along, states_pending}

-- ---- one entry

-- whether a step lasts of it
abbrev pub lasts_at : System → Moment → Entry → Bool
lasts_at system moment entry = is_some (lasting_step system moment (call_of entry))

-- an entry of which none does leaves what lasts as it is
stays_at : (system : System) (moment : Moment) (entry : Entry) → lasts_at system moment entry ≡ false → (after_entry system moment entry).lasting ≡ moment.lasting
stays_at system moment entry = by (lasting_step system moment (call_of entry))
  where
    by : (step : Option LastingStep) → is_some step ≡ false → option_map_or (λ s. applied s moment.lasting) step moment.lasting ≡ moment.lasting
    by None e = refl
    by (Some step) e = absurd cc

-- and any other counts one step on
counts_at : (system : System) (moment : Moment) (entry : Entry) → lasts_at system moment entry ≡ true → (after_entry system moment entry).lasting.steps ≡ moment.lasting.steps + 1
counts_at system moment entry = by (lasting_step system moment (call_of entry))
  where
    by : (step : Option LastingStep) → is_some step ≡ true → (option_map_or (λ s. applied s moment.lasting) step moment.lasting).steps ≡ moment.lasting.steps + 1
    by None e = absurd cc
    by (Some step) e = refl

-- what lasts before an entry stands in front where a step lasts of it
abbrev with_first : Bool → LastingState → List LastingState → List LastingState
with_first b first states = if b then first ∷ states else states

-- ---- an entry more

step_behind : (first : LastingState) (states : List LastingState) (step : Bool) (last : LastingState) → first ∷ with_step states step last ≡ with_step (first ∷ states) step last
step_behind first states true last = refl
step_behind first states false last = refl

along_more : (system : System) (moment : Moment) (entries : List Entry) (entry : Entry)
    → states_along system moment (entries ++ entry ∷ []) ≡ with_step (states_along system moment entries) (lasts_at system (moment_after system moment entries) entry) (moment_after system moment (entries ++ entry ∷ [])).lasting
along_more system moment [] entry = by (lasts_at system moment entry) refl
  where
    by : (b : Bool) → lasts_at system moment entry ≡ b
        → with_first b moment.lasting ((after_entry system moment entry).lasting ∷ []) ≡ with_step (moment.lasting ∷ []) b (after_entry system moment entry).lasting
    by true e = refl
    by false e = ap (λ s. s ∷ []) (stays_at system moment entry e)
along_more system moment (first ∷ entries) entry = by (lasts_at system moment first) (along_more system (after_entry system moment first) entries entry)
  where
    behind : Moment
    behind = after_entry system moment first

    by : (b : Bool)
        → states_along system behind (entries ++ entry ∷ []) ≡ with_step (states_along system behind entries) (lasts_at system (moment_after system behind entries) entry) (moment_after system behind (entries ++ entry ∷ [])).lasting
        → with_first b moment.lasting (states_along system behind (entries ++ entry ∷ []))
        ≡ with_step (with_first b moment.lasting (states_along system behind entries)) (lasts_at system (moment_after system behind entries) entry) (moment_after system behind (entries ++ entry ∷ [])).lasting
    by true rest =
        ap (λ (states : List LastingState). moment.lasting ∷ states) rest
        ∙ step_behind moment.lasting (states_along system behind entries) (lasts_at system (moment_after system behind entries) entry) (moment_after system behind (entries ++ entry ∷ [])).lasting
    by false rest = rest

-- ---- how many there are, and the last one

along_counts : (system : System) (moment : Moment) (entries : List Entry) → moment.lasting.steps + length (states_along system moment entries) ≡ (moment_after system moment entries).lasting.steps + 1
along_counts system moment [] = refl
along_counts system moment (first ∷ entries) = by (lasts_at system moment first) refl (along_counts system (after_entry system moment first) entries)
  where
    behind : Moment
    behind = after_entry system moment first

    by : (b : Bool) → lasts_at system moment first ≡ b → behind.lasting.steps + length (states_along system behind entries) ≡ (moment_after system behind entries).lasting.steps + 1
        → moment.lasting.steps + length (with_first b moment.lasting (states_along system behind entries)) ≡ (moment_after system behind entries).lasting.steps + 1
    by true e rest = omega (arith, rest, counts_at system moment first e)
    by false e rest = omega (arith, rest, ap (λ (s : LastingState). s.steps) (stays_at system moment first e))

-- the states end with this one
record EndsWith (states : List LastingState) (last : LastingState) : Type 0 where
  before : List LastingState
  is : states ≡ before ++ last ∷ []

along_ends : (system : System) (moment : Moment) (entries : List Entry) → EndsWith (states_along system moment entries) (moment_after system moment entries).lasting
along_ends system moment [] = record { before = []; is = refl }
along_ends system moment (first ∷ entries) = by (lasts_at system moment first) (along_ends system (after_entry system moment first) entries)
  where
    behind : Moment
    behind = after_entry system moment first

    by : (b : Bool) → EndsWith (states_along system behind entries) (moment_after system behind entries).lasting → EndsWith (with_first b moment.lasting (states_along system behind entries)) (moment_after system behind entries).lasting
    by true rest = record { before = moment.lasting ∷ rest.before; is = ap (λ (states : List LastingState). moment.lasting ∷ states) rest.is }
    by false rest = rest

along_last : (system : System) (moment : Moment) (entries : List Entry) (steps : ℕ) → steps ≡ (moment_after system moment entries).lasting.steps
    → drop (steps - moment.lasting.steps) (states_along system moment entries) ≡ (moment_after system moment entries).lasting ∷ []
along_last system moment entries steps are =
    let e : EndsWith (states_along system moment entries) (moment_after system moment entries).lasting = along_ends system moment entries in
    let many : length (states_along system moment entries) ≡ length e.before + 1 = ap (λ (states : List LastingState). length states) e.is ∙ length-append e.before ((moment_after system moment entries).lasting ∷ []) in
    let skipped : steps - moment.lasting.steps ≡ length e.before = omega (arith, are, many, along_counts system moment entries) in
    ap (λ n. drop n (states_along system moment entries)) skipped ∙ ap (λ (states : List LastingState). drop (length e.before) states) e.is ∙ drop-append_seam e.before ((moment_after system moment entries).lasting ∷ [])

-- ---- each one lasted behind a front of the entries

record FrontAt (system : System) (moment : Moment) (entries : List Entry) (place : ℕ) (state : LastingState) : Type 0 where
  front : List Entry
  rest : List Entry
  split : entries ≡ front ++ rest
  is : (moment_after system moment front).lasting ≡ state
  steps : state.steps ≡ moment.lasting.steps + place

front_at : (system : System) (moment : Moment) (entries : List Entry) (place : ℕ) (state : LastingState) → slice_get (states_along system moment entries) place ≡ Some state → FrontAt system moment entries place state
front_at system moment [] zero state found =
    let same : moment.lasting ≡ state = cc in
    record { front = []; rest = []; split = refl; is = same; steps = omega (arith, ap (λ (s : LastingState). s.steps) same) }
front_at system moment [] (suc place) state found = absurd cc
front_at system moment (first ∷ entries) place state found = by (lasts_at system moment first) refl place refl found (λ k f. front_at system (after_entry system moment first) entries k state f)
  where
    behind : Moment
    behind = after_entry system moment first

    further : (k : ℕ) → FrontAt system behind entries k state → behind.lasting.steps + k ≡ moment.lasting.steps + place → FrontAt system moment (first ∷ entries) place state
    further k f counts = record { front = first ∷ f.front; rest = f.rest; split = ap (λ (es : List Entry). first ∷ es) f.split; is = f.is; steps = omega (arith, f.steps, counts) }

    by : (b : Bool) → lasts_at system moment first ≡ b → (k : ℕ) → k ≡ place → slice_get (with_first b moment.lasting (states_along system behind entries)) k ≡ Some state
        → ((n : ℕ) → slice_get (states_along system behind entries) n ≡ Some state → FrontAt system behind entries n state) → FrontAt system moment (first ∷ entries) place state
    by true e zero at f rest =
        let same : moment.lasting ≡ state = cc in
        record { front = []; rest = first ∷ entries; split = refl; is = same; steps = omega (arith, at, ap (λ (s : LastingState). s.steps) same) }
    by true e (suc k) at f rest = further k (rest k f) (omega (arith, at, counts_at system moment first e))
    by false e k at f rest = further k (rest k f) (omega (arith, at, ap (λ (s : LastingState). s.steps) (stays_at system moment first e)))

get_dropped : {A : Type 0} (n : ℕ) (xs : List A) (place : ℕ) → slice_get (drop n xs) place ≡ slice_get xs (n + place)
get_dropped zero xs place = let e : place ≡ 0 + place = omega arith in ap (slice_get xs) e
get_dropped (suc n) [] place = refl
get_dropped (suc n) (x ∷ xs) place = let e : suc (n + place) ≡ suc n + place = omega arith in get_dropped n xs place ∙ ap (slice_get (x ∷ xs)) e

-- so what recovers to one of those that pend recovers to what lasted behind a front with as many steps
pub recovers_since : (system : System) (opening : LastingState) (forced : ℕ) (entries : List Entry) (image : Image)
    → RecoversOne system (states_pending system opening forced entries) image → RecoversSince system opening (forced - opening.steps) entries image
recovers_since system opening forced entries image one =
    let at : FrontAt system (start_of system opening) entries (forced - opening.steps + one.place) one.state =
    front_at system (start_of system opening) entries (forced - opening.steps + one.place) one.state
    (sym (get_dropped (forced - opening.steps) (states_along system (start_of system opening) entries) one.place) ∙ one.found) in
    record {
      front = at.front;
      rest = at.rest;
      split = at.split;
      enough = omega (arith, ap (λ (s : LastingState). s.steps) at.is, at.steps);
      recovers = subst (λ (s : LastingState). Recovers system image (Ok s)) (sym at.is) one.recovers;
    }

-- ---- what pends

-- some do, so no more are forced than were done
pub pending_within : (system : System) (opening : LastingState) (forced : ℕ) (entries : List Entry) (first : LastingState) (rest : List LastingState)
    → opening.steps ≤ forced → states_pending system opening forced entries ≡ first ∷ rest → forced ≤ (lasting_after_entries system opening entries).steps
pending_within system opening forced entries first rest more are =
    let many : length (states_along system (start_of system opening) entries) - (forced - opening.steps) ≡ length (first ∷ rest) =
    sym (length-drop (forced - opening.steps) (states_along system (start_of system opening) entries)) ∙ ap (λ (states : List LastingState). length states) are in
    let all : opening.steps + length (states_along system (start_of system opening) entries) ≡ (lasting_after_entries system opening entries).steps + 1 =
    along_counts system (start_of system opening) entries in
    omega (arith, more, many, all)

pub forced_within : {D : Type 0} (state : D → DiskState) (machine : LoggedState D) (opening : LastingState) (first : ℕ) (history : List Entry) (steps : ℕ)
    → IsControlServed state machine opening first history steps → machine.forced ≤ machine.machine.moment.lasting.steps
forced_within state machine opening first history steps h =
    subst (λ (m : Moment). machine.forced ≤ m.lasting.steps) h.moment
    (pending_within machine.machine.system opening machine.forced history h.pends.logged.pends.forced.lasting h.pends.logged.pends.since h.more h.pends.logged.pends.are)

dropped_step : (n : ℕ) (states : List LastingState) (step : Bool) (last : LastingState) → n ≤ length states → drop n (with_step states step last) ≡ with_step (drop n states) step last
dropped_step n states true last few = drop-append-le n states (last ∷ []) few
dropped_step n states false last few = refl

-- with an entry more, its step pends behind the others
pub pending_more : (system : System) (opening : LastingState) (forced : ℕ) (entries : List Entry) (entry : Entry) → forced ≤ (lasting_after_entries system opening entries).steps
    → states_pending system opening forced (entries ++ entry ∷ [])
    ≡ with_step (states_pending system opening forced entries) (lasts_at system (moment_after system (start_of system opening) entries) entry) (lasting_after_entries system opening (entries ++ entry ∷ []))
pending_more system opening forced entries entry within =
    let all : opening.steps + length (states_along system (start_of system opening) entries) ≡ (lasting_after_entries system opening entries).steps + 1 =
    along_counts system (start_of system opening) entries in
    ap (λ (states : List LastingState). drop (forced - opening.steps) states) (along_more system (start_of system opening) entries entry)
    ∙ dropped_step (forced - opening.steps) (states_along system (start_of system opening) entries) (lasts_at system (moment_after system (start_of system opening) entries) entry)
    (lasting_after_entries system opening (entries ++ entry ∷ [])) (omega (arith, within, all))

-- where all was forced, what lasts alone does
pub pending_last : (system : System) (opening : LastingState) (entries : List Entry) (forced : ℕ) → forced ≡ (lasting_after_entries system opening entries).steps
    → states_pending system opening forced entries ≡ lasting_after_entries system opening entries ∷ []
pending_last system opening entries forced are = along_last system (start_of system opening) entries forced are
