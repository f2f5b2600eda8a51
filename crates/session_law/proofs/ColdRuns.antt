-- The lives of a session fall into runs, one more than cold starts at most, each of lives that opened with what the one before left.
use Rattle.std.proofs.Common.{◌≡◌, ◌⊎◌, ℕ, ◌+◌, ◌≤◌, Bool, true, false, List, [], ◌∷◌, ◌++◌, length, sym, ◌∙◌, ap, subst, refl, inl, inr, arith, append_assoc}
use Rattle.std.specs.Prelude.{Option, Some, None}
use Rattle.std.specs.List.{AllByRecursion}
use Rattle.std.proofs.lemmas.List.{length-append, append-nil}
use Rattle.model_system.specs.System.{System}
use Rattle.model_machine.specs.declared.entry.Entry.{Entry}
use Rattle.model_machine.specs.Machine.{LastingState, empty_state}
use Rattle.model_session.specs.declared.asked.Asked.{Asked}
use Rattle.model_session.specs.declared.asked.Asked.TheVariants.{Bad, BadCommand, Stopped, Call, Quiet, Power, PowerIn, Restart, ColdStart}
use Rattle.model_session.specs.Blocks.{Block}
use Rattle.model_session.specs.Lines.{asked_of}
use Rattle.model_session.specs.Lives.{LifeState, LastLife, LifeLeaves, kept_life, with_life, longer, forced_to, ends_life, failed_force}
use Rattle.model_session.specs.SessionState.{Setting, SessionState, Outage, Standing, MayBeFound, AreAllLives, unbegun, called_on, last_life}
use Rattle.model_session.specs.SessionState.Standing.{Up, Down}
use Rattle.model_session.specs.Session.{ServedBy, IsServedUp, IsServedDown, IsRestarted, AreServed, BeginsSession, IsBegunBy, EndsAt}
use Rattle.session_law.specs.LeftOver.{IsLeftOver}
use Rattle.session_law.specs.SentAgain.{alone, AreLeft}
use Rattle.session_law.specs.ColdRuns.{cold_count, colds_in, joined, OpensEmpty, AreEmptyBehind}
use Rattle.session_law.proofs.LifeEnds.{OpenedWith}
use Rattle.session_law.proofs.Linked.{same_first, first_stays, is_emptied}

-- ---- lists

joined_more : (runs : List (List LifeState)) (run : List LifeState) → joined (runs ++ run ∷ []) ≡ joined runs ++ run
joined_more [] run = append-nil run
joined_more (first ∷ runs) run = ap (λ (ls : List LifeState). first ++ ls) (joined_more runs run) ∙ sym (append_assoc first (joined runs) run)

all_more : (P : List LifeState → Type 0) (runs : List (List LifeState)) (run : List LifeState) → AllByRecursion P runs → P run → AllByRecursion P (runs ++ run ∷ [])
all_more P [] run each last = (last, tt)
all_more P (first ∷ runs) run each last = (each.0, all_more P runs run each.1 last)

same_left : (system : System) (lives : List LifeState) (a b : LifeState) → a.opening ≡ b.opening → AreLeft system (lives ++ a ∷ []) → AreLeft system (lives ++ b ∷ [])
same_left system [] a b same left = (tt, tt)
same_left system (life ∷ []) a b same left = (subst (λ (s : LastingState). LifeLeaves system (alone life) life.kept s) same left.0, (tt, tt))
same_left system (life ∷ next ∷ lives) a b same left = (left.0, same_left system (next ∷ lives) a b same left.1)

one_left : (system : System) (lives : List LifeState) (a b : LifeState) → LifeLeaves system (alone a) a.kept b.opening → AreLeft system (lives ++ a ∷ []) → AreLeft system ((lives ++ a ∷ []) ++ b ∷ [])
one_left system [] a b leaves left = (leaves, (tt, tt))
one_left system (life ∷ []) a b leaves left = (left.0, one_left system [] a b leaves left.1)
one_left system (life ∷ next ∷ lives) a b leaves left = (left.0, one_left system (next ∷ lives) a b leaves left.1)

-- ---- runs that open with the empty state

same_empty : (system : System) (lives : List LifeState) (a b : LifeState) → a.opening ≡ b.opening → OpensEmpty system (lives ++ a ∷ []) → OpensEmpty system (lives ++ b ∷ [])
same_empty system [] a b same h = sym same ∙ h
same_empty system (life ∷ lives) a b same h = h

empty_stays : (system : System) (lives : List LifeState) (a b : LifeState) → OpensEmpty system (lives ++ a ∷ []) → OpensEmpty system ((lives ++ a ∷ []) ++ b ∷ [])
empty_stays system [] a b h = h
empty_stays system (life ∷ lives) a b h = h

last_empty : (system : System) (runs : List (List LifeState)) (run other : List LifeState) → (OpensEmpty system run → OpensEmpty system other) → AllByRecursion (OpensEmpty system) (runs ++ run ∷ []) → AllByRecursion (OpensEmpty system) (runs ++ other ∷ [])
last_empty system [] run other on h = (on h.0, tt)
last_empty system (first ∷ runs) run other on h = (h.0, last_empty system runs run other on h.1)

other_behind : (system : System) (runs : List (List LifeState)) (run other : List LifeState) → (OpensEmpty system run → OpensEmpty system other) → AreEmptyBehind system (runs ++ run ∷ []) → AreEmptyBehind system (runs ++ other ∷ [])
other_behind system [] run other on h = tt
other_behind system (first ∷ runs) run other on h = last_empty system runs run other on h

one_behind : (system : System) (runs : List (List LifeState)) (run : List LifeState) → AreEmptyBehind system runs → OpensEmpty system run → AreEmptyBehind system (runs ++ run ∷ [])
one_behind system [] run h empty = tt
one_behind system (first ∷ runs) run h empty = all_more (OpensEmpty system) runs run h empty

-- ---- runs

-- what a run opens with: what was handed in, or the empty state
abbrev pub Begins : Setting → LastingState → Type 0
Begins setting state = setting.begins state ⊎ (state ≡ empty_state setting.system)

pub record IsRun (setting : Setting) (lives : List LifeState) : Type 0 where
  pub left : AreLeft setting.system lives
  pub begins : OpenedWith (Begins setting) lives

abbrev pub one_if : Bool → ℕ
one_if true = 1
one_if false = 0

-- The lives so far fall into runs, of which the last one goes on; one that broke off may begin another.
pub record IsDivided (setting : Setting) (colds : ℕ) (lives : List LifeState) (last : Option LastLife) (emptied : Bool) : Type 0 where
  pub runs : List (List LifeState)
  pub now : List LifeState
  pub all : lives ≡ joined runs ++ now
  pub few : length runs + one_if emptied ≤ colds
  pub each : AllByRecursion (IsRun setting) runs
  pub here : (kept : ℕ) → IsRun setting (with_life now last kept)
  pub behind : (kept : ℕ) → AreEmptyBehind setting.system (runs ++ with_life now last kept ∷ [])
  pub first : last ≡ None → (now ≡ []) × (runs ≡ [])

some_none : (life : LastLife) → Some life ≡ None → ⊥
some_none life e = cc

module _ (setting : Setting) where
  abbrev Divides : ℕ → List LifeState → Option LastLife → Bool → Type 0
  Divides colds lives last emptied = IsDivided setting colds lives last emptied

  more_divided : (colds most : ℕ) (lives : List LifeState) (last : Option LastLife) (emptied : Bool) → colds ≤ most → Divides colds lives last emptied → Divides most lives last emptied
  more_divided colds most lives last emptied less d = record { runs = d.runs; now = d.now; all = d.all; few = omega (arith, less, d.few); each = d.each; here = d.here; behind = d.behind; first = d.first }

  goes_divided : (colds : ℕ) (lives : List LifeState) (life : LastLife) (emptied : Bool) (entries : List Entry) (forced : ℕ) → Divides colds lives (Some life) emptied → Divides colds lives (Some (forced_to forced (longer life entries))) false
  goes_divided colds lives life emptied entries forced d = record {
    runs = d.runs;
    now = d.now;
    all = d.all;
    few = omega (arith, d.few);
    each = d.each;
    here = λ kept. record {
      left = same_left setting.system d.now (kept_life life kept) (kept_life (forced_to forced (longer life entries)) kept) refl (d.here kept).left;
      begins = same_first (Begins setting) d.now (kept_life life kept) (kept_life (forced_to forced (longer life entries)) kept) refl (d.here kept).begins;
    };
    behind = λ kept.
        other_behind setting.system d.runs (d.now ++ kept_life life kept ∷ []) (d.now ++ kept_life (forced_to forced (longer life entries)) kept ∷ [])
        (same_empty setting.system d.now (kept_life life kept) (kept_life (forced_to forced (longer life entries)) kept) refl) (d.behind kept);
    first = λ none. absurd (some_none (forced_to forced (longer life entries)) none);
  }

  -- the next life opened with what this one left
  left_divided : (colds : ℕ) (lives : List LifeState) (life : LastLife) (emptied : Bool) (kept checkpoint : ℕ) (state : LastingState) → Divides colds lives (Some life) emptied → LifeLeaves setting.system life kept state
      → Divides colds (lives ++ kept_life life kept ∷ []) (Some (record { opening = state; checkpoint = checkpoint; history = []; forced = 0 })) false
  left_divided colds lives life emptied kept checkpoint state d leaves = record {
    runs = d.runs;
    now = d.now ++ kept_life life kept ∷ [];
    all = ap (λ (ls : List LifeState). ls ++ kept_life life kept ∷ []) d.all ∙ append_assoc (joined d.runs) d.now (kept_life life kept ∷ []);
    few = omega (arith, d.few);
    each = d.each;
    here = λ count. record {
      left = one_left setting.system d.now (kept_life life kept) (kept_life (record { opening = state; checkpoint = checkpoint; history = []; forced = 0 }) count) leaves (d.here kept).left;
      begins = first_stays (Begins setting) d.now (kept_life life kept) (kept_life (record { opening = state; checkpoint = checkpoint; history = []; forced = 0 }) count) (d.here kept).begins;
    };
    behind = λ count.
        other_behind setting.system d.runs (d.now ++ kept_life life kept ∷ []) ((d.now ++ kept_life life kept ∷ []) ++ kept_life (record { opening = state; checkpoint = checkpoint; history = []; forced = 0 }) count ∷ [])
        (empty_stays setting.system d.now (kept_life life kept) (kept_life (record { opening = state; checkpoint = checkpoint; history = []; forced = 0 }) count)) (d.behind kept);
    first = λ none. absurd (some_none (record { opening = state; checkpoint = checkpoint; history = []; forced = 0 }) none);
  }

  -- the first life
  first_divided : (colds : ℕ) (lives : List LifeState) (emptied : Bool) (checkpoint : ℕ) (state : LastingState) → Divides colds lives None emptied → Begins setting state
      → Divides colds lives (Some (record { opening = state; checkpoint = checkpoint; history = []; forced = 0 })) false
  first_divided colds lives emptied checkpoint state d begins = record {
    runs = d.runs;
    now = d.now;
    all = d.all;
    few = omega (arith, d.few);
    each = d.each;
    here = λ count.
        subst (λ (ls : List LifeState). IsRun setting (ls ++ kept_life (record { opening = state; checkpoint = checkpoint; history = []; forced = 0 }) count ∷ [])) (sym (d.first refl).0)
        (record { left = (tt, tt); begins = begins });
    behind = λ count.
        subst (λ (rs : List (List LifeState)). AreEmptyBehind setting.system (rs ++ (d.now ++ kept_life (record { opening = state; checkpoint = checkpoint; history = []; forced = 0 }) count ∷ []) ∷ [])) (sym (d.first refl).1) tt;
    first = λ none. absurd (some_none (record { opening = state; checkpoint = checkpoint; history = []; forced = 0 }) none);
  }

  -- the next life opened with the empty state
  empty_divided : (colds most : ℕ) (lives : List LifeState) (life : LastLife) (emptied : Bool) (kept checkpoint : ℕ) (state : LastingState) → (d : Divides colds lives (Some life) emptied) → length d.runs + 1 ≤ most
      → state ≡ empty_state setting.system → Divides most (lives ++ kept_life life kept ∷ []) (Some (record { opening = state; checkpoint = checkpoint; history = []; forced = 0 })) false
  empty_divided colds most lives life emptied kept checkpoint state d few is =
      let run : List LifeState = d.now ++ kept_life life kept ∷ [] in
      record {
        runs = d.runs ++ run ∷ [];
        now = [];
        all = ap (λ (ls : List LifeState). ls ++ kept_life life kept ∷ []) d.all ∙ append_assoc (joined d.runs) d.now (kept_life life kept ∷ []) ∙ sym (joined_more d.runs run) ∙ sym (append-nil (joined (d.runs ++ run ∷ [])));
        few = omega (arith, few, length-append d.runs (run ∷ []));
        each = all_more (IsRun setting) d.runs run d.each (d.here kept);
        here = λ count. record { left = (tt, tt); begins = inr is };
        behind = λ count. one_behind setting.system (d.runs ++ run ∷ []) (kept_life (record { opening = state; checkpoint = checkpoint; history = []; forced = 0 }) count ∷ []) (d.behind kept) is;
        first = λ none. absurd (some_none (record { opening = state; checkpoint = checkpoint; history = []; forced = 0 }) none);
      }

  found_divided : (colds : ℕ) (lives : List LifeState) (last : Option LastLife) (emptied stopped : Bool) (kept checkpoint : ℕ) (state : LastingState) → Divides colds lives last emptied
      → MayBeFound setting (record { last = last; emptied = emptied; stopped = stopped }) kept state
      → Divides colds (with_life lives last kept) (Some (record { opening = state; checkpoint = checkpoint; history = []; forced = 0 })) false
  found_divided colds lives None emptied stopped kept checkpoint state d (inl found) = first_divided colds lives emptied checkpoint state d (inl found)
  found_divided colds lives None emptied stopped kept checkpoint state d (inr empty) = first_divided colds lives emptied checkpoint state d (inr empty.empty)
  found_divided colds lives (Some life) emptied stopped kept checkpoint state d (inl leaves) = left_divided colds lives life emptied kept checkpoint state d leaves
  found_divided colds lives (Some life) emptied stopped kept checkpoint state d (inr empty) =
      empty_divided colds colds lives life emptied kept checkpoint state d (subst (λ (b : Bool). length d.runs + one_if b ≤ colds) empty.broke_off d.few) empty.empty

  cold_divided : (colds : ℕ) (lives : List LifeState) (last : Option LastLife) (emptied : Bool) (kept checkpoint : ℕ) (state : LastingState) → Divides colds lives last emptied → state ≡ empty_state setting.system
      → Divides (colds + 1) (with_life lives last kept) (Some (record { opening = state; checkpoint = checkpoint; history = []; forced = 0 })) false
  cold_divided colds lives None emptied kept checkpoint state d is = more_divided colds (colds + 1) lives _ false (omega arith) (first_divided colds lives emptied checkpoint state d (inr is))
  cold_divided colds lives (Some life) emptied kept checkpoint state d is = empty_divided colds (colds + 1) lives life emptied kept checkpoint state d (omega (arith, d.few)) is

  -- a cold start that broke off
  broken_divided : (colds : ℕ) (lives : List LifeState) (last : Option LastLife) (emptied : Bool) → Divides colds lives last emptied → Divides (colds + 1) lives last true
  broken_divided colds lives last emptied d = record { runs = d.runs; now = d.now; all = d.all; few = omega (arith, d.few); each = d.each; here = d.here; behind = d.behind; first = d.first }

  -- ---- a session

  module _ (tells : setting.tells ≡ true) where
    abbrev Divided : ℕ → SessionState → Type 0
    Divided colds state = Divides colds state.lives (last_life state.standing) (is_emptied state.standing)

    abbrev AtStanding : ℕ → List LifeState → Standing → Type 0
    AtStanding colds lives standing = Divides colds lives (last_life standing) (is_emptied standing)

    same_divided : (colds : ℕ) (old new : SessionState) → new ≡ old → Divided colds old → Divided colds new
    same_divided colds old new same d = subst (Divided colds) (sym same) d

    called_divided : (colds : ℕ) (b : Bool) (old : SessionState) (life : LastLife) (entries : List Entry) (forced : ℕ) → AtStanding colds old.lives (Up life) → Divided colds (called_on b old life entries forced)
    called_divided colds true old life entries forced d = goes_divided colds old.lives life false entries forced d
    called_divided colds false old life entries forced d = goes_divided colds old.lives life false entries forced d

    up_divided : (colds : ℕ) (asked : Asked) (old : SessionState) (life : LastLife) (new : SessionState) (text : List ℕ) → Divided colds old → AtStanding colds old.lives (Up life) → IsServedUp asked setting old life new text → Divided colds new
    up_divided colds (Bad rule) old life new text d at (same, printed) = same_divided colds old new same d
    up_divided colds (BadCommand rule) old life new text d at (same, printed) = same_divided colds old new same d
    up_divided colds (Stopped terminal number reason) old life new text d at (same, printed) = same_divided colds old new same d
    up_divided colds (Call call) old life new text d at (inl one) = subst (Divided colds) (sym one.goes) (called_divided colds (ends_life one.entry) old life (one.entry ∷ []) one.forced at)
    up_divided colds (Call call) old life new text d at (inr (inl one)) = subst (Divided colds) (sym one.ends) (goes_divided colds old.lives life false (one.entry ∷ []) one.forced at)
    up_divided colds (Call call) old life new text d at (inr (inr one)) = subst (Divided colds) (sym one.ends) (goes_divided colds old.lives life false (one.entry ∷ failed_force ∷ []) one.forced at)
    up_divided colds (Quiet most) old life new text d at (inl one) = subst (Divided colds) (sym one.goes) (called_divided colds false old life one.turns one.forced at)
    up_divided colds (Quiet most) old life new text d at (inr one) = subst (Divided colds) (sym one.ends) (goes_divided colds old.lives life false (one.turns ++ one.entry ∷ []) one.forced at)
    up_divided colds (Power pick) old life new text d at (same, printed) = subst (Divided colds) (sym same) (goes_divided colds old.lives life false [] life.forced at)
    up_divided colds (PowerIn writes pick) old life new text d at (same, printed) = subst (Divided colds) (sym same) d
    up_divided colds Restart old life new text d at (same, printed) = same_divided colds old new same d
    up_divided colds ColdStart old life new text d at (same, printed) = same_divided colds old new same d

    restart_divided : (colds : ℕ) (old : SessionState) (outage : Outage) (new : SessionState) (text : List ℕ) → Divided colds old → AtStanding colds old.lives (Down outage) → IsRestarted false setting old outage new text → Divided colds new
    restart_divided colds old outage new text d at (inl (opens, printed)) =
        subst (Divided colds) (sym opens.goes) (found_divided colds old.lives outage.last outage.emptied outage.stopped opens.kept opens.checkpoint opens.state at (opens.may tells))
    restart_divided colds old outage new text d at (inr (inl (fails, printed))) = subst (Divided colds) (sym fails.ends) at
    restart_divided colds old outage new text d at (inr (inr none)) = same_divided colds old new none.stays d

    cold_start_divided : (colds : ℕ) (old : SessionState) (outage : Outage) (new : SessionState) (text : List ℕ) → Divided colds old → AtStanding colds old.lives (Down outage) → IsRestarted true setting old outage new text → Divided (colds + 1) new
    cold_start_divided colds old outage new text d at (inl (opens, printed)) =
        subst (Divided (colds + 1)) (sym opens.goes) (cold_divided colds old.lives outage.last outage.emptied opens.kept opens.checkpoint opens.state at (opens.may tells).0)
    cold_start_divided colds old outage new text d at (inr (inl (fails, printed))) = subst (Divided (colds + 1)) (sym fails.ends) (broken_divided colds old.lives outage.last outage.emptied at)
    cold_start_divided colds old outage new text d at (inr (inr none)) =
        more_divided colds (colds + 1) new.lives (last_life new.standing) (is_emptied new.standing) (omega arith) (same_divided colds old new none.stays d)

    no_more : (colds : ℕ) (state : SessionState) → Divided colds state → Divided (colds + 0) state
    no_more colds state d = more_divided colds (colds + 0) state.lives (last_life state.standing) (is_emptied state.standing) (omega arith) d

    down_divided : (colds : ℕ) (asked : Asked) (old : SessionState) (outage : Outage) (new : SessionState) (text : List ℕ) → Divided colds old → AtStanding colds old.lives (Down outage) → IsServedDown asked setting old outage new text
        → Divided (colds + cold_count asked) new
    down_divided colds (Bad rule) old outage new text d at (same, printed) = no_more colds new (same_divided colds old new same d)
    down_divided colds (BadCommand rule) old outage new text d at (same, printed) = no_more colds new (same_divided colds old new same d)
    down_divided colds (Stopped terminal number reason) old outage new text d at (same, printed) = no_more colds new (same_divided colds old new same d)
    down_divided colds (Call call) old outage new text d at (same, printed) = no_more colds new (same_divided colds old new same d)
    down_divided colds (Quiet most) old outage new text d at (same, printed) = no_more colds new (same_divided colds old new same d)
    down_divided colds (Power pick) old outage new text d at (same, printed) = no_more colds new (same_divided colds old new same d)
    down_divided colds (PowerIn writes pick) old outage new text d at (same, printed) = no_more colds new (same_divided colds old new same d)
    down_divided colds Restart old outage new text d at one = no_more colds new (restart_divided colds old outage new text d at one)
    down_divided colds ColdStart old outage new text d at one = cold_start_divided colds old outage new text d at one

    block_divided : (colds : ℕ) (asked : Asked) (old new : SessionState) (text : List ℕ) (standing : Standing) → old.standing ≡ standing → ServedBy standing asked setting old new text → Divided colds old → Divided (colds + cold_count asked) new
    block_divided colds asked old new text (Up life) at one d =
        more_divided colds (colds + cold_count asked) new.lives (last_life new.standing) (is_emptied new.standing) (omega arith)
        (up_divided colds asked old life new text d (subst (AtStanding colds old.lives) at d) one)
    block_divided colds asked old new text (Down outage) at one d = down_divided colds asked old outage new text d (subst (AtStanding colds old.lives) at d) one

    blocks_divided : (colds : ℕ) (blocks : List Block) (old new : SessionState) (text : List ℕ) → AreServed setting blocks old new text → Divided colds old → Divided (colds + colds_in setting.system blocks) new
    blocks_divided colds [] old new text (same, none) d = no_more colds new (same_divided colds old new same d)
    blocks_divided colds (block ∷ blocks) old new text one d =
        let asked : Asked = asked_of setting.system block in
        more_divided ((colds + cold_count asked) + colds_in setting.system blocks) (colds + colds_in setting.system (block ∷ blocks)) new.lives (last_life new.standing) (is_emptied new.standing) (omega arith)
        (blocks_divided (colds + cold_count asked) blocks one.mid new one.later one.on (block_divided colds asked old one.mid one.first old.standing refl one.here d))

    unbegun_divided : Divided 0 unbegun
    unbegun_divided = record { runs = []; now = []; all = refl; few = omega arith; each = tt; here = λ kept. record { left = tt; begins = tt }; behind = λ kept. tt; first = λ none. (refl, refl) }

    first_of_session : (first : SessionState) → BeginsSession setting first → Divided 0 first
    first_of_session first (inl opens) = subst (Divided 0) (sym opens.goes) (found_divided 0 [] None false false opens.kept opens.checkpoint opens.state unbegun_divided (opens.may tells))
    first_of_session first (inr fails) = subst (Divided 0) (sym fails.ends) unbegun_divided

    begun_divided : (colds : ℕ) (asked : Asked) (old : SessionState) (standing : Standing) (new : SessionState) → old.standing ≡ standing → IsBegunBy asked setting.system old standing new → Divided colds old → Divided colds new
    begun_divided colds (Quiet most) old (Up life) new at (inl same) d = same_divided colds old new same d
    begun_divided colds (Quiet most) old (Up life) new at (inr one) d = subst (Divided colds) (sym one.goes) (called_divided colds false old life one.turns one.forced (subst (AtStanding colds old.lives) at d))
    begun_divided colds (Quiet most) old (Down outage) new at same d = same_divided colds old new same d
    begun_divided colds (Bad rule) old standing new at same d = same_divided colds old new same d
    begun_divided colds (BadCommand rule) old standing new at same d = same_divided colds old new same d
    begun_divided colds (Stopped terminal number reason) old standing new at same d = same_divided colds old new same d
    begun_divided colds (Call call) old standing new at same d = same_divided colds old new same d
    begun_divided colds (Power pick) old standing new at same d = same_divided colds old new same d
    begun_divided colds (PowerIn writes pick) old standing new at same d = same_divided colds old new same d
    begun_divided colds Restart old standing new at same d = same_divided colds old new same d
    begun_divided colds ColdStart old standing new at same d = same_divided colds old new same d

    ended_divided : (colds : ℕ) (old : SessionState) (standing : Standing) (new : SessionState) (text : List ℕ) → old.standing ≡ standing → EndsAt standing setting.system old new text → Divided colds old → Divided colds new
    ended_divided colds old (Up life) new text at (inl forced) d = subst (Divided colds) (sym forced.goes) (called_divided colds false old life [] forced.forced (subst (AtStanding colds old.lives) at d))
    ended_divided colds old (Up life) new text at (inr cut) d = subst (Divided colds) (sym cut.ends) (goes_divided colds old.lives life false (failed_force ∷ []) life.forced (subst (AtStanding colds old.lives) at d))
    ended_divided colds old (Down outage) new text at (same, none) d = same_divided colds old new same d

    left_over : (colds : ℕ) (others : List Block) (mid last : SessionState) → IsLeftOver setting.system others mid last → Divided colds mid → Divided colds last
    left_over colds others mid last (inl same) d = same_divided colds mid last same d
    left_over colds [] mid last (inr (inl same)) d = same_divided colds mid last same d
    left_over colds (block ∷ others) mid last (inr (inl one)) d = begun_divided colds (asked_of setting.system block) mid mid.standing last refl one d
    left_over colds others mid last (inr (inr (text, ends))) d = ended_divided colds mid mid.standing last text refl ends d

    -- ---- all lives

    pub record ArePartedAs (colds : ℕ) (lives : List LifeState) : Type 0 where
      pub runs : List (List LifeState)
      pub all : lives ≡ joined runs
      pub few : length runs ≤ colds + 1
      pub each : AllByRecursion (IsRun setting) runs
      pub behind : AreEmptyBehind setting.system runs

    with_last : (runs : List (List LifeState)) (now lives : List LifeState) (last : Option LastLife) (kept : ℕ) → lives ≡ joined runs ++ now → with_life lives last kept ≡ joined (runs ++ with_life now last kept ∷ [])
    with_last runs now lives None kept all = all ∙ sym (joined_more runs now)
    with_last runs now lives (Some life) kept all =
        ap (λ (ls : List LifeState). ls ++ kept_life life kept ∷ []) all ∙ append_assoc (joined runs) now (kept_life life kept ∷ []) ∙ sym (joined_more runs (now ++ kept_life life kept ∷ []))

    pub lives_parted : (blocks others : List Block) (first mid last : SessionState) (text : List ℕ) (lives : List LifeState) → BeginsSession setting first → AreServed setting blocks first mid text
        → IsLeftOver setting.system others mid last → AreAllLives setting.system last lives → ArePartedAs (colds_in setting.system blocks) lives
    lives_parted blocks others first mid last text lives begins served left all =
        let d : Divided (0 + colds_in setting.system blocks) last = left_over (0 + colds_in setting.system blocks) others mid last left (blocks_divided 0 blocks first mid text served (first_of_session first begins)) in
        let run : List LifeState = with_life d.now (last_life last.standing) all.count in
        record {
          runs = d.runs ++ run ∷ [];
          all = all.are ∙ with_last d.runs d.now last.lives (last_life last.standing) all.count d.all;
          few = omega (arith, d.few, length-append d.runs (run ∷ []));
          each = all_more (IsRun setting) d.runs run d.each (d.here all.count);
          behind = d.behind all.count;
        }
