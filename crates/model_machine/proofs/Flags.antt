-- Where the flags of the codes that moved follow, those of all codes do.
use Rattle.std.proofs.Common.{◌≡◌, ℕ, zero, suc, Bool, true, false, cond, List, [], ◌∷◌, map, length, Option, Some, None, slice_get, refl, sym, ap, ◌∙◌, true≢false, arith}
use Rattle.std.specs.Prelude.{position, ◌==◌, ◌&&◌, ◌||◌, not, nat_le}
use Rattle.std.specs.Option.{option_map, option_map_or, unwrap_or}
use Rattle.std.specs.List.{list_any}
use Rattle.std.specs.Str.{bytes_eq}
use Rattle.std.proofs.lemmas.List.Quantifiers.{position-Some}
use Rattle.std.proofs.lemmas.Option.{slice_get-map, get_or_from_slice_get}
use Rattle.std.proofs.lemmas.Slice.Eq.{bytes_eq-Decides}
use Rattle.model_system.specs.CodeStates.{with_raised}
use Rattle.model_system.specs.Codes.{code_place}
use Rattle.model_system.specs.declared.code_state.CodeState.{CodeState}
use Rattle.model_system.specs.declared.code.Code.{Code}
use Rattle.model_machine.specs.Machine.{raised_by, raised_now, setting_of, states_by}
use Rattle.model_machine.specs.Flags.{is_raised, followed_by, followed, all_followed}

abbrev pub flags_of : List CodeState → List Bool
flags_of states = map (λ state. state.raised) states

-- each code is found under its own name at its own place
abbrev pub AreApart : List Code → Type 0
AreApart codes = (place : ℕ) (code : Code) → slice_get codes place ≡ Some code → code_place codes code.transaction.code ≡ Some place

set_here : (place : ℕ) (raised : Bool) (states : List CodeState)
    → slice_get (flags_of (with_raised place raised states)) place ≡ option_map (λ _. raised) (slice_get (flags_of states) place)
set_here zero raised [] = refl
set_here (suc place) raised [] = refl
set_here zero raised (state ∷ states) = refl
set_here (suc place) raised (state ∷ states) = set_here place raised states

set_there : (other place : ℕ) (raised : Bool) (states : List CodeState) → (other ≡ place → ⊥)
    → slice_get (flags_of (with_raised other raised states)) place ≡ slice_get (flags_of states) place
set_there zero place raised [] apart = refl
set_there (suc other) place raised [] apart = refl
set_there zero zero raised (state ∷ states) apart = absurd (apart refl)
set_there zero (suc place) raised (state ∷ states) apart = refl
set_there (suc other) zero raised (state ∷ states) apart = refl
set_there (suc other) (suc place) raised (state ∷ states) apart = set_there other place raised states (λ e. apart (ap suc e))

raised_at : (state : Option CodeState) (raised : Bool) → option_map (λ s. s.raised) state ≡ Some raised → option_map_or (λ s. s.raised) state false ≡ raised
raised_at (Some state) raised e = ap (λ o. unwrap_or o false) e
raised_at None raised e = cc

found : (p : Code → Bool) (codes : List Code) (place : ℕ) (code : Code) → position p codes ≡ Some place → slice_get codes place ≡ Some code → p code ≡ true
found p codes place code at e = sym (ap p (get_or_from_slice_get codes place code code e)) ∙ (position-Some p codes place code at).1

twice : (none limit raised : Bool) → cond none false (cond limit true (cond none false (cond limit true raised))) ≡ cond none false (cond limit true raised)
twice true limit raised = refl
twice false true raised = refl
twice false false raised = refl

-- the flag of a code once that of a name followed
step : (codes : List Code) (name : List ℕ) (waiting : ℕ) (states : List CodeState) (place : ℕ) (code : Code) (raised : Bool)
    → slice_get codes place ≡ Some code → code_place codes code.transaction.code ≡ Some place → slice_get (flags_of states) place ≡ Some raised
    → slice_get (flags_of (followed codes name waiting states)) place
    ≡ Some (cond (bytes_eq code.transaction.code name) (raised_by code.transaction waiting raised) raised)
step codes name waiting states place code raised here own flag = by (bytes_eq code.transaction.code name) refl
  where
    now : option_map_or (λ s. s.raised) (slice_get states place) false ≡ raised
    now = raised_at (slice_get states place) raised (sym (slice_get-map (λ s. s.raised) states place) ∙ flag)

    at : Option ℕ → Option Bool
    at o = slice_get (flags_of (option_map_or (λ p. followed_by waiting (slice_get codes p) states p) o states)) place

    other : bytes_eq code.transaction.code name ≡ false → (q : ℕ) (o : Option Code) → code_place codes name ≡ Some q → slice_get codes q ≡ o
        → slice_get (flags_of (followed_by waiting o states q)) place ≡ Some raised
    other e q None found_at there = flag
    other e q (Some d) found_at there = set_there q place (raised_by d.transaction waiting (is_raised states q)) states apart ∙ flag
      where
        apart : q ≡ place → ⊥
        apart same =
            let one = ap (λ o. option_map_or (λ c. bytes_eq c.transaction.code name) o false) (sym there ∙ ap (slice_get codes) same ∙ here) in
            true≢false (sym (found (λ c. bytes_eq c.transaction.code name) codes q d found_at there) ∙ one ∙ e)

    none : bytes_eq code.transaction.code name ≡ false → (o : Option ℕ) → code_place codes name ≡ o → at o ≡ Some raised
    none e None placed = flag
    none e (Some q) placed = other e q (slice_get codes q) placed refl

    by : (b : Bool) → bytes_eq code.transaction.code name ≡ b → at (code_place codes name) ≡ Some (cond b (raised_by code.transaction waiting raised) raised)
    by true e =
        let same = (bytes_eq-Decides code.transaction.code name).0 e in
        ap at (ap (code_place codes) (sym same) ∙ own)
        ∙ ap (λ o. slice_get (flags_of (followed_by waiting o states place)) place) here
        ∙ set_here place (raised_by code.transaction waiting (is_raised states place)) states
        ∙ ap (option_map (λ _. raised_by code.transaction waiting (is_raised states place))) flag
        ∙ ap (λ r. Some (raised_by code.transaction waiting r)) now
    by false e = none e (code_place codes name) refl

-- the same for the codes of several names, at their own counts
steps : (codes : List Code) (waiting : List ℕ → ℕ) (names : List (List ℕ)) (states : List CodeState) (place : ℕ) (code : Code) (raised : Bool)
    → slice_get codes place ≡ Some code → code_place codes code.transaction.code ≡ Some place → slice_get (flags_of states) place ≡ Some raised
    → slice_get (flags_of (all_followed codes waiting names states)) place
    ≡ Some (cond (list_any (λ name. bytes_eq code.transaction.code name) names) (raised_by code.transaction (waiting code.transaction.code) raised) raised)
steps codes waiting [] states place code raised here own flag = flag
steps codes waiting (name ∷ names) states place code raised here own flag =
    steps codes waiting names (followed codes name (waiting name) states) place code
    (cond (bytes_eq code.transaction.code name) (raised_by code.transaction (waiting name) raised) raised) here own
    (step codes name (waiting name) states place code raised here own flag)
    ∙ ap Some (by (bytes_eq code.transaction.code name) refl)
  where
    among : Bool
    among = list_any (λ n. bytes_eq code.transaction.code n) names

    up : ℕ → Bool → Bool
    up w r = raised_by code.transaction w r

    own_count : ℕ
    own_count = waiting code.transaction.code

    more : (some : Bool) → cond some (up own_count (up own_count raised)) (up own_count raised) ≡ up own_count raised
    more true = twice (own_count == 0) (not (code.transaction.limit_count == 65535) && nat_le code.transaction.limit_count own_count) raised
    more false = refl

    by : (b : Bool) → bytes_eq code.transaction.code name ≡ b
        → cond among (up own_count (cond b (up (waiting name) raised) raised)) (cond b (up (waiting name) raised) raised)
        ≡ cond (b || among) (up own_count raised) raised
    by true e =
        ap (λ n. cond among (up own_count (up (waiting n) raised)) (up (waiting n) raised)) (sym ((bytes_eq-Decides code.transaction.code name).0 e))
        ∙ more among
    by false e = refl

-- a flag that all follow
now_at : (waiting : List ℕ → ℕ) (codes : List Code) (flags : List Bool) (place : ℕ) (code : Code) (raised : Bool)
    → slice_get codes place ≡ Some code → slice_get flags place ≡ Some raised
    → slice_get (raised_now waiting codes flags) place ≡ Some (raised_by code.transaction (waiting code.transaction.code) raised)
now_at waiting [] flags place code raised here flag = cc
now_at waiting (first ∷ codes) [] zero code raised here flag = cc
now_at waiting (first ∷ codes) [] (suc place) code raised here flag = cc
now_at waiting (first ∷ codes) (f ∷ flags) zero code raised here flag =
    ap (λ o. option_map (λ (c : Code). raised_by c.transaction (waiting c.transaction.code) f) o) here
    ∙ ap (λ o. option_map (λ r. raised_by code.transaction (waiting code.transaction.code) r) o) flag
now_at waiting (first ∷ codes) (f ∷ flags) (suc place) code raised here flag = now_at waiting codes flags place code raised here flag

-- flags that are each as all follow
each_now : (waiting : List ℕ → ℕ) (codes : List Code) (flags flags' : List Bool) → length flags ≡ length codes → length flags' ≡ length codes
    → ((place : ℕ) (code : Code) (raised : Bool) → slice_get codes place ≡ Some code → slice_get flags place ≡ Some raised
    → slice_get flags' place ≡ Some (raised_by code.transaction (waiting code.transaction.code) raised))
    → flags' ≡ raised_now waiting codes flags
each_now waiting [] [] [] l l' each = refl
each_now waiting [] (f ∷ flags) flags' l l' each = cc
each_now waiting [] [] (f' ∷ flags') l l' each = cc
each_now waiting (code ∷ codes) [] flags' l l' each = cc
each_now waiting (code ∷ codes) (f ∷ flags) [] l l' each = cc
each_now waiting (code ∷ codes) (f ∷ flags) (f' ∷ flags') l l' each =
    ap (λ g. g ∷ flags') (ap (λ o. unwrap_or o f') (each 0 code f refl refl))
    ∙ ap (λ gs. raised_by code.transaction (waiting code.transaction.code) f ∷ gs)
    (each_now waiting codes flags flags' (suc_same l) (suc_same l') (λ place. each (suc place)))
  where
    suc_same : {m n : ℕ} → suc m ≡ suc n → m ≡ n
    suc_same e = omega (arith, e)

raised_length : (place : ℕ) (raised : Bool) (states : List CodeState) → length (with_raised place raised states) ≡ length states
raised_length place raised [] = refl
raised_length zero raised (state ∷ states) = refl
raised_length (suc place) raised (state ∷ states) = ap suc (raised_length place raised states)

pub followed_length : (codes : List Code) (name : List ℕ) (waiting : ℕ) (states : List CodeState) → length (followed codes name waiting states) ≡ length states
followed_length codes name waiting states = by (code_place codes name)
  where
    one : (place : ℕ) (code : Option Code) → length (followed_by waiting code states place) ≡ length states
    one place (Some code) = raised_length place (raised_by code.transaction waiting (is_raised states place)) states
    one place None = refl

    by : (place : Option ℕ) → length (option_map_or (λ p. followed_by waiting (slice_get codes p) states p) place states) ≡ length states
    by None = refl
    by (Some place) = one place (slice_get codes place)

pub all_followed_length : (codes : List Code) (waiting : List ℕ → ℕ) (names : List (List ℕ)) (states : List CodeState)
    → length (all_followed codes waiting names states) ≡ length states
all_followed_length codes waiting [] states = refl
all_followed_length codes waiting (name ∷ names) states =
    all_followed_length codes waiting names (followed codes name (waiting name) states) ∙ followed_length codes name (waiting name) states

flags_length : (states : List CodeState) → length (flags_of states) ≡ length states
flags_length [] = refl
flags_length (state ∷ states) = ap suc (flags_length states)

-- what lasts of the codes stays
raised_settings : (place : ℕ) (raised : Bool) (states : List CodeState) → map setting_of (with_raised place raised states) ≡ map setting_of states
raised_settings place raised [] = refl
raised_settings zero raised (state ∷ states) = refl
raised_settings (suc place) raised (state ∷ states) = ap (λ ss. setting_of state ∷ ss) (raised_settings place raised states)

pub settings_stay_one : (codes : List Code) (name : List ℕ) (waiting : ℕ) (states : List CodeState) → map setting_of (followed codes name waiting states) ≡ map setting_of states
settings_stay_one codes name waiting states = by (code_place codes name)
  where
    one : (place : ℕ) (code : Option Code) → map setting_of (followed_by waiting code states place) ≡ map setting_of states
    one place (Some code) = raised_settings place (raised_by code.transaction waiting (is_raised states place)) states
    one place None = refl

    by : (place : Option ℕ) → map setting_of (option_map_or (λ p. followed_by waiting (slice_get codes p) states p) place states) ≡ map setting_of states
    by None = refl
    by (Some place) = one place (slice_get codes place)

pub settings_stay : (codes : List Code) (waiting : List ℕ → ℕ) (names : List (List ℕ)) (states : List CodeState)
    → map setting_of (all_followed codes waiting names states) ≡ map setting_of states
settings_stay codes waiting [] states = refl
settings_stay codes waiting (name ∷ names) states =
    settings_stay codes waiting names (followed codes name (waiting name) states) ∙ settings_stay_one codes name (waiting name) states

-- Where the flags stood as all followed, and only codes of these names have more or fewer messages waiting now, the flags of
-- these make those of all.
pub flags_follow : (codes : List Code) (before now : List ℕ → ℕ) (names : List (List ℕ)) (states : List CodeState)
    → AreApart codes → length states ≡ length codes → raised_now before codes (flags_of states) ≡ flags_of states
    → ((name : List ℕ) → list_any (λ n. bytes_eq name n) names ≡ false → now name ≡ before name)
    → flags_of (all_followed codes now names states) ≡ raised_now now codes (flags_of states)
flags_follow codes before now names states apart many settled others =
    each_now now codes (flags_of states) (flags_of (all_followed codes now names states)) (flags_length states ∙ many)
    (flags_length (all_followed codes now names states) ∙ all_followed_length codes now names states ∙ many) each
  where
    each : (place : ℕ) (code : Code) (raised : Bool) → slice_get codes place ≡ Some code → slice_get (flags_of states) place ≡ Some raised
        → slice_get (flags_of (all_followed codes now names states)) place ≡ Some (raised_by code.transaction (now code.transaction.code) raised)
    each place code raised here flag =
        steps codes now names states place code raised here (apart place code here) flag
        ∙ ap Some (by (list_any (λ n. bytes_eq code.transaction.code n) names) refl)
      where
        stood : raised_by code.transaction (before code.transaction.code) raised ≡ raised
        stood =
            ap (λ o. unwrap_or o raised)
            (sym (now_at before codes (flags_of states) place code raised here flag) ∙ ap (λ fs. slice_get fs place) settled ∙ flag)

        by : (b : Bool) → list_any (λ n. bytes_eq code.transaction.code n) names ≡ b
            → cond b (raised_by code.transaction (now code.transaction.code) raised) raised ≡ raised_by code.transaction (now code.transaction.code) raised
        by true e = refl
        by false e = sym (ap (λ w. raised_by code.transaction w raised) (others code.transaction.code e) ∙ stood)

-- flags that followed stand as they follow
pub now_twice : (waiting : List ℕ → ℕ) (codes : List Code) (flags : List Bool)
    → raised_now waiting codes (raised_now waiting codes flags) ≡ raised_now waiting codes flags
now_twice waiting [] flags = refl
now_twice waiting (code ∷ codes) [] = refl
now_twice waiting (code ∷ codes) (f ∷ flags) =
    ap (λ g. g ∷ raised_now waiting codes (raised_now waiting codes flags)) (twice (w == 0) (not (code.transaction.limit_count == 65535) && nat_le code.transaction.limit_count w) f)
    ∙ ap (λ gs. raised_by code.transaction w f ∷ gs) (now_twice waiting codes flags)
  where
    w : ℕ
    w = waiting code.transaction.code

-- the flags by counts that are the same
pub now_same : (before now : List ℕ → ℕ) (codes : List Code) (flags : List Bool) → ((name : List ℕ) → before name ≡ now name)
    → raised_now before codes flags ≡ raised_now now codes flags
now_same before now codes flags same = λ i. raised_now (λ name. same name i) codes flags

-- states are what lasts of them with their flags
pub states_again : (states : List CodeState) → states_by (map setting_of states) (flags_of states) ≡ states
states_again [] = refl
states_again (state ∷ states) = ap (λ ss. state ∷ ss) (states_again states)
