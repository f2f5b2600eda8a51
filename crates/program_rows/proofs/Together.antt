-- Several units side by side: any of them may be backed out first or last.
use Rattle.std.proofs.Common.{◌≡◌, ◌≢◌, ℕ, ◌<◌, ◌∷◌, [], List, length, zero, suc, refl, sym, ◌∙◌, ap, subst, arith, get_or, set, inl, inr, ⊎_elim}
use Rattle.std.specs.List.{AllByRecursion}
use Rattle.std.proofs.lemmas.Bool.{false≢true}
use Rattle.model_data.proofs.Lists.{all_then}
use Rattle.seg_store.specs.Slots.{Stored}
use Rattle.unit_work.specs.declared.change.Change.{Change}
use Rattle.unit_work.specs.BackOut.{backed_from, backed_out, CanBackOut}
use Rattle.unit_work.proofs.Backing.{none_cleared, none_backed}
use Rattle.program_rows.specs.OpenUnits.{backed_all}
use Rattle.unit_work.specs.Images.{slots_of_database, image_at}
use Rattle.program_rows.proofs.Slotwise.{back, backed_is, image_at_each, slots_at_length}
use Rattle.program_rows.proofs.Beside.{IsIdle, AreRooted, AreBeside, idle_stays, swap}
use Rattle.program_rows.proofs.Aside.{can_aside, aside_back}

pub backed_none : (stores : List Stored) → backed_out [] stores ≡ stores
backed_none stores = ap (backed_from [] 1) (none_cleared 1 stores) ∙ none_backed 1 stores

-- the same, the other way round
pub turned : (stores : List Stored) (a b : List Change) → AreBeside stores a b → AreBeside stores b a
turned stores a b h =
    record {
      others = h.turned;
      turned = h.others;
      rooted_a = h.rooted_b;
      rooted_b = h.rooted_a;
      apart = λ db slot least lt. ⊎_elim (λ i. inr i) (λ i. inl i) (h.apart db slot least lt);
    }

-- a unit that has changed nothing is beside any other
pub beside_none : (stores : List Stored) (a : List Change) → AreRooted a → AreBeside stores a []
beside_none stores a rooted =
    record {
      others = λ db root e. refl;
      turned = λ db root e. absurd (false≢true e);
      rooted_a = rooted;
      rooted_b = tt;
      apart = λ db slot least lt. inr (record { untouched = refl; unused = refl });
    }

-- two units stay side by side once a third is backed out
pub beside_back : (stores : List Stored) (a b c : List Change) → AreBeside stores a b → AreBeside stores a c → AreBeside stores b c → AreBeside (backed_out c stores) a b
beside_back stores a b c h ac bc =
    record {
      others = h.others;
      turned = h.turned;
      rooted_a = h.rooted_a;
      rooted_b = h.rooted_b;
      apart = λ db slot least lt.
          let within : slot < length (slots_of_database db stores) =
          subst (λ n. slot < n) (ap (λ ss. length (slots_of_database db ss)) (backed_is c stores) ∙ slots_at_length (back c) db stores least) lt in
          let new : image_at db slot (backed_out c stores) ≡ back c db slot (image_at db slot stores) =
          ap (image_at db slot) (backed_is c stores) ∙ image_at_each (back c) db slot stores least within in
          ⊎_elim
          (λ i. inl (subst (IsIdle a db slot) (sym new) (idle_stays a c db slot (image_at db slot stores) ac.turned ac.rooted_b i)))
          (λ i. inr (subst (IsIdle b db slot) (sym new) (idle_stays b c db slot (image_at db slot stores) bc.turned bc.rooted_b i))) (h.apart db slot least within);
    }

-- each of these units is beside each later one
abbrev pub AreAllBeside : List Stored → List (List Change) → Type 0
AreAllBeside stores [] = Unit {0}
AreAllBeside stores (a ∷ units) = AllByRecursion (AreBeside stores a) units × AreAllBeside stores units

-- once all these units are backed out, two others are still side by side
pub beside_all : (stores : List Stored) (a b : List Change) (units : List (List Change)) → AreBeside stores a b → AllByRecursion (AreBeside stores a) units
    → AllByRecursion (AreBeside stores b) units → AreAllBeside stores units → AreBeside (backed_all units stores) a b
beside_all stores a b [] h ha hb all = h
beside_all stores a b (c ∷ units) h ha hb all =
    beside_back (backed_all units stores) a b c
    (beside_all stores a b units h ha.1 hb.1 all.1)
    (beside_all stores a c units ha.0 ha.1 all.0 all.1)
    (beside_all stores b c units hb.0 hb.1 all.0 all.1)

-- a unit beside all these is backed out before them or after them
pub commute : (stores : List Stored) (a : List Change) (units : List (List Change)) → AllByRecursion (AreBeside stores a) units → AreAllBeside stores units
    → backed_out a (backed_all units stores) ≡ backed_all units (backed_out a stores)
commute stores a [] h all = refl
commute stores a (b ∷ units) h all =
    swap (backed_all units stores) a b (beside_all stores a b units h.0 h.1 all.0 all.1)
    ∙ ap (backed_out b) (commute stores a units h.1 all.1)

-- one of the units first
pub pull : (stores : List Stored) (units : List (List Change)) (place : ℕ) → place < length units → AreAllBeside stores units
    → backed_all units stores ≡ backed_all (set units place []) (backed_out (get_or units place []) stores)
pull stores [] place lt all = absurd (omega arith)
pull stores (a ∷ units) zero lt all = commute stores a units all.0 all.1 ∙ sym (backed_none (backed_all units (backed_out a stores)))
pull stores (a ∷ units) (suc place) lt all = ap (backed_out a) (pull stores units place (omega arith) all.1)

all_get : (P : List Change → Type 0) (units : List (List Change)) (place : ℕ) → AllByRecursion P units → place < length units → P (get_or units place [])
all_get P [] place h lt = absurd (omega arith)
all_get P (a ∷ units) zero h lt = h.0
all_get P (a ∷ units) (suc place) h lt = all_get P units place h.1 (omega arith)

pub all_set : (P : List Change → Type 0) (units : List (List Change)) (place : ℕ) (a : List Change) → AllByRecursion P units → P a → AllByRecursion P (set units place a)
all_set P [] place a h p = tt
all_set P (b ∷ units) zero a h p = (p, h.1)
all_set P (b ∷ units) (suc place) a h p = (h.0, all_set P units place a h.1 p)

rooted_all : (stores : List Stored) (a : List Change) (units : List (List Change)) → AllByRecursion (AreBeside stores a) units → AllByRecursion AreRooted units
rooted_all stores a units h = all_then (AreBeside stores a) AreRooted units (λ b g. g.rooted_b) h

-- without the changes of one they are still side by side
pub beside_without : (stores : List Stored) (units : List (List Change)) (place : ℕ) → AllByRecursion AreRooted units → AreAllBeside stores units → AreAllBeside stores (set units place [])
beside_without stores [] place rooted all = tt
beside_without stores (a ∷ units) zero rooted all =
    (all_then AreRooted (AreBeside stores []) units (λ b r. turned stores b [] (beside_none stores b r)) rooted.1, all.1)
beside_without stores (a ∷ units) (suc place) rooted all =
    (all_set (AreBeside stores a) units place [] all.0 (beside_none stores a rooted.0), beside_without stores units place rooted.1 all.1)

-- the unit at a place is beside all others
pub beside_others : (stores : List Stored) (units : List (List Change)) (place : ℕ) → place < length units → AllByRecursion AreRooted units → AreAllBeside stores units
    → AllByRecursion (AreBeside stores (get_or units place [])) (set units place [])
beside_others stores [] place lt rooted all = absurd (omega arith)
beside_others stores (a ∷ units) zero lt rooted all = (beside_none stores a rooted.0, all.0)
beside_others stores (a ∷ units) (suc place) lt rooted all =
    let there : place < length units = omega arith in (
      turned stores a (get_or units place []) (all_get (AreBeside stores a) units place all.0 there),
      beside_others stores units place there rooted.1 all.1,
    )

-- one of the units last
pub push : (stores : List Stored) (units : List (List Change)) (place : ℕ) → place < length units → AllByRecursion AreRooted units → AreAllBeside stores units
    → backed_all units stores ≡ backed_out (get_or units place []) (backed_all (set units place []) stores)
push stores units place lt rooted all =
    pull stores units place lt all
    ∙ sym (commute stores (get_or units place []) (set units place []) (beside_others stores units place lt rooted all) (beside_without stores units place rooted all))

-- once the others are backed out it can still be
pub can_all : (stores : List Stored) (a : List Change) (units : List (List Change)) → CanBackOut a stores → AllByRecursion (AreBeside stores a) units → AreAllBeside stores units
    → CanBackOut a (backed_all units stores)
can_all stores a [] can h all = can
can_all stores a (b ∷ units) can h all =
    can_aside a (backed_all units stores) (backed_out b (backed_all units stores)) (can_all stores a units can h.1 all.1)
    (aside_back (backed_all units stores) a b (beside_all stores a b units h.0 h.1 all.0 all.1))

-- the same by places
pub beside_by : (stores : List Stored) (units : List (List Change)) → ((i k : ℕ) → i < k → k < length units → AreBeside stores (get_or units i []) (get_or units k []))
    → AreAllBeside stores units
beside_by stores [] h = tt
beside_by stores (a ∷ units) h = (first units (λ k lt. h 0 (suc k) (omega arith) (omega arith)), beside_by stores units (λ i k less lt. h (suc i) (suc k) (omega arith) (omega arith)))
  where
    first : (us : List (List Change)) → ((k : ℕ) → k < length us → AreBeside stores a (get_or us k [])) → AllByRecursion (AreBeside stores a) us
    first [] g = tt
    first (b ∷ us) g = (g 0 (omega arith), first us (λ k lt. g (suc k) (omega arith)))

pub all_by : (P : List Change → Type 0) (units : List (List Change)) → ((i : ℕ) → i < length units → P (get_or units i [])) → AllByRecursion P units
all_by P [] h = tt
all_by P (a ∷ units) h = (h 0 (omega arith), all_by P units (λ i lt. h (suc i) (omega arith)))

-- a unit in place of one
pub get_set : (units : List (List Change)) (place : ℕ) (a : List Change) → place < length units → get_or (set units place a) place [] ≡ a
get_set [] place a lt = absurd (omega arith)
get_set (b ∷ units) zero a lt = refl
get_set (b ∷ units) (suc place) a lt = get_set units place a (omega arith)

pub get_set_else : (units : List (List Change)) (place k : ℕ) (a : List Change) → k ≢ place → get_or (set units place a) k [] ≡ get_or units k []
get_set_else [] place k a other = refl
get_set_else (b ∷ units) zero zero a other = absurd (other refl)
get_set_else (b ∷ units) zero (suc k) a other = refl
get_set_else (b ∷ units) (suc place) zero a other = refl
get_set_else (b ∷ units) (suc place) (suc k) a other = get_set_else units place k a (λ e. other (ap (λ n. suc n) e))

pub set_twice : (units : List (List Change)) (place : ℕ) (a b : List Change) → set (set units place a) place b ≡ set units place b
set_twice [] place a b = refl
set_twice (c ∷ units) zero a b = refl
set_twice (c ∷ units) (suc place) a b = ap (λ us. c ∷ us) (set_twice units place a b)

pub set_apart : (units : List (List Change)) (i k : ℕ) (a b : List Change) → i ≢ k → set (set units i a) k b ≡ set (set units k b) i a
set_apart [] i k a b other = refl
set_apart (c ∷ units) zero zero a b other = absurd (other refl)
set_apart (c ∷ units) zero (suc k) a b other = refl
set_apart (c ∷ units) (suc i) zero a b other = refl
set_apart (c ∷ units) (suc i) (suc k) a b other = ap (λ us. c ∷ us) (set_apart units i k a b (λ e. other (ap (λ n. suc n) e)))
