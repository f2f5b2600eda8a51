-- What a reader takes from the front of the bytes is what was written there, and what was written is
-- taken again.
use Rattle.std.proofs.Common.{◌≡◌, ℕ, ◌<◌, ◌+◌, Bool, true, false, cond, List, ◌∷◌, ◌++◌, get_or, take, drop, Result, Ok, Err, refl, sym, ap, subst, ◌∙◌, append_assoc, arith, inl, inr, suc}
use Rattle.std.proofs.lemmas.Bool.{cases_lt}
use Rattle.std.proofs.lemmas.List.{length-take, get_or-drop, get_or-take, get_or_past}
use Rattle.log_records.specs.RecordReader.{RecordFault, ◌>>=◌, Reader, ◌&◌, read_made}

abbrev pub IsBytes : List ℕ → Type 0
IsBytes bytes = (i : ℕ) → get_or bytes i 0 < 256

pub IsBytes-drop : (n : ℕ) (bytes : List ℕ) → IsBytes bytes → IsBytes (drop n bytes)
IsBytes-drop n bytes h i = rw get_or-drop (h (n + i))

pub IsBytes-take : (n : ℕ) (bytes : List ℕ) → IsBytes bytes → IsBytes (take n bytes)
IsBytes-take n bytes h i =
    elim (cases_lt i n) [
      | inl lt ↦ rw (get_or-take n bytes i 0 lt) (h i)
      | inr le ↦ rw (get_or_past (take n bytes) i 0 (omega (arith, length-take n bytes))) (omega arith)
    ]

pub IsBytes-rest : (b : ℕ) (bytes : List ℕ) → IsBytes (b ∷ bytes) → IsBytes bytes
IsBytes-rest b bytes h i = h (suc i)

-- the value of a step that did not fail
pub bind_ok : {A B : Type 0} (r : Result A RecordFault) (f : A → Result B RecordFault) (y : B) → (r >>= f) ≡ Ok y → (x : A) × (r ≡ Ok x) × (f x ≡ Ok y)
bind_ok (Ok x) f y e = (x, refl, e)
bind_ok (Err d) f y e = absurd cc

-- a test that did not fail
pub failed_not : {A : Type 0} (b : Bool) (d : RecordFault) (x y : A) → cond b (Err d) (Ok x) ≡ Ok y → (b ≡ false) × (x ≡ y)
failed_not true d x y e = absurd cc
failed_not false d x y e = (refl, cc)

pub passed : {A : Type 0} (b : Bool) (d : RecordFault) (x y : A) → cond b (Ok x) (Err d) ≡ Ok y → (b ≡ true) × (x ≡ y)
passed true d x y e = (refl, cc)
passed false d x y e = absurd cc

abbrev pub done : {A : Type 0} → A → Result A RecordFault
done x = Ok x

pub ok_is : {A : Type 0} (x y : A) → done x ≡ done y → x ≡ y
ok_is x y e = cc

-- the bytes are the text and then the rest
pub record Takes (bytes text rest : List ℕ) : Type 0 where
  pub parts : bytes ≡ text ++ rest
  pub rest_fits : IsBytes rest

pub Takes-then : (a x b y c : List ℕ) → Takes a x b → Takes b y c → Takes a (x ++ y) c
Takes-then a x b y c p q = record { parts = p.parts ∙ ap (λ (t : List ℕ). x ++ t) q.parts ∙ sym (append_assoc x y c); rest_fits = q.rest_fits }

-- A field: how it is read and spelled and what is in range, and that these fit each other.
pub record Field (A : Type 0) : Type 1 where
  pub read : Reader A
  pub spell : A → List ℕ
  pub Fits : A → Type 0
  pub takes : (bytes : List ℕ) (x : A × List ℕ) → IsBytes bytes → read bytes ≡ Ok x → Takes bytes (spell x.0) x.1 × Fits x.0
  pub again : (v : A) (rest : List ℕ) → Fits v → read (spell v ++ rest) ≡ Ok (v, rest)

pub both_take : {A B : Type 0} (f : Field A) (g : Field B) (bytes : List ℕ) (x : (A × B) × List ℕ) → IsBytes bytes → (f.read & g.read) bytes ≡ Ok x
    → Takes bytes (f.spell x.0.0 ++ g.spell x.0.1) x.1 × (f.Fits x.0.0 × g.Fits x.0.1)
both_take {A = A} {B = B} f g bytes x fits e =
    let u = bind_ok (f.read bytes) (λ (x : A × List ℕ). g.read x.1 >>= λ y. Ok ((x.0, y.0), y.1)) x e in
    let w = bind_ok (g.read u.0.1) (λ (y : B × List ℕ). Ok ((u.0.0, y.0), y.1)) x u.2 in
    let k = f.takes bytes u.0 fits u.1 in
    let l = g.takes u.0.1 w.0 k.0.rest_fits w.1 in
    let found : (A × B) × List ℕ = ((u.0.0, w.0.0), w.0.1) in
    subst (λ (y : (A × B) × List ℕ). Takes bytes (f.spell y.0.0 ++ g.spell y.0.1) y.1 × (f.Fits y.0.0 × g.Fits y.0.1)) (ok_is found x w.2) (Takes-then bytes (f.spell u.0.0) u.0.1 (g.spell w.0.0) w.0.1 k.0 l.0, (k.1, l.1))

pub both_again : {A B : Type 0} (f : Field A) (g : Field B) (v : A × B) (rest : List ℕ) → f.Fits v.0 × g.Fits v.1 → (f.read & g.read) ((f.spell v.0 ++ g.spell v.1) ++ rest) ≡ Ok (v, rest)
both_again f g v rest h =
    ap (f.read & g.read) (append_assoc (f.spell v.0) (g.spell v.1) rest) ∙ rw (f.again v.0 (g.spell v.1 ++ rest) h.0, g.again v.1 rest h.1) refl

-- one field, and then others
infixr 20 ◌and◌
abbrev pub ◌and◌ : {A B : Type 0} → Field A → Field B → Field (A × B)
f and g = record {
  read = f.read & g.read;
  spell = λ v. f.spell v.0 ++ g.spell v.1;
  Fits = λ v. f.Fits v.0 × g.Fits v.1;
  takes = both_take f g;
  again = both_again f g;
}

-- a value that is made of what is read, behind bytes that say which kind of value it is
pub made_takes : {A B : Type 0} (make : A → B) (f : Field A) (front : List ℕ) (spell : B → List ℕ) (Fits : B → Type 0)
    → ((v : A) → spell (make v) ≡ front ++ f.spell v) → ((v : A) → f.Fits v → Fits (make v))
    → (bytes : List ℕ) (x : B × List ℕ) → IsBytes bytes → read_made make f.read bytes ≡ Ok x → Takes (front ++ bytes) (spell x.0) x.1 × Fits x.0
made_takes {A = A} {B = B} make f front spell Fits same fit bytes x fits e =
    let u = bind_ok (f.read bytes) (λ (x : A × List ℕ). Ok (make x.0, x.1)) x e in
    let k = f.takes bytes u.0 fits u.1 in
    let found : B × List ℕ = (make u.0.0, u.0.1) in
    let whole : Takes (front ++ bytes) (spell (make u.0.0)) u.0.1 = record {
      parts = ap (λ (t : List ℕ). front ++ t) k.0.parts ∙ sym (append_assoc front (f.spell u.0.0) u.0.1) ∙ ap (λ (t : List ℕ). t ++ u.0.1) (sym (same u.0.0));
      rest_fits = k.0.rest_fits;
    } in
    subst (λ (y : B × List ℕ). Takes (front ++ bytes) (spell y.0) y.1 × Fits y.0) (ok_is found x u.2) (whole, fit u.0.0 k.1)

pub made_again : {A B : Type 0} (make : A → B) (f : Field A) (v : A) (rest : List ℕ) → f.Fits v → read_made make f.read (f.spell v ++ rest) ≡ Ok (make v, rest)
made_again make f v rest h = rw (f.again v rest h) refl
