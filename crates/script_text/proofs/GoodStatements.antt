-- Statements that keep what was read.
use Rattle.std.proofs.Common.{◌≡◌, ℕ, ◌≤◌, Bool, true, false, ◌&&◌, cond, List, [], ◌∷◌, Result, Ok, Err, refl, ap, sym, ◌∙◌, nat_le, arith}
use Rattle.std.specs.Prelude.{Option, Some, None, IfOk, is_some, is_none}
use Rattle.text_rows.specs.LowestRule.{both, also}
use Rattle.tm_types.specs.declared.function.Function.{Function}
use Rattle.model_system.specs.declared.script_ssa.ScriptSsa.{ScriptSsa}
use Rattle.model_system.specs.declared.statement.Comparison.{Comparison}
use Rattle.model_system.specs.declared.statement.Target.{Target}
use Rattle.model_system.specs.declared.text.Text.{Text}
use Rattle.model_system.specs.Programs.{is_statement, takes_area, takes_ssas, ssas_allowed, is_function_of, is_call, is_plain}
use Rattle.std.proofs.lemmas.Bool.Decides.{nat_tests}
use Rattle.script_text.specs.Values.{variable_of, ssas_of}
use Rattle.script_text.specs.Statements.{if_made, area_taken, no_area, area_of, with_area}
use Rattle.model_system.specs.declared.statement.Statement.{Statement}
use Rattle.model_system.specs.declared.statement.Statement.TheVariants.{Label, Set, Word, Cut, Pad, Add, Less, If, Goto, Call, Abend, End}
use Rattle.script_text.specs.GoodStatement.{are_all_printable, is_unlabelled, IsGood}

module _ (places : List ℕ → Option ℕ) (here : ℕ) (words : List (List ℕ)) where
  pub free_good : (statement : Statement) → is_unlabelled statement ≡ true → (are_all_printable words ≡ true → is_statement statement ≡ true) → IsGood places here words false None statement
  free_good (Set x texts) e allowed = record { allowed = allowed; placed = tt; kind = refl; label_is = refl }
  free_good (Word x y number) e allowed = record { allowed = allowed; placed = tt; kind = refl; label_is = refl }
  free_good (Cut x y start count) e allowed = record { allowed = allowed; placed = tt; kind = refl; label_is = refl }
  free_good (Pad x width) e allowed = record { allowed = allowed; placed = tt; kind = refl; label_is = refl }
  free_good (Add x y) e allowed = record { allowed = allowed; placed = tt; kind = refl; label_is = refl }
  free_good (Less x y) e allowed = record { allowed = allowed; placed = tt; kind = refl; label_is = refl }
  free_good (Call function pcb area ssas) e allowed = record { allowed = allowed; placed = tt; kind = refl; label_is = refl }
  free_good (Abend code) e allowed = record { allowed = allowed; placed = tt; kind = refl; label_is = refl }
  free_good End e allowed = record { allowed = allowed; placed = tt; kind = refl; label_is = refl }
  free_good (Label name) e allowed = cc
  free_good (If left comparison right target) e allowed = cc
  free_good (Goto target) e allowed = cc

  pub free_read : (read : Result Statement ℕ) → IfOk read (λ s. is_unlabelled s ≡ true) → IfOk read (λ s. is_statement s ≡ true) → IfOk read (IsGood places here words false None)
  free_read (Ok statement) free allowed = free_good statement free (λ p. allowed)
  free_read (Err rule) free allowed = tt

and_true : (a b : Bool) → a ≡ true → b ≡ true → (a && b) ≡ true
and_true true b e f = f
and_true false b e f = cc

same_ok : {A : Type 0} → (p q : A) → ◌≡◌ {A = Result A ℕ} (Ok p) (Ok q) → p ≡ q
same_ok p q h = cc

-- the word GOTO is judged beside the other operands of an IF
pub if_also : (parts : Result ((Text × Comparison) × (Text × Target)) ℕ) (goto : Result (Unit {0}) ℕ) → also (if_made parts) goto ≡ if_made (also parts goto)
unfolding also
if_also (Ok parts) (Ok g) = refl
if_also (Ok parts) (Err rule) = refl
if_also (Err rule) (Ok g) = refl
if_also (Err rule) (Err other) = refl

pub if_value : (left right : Result Text ℕ) (comparison : Result Comparison ℕ) (target : Result Target ℕ) (goto : Result (Unit {0}) ℕ)
    (l r : Result Text ℕ) (c : Result Comparison ℕ) (t : Result Target ℕ) (g : Result (Unit {0}) ℕ)
    (front : Result (Text × Comparison) ℕ) (behind : Result (Text × Target) ℕ) (parts all : Result ((Text × Comparison) × (Text × Target)) ℕ)
    → l ≡ left → r ≡ right → c ≡ comparison → t ≡ target → g ≡ goto → front ≡ both l c → behind ≡ both r t → parts ≡ both front behind → all ≡ also parts g
    → if_made all ≡ also (if_made (both (both left comparison) (both right target))) goto
if_value left right comparison target goto l r c t g front behind parts all el er ec et eg ef eb ep ea =
    let front-is : front ≡ both left comparison = ef ∙ ap (λ x. both x c) el ∙ ap (both left) ec in
    let behind-is : behind ≡ both right target = eb ∙ ap (λ x. both x t) er ∙ ap (both right) et in
    ap if_made ea ∙ sym (if_also parts g)
    ∙ ap (λ x. also (if_made x) g) (ep ∙ ap (λ x. both x behind) front-is ∙ ap (both (both left comparison)) behind-is)
    ∙ ap (also (if_made (both (both left comparison) (both right target)))) eg

pub five_words : (w0 w1 w2 w3 w4 w5 : List (List ℕ)) (a b c d e : List ℕ) → w0 ≡ a ∷ w1 → w1 ≡ b ∷ w2 → w2 ≡ c ∷ w3 → w3 ≡ d ∷ w4 → w4 ≡ e ∷ w5 → w5 ≡ [] → w0 ≡ a ∷ b ∷ c ∷ d ∷ e ∷ []
five_words w0 w1 w2 w3 w4 w5 a b c d e h0 h1 h2 h3 h4 h5 =
    h0 ∙ ap (λ w. a ∷ w) (h1 ∙ ap (λ w. b ∷ w) (h2 ∙ ap (λ w. c ∷ w) (h3 ∙ ap (λ w. d ∷ w) (h4 ∙ ap (λ w. e ∷ w) h5))))

module _ (places : List ℕ → Option ℕ) (here : ℕ) (words : List (List ℕ)) where
  record Fits (parts : (Text × Comparison) × (Text × Target)) : Type 0 where
    left : are_all_printable words ≡ true → is_plain parts.0.0 ≡ true
    right : are_all_printable words ≡ true → is_plain parts.1.0 ≡ true
    target : places parts.1.1.label ≡ Some parts.1.1.place

  both_fit : (left right : Result Text ℕ) (comparison : Result Comparison ℕ) (target : Result Target ℕ)
      → IfOk left (λ t. are_all_printable words ≡ true → is_plain t ≡ true) → IfOk right (λ t. are_all_printable words ≡ true → is_plain t ≡ true) → IfOk target (λ t. places t.label ≡ Some t.place)
      → IfOk (both (both left comparison) (both right target)) Fits
  unfolding both
  both_fit (Ok l) (Ok r) (Ok c) (Ok t) hl hr ht = record { left = hl; right = hr; target = ht }
  both_fit (Ok l) (Ok r) (Ok c) (Err rule) hl hr ht = tt
  both_fit (Ok l) (Err rule) (Ok c) (Ok t) hl hr ht = tt
  both_fit (Ok l) (Err rule) (Ok c) (Err other) hl hr ht = tt
  both_fit (Ok l) (Ok r) (Err rule) (Ok t) hl hr ht = tt
  both_fit (Ok l) (Ok r) (Err rule) (Err other) hl hr ht = tt
  both_fit (Ok l) (Err rule) (Err other) (Ok t) hl hr ht = tt
  both_fit (Ok l) (Err rule) (Err other) (Err third) hl hr ht = tt
  both_fit (Err rule) (Ok r) (Ok c) (Ok t) hl hr ht = tt
  both_fit (Err rule) (Ok r) (Ok c) (Err other) hl hr ht = tt
  both_fit (Err rule) (Err other) (Ok c) (Ok t) hl hr ht = tt
  both_fit (Err rule) (Err other) (Ok c) (Err third) hl hr ht = tt
  both_fit (Err rule) (Ok r) (Err other) (Ok t) hl hr ht = tt
  both_fit (Err rule) (Ok r) (Err other) (Err third) hl hr ht = tt
  both_fit (Err rule) (Err other) (Err third) (Ok t) hl hr ht = tt
  both_fit (Err rule) (Err other) (Err third) (Err fourth) hl hr ht = tt

  also_fit : (parts : Result ((Text × Comparison) × (Text × Target)) ℕ) (goto : Result (Unit {0}) ℕ) → IfOk parts Fits → IfOk (if_made (also parts goto)) (IsGood places here words false None)
  unfolding also
  also_fit (Ok ((l, c), (r, t))) (Ok g) fits = record {
    allowed = λ p. and_true (is_plain l) (is_plain r) (fits.left p) (fits.right p);
    placed = fits.target;
    kind = refl;
    label_is = refl;
  }
  also_fit (Ok parts) (Err rule) fits = tt
  also_fit (Err rule) (Ok g) fits = tt
  also_fit (Err rule) (Err other) fits = tt

  pub if_good : (left right : Result Text ℕ) (comparison : Result Comparison ℕ) (target : Result Target ℕ) (goto : Result (Unit {0}) ℕ)
      → IfOk left (λ t. are_all_printable words ≡ true → is_plain t ≡ true) → IfOk right (λ t. are_all_printable words ≡ true → is_plain t ≡ true) → IfOk target (λ t. places t.label ≡ Some t.place)
      → IfOk (if_made (also (both (both left comparison) (both right target)) goto)) (IsGood places here words false None)
  if_good left right comparison target goto hl hr ht = also_fit (both (both left comparison) (both right target)) goto (both_fit left right comparison target hl hr ht)

-- A call that was read is one that there is.
abbrev has_shape : Function → ℕ → Option ℕ → List ScriptSsa → Bool
has_shape function pcb area ssas = cond (takes_area function) (is_some area) (is_none area) && ssas_allowed pcb function ssas

allowed_ssas : (function : Function) (pcb : ℕ) (ssas : List ScriptSsa) → (nat_le 1 pcb && takes_ssas function) ≡ true → ssas_allowed pcb function ssas ≡ true
allowed_ssas function pcb [] e = refl
allowed_ssas function pcb (ssa ∷ ssas) e = e

swapped : (a b : Bool) → (a && b) ≡ true → (b && a) ≡ true
swapped true true e = refl
swapped true false e = cc
swapped false b e = cc

area_shape : (function : Function) (pcb x : ℕ) (ssas : List ScriptSsa) → takes_area function ≡ true → ssas_allowed pcb function ssas ≡ true → has_shape function pcb (Some x) ssas ≡ true
area_shape function pcb x ssas a e = ap (λ b. cond b true false && ssas_allowed pcb function ssas) a ∙ e

read_area : (function : Function) (pcb : ℕ) (read : Result (ℕ × List ScriptSsa) ℕ) (area : Option ℕ) (ssas : List ScriptSsa) → takes_area function ≡ true
    → ((operands : ℕ × List ScriptSsa) → read ≡ Ok operands → ssas_allowed pcb function operands.1 ≡ true) → with_area read ≡ Ok (area, ssas) → has_shape function pcb area ssas ≡ true
read_area function pcb (Ok (x, made)) area ssas a all e =
    let same : (Some x, made) ≡ (area, ssas) = same_ok (Some x, made) (area, ssas) e in
    ap (λ p. has_shape function pcb p.0 p.1) (sym same) ∙ area_shape function pcb x made a (all (x, made) refl)
read_area function pcb (Err rule) area ssas a all e = cc

no_more : (x : Result ℕ ℕ) (operands : ℕ × List ScriptSsa) → both x (Ok []) ≡ Ok operands → operands.1 ≡ []
unfolding both
no_more (Ok x) operands e = ap (λ p. p.1) (sym (same_ok (x, []) operands e))
no_more (Err rule) operands e = cc

taken_shape : (takes : Bool) (function : Function) (pcb : ℕ) (words : List (List ℕ)) (area : Option ℕ) (ssas : List ScriptSsa) → (takes_ssas function && nat_le 1 pcb) ≡ takes → takes_area function ≡ true
    → area_taken takes words ≡ Ok (area, ssas) → has_shape function pcb area ssas ≡ true
taken_shape takes function pcb [] area ssas t a e = cc
taken_shape takes function pcb (x ∷ []) area ssas t a e =
    read_area function pcb (both (variable_of x) (Ok [])) area ssas a (λ operands h. ap (ssas_allowed pcb function) (no_more (variable_of x) operands h)) e
taken_shape true function pcb (x ∷ word ∷ words) area ssas t a e =
    read_area function pcb (both (variable_of x) (ssas_of (word ∷ words))) area ssas a (λ operands h. allowed_ssas function pcb operands.1 (swapped (takes_ssas function) (nat_le 1 pcb) t)) e
taken_shape false function pcb (x ∷ word ∷ words) area ssas t a e = cc

no_shape : (function : Function) (pcb : ℕ) (words : List (List ℕ)) (area : Option ℕ) (ssas : List ScriptSsa) → takes_area function ≡ false → no_area words ≡ Ok (area, ssas) → has_shape function pcb area ssas ≡ true
no_shape function pcb [] area ssas a e =
    let same : (None, []) ≡ (area, ssas) = same_ok (None, []) (area, ssas) e in
    ap (λ p. has_shape function pcb p.0 p.1) (sym same) ∙ ap (λ b. cond b false true && true) a
no_shape function pcb (word ∷ words) area ssas a e = cc

area_by : (b : Bool) (function : Function) (pcb : ℕ) (words : List (List ℕ)) (area : Option ℕ) (ssas : List ScriptSsa) → takes_area function ≡ b
    → cond b (area_taken (takes_ssas function && nat_le 1 pcb) words) (no_area words) ≡ Ok (area, ssas) → has_shape function pcb area ssas ≡ true
area_by true function pcb words area ssas a e = taken_shape (takes_ssas function && nat_le 1 pcb) function pcb words area ssas refl a e
area_by false function pcb words area ssas a e = no_shape function pcb words area ssas a e

pub shape_read : (function : Function) (pcb : ℕ) (above : Bool) (words : List (List ℕ)) (area : Option ℕ) (ssas : List ScriptSsa) → above ≡ nat_le 1 pcb
    → area_of function above words ≡ Ok (area, ssas) → has_shape function pcb area ssas ≡ true
shape_read function pcb above words area ssas is e = area_by (takes_area function) function pcb words area ssas refl (rw is at e)

joined : (a b c d : Bool) → a ≡ true → b ≡ true → (c && d) ≡ true → (a && b && c && d) ≡ true
joined true true c d e f g = g
joined true false c d e f g = cc
joined false b c d e f g = cc

pub call_allowed : (function : Function) (pcb : ℕ) (above : Bool) (words : List (List ℕ)) (area : Option ℕ) (ssas : List ScriptSsa) → pcb ≤ 8 → above ≡ nat_le 1 pcb → is_function_of pcb function ≡ true
    → area_of function above words ≡ Ok (area, ssas) → is_call function pcb area ssas ≡ true
call_allowed function pcb above words area ssas small is known e =
    let within : nat_le pcb 8 ≡ true = grind (arith, nat_tests) in
    joined (nat_le pcb 8) (is_function_of pcb function) (cond (takes_area function) (is_some area) (is_none area)) (ssas_allowed pcb function ssas) within known (shape_read function pcb above words area ssas is e)
