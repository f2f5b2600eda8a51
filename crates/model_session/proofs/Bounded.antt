-- Of an input's `+` lines the first 16 are kept, and what is remembered of the others is enough; of a screen's what is kept is enough too.
use Rattle.std.proofs.Common.{◌≡◌, ◌∙◌, refl, sym, ap, subst, ℕ, zero, suc, ◌+◌, ◌-◌, Bool, true, false, cond, ◌&&◌, ◌||◌, List, [], ◌∷◌, ◌++◌, length, take, drop, map, replicate, inl, inr, append_assoc, arith}
use Rattle.std.specs.Prelude.{Option, Some, None, Result, Ok, Err, nat_lt, nat_le, if◌then◌else◌, codes}
use Rattle.std.specs.List.{list_all}
use Rattle.std.specs.Option.{option_or}
use Rattle.std.specs.Str.{bytes_eq}
use Rattle.std.proofs.lemmas.List.{append-nil, length_push, length-map, length-drop, take-map}
use Rattle.std.proofs.lemmas.Bool.Decides.{nat_tests}
use Rattle.std.proofs.lemmas.Slice.Eq.{bytes_eq-Decides}
use Rattle.text_rows.specs.LowestRule.{also, both}
use Rattle.model_machine.specs.CommandText.{command_of}
use Rattle.model_session.specs.Numbers.{name_operand}
use Rattle.tm_types.specs.Segment.{are_printable}
use Rattle.tm_types.specs.Words.{first_word, operands}
use Rattle.model_system.specs.System.{System}
use Rattle.model_session.specs.declared.others.Others.{Others}
use Rattle.model_session.specs.declared.asked.Asked.{Asked}
use Rattle.model_session.specs.declared.asked.Form.{Form}
use Rattle.model_session.specs.declared.asked.Form.TheVariants.{Input as InputForm}
use Rattle.model_session.specs.Blocks.{Block, block_alone, and_field, and_line, and_other, and_text, has_operand, is_screen, long_of, no_others}
use Rattle.model_session.specs.Lines.{asked_by, asked_of, block_form, command_asked, first_long, line_form, further_forms, input_form, input_long, input_text, input_texts, is_command, kept_texts, message_number, numbered_form, operand_count, printable_block, text_forms, unless_long}
use Rattle.model_session.specs.BoundedBlocks.{AsksAlike, KeepsEnough, first_texts, whole, whole_input, whole_screen, with_lines}
use Rattle.model_session.proofs.Screens.{screen_enough}

-- ---- the block that the lines make

abbrev block_with : List ℕ → List (List ℕ) → Others → Block
block_with line before others = record { line = line; further = before; values = []; others = others }

abbrev others_of : Others → List (List ℕ) → Others
others_of others [] = others
others_of others (line ∷ lines) = others_of (and_other others line) lines

abbrev chosen : Bool → List ℕ → List (List ℕ) → Others → List ℕ → Block
chosen b line before others next =
    record { line = line; further = if b then before ++ next ∷ [] else before; values = []; others = if b then others else and_other others next }

is_kept : (b : Bool) (line : List ℕ) (before : List (List ℕ)) (others : Others) (next : List ℕ) → b ≡ true → chosen b line before others next ≡ block_with line (before ++ next ∷ []) others
is_kept true line before others next e = refl
is_kept false line before others next e = cc

is_counted : (b : Bool) (line : List ℕ) (before : List (List ℕ)) (others : Others) (next : List ℕ) → b ≡ false
    → chosen b line before others next ≡ block_with line before (and_other others next)
is_counted true line before others next e = cc
is_counted false line before others next e = refl

text_kept : (line : List ℕ) (before : List (List ℕ)) (others : Others) (next : List ℕ) → is_screen line ≡ false
    → and_line (block_with line before others) next ≡ chosen (nat_lt (length before) 16) line before others next
text_kept line before others next input =
    ap (λ (b : Bool). if b then and_field (block_with line before others) next else and_text (block_with line before others) next) input

lt_full : (n : ℕ) → n + 0 ≡ 16 → nat_lt n 16 ≡ false
lt_full n e = grind (arith, nat_tests)

lt_room : (n m : ℕ) → n + suc m ≡ 16 → nat_lt n 16 ≡ true
lt_room n m e = grind (arith, nat_tests)

counted_lines : (line : List ℕ) (before : List (List ℕ)) (others : Others) (lines : List (List ℕ)) → is_screen line ≡ false → nat_lt (length before) 16 ≡ false
    → with_lines (block_with line before others) lines ≡ block_with line before (others_of others lines)
counted_lines line before others [] input full = refl
counted_lines line before others (next ∷ lines) input full =
    ap (λ (b : Block). with_lines b lines) (text_kept line before others next input ∙ is_counted (nat_lt (length before) 16) line before others next full)
    ∙ counted_lines line before (and_other others next) lines input full

input_lines : (n : ℕ) (line : List ℕ) (before lines : List (List ℕ)) → is_screen line ≡ false → length before + n ≡ 16
    → with_lines (block_with line before no_others) lines ≡ block_with line (before ++ take n lines) (others_of no_others (drop n lines))
input_lines zero line before lines input full =
    counted_lines line before no_others lines input (lt_full (length before) full)
    ∙ ap (λ (ls : List (List ℕ)). block_with line ls (others_of no_others lines)) (sym (append-nil before))
input_lines (suc m) line before [] input room = ap (λ (ls : List (List ℕ)). block_with line ls no_others) (sym (append-nil before))
input_lines (suc m) line before (next ∷ lines) input room =
    ap (λ (b : Block). with_lines b lines)
    (text_kept line before no_others next input ∙ is_kept (nat_lt (length before) 16) line before no_others next (lt_room (length before) m room))
    ∙ input_lines m line (before ++ next ∷ []) lines input (omega (arith, room, length_push before next))
    ∙ ap (λ (ls : List (List ℕ)). block_with line ls (others_of no_others (drop m lines))) (append_assoc before (next ∷ []) (take m lines))

-- ---- what is remembered of the others

and_more : (a b c : Bool) → ((a && b) && c) ≡ (a && (b && c))
and_more true b c = refl
and_more false b c = refl

or_more : (a b c : Option ℕ) → option_or (option_or a b) c ≡ option_or a (option_or b c)
or_more (Some n) b c = refl
or_more None b c = refl

long_first : (b : Bool) (n : ℕ) (rest : Option ℕ) → option_or (cond b (Some n) None) rest ≡ cond b (Some n) rest
long_first true n rest = refl
long_first false n rest = refl

others_count : (others : Others) (lines : List (List ℕ)) → (others_of others lines).count ≡ others.count + length lines
others_count others [] = omega arith
others_count others (line ∷ lines) = let rest = others_count (and_other others line) lines in omega (arith, rest)

others_complete : (others : Others) (lines : List (List ℕ)) → (others_of others lines).complete ≡ (others.complete && list_all has_operand lines)
others_complete others [] = sym (and_end others.complete) where
  and_end : (a : Bool) → (a && true) ≡ a
  and_end true = refl
  and_end false = refl
others_complete others (line ∷ lines) =
    others_complete (and_other others line) lines ∙ and_more others.complete (has_operand line) (list_all has_operand lines)

others_printable : (others : Others) (lines : List (List ℕ)) → (others_of others lines).printable ≡ (others.printable && list_all are_printable lines)
others_printable others [] = sym (and_end others.printable) where
  and_end : (a : Bool) → (a && true) ≡ a
  and_end true = refl
  and_end false = refl
others_printable others (line ∷ lines) =
    others_printable (and_other others line) lines ∙ and_more others.printable (are_printable line) (list_all are_printable lines)

others_long : (others : Others) (lines : List (List ℕ)) → (others_of others lines).long ≡ option_or others.long (first_long (map operands lines))
others_long others [] = sym (or_end others.long) where
  or_end : (a : Option ℕ) → option_or a None ≡ a
  or_end (Some n) = refl
  or_end None = refl
others_long others (line ∷ lines) =
    others_long (and_other others line) lines
    ∙ or_more others.long (long_of (operands line)) (first_long (map operands lines))
    ∙ ap (λ (l : Option ℕ). option_or others.long l) (long_first (nat_lt 1996 (length (operands line))) (length (operands line)) (first_long (map operands lines)))

-- ---- a list in two parts

all_parts : (p : List ℕ → Bool) (n : ℕ) (lines : List (List ℕ)) → (list_all p (take n lines) && list_all p (drop n lines)) ≡ list_all p lines
all_parts p zero lines = refl
all_parts p (suc n) [] = refl
all_parts p (suc n) (line ∷ lines) =
    and_more (p line) (list_all p (take n lines)) (list_all p (drop n lines)) ∙ ap (λ (b : Bool). p line && b) (all_parts p n lines)

or_cond : (b : Bool) (l : ℕ) (first rest : Option ℕ) → option_or (cond b (Some l) first) rest ≡ cond b (Some l) (option_or first rest)
or_cond true l first rest = refl
or_cond false l first rest = refl

long_parts : (n : ℕ) (lines : List (List ℕ)) → option_or (first_long (map operands (take n lines))) (first_long (map operands (drop n lines))) ≡ first_long (map operands lines)
long_parts zero lines = refl
long_parts (suc n) [] = refl
long_parts (suc n) (line ∷ lines) =
    or_cond (nat_lt 1996 (length (operands line))) (length (operands line)) (first_long (map operands (take n lines))) (first_long (map operands (drop n lines)))
    ∙ ap (λ (l : Option ℕ). cond (nat_lt 1996 (length (operands line))) (Some (length (operands line))) l) (long_parts n lines)

-- ---- what an input asks for

abbrev kept_of : List ℕ → List (List ℕ) → Block
kept_of line lines = block_with line (take 16 lines) (others_of no_others (drop 16 lines))

forms_same : (line : List ℕ) (lines : List (List ℕ)) → text_forms (kept_of line lines) ≡ text_forms (whole_input line lines)
forms_same line lines =
    ap (λ (b : Bool). if b then Ok tt else Err 2)
    (ap (λ (b : Bool). list_all has_operand (take 16 lines) && b) (others_complete no_others (drop 16 lines)) ∙ all_parts has_operand 16 lines ∙ sym (and_end (list_all has_operand lines))) where
      and_end : (a : Bool) → (a && true) ≡ a
      and_end true = refl
      and_end false = refl

further_same : (line : List ℕ) (lines : List (List ℕ)) → is_screen line ≡ false → further_forms (kept_of line lines) ≡ further_forms (whole_input line lines)
unfolding further_forms
further_same line lines input = by (is_screen line) input where
  by : (b : Bool) → b ≡ false → (if b then (others_of no_others (drop 16 lines)).fields else text_forms (kept_of line lines)) ≡ (if b then Ok tt else text_forms (whole_input line lines))
  by true e = cc
  by false e = forms_same line lines

printable_same : (line : List ℕ) (lines : List (List ℕ)) → printable_block (kept_of line lines) ≡ printable_block (whole_input line lines)
unfolding printable_block
printable_same line lines = ap (λ (b : Bool). if b then Ok tt else Err 6) (same (are_printable line)) where
  and_end : (a : Bool) → (a && true) ≡ a
  and_end true = refl
  and_end false = refl

  same : (a : Bool) → (a && list_all are_printable (take 16 lines) && (others_of no_others (drop 16 lines)).printable) ≡ (a && list_all are_printable lines && true)
  same true =
      ap (λ (b : Bool). list_all are_printable (take 16 lines) && b) (others_printable no_others (drop 16 lines)) ∙ all_parts are_printable 16 lines ∙ sym (and_end (list_all are_printable lines))
  same false = refl

rest_same : (line : List ℕ) (lines : List (List ℕ)) → is_screen line ≡ false
    → also (further_forms (kept_of line lines)) (printable_block (kept_of line lines)) ≡ also (further_forms (whole_input line lines)) (printable_block (whole_input line lines))
rest_same line lines input =
    ap (λ (r : Result (Unit {0}) ℕ). also r (printable_block (kept_of line lines))) (further_same line lines input)
    ∙ ap (λ (r : Result (Unit {0}) ℕ). also (further_forms (whole_input line lines)) r) (printable_same line lines)

long_same : (line : List ℕ) (lines : List (List ℕ)) → input_long (kept_of line lines) ≡ input_long (whole_input line lines)
long_same line lines =
    let text = input_text line in
    ap (λ (l : Option ℕ). option_or (first_long (kept_texts (kept_of line lines))) l) (others_long no_others (drop 16 lines))
    ∙ or_cond (nat_lt 1996 (length text)) (length text) (first_long (map operands (take 16 lines))) (first_long (map operands (drop 16 lines)))
    ∙ ap (λ (l : Option ℕ). cond (nat_lt 1996 (length text)) (Some (length text)) l) (long_parts 16 lines)
    ∙ sym (or_end (first_long (kept_texts (whole_input line lines)))) where
      or_end : (a : Option ℕ) → option_or a None ≡ a
      or_end (Some n) = refl
      or_end None = refl

texts_same : (line : List ℕ) (lines : List (List ℕ)) → input_texts (kept_of line lines) ≡ first_texts (input_texts (whole_input line lines))
texts_same line lines =
    ap (λ (n : ℕ). (input_text line ∷ map operands (take 16 lines)) ++ replicate n []) (count_is (length lines) (length (drop 16 lines)) (others_count no_others (drop 16 lines)) (length-drop 16 lines) (length-map lines operands))
    ∙ ap (λ (ts : List (List ℕ)). (input_text line ∷ ts) ++ replicate (length (kept_texts (whole_input line lines)) - 17) []) (sym (take-map operands 16 lines))
    ∙ ap first_texts (sym (append-nil (kept_texts (whole_input line lines)))) where
      count_is : (n d : ℕ) → (others_of no_others (drop 16 lines)).count ≡ 0 + d → d ≡ n - 16 → length (map operands lines) ≡ n
          → (others_of no_others (drop 16 lines)).count ≡ length (input_text line ∷ map operands lines) - 17
      count_is n d counted dropped mapped = omega (arith, counted, dropped, mapped)

asked_same : (system : System) (terminal : List ℕ) (number : ℕ) (texts : List (List ℕ)) (long : Option ℕ)
    → AsksAlike (unless_long system terminal number (first_texts texts) long) (unless_long system terminal number texts long)
asked_same system terminal number texts (Some long) = inl refl
asked_same system terminal number texts None = inr (record { terminal = terminal; number = number; texts = texts; all_is = refl; kept_is = refl })

input_same : (system : System) (line : List ℕ) (lines : List (List ℕ)) (terminal : List ℕ) (number : ℕ)
    → AsksAlike (asked_by system (kept_of line lines) (Ok (InputForm terminal number))) (asked_by system (whole_input line lines) (Ok (InputForm terminal number)))
input_same system line lines terminal number =
    subst (λ (long : Option ℕ). AsksAlike (unless_long system terminal number (input_texts (kept_of line lines)) long)
    (unless_long system terminal number (input_texts (whole_input line lines)) (input_long (whole_input line lines))))
    (sym (long_same line lines))
    (subst (λ (texts : List (List ℕ)). AsksAlike (unless_long system terminal number texts (input_long (whole_input line lines)))
    (unless_long system terminal number (input_texts (whole_input line lines)) (input_long (whole_input line lines))))
    (sym (texts_same line lines)) (asked_same system terminal number (input_texts (whole_input line lines)) (input_long (whole_input line lines))))

formed_same : (system : System) (line : List ℕ) (lines : List (List ℕ)) (read : Result (List ℕ × ℕ) ℕ) (rest : Result (Unit {0}) ℕ)
    → AsksAlike (asked_by system (kept_of line lines) (also (numbered_form (λ t n. InputForm t n) read) rest))
    (asked_by system (whole_input line lines) (also (numbered_form (λ t n. InputForm t n) read) rest))
unfolding also
formed_same system line lines (Ok (terminal, number)) (Ok done) = input_same system line lines terminal number
formed_same system line lines (Ok (terminal, number)) (Err rule) = inl refl
formed_same system line lines (Err rule) (Ok done) = inl refl
formed_same system line lines (Err rule) (Err other) = inl refl

-- the form of an input, or a rule
formed_by : (system : System) (line : List ℕ) (lines : List (List ℕ)) (enough : Bool) (read : Result (List ℕ × ℕ) ℕ) (rest : Result (Unit {0}) ℕ)
    → AsksAlike (asked_by system (kept_of line lines) (also (if enough then numbered_form (λ t n. InputForm t n) read else Err 2) rest))
    (asked_by system (whole_input line lines) (also (if enough then numbered_form (λ t n. InputForm t n) read else Err 2) rest))
formed_by system line lines true read rest = formed_same system line lines read rest
formed_by system line lines false read rest = formed_same system line lines (Err 2) rest

no_screen : (line : List ℕ) → bytes_eq (first_word line) (codes "IN") ≡ true → is_screen line ≡ false
no_screen line input = ap (λ (word : List ℕ). bytes_eq word (codes "SCREEN")) ((bytes_eq-Decides (first_word line) (codes "IN")).0 input)

form_is : (regions : ℕ) (line : List ℕ) → bytes_eq (first_word line) (codes "IN") ≡ true → line_form regions line ≡ input_form line
unfolding line_form
form_is regions line input = rw input refl

-- the lines of an input and the block that is kept of them
block_alike : (system : System) (line : List ℕ) (lines : List (List ℕ)) → bytes_eq (first_word line) (codes "IN") ≡ true
    → AsksAlike (asked_by system (kept_of line lines) (block_form (length system.regions) (kept_of line lines)))
    (asked_by system (whole_input line lines) (block_form (length system.regions) (whole_input line lines)))
unfolding block_form input_form
block_alike system line lines input =
    let rest = also (further_forms (whole_input line lines)) (printable_block (whole_input line lines)) in
    let all : Result Form ℕ → Asked = λ form. asked_by system (whole_input line lines) (also form rest) in
    subst (λ (form : Result Form ℕ). AsksAlike (asked_by system (kept_of line lines) (also form (also (further_forms (kept_of line lines)) (printable_block (kept_of line lines))))) (all form))
    (sym (form_is (length system.regions) line input))
    (subst (λ (r : Result (Unit {0}) ℕ). AsksAlike (asked_by system (kept_of line lines) (also (input_form line) r)) (all (input_form line)))
    (sym (rest_same line lines (no_screen line input)))
    (formed_by system line lines (nat_le 3 (operand_count line)) (both (name_operand (first_word (operands line))) (message_number (first_word (operands (operands line))))) rest))

asked_alike : (system : System) (line : List ℕ) (lines : List (List ℕ)) → bytes_eq (first_word line) (codes "IN") ≡ true
    → AsksAlike (asked_of system (kept_of line lines)) (asked_of system (whole_input line lines))
unfolding asked_of
asked_alike system line lines input = by (is_command line) (block_alike system line lines input) where
  by : (b : Bool) {kept all : Asked} → AsksAlike kept all → AsksAlike (if b then command_asked (command_of line) else kept) (if b then command_asked (command_of line) else all)
  by true h = inl refl
  by false h = h

one_of : (a b : Bool) → (a || b) ≡ true → b ≡ false → a ≡ true
one_of true b e f = refl
one_of false b e f = cc

whole_is : (line : List ℕ) (lines : List (List ℕ)) (b : Bool) → is_screen line ≡ b → whole line lines ≡ (if b then whole_screen line lines else whole_input line lines)
whole_is line lines b is = ap (λ (c : Bool). if c then whole_screen line lines else whole_input line lines) is

pub keeps_enough : KeepsEnough
keeps_enough system line lines screens takes = by (is_screen line) refl where
  by : (b : Bool) → is_screen line ≡ b → AsksAlike (asked_of system (with_lines (block_alone line) lines)) (asked_of system (whole line lines))
  by true screen = inl (screen_enough system line lines screens screen ∙ ap (λ (b : Block). asked_of system b) (sym (whole_is line lines true screen)))
  by false input =
      subst (λ (b : Block). AsksAlike (asked_of system b) (asked_of system (whole line lines))) (sym (input_lines 16 line [] lines input refl))
      (subst (λ (b : Block). AsksAlike (asked_of system (kept_of line lines)) (asked_of system b)) (sym (whole_is line lines false input))
      (asked_alike system line lines (one_of (bytes_eq (first_word line) (codes "IN")) (is_screen line) takes input)))
