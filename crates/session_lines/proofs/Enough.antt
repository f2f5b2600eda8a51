-- What is kept of the lines of a block is enough, where the format that it asks for has no more fields than a screen
-- has places: in place of the system take one that has no other format.
use Rattle.std.proofs.Common.{◌≡◌, ◌∙◌, ℕ, ◌≤◌, Bool, true, false, cond, List, [], ◌∷◌, length, refl, sym, ap, subst, inl, inr}
use Rattle.std.specs.Prelude.{Option, Some, None, Result, Ok, Err, IfSome, find, if◌then◌else◌}
use Rattle.std.specs.Option.{option_and_then, option_map}
use Rattle.std.specs.Str.{bytes_eq}
use Rattle.text_rows.specs.LowestRule.{also}
use Rattle.model_system.specs.declared.fields.FieldValue.{FieldValue}
use Rattle.model_system.specs.FormatLines.{FormatLines}
use Rattle.model_system.specs.declared.screen.Screen.{Screen}
use Rattle.model_system.specs.SystemFormats.{format_named, format_of}
use Rattle.model_system.specs.System.{System}
use Rattle.model_session.specs.declared.asked.Form.{Form}
use Rattle.model_session.specs.declared.asked.Form.TheVariants.{Input as InputForm, Screen as ScreenForm, Receive as ReceiveForm, Acknowledge as AcknowledgeForm, Turn as TurnForm, Quiet as QuietForm, Power as PowerForm, PowerIn as PowerInForm}
use Rattle.model_session.specs.declared.asked.Asked.{Asked}
use Rattle.model_session.specs.declared.asked.Asked.TheVariants.{Bad}
use Rattle.model_session.specs.Blocks.{Block, block_alone, and_field, and_line, and_text, is_screen, takes_further}
use Rattle.model_session.specs.BoundedBlocks.{AsksAlike, HasScreens, whole, whole_input, whole_screen, with_lines}
use Rattle.model_session.specs.Lines.{asked_by, asked_of, block_form, command_asked, entered_asked, first_long, line_form, further_forms, input_long, input_texts, is_command, printable_block, screen_asked, unless_long}
use Rattle.model_session.proofs.Bounded.{keeps_enough}
use Rattle.model_machine.specs.CommandText.{command_of}
use Rattle.model_system.specs.ScreenInput.{entered}
use Rattle.session_lines.specs.BlockReading.{HasFew}

-- ---- the system with the screen of one terminal alone

abbrev found_screen : Option Screen → List Screen
found_screen (Some screen) = screen ∷ []
found_screen None = []

abbrev screen_at : System → List ℕ → Option Screen
screen_at system terminal = find (λ screen. bytes_eq screen.terminal terminal) system.screens

abbrev with_screens : System → List Screen → System
with_screens system screens = record system { screens = screens }

abbrev screens_of : System → Result Form ℕ → List Screen
screens_of system (Ok (ScreenForm terminal number)) = found_screen (screen_at system terminal)
screens_of system _ = []

abbrev cut_by : System → Result Form ℕ → System
cut_by system form = with_screens system (screens_of system form)

no_screens : (system : System) → HasScreens (with_screens system [])
no_screens system = λ terminal. tt

one_screen : (system : System) (found : Option Screen)
    → IfSome (option_and_then (format_named system.formats) (option_map (λ (screen : Screen). screen.format) found)) (λ format. length format.fields ≤ 1920)
    → HasScreens (with_screens system (found_screen found))
one_screen system None few = no_screens system
one_screen system (Some screen) few = λ terminal. by (bytes_eq screen.terminal terminal) where
  by : (b : Bool) → IfSome (option_and_then (format_named system.formats) (option_map (λ (screen : Screen). screen.format) (cond b (Some screen) None))) (λ format. length format.fields ≤ 1920)
  by true = few
  by false = tt

cut_screens : (system : System) (form : Result Form ℕ) → HasFew system form → HasScreens (cut_by system form)
cut_screens system (Ok (ScreenForm terminal number)) few = one_screen system (screen_at system terminal) few
cut_screens system (Ok (InputForm terminal number)) few = no_screens system
cut_screens system (Ok (ReceiveForm terminal)) few = no_screens system
cut_screens system (Ok (AcknowledgeForm terminal number)) few = no_screens system
cut_screens system (Ok (TurnForm region)) few = no_screens system
cut_screens system (Ok (QuietForm most)) few = no_screens system
cut_screens system (Ok (PowerForm pick)) few = no_screens system
cut_screens system (Ok (PowerInForm writes pick)) few = no_screens system
cut_screens system (Err rule) few = no_screens system

-- the terminal has the format that it had
found_passes : (screens : List Screen) (terminal : List ℕ) (screen : Screen) → find (λ (s : Screen). bytes_eq s.terminal terminal) screens ≡ Some screen → bytes_eq screen.terminal terminal ≡ true
found_passes [] terminal screen e = cc
found_passes (first ∷ screens) terminal screen e = by (bytes_eq first.terminal terminal) refl e (found_passes screens terminal screen) where
  by : (b : Bool) → bytes_eq first.terminal terminal ≡ b → cond b (Some first) (find (λ (s : Screen). bytes_eq s.terminal terminal) screens) ≡ Some screen
      → (find (λ (s : Screen). bytes_eq s.terminal terminal) screens ≡ Some screen → bytes_eq screen.terminal terminal ≡ true) → bytes_eq screen.terminal terminal ≡ true
  by true passes e rest = let same : first ≡ screen = cc in subst (λ (s : Screen). bytes_eq s.terminal terminal ≡ true) same passes
  by false passes e rest = rest e

found_again : (terminal : List ℕ) (found : Option Screen) → ((screen : Screen) → found ≡ Some screen → bytes_eq screen.terminal terminal ≡ true)
    → find (λ (s : Screen). bytes_eq s.terminal terminal) (found_screen found) ≡ found
found_again terminal None passes = refl
found_again terminal (Some screen) passes = ap (λ (b : Bool). cond b (Some screen) None) (passes screen refl)

format_same : (system : System) (terminal : List ℕ) → format_of (with_screens system (found_screen (screen_at system terminal))) terminal ≡ format_of system terminal
format_same system terminal =
    ap (λ (found : Option Screen). option_and_then (format_named system.formats) (option_map (λ (screen : Screen). screen.format) found))
    (found_again terminal (screen_at system terminal) (found_passes system.screens terminal))

-- ---- what is asked of it

long_same : (system : System) (screens : List Screen) (terminal : List ℕ) (number : ℕ) (texts : List (List ℕ)) (long : Option ℕ)
    → unless_long (with_screens system screens) terminal number texts long ≡ unless_long system terminal number texts long
long_same system screens terminal number texts (Some long) = refl
long_same system screens terminal number texts None = refl

entered_same : (system : System) (screens : List Screen) (terminal : List ℕ) (number : ℕ) (made : Result (List (List ℕ)) (List ℕ))
    → entered_asked (with_screens system screens) terminal number made ≡ entered_asked system terminal number made
entered_same system screens terminal number (Ok texts) = long_same system screens terminal number texts (first_long texts)
entered_same system screens terminal number (Err name) = refl

screen_same : (system : System) (screens : List Screen) (terminal : List ℕ) (number : ℕ) (values : List FieldValue) (format : Option FormatLines)
    → screen_asked (with_screens system screens) terminal number values format ≡ screen_asked system terminal number values format
screen_same system screens terminal number values (Some format) = entered_same system screens terminal number (entered format values)
screen_same system screens terminal number values None = refl

form_same : (system : System) (block : Block) (form : Form) → asked_by (cut_by system (Ok form)) block (Ok form) ≡ asked_by system block (Ok form)
form_same system block (ScreenForm terminal number) =
    screen_same system (found_screen (screen_at system terminal)) terminal number block.values (format_of (with_screens system (found_screen (screen_at system terminal))) terminal)
    ∙ ap (λ (format : Option FormatLines). screen_asked system terminal number block.values format) (format_same system terminal)
form_same system block (InputForm terminal number) = long_same system [] terminal number (input_texts block) (input_long block)
form_same system block (ReceiveForm terminal) = refl
form_same system block (AcknowledgeForm terminal number) = refl
form_same system block (TurnForm region) = refl
form_same system block (QuietForm most) = refl
form_same system block (PowerForm pick) = refl
form_same system block (PowerInForm writes pick) = refl

also_same : (system : System) (block : Block) (form : Form) (rest : Result (Unit {0}) ℕ)
    → asked_by (cut_by system (Ok form)) block (also (Ok form) rest) ≡ asked_by system block (also (Ok form) rest)
unfolding also
also_same system block form (Ok done) = form_same system block form
also_same system block form (Err rule) = refl

-- a rule that is broken is broken in any system
bad_long : (system : System) (terminal : List ℕ) (number rule : ℕ) (texts : List (List ℕ)) (long : Option ℕ) (asked : Asked) → Bad rule ≡ unless_long system terminal number texts long → Bad rule ≡ asked
bad_long system terminal number rule texts (Some long) asked e = cc
bad_long system terminal number rule texts None asked e = cc

bad_same : (system : System) (block : Block) (rule : ℕ) (form : Result Form ℕ) → Bad rule ≡ asked_by (with_screens system []) block form → Bad rule ≡ asked_by system block form
bad_same system block rule (Ok (ScreenForm terminal number)) e = cc
bad_same system block rule (Ok (InputForm terminal number)) e =
    bad_long (with_screens system []) terminal number rule (input_texts block) (input_long block) (asked_by system block (Ok (InputForm terminal number))) e
bad_same system block rule (Ok (ReceiveForm terminal)) e = cc
bad_same system block rule (Ok (AcknowledgeForm terminal number)) e = cc
bad_same system block rule (Ok (TurnForm region)) e = cc
bad_same system block rule (Ok (QuietForm most)) e = cc
bad_same system block rule (Ok (PowerForm pick)) e = cc
bad_same system block rule (Ok (PowerInForm writes pick)) e = cc
bad_same system block rule (Err other) e = e

bad_alike : (system : System) (block : Block) (rule : ℕ) (form : Result Form ℕ) → AsksAlike (Bad rule) (asked_by (with_screens system []) block form) → AsksAlike (Bad rule) (asked_by system block form)
bad_alike system block rule form (inl same) = inl (bad_same system block rule form same)
bad_alike system block rule form (inr first) = let never = first.kept_is in cc

-- ---- both blocks

form_first : (line : Result Form ℕ) (rest : Result (Unit {0}) ℕ) (asked : Form) → also line rest ≡ Ok asked → line ≡ Ok asked
unfolding also
form_first (Ok other) (Ok done) asked e = e
form_first (Ok other) (Err rule) asked e = cc
form_first (Err rule) (Ok done) asked e = cc
form_first (Err rule) (Err other) asked e = cc

formed_alike : (system : System) (kept all : Block) (form line : Result Form ℕ) (rest besides : Result (Unit {0}) ℕ) → also line rest ≡ form
    → AsksAlike (asked_by (cut_by system form) kept form) (asked_by (cut_by system form) all (also line besides)) → AsksAlike (asked_by system kept form) (asked_by system all (also line besides))
formed_alike system kept all (Err rule) line rest besides is alike = bad_alike system all rule (also line besides) alike
formed_alike system kept all (Ok form) line rest besides is alike =
    let first : line ≡ Ok form = form_first line rest form is in
    let all_same : asked_by (cut_by system (Ok form)) all (also line besides) ≡ asked_by system all (also line besides) =
    subst (λ (l : Result Form ℕ). asked_by (cut_by system (Ok form)) all (also l besides) ≡ asked_by system all (also l besides)) (sym first) (also_same system all form besides) in
    subst (λ (a : Asked). AsksAlike (asked_by system kept (Ok form)) a) all_same
    (subst (λ (a : Asked). AsksAlike a (asked_by (cut_by system (Ok form)) all (also line besides))) (form_same system kept form) alike)

abbrev besides_of : Block → Result (Unit {0}) ℕ
besides_of block = also (further_forms block) (printable_block block)

blocks_alike : (system : System) (kept all : Block) → kept.line ≡ all.line
    → (is_command kept.line ≡ false → HasFew system (block_form (length system.regions) kept))
    → (HasScreens (cut_by system (block_form (length system.regions) kept)) → AsksAlike (asked_of (cut_by system (block_form (length system.regions) kept)) kept) (asked_of (cut_by system (block_form (length system.regions) kept)) all))
    → AsksAlike (asked_of system kept) (asked_of system all)
unfolding asked_of block_form
blocks_alike system kept all same few goes = by (is_command kept.line) (is_command all.line) refl (ap is_command same) few goes where
  form : Result Form ℕ
  form = block_form (length system.regions) kept

  by : (b c : Bool) → is_command kept.line ≡ b → b ≡ c → (b ≡ false → HasFew system form)
      → (HasScreens (cut_by system form) → AsksAlike (cond b (command_asked (command_of kept.line)) (asked_by (cut_by system form) kept form))
      (cond c (command_asked (command_of all.line)) (asked_by (cut_by system form) all (block_form (length system.regions) all))))
      → AsksAlike (cond b (command_asked (command_of kept.line)) (asked_by system kept form)) (cond c (command_asked (command_of all.line)) (asked_by system all (block_form (length system.regions) all)))
  by true true e f few goes = inl (ap (λ (line : List ℕ). command_asked (command_of line)) same)
  by false false e f few goes =
      let whole_form : Result Form ℕ → Result Form ℕ = λ line. also line (besides_of all) in
      subst (λ (line : List ℕ). AsksAlike (asked_by system kept form) (asked_by system all (whole_form (line_form (length system.regions) line)))) same
      (formed_alike system kept all form (line_form (length system.regions) kept.line) (besides_of kept) (besides_of all) refl
      (subst (λ (line : List ℕ). AsksAlike (asked_by (cut_by system form) kept form) (asked_by (cut_by system form) all (whole_form (line_form (length system.regions) line)))) (sym same)
      (goes (cut_screens system form (few refl)))))
  by true false e f few goes = cc
  by false true e f few goes = cc

-- ---- the block that is kept, and all lines

pub line_stays : (block : Block) (line : List ℕ) → (and_line block line).line ≡ block.line
line_stays block line = by (is_screen block.line) where
  by : (b : Bool) → (if b then and_field block line else and_text block line).line ≡ block.line
  by true = refl
  by false = refl

lines_stay : (block : Block) (lines : List (List ℕ)) → (with_lines block lines).line ≡ block.line
lines_stay block [] = refl
lines_stay block (line ∷ lines) = lines_stay (and_line block line) lines ∙ line_stays block line

whole_stays : (line : List ℕ) (lines : List (List ℕ)) → (whole line lines).line ≡ line
whole_stays line lines = by (is_screen line) where
  by : (b : Bool) → (if b then whole_screen line lines else whole_input line lines).line ≡ line
  by true = refl
  by false = refl

pub enough_asked : (system : System) (line : List ℕ) (lines : List (List ℕ)) → takes_further line ≡ true
    → (is_command (with_lines (block_alone line) lines).line ≡ false → HasFew system (block_form (length system.regions) (with_lines (block_alone line) lines)))
    → AsksAlike (asked_of system (with_lines (block_alone line) lines)) (asked_of system (whole line lines))
enough_asked system line lines takes few =
    let kept = with_lines (block_alone line) lines in
    blocks_alike system kept (whole line lines) (lines_stay (block_alone line) lines ∙ sym (whole_stays line lines)) few
    (λ screens. keeps_enough (cut_by system (block_form (length system.regions) kept)) line lines screens takes)
