-- A definition that was judged, and a run that ends before its disk is looked at.
use Rattle.std.proofs.Common.{◌≡◌, ℕ, ◌<◌, Bool, true, false, ◌&&◌, List, [], ◌∷◌, ◌++◌, length, sym, ◌∙◌, ap, subst, refl, arith}
use Rattle.std.proofs.lemmas.Bool.Decides.{nat_tests}
use Rattle.std.proofs.lemmas.List.{length-map}
use Rattle.std.specs.Prelude.{Option, Some, None, IfSome, Result, Ok, Err, nat_le}
use Rattle.std.specs.List.{list_all}
use Rattle.model_system.specs.System.{System}
use Rattle.tm_edge.specs.Lines.{CutLine, behind_line, cut_lines, is_short_line, line_size, line_text, lines_of}
use Rattle.tm_edge.proofs.ServedSoFar.{long_first}
use Rattle.sysdef_text.specs.DefinitionEnd.{definition_lines}
use Rattle.tm_session.specs.declared.outcome.Ended.{Ended}
use Rattle.tm_session.specs.declared.outcome.Ended.TheVariants.{Done, Words, BadLine, BadCross, Down, Read, Write, Image, Memory, Limit, Spent}
use Rattle.tm_session.specs.DefinedSystem.{judged_definition, text_of_definition}
use Rattle.tm_session.specs.Outcome.{HasCause, IsReadToEnd}
use Rattle.tm_session.specs.ReadDefinition.{IsCutShort, ReadsDefinition, ReadsLines, StopsBefore, IsDefinitionJudged}
use Rattle.tm_session.specs.Headline.{IsUnbegun, IsDefinitionBroken, Defines}

first_of : (a b : Bool) → a && b ≡ true → a ≡ true
first_of true b h = refl
first_of false b h = h

second_of : (a b : Bool) → a && b ≡ true → b ≡ true
second_of true b h = h
second_of false b h = cc

head_is : (x y : CutLine) (xs ys : List CutLine) → x ∷ xs ≡ y ∷ ys → x ≡ y
head_is x y xs ys e = cc

tail_is : (x y : CutLine) (xs ys : List CutLine) → x ∷ xs ≡ y ∷ ys → xs ≡ ys
tail_is x y xs ys e = cc

-- a definition that was read whole and judged
pub defines_read : (told mid : Option (List ℕ)) (texts : List (List ℕ)) (system : System) → ReadsDefinition told texts mid → judged_definition texts ≡ Ok system
    → IfSome told (λ bytes. Defines bytes system)
defines_read (Some bytes) (Some rest) texts system read e = ap judged_definition read.definition ∙ e
defines_read (Some bytes) None texts system read e = absurd read
defines_read None mid texts system read e = tt

-- of a definition that was read whole no line is too long
clash : (lines before others : List CutLine) (long : CutLine) (more : List CutLine) → lines ++ more ≡ before ++ long ∷ others → length before < length lines
    → list_all is_short_line lines ≡ true → is_short_line long ≡ true
clash [] before others long more same less short = absurd (omega (arith, less))
clash (line ∷ lines) [] others long more same less short = sym (ap is_short_line (head_is line long (lines ++ more) others same)) ∙ first_of (is_short_line line) (list_all is_short_line lines) short
clash (line ∷ lines) (first ∷ before) others long more same less short =
    clash lines before others long more (tail_is line first (lines ++ more) (before ++ long ∷ others) same) (omega (arith, less))
    (second_of (is_short_line line) (list_all is_short_line lines) short)

long_is : (size : ℕ) → nat_le size 4096 ≡ true → 4096 < size → ⊥
long_is size short long = let e : nat_le size 4096 ≡ false = grind (arith, nat_tests) in let f : false ≡ true = rw e at short in cc

none_long : (bytes : List ℕ) (texts : List (List ℕ)) (rest : List ℕ) → ReadsLines bytes texts rest → IsCutShort bytes → ⊥
none_long bytes texts rest read cut =
    let long : CutLine = record { text = line_text cut.rest; size = line_size cut.rest } in
    let parts : read.cut ++ cut_lines rest ≡ cut.cut ++ long ∷ cut_lines (behind_line cut.rest) =
    sym read.served.cut ∙ cut.served.cut ∙ ap (λ more. cut.cut ++ more) (long_first cut.rest cut.long) in
    let counted : length texts ≡ length read.cut = sym (ap length read.lines) ∙ length-map read.cut (λ (line : CutLine). line.text) in
    let less : length cut.cut < length read.cut = subst (λ n. length cut.cut < n) (ap length read.definition ∙ counted) cut.within in
    long_is (line_size cut.rest) (clash read.cut cut.cut (cut_lines (behind_line cut.rest)) long (cut_lines rest) parts less read.served.short) cut.long

breaks_read : (told mid : Option (List ℕ)) (texts : List (List ℕ)) (ended : Ended) → ReadsDefinition told texts mid → judged_definition texts ≡ Err ended
    → IfSome told (λ bytes. IsDefinitionBroken bytes ended)
breaks_read (Some bytes) (Some rest) texts ended read e = record { broken = ap judged_definition read.definition ∙ e; within = λ cut. none_long bytes texts rest read cut }
breaks_read (Some bytes) None texts ended read e = absurd read
breaks_read None mid texts ended read e = tt

-- its text
pub text_told : (told mid : Option (List ℕ)) (texts : List (List ℕ)) (text : List ℕ) → ReadsDefinition told texts mid → text ≡ text_of_definition texts
    → IfSome told (λ bytes. text ≡ text_of_definition (definition_lines (lines_of bytes)))
text_told (Some bytes) (Some rest) texts text read is = is ∙ sym (ap text_of_definition read.definition)
text_told (Some bytes) None texts text read is = absurd read
text_told None mid texts text read is = tt

pub unbegun_judged : (ended : Ended) (told mid : Option (List ℕ)) (texts : List (List ℕ)) → ReadsDefinition told texts mid → IsDefinitionJudged (judged_definition texts) (Err ended) → IsUnbegun told ended
unbegun_judged (BadLine line rule) told mid texts read e = breaks_read told mid texts (BadLine line rule) read e
unbegun_judged (BadCross line rule) told mid texts read e = breaks_read told mid texts (BadCross line rule) read e
unbegun_judged Memory told mid texts read e = tt
unbegun_judged Done told mid texts read e = absurd e
unbegun_judged Down told mid texts read e = absurd e
unbegun_judged Spent told mid texts read e = absurd e
unbegun_judged (Image refusal) told mid texts read e = absurd e
unbegun_judged Read told mid texts read e = absurd e
unbegun_judged Write told mid texts read e = absurd e
unbegun_judged (Limit n) told mid texts read e = absurd e
unbegun_judged (Words word rule) told mid texts read e = absurd e

pub unbegun_read : (ended : Ended) (told : Option (List ℕ)) → StopsBefore ended told → IsUnbegun told ended
unbegun_read (BadLine line rule) told stops = absurd stops
unbegun_read (BadCross line rule) told stops = absurd stops
unbegun_read Memory told stops = tt
unbegun_read Done told stops = absurd stops
unbegun_read Down told stops = absurd stops
unbegun_read Spent told stops = absurd stops
unbegun_read (Image refusal) told stops = absurd stops
unbegun_read Read told stops = tt
unbegun_read Write told stops = absurd stops
unbegun_read (Limit n) told stops = stops
unbegun_read (Words word rule) told stops = absurd stops

-- judging a definition meets no fault
pub judged_cause : (ended : Ended) (verdict : Result System Ended) (r w : ℕ) → IsDefinitionJudged verdict (Err ended) → HasCause ended r r w w
judged_cause (BadLine line rule) verdict r w e = (refl, refl)
judged_cause (BadCross line rule) verdict r w e = (refl, refl)
judged_cause Memory verdict r w e = (refl, refl)
judged_cause Done verdict r w e = absurd e
judged_cause Down verdict r w e = absurd e
judged_cause Spent verdict r w e = absurd e
judged_cause (Image refusal) verdict r w e = absurd e
judged_cause Read verdict r w e = absurd e
judged_cause Write verdict r w e = absurd e
judged_cause (Limit n) verdict r w e = absurd e
judged_cause (Words word rule) verdict r w e = absurd e

-- a run that ends before its life begins has read nothing to its end, and the sink had no part in it
pub unbegun_whole : (ended : Ended) (told left : Option (List ℕ)) → IsUnbegun told ended → IsReadToEnd ended left
unbegun_whole Done told left h = absurd h
unbegun_whole Down told left h = absurd h
unbegun_whole Spent told left h = absurd h
unbegun_whole (Image refusal) told left h = absurd h
unbegun_whole Read told left h = tt
unbegun_whole Write told left h = tt
unbegun_whole Memory told left h = tt
unbegun_whole (Limit n) told left h = tt
unbegun_whole (Words word rule) told left h = tt
unbegun_whole (BadLine line rule) told left h = tt
unbegun_whole (BadCross line rule) told left h = tt

pub unbegun_cause : (ended : Ended) (told : Option (List ℕ)) (r r' w : ℕ) → IsUnbegun told ended → HasCause ended r r' 0 0 → HasCause ended r r' w w
unbegun_cause Done told r r' w h cause = absurd h
unbegun_cause Down told r r' w h cause = absurd h
unbegun_cause Spent told r r' w h cause = absurd h
unbegun_cause (Image refusal) told r r' w h cause = absurd h
unbegun_cause Read told r r' w h cause = (cause.0, refl)
unbegun_cause Write told r r' w h cause = absurd h
unbegun_cause Memory told r r' w h cause = (cause.0, refl)
unbegun_cause (Limit n) told r r' w h cause = (cause.0, cause.1, refl)
unbegun_cause (Words word rule) told r r' w h cause = absurd h
unbegun_cause (BadLine line rule) told r r' w h cause = (cause.0, refl)
unbegun_cause (BadCross line rule) told r r' w h cause = (cause.0, refl)
