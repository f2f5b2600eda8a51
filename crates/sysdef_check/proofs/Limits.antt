-- How much there is of a kind where the rules on counts are kept.
use Rattle.std.proofs.Common.{ℕ, ◌≡◌, ◌+◌, ◌<◌, ◌≤◌, ◌==◌, cond, Bool, true, false, List, [], ◌∷◌, ◌++◌, length, map, IsTrue, Option, Some, None, refl, ap, arith}
use Rattle.std.proofs.lemmas.Bool.{false≢true, leb-false}
use Rattle.std.proofs.lemmas.Bool.Decides.{nat_tests}
use Rattle.std.proofs.lemmas.List.Sums.{sum_by-append, sum_by-cons}
use Rattle.tm_types.specs.declared.dbd.Dbd.{Dbd}
use Rattle.system_types.specs.declared.definition.Macro.{Macro}
use Rattle.system_types.specs.declared.definition.Macro.TheVariants.{Database, Transaction, Terminal, Region, Format, Program, End}
use Rattle.model_system.specs.declared.code.Code.{Code}
use Rattle.model_system.specs.declared.pcb.Pcb.{Pcb}
use Rattle.model_system.specs.declared.screen.SystemFormat.{SystemFormat}
use Rattle.model_system.specs.declared.system_program.SystemProgram.{SystemProgram}
use Rattle.system_types.specs.declared.definition.MacroLine.{MacroLine}
use Rattle.system_types.specs.Definitions.{ends_well, is_end_macro}
use Rattle.sysdef_rules.specs.declared.cross.CrossRule.{CrossRule}
use Rattle.sysdef_rules.specs.declared.cross.CrossRule.TheVariants.{WrongCount}
use Rattle.sysdef_rules.specs.declared.lookups.MacroKind.{MacroKind}
use Rattle.sysdef_rules.specs.declared.lookups.MacroKind.TheVariants.{Databases, Codes, Terminals, Regions, Formats, Programs}
use Rattle.sysdef_rules.specs.Counts.{breaks_count}
use Rattle.sysdef_rules.specs.Cross.{broken_macro_line, first_line}
use Rattle.sysdef_rules.specs.Lookups.{count, is_of_kind}
use Rattle.sysdef_check.specs.Systems.{value_and_then, code_in, codes_in, psb_after, database_in, databases_in, region_in, regions_in, format_in, formats_in, terminal_in, terminals_in, pcbs_for, program_in, programs_in, programs_with}
use Rattle.sysdef_check.proofs.Made.{either_false}
use Rattle.sysdef_check.proofs.Kept.{kept_count}
use Rattle.tm_types.proofs.Truths.{neither}

abbrev pub as_count : Bool → ℕ
as_count b = cond b 1 0

count_push : (kind : MacroKind) (before : List MacroLine) (line : MacroLine) → count kind (before ++ line ∷ []) ≡ count kind before + as_count (is_of_kind kind line.content)
count_push kind before line =
    let f : MacroLine → ℕ = λ l. as_count (is_of_kind kind l.content) in
    let e = sum_by-append f before (line ∷ []) in
    let one = sum_by-cons f line [] in
    omega (arith, e, one)

pub count_more : (kind : MacroKind) (line : MacroLine) (lines : List MacroLine) → count kind (line ∷ lines) ≡ as_count (is_of_kind kind line.content) + count kind lines
count_more kind line lines = sum_by-cons (λ l. as_count (is_of_kind kind l.content)) line lines

-- one line more is within the limit
still_within : (b : Bool) (n limit : ℕ) → n ≤ limit → (b ≡ true → n < limit) → n + as_count b ≤ limit
still_within true n limit h below = omega (arith, below refl)
still_within false n limit h below = omega (arith, h)

-- Where each macro of a kind breaks a rule once there are so many before it, there are no more.
within_limit : (rule : CrossRule) (kind : MacroKind) (limit : ℕ) (all : List MacroLine)
    → ((before : List MacroLine) (line : MacroLine) (behind : List MacroLine) → is_of_kind kind line.content ≡ true → broken_macro_line rule all before line behind ≡ None → count kind before < limit)
    → (lines before : List MacroLine) → first_line rule all before lines ≡ None → count kind before ≤ limit → count kind before + count kind lines ≤ limit
within_limit rule kind limit all each [] before h n = omega (arith, n)
within_limit rule kind limit all each (line ∷ lines) before h n =
    let both = neither (broken_macro_line rule all before line lines) (first_line rule all (before ++ line ∷ []) lines) h in
    let pushed = count_push kind before line in
    let more = count_more kind line lines in
    let still = still_within (is_of_kind kind line.content) (count kind before) limit n (λ e. each before line lines e both.0) in
    let rest = within_limit rule kind limit all each lines (before ++ line ∷ []) both.1 (omega (arith, pushed, still)) in
    omega (arith, rest, pushed, more)

few_before : (all before : List MacroLine) (content : Macro) → is_of_kind Databases content ≡ true → breaks_count all before content ≡ false → count Databases before < 8
unfolding breaks_count
few_before all before (Database name roots sectors) e h = leb-false 8 (count Databases before) h
few_before all before _ e h = absurd (false≢true e)

database_counted : (content : Macro) (behind : List MacroLine) (rest : List Dbd) → length (value_and_then (database_in content behind) rest) ≡ as_count (is_of_kind Databases content) + length rest
database_counted (Database name roots sectors) behind rest = omega arith
database_counted _ behind rest = omega arith

databases_counted : (lines : List MacroLine) → length (databases_in lines) ≡ count Databases lines
databases_counted [] = refl
databases_counted (line ∷ lines) = omega (arith, database_counted line.content lines (databases_in lines), databases_counted lines, count_more Databases line lines)

pub few_databases : (all : List MacroLine) → first_line WrongCount all [] all ≡ None → length (databases_in all) ≤ 8
few_databases all h =
    let most = within_limit WrongCount Databases 8 all (λ before line behind e kept. few_before all before line.content e (kept_count all before line behind kept).0) all [] h (omega arith) in
    omega (arith, databases_counted all, most)

region_counted : (content : Macro) (rest : List (List ℕ)) → length (value_and_then (region_in content) rest) ≡ as_count (is_of_kind Regions content) + length rest
region_counted (Region classes) rest = omega arith
region_counted _ rest = omega arith

pub regions_counted : (lines : List MacroLine) → length (regions_in lines) ≡ count Regions lines
regions_counted [] = refl
regions_counted (line ∷ lines) = omega (arith, region_counted line.content (regions_in lines), regions_counted lines, count_more Regions line lines)

-- the programs where the PCBs for each line stand in a list
pub programs_listed : (databases : List Dbd) (all lines : List MacroLine) → programs_with lines (map (λ line. pcbs_for databases all line.content) lines) ≡ programs_in databases all lines
programs_listed databases all [] = refl
programs_listed databases all (line ∷ lines) = ap (λ programs. value_and_then (program_in (pcbs_for databases all line.content) line.content) programs) (programs_listed databases all lines)

-- the other kinds
code_before : (all before : List MacroLine) (content : Macro) → is_of_kind Codes content ≡ true → breaks_count all before content ≡ false → count Codes before < 256
unfolding breaks_count
code_before all before (Transaction transaction) e h = leb-false 256 (count Codes before) h
code_before all before _ e h = absurd (false≢true e)

terminal_before : (all before : List MacroLine) (content : Macro) → is_of_kind Terminals content ≡ true → breaks_count all before content ≡ false → count Terminals before < 64
unfolding breaks_count
terminal_before all before (Terminal name format) e h = leb-false 64 (count Terminals before) h
terminal_before all before _ e h = absurd (false≢true e)

region_before : (all before : List MacroLine) (content : Macro) → is_of_kind Regions content ≡ true → breaks_count all before content ≡ false → count Regions before < 8
unfolding breaks_count
region_before all before (Region classes) e h = leb-false 8 (count Regions before) h
region_before all before _ e h = absurd (false≢true e)

format_before : (all before : List MacroLine) (content : Macro) → is_of_kind Formats content ≡ true → breaks_count all before content ≡ false → count Formats before < 32
unfolding breaks_count
format_before all before (Format name format) e h = leb-false 32 (count Formats before) h
format_before all before _ e h = absurd (false≢true e)

program_before : (all before : List MacroLine) (content : Macro) → is_of_kind Programs content ≡ true → breaks_count all before content ≡ false → count Programs before < 64
unfolding breaks_count
program_before all before (Program name lines) e h = leb-false 64 (count Programs before) h
program_before all before _ e h = absurd (false≢true e)

code_counted : (psb : Option (List ℕ)) (content : Macro) (rest : List Code) → length (value_and_then (code_in psb content) rest) ≤ as_count (is_of_kind Codes content) + length rest
code_counted None content rest = omega arith
code_counted (Some name) (Transaction transaction) rest = omega arith
code_counted (Some name) _ rest = omega arith

codes_counted : (lines : List MacroLine) (psb : Option (List ℕ)) → length (codes_in psb lines) ≤ count Codes lines
codes_counted [] psb = omega arith
codes_counted (line ∷ lines) psb =
    omega (arith, code_counted psb line.content (codes_in (psb_after psb line.content) lines), codes_counted lines (psb_after psb line.content), count_more Codes line lines)

terminal_counted : (content : Macro) (rest : List (List ℕ)) → length (value_and_then (terminal_in content) rest) ≡ as_count (is_of_kind Terminals content) + length rest
terminal_counted (Terminal name format) rest = omega arith
terminal_counted _ rest = omega arith

terminals_counted : (lines : List MacroLine) → length (terminals_in lines) ≡ count Terminals lines
terminals_counted [] = refl
terminals_counted (line ∷ lines) = omega (arith, terminal_counted line.content (terminals_in lines), terminals_counted lines, count_more Terminals line lines)

format_counted : (content : Macro) (rest : List SystemFormat) → length (value_and_then (format_in content) rest) ≡ as_count (is_of_kind Formats content) + length rest
format_counted (Format name format) rest = omega arith
format_counted _ rest = omega arith

formats_counted : (lines : List MacroLine) → length (formats_in lines) ≡ count Formats lines
formats_counted [] = refl
formats_counted (line ∷ lines) = omega (arith, format_counted line.content (formats_in lines), formats_counted lines, count_more Formats line lines)

program_counted : (pcbs : List Pcb) (content : Macro) (rest : List SystemProgram) → length (value_and_then (program_in pcbs content) rest) ≡ as_count (is_of_kind Programs content) + length rest
program_counted pcbs (Program name lines) rest = omega arith
program_counted pcbs _ rest = omega arith

programs_counted : (databases : List Dbd) (all lines : List MacroLine) → length (programs_in databases all lines) ≡ count Programs lines
programs_counted databases all [] = refl
programs_counted databases all (line ∷ lines) =
    omega (arith, program_counted (pcbs_for databases all line.content) line.content (programs_in databases all lines), programs_counted databases all lines, count_more Programs line lines)

pub few_codes : (all : List MacroLine) → first_line WrongCount all [] all ≡ None → length (codes_in None all) ≤ 256
few_codes all h =
    let most = within_limit WrongCount Codes 256 all (λ before line behind e kept. code_before all before line.content e (kept_count all before line behind kept).0) all [] h (omega arith) in
    omega (arith, codes_counted all None, most)

pub few_terminals : (all : List MacroLine) → first_line WrongCount all [] all ≡ None → length (terminals_in all) ≤ 64
few_terminals all h =
    let most = within_limit WrongCount Terminals 64 all (λ before line behind e kept. terminal_before all before line.content e (kept_count all before line behind kept).0) all [] h (omega arith) in
    omega (arith, terminals_counted all, most)

pub few_regions : (all : List MacroLine) → first_line WrongCount all [] all ≡ None → length (regions_in all) ≤ 8
few_regions all h =
    let most = within_limit WrongCount Regions 8 all (λ before line behind e kept. region_before all before line.content e (kept_count all before line behind kept).0) all [] h (omega arith) in
    omega (arith, regions_counted all, most)

pub few_formats : (all : List MacroLine) → first_line WrongCount all [] all ≡ None → length (formats_in all) ≤ 32
few_formats all h =
    let most = within_limit WrongCount Formats 32 all (λ before line behind e kept. format_before all before line.content e (kept_count all before line behind kept).0) all [] h (omega arith) in
    omega (arith, formats_counted all, most)

pub few_programs : (databases : List Dbd) (all : List MacroLine) → first_line WrongCount all [] all ≡ None → length (programs_in databases all all) ≤ 64
few_programs databases all h =
    let most = within_limit WrongCount Programs 64 all (λ before line behind e kept. program_before all before line.content e (kept_count all before line behind kept).0) all [] h (omega arith) in
    omega (arith, programs_counted databases all all, most)

-- END breaks the rule on counts where there is no terminal or no region
end_counts : (all before : List MacroLine) (content : Macro) → is_end_macro content ≡ true → breaks_count all before content ≡ false → (1 ≤ count Terminals all) × (1 ≤ count Regions all)
unfolding breaks_count
end_counts all before End e h =
    let both = either_false (count Terminals all == 0) (count Regions all == 0) h in
    (grind (arith, nat_tests, both.0), grind (arith, nat_tests, both.1))
end_counts all before _ e h = absurd (false≢true e)

ends_counted : (all lines before : List MacroLine) → first_line WrongCount all before lines ≡ None → IsTrue (ends_well lines) → (1 ≤ count Terminals all) × (1 ≤ count Regions all)
ends_counted all [] before h last = absurd (false≢true last)
ends_counted all (line ∷ []) before h last =
    let both = neither (broken_macro_line WrongCount all before line []) (first_line WrongCount all (before ++ line ∷ []) []) h in
    end_counts all before line.content last (kept_count all before line [] both.0).0
ends_counted all (line ∷ next ∷ lines) before h last =
    let both = neither (broken_macro_line WrongCount all before line (next ∷ lines)) (first_line WrongCount all (before ++ line ∷ []) (next ∷ lines)) h in
    ends_counted all (next ∷ lines) (before ++ line ∷ []) both.1 last

pub some_of_each : (all : List MacroLine) → first_line WrongCount all [] all ≡ None → IsTrue (ends_well all) → (1 ≤ length (terminals_in all)) × (1 ≤ length (regions_in all))
some_of_each all h last =
    let each = ends_counted all all [] h last in
    (omega (arith, each.0, terminals_counted all), omega (arith, each.1, regions_counted all))
