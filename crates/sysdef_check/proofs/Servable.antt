-- The calls of a program are those of its PCBs.
use Rattle.std.proofs.Common.{ℕ, zero, suc, ◌≡◌, ◌-◌, ◌≤◌, ◌==◌, ◌&&◌, cond, nat_le, not, Bool, true, false, List, [], ◌∷◌, ◌++◌, length, map, find, get_or, slice_get, Option, Some, None, IsTrue, IfSome, IsSome, IsSomeAnd, All, refl, sym, subst, ◌∙◌, arith}
use Rattle.std.specs.List.{list_all}
use Rattle.std.specs.Option.{option_and_then, option_map}
use Rattle.std.specs.Str.{bytes_eq}
use Rattle.std.proofs.lemmas.Bool.{false≢true}
use Rattle.std.proofs.lemmas.Bool.Decides.{nat_tests}
use Rattle.std.proofs.lemmas.List.Elements.{All-head, All-tail, All-cons}
use Rattle.tm_types.specs.declared.dbd.Dbd.{Dbd}
use Rattle.tm_types.specs.declared.function.Function.{Function}
use Rattle.tm_types.specs.declared.function.Function.TheVariants.{GU, GN, GNP, GHU, GHN, GHNP, ISRT, REPL, DLET, PURG, CHNG, ROLB, ROLL}
use Rattle.model_data.specs.Conditions.{AreSsasOf}
use Rattle.model_data.specs.Search.{place_named}
use Rattle.model_system.specs.declared.program.ScriptLine.{ScriptLine}
use Rattle.model_system.specs.declared.script_ssa.ScriptSsa.{ScriptSsa}
use Rattle.model_system.specs.declared.statement.Statement.TheVariants.{Call}
use Rattle.model_system.specs.Script.{ScriptState, call_ssa}
use Rattle.model_system.specs.declared.pcb.Pcb.{Pcb}
use Rattle.model_system.specs.declared.system_program.SystemProgram.{SystemProgram}
use Rattle.model_system.specs.Pcbs.{pcb_at}
use Rattle.system_types.specs.declared.definition.Macro.{Macro}
use Rattle.system_types.specs.declared.definition.Macro.TheVariants.{Application, DatabasePcb, DestinationPcb, ModifiablePcb, Program}
use Rattle.system_types.specs.declared.definition.MacroLine.{MacroLine}
use Rattle.system_types.specs.Calls.{is_database_function, segment_name}
use Rattle.system_types.specs.ValidSystem.{IsCallOn, IsDatabaseCall, IsPcbOf, IsServable}
use Rattle.sysdef_rules.specs.declared.calls.CallRule.{CallRule}
use Rattle.sysdef_rules.specs.declared.calls.CallRule.TheVariants.{PcbMissing, SsaAstray, NoInsertPath}
use Rattle.sysdef_rules.specs.declared.cross.CrossRule.TheVariants.{DatabaseUnknown, OfCalls, OfSegments, WrongCount}
use Rattle.sysdef_rules.specs.declared.lookups.MacroKind.TheVariants.{Pcbs, Segments}
use Rattle.sysdef_rules.specs.declared.segments.SegmentRule.TheVariants.{ParentAstray}
use Rattle.sysdef_rules.specs.Calls.{breaks_call, broken_by_call, broken_call, go_down, is_insert_path, misses_path, pcb_has, segments_of_pcb, segments_in, pcb_serves, strays}
use Rattle.sysdef_rules.specs.Counts.{past_limit}
use Rattle.sysdef_rules.specs.Cross.{breaks_pcb, broken_macro_line, first_line}
use Rattle.sysdef_rules.specs.Lookups.{lines_behind_first, front, has, is_application_named, is_database, is_of_kind, is_segment_named, macro_line_numbered, pcbs_of, segments_of}
use Rattle.sysdef_rules.specs.Segments.{first_segment}
use Rattle.sysdef_check.specs.Systems.{value_and_then, databases_in, pcb_in, pcbs_for, pcbs_in, program_in, programs_in, types_in}
use Rattle.sysdef_check.proofs.Dbds.{database_found, database_numbered, parents_kept}
use Rattle.sysdef_rules.proofs.Fronts.{front_all, front_holds}
use Rattle.sysdef_check.proofs.Kept.{and_parts, kept_count, not_broken}
use Rattle.sysdef_check.proofs.Made.{made_holds, none_holds, short_list}
use Rattle.sysdef_check.proofs.Paths.{all_there, in_order, is_named, not_false}
use Rattle.tm_types.proofs.Truths.{neither}

-- A program has at most 8 PCBs.
few_by : (b : Bool) (lines more : List MacroLine) → (b ≡ true → length (front Pcbs lines) ≤ 8) → length (front Pcbs more) ≤ 8 → length (front Pcbs (cond b lines more)) ≤ 8
few_by true lines more here there = here refl
few_by false lines more here there = there

few_here : (psb : List ℕ) (content : Macro) (rest : List MacroLine) → past_limit content rest ≡ None → is_application_named psb content ≡ true → length (front Pcbs rest) ≤ 8
few_here psb (Application name) rest h e = short_list (λ l. l.number) (front Pcbs rest) 8 h
few_here psb _ rest h e = absurd (false≢true e)

few_in : (all lines before : List MacroLine) (psb : List ℕ) → first_line WrongCount all before lines ≡ None → length (pcbs_of psb lines) ≤ 8
unfolding pcbs_of
few_in all [] before psb h = omega arith
few_in all (line ∷ lines) before psb h =
    let both = neither (broken_macro_line WrongCount all before line lines) (first_line WrongCount all (before ++ line ∷ []) lines) h in
    few_by (is_application_named psb line.content) lines (lines_behind_first (is_application_named psb) lines) (λ e. few_here psb line.content lines (kept_count all before line lines both.0).1 e)
    (few_in all lines (before ++ line ∷ []) psb both.1)

pcb_counted : (databases : List Dbd) (content : Macro) (rest : List Pcb) → length (value_and_then (pcb_in databases content) rest) ≤ suc (length rest)
pcb_counted databases (DatabasePcb database options) rest = omega arith
pcb_counted databases (DestinationPcb destination) rest = omega arith
pcb_counted databases ModifiablePcb rest = omega arith
pcb_counted databases _ rest = omega arith

pcbs_counted : (databases : List Dbd) (lines : List MacroLine) → length (pcbs_in databases lines) ≤ length lines
pcbs_counted databases [] = omega arith
pcbs_counted databases (line ∷ lines) = omega (arith, pcb_counted databases line.content (pcbs_in databases lines), pcbs_counted databases lines)

-- The database of each PCB is there.
abbrev KeepsDatabase : List MacroLine → MacroLine → Type 0
KeepsDatabase all line = breaks_pcb all line.content ≡ false

kept_pcb : (all before : List MacroLine) (line : MacroLine) (rest : List MacroLine) → broken_macro_line DatabaseUnknown all before line rest ≡ None → KeepsDatabase all line
unfolding broken_macro_line
kept_pcb all before line rest h = not_broken line (breaks_pcb all line.content) h

keeps_in : (all lines before : List MacroLine) → first_line DatabaseUnknown all before lines ≡ None → All (KeepsDatabase all) lines
keeps_in all [] before h = none_holds (KeepsDatabase all)
keeps_in all (line ∷ lines) before h =
    let both = neither (broken_macro_line DatabaseUnknown all before line lines) (first_line DatabaseUnknown all (before ++ line ∷ []) lines) h in
    All-cons (KeepsDatabase all) line lines (kept_pcb all before line lines both.0) (keeps_in all lines (before ++ line ∷ []) both.1)

behind_by : (P : MacroLine → Type 0) (b : Bool) (lines more : List MacroLine) → All P lines → All P more → All P (cond b lines more)
behind_by P true lines more h rest = h
behind_by P false lines more h rest = rest

behind_holds : (P : MacroLine → Type 0) (test : Macro → Bool) (lines : List MacroLine) → All P lines → All P (lines_behind_first test lines)
behind_holds P test [] h = h
behind_holds P test (line ∷ lines) h = behind_by P (test line.content) lines (lines_behind_first test lines) (All-tail P line lines h) (behind_holds P test lines (All-tail P line lines h))

pub pcbs_hold : (P : MacroLine → Type 0) (psb : List ℕ) (lines : List MacroLine) → All P lines → All P (pcbs_of psb lines)
unfolding pcbs_of
pcbs_hold P psb lines h = front_holds P Pcbs (lines_behind_first (is_application_named psb) lines) (behind_holds P (is_application_named psb) lines h)

pcbs_all : (psb : List ℕ) (lines : List MacroLine) → IsTrue (list_all (λ l. is_of_kind Pcbs l.content) (pcbs_of psb lines))
unfolding pcbs_of
pcbs_all psb lines = front_all Pcbs (lines_behind_first (is_application_named psb) lines)

there_by : (P : Dbd → Type 0) (found : Option Dbd) → IsSomeAnd found P → IsSome found
there_by P (Some database) h = refl
there_by P None h = absurd h

pcb_fits : (all : List MacroLine) (content : Macro) → breaks_pcb all content ≡ false → IfSome (pcb_in (databases_in all) content) (IsPcbOf (databases_in all))
unfolding breaks_pcb
pcb_fits all (DatabasePcb database options) h =
    let found = database_found database all (not_false (has (is_database database) all) h) in
    let number = database_numbered (databases_in all) database (there_by _ (find (λ d. bytes_eq d.name database) (databases_in all)) found) in
    (number.0, number.1)
pcb_fits all (DestinationPcb destination) h = tt
pcb_fits all ModifiablePcb h = tt
pcb_fits all _ h = tt

pcbs_fit : (all lines : List MacroLine) → All (KeepsDatabase all) lines → All (IsPcbOf (databases_in all)) (pcbs_in (databases_in all) lines)
pcbs_fit all [] h = none_holds (IsPcbOf (databases_in all))
pcbs_fit all (line ∷ lines) h =
    made_holds (IsPcbOf (databases_in all)) (pcb_in (databases_in all) line.content) (pcbs_in (databases_in all) lines) (pcb_fits all line.content (All-head (KeepsDatabase all) line lines h))
    (pcbs_fit all lines (All-tail (KeepsDatabase all) line lines h))

-- A PCB stands at the place of its line.
pcb_first : (databases : List Dbd) (content : Macro) (rest : List Pcb) → is_of_kind Pcbs content ≡ true → slice_get (value_and_then (pcb_in databases content) rest) 0 ≡ pcb_in databases content
pcb_first databases (DatabasePcb database options) rest e = refl
pcb_first databases (DestinationPcb destination) rest e = refl
pcb_first databases ModifiablePcb rest e = refl
pcb_first databases _ rest e = absurd (false≢true e)

pcb_behind : (databases : List Dbd) (content : Macro) (rest : List Pcb) (n : ℕ) → is_of_kind Pcbs content ≡ true → slice_get (value_and_then (pcb_in databases content) rest) (suc n) ≡ slice_get rest n
pcb_behind databases (DatabasePcb database options) rest n e = refl
pcb_behind databases (DestinationPcb destination) rest n e = refl
pcb_behind databases ModifiablePcb rest n e = refl
pcb_behind databases _ rest n e = absurd (false≢true e)

pcb_place : (databases : List Dbd) (lines : List MacroLine) (n : ℕ) → IsTrue (list_all (λ l. is_of_kind Pcbs l.content) lines)
    → slice_get (pcbs_in databases lines) n ≡ option_and_then (λ l. pcb_in databases l.content) (slice_get lines n)
pcb_place databases [] n h = refl
pcb_place databases (line ∷ lines) zero h =
    pcb_first databases line.content (pcbs_in databases lines) (and_parts (is_of_kind Pcbs line.content) (list_all (λ l. is_of_kind Pcbs l.content) lines) h).0
pcb_place databases (line ∷ lines) (suc n) h =
    let both = and_parts (is_of_kind Pcbs line.content) (list_all (λ l. is_of_kind Pcbs l.content) lines) h in
    pcb_behind databases line.content (pcbs_in databases lines) n both.0 ∙ pcb_place databases lines n both.1

pcb_by : (databases : List Dbd) (lines : List MacroLine) (number : ℕ) (b : Bool) → IsTrue (list_all (λ l. is_of_kind Pcbs l.content) lines)
    → cond b None (slice_get (pcbs_in databases lines) (number - 1)) ≡ option_and_then (λ l. pcb_in databases l.content) (cond b None (slice_get lines (number - 1)))
pcb_by databases lines number true h = refl
pcb_by databases lines number false h = pcb_place databases lines (number - 1) h

pcb_numbered : (databases : List Dbd) (lines : List MacroLine) (number : ℕ) → IsTrue (list_all (λ l. is_of_kind Pcbs l.content) lines)
    → pcb_at (pcbs_in databases lines) number ≡ option_and_then (λ l. pcb_in databases l.content) (macro_line_numbered lines number)
pcb_numbered databases lines number h = pcb_by databases lines number (number == 0) h

-- A call that breaks no rule is one that its PCB has.
plain_ssas : (ssas : List ScriptSsa) → strays None ssas ≡ false → ssas ≡ []
plain_ssas [] h = refl
plain_ssas (ssa ∷ ssas) h = absurd (false≢true (sym h))

types_named : (segments : List MacroLine) (ssas : List ScriptSsa) → IsTrue (list_all (λ l. is_of_kind Segments l.content) segments)
    → All (λ ssa. has (is_segment_named (segment_name ssa)) segments ≡ true) ssas → All (λ ssa. IsSome (place_named (types_in [] segments) (segment_name ssa))) ssas
types_named segments ssas all h = λ k d below. is_named segments (segment_name (get_or ssas k d)) all (h k d below)

path_by : (segments : List MacroLine) (ssas : List ScriptSsa) (state : ScriptState) → IsTrue (list_all (λ l. is_of_kind Segments l.content) segments) → first_segment ParentAstray segments [] segments ≡ None
    → All (λ ssa. has (is_segment_named (segment_name ssa)) segments ≡ true) ssas → not (is_insert_path segments ssas) ≡ false
    → AreSsasOf ISRT (types_in [] segments) (map (call_ssa state) ssas)
path_by segments [] state all kept there h = absurd (false≢true (sym h))
path_by segments (ssa ∷ ssas) state all kept there h = in_order state segments None ssa ssas all kept there (not_false (is_insert_path segments (ssa ∷ ssas)) h)

path_of : (function : Function) (segments : List MacroLine) (ssas : List ScriptSsa) (state : ScriptState) → IsTrue (list_all (λ l. is_of_kind Segments l.content) segments)
    → first_segment ParentAstray segments [] segments ≡ None → All (λ ssa. has (is_segment_named (segment_name ssa)) segments ≡ true) ssas → misses_path (Some segments) function ssas ≡ false
    → AreSsasOf function (types_in [] segments) (map (call_ssa state) ssas)
path_of ISRT segments ssas state all kept there h = path_by segments ssas state all kept there h
path_of GU segments ssas state all kept there h = tt
path_of GN segments ssas state all kept there h = tt
path_of GNP segments ssas state all kept there h = tt
path_of GHU segments ssas state all kept there h = tt
path_of GHN segments ssas state all kept there h = tt
path_of GHNP segments ssas state all kept there h = tt
path_of REPL segments ssas state all kept there h = tt
path_of DLET segments ssas state all kept there h = tt
path_of PURG segments ssas state all kept there h = tt
path_of CHNG segments ssas state all kept there h = tt
path_of ROLB segments ssas state all kept there h = tt
path_of ROLL segments ssas state all kept there h = tt

segments_all : (name : List ℕ) (lines : List MacroLine) → IsTrue (list_all (λ l. is_of_kind Segments l.content) (segments_of name lines))
unfolding segments_of
segments_all name lines = front_all Segments (lines_behind_first (is_database name) lines)

on_database : (function : Function) (ssas : List ScriptSsa) (segments : List MacroLine) (found : Option Dbd) → IsTrue (is_database_function function)
    → IsTrue (list_all (λ l. is_of_kind Segments l.content) segments) → first_segment ParentAstray segments [] segments ≡ None
    → strays (Some segments) ssas ≡ false → misses_path (Some segments) function ssas ≡ false
    → IsSomeAnd found (λ d. d.types ≡ types_in [] segments) → IsSomeAnd found (IsDatabaseCall function ssas)
on_database function ssas segments (Some dbd) f all kept s p e =
    let there = all_there segments None ssas (not_false (go_down segments None ssas) s) in
    record {
      has_function = f;
      named = subst (λ types. All (λ ssa. IsSome (place_named types (segment_name ssa))) ssas) (sym e) (types_named segments ssas all there);
      in_order = λ state. subst (λ types. AreSsasOf function types (map (call_ssa state) ssas)) (sym e) (path_of function segments ssas state all kept there p);
    }
on_database function ssas segments None f all kept s p e = e

on_content : (all : List MacroLine) (function : Function) (ssas : List ScriptSsa) (content : Macro) → first_line (OfSegments ParentAstray) all [] all ≡ None → breaks_pcb all content ≡ false
    → pcb_has content function ≡ true → strays (segments_in all content) ssas ≡ false → misses_path (segments_in all content) function ssas ≡ false
    → IsCallOn (databases_in all) function ssas (pcb_in (databases_in all) content)
unfolding breaks_pcb
on_content all function ssas (DatabasePcb database options) parents there f s p =
    let found = database_found database all (not_false (has (is_database database) all) there) in
    let number = database_numbered (databases_in all) database (there_by _ (find (λ d. bytes_eq d.name database) (databases_in all)) found) in
    subst (λ (o : Option Dbd). IsSomeAnd o (IsDatabaseCall function ssas)) (sym number.2)
    (on_database function ssas (segments_of database all) (find (λ d. bytes_eq d.name database) (databases_in all)) f (segments_all database all) (parents_kept all database parents) s p found)
on_content all function ssas (DestinationPcb destination) parents there f s p = record { has_function = f; none = plain_ssas ssas s }
on_content all function ssas ModifiablePcb parents there f s p = record { has_function = f; none = plain_ssas ssas s }
on_content all function ssas _ parents there f s p = absurd (false≢true f)

on_line : (all : List MacroLine) (function : Function) (ssas : List ScriptSsa) (line : Option MacroLine) → first_line (OfSegments ParentAstray) all [] all ≡ None → IfSome line (KeepsDatabase all)
    → pcb_serves line function ≡ true → strays (segments_of_pcb all line) ssas ≡ false → misses_path (segments_of_pcb all line) function ssas ≡ false
    → IsCallOn (databases_in all) function ssas (option_and_then (λ l. pcb_in (databases_in all) l.content) line)
on_line all function ssas (Some line) parents there f s p = on_content all function ssas line.content parents there f s p
on_line all function ssas None parents there f s p = absurd (false≢true f)

-- each call of a script that breaks no rule
first_by : (b : Bool) (line : ScriptLine) (found : Option ScriptLine) → option_map (λ l. l.number) (cond b (Some line) found) ≡ None → (b ≡ false) × (option_map (λ l. l.number) found ≡ None)
first_by true line found h = cc
first_by false line found h = (refl, h)

unbroken : (rule : CallRule) (all pcbs : List MacroLine) (lines : List ScriptLine) (place : ℕ) (line : ScriptLine) → broken_call rule all pcbs lines ≡ None → slice_get lines place ≡ Some line
    → breaks_call rule all pcbs line.statement ≡ false
unbroken rule all pcbs [] place line h e = cc
unbroken rule all pcbs (first ∷ lines) zero line h e =
    let same : first ≡ line = cc in
    subst (λ (l : ScriptLine). breaks_call rule all pcbs l.statement ≡ false) same (first_by (breaks_call rule all pcbs first.statement) first (find (λ l. breaks_call rule all pcbs l.statement) lines) h).0
unbroken rule all pcbs (first ∷ lines) (suc place) line h e =
    unbroken rule all pcbs lines place line (first_by (breaks_call rule all pcbs first.statement) first (find (λ l. breaks_call rule all pcbs l.statement) lines) h).1 e

line_at : (P : MacroLine → Type 0) (lines : List MacroLine) (n : ℕ) → All P lines → IfSome (slice_get lines n) P
line_at P [] n h = tt
line_at P (line ∷ lines) zero h = All-head P line lines h
line_at P (line ∷ lines) (suc n) h = line_at P lines n (All-tail P line lines h)

number_by : (P : MacroLine → Type 0) (lines : List MacroLine) (number : ℕ) (b : Bool) → All P lines → IfSome (cond b None (slice_get lines (number - 1))) P
number_by P lines number true h = tt
number_by P lines number false h = line_at P lines (number - 1) h

line_numbered : (P : MacroLine → Type 0) (lines : List MacroLine) (number : ℕ) → All P lines → IfSome (macro_line_numbered lines number) P
line_numbered P lines number h = number_by P lines number (number == 0) h

served_by : (b s : Bool) → (b && not s) ≡ false → b ≡ true → s ≡ true
served_by true s h e = not_false s h
served_by false s h e = absurd (false≢true e)

module _ (all : List MacroLine) (parents : first_line (OfSegments ParentAstray) all [] all ≡ None) (counts : first_line WrongCount all [] all ≡ None) (unknown : first_line DatabaseUnknown all [] all ≡ None) where
  program_serves : (name : List ℕ) (script : List ScriptLine) → broken_call PcbMissing all (pcbs_of name all) script ≡ None → broken_call SsaAstray all (pcbs_of name all) script ≡ None
      → broken_call NoInsertPath all (pcbs_of name all) script ≡ None → IsServable (databases_in all) (pcbs_in (databases_in all) (pcbs_of name all)) script
  program_serves name script missing astray path =
      let pcbs = pcbs_of name all in
      let few = few_in all all [] name counts in
      let keeps = pcbs_hold (KeepsDatabase all) name all (keeps_in all all [] unknown) in
      record {
        few_pcbs = omega (arith, few, pcbs_counted (databases_in all) pcbs);
        databases_there = pcbs_fit all pcbs keeps;
        calls = λ place number pcb function area ssas at above.
            let line : ScriptLine = record { number = number; statement = Call function pcb area ssas } in
            let positive : nat_le 1 pcb ≡ true = grind (arith, nat_tests) in
            let served = served_by (nat_le 1 pcb) (pcb_serves (macro_line_numbered pcbs pcb) function) (unbroken PcbMissing all pcbs script place line missing at) positive in
            subst (λ (o : Option Pcb). IsCallOn (databases_in all) function ssas o) (sym (pcb_numbered (databases_in all) pcbs pcb (pcbs_all name all)))
            (on_line all function ssas (macro_line_numbered pcbs pcb) parents (line_numbered (KeepsDatabase all) pcbs pcb keeps) served
            (unbroken SsaAstray all pcbs script place line astray at) (unbroken NoInsertPath all pcbs script place line path at));
      }

  abbrev Serves : SystemProgram → Type 0
  Serves program = IsServable (databases_in all) program.pcbs program.program

  program_by : (content : Macro) → broken_by_call PcbMissing all content ≡ None → broken_by_call SsaAstray all content ≡ None → broken_by_call NoInsertPath all content ≡ None
      → IfSome (program_in (pcbs_for (databases_in all) all content) content) Serves
  program_by (Program name script) missing astray path = program_serves name script missing astray path
  program_by _ missing astray path = tt

  kept_call : (rule : CallRule) (before : List MacroLine) (line : MacroLine) (rest : List MacroLine) → broken_macro_line (OfCalls rule) all before line rest ≡ None → broken_by_call rule all line.content ≡ None
  unfolding broken_macro_line
  kept_call rule before line rest h = h

  serves_in : (lines before : List MacroLine) → first_line (OfCalls PcbMissing) all before lines ≡ None → first_line (OfCalls SsaAstray) all before lines ≡ None
      → first_line (OfCalls NoInsertPath) all before lines ≡ None → All Serves (programs_in (databases_in all) all lines)
  serves_in [] before missing astray path = none_holds Serves
  serves_in (line ∷ lines) before missing astray path =
      let m = neither (broken_macro_line (OfCalls PcbMissing) all before line lines) (first_line (OfCalls PcbMissing) all (before ++ line ∷ []) lines) missing in
      let s = neither (broken_macro_line (OfCalls SsaAstray) all before line lines) (first_line (OfCalls SsaAstray) all (before ++ line ∷ []) lines) astray in
      let p = neither (broken_macro_line (OfCalls NoInsertPath) all before line lines) (first_line (OfCalls NoInsertPath) all (before ++ line ∷ []) lines) path in
      made_holds Serves (program_in (pcbs_for (databases_in all) all line.content) line.content) (programs_in (databases_in all) all lines)
      (program_by line.content (kept_call PcbMissing before line lines m.0) (kept_call SsaAstray before line lines s.0) (kept_call NoInsertPath before line lines p.0))
      (serves_in lines (before ++ line ∷ []) m.1 s.1 p.1)

  pub programs_serve : first_line (OfCalls PcbMissing) all [] all ≡ None → first_line (OfCalls SsaAstray) all [] all ≡ None → first_line (OfCalls NoInsertPath) all [] all ≡ None
      → All (λ program. IsServable (databases_in all) program.pcbs program.program) (programs_in (databases_in all) all all)
  programs_serve missing astray path = serves_in all [] missing astray path
