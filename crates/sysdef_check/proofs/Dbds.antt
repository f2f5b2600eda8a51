-- The databases that macros define.
use Rattle.std.proofs.Common.{ℕ, suc, ◌≡◌, ◌+◌, ◌-◌, ◌≤◌, ◌||◌, cond, nat_lt, Bool, true, false, List, [], ◌∷◌, ◌++◌, length, find, slice_get, Option, Some, None, IsTrue, IfSome, IsSomeAnd, IsSome, All, refl, sym, subst, ap, ◌∙◌, arith}
use Rattle.std.specs.List.{list_all, position_or_len}
use Rattle.std.specs.Option.{option_and_then, option_map_or}
use Rattle.std.specs.Str.{bytes_eq}
use Rattle.std.proofs.lemmas.Bool.{false≢true, ltb-true}
use Rattle.std.proofs.lemmas.List.Elements.{All-head, All-tail}
use Rattle.tm_types.specs.declared.dbd.Dbd.{Dbd}
use Rattle.tm_types.specs.declared.dbd.SegType.{SegType}
use Rattle.system_types.specs.declared.definition.Macro.{Macro}
use Rattle.system_types.specs.declared.definition.Macro.TheVariants.{Database, Segment}
use Rattle.system_types.specs.declared.definition.MacroLine.{MacroLine}
use Rattle.system_types.specs.Definitions.{IsInRange}
use Rattle.system_types.specs.ValidSystem.{IsDatabase}
use Rattle.system_types.proofs.Indexed.{found_at}
use Rattle.sysdef_rules.specs.declared.cross.CrossRule.TheVariants.{OfSegments, WrongCount}
use Rattle.sysdef_rules.specs.declared.lookups.MacroKind.TheVariants.{Segments}
use Rattle.sysdef_rules.specs.declared.segments.SegmentRule.TheVariants.{ParentAstray}
use Rattle.sysdef_rules.specs.Counts.{past_limit}
use Rattle.sysdef_rules.specs.Cross.{broken_macro_line, first_line}
use Rattle.sysdef_rules.specs.Lookups.{lines_behind_first, front, has, is_database, is_of_kind, segments_of}
use Rattle.sysdef_rules.specs.Segments.{broken_by_segment, broken_in, first_segment}
use Rattle.sysdef_check.specs.Systems.{value_and_then, database_in, database_number, databases_in, type_in, types_in}
use Rattle.sysdef_rules.proofs.Fronts.{front_all, front_holds}
use Rattle.sysdef_check.proofs.Kept.{and_parts, kept_count, kept_database}
use Rattle.sysdef_check.proofs.Made.{made_holds, none_holds, short_list}
use Rattle.tm_types.proofs.Truths.{neither}

-- each segment has a type
type_counted : (before : List MacroLine) (content : Macro) (rest : List SegType) → is_of_kind Segments content ≡ true → length (value_and_then (type_in before content) rest) ≡ suc (length rest)
type_counted before (Segment name parent key bytes) rest e = refl
type_counted before _ rest e = absurd (false≢true e)

types_counted : (lines before : List MacroLine) → IsTrue (list_all (λ l. is_of_kind Segments l.content) lines) → length (types_in before lines) ≡ length lines
types_counted [] before h = refl
types_counted (line ∷ lines) before h =
    let both = and_parts (is_of_kind Segments line.content) (list_all (λ l. is_of_kind Segments l.content) lines) h in
    type_counted before line.content (types_in (before ++ line ∷ []) lines) both.0 ∙ ap suc (types_counted lines (before ++ line ∷ []) both.1)

type_short : (before : List MacroLine) (content : Macro) → IsInRange content → IfSome (type_in before content) (λ type. type.bytes ≤ 1900)
type_short before (Segment name parent key bytes) h = h.2
type_short before _ h = tt

types_short : (lines before : List MacroLine) → All (λ line. IsInRange line.content) lines → All (λ type. type.bytes ≤ 1900) (types_in before lines)
types_short [] before h = none_holds (λ type. type.bytes ≤ 1900)
types_short (line ∷ lines) before h =
    made_holds (λ type. type.bytes ≤ 1900) (type_in before line.content) (types_in (before ++ line ∷ []) lines) (type_short before line.content (All-head (λ l. IsInRange l.content) line lines h))
    (types_short lines (before ++ line ∷ []) (All-tail (λ l. IsInRange l.content) line lines h))

-- a database has a segment
some_segment : (line : MacroLine) (segments : List MacroLine) → broken_in ParentAstray line segments ≡ None → 1 ≤ length segments
some_segment line [] h = cc
some_segment line (segment ∷ segments) h = omega arith

database_valid : (line : MacroLine) (content : Macro) (rest : List MacroLine) → broken_by_segment ParentAstray line content rest ≡ None → past_limit content rest ≡ None
    → IsInRange content → All (λ l. IsInRange l.content) rest → IfSome (database_in content rest) IsDatabase
database_valid line (Database name roots sectors) rest parents few range others =
    let counted = types_counted (front Segments rest) [] (front_all Segments rest) in
    let some = some_segment line (front Segments rest) parents in
    let most = short_list (λ l. l.number) (front Segments rest) 16 few in
    record {
      some_type = omega (arith, counted, some);
      few_types = omega (arith, counted, most);
      short = types_short (front Segments rest) [] (front_holds (λ l. IsInRange l.content) Segments rest others);
      some_root = range.0;
      few_roots = range.1;
      some_sector = range.2;
      few_sectors = range.3;
    }
database_valid line _ rest parents few range others = tt

valid_in : (all lines before : List MacroLine) → first_line (OfSegments ParentAstray) all before lines ≡ None → first_line WrongCount all before lines ≡ None
    → All (λ l. IsInRange l.content) lines → All IsDatabase (databases_in lines)
valid_in all [] before parents counts range = none_holds IsDatabase
valid_in all (line ∷ lines) before parents counts range =
    let p = neither (broken_macro_line (OfSegments ParentAstray) all before line lines) (first_line (OfSegments ParentAstray) all (before ++ line ∷ []) lines) parents in
    let n = neither (broken_macro_line WrongCount all before line lines) (first_line WrongCount all (before ++ line ∷ []) lines) counts in
    let others = All-tail (λ l. IsInRange l.content) line lines range in
    made_holds IsDatabase (database_in line.content lines) (databases_in lines)
    (database_valid line line.content lines (kept_database ParentAstray all before line lines p.0) (kept_count all before line lines n.0).1 (All-head (λ l. IsInRange l.content) line lines range) others)
    (valid_in all lines (before ++ line ∷ []) p.1 n.1 others)

pub databases_valid : (all : List MacroLine) → first_line (OfSegments ParentAstray) all [] all ≡ None → first_line WrongCount all [] all ≡ None
    → All (λ l. IsInRange l.content) all → All IsDatabase (databases_in all)
databases_valid all parents counts range = valid_in all all [] parents counts range

-- the database of a name that a DBD has: its types are those of the segments that the name has
found_by : (b : Bool) (name : List ℕ) (database : Dbd) (others : Option Dbd) (here rest : List MacroLine) → database.types ≡ types_in [] here
    → (b ≡ false → IsSomeAnd others (λ d. d.types ≡ types_in [] rest)) → IsSomeAnd (cond b (Some database) others) (λ d. d.types ≡ types_in [] (cond b here rest))
found_by true name database others here rest e more = e
found_by false name database others here rest e more = more refl

front_of : (b : Bool) (lines more : List MacroLine) → cond b (front Segments lines) (front Segments more) ≡ front Segments (cond b lines more)
front_of true lines more = refl
front_of false lines more = refl

or_right : (b more : Bool) → (b || more) ≡ true → b ≡ false → more ≡ true
or_right true more h e = absurd (false≢true (sym e))
or_right false more h e = h

found_here : (name : List ℕ) (content : Macro) (lines : List MacroLine) → (has (is_database name) lines ≡ true → IsSomeAnd (find (λ d. bytes_eq d.name name) (databases_in lines)) (λ d. d.types ≡ types_in [] (segments_of name lines)))
    → (is_database name content || has (is_database name) lines) ≡ true
    → IsSomeAnd (find (λ d. bytes_eq d.name name) (value_and_then (database_in content lines) (databases_in lines))) (λ d. d.types ≡ types_in [] (front Segments (cond (is_database name content) lines (lines_behind_first (is_database name) lines))))
unfolding segments_of
found_here name (Database database roots sectors) lines more h =
    let b = bytes_eq database name in
    subst (λ (ls : List MacroLine). IsSomeAnd (cond b (Some (record { name = database; roots = roots; sectors = sectors; types = types_in [] (front Segments lines) })) (find (λ d. bytes_eq d.name name) (databases_in lines))) (λ d. d.types ≡ types_in [] ls))
    (front_of b lines (lines_behind_first (is_database name) lines))
    (found_by b name (record { name = database; roots = roots; sectors = sectors; types = types_in [] (front Segments lines) }) (find (λ d. bytes_eq d.name name) (databases_in lines))
    (front Segments lines) (front Segments (lines_behind_first (is_database name) lines)) refl (λ e. more (or_right b (has (is_database name) lines) h e)))
found_here name _ lines more h = more h

pub database_found : (name : List ℕ) (lines : List MacroLine) → has (is_database name) lines ≡ true
    → IsSomeAnd (find (λ d. bytes_eq d.name name) (databases_in lines)) (λ d. d.types ≡ types_in [] (segments_of name lines))
unfolding segments_of
database_found name [] h = absurd (false≢true h)
database_found name (line ∷ lines) h = found_here name line.content lines (database_found name lines) h

-- a database that is found has a number, and stands at its place
abbrev IsNumberOf : List Dbd → ℕ → Option Dbd → Type 0
IsNumberOf databases number found = (1 ≤ number) × (number ≤ length databases) × (slice_get databases (number - 1) ≡ found)

number_by : (databases : List Dbd) (n : ℕ) (b : Bool) → nat_lt n (length databases) ≡ b → IsSome (option_and_then (slice_get databases) (cond b (Some n) None))
    → IsNumberOf databases (option_map_or (λ place. place + 1) (cond b (Some n) None) 0) (option_and_then (slice_get databases) (cond b (Some n) None))
number_by databases n true e h =
    let within = ltb-true n (length databases) e in
    let same : n + 1 - 1 ≡ n = omega arith in
    (omega arith, omega (arith, within), ap (slice_get databases) same)
number_by databases n false e h = absurd (false≢true h)

pub database_numbered : (databases : List Dbd) (name : List ℕ) → IsSome (find (λ d. bytes_eq d.name name) databases)
    → IsNumberOf databases (database_number databases name) (find (λ d. bytes_eq d.name name) databases)
database_numbered databases name h =
    let test : Dbd → Bool = λ d. bytes_eq d.name name in
    let there = subst (λ (o : Option Dbd). IsSome o) (sym (found_at test databases)) h in
    subst (λ (o : Option Dbd). IsNumberOf databases (database_number databases name) o) (found_at test databases)
    (number_by databases (position_or_len test databases) (nat_lt (position_or_len test databases) (length databases)) refl there)

-- the segments of a database keep the rule on parents
from_broken_in : (line : MacroLine) (segments : List MacroLine) → broken_in ParentAstray line segments ≡ None → first_segment ParentAstray segments [] segments ≡ None
from_broken_in line [] h = cc
from_broken_in line (segment ∷ segments) h = h

abbrev KeepsParents : List MacroLine → Type 0
KeepsParents segments = first_segment ParentAstray segments [] segments ≡ None

keeps_by : (b : Bool) (lines more : List MacroLine) → (b ≡ true → KeepsParents (front Segments lines)) → (b ≡ false → KeepsParents (front Segments more)) → KeepsParents (front Segments (cond b lines more))
keeps_by true lines more here there = here refl
keeps_by false lines more here there = there refl

keeps_here : (name : List ℕ) (line : MacroLine) (content : Macro) (rest : List MacroLine) → broken_by_segment ParentAstray line content rest ≡ None → is_database name content ≡ true
    → KeepsParents (front Segments rest)
keeps_here name line (Database database roots sectors) rest h e = from_broken_in line (front Segments rest) h
keeps_here name line _ rest h e = absurd (false≢true e)

keeps_in : (all lines before : List MacroLine) (name : List ℕ) → first_line (OfSegments ParentAstray) all before lines ≡ None → KeepsParents (segments_of name lines)
unfolding segments_of
keeps_in all [] before name h = refl
keeps_in all (line ∷ lines) before name h =
    let p = neither (broken_macro_line (OfSegments ParentAstray) all before line lines) (first_line (OfSegments ParentAstray) all (before ++ line ∷ []) lines) h in
    keeps_by (is_database name line.content) lines (lines_behind_first (is_database name) lines) (λ e. keeps_here name line line.content lines (kept_database ParentAstray all before line lines p.0) e)
    (λ e. keeps_in all lines (before ++ line ∷ []) name p.1)

pub parents_kept : (all : List MacroLine) (name : List ℕ) → first_line (OfSegments ParentAstray) all [] all ≡ None → KeepsParents (segments_of name all)
parents_kept all name h = keeps_in all all [] name h
