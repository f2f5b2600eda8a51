-- Segment types, and the segments of which they are made.
use Rattle.std.proofs.Common.{ℕ, ◌≡◌, ◌+◌, ◌-◌, ◌==◌, ◌&&◌, ◌||◌, cond, nat_lt, not, Bool, true, false, List, [], ◌∷◌, ◌++◌, length, map, find, slice_get, position, Option, Some, None, IsTrue, IsSome, IsSomeAnd, All, refl, sym, subst, ap, ◌∙◌, append_assoc, arith}
use Rattle.std.specs.List.{list_all, list_any, position_from, position_or_len}
use Rattle.std.specs.Option.{option_and_then, option_map_or}
use Rattle.std.specs.Str.{bytes_eq}
use Rattle.std.proofs.lemmas.Bool.{false≢true}
use Rattle.std.proofs.lemmas.Bool.Decides.{Decides-eqb}
use Rattle.std.proofs.lemmas.Iterator.Adapters.{position_from-zero}
use Rattle.std.proofs.lemmas.List.Elements.{All-cons, All-head, All-tail}
use Rattle.std.proofs.lemmas.Slice.Eq.{bytes_eq-Decides}
use Rattle.tm_types.specs.declared.dbd.SegType.{SegType}
use Rattle.tm_types.specs.SegTypes.{type_at}
use Rattle.model_data.specs.Conditions.{AreInsertSsas}
use Rattle.model_data.specs.Search.{number_named, place_named}
use Rattle.model_system.specs.declared.script_ssa.ScriptSsa.{ScriptSsa}
use Rattle.model_system.specs.declared.script_ssa.ScriptSsa.TheVariants.{Any, Equal, AtLeast}
use Rattle.model_system.specs.Script.{ScriptState, call_ssa}
use Rattle.system_types.specs.declared.definition.Macro.{Macro}
use Rattle.system_types.specs.declared.definition.Macro.TheVariants.{Segment}
use Rattle.system_types.specs.declared.definition.MacroLine.{MacroLine}
use Rattle.system_types.specs.Calls.{segment_name}
use Rattle.system_types.proofs.Indexed.{found_at}
use Rattle.sysdef_rules.specs.declared.lookups.MacroKind.TheVariants.{Segments}
use Rattle.sysdef_rules.specs.declared.segments.SegmentRule.TheVariants.{ParentAstray}
use Rattle.sysdef_rules.specs.Calls.{fill_levels, go_down, has_insert_form, is_below_segment, is_parent}
use Rattle.sysdef_rules.specs.Lookups.{has, is_of_kind, is_segment_named, line_number_of, parent_at, parent_named}
use Rattle.sysdef_rules.specs.Segments.{breaks_parent, breaks_segment, first_segment, own_line}
use Rattle.sysdef_check.specs.Systems.{value_and_then, parent_number, type_in, types_in}
use Rattle.sysdef_check.proofs.Kept.{and_parts, not_broken}
use Rattle.sysdef_check.proofs.Made.{none_holds}
use Rattle.tm_types.proofs.Truths.{neither}

abbrev AreSegments : List MacroLine → Type 0
AreSegments lines = IsTrue (list_all (λ l. is_of_kind Segments l.content) lines)

-- A type stands at the place of its segment.
place_by : (b : Bool) (from : ℕ) (more others : Option ℕ) → more ≡ others → cond b (Some from) more ≡ cond b (Some from) others
place_by b from more others e = ap (λ o. cond b (Some from) o) e

place_here : (before : List MacroLine) (content : Macro) (rest : List SegType) (name : List ℕ) (from : ℕ) (others : Option ℕ) → is_of_kind Segments content ≡ true
    → position_from (λ s. bytes_eq s.name name) (from + 1) rest ≡ others
    → position_from (λ s. bytes_eq s.name name) from (value_and_then (type_in before content) rest) ≡ cond (is_segment_named name content) (Some from) others
place_here before (Segment segment parent key bytes) rest name from others e h = ap (λ o. cond (bytes_eq segment name) (Some from) o) h
place_here before _ rest name from others e h = absurd (false≢true e)

place_from : (lines before : List MacroLine) (name : List ℕ) (from : ℕ) → AreSegments lines
    → position_from (λ s. bytes_eq s.name name) from (types_in before lines) ≡ position_from (λ l. is_segment_named name l.content) from lines
place_from [] before name from h = refl
place_from (line ∷ lines) before name from h =
    let both = and_parts (is_of_kind Segments line.content) (list_all (λ l. is_of_kind Segments l.content) lines) h in
    place_here before line.content (types_in (before ++ line ∷ []) lines) name from (position_from (λ l. is_segment_named name l.content) (from + 1) lines) both.0
    (place_from lines (before ++ line ∷ []) name (from + 1) both.1)

pub place_is : (segments : List MacroLine) (name : List ℕ) → AreSegments segments → place_named (types_in [] segments) name ≡ position (λ l. is_segment_named name l.content) segments
place_is segments name h =
    position_from-zero (λ s. bytes_eq s.name name) (types_in [] segments) ∙ place_from segments [] name 0 h ∙ sym (position_from-zero (λ l. is_segment_named name l.content) segments)

number_is : (segments : List MacroLine) (name : List ℕ) → AreSegments segments → number_named (types_in [] segments) name ≡ line_number_of (is_segment_named name) segments
number_is segments name h = ap (λ o. option_map_or (λ place. place + 1) o 0) (place_is segments name h)

some_by : (b more : Bool) (place : ℕ) (rest : Option ℕ) → (more ≡ true → IsSome rest) → (b || more) ≡ true → IsSome (cond b (Some place) rest)
some_by true more place rest h e = refl
some_by false more place rest h e = h e

some_from : {X : Type 0} (p : X → Bool) (place : ℕ) (xs : List X) → list_any p xs ≡ true → IsSome (position_from p place xs)
some_from p place [] e = absurd (false≢true e)
some_from p place (x ∷ xs) e = some_by (p x) (list_any p xs) place (position_from p (place + 1) xs) (some_from p (place + 1) xs) e

-- a segment that is there has a type
pub is_named : (segments : List MacroLine) (name : List ℕ) → AreSegments segments → has (is_segment_named name) segments ≡ true → IsSome (place_named (types_in [] segments) name)
is_named segments name h there =
    subst (λ (o : Option ℕ). IsSome o) (sym (place_is segments name h ∙ position_from-zero (λ l. is_segment_named name l.content) segments)) (some_from (λ l. is_segment_named name l.content) 0 segments there)

-- the type of a name, by the number that the name has
type_by : (types : List SegType) (number place : ℕ) (b : Bool) → (number == 0) ≡ b → number ≡ place + 1 → cond b None (slice_get types (number - 1)) ≡ slice_get types place
type_by types number place true e h = let none = (Decides-eqb number 0).0 e in absurd (omega (arith, none, h))
type_by types number place false e h = let same : number - 1 ≡ place = omega (arith, h) in ap (slice_get types) same

numbered_by : (types : List SegType) (n : ℕ) (b : Bool) → type_at types (option_map_or (λ place. place + 1) (cond b (Some n) None) 0) ≡ option_and_then (slice_get types) (cond b (Some n) None)
numbered_by types n true = type_by types (n + 1) n (n + 1 == 0) refl refl
numbered_by types n false = refl

type_named : (types : List SegType) (name : List ℕ) → type_at types (number_named types name) ≡ find (λ s. bytes_eq s.name name) types
type_named types name =
    let test : SegType → Bool = λ s. bytes_eq s.name name in
    numbered_by types (position_or_len test types) (nat_lt (position_or_len test types) (length types)) ∙ found_at test types

-- The parent of a type has the number of the segment's parent: that stands before it.
prefix_by : (b more : Bool) (from : ℕ) (long short : Option ℕ) → (more ≡ true → long ≡ short) → (b || more) ≡ true → cond b (Some from) long ≡ cond b (Some from) short
prefix_by true more from long short h e = refl
prefix_by false more from long short h e = h e

prefix_from : {X : Type 0} (p : X → Bool) (from : ℕ) (xs ys : List X) → list_any p xs ≡ true → position_from p from (xs ++ ys) ≡ position_from p from xs
prefix_from p from [] ys e = absurd (false≢true e)
prefix_from p from (x ∷ xs) ys e = prefix_by (p x) (list_any p xs) from (position_from p (from + 1) (xs ++ ys)) (position_from p (from + 1) xs) (prefix_from p (from + 1) xs ys) e

prefix_number : (before others : List MacroLine) (name : List ℕ) → has (is_segment_named name) before ≡ true → line_number_of (is_segment_named name) (before ++ others) ≡ line_number_of (is_segment_named name) before
prefix_number before others name there =
    let test : MacroLine → Bool = λ l. is_segment_named name l.content in
    ap (λ o. option_map_or (λ place. place + 1) o 0)
    (position_from-zero test (before ++ others) ∙ prefix_from test 0 before others there ∙ sym (position_from-zero test before))

pub not_false : (b : Bool) → not b ≡ false → b ≡ true
not_false true h = refl
not_false false h = absurd (false≢true (sym h))

parent_is : (before others : List MacroLine) (name : List ℕ) (parent : Option (List ℕ)) (key bytes : ℕ) → breaks_parent before (Segment name parent key bytes) ≡ false
    → parent_number before parent ≡ parent_number (before ++ others) parent
unfolding breaks_parent
parent_is before others name None key bytes h = refl
parent_is [] others name (Some parent) key bytes h = absurd (false≢true (sym h))
parent_is (line ∷ before) others name (Some parent) key bytes h = sym (prefix_number (line ∷ before) others parent (not_false (has (is_segment_named parent) (line ∷ before)) h))

abbrev HasParentOf : List MacroLine → Option SegType → Option MacroLine → Type 0
HasParentOf segments found line = IsSomeAnd found (λ s. s.parent ≡ parent_number segments (parent_at line))

parent_by : (b more : Bool) (segments : List MacroLine) (s : SegType) (line : MacroLine) (found : Option SegType) (other : Option MacroLine) → s.parent ≡ parent_number segments (parent_at (Some line))
    → (more ≡ true → HasParentOf segments found other) → (b || more) ≡ true → HasParentOf segments (cond b (Some s) found) (cond b (Some line) other)
parent_by true more segments s line found other e rest h = e
parent_by false more segments s line found other e rest h = rest h

parent_here : (segments before : List MacroLine) (number : ℕ) (content : Macro) (others : List MacroLine) (rest : List SegType) (name : List ℕ) (more : Bool) (other : Option MacroLine)
    → segments ≡ before ++ others → is_of_kind Segments content ≡ true → breaks_parent before content ≡ false
    → (more ≡ true → HasParentOf segments (find (λ s. bytes_eq s.name name) rest) other) → (is_segment_named name content || more) ≡ true
    → HasParentOf segments (find (λ s. bytes_eq s.name name) (value_and_then (type_in before content) rest)) (cond (is_segment_named name content) (Some (record { number = number; content = content })) other)
parent_here segments before number (Segment segment parent key bytes) others rest name more other whole e kept behind h =
    parent_by (bytes_eq segment name) more segments (record { name = segment; parent = parent_number before parent; key = key; bytes = bytes }) (record { number = number; content = Segment segment parent key bytes })
    (find (λ s. bytes_eq s.name name) rest) other
    (parent_is before others segment parent key bytes kept ∙ ap (λ (ls : List MacroLine). parent_number ls parent) (sym whole)) behind h
parent_here segments before number _ others rest name more other whole e kept behind h = absurd (false≢true e)

parent_from : (segments lines before : List MacroLine) (name : List ℕ) → segments ≡ before ++ lines → AreSegments lines → first_segment ParentAstray segments before lines ≡ None
    → has (is_segment_named name) lines ≡ true → HasParentOf segments (find (λ s. bytes_eq s.name name) (types_in before lines)) (find (λ l. is_segment_named name l.content) lines)
parent_from segments [] before name whole all kept there = absurd (false≢true there)
parent_from segments (line ∷ lines) before name whole all kept there =
    let both = and_parts (is_of_kind Segments line.content) (list_all (λ l. is_of_kind Segments l.content) lines) all in
    let keeps = neither (own_line line (breaks_segment ParentAstray segments before line.content)) (first_segment ParentAstray segments (before ++ line ∷ []) lines) kept in
    parent_here segments before line.number line.content (line ∷ lines) (types_in (before ++ line ∷ []) lines) name (has (is_segment_named name) lines) (find (λ l. is_segment_named name l.content) lines) whole both.0
    (not_broken line (breaks_segment ParentAstray segments before line.content) keeps.0)
    (λ more. parent_from segments lines (before ++ line ∷ []) name (whole ∙ sym (append_assoc before (line ∷ []) lines)) both.1 keeps.1 more) there

-- the type of a name has the parent that the segment of this name has
pub type_parent : (segments : List MacroLine) (name : List ℕ) → AreSegments segments → first_segment ParentAstray segments [] segments ≡ None → has (is_segment_named name) segments ≡ true
    → IsSomeAnd (type_at (types_in [] segments) (number_named (types_in [] segments) name)) (λ s. s.parent ≡ parent_number segments (parent_named segments name))
unfolding parent_named
type_parent segments name all kept there =
    subst (λ (o : Option SegType). HasParentOf segments o (find (λ l. is_segment_named name l.content) segments)) (sym (type_named (types_in [] segments) name))
    (parent_from segments segments [] name refl all kept there)

-- the number of the segment above, and 0 above the root
abbrev pub above_number : List MacroLine → Option (List ℕ) → ℕ
above_number segments None = 0
above_number segments (Some name) = number_named (types_in [] segments) name

parent_above : (segments : List MacroLine) (above parent : Option (List ℕ)) → AreSegments segments → is_parent above parent ≡ true → parent_number segments parent ≡ above_number segments above
parent_above segments (Some above) (Some parent) all h =
    let same : parent ≡ above = (bytes_eq-Decides parent above).0 h in
    subst (λ name. parent_number segments (Some parent) ≡ number_named (types_in [] segments) name) same (sym (number_is segments parent all))
parent_above segments None None all h = refl
parent_above segments (Some above) None all h = absurd (false≢true h)
parent_above segments None (Some parent) all h = absurd (false≢true h)

child_by : (segments : List MacroLine) (found : Option SegType) (number above : ℕ) → number ≡ above → IsSomeAnd found (λ s. s.parent ≡ number) → IsSomeAnd found (λ s. s.parent ≡ above)
child_by segments found number above e h = subst (λ n. IsSomeAnd found (λ s. s.parent ≡ n)) e h

-- the arguments that go down name segments
name_and : (segments : List MacroLine) (above : Option (List ℕ)) (ssa : ScriptSsa) (ssas : List ScriptSsa) → go_down segments above (ssa ∷ ssas) ≡ true
    → (has (is_segment_named (segment_name ssa)) segments ≡ true) × (go_down segments (Some (segment_name ssa)) ssas ≡ true)
name_and segments above ssa ssas h =
    let outer = and_parts (has (is_segment_named (segment_name ssa)) segments && is_below_segment segments (segment_name ssa) above) (go_down segments (Some (segment_name ssa)) ssas) h in
    ((and_parts (has (is_segment_named (segment_name ssa)) segments) (is_below_segment segments (segment_name ssa) above) outer.0).0, outer.1)

pub all_there : (segments : List MacroLine) (above : Option (List ℕ)) (ssas : List ScriptSsa) → go_down segments above ssas ≡ true → All (λ ssa. has (is_segment_named (segment_name ssa)) segments ≡ true) ssas
all_there segments above [] h = none_holds (λ ssa. has (is_segment_named (segment_name ssa)) segments ≡ true)
all_there segments above (ssa ∷ ssas) h =
    let both = name_and segments above ssa ssas h in
    All-cons (λ s. has (is_segment_named (segment_name s)) segments ≡ true) ssa ssas both.0 (all_there segments (Some (segment_name ssa)) ssas both.1)

-- the arguments of an ISRT that fill levels are in order
fill_and : (segments : List MacroLine) (above : Option (List ℕ)) (ssa : ScriptSsa) (ssas : List ScriptSsa) → fill_levels segments above (ssa ∷ ssas) ≡ true
    → (is_parent above (parent_named segments (segment_name ssa)) ≡ true) × (has_insert_form ssa ssas ≡ true) × (fill_levels segments (Some (segment_name ssa)) ssas ≡ true)
fill_and segments above ssa ssas h =
    let outer = and_parts (is_parent above (parent_named segments (segment_name ssa)) && has_insert_form ssa ssas) (fill_levels segments (Some (segment_name ssa)) ssas) h in
    let inner = and_parts (is_parent above (parent_named segments (segment_name ssa))) (has_insert_form ssa ssas) outer.0 in
    (inner.0, inner.1, outer.1)

child : (segments : List MacroLine) (above : Option (List ℕ)) (name : List ℕ) → AreSegments segments → first_segment ParentAstray segments [] segments ≡ None
    → has (is_segment_named name) segments ≡ true → is_parent above (parent_named segments name) ≡ true
    → IsSomeAnd (type_at (types_in [] segments) (number_named (types_in [] segments) name)) (λ s. s.parent ≡ above_number segments above)
child segments above name all kept there h =
    child_by segments (type_at (types_in [] segments) (number_named (types_in [] segments) name)) (parent_number segments (parent_named segments name)) (above_number segments above)
    (parent_above segments above (parent_named segments name) all h) (type_parent segments name all kept there)

pub in_order : (state : ScriptState) (segments : List MacroLine) (above : Option (List ℕ)) (ssa : ScriptSsa) (ssas : List ScriptSsa) → AreSegments segments → first_segment ParentAstray segments [] segments ≡ None
    → All (λ s. has (is_segment_named (segment_name s)) segments ≡ true) (ssa ∷ ssas) → fill_levels segments above (ssa ∷ ssas) ≡ true
    → AreInsertSsas (types_in [] segments) (above_number segments above) (map (call_ssa state) (ssa ∷ ssas))
in_order state segments above (Any name) [] all kept there h =
    let parts = fill_and segments above (Any name) [] h in
    let here = All-head (λ s. has (is_segment_named (segment_name s)) segments ≡ true) (Any name) [] there in
    (child segments above name all kept here parts.0, refl)
in_order state segments above (Equal name x) (next ∷ ssas) all kept there h =
    let parts = fill_and segments above (Equal name x) (next ∷ ssas) h in
    let here = All-head (λ s. has (is_segment_named (segment_name s)) segments ≡ true) (Equal name x) (next ∷ ssas) there in
    let others = All-tail (λ s. has (is_segment_named (segment_name s)) segments ≡ true) (Equal name x) (next ∷ ssas) there in
    (child segments above name all kept here parts.0, tt, in_order state segments (Some name) next ssas all kept others parts.2)
in_order state segments above (Any name) (next ∷ ssas) all kept there h = absurd (false≢true (fill_and segments above (Any name) (next ∷ ssas) h).1)
in_order state segments above (Equal name x) [] all kept there h = absurd (false≢true (fill_and segments above (Equal name x) [] h).1)
in_order state segments above (AtLeast name x) ssas all kept there h = absurd (false≢true (fill_and segments above (AtLeast name x) ssas h).1)
