-- The rules on the segments of a database.
use Rattle.std.specs.Prelude.{ℕ, zero, suc, nat_lt, Bool, false, not, List, [], ◌∷◌, ◌++◌, Option, Some, None, is_some, if◌then◌else◌}
use Rattle.std.specs.Option.{option_or}
use Rattle.system_types.specs.declared.definition.Macro.{Macro}
use Rattle.system_types.specs.declared.definition.Macro.TheVariants.{Database, Segment}
use Rattle.system_types.specs.declared.definition.MacroLine.{MacroLine}
use Rattle.sysdef_rules.specs.declared.lookups.MacroKind.TheVariants.{Segments}
use Rattle.sysdef_rules.specs.declared.segments.SegmentRule.{SegmentRule}
use Rattle.sysdef_rules.specs.declared.segments.SegmentRule.TheVariants.{Twice, ParentAstray, KeyTooLong, LevelTooHigh}
use Rattle.sysdef_rules.specs.Lookups.{has, is_segment_named, front, parent_in, parent_named}

-- Each rule says whether a segment breaks it, behind those before it in its database.

-- a segment stands once
unfoldable pub breaks_name : List MacroLine → Macro → Bool
breaks_name before (Segment name parent key bytes) = has (is_segment_named name) before
breaks_name before _ = false

-- one of the segments has this name
abbrev pub stands_in : List MacroLine → Option (List ℕ) → Bool
stands_in segments (Some name) = has (is_segment_named name) segments
stands_in segments None = false

-- the first segment is the root and has no parent; each other one has a parent that stands before it
unfoldable pub breaks_parent : List MacroLine → Macro → Bool
breaks_parent [] content = is_some (parent_in content)
breaks_parent (line ∷ before) content = not (stands_in (line ∷ before) (parent_in content))

-- the key lies within the data
unfoldable pub breaks_key : Macro → Bool
breaks_key (Segment name parent key bytes) = nat_lt bytes key
breaks_key _ = false

-- the segment so many parents above the one with this name
abbrev pub ancestor : List MacroLine → ℕ → Option (List ℕ) → Option (List ℕ)
ancestor segments steps None = None
ancestor segments zero (Some name) = Some name
ancestor segments (suc steps) (Some name) = ancestor segments steps (parent_named segments name)

-- a database has at most eight levels: no segment stands eight parents above another
unfoldable pub breaks_level : List MacroLine → Macro → Bool
breaks_level segments (Segment name parent key bytes) = is_some (ancestor segments 8 (Some name))
breaks_level segments _ = false

abbrev pub breaks_segment : SegmentRule → List MacroLine → List MacroLine → Macro → Bool
breaks_segment Twice segments before content = breaks_name before content
breaks_segment ParentAstray segments before content = breaks_parent before content
breaks_segment KeyTooLong segments before content = breaks_key content
breaks_segment LevelTooHigh segments before content = breaks_level segments content

-- the line of a macro that breaks a rule
abbrev pub own_line : MacroLine → Bool → Option ℕ
own_line line broken = if broken then Some line.number else None

-- the first segment that breaks the rule, behind those before it
abbrev pub first_segment : SegmentRule → List MacroLine → List MacroLine → List MacroLine → Option ℕ
first_segment rule segments before [] = None
first_segment rule segments before (line ∷ lines) =
    option_or (own_line line (breaks_segment rule segments before line.content)) (first_segment rule segments (before ++ line ∷ []) lines)

-- a database has a root: the DBD itself breaks the rule on parents where it has no segment
abbrev pub broken_in : SegmentRule → MacroLine → List MacroLine → Option ℕ
broken_in ParentAstray line [] = Some line.number
broken_in rule line segments = first_segment rule segments [] segments

-- the lowest line of a database that breaks the rule; the segments stand right behind the DBD
abbrev pub broken_by_segment : SegmentRule → MacroLine → Macro → List MacroLine → Option ℕ
broken_by_segment rule line (Database name roots sectors) behind = broken_in rule line (front Segments behind)
broken_by_segment rule line _ behind = None
