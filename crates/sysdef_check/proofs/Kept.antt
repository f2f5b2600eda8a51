-- A rule that no macro breaks is kept by each.
use Rattle.std.proofs.Common.{ℕ, zero, suc, ◌≡◌, ◌+◌, ◌-◌, ◌<◌, Bool, true, false, List, [], ◌∷◌, ◌++◌, length, take, drop, get_or, slice_get, All, Option, Some, None, Result, Ok, Err, IsTrue, refl, sym, subst, arith, length-drop, ◌&&◌}
use Rattle.std.specs.List.{list_all}
use Rattle.std.proofs.lemmas.Bool.{false≢true}
use Rattle.std.proofs.lemmas.List.{take_all}
use Rattle.std.proofs.lemmas.List.Elements.{All-drop, All-take}
use Rattle.system_types.specs.declared.definition.MacroLine.{MacroLine}
use Rattle.sysdef_rules.proofs.Cuts.{cut_at, more_at}
use Rattle.sysdef_rules.specs.declared.cross.CrossRule.{CrossRule}
use Rattle.sysdef_rules.specs.declared.cross.CrossRule.TheVariants.{OfSegments, WrongCount}
use Rattle.sysdef_rules.specs.declared.segments.SegmentRule.{SegmentRule}
use Rattle.sysdef_rules.specs.Segments.{own_line, breaks_segment, broken_by_segment, first_segment}
use Rattle.sysdef_rules.specs.Counts.{breaks_count, past_limit}
use Rattle.sysdef_rules.specs.Cross.{before_others, broken_macro_line, cross_rules, first_line, keeps, keeps_all, rules, unless_line_broken}
use Rattle.tm_types.proofs.Truths.{neither}

pub not_broken : (line : MacroLine) (b : Bool) → own_line line b ≡ None → b ≡ false
not_broken line false h = refl
not_broken line true h = cc

-- the first of the macros that are left keeps the rule, and so do the others
pub kept_line : (rule : CrossRule) (all lines : List MacroLine) (index : ℕ) (line : MacroLine) → index < length lines → line ≡ get_or lines index line
    → first_line rule all (take index lines) (drop index lines) ≡ None
    → (broken_macro_line rule all (take index lines) line (drop (index + 1) lines) ≡ None) × (first_line rule all (take (index + 1) lines) (drop (index + 1) lines) ≡ None)
kept_line rule all lines index line h e kept =
    let cut : drop index lines ≡ line ∷ drop (index + 1) lines = cut_at lines index line h e in
    let more : take (index + 1) lines ≡ take index lines ++ line ∷ [] = more_at lines index line h e in
    let both = neither (broken_macro_line rule all (take index lines) line (drop (index + 1) lines)) (first_line rule all (take index lines ++ line ∷ []) (drop (index + 1) lines))
    (subst (λ (ls : List MacroLine). first_line rule all (take index lines) ls ≡ None) cut kept) in
    (both.0, subst (λ (ls : List MacroLine). first_line rule all ls (drop (index + 1) lines) ≡ None) (sym more) both.1)

-- the same of segments
pub kept_segment : (rule : SegmentRule) (segments lines : List MacroLine) (index : ℕ) (line : MacroLine) → index < length lines → line ≡ get_or lines index line
    → first_segment rule segments (take index lines) (drop index lines) ≡ None
    → (breaks_segment rule segments (take index lines) line.content ≡ false) × (first_segment rule segments (take (index + 1) lines) (drop (index + 1) lines) ≡ None)
kept_segment rule segments lines index line h e kept =
    let cut : drop index lines ≡ line ∷ drop (index + 1) lines = cut_at lines index line h e in
    let more : take (index + 1) lines ≡ take index lines ++ line ∷ [] = more_at lines index line h e in
    let both = neither (own_line line (breaks_segment rule segments (take index lines) line.content)) (first_segment rule segments (take index lines ++ line ∷ []) (drop (index + 1) lines))
    (subst (λ (ls : List MacroLine). first_segment rule segments (take index lines) ls ≡ None) cut kept) in
    (not_broken line (breaks_segment rule segments (take index lines) line.content) both.0, subst (λ (ls : List MacroLine). first_segment rule segments ls (drop (index + 1) lines) ≡ None) (sym more) both.1)

pub and_parts : (a b : Bool) → (a && b) ≡ true → (a ≡ true) × (b ≡ true)
and_parts true b h = (refl, h)
and_parts false b h = absurd (false≢true h)

-- the first of those that all pass, and the others
pub kept_test : (test : MacroLine → Bool) (lines : List MacroLine) (index : ℕ) (line : MacroLine) → index < length lines → line ≡ get_or lines index line
    → IsTrue (list_all test (drop index lines)) → (test line ≡ true) × IsTrue (list_all test (drop (index + 1) lines))
kept_test test lines index line h e kept =
    let cut : drop index lines ≡ line ∷ drop (index + 1) lines = cut_at lines index line h e in
    and_parts (test line) (list_all test (drop (index + 1) lines)) (subst (λ (ls : List MacroLine). IsTrue (list_all test ls)) cut kept)

-- each rule of those that are kept
both_kept : (a b : Result (Unit {0}) (ℕ × ℕ)) → before_others a b ≡ Ok tt → (a ≡ Ok tt) × (b ≡ Ok tt)
both_kept (Ok tt) b h = (refl, h)
both_kept (Err fault) b h = cc

none_broken : (rule : CrossRule) (line : Option ℕ) → unless_line_broken rule line ≡ Ok tt → line ≡ None
none_broken rule None h = refl
none_broken rule (Some line) h = cc

one_kept : (rule : CrossRule) (all : List MacroLine) → keeps rule all ≡ Ok tt → first_line rule all [] all ≡ None
unfolding keeps
one_kept rule all h = none_broken rule (first_line rule all [] all) h

each_kept : (list : List CrossRule) (all : List MacroLine) (n : ℕ) (rule : CrossRule) → keeps_all list all ≡ Ok tt → slice_get list n ≡ Some rule → first_line rule all [] all ≡ None
each_kept [] all n rule h e = cc
each_kept (first ∷ list) all zero rule h e =
    let same : first ≡ rule = cc in
    subst (λ (r : CrossRule). first_line r all [] all ≡ None) same (one_kept first all (both_kept (keeps first all) (keeps_all list all) h).0)
each_kept (first ∷ list) all (suc n) rule h e = each_kept list all n rule (both_kept (keeps first all) (keeps_all list all) h).1 e

pub rule_kept : (all : List MacroLine) (n : ℕ) (rule : CrossRule) → cross_rules all ≡ Ok tt → slice_get rules n ≡ Some rule → first_line rule all [] all ≡ None
unfolding cross_rules
rule_kept all n rule h e = each_kept rules all n rule h e

-- what the rules say of a DBD and the lines behind it
pub kept_database : (rule : SegmentRule) (all before : List MacroLine) (line : MacroLine) (behind : List MacroLine) → broken_macro_line (OfSegments rule) all before line behind ≡ None
    → broken_by_segment rule line line.content behind ≡ None
unfolding broken_macro_line
kept_database rule all before line behind h = h

pub kept_count : (all before : List MacroLine) (line : MacroLine) (behind : List MacroLine) → broken_macro_line WrongCount all before line behind ≡ None
    → (breaks_count all before line.content ≡ false) × (past_limit line.content behind ≡ None)
unfolding broken_macro_line
kept_count all before line behind h =
    let both = neither (own_line line (breaks_count all before line.content)) (past_limit line.content behind) h in
    (not_broken line (breaks_count all before line.content) both.0, both.1)

-- the lines behind an index, as a slice of them
pub behind_index : (lines : List MacroLine) (index : ℕ) → take (length lines - index) (drop index lines) ≡ drop index lines
behind_index lines index = take_all (length lines - index) (drop index lines) (omega (arith, length-drop index lines))

-- what holds of each line holds of the one at an index
pub at_index : (P : MacroLine → Type 0) (lines : List MacroLine) (index : ℕ) (line : MacroLine) → index < length lines → line ≡ get_or lines index line → All P lines → P line
at_index P lines index line h e all = subst P (sym e) (all index line h)

-- what holds of each line holds of those behind an index
pub behind_all : (P : MacroLine → Type 0) (lines : List MacroLine) (index : ℕ) → All P lines → All P (take (length lines - index) (drop index lines))
behind_all P lines index all = All-take P (length lines - index) (drop index lines) (All-drop P index lines all)
