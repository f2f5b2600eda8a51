-- The sectors that the system of macros needs.
use Rattle.std.proofs.Common.{ℕ, ◌≡◌, ◌+◌, ◌*◌, ◌≤◌, ◌==◌, nat_lt, ◌&&◌, false, List, [], ◌∷◌, ◌++◌, length, take, ◌⊎◌, inl, inr, None, IsTrue, refl, subst, ap, ◌∙◌, arith}
use Rattle.std.specs.List.{sum_by}
use Rattle.std.proofs.lemmas.Bool.{false≢true, ltb-false}
use Rattle.std.proofs.lemmas.List.{take_all}
use Rattle.std.proofs.lemmas.List.Sums.{sum_by-cons}
use Rattle.tm_types.specs.declared.dbd.Dbd.{Dbd}
use Rattle.system_types.specs.declared.definition.Macro.{Macro}
use Rattle.system_types.specs.declared.definition.Macro.TheVariants.{Control, Database}
use Rattle.system_types.specs.declared.definition.MacroLine.{MacroLine}
use Rattle.system_types.specs.Definitions.{begins_well, is_control}
use Rattle.model_system.specs.Areas.{most_sectors, most_sectors_from, sectors_needed}
use Rattle.sysdef_rules.specs.declared.cross.CrossRule.TheVariants.{DiskTooLarge, LogsTooShort, WrongCount}
use Rattle.sysdef_rules.specs.declared.lookups.MacroKind.TheVariants.{Databases, Regions, Segments}
use Rattle.sysdef_rules.specs.Cross.{broken_macro_line, first_line}
use Rattle.sysdef_rules.specs.DiskSizes.{area_sectors, breaks_logs, breaks_size, control_in, control_of, data_sectors, disk_sectors, larger_slot, largest_slot, slot_sectors}
use Rattle.sysdef_rules.specs.Lookups.{count, front, is_of_kind}
use Rattle.sysdef_check.specs.Systems.{value_and_then, database_in, databases_in, regions_in, system_of, types_in}
use Rattle.sysdef_check.proofs.Kept.{not_broken}
use Rattle.sysdef_check.proofs.Limits.{as_count, count_more, few_regions, regions_counted}
use Rattle.tm_types.proofs.Truths.{neither}

abbrev sectors_of : Dbd → ℕ
sectors_of dbd = dbd.roots * dbd.sectors

-- what the databases of macros have, and what their macros have
slots_made : (content : Macro) (behind : List MacroLine) (rest : List Dbd) → sum_by sectors_of (value_and_then (database_in content behind) rest) ≡ slot_sectors content + sum_by sectors_of rest
slots_made (Database name roots sectors) behind rest =
    sum_by-cons sectors_of (record { name = name; roots = roots; sectors = sectors; types = types_in [] (front Segments behind) }) rest
slots_made _ behind rest = omega arith

slots_are : (lines : List MacroLine) → sum_by sectors_of (databases_in lines) ≡ data_sectors lines
slots_are [] = refl
slots_are (line ∷ lines) = omega (arith, slots_made line.content lines (databases_in lines), slots_are lines)

most_made : (most : ℕ) (content : Macro) (behind : List MacroLine) (rest : List Dbd)
    → most_sectors_from most (value_and_then (database_in content behind) rest) ≡ most_sectors_from (larger_slot most content) rest
most_made most (Database name roots sectors) behind rest = refl
most_made most _ behind rest = refl

most_are : (lines : List MacroLine) (most : ℕ) → most_sectors_from most (databases_in lines) ≡ largest_slot most lines
most_are [] most = refl
most_are (line ∷ lines) most = most_made most line.content lines (databases_in lines) ∙ most_are lines (larger_slot most line.content)

same_disk : (q l m n r t s u : ℕ) → m ≡ n → r ≡ t → s ≡ u → 65 + 2 * area_sectors q m r + 2 * l + s ≡ 65 + 2 * area_sectors q n t + 2 * l + u
same_disk q l m n r t s u e f g = rw (e, f, g) refl

sectors_are : (lines : List MacroLine) → sectors_needed (system_of lines) ≡ disk_sectors lines
sectors_are lines =
    let dbds = databases_in lines in
    let all : sum_by sectors_of (take (length dbds) dbds) ≡ sum_by sectors_of dbds = ap (λ (ds : List Dbd). sum_by sectors_of ds) (take_all (length dbds) dbds (omega arith)) in
    same_disk (control_in lines).0 (control_in lines).1 (most_sectors (system_of lines)) (largest_slot 1 lines) (length (regions_in lines)) (count Regions lines)
    (sum_by sectors_of (take (length dbds) dbds)) (data_sectors lines) (most_are lines 1) (regions_counted lines) (all ∙ slots_are lines)

-- the last database breaks the rule where the disk is too large
within_by : (n : ℕ) (all : List MacroLine) → n ≡ 0 → ((n == 0) && nat_lt 65536 (disk_sectors all)) ≡ false → disk_sectors all ≤ 65536
within_by n all e h = ltb-false 65536 (disk_sectors all) (subst (λ (k : ℕ). ((k == 0) && nat_lt 65536 (disk_sectors all)) ≡ false) e h)

at_last : (all : List MacroLine) (content : Macro) (behind : List MacroLine) → breaks_size all content behind ≡ false → count Databases behind ≡ 0
    → (as_count (is_of_kind Databases content) ≡ 0) ⊎ (disk_sectors all ≤ 65536)
unfolding breaks_size
at_last all (Database name roots sectors) behind h e = inr (within_by (count Databases behind) all e h)
at_last all _ behind h e = inl refl

kept_size : (all before : List MacroLine) (line : MacroLine) (behind : List MacroLine) → broken_macro_line DiskTooLarge all before line behind ≡ None → breaks_size all line.content behind ≡ false
unfolding broken_macro_line
kept_size all before line behind h = not_broken line (breaks_size all line.content behind) h

none_or_few : (all lines before : List MacroLine) → first_line DiskTooLarge all before lines ≡ None → (count Databases lines ≡ 0) ⊎ (disk_sectors all ≤ 65536)
none_or_few all [] before h = inl refl
none_or_few all (line ∷ lines) before h = of_line (none_or_few all lines (before ++ line ∷ []) both.1) where
  both : (broken_macro_line DiskTooLarge all before line lines ≡ None) × (first_line DiskTooLarge all (before ++ line ∷ []) lines ≡ None)
  both = neither (broken_macro_line DiskTooLarge all before line lines) (first_line DiskTooLarge all (before ++ line ∷ []) lines) h

  none : (as_count (is_of_kind Databases line.content) ≡ 0) ⊎ (disk_sectors all ≤ 65536) → count Databases lines ≡ 0 → (count Databases (line ∷ lines) ≡ 0) ⊎ (disk_sectors all ≤ 65536)
  none (inl e) f = inl (omega (arith, count_more Databases line lines))
  none (inr few) f = inr few

  of_line : (count Databases lines ≡ 0) ⊎ (disk_sectors all ≤ 65536) → (count Databases (line ∷ lines) ≡ 0) ⊎ (disk_sectors all ≤ 65536)
  of_line (inl e) = none (at_last all line.content lines (kept_size all before line lines both.0) e) e
  of_line (inr few) = inr few

-- without a database there are no slots, and the areas have far less
no_slot : (content : Macro) → as_count (is_of_kind Databases content) ≡ 0 → slot_sectors content ≡ 0
no_slot (Database name roots sectors) e = let none : ◌≡◌ {A = ℕ} 1 0 = e in absurd (omega arith)
no_slot _ e = refl

same_slot : (most : ℕ) (content : Macro) → as_count (is_of_kind Databases content) ≡ 0 → larger_slot most content ≡ most
same_slot most (Database name roots sectors) e = let none : ◌≡◌ {A = ℕ} 1 0 = e in absurd (omega arith)
same_slot most _ e = refl

no_slots : (lines : List MacroLine) → count Databases lines ≡ 0 → data_sectors lines ≡ 0
no_slots [] e = refl
no_slots (line ∷ lines) e =
    let more = count_more Databases line lines in
    omega (arith, no_slot line.content (omega (arith, more)), no_slots lines (omega (arith, more)))

one_slot : (lines : List MacroLine) (most : ℕ) → count Databases lines ≡ 0 → largest_slot most lines ≡ most
one_slot [] most e = refl
one_slot (line ∷ lines) most e =
    let more = count_more Databases line lines in
    ap (λ (n : ℕ). largest_slot n lines) (same_slot most line.content (omega (arith, more))) ∙ one_slot lines most (omega (arith, more))

areas_alone : (q l m r s : ℕ) → q ≤ 8388608 → l ≤ 2048 → m ≡ 1 → r ≤ 8 → s ≡ 0 → 65 + 2 * area_sectors q m r + 2 * l + s ≤ 65536
areas_alone q l m r s most_bytes most_logs e few f = rw (e, f) (omega (arith, most_bytes, most_logs, few))

pub few_sectors : (lines : List MacroLine) → (control_in lines).0 ≤ 8388608 → (control_in lines).1 ≤ 2048 → first_line WrongCount lines [] lines ≡ None
    → first_line DiskTooLarge lines [] lines ≡ None → sectors_needed (system_of lines) ≤ 65536
few_sectors lines most_bytes most_logs counts h = by (none_or_few lines lines [] h) where
  regions : count Regions lines ≤ 8
  regions = omega (arith, few_regions lines counts, regions_counted lines)

  by : (count Databases lines ≡ 0) ⊎ (disk_sectors lines ≤ 65536) → sectors_needed (system_of lines) ≤ 65536
  by (inl e) =
      let few = areas_alone (control_in lines).0 (control_in lines).1 (largest_slot 1 lines) (count Regions lines) (data_sectors lines) most_bytes most_logs (one_slot lines 1 e) regions (no_slots lines e) in
      omega (arith, few, sectors_are lines)
  by (inr few) = omega (arith, few, sectors_are lines)

-- IMSCTRL breaks the rule on logs where they are too short
kept_logs : (all before : List MacroLine) (line : MacroLine) (behind : List MacroLine) → broken_macro_line LogsTooShort all before line behind ≡ None → breaks_logs all line.content ≡ false
unfolding broken_macro_line
kept_logs all before line behind h = not_broken line (breaks_logs all line.content) h

logs_by : (all : List MacroLine) (content : Macro) → IsTrue (is_control content) → breaks_logs all content ≡ false → 64 * largest_slot 1 all ≤ (control_of content).1
unfolding breaks_logs
logs_by all (Control qbytes logs) first h = ltb-false logs (64 * largest_slot 1 all) h
logs_by all _ first h = absurd (false≢true first)

logs_first : (all lines : List MacroLine) → IsTrue (begins_well lines) → first_line LogsTooShort all [] lines ≡ None → 64 * largest_slot 1 all ≤ (control_in lines).1
logs_first all [] first h = absurd (false≢true first)
logs_first all (line ∷ lines) first h =
    logs_by all line.content first (kept_logs all [] line lines (neither (broken_macro_line LogsTooShort all [] line lines) (first_line LogsTooShort all (line ∷ []) lines) h).0)

pub enough_logs : (lines : List MacroLine) → IsTrue (begins_well lines) → first_line LogsTooShort lines [] lines ≡ None → 64 * most_sectors (system_of lines) ≤ (system_of lines).logs
enough_logs lines first h = omega (arith, logs_first lines lines first h, most_are lines 1)
