-- A definition that keeps the rules defines a system.
use Rattle.std.proofs.Common.{◌≡◌, ◌≤◌, List, [], ◌∷◌, None, Ok, IsTrue, All, refl}
use Rattle.std.proofs.lemmas.Bool.{false≢true}
use Rattle.std.proofs.lemmas.List.Elements.{All-head}
use Rattle.system_types.specs.declared.definition.MacroLine.{MacroLine}
use Rattle.system_types.specs.declared.definition.Macro.{Macro}
use Rattle.system_types.specs.declared.definition.Macro.TheVariants.{Control}
use Rattle.system_types.specs.Definitions.{IsDefinition, IsInRange, begins_well, is_control}
use Rattle.system_types.specs.ValidSystem.{IsSystem}
use Rattle.sysdef_rules.specs.declared.cross.CrossRule.TheVariants.{CodeTwice, TerminalTwice, DatabaseUnknown, DestinationUnknown, OfCalls, OfFormats, OfSegments, ProgramMissing, WrongCount, WrongPad, DiskTooLarge, LogsTooShort}
use Rattle.sysdef_rules.specs.declared.calls.CallRule.TheVariants.{PcbMissing, SsaAstray, NoInsertPath}
use Rattle.sysdef_rules.specs.declared.segments.SegmentRule.TheVariants.{ParentAstray}
use Rattle.sysdef_rules.specs.Cross.{cross_rules}
use Rattle.sysdef_rules.specs.DiskSizes.{control_in, control_of}
use Rattle.sysdef_check.specs.Systems.{system_of, databases_in}
use Rattle.sysdef_check.proofs.Dbds.{databases_valid}
use Rattle.sysdef_check.proofs.Kept.{rule_kept}
use Rattle.sysdef_check.proofs.Formats.{formats_kept}
use Rattle.sysdef_check.proofs.Limits.{few_codes, few_databases, few_formats, few_programs, few_regions, few_terminals, some_of_each}
use Rattle.sysdef_check.proofs.Pads.{destinations_kept, pads_kept}
use Rattle.sysdef_check.proofs.Servable.{programs_serve}
use Rattle.sysdef_check.proofs.Served.{codes_apart, codes_served}
use Rattle.sysdef_check.proofs.Sizes.{few_sectors, enough_logs}
use Rattle.sysdef_check.proofs.Receivers.{receivers_known}
use Rattle.sysdef_check.proofs.Terminals.{terminals_apart}
use Rattle.sysdef_check.proofs.Transactions.{transactions_in_range}

-- the numbers of IMSCTRL
control_by : (content : Macro) → IsTrue (is_control content) → IsInRange content
    → (131072 ≤ (control_of content).0) × ((control_of content).0 ≤ 8388608) × (64 ≤ (control_of content).1) × ((control_of content).1 ≤ 2048)
control_by (Control qbytes logs) first h = h
control_by _ first h = absurd (false≢true first)

control_valid : (lines : List MacroLine) → IsTrue (begins_well lines) → All (λ line. IsInRange line.content) lines
    → (131072 ≤ (control_in lines).0) × ((control_in lines).0 ≤ 8388608) × (64 ≤ (control_in lines).1) × ((control_in lines).1 ≤ 2048)
control_valid [] first h = absurd (false≢true first)
control_valid (line ∷ lines) first h = control_by line.content first (All-head (λ l. IsInRange l.content) line lines h)

pub defines_system : (lines : List MacroLine) → IsDefinition lines → cross_rules lines ≡ Ok tt → IsSystem (system_of lines)
defines_system lines definition kept =
    let counts = rule_kept lines 16 WrongCount kept refl in
    let parents = rule_kept lines 2 (OfSegments ParentAstray) kept refl in
    let control = control_valid lines definition.first definition.in_range in
    let some = some_of_each lines counts definition.last in
    record {
      least_bytes = control.0;
      most_bytes = control.1;
      least_logs = control.2;
      most_logs = control.3;
      enough_logs = enough_logs lines definition.first (rule_kept lines 19 LogsTooShort kept refl);
      few_sectors = few_sectors lines control.1 control.3 counts (rule_kept lines 18 DiskTooLarge kept refl);
      few_databases = few_databases lines counts;
      databases = databases_valid lines parents counts definition.in_range;
      few_programs = few_programs (databases_in lines) lines counts;
      programs = programs_serve lines parents counts (rule_kept lines 6 DatabaseUnknown kept refl) (rule_kept lines 12 (OfCalls PcbMissing) kept refl)
          (rule_kept lines 13 (OfCalls SsaAstray) kept refl) (rule_kept lines 14 (OfCalls NoInsertPath) kept refl);
      destinations = destinations_kept (databases_in lines) lines (rule_kept lines 7 DestinationUnknown kept refl);
      receivers = receivers_known (databases_in lines) lines definition.applied (rule_kept lines 7 DestinationUnknown kept refl);
      few_codes = few_codes lines counts;
      pads = pads_kept lines (rule_kept lines 17 WrongPad kept refl);
      transactions = transactions_in_range lines None definition.in_range;
      served = codes_served (databases_in lines) lines (rule_kept lines 10 ProgramMissing kept refl);
      apart = codes_apart lines (rule_kept lines 8 CodeTwice kept refl);
      some_terminal = some.0;
      few_terminals = few_terminals lines counts;
      terminals_apart = terminals_apart lines (rule_kept lines 9 TerminalTwice kept refl);
      few_formats = few_formats lines counts;
      formats = formats_kept lines (rule_kept lines 15 OfFormats kept refl);
      some_region = some.1;
      few_regions = few_regions lines counts;
    }
