use Rattle.std.proofs.Common.{◌≡◌, ◌++◌, ◌∷◌, []}
use Rattle.sysdef_rules.specs.Indexes.{on_line}
use Rattle.sysdef_rules.specs.Lookups.{is_application_named, is_code_named, is_conversational, is_database, is_format_named, is_program_named, is_terminal_named}
use Rattle.system_types.proofs.Indexed.{next_index}
use Rattle.sysdef_rules.proofs.named.NamedMacros.with.Goals as goal

pub invariant_of-result : goal.invariant_of-result
invariant_of-result c =
    let before = c.self.inside.lines.now in
    let lines = c.args.lines.now in
    let line = c.args.line.now in
    let next : lines ≡ before ++ line ∷ [] = rw (← c.self.view_is) at c.requires in
    record {
      of_databases = next_index (on_line is_database) c.self.inside.databases c.note_database.new.index before lines line next c.self.invariant.of_databases c.in_ok-note_database.ensures;
      of_applications = next_index (on_line is_application_named) c.self.inside.applications c.note_application.new.index before lines line next c.self.invariant.of_applications c.in_ok-note_application.ensures;
      of_codes = next_index (on_line is_code_named) c.self.inside.codes c.note_code.new.index before lines line next c.self.invariant.of_codes c.in_ok-note_code.ensures;
      of_conversational = next_index (on_line is_conversational) c.self.inside.conversational c.note_conversational.new.index before lines line next c.self.invariant.of_conversational c.in_ok-note_conversational.ensures;
      of_terminals = next_index (on_line is_terminal_named) c.self.inside.terminals c.note_terminal.new.index before lines line next c.self.invariant.of_terminals c.in_ok-note_terminal.ensures;
      of_formats = next_index (on_line is_format_named) c.self.inside.formats c.note_format.new.index before lines line next c.self.invariant.of_formats c.in_ok-note_format.ensures;
      of_programs = next_index (on_line is_program_named) c.self.inside.programs c.note_program.new.index before lines line next c.self.invariant.of_programs c.in_ok-note_program.ensures;
    }
