-- What the parts of a control region stand for.
use Rattle.model_machine.specs.Machine.{Moment}
use Rattle.lasting_state.specs.Tables.{lasting_of}
use Rattle.tm_machine.specs.declared.parts.Parts.TheInside.{Inside}
use Rattle.tm_machine.specs.Parts.{work_slots, settings_of, flags_of}

abbrev pub parts_moment : Inside → Moment
parts_moment p = record {
  lasting = lasting_of (settings_of p.codes) p.tables;
  slots = work_slots p.regions.items;
  enqueues = p.tables.databases.table;
  raised = flags_of p.codes;
}
