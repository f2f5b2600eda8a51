-- Faults in place of answers.
use Rattle.std.specs.Prelude.{Option, Some, None, Err}
use Rattle.model_machine.specs.declared.entry.Entry.{Entry}
use Rattle.model_machine.specs.declared.entry.Entry.TheVariants.{Accept, Acked, Turn, Commanded, Checked}
use Rattle.model_machine.specs.declared.entry.ControlFault.{ControlFault}
use Rattle.model_machine.specs.declared.entry.InputRefused.TheVariants.{Fault as InputFault}
use Rattle.model_machine.specs.declared.entry.AckRefused.TheVariants.{Fault as AckFault}
use Rattle.model_machine.specs.declared.entry.CommandRefused.TheVariants.{Fault as CommandFault}
use Rattle.model_machine.specs.declared.entry.CheckpointRefused.TheVariants.{Fault as CheckpointFault}

-- the fault that an entry has in place of its answer
abbrev pub fault_in : Entry → Option ControlFault
fault_in (Accept terminal number segments (Err (InputFault fault))) = Some fault
fault_in (Acked terminal number (Err (AckFault fault))) = Some fault
fault_in (Turn region (Err fault)) = Some fault
fault_in (Commanded command (Err (CommandFault fault))) = Some fault
fault_in (Checked freeze (Err (CheckpointFault fault))) = Some fault
fault_in _ = None
