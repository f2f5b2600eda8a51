-- The PCBs of a program.
use Rattle.std.specs.Prelude.{ℕ, ◌-◌, ◌==◌, if◌then◌else◌, List, Option, None, slice_get}
use Rattle.model_system.specs.declared.pcb.Pcb.{Pcb}

-- the PCB with this number, counted from 1; there is none for 0 and past the last
abbrev pub pcb_at : List Pcb → ℕ → Option Pcb
pcb_at pcbs number = if number == 0 then None else slice_get pcbs (number - 1)
