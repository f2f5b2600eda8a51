-- Parts whose slots count as changed or not.
use Rattle.std.proofs.Common.{ℕ, ◌+◌, List, [], Option, Some, None, map}
use Rattle.model_messages.specs.declared.conversation.TerminalConversation.{TerminalConversation}
use Rattle.model_messages.specs.declared.queued.Queued.{Queued}
use Rattle.model_system.specs.declared.code_state.CodeState.{CodeState}
use Rattle.model_system.specs.System.{System}
use Rattle.model_system.specs.Jobs.{Job}
use Rattle.model_machine.specs.Trial.{Given}
use Rattle.message_run.specs.RunState.{RunState}
use Rattle.message_run.specs.WorkAhead.{IsAhead}
use Rattle.program_rows.specs.DatabasesState.{DatabasesState, IsClean, with_all_settled, with_marks}
use Rattle.lasting_state.specs.Tables.{TablesState}
use Rattle.region_work.specs.declared.region.Busy.{Busy}
use Rattle.region_work.specs.RegionWork.{IsRegionUnit, given_in}
use Rattle.tm_machine.specs.Parts.{AreParts, AreAtWork, AreIdle}

clean_marked : (changed : List (List ℕ)) (region : ℕ) (d : DatabasesState) → IsClean region d → IsClean region (with_marks changed d)
clean_marked changed region d clean = record { sees = clean.sees; changed = clean.changed }

ahead_marked : (changed : List (List ℕ)) (job : Job) (given : Given) (region : ℕ) (d : DatabasesState) (run : RunState) → IsAhead job given region d run
    → IsAhead job given region (with_marks changed d) run
ahead_marked changed job given region d run a = record {
  trial = a.trial;
  made = a.made;
  limit = a.limit;
  script = a.script;
  work = a.work;
  seen = a.seen;
  held = a.held;
  texts = a.texts;
  dbds = a.dbds;
  standing = a.standing;
}

unit_marked : (changed : List (List ℕ)) (job : Job) (given : Given) (region : ℕ) (d : DatabasesState) (unit : Option RunState) → IsRegionUnit job given region d unit
    → IsRegionUnit job given region (with_marks changed d) unit
unit_marked changed job given region d None clean = clean_marked changed region d clean
unit_marked changed job given region d (Some run) ahead = ahead_marked changed job given region d run ahead

at_work_marked : (changed : List (List ℕ)) (system : System) (d : DatabasesState) (conversations : List TerminalConversation) (queued : List Queued) (regions : List (Option Busy))
    → AreAtWork system d conversations queued regions → AreAtWork system (with_marks changed d) conversations queued regions
at_work_marked changed system d conversations queued regions at place busy e =
    let a = at place busy e in
    record {
      message = a.message;
      found = a.found;
      work =
          record { job = a.work.job; serves = a.work.serves; unit = unit_marked changed a.work.job (given_in conversations a.message) (place + 1) d busy.unit a.work.unit };
    }

idle_marked : (changed : List (List ℕ)) (d : DatabasesState) (regions : List (Option Busy)) → AreIdle d regions → AreIdle (with_marks changed d) regions
idle_marked changed d regions idle place e = let i = idle place e in record { clean = clean_marked changed (place + 1) d i.clean; waits = i.waits }

-- what counts as changed is nothing to the parts
pub parts_marked : (changed : List (List ℕ)) (system : System) (tables : TablesState) (states : List CodeState) (regions : List (Option Busy)) → AreParts system tables states regions
    → AreParts system (record tables { databases = with_marks changed tables.databases }) states regions
parts_marked changed system tables states regions p = record {
  valid = p.valid;
  limit = p.limit;
  names = p.names;
  regions_are = p.regions_are;
  states_are = p.states_are;
  settled = p.settled;
  told = p.told;
  at_work = at_work_marked changed system tables.databases tables.conversations tables.queues.queued regions p.at_work;
  conversations = record { names = p.conversations.names; pads = p.conversations.pads; belong = p.conversations.belong; alone = p.conversations.alone };
  databases = record { stores = p.databases.stores; rows = p.databases.rows; regions = p.databases.regions; table = p.databases.table };
  idle = idle_marked changed tables.databases regions p.idle;
}

pub parts_settled : (system : System) (tables : TablesState) (states : List CodeState) (regions : List (Option Busy)) → AreParts system tables states regions
    → AreParts system (record tables { databases = with_all_settled tables.databases }) states regions
parts_settled system tables states regions p = parts_marked (map (λ (numbers : List ℕ). []) tables.databases.changed) system tables states regions p
