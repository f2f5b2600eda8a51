-- The databases are lent to be changed.
use Rattle.std.specs.Borrow.{Lends, MutBor, Fml}
use Rattle.program_rows.specs.DatabasesState.{DatabasesState}
use Rattle.program_rows.specs.contracts.databases.Databases as databases
use Rattle.lasting_state.specs.Tables.{TablesState, with_databases}
use Rattle.lasting_state.specs.contracts.tables.Tables as tables

-- the tables end with what is left behind d as their databases
abbrev pub LendsDatabases : MutBor TablesState → MutBor DatabasesState → Fml
LendsDatabases t d = Lends tables.the_row databases.the_row t d (with_databases t.now)
