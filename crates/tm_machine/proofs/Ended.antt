-- The work that a region ends is the one that it has.
use Rattle.std.proofs.Common.{◌≡◌, ℕ, List, sym, ap, ◌∙◌, subst}
use Rattle.std.specs.Prelude.{Option, Some, slice_get}
use Rattle.model_messages.specs.Queue.{IsNewId}
use Rattle.model_messages.specs.declared.conversation.PadChange.{PadChange}
use Rattle.model_messages.specs.declared.ended_message.EndedMessage.{EndedMessage}
use Rattle.model_machine.specs.LastingSteps.{LastingStep}
use Rattle.model_machine.specs.LastingSteps.LastingStep.{Completes}
use Rattle.program_rows.specs.DatabasesState.{AreRowsOf, committed_rows, dbds_of, region_at}
use Rattle.program_rows.specs.CallAnswers.{IsCommitted}
use Rattle.lasting_state.specs.Tables.{Applies, IsMessageClosed, TablesState}
use Rattle.region_work.specs.declared.region.Busy.{Busy}
use Rattle.region_work.specs.RegionWork.{SuitsUnit, outputs_by, pad_by}
use Rattle.tm_machine.specs.WorkEnds.{IsCompleted, completion_of}

pub same_busy : (items slice : List (Option Busy)) (place : ℕ) (one other : Busy) → slice ≡ items → slice_get slice place ≡ Some (Some one) → slice_get items place ≡ Some (Some other) → one ≡ other
same_busy items slice place one other same has is =
    let joined : Some (Some one) ≡ Some (Some other) = sym has ∙ ap (λ (l : List (Option Busy)). slice_get l place) same ∙ is in cc

module _ (region : ℕ) (tables : TablesState) (busy : Busy) (outputs : List EndedMessage) (sent : outputs ≡ outputs_by busy.unit) (pad : PadChange) (pad_is : pad ≡ pad_by busy.unit) where
  pub completes : Completes busy.id (region_at region tables.databases).rows outputs pad ≡ completion_of region tables busy
  completes =
      ap (λ (os : List EndedMessage). Completes busy.id (region_at region tables.databases).rows os pad) sent
      ∙ ap (Completes busy.id (region_at region tables.databases).rows (outputs_by busy.unit)) pad_is

  pub completed : (tables' : TablesState) → SuitsUnit busy.unit (pad_by busy.unit) → IsNewId tables.next_id tables.queues.queued → IsMessageClosed tables'.databases (λ _. pad) (λ _. outputs) tables tables' busy.id
      → Applies (Completes busy.id (region_at region tables.databases).rows outputs pad) tables tables' → IsCommitted region tables.databases tables'.databases
      → dbds_of tables'.databases ≡ dbds_of tables.databases → AreRowsOf (dbds_of tables'.databases) (committed_rows tables'.databases) → IsCompleted region busy tables tables'
  completed tables' suits above closed applies committed dbds rows = record {
    above = above;
    suits = suits;
    closed = subst (λ (p : PadChange). IsMessageClosed tables'.databases (λ _. p) (λ _. outputs_by busy.unit) tables tables' busy.id) pad_is
        (subst (λ (os : List EndedMessage). IsMessageClosed tables'.databases (λ _. pad) (λ _. os) tables tables' busy.id) sent closed);
    applies = subst (λ (s : LastingStep). Applies s tables tables') completes applies;
    committed = committed;
    dbds = dbds;
    rows = rows;
  }
