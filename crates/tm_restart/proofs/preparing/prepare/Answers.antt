use Rattle.std.proofs.Common.{ℕ, ◌≤◌, List, [], length, map, ◌∙◌, ap, subst, arith}
use Rattle.restart_data.specs.declared.restart.RestartSector.{RestartSector}
use Rattle.seg_store.specs.Slots.{rows_of_slots}
use Rattle.seg_store.specs.ChangedSlots.{Kept, all_stores}
use Rattle.checkpointing.specs.SnapshotRecords.{snapshot_records}
use Rattle.checkpointing.specs.SpelledRecords.{AddsSpelled}
use Rattle.openings.specs.OpeningState.{shown_state}
use Rattle.openings.proofs.StoresMade.{dbds_made, none_changed_made}
use Rattle.tm_restart.specs.PreparedLife.{state_in, sector_behind}
use Rattle.tm_restart.proofs.MadeReady.{epoch_below, checkpoint_below, unit_below, tabled, spelled_in, few_sectors, few_bytes, prepared, made_by}
use Rattle.tm_restart.proofs.preparing.prepare.Goals as goal

pub next_unit-unit-requires : goal.next_unit-unit-requires
next_unit-unit-requires c = omega (arith, unit_below c.args.system.now c.args.text.now c.args.found c.requires.judged)

pub behind-checkpoint-requires : goal.behind-checkpoint-requires
behind-checkpoint-requires c = omega (arith, checkpoint_below c.args.system.now c.args.text.now c.args.found c.requires.judged)

pub tables-requires-clause-databases : goal.tables-requires-clause-databases
tables-requires-clause-databases c =
    ap (λ (l : List Kept). map (λ (s : Kept). s.dbd) l) c.stores_in-stores.ensures
    ∙ dbds_made c.args.system.now.databases c.args.found.looked.named.loaded.stores c.requires.judged.made

pub tables-requires-clause-unchanged : goal.tables-requires-clause-unchanged
tables-requires-clause-unchanged c =
    ap (λ (l : List Kept). map (λ (s : Kept). s.changed) l) c.stores_in-stores.ensures
    ∙ none_changed_made c.args.system.now.databases c.args.found.looked.named.loaded.stores c.requires.judged.made

pub snapshot_bytes-requires-clause-state : goal.snapshot_bytes-requires-clause-state
snapshot_bytes-requires-clause-state c =
    let are = tabled c.args.system.now c.args.text.now c.args.found c.requires.judged c.kept_in-kept.result c.kept_in-kept.ensures c.stores_in-stores.result.items c.stores_in-stores.ensures c.in_ok-tabled.tabled.parts c.in_ok-tabled.ensures.are in
    spelled_in c.args.system.now c.args.text.now c.args.found c.requires.judged c.terminals-terminals.ensures.valid c.in_ok-tabled.tabled.parts are

pub snapshot_bytes-requires-clause-few_sectors : goal.snapshot_bytes-requires-clause-few_sectors
snapshot_bytes-requires-clause-few_sectors c =
    let are = tabled c.args.system.now c.args.text.now c.args.found c.requires.judged c.kept_in-kept.result c.kept_in-kept.ensures c.stores_in-stores.result.items c.stores_in-stores.ensures c.in_ok-tabled.tabled.parts c.in_ok-tabled.ensures.are in
    few_sectors c.args.system.now c.args.text.now c.args.found c.requires.judged c.terminals-terminals.ensures.valid c.in_ok-tabled.tabled.parts are

pub sector_for-now-requires-clause-epoch : goal.sector_for-now-requires-clause-epoch
sector_for-now-requires-clause-epoch c = epoch_below c.args.system.now c.args.text.now c.args.found c.requires.judged

pub sector_for-now-requires-clause-checkpoint : goal.sector_for-now-requires-clause-checkpoint
sector_for-now-requires-clause-checkpoint c = checkpoint_below c.args.system.now c.args.text.now c.args.found c.requires.judged

pub sector_for-now-requires-clause-few : goal.sector_for-now-requires-clause-few
sector_for-now-requires-clause-few c =
    let system = c.args.system.now in
    let text = c.args.text.now in
    let parts = c.in_ok-tabled.tabled.parts in
    let bytes = c.in_ok-bytes.bytes.items in
    let are = tabled system text c.args.found c.requires.judged c.kept_in-kept.result c.kept_in-kept.ensures c.stores_in-stores.result.items c.stores_in-stores.ensures parts c.in_ok-tabled.ensures.are in
    let unit_is = c.in_ok-tabled.ensures.next_unit ∙ c.next_unit-unit.ensures in
    let adds = subst (λ (n : ℕ). AddsSpelled (snapshot_records n parts.next_unit (state_in parts) []) [] bytes) c.behind-checkpoint.ensures c.in_ok-bytes.ensures in
    let few : length bytes ≤ 266338304 = few_bytes system text c.args.found c.requires.judged c.terminals-terminals.ensures.valid c.requires.text parts are unit_is bytes adds in
    omega (arith, few, ap (λ (l : List ℕ). length l) c.deref.ensures.value)

pub returns-clause-prepared : goal.returns-clause-prepared
returns-clause-prepared c =
    let system = c.args.system.now in
    let text = c.args.text.now in
    let found = c.args.found in
    let parts = c.in_ok-tabled.tabled.parts in
    let bytes = c.in_ok-bytes.bytes.items in
    let are = tabled system text found c.requires.judged c.kept_in-kept.result c.kept_in-kept.ensures c.stores_in-stores.result.items c.stores_in-stores.ensures parts c.in_ok-tabled.ensures.are in
    let unit_is = c.in_ok-tabled.ensures.next_unit ∙ c.next_unit-unit.ensures in
    let adds = subst (λ (n : ℕ). AddsSpelled (snapshot_records n parts.next_unit (state_in parts) []) [] bytes) c.behind-checkpoint.ensures c.in_ok-bytes.ensures in
    let lasting_is = c.in_ok-tabled.ensures.lasting ∙ (λ i. shown_state (c.kept_in-kept.ensures i) (map (λ (s : Kept). rows_of_slots s.slots) (c.stores_in-stores.ensures i))) in
    let last_is = c.sector_for-now.ensures ∙ ap (λ (l : List ℕ). sector_behind found.restart found.looked.reread.next_sequence (length l) (length text)) c.deref.ensures.value in
    let all_is = c.with_sector.ensures ∙ ap (λ (r : RestartSector). record parts { now = r }) last_is in
    prepared system text found c.requires.judged c.terminals-terminals.ensures.valid c.requires.text parts are unit_is bytes adds c.in_ok-tabled.tabled.lasting lasting_is c.with_sector.result all_is c.sector_for-now.result last_is

pub returns-clause-made_of : goal.returns-clause-made_of
returns-clause-made_of c image seen =
    let system = c.args.system.now in
    let text = c.args.text.now in
    let found = c.args.found in
    let parts = c.in_ok-tabled.tabled.parts in
    let bytes = c.in_ok-bytes.bytes.items in
    let unit_is = c.in_ok-tabled.ensures.next_unit ∙ c.next_unit-unit.ensures in
    let stores_are = c.in_ok-tabled.ensures.stores ∙ ap (λ (l : List Kept). all_stores l) c.stores_in-stores.ensures in
    let lasting_is = c.in_ok-tabled.ensures.lasting ∙ (λ i. shown_state (c.kept_in-kept.ensures i) (map (λ (s : Kept). rows_of_slots s.slots) (c.stores_in-stores.ensures i))) in
    let last_is = c.sector_for-now.ensures ∙ ap (λ (l : List ℕ). sector_behind found.restart found.looked.reread.next_sequence (length l) (length text)) c.deref.ensures.value in
    let all_is = c.with_sector.ensures ∙ ap (λ (r : RestartSector). record parts { now = r }) last_is in
    made_by system text found c.requires.judged c.terminals-terminals.ensures.valid parts unit_is stores_are (length bytes) c.in_ok-tabled.tabled.lasting lasting_is image seen c.with_sector.result all_is c.sector_for-now.result last_is
