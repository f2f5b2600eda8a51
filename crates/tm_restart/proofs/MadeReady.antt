-- What is made of an image that was found: a life may begin with it, and it is that of the image.
use Rattle.std.proofs.Common.{◌≡◌, ℕ, ◌+◌, ◌-◌, ◌<◌, ◌≤◌, Bool, not, ◌&&◌, List, [], length, map, refl, sym, ◌∙◌, ap, subst, arith, None, Ok, nat_lt}
use Rattle.std.specs.List.{AllByRecursion}
use Rattle.std.proofs.lemmas.Bool.{lt-ltb, ne_eqb}
use Rattle.tm_disk.specs.Disk.{Image}
use Rattle.model_system.specs.System.{System}
use Rattle.model_machine.specs.declared.counts.Counter.{Counter}
use Rattle.model_machine.specs.Machine.{LastingState}
use Rattle.restart_data.specs.declared.restart.RestartSector.{RestartSector}
use Rattle.restart_data.specs.Restart.{IsRestart}
use Rattle.seg_store.specs.Slots.{Stored, rows_of_slots}
use Rattle.seg_store.specs.ChangedSlots.{Kept, AllStores, stored, all_stores}
use Rattle.system_types.specs.ValidSystem.{IsSystem}
use Rattle.model_system.specs.Areas.{snapshot_area}
use Rattle.model_image.proofs.Places.{slot_above}
use Rattle.model_image.specs.Counters.{next_sequence}
use Rattle.model_image.specs.RecoveredState.{log_in, Recovers}
use Rattle.image_law.specs.SegmentCounts.{AreSegmentsCounted}
use Rattle.checkpointing.specs.SnapshotRecords.{snapshot_records, IsOfSystem}
use Rattle.checkpointing.specs.SpelledRecords.{AddsSpelled, IsWritable}
use Rattle.checkpointing.specs.Touches.{HasFewSectors}
use Rattle.checkpointing.proofs.Fits.{writable}
use Rattle.checkpointing.proofs.Judged.{AreCounts}
use Rattle.checkpointing.proofs.Read.{no_changes}
use Rattle.checkpointing.proofs.Whole.{IsWhole, whole}
use Rattle.image_records.specs.KeptState.{KeptState, KeepsState, kept_of}
use Rattle.tm_restart.proofs.NamedSlots.{given_named}
use Rattle.tm_restart.specs.GivenSlots.{AreGiven}
use Rattle.tm_restart.specs.UnpreparedImage.{IsUnprepared}
use Rattle.tm_restart.specs.LoadedStores.{AreStoresLoaded}
use Rattle.tm_restart.proofs.Rewriting.{sectors_fit}
use Rattle.openings.specs.OpeningParts.{OpeningParts, AreOpeningParts}
use Rattle.openings.specs.OpeningState.{shown_state}
use Rattle.openings.proofs.StoresMade.{shown_back, kept_again, rows_stored}
use Rattle.openings.specs.OpenedImage.{counters, first_spent, IsFound, IsReopened, MayBegin}
use Rattle.tm_restart.specs.declared.finding.Found.{Found}
use Rattle.tm_restart.specs.FoundImage.{IsFoundJudged, IsSeen}
use Rattle.tm_restart.specs.PreparedLife.{state_in, sector_behind, IsPrepared, IsMadeOf}
use Rattle.tm_restart.proofs.Limits.{all_below}
use Rattle.tm_restart.proofs.GivenSlots.{are_given, are_images}
use Rattle.tm_restart.proofs.ShownIn.{shown_in, writable_in, few_sectors_in}

-- a state with the rows of these stores
abbrev pub rows_with : LastingState → List Kept → LastingState
rows_with lasting stores = record lasting { rows = map (λ (store : Stored). rows_of_slots store.slots) (map stored stores) }

pub state_with : (system : System) (kept : KeptState) (lasting state : LastingState) (stores : List Kept) → kept ≡ kept_of system lasting → state ≡ shown_state kept (map (λ (store : Kept). rows_of_slots store.slots) stores) → state ≡ rows_with lasting stores
state_with system kept lasting state stores kept_is is =
    is
    ∙ ap (shown_state kept) (sym (rows_stored stores))
    ∙ shown_back system kept lasting (map (λ (store : Stored). rows_of_slots store.slots) (map stored stores)) kept_is

-- ---- on every disk

module _ (system : System) (text : List ℕ) (found : Found) (judged : IsFoundJudged system text found) where
  abbrev restart : RestartSector
  restart = found.restart

  abbrev kept : KeptState
  kept = found.looked.reread.replayed.kept

  abbrev stores : List Kept
  stores = found.looked.named.loaded.stores

  abbrev sequence : ℕ
  sequence = found.looked.reread.next_sequence

  abbrev unit : ℕ
  unit = found.looked.reread.replayed.last_unit + 1

  abbrev state : LastingState
  state = rows_with judged.behind.lasting stores

  keeps : KeepsState system state kept
  keeps = kept_again system judged.behind.lasting state.rows kept judged.behind.behind.kept

  of_system : IsOfSystem system state
  of_system =
      let named = judged.behind.named in
      record { terminals = named.terminals; outputs = named.outputs; conversations = named.conversations; codes = named.codes }

  counted : AreSegmentsCounted state
  counted = record { messages = judged.behind.counted.messages; replies = judged.behind.counted.replies }

  -- no counter is spent
  unspent : first_spent (counters restart.epoch sequence restart.checkpoint unit state) ≡ None
  unspent =
      judged.unspent state (sym (ap (λ (k : KeptState). k.next_id) keeps.is)) (sym (ap (λ (k : KeptState). k.steps) keeps.is)) (sym (ap (λ (k : KeptState). k.outputs) keeps.is))

  below : AllByRecursion (λ (c : Counter × ℕ). c.1 < 1000000000000000000) (counters restart.epoch sequence restart.checkpoint unit state)
  below = all_below (counters restart.epoch sequence restart.checkpoint unit state) unspent

  pub epoch_below : restart.epoch < 1000000000000000000
  epoch_below = below.0

  pub sequence_below : sequence < 1000000000000000000
  sequence_below = below.1.0

  pub checkpoint_below : restart.checkpoint < 1000000000000000000
  checkpoint_below = below.1.1.0

  pub unit_below : unit < 1000000000000000000
  unit_below = below.1.1.1.1.0

  next_restart : (bytes : ℕ) → 0 < bytes → length text ≤ 262144 → IsRestart (sector_behind restart sequence bytes (length text))
  next_restart bytes some short = record {
    epoch = (omega arith, omega (arith, epoch_below));
    sequence = (omega (arith, judged.valid.is.sequence.0, judged.least), omega (arith, sequence_below));
    checkpoint = (omega arith, omega (arith, checkpoint_below));
    snapshot = omega arith;
    log = omega arith;
    sectors = omega (arith, some);
    text = short;
  }

  -- the parts that were made of what is kept and of these stores
  pub tabled : (taken : KeptState) → taken ≡ kept → (given : List Kept) → given ≡ stores → (parts : OpeningParts)
      → ((lasting : LastingState) → taken ≡ kept_of system lasting → AreOpeningParts system (rows_with lasting given) parts) → AreOpeningParts system state parts
  tabled taken taken_is given given_is parts are =
      subst (λ (l : List Kept). AreOpeningParts system (rows_with judged.behind.lasting l) parts) given_is (are judged.behind.lasting (taken_is ∙ judged.behind.behind.kept.is))

  module _ (defined : IsSystem system) where
    spelled : IsWritable state
    spelled = writable system state defined of_system keeps.sound counted

    pub spelled_in : (parts : OpeningParts) → AreOpeningParts system state parts → IsWritable (state_in parts)
    spelled_in parts are = writable_in system state parts are of_system spelled

    pub few_sectors : (parts : OpeningParts) → AreOpeningParts system state parts → AllByRecursion HasFewSectors parts.stores.stores
    few_sectors parts are = few_sectors_in system state parts defined are

    counts : AreCounts (restart.checkpoint + 1) unit
    counts = record {
      checkpoint_small = lt-ltb (restart.checkpoint + 1) 2000000000000000000 (omega (arith, checkpoint_below));
      unit_next =
          ap (λ (b : Bool). not b && nat_lt unit 2000000000000000000) (ne_eqb unit 0 (λ e. omega (arith, e)))
          ∙ lt-ltb unit 2000000000000000000 (omega (arith, unit_below));
    }

    pub given_are : AreGiven system found.looked.named.given.items
    given_are =
        are_given system found.looked.reread.replayed.slots found.looked.named.given.items judged.behind.behind.slots.ascending judged.behind.behind.images judged.given

    module _ (short : length text ≤ 262144) (parts : OpeningParts) (are : AreOpeningParts system state parts) (unit_is : parts.next_unit ≡ unit) (bytes : List ℕ)
        (adds : AddsSpelled (snapshot_records (restart.checkpoint + 1) parts.next_unit (state_in parts) []) [] bytes) where
      abbrev now : RestartSector
      now = sector_behind restart sequence (length bytes) (length text)

      its_own : AddsSpelled (snapshot_records (restart.checkpoint + 1) unit state []) [] bytes
      its_own =
          subst (λ (n : ℕ). AddsSpelled (snapshot_records (restart.checkpoint + 1) n state []) [] bytes) unit_is
          (subst (λ (s : LastingState). AddsSpelled (snapshot_records (restart.checkpoint + 1) parts.next_unit s []) [] bytes) (shown_in system state parts are of_system) adds)

      is_whole : IsWhole system (restart.checkpoint + 1) unit state [] bytes
      is_whole = whole system (restart.checkpoint + 1) unit state [] bytes defined of_system counts keeps.sound (no_changes system) (omega arith) its_own

      pub few_bytes : length bytes ≤ 266338304
      few_bytes =
          let area : snapshot_area system ≤ 65536 = omega (arith, slot_above system (length system.databases) 0 0, defined.few_sectors) in
          omega (arith, area, is_whole.fits)

      abbrev opened : OpeningParts
      opened = record parts { now = now }

      begins : MayBegin system text opened state
      begins = record {
        keeps_rules = keeps.sound;
        of_system = of_system;
        counted = counted;
        restart = next_restart (length bytes) is_whole.some short;
        sectors = sectors_fit (length bytes) (snapshot_area system) is_whole.fits;
        text_size = refl;
        some_unit = omega (arith, unit_is);
        unspent =
            (λ i. first_spent (counters (epoch_back i) sequence (checkpoint_back i) (unit_is i) state)) ∙ unspent;
      } where
        epoch_back : restart.epoch + 1 - 1 ≡ restart.epoch
        epoch_back = omega arith

        checkpoint_back : restart.checkpoint + 1 - 1 ≡ restart.checkpoint
        checkpoint_back = omega arith

      prepared_of : IsPrepared system text found.looked.named.given.items opened state bytes now
      prepared_of = record {
        are = record {
          queues = are.queues;
          outputs = are.outputs;
          codes = are.codes;
          terminals = are.terminals;
          conversations = are.conversations;
          databases = are.databases;
          rows = are.rows;
          written = are.written;
          next_id = are.next_id;
          steps = are.steps;
        };
        begins = begins;
        has_sector = refl;
        slots = given_are;
        whole = subst (λ (n : ℕ). IsWhole system (restart.checkpoint + 1) n state [] bytes) (sym unit_is) is_whole;
        valid = next_restart (length bytes) is_whole.some short;
        sectors = refl;
      }

      -- with the state, the parts and the sector that were made
      module _ (lasting : LastingState) (lasting_is : lasting ≡ shown_state kept (map (λ (store : Kept). rows_of_slots store.slots) stores)) (all : OpeningParts) (all_is : all ≡ opened) (last : RestartSector) (last_is : last ≡ now) where
        pub prepared : IsPrepared system text found.looked.named.given.items all lasting bytes last
        prepared =
            let lasting_with : lasting ≡ state = state_with system kept judged.behind.lasting lasting stores judged.behind.behind.kept.is lasting_is in
            subst (λ (p : OpeningParts). IsPrepared system text found.looked.named.given.items p lasting bytes last) (sym all_is)
            (subst (λ (s : LastingState). IsPrepared system text found.looked.named.given.items opened s bytes last) (sym lasting_with)
            (subst (λ (r : RestartSector). IsPrepared system text found.looked.named.given.items opened state bytes r) (sym last_is) prepared_of))

  -- ---- of an image

  module _ (defined : IsSystem system) (parts : OpeningParts) (unit_is : parts.next_unit ≡ unit) (stores_are : parts.stores ≡ all_stores stores) (size : ℕ) (lasting : LastingState) (lasting_is : lasting ≡ shown_state kept (map (λ (store : Kept). rows_of_slots store.slots) stores)) (image : Image) (seen : IsSeen system text image found) where
    abbrev its_now : RestartSector
    its_now = sector_behind restart sequence size (length text)

    abbrev its_parts : OpeningParts
    its_parts = record parts { now = its_now }

    recovers : Recovers system image (Ok lasting)
    recovers =
        let replayed = seen.looked.replayed in
        subst (λ (s : LastingState). Recovers system image (Ok s)) (sym (state_with system kept replayed.lasting lasting stores replayed.behind.kept.is lasting_is)) seen.looked.recovers

    is_before : IsUnprepared system restart seen.looked.replayed.snapshot found.looked.named.given.items its_now image
    is_before = record {
      restart = seen.has_restart;
      has_snapshot = seen.looked.replayed.has;
      are = given_are defined;
      named = given_named (length system.databases) found.looked.reread.replayed.slots found.looked.named.given.items seen.looked.replayed.snapshot (log_in system image restart).records judged.given seen.looked.replayed.behind.slots;
      images = are_images system found.looked.reread.replayed.slots found.looked.named.given.items judged.behind.behind.images judged.given;
      other = refl;
    }

    is_found : IsFound system text image restart unit lasting
    is_found = record {
      snapshot = seen.looked.replayed.snapshot;
      has_restart = seen.has_restart;
      has_text = seen.has_text;
      recovers = recovers;
      has_snapshot = seen.looked.replayed.has;
      next = seen.looked.replayed.behind.unit;
    }

    none_spent : first_spent (counters restart.epoch (next_sequence system image restart) restart.checkpoint unit lasting) ≡ None
    none_spent =
        let with_state : lasting ≡ state = state_with system kept judged.behind.lasting lasting stores judged.behind.behind.kept.is lasting_is in
        (λ i. first_spent (counters restart.epoch (sym seen.looked.replayed.sequence i) restart.checkpoint unit (with_state i))) ∙ unspent

    is_reopened : IsReopened system text image its_parts lasting
    is_reopened = record {
      restart = restart;
      found = subst (λ (n : ℕ). IsFound system text image restart n lasting) (sym unit_is) is_found;
      unspent = ap (λ (n : ℕ). first_spent (counters restart.epoch (next_sequence system image restart) restart.checkpoint n lasting)) unit_is ∙ none_spent;
      next = record { epoch = refl; checkpoint = refl; sequence = seen.looked.replayed.sequence; snapshot = refl; log = refl };
    }

    made_of : IsMadeOf system text found.looked.named.given.items its_parts lasting its_now image
    made_of = record {
      restart = restart;
      snapshot = seen.looked.replayed.snapshot;
      before = is_before;
      recovers = recovers;
      has_text = seen.has_text;
      same_text = judged.text_size;
      epoch = refl;
      loaded = subst (λ (l : List Stored). AreStoresLoaded system image seen.looked.replayed.snapshot (log_in system image restart).records l) (sym (ap (λ (a : AllStores). a.stores) stores_are)) seen.looked.loaded;
      reopened = is_reopened;
    }

    pub made_by : (all : OpeningParts) → all ≡ its_parts → (last : RestartSector) → last ≡ its_now → IsMadeOf system text found.looked.named.given.items all lasting last image
    made_by all all_is last last_is =
        subst (λ (p : OpeningParts). IsMadeOf system text found.looked.named.given.items p lasting last image) (sym all_is)
        (subst (λ (r : RestartSector). IsMadeOf system text found.looked.named.given.items its_parts lasting r image) (sym last_is) made_of)
