-- A machine that is opened goes with a life.
use Rattle.std.proofs.Common.{◌≡◌, ℕ, zero, suc, ◌≤◌, List, [], ◌∷◌, map, length, Result, Ok, Err, refl, sym, ◌∙◌, ap, subst}
use Rattle.std.specs.Prelude.{IfOk, IsTrue}
use Rattle.tm_disk.specs.Disk.{DiskState, Image}
use Rattle.model_system.specs.System.{System}
use Rattle.model_machine.specs.Machine.{LastingState, start_of}
use Rattle.model_image.specs.HeldStores.{HoldsStores}
use Rattle.model_system.specs.Areas.{sectors_needed}
use Rattle.log_writer.specs.ForcedLog.{IsWriterReady}
use Rattle.log_writer.specs.Writer.{Writer}
use Rattle.restart_data.specs.declared.restart.RestartSector.{RestartSector}
use Rattle.disk_law.specs.OpenedLife.{opened_life}
use Rattle.disk_law.specs.UnitCounts.{TellsUnits, TellUnits}
use Rattle.disk_law.proofs.Counting.{begun_tells}
use Rattle.openings.specs.declared.refusals.OpenError.{OpenError}
use Rattle.openings.specs.OpenedImage.{MayBegin, OpeningCause, SizeFirst, TellsCold, TellsOpening}
use Rattle.openings.specs.Renewal.{IsRenewed, first_writer}
use Rattle.openings.specs.OpeningParts.{AreOpeningParts, OpeningParts}
use Rattle.disk_law.specs.JournalState.{JournalState}
use Rattle.tm_machine.specs.MachineOpening.{IsOpenedWith}
use Rattle.tm_machine.specs.SlotChanges.{HasSlots, slots_now}
use Rattle.tm_machine.specs.Parts.{PartsState}
use Rattle.journal.proofs.Openings.{no_units}
use Rattle.logged_machine.proofs.OpenedParts.{opened_by, opened_pends, opened_ready}
use Rattle.logged_machine.specs.OpeningSlots.{slots_of_opening}
use Rattle.logged_machine.specs.CarriedParts.{IsCarried}
use Rattle.logged_machine.specs.LoggedParts.{IsLogged}
use Rattle.openings.specs.declared.how.How.{How}
use Rattle.openings.specs.declared.how.How.TheVariants.{Found, Cold}
use Rattle.logged_machine.specs.MachineOpening.{BeginsOn, OpensOn}

-- ---- what was found, or begun

pub begins_on : (system : System) (text : List ℕ) (old new : DiskState) (result : Result (OpeningParts × LastingState) OpenError) → SizeFirst system old.size result → new.size ≡ old.size
    → IfOk result (λ opened. AreOpeningParts system opened.1 opened.0) → IfOk result (λ opened. MayBegin system text opened.0 opened.1)
    → IfOk result (λ opened. (image : Image) → new.may_leave image → IsRenewed system text opened.0.now opened.0.next_unit opened.1 image)
    → IfOk result (λ opened. (image : Image) → new.may_leave image → HoldsStores system opened.0.stores.stores image)
    → IfOk result (λ opened. BeginsOn system text opened.0 opened.1 new)
begins_on system text old new (Ok opened) size same are may renewed stored =
    record { are = are; may = may; renewed = renewed; stored = stored; size = subst (λ (n : ℕ). sectors_needed system ≤ n) (sym same) size }
begins_on system text old new (Err error) size same are may renewed stored = tt

-- ---- the machine behind it

pub opened_with : (system : System) (text : List ℕ) (parts : OpeningParts) (state : LastingState) (disk : DiskState) → BeginsOn system text parts state disk → IsOpenedWith system state parts
opened_with system text parts state disk b = record { opening = b.are; rules = b.may.keeps_rules; of_system = b.may.of_system }

zeros : (n : ℕ) → length (no_units n) ≡ n
zeros zero = refl
zeros (suc n) = ap (λ k. suc k) (zeros n)

module _ (system : System) (parts : PartsState) (text : List ℕ) (opening : OpeningParts) (state : LastingState) (disk : DiskState) (b : BeginsOn system text opening state disk) (same : parts.system ≡ system) (has : HasSlots parts)
    (starts : parts.moment ≡ start_of system state) (slots_are : slots_now parts ≡ slots_of_opening opening (length system.regions)) (journal : JournalState) (log : journal.log ≡ first_writer system opening.now) (restart : journal.restart ≡ opening.now) where
  own : BeginsOn parts.system text opening state disk
  own = subst (λ (y : System). BeginsOn y text opening state disk) (sym same) b

  own_start : parts.moment ≡ start_of parts.system state
  own_start = starts ∙ ap (λ (y : System). start_of y state) (sym same)

  own_slots : slots_now parts ≡ slots_of_opening opening (length parts.system.regions)
  own_slots = slots_are ∙ ap (λ (y : System). slots_of_opening opening (length y.regions)) (sym same)

  own_log : (opened_life parts.system text opening.now opening.stores.stores state).log ≡ journal.log
  own_log = ap (λ (y : System). first_writer y opening.now) same ∙ sym log

  -- what it begins with tells of no unit to come
  own_told : TellUnits parts.system journal opening.next_unit disk
  own_told image left =
      let is = own.renewed image left in
      subst (λ (r : RestartSector). TellsUnits parts.system (record { log = journal.log; restart = r }) opening.next_unit image) (sym restart)
      (subst (λ (w : Writer). TellsUnits parts.system (record { log = w; restart = opening.now }) opening.next_unit image) own_log
      (begun_tells parts.system opening.now _ opening.next_unit image is.has_snapshot refl is.none_ahead own.may.restart own.may.some_unit))

  -- It is on the disk with its log.
  pub begun : IsLogged parts (no_units (length system.regions)) opening.next_unit journal text (state ∷ []) disk
  begun = record {
    life = opened_life parts.system text opening.now opening.stores.stores state;
    carried =
        subst (λ (y : System). IsCarried parts (no_units (length y.regions)) opening.next_unit (opened_life parts.system text opening.now opening.stores.stores state)) same
        (opened_by parts text opening state own.are own.may has own_start own_slots);
    pends = opened_pends parts text opening state own.are own.may has own_start own_slots disk own.renewed own.stored;
    writer = own_log;
    now = sym restart;
    text_is = refl;
    areas = own.size;
    counted = zeros (length system.regions) ∙ ap (λ (y : System). length y.regions) (sym same);
    told = own_told;
    ready = subst (λ (w : Writer). IsWriterReady w disk) own_log (opened_ready parts text opening state own.are own.may has own_start own_slots disk own.renewed own.stored);
  }

-- ---- as the calls have it

-- What was looked at is the machine's system.
pub opens_on : (how : How) (seen system : System) (text : List ℕ) (old new : DiskState) (machine : PartsState) (opening : OpeningParts) (state : LastingState) (journal : JournalState) (next : ℕ)
    → journal.log ≡ first_writer system opening.now → journal.restart ≡ opening.now → next ≡ opening.next_unit → seen ≡ system → BeginsOn seen text opening state new
    → SizeFirst seen old.size (Ok (opening, state)) → OpeningCause (Ok (opening, state)) old new → (how ≡ Found → IsTrue old.tells → TellsOpening seen text old.shown (Ok (opening, state)))
    → (how ≡ Cold → TellsCold seen (Ok (opening, state))) → ((some : LastingState) → IsOpenedWith system some opening → machine.moment ≡ start_of system some)
    → slots_now machine ≡ slots_of_opening opening (length system.regions) → OpensOn how system text old new machine journal next state
opens_on how seen system text old new machine opening state journal next log restart unit same b size cause by_found by_cold moment slots_are = record {
  moment = moment state (opened_with system text opening state new (subst (λ (y : System). BeginsOn y text opening state new) same b));
  unchanged = (λ i. (slots_are i).changed) ∙ b.are.written ∙ (λ i. map (λ dbd. []) (same i).databases);
  no_fault = cause;
  size = subst (λ (y : System). sectors_needed y ≤ old.size) same size;
  begins = record {
    parts = opening;
    found = λ is tells. subst (λ (y : System). TellsOpening y text old.shown (Ok (opening, state))) same (by_found is tells);
    cold = λ is. subst (λ (y : System). TellsCold y (Ok (opening, state))) same (by_cold is);
    restart_is = restart;
    log_is = log;
    unit_is = unit;
  };
}

pub logged_on : (seen system : System) → seen ≡ system → (parts : PartsState) (text : List ℕ) (opening : OpeningParts) (state : LastingState) (disk : DiskState) → BeginsOn seen text opening state disk → parts.system ≡ system
    → HasSlots parts → ((some : LastingState) → IsOpenedWith system some opening → parts.moment ≡ start_of system some) → slots_now parts ≡ slots_of_opening opening (length system.regions) → (journal : JournalState)
    → journal.log ≡ first_writer system opening.now → journal.restart ≡ opening.now → (next : ℕ) → next ≡ opening.next_unit → IsLogged parts (no_units (length system.regions)) next journal text (state ∷ []) disk
logged_on seen system looked parts text opening state disk found same has moment slots journal log restart next is =
    let b : BeginsOn system text opening state disk = subst (λ (y : System). BeginsOn y text opening state disk) looked found in
    subst (λ (n : ℕ). IsLogged parts (no_units (length system.regions)) n journal text (state ∷ []) disk) (sym is)
    (begun system parts text opening state disk b same has (moment state (opened_with system text opening state disk b)) slots journal log restart)
