-- Records that are done again: one log behind another, changes of slots among others, and records that wait.
use Rattle.std.proofs.Common.{◌≡◌, Bool, true, false, not, List, [], ◌∷◌, ◌++◌, ℕ, zero, suc, take, refl, sym, ◌∙◌, ap, Some, None, append_assoc}
use Rattle.std.specs.Prelude.{if◌then◌else◌, filter, Option}
use Rattle.std.specs.List.{list_all}
use Rattle.std.specs.Option.{option_and_then}
use Rattle.std.proofs.lemmas.List.{append-nil}
use Rattle.model_system.specs.System.{System}
use Rattle.log_records.specs.declared.record.Record.{Record}
use Rattle.log_records.specs.declared.record.Record.TheVariants.{Input, Command, Reply, Discarded, Completed, Acknowledged, SyncPoint, Checkpoint, Terminal, Code, Change}
use Rattle.model_image.specs.States.{breaks_a_rule}
use Rattle.model_image.specs.Slots.{is_image_of}
use Rattle.model_image.specs.Replay.{Replay, with_waiting, replayed, is_record_known, unless_it_breaks, replay_one, replay_all}
use Rattle.image_law.specs.Records.{is_change_record, without_changes, waits}
use Rattle.image_law.proofs.Bools.{first_of, second_of}
use Rattle.tm_types.proofs.Truths.{both}

pub all_take : {X : Type 0} (p : X → Bool) (n : ℕ) (xs : List X) → list_all p xs ≡ true → list_all p (take n xs) ≡ true
all_take p zero xs all = refl
all_take p (suc n) [] all = refl
all_take p (suc n) (x ∷ xs) all = both (p x) (list_all p (take n xs)) (first_of (p x) (list_all p xs) all) (all_take p n xs (second_of (p x) (list_all p xs) all))

pub keeps_all : {X : Type 0} (p : X → Bool) (xs : List X) → list_all p xs ≡ true → filter p xs ≡ xs
keeps_all p [] all = refl
keeps_all p (x ∷ xs) all = rw (first_of (p x) (list_all p xs) all) (ap (λ l. x ∷ l) (keeps_all p xs (second_of (p x) (list_all p xs) all)))

pub drops_all : {X : Type 0} (p : X → Bool) (xs : List X) → list_all p xs ≡ true → filter (λ x. not (p x)) xs ≡ []
drops_all p [] all = refl
drops_all p (x ∷ xs) all = rw (first_of (p x) (list_all p xs) all) (drops_all p xs (second_of (p x) (list_all p xs) all))

pub keeps_others : {X : Type 0} (p : X → Bool) (xs : List X) → filter p xs ≡ [] → filter (λ x. not (p x)) xs ≡ xs
keeps_others p [] none = refl
keeps_others p (x ∷ xs) none = by_first (p x) none (keeps_others p xs) where
  by_first : (b : Bool) → (if b then x ∷ filter p xs else filter p xs) ≡ [] → (filter p xs ≡ [] → filter (λ x. not (p x)) xs ≡ xs) → (if not b then x ∷ filter (λ x. not (p x)) xs else filter (λ x. not (p x)) xs) ≡ x ∷ xs
  by_first true none rest = cc
  by_first false none rest = ap (λ l. x ∷ l) (rest none)

module _ (system : System) where
  -- one log behind another
  pub replay_more : (log more : List Record) (start : Replay) → replay_all system (log ++ more) start ≡ option_and_then (replay_all system more) (replay_all system log start)
  replay_more [] more start = refl
  replay_more (r ∷ log) more start = from (replay_one system r start) (replay_more log more) where
    from : (o : Option Replay) → ((next : Replay) → replay_all system (log ++ more) next ≡ option_and_then (replay_all system more) (replay_all system log next)) →
        option_and_then (replay_all system (log ++ more)) o ≡ option_and_then (replay_all system more) (option_and_then (replay_all system log) o)
    from (Some next) later = later next
    from None later = refl

  pub one_done : (r : Record) (before after : Replay) → is_record_known system r ≡ true → replayed system r before ≡ Some after → breaks_a_rule system after.lasting ≡ false → replay_one system r before ≡ Some after
  one_done r before after known done sound = rw known (ap (option_and_then (unless_it_breaks system)) done ∙ rw sound refl)

  -- what one leaves breaks no rule
  pub leaves_sound : (r : Record) (before after : Replay) → replay_one system r before ≡ Some after → breaks_a_rule system after.lasting ≡ false
  leaves_sound r before after is = by_known (is_record_known system r) is where
    by_rules : (next : Replay) (b : Bool) → breaks_a_rule system next.lasting ≡ b → (if b then None else Some next) ≡ Some after → breaks_a_rule system after.lasting ≡ false
    by_rules next true rule is = cc
    by_rules next false rule is = let e : next ≡ after = cc in ap (λ (x : Replay). breaks_a_rule system x.lasting) (sym e) ∙ rule

    by_done : (o : Option Replay) → option_and_then (unless_it_breaks system) o ≡ Some after → breaks_a_rule system after.lasting ≡ false
    by_done (Some next) is = by_rules next (breaks_a_rule system next.lasting) refl is
    by_done None is = cc

    by_known : (b : Bool) → (if b then option_and_then (unless_it_breaks system) (replayed system r before) else None) ≡ Some after → breaks_a_rule system after.lasting ≡ false
    by_known true is = by_done (replayed system r before) is
    by_known false is = cc

  -- a change of a slot says nothing of what lasts
  change_passes : (r : Record) (before : Replay) → is_change_record r ≡ true → is_image_of system r ≡ true → breaks_a_rule system before.lasting ≡ false → replay_one system r before ≡ Some before
  change_passes (Change unit database slot earlier later) before is image sound = one_done (Change unit database slot earlier later) before before image refl sound
  change_passes (Input unit id origin code number conversation segments) before is image sound = cc
  change_passes (Command text) before is image sound = cc
  change_passes (Reply unit terminal number segments) before is image sound = cc
  change_passes (Discarded unit id abend number) before is image sound = cc
  change_passes (Completed unit id) before is image sound = cc
  change_passes (Acknowledged terminal number) before is image sound = cc
  change_passes (SyncPoint unit pad) before is image sound = cc
  change_passes (Checkpoint checkpoint next_id next_unit steps) before is image sound = cc
  change_passes (Terminal name last next stopped conversation) before is image sound = cc
  change_passes (Code name stopped class priority) before is image sound = cc

  -- and so changes may stand anywhere among the records of steps
  pub changes_pass : (records : List Record) (before : Replay) → list_all (is_image_of system) records ≡ true → breaks_a_rule system before.lasting ≡ false → replay_all system records before ≡ replay_all system (without_changes records) before
  changes_pass [] before images sound = refl
  changes_pass (r ∷ records) before images sound = by_kind (is_change_record r) refl (λ next. changes_pass records next rest) where
    rest : list_all (is_image_of system) records ≡ true
    rest = second_of (is_image_of system r) (list_all (is_image_of system) records) images

    Later : Type 0
    Later = (next : Replay) → breaks_a_rule system next.lasting ≡ false → replay_all system records next ≡ replay_all system (without_changes records) next

    from : Later → (o : Option Replay) → replay_one system r before ≡ o → option_and_then (replay_all system records) o ≡ option_and_then (replay_all system (without_changes records)) o
    from later (Some next) is = later next (leaves_sound r before next is)
    from later None is = refl

    by_kind : (b : Bool) → is_change_record r ≡ b → Later → replay_all system (r ∷ records) before ≡ replay_all system (if not b then r ∷ without_changes records else without_changes records) before
    by_kind true is later =
        ap (option_and_then (replay_all system records)) (change_passes r before is (first_of (is_image_of system r) (list_all (is_image_of system) records) images) sound)
        ∙ later before sound
    by_kind false is later = from later (replay_one system r before) refl

  -- Behind a log, with changes of slots among them: records that lead from one state to another.
  pub appended : (log more step : List Record) (start before after : Replay) → replay_all system log start ≡ Some before → breaks_a_rule system before.lasting ≡ false →
      list_all (is_image_of system) more ≡ true → without_changes more ≡ step → replay_all system step before ≡ Some after → replay_all system (log ++ more) start ≡ Some after
  appended log more step start before after to sound images is leads =
      replay_more log more start
      ∙ ap (option_and_then (replay_all system more)) to
      ∙ changes_pass more before images sound
      ∙ ap (λ (records : List Record). replay_all system records before) is
      ∙ leads

  -- ---- records that wait

  wait_one : (r : Record) (before : Replay) → waits r ≡ true → replayed system r before ≡ Some (with_waiting r before)
  wait_one (Input zero id origin code number conversation segments) before is = cc
  wait_one (Input (suc unit) id origin code number conversation segments) before is = refl
  wait_one (Reply unit terminal number segments) before is = refl
  wait_one (Completed unit id) before is = refl
  wait_one (Change unit database slot earlier later) before is = cc
  wait_one (Command text) before is = cc
  wait_one (Discarded unit id abend number) before is = cc
  wait_one (Acknowledged terminal number) before is = cc
  wait_one (SyncPoint unit pad) before is = cc
  wait_one (Checkpoint checkpoint next_id next_unit steps) before is = cc
  wait_one (Terminal name last next stopped conversation) before is = cc
  wait_one (Code name stopped class priority) before is = cc

  -- what lasts stays as it was
  pub all_wait : (records : List Record) (before : Replay) → list_all waits records ≡ true → list_all (is_record_known system) records ≡ true → breaks_a_rule system before.lasting ≡ false →
      replay_all system records before ≡ Some (record before { waiting = before.waiting ++ records })
  all_wait [] before wait known sound = ap (λ (l : List Record). Some (record before { waiting = l })) (sym (append-nil before.waiting))
  all_wait (r ∷ records) before wait known sound =
      ap (option_and_then (replay_all system records))
      (one_done r before (with_waiting r before) (first_of (is_record_known system r) (list_all (is_record_known system) records) known) (wait_one r before (first_of (waits r) (list_all waits records) wait)) sound)
      ∙ all_wait records (with_waiting r before) (second_of (waits r) (list_all waits records) wait) (second_of (is_record_known system r) (list_all (is_record_known system) records) known) sound
      ∙ ap (λ (l : List Record). Some (record before { waiting = l })) (append_assoc before.waiting (r ∷ []) records)
