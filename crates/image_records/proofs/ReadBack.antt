-- What is read of a snapshot is what its records are judged as.
use Rattle.std.proofs.Common.{◌≡◌, ℕ, ◌<◌, ◌≤◌, Bool, true, false, List, [], ◌∷◌, length, drop, refl, sym, ◌∙◌, ap, subst, arith, Some, None, Ok, Err}
use Rattle.std.specs.Prelude.{Result, ◌||◌}
use Rattle.std.proofs.lemmas.List.{length-drop}
use Rattle.std.proofs.Math.ListN.{drop_of_length-le}
use Rattle.model_system.specs.System.{System}
use Rattle.model_machine.specs.Machine.{LastingState}
use Rattle.log_records.specs.declared.record.Record.{Record}
use Rattle.log_records.specs.declared.record.Record.TheVariants.{Input, Command, Reply, Discarded, Completed, Acknowledged, SyncPoint, Checkpoint, Terminal, Code, Change}
use Rattle.restart_data.specs.Rules.{first_broken, unless_rule_broken}
use Rattle.image_records.specs.declared.telling.Told.{Told}
use Rattle.model_image.specs.CutRecords.{cut_of, records_cut, where_none_left}
use Rattle.model_image.specs.Counters.{told_unit}
use Rattle.model_image.specs.Snapshot.{out_of_order, missing_or_twice, reply_of_none, wrong_changes, snapshot_rules}
use Rattle.model_image.specs.States.{breaks_a_rule, wrong_values, wrong_ids, unknown_messages, wrong_replies, over_full}
use Rattle.image_records.specs.declared.fault.RecordsFault.{RecordsFault}
use Rattle.image_records.specs.declared.fault.RecordsFault.TheVariants.{Bad, Memory}
use Rattle.image_records.specs.declared.reading.RecordRules.{RecordRules}
use Rattle.image_records.specs.KeptState.{KeepsState}
use Rattle.image_records.specs.RecordAnswers.{SnapshotState, TellsSnapshotState, TellsRecords, judged_records, snapshot_of}
use Rattle.image_records.specs.SnapshotRules.{AreRecordRules, IsToldByRecords, KeepsTold, rules_by}

-- ---- bytes that are records

left : (system : System) (rest : List ℕ) (records : List Record) → 0 < length rest → judged_records system (where_none_left rest records) ≡ Err 10
left system [] records some = absurd (omega (arith, some))
left system (b ∷ rest) records some = refl

pub left_over : (system : System) (bytes : List ℕ) (n : ℕ) → drop n bytes ≡ (cut_of bytes).rest → n < length bytes → snapshot_of system bytes ≡ Err 10
left_over system bytes n rest more =
    left system (cut_of bytes).rest (cut_of bytes).records (omega (arith, ap (length {A = ℕ}) rest, length-drop n bytes, more))

pub none_left : (system : System) (bytes : List ℕ) (n : ℕ) (records : List Record) (result : Result SnapshotState RecordsFault) →
    records ≡ (cut_of bytes).records → drop n bytes ≡ (cut_of bytes).rest → length bytes ≤ n → TellsSnapshotState system records result → TellsRecords system bytes result
none_left system bytes n records result are rest past = by result where
  is : records_cut bytes ≡ Some records
  is =
      ap (λ l. where_none_left l (cut_of bytes).records) (sym rest ∙ drop_of_length-le bytes past)
      ∙ ap (λ (l : List Record). Some l) (sym are)

  by : (result : Result SnapshotState RecordsFault) → TellsSnapshotState system records result → TellsRecords system bytes result
  by (Ok snapshot) t = (records, ap (judged_records system) is ∙ t.0, t.1)
  by (Err (Bad rule)) t = ap (judged_records system) is ∙ t
  by (Err Memory) t = tt

pub ruleset read_steps = (left_over, none_left)

-- ---- the next unit

pub unit_first : (r : Record) (rest : List Record) → told_unit (r ∷ rest) ≡ told_unit (r ∷ [])
unit_first (Checkpoint checkpoint next_id next_unit steps) rest = refl
unit_first (Terminal name last next stopped conversation) rest = refl
unit_first (Code name stopped class priority) rest = refl
unit_first (Input unit id origin code number conversation segments) rest = refl
unit_first (Reply unit terminal number segments) rest = refl
unit_first (Command text) rest = refl
unit_first (Discarded unit id abend number) rest = refl
unit_first (Completed unit id) rest = refl
unit_first (Acknowledged terminal number) rest = refl
unit_first (SyncPoint unit pad) rest = refl
unit_first (Change unit database slot before after) rest = refl

-- ---- records that are judged

abbrev rules_with : System → (order names replies changes : Bool) → LastingState → List (ℕ × Bool)
rules_with system order names replies changes lasting =
    (11, order)
    ∷ (12, names || wrong_values system lasting)
    ∷ (13, wrong_ids lasting)
    ∷ (14, unknown_messages system lasting)
    ∷ (15, wrong_replies lasting || replies)
    ∷ (16, over_full system lasting)
    ∷ (17, changes)
    ∷ []

same_rules : (system : System) (records : List Record) (broken : RecordRules) (told : Told) → AreRecordRules system records broken → IsToldByRecords system records told
    → rules_by system broken told.lasting ≡ snapshot_rules system records
same_rules system records broken told are is =
    ap (λ (b : Bool). rules_with system b broken.names broken.replies broken.changes told.lasting) are.order
    ∙ ap (λ (b : Bool). rules_with system (out_of_order system records) b broken.replies broken.changes told.lasting) are.names
    ∙ ap (λ (b : Bool). rules_with system (out_of_order system records) (missing_or_twice system records) b broken.changes told.lasting) are.replies
    ∙ ap (λ (b : Bool). rules_with system (out_of_order system records) (missing_or_twice system records) (reply_of_none system records) b told.lasting) are.changes
    ∙ ap (λ (l : LastingState). rules_with system (out_of_order system records) (missing_or_twice system records) (reply_of_none system records) (wrong_changes system records) l) is.lasting

pub stops : (system : System) (records : List Record) (broken : RecordRules) (told : Told) (rule : ℕ) → AreRecordRules system records broken → IsToldByRecords system records told
    → Some rule ≡ first_broken (rules_by system broken told.lasting) → judged_records system (Some records) ≡ Err rule
stops system records broken told rule are is first =
    ap (λ found. unless_rule_broken found records) (sym (first ∙ ap first_broken (same_rules system records broken told are is)))

apart : (n : ℕ) → None ≡ Some n → ⊥
apart n e = cc

none_broken : (a b v i u w r f c : Bool) → None ≡ first_broken ((11, a) ∷ (12, b || v) ∷ (13, i) ∷ (14, u) ∷ (15, w || r) ∷ (16, f) ∷ (17, c) ∷ []) → v || i || u || w || f ≡ false
none_broken true b v i u w r f c e = absurd (apart 11 e)
none_broken false true v i u w r f c e = absurd (apart 12 e)
none_broken false false true i u w r f c e = absurd (apart 12 e)
none_broken false false false true u w r f c e = absurd (apart 13 e)
none_broken false false false false true w r f c e = absurd (apart 14 e)
none_broken false false false false false true r f c e = absurd (apart 15 e)
none_broken false false false false false false true f c e = absurd (apart 15 e)
none_broken false false false false false false false true c e = absurd (apart 16 e)
none_broken false false false false false false false false c e = refl

pub sound : (system : System) (broken : RecordRules) (lasting : LastingState) → None ≡ first_broken (rules_by system broken lasting) → breaks_a_rule system lasting ≡ false
sound system broken lasting =
    none_broken broken.order broken.names (wrong_values system lasting) (wrong_ids lasting) (unknown_messages system lasting) (wrong_replies lasting) broken.replies (over_full system lasting) broken.changes

pub keeps : (system : System) (records : List Record) (broken : RecordRules) (told : Told) (unit : ℕ) (result : Result SnapshotState RecordsFault) →
    AreRecordRules system records broken → IsToldByRecords system records told → unit ≡ told_unit records → None ≡ first_broken (rules_by system broken told.lasting) → KeepsTold system told unit result → TellsSnapshotState system records result
keeps system records broken told unit result are is next none = by result where
  whole : judged_records system (Some records) ≡ Ok records
  whole = ap (λ found. unless_rule_broken found records) (sym (none ∙ ap first_broken (same_rules system records broken told are is)))

  by : (result : Result SnapshotState RecordsFault) → KeepsTold system told unit result → TellsSnapshotState system records result
  by (Ok snapshot) k = (whole, record { kept = subst (λ lasting. KeepsState system lasting snapshot.kept) is.lasting k.kept; changes = k.changes ∙ is.changes; unit = k.next ∙ next })
  by (Err (Bad rule)) k = absurd k
  by (Err Memory) k = tt

pub ruleset judge_steps = (stops, sound, keeps)
