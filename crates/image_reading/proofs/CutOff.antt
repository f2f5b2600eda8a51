-- Bytes are cut off just where they are a front of some layout.
use Rattle.std.proofs.Common.{◌≡◌, ◌⊎◌, inl, inr, ℕ, zero, suc, ◌+◌, ◌-◌, ◌*◌, ◌^◌, ◌<◌, ◌≤◌, Bool, true, false, ◌||◌, List, [], ◌∷◌, ◌++◌, length, replicate, refl, sym, ◌∙◌, ap, arith, Some, None}
use Rattle.std.specs.Prelude.{Decides, slice_get}
use Rattle.std.specs.List.{AllByRecursion}
use Rattle.std.proofs.lemmas.Bool.{or_left, or_right}
use Rattle.std.proofs.lemmas.List.{length-append, append-nil, length-replicate, nil_from_length}
use Rattle.tm_types.specs.Name.{IsName}
use Rattle.model_messages.specs.declared.conversation.PadChange.TheVariants.{Stays, New, Ends}
use Rattle.log_records.specs.declared.record.Record.{Record}
use Rattle.log_records.specs.declared.record.Record.TheVariants.{Input, Command, Reply, Discarded, Completed, Acknowledged, SyncPoint, Checkpoint, Terminal, Code, Change}
use Rattle.log_records.specs.RecordSpelling.{number1, number2, number8, flag, name, text, segs, record_content, record_length, record_spelling, IsByte, IsNumber, IsAbend, AreSegments, AreInRange, IsLogRecord}
use Rattle.log_records.proofs.Takes.{IsBytes, IsBytes-rest}
use Rattle.log_records.proofs.Lengths.{eight, text_length, is_record}
use Rattle.model_image.specs.CutRecords.{IsRecordCutOff}
use Rattle.image_reading.specs.declared.parts.Part.{Part}
use Rattle.image_reading.specs.declared.parts.Part.TheVariants.{Exactly, Flag, Any, Abend, Name, Text, Segments}
use Rattle.image_reading.specs.RecordParts.{is_front}
use Rattle.image_reading.specs.RecordLayouts as layouts
use Rattle.image_reading.specs.RecordLayouts.{messages, answers, tables, is_front_in, is_front_of_any}
use Rattle.image_reading.proofs.Fronts.{AreParts, is_text, Missing, front_of, is_front_of, bytes_both, bytes_cons}
use Rattle.image_reading.proofs.Shapes.{AnyFlag, IsTwo, Front, Lays, both, behind_byte, eight_lays, two_lays, one_lays, flag_lays, name_lays, abend_lays, text_lays, segs_lay, TwoBytes, two_bytes, two_is}
use Rattle.log_records.proofs.LayoutLaws.{small80, small32000, command_values}

-- a record of this content
pub record Content (bytes : List ℕ) : Type 0 where
  pub whole : Record
  pub fits : AreInRange whole
  pub is : record_content whole ≡ bytes

-- Each text of the layout is the content of a record.
pub record HasRecords (layout : List Part) : Type 0 where
  pub valid : AreParts layout
  pub each : (bytes : List ℕ) → IsBytes bytes → is_text layout bytes ≡ true → Content bytes

whole_is : (rest : List ℕ) → is_text [] rest ≡ true → rest ≡ []
whole_is [] is = refl
whole_is (b ∷ rest) is = absurd cc

-- a layout of fields, of which records are made
record_from : {A : Type 0} (layout : List Part) (spell : A → List ℕ) (Fits : A → Type 0) (make : A → Record) → Lays layout A spell Fits → ((v : A) → Fits v → record_content (make v) ≡ spell v) → ((v : A) → Fits v → AreInRange (make v))
    → (bytes : List ℕ) → IsBytes bytes → is_text (layout ++ []) bytes ≡ true → Content bytes
record_from {A = A} layout spell Fits make lays same fit bytes are is = by (lays.back [] bytes are is) where
  by : Front A spell Fits [] bytes → Content bytes
  by f = record {
    whole = make f.value;
    fits = fit f.value f.fits;
    is = same f.value f.fits ∙ sym (append-nil (spell f.value)) ∙ ap (λ (t : List ℕ). spell f.value ++ t) (sym (whole_is f.rest f.is)) ∙ sym f.parts;
  }

-- and the content of each such record is a text of it
text_from : {A : Type 0} (layout : List Part) (spell : A → List ℕ) (Fits : A → Type 0) → Lays layout A spell Fits → (v : A) → Fits v → is_text (layout ++ []) (spell v) ≡ true
text_from layout spell Fits lays v fits = ap (is_text (layout ++ [])) (sym (append-nil (spell v))) ∙ lays.goes v [] [] fits

small0 : 0 < 2 ^ 16
small0 = omega arith

small65535 : 65535 < 2 ^ 16
small65535 = omega arith

abbrev AtMost : ℕ → List ℕ → Type 0
AtMost limit t = length t ≤ limit

-- ---- each layout

abbrev input_values : Type 0
input_values = (ℕ) × ((ℕ) × ((List ℕ) × ((List ℕ) × ((ℕ) × ((Bool) × (List (List ℕ)))))))

abbrev input_spelled : input_values → List ℕ
input_spelled v = 1 ∷ (number8 v.0 ++ (number8 v.1.0 ++ (name v.1.1.0 ++ (name v.1.1.1.0 ++ (number8 v.1.1.1.1.0 ++ (flag v.1.1.1.1.1.0 ++ (segs v.1.1.1.1.1.1)))))))

abbrev input_fit : input_values → Type 0
input_fit v = (IsNumber v.0) × ((IsNumber v.1.0) × ((IsName v.1.1.0) × ((IsName v.1.1.1.0) × ((IsNumber v.1.1.1.1.0) × ((AnyFlag v.1.1.1.1.1.0) × (AreSegments v.1.1.1.1.1.1))))))

input_lays : Lays layouts.input input_values input_spelled input_fit
input_lays = behind_byte {A = (ℕ) × ((ℕ) × ((List ℕ) × ((List ℕ) × ((ℕ) × ((Bool) × (List (List ℕ)))))))} 1 (Any 7 ∷ Any 7 ∷ Name ∷ Name ∷ Any 7 ∷ Flag ∷ Segments ∷ []) (λ v. number8 v.0 ++ (number8 v.1.0 ++ (name v.1.1.0 ++ (name v.1.1.1.0 ++ (number8 v.1.1.1.1.0 ++ (flag v.1.1.1.1.1.0 ++ (segs v.1.1.1.1.1.1))))))) (λ v. (IsNumber v.0) × ((IsNumber v.1.0) × ((IsName v.1.1.0) × ((IsName v.1.1.1.0) × ((IsNumber v.1.1.1.1.0) × ((AnyFlag v.1.1.1.1.1.0) × (AreSegments v.1.1.1.1.1.1))))))) (both {A = ℕ} {B = (ℕ) × ((List ℕ) × ((List ℕ) × ((ℕ) × ((Bool) × (List (List ℕ))))))} (Any 7 ∷ []) (Any 7 ∷ Name ∷ Name ∷ Any 7 ∷ Flag ∷ Segments ∷ []) number8 (λ v. number8 v.0 ++ (name v.1.0 ++ (name v.1.1.0 ++ (number8 v.1.1.1.0 ++ (flag v.1.1.1.1.0 ++ (segs v.1.1.1.1.1)))))) IsNumber (λ v. (IsNumber v.0) × ((IsName v.1.0) × ((IsName v.1.1.0) × ((IsNumber v.1.1.1.0) × ((AnyFlag v.1.1.1.1.0) × (AreSegments v.1.1.1.1.1)))))) (eight_lays) (both {A = ℕ} {B = (List ℕ) × ((List ℕ) × ((ℕ) × ((Bool) × (List (List ℕ)))))} (Any 7 ∷ []) (Name ∷ Name ∷ Any 7 ∷ Flag ∷ Segments ∷ []) number8 (λ v. name v.0 ++ (name v.1.0 ++ (number8 v.1.1.0 ++ (flag v.1.1.1.0 ++ (segs v.1.1.1.1))))) IsNumber (λ v. (IsName v.0) × ((IsName v.1.0) × ((IsNumber v.1.1.0) × ((AnyFlag v.1.1.1.0) × (AreSegments v.1.1.1.1))))) (eight_lays) (both {A = List ℕ} {B = (List ℕ) × ((ℕ) × ((Bool) × (List (List ℕ))))} (Name ∷ []) (Name ∷ Any 7 ∷ Flag ∷ Segments ∷ []) name (λ v. name v.0 ++ (number8 v.1.0 ++ (flag v.1.1.0 ++ (segs v.1.1.1)))) IsName (λ v. (IsName v.0) × ((IsNumber v.1.0) × ((AnyFlag v.1.1.0) × (AreSegments v.1.1.1)))) (name_lays) (both {A = List ℕ} {B = (ℕ) × ((Bool) × (List (List ℕ)))} (Name ∷ []) (Any 7 ∷ Flag ∷ Segments ∷ []) name (λ v. number8 v.0 ++ (flag v.1.0 ++ (segs v.1.1))) IsName (λ v. (IsNumber v.0) × ((AnyFlag v.1.0) × (AreSegments v.1.1))) (name_lays) (both {A = ℕ} {B = (Bool) × (List (List ℕ))} (Any 7 ∷ []) (Flag ∷ Segments ∷ []) number8 (λ v. flag v.0 ++ (segs v.1)) IsNumber (λ v. (AnyFlag v.0) × (AreSegments v.1)) (eight_lays) (both {A = Bool} {B = List (List ℕ)} (Flag ∷ []) (Segments ∷ []) flag (λ v. segs v) AnyFlag (λ v. AreSegments v) (flag_lays) (segs_lay)))))))

input_has : HasRecords layouts.input
input_has = record {
  valid = (omega arith, (tt, (tt, (tt, (tt, (tt, (tt, (tt, tt))))))));
  each = record_from layouts.input input_spelled input_fit (λ v. Input v.0 v.1.0 v.1.1.0 v.1.1.1.0 v.1.1.1.1.0 v.1.1.1.1.1.0 v.1.1.1.1.1.1) input_lays (λ v h. refl) (λ v h. h);
}

abbrev command_spelled : command_values → List ℕ
command_spelled v = 2 ∷ (text v)

abbrev command_fit : command_values → Type 0
command_fit v = (AtMost 80) v

command_lays : Lays layouts.command command_values command_spelled command_fit
command_lays = behind_byte {A = List ℕ} 2 (Text 80 ∷ []) (λ v. text v) (λ v. (AtMost 80) v) (text_lays 80 small80)

command_has : HasRecords layouts.command
command_has = record {
  valid = (omega arith, (omega arith, tt));
  each = record_from layouts.command command_spelled command_fit (λ v. Command v) command_lays (λ v h. refl) (λ v h. h);
}

abbrev reply_values : Type 0
reply_values = (ℕ) × ((List ℕ) × ((ℕ) × (List (List ℕ))))

abbrev reply_spelled : reply_values → List ℕ
reply_spelled v = 3 ∷ (number8 v.0 ++ (name v.1.0 ++ (number8 v.1.1.0 ++ (segs v.1.1.1))))

abbrev reply_fit : reply_values → Type 0
reply_fit v = (IsNumber v.0) × ((IsName v.1.0) × ((IsNumber v.1.1.0) × (AreSegments v.1.1.1)))

reply_lays : Lays layouts.reply reply_values reply_spelled reply_fit
reply_lays = behind_byte {A = (ℕ) × ((List ℕ) × ((ℕ) × (List (List ℕ))))} 3 (Any 7 ∷ Name ∷ Any 7 ∷ Segments ∷ []) (λ v. number8 v.0 ++ (name v.1.0 ++ (number8 v.1.1.0 ++ (segs v.1.1.1)))) (λ v. (IsNumber v.0) × ((IsName v.1.0) × ((IsNumber v.1.1.0) × (AreSegments v.1.1.1)))) (both {A = ℕ} {B = (List ℕ) × ((ℕ) × (List (List ℕ)))} (Any 7 ∷ []) (Name ∷ Any 7 ∷ Segments ∷ []) number8 (λ v. name v.0 ++ (number8 v.1.0 ++ (segs v.1.1))) IsNumber (λ v. (IsName v.0) × ((IsNumber v.1.0) × (AreSegments v.1.1))) (eight_lays) (both {A = List ℕ} {B = (ℕ) × (List (List ℕ))} (Name ∷ []) (Any 7 ∷ Segments ∷ []) name (λ v. number8 v.0 ++ (segs v.1)) IsName (λ v. (IsNumber v.0) × (AreSegments v.1)) (name_lays) (both {A = ℕ} {B = List (List ℕ)} (Any 7 ∷ []) (Segments ∷ []) number8 (λ v. segs v) IsNumber (λ v. AreSegments v) (eight_lays) (segs_lay))))

reply_has : HasRecords layouts.reply
reply_has = record {
  valid = (omega arith, (tt, (tt, (tt, (tt, tt)))));
  each = record_from layouts.reply reply_spelled reply_fit (λ v. Reply v.0 v.1.0 v.1.1.0 v.1.1.1) reply_lays (λ v h. refl) (λ v h. h);
}

abbrev discarded_values : Type 0
discarded_values = (ℕ) × ((ℕ) × ((ℕ) × (ℕ)))

abbrev discarded_spelled : discarded_values → List ℕ
discarded_spelled v = 7 ∷ (number8 v.0 ++ (number8 v.1.0 ++ (number2 v.1.1.0 ++ (number8 v.1.1.1))))

abbrev discarded_fit : discarded_values → Type 0
discarded_fit v = (IsNumber v.0) × ((IsNumber v.1.0) × ((IsAbend v.1.1.0) × (IsNumber v.1.1.1)))

discarded_lays : Lays layouts.discarded discarded_values discarded_spelled discarded_fit
discarded_lays = behind_byte {A = (ℕ) × ((ℕ) × ((ℕ) × (ℕ)))} 7 (Any 7 ∷ Any 7 ∷ Abend ∷ Any 7 ∷ []) (λ v. number8 v.0 ++ (number8 v.1.0 ++ (number2 v.1.1.0 ++ (number8 v.1.1.1)))) (λ v. (IsNumber v.0) × ((IsNumber v.1.0) × ((IsAbend v.1.1.0) × (IsNumber v.1.1.1)))) (both {A = ℕ} {B = (ℕ) × ((ℕ) × (ℕ))} (Any 7 ∷ []) (Any 7 ∷ Abend ∷ Any 7 ∷ []) number8 (λ v. number8 v.0 ++ (number2 v.1.0 ++ (number8 v.1.1))) IsNumber (λ v. (IsNumber v.0) × ((IsAbend v.1.0) × (IsNumber v.1.1))) (eight_lays) (both {A = ℕ} {B = (ℕ) × (ℕ)} (Any 7 ∷ []) (Abend ∷ Any 7 ∷ []) number8 (λ v. number2 v.0 ++ (number8 v.1)) IsNumber (λ v. (IsAbend v.0) × (IsNumber v.1)) (eight_lays) (both {A = ℕ} {B = ℕ} (Abend ∷ []) (Any 7 ∷ []) number2 (λ v. number8 v) IsAbend (λ v. IsNumber v) (abend_lays) (eight_lays))))

discarded_has : HasRecords layouts.discarded
discarded_has = record {
  valid = (omega arith, (tt, (tt, (tt, (tt, tt)))));
  each = record_from layouts.discarded discarded_spelled discarded_fit (λ v. Discarded v.0 v.1.0 (record { number = v.1.1.0 }) v.1.1.1) discarded_lays (λ v h. refl) (λ v h. h);
}

abbrev completed_values : Type 0
completed_values = (ℕ) × (ℕ)

abbrev completed_spelled : completed_values → List ℕ
completed_spelled v = 54 ∷ (0 ∷ (number8 v.0 ++ (number8 v.1)))

abbrev completed_fit : completed_values → Type 0
completed_fit v = (IsNumber v.0) × (IsNumber v.1)

completed_lays : Lays layouts.completed completed_values completed_spelled completed_fit
completed_lays = behind_byte {A = (ℕ) × (ℕ)} 54 (Exactly 0 ∷ Any 7 ∷ Any 7 ∷ []) (λ v. 0 ∷ (number8 v.0 ++ (number8 v.1))) (λ v. (IsNumber v.0) × (IsNumber v.1)) (behind_byte {A = (ℕ) × (ℕ)} 0 (Any 7 ∷ Any 7 ∷ []) (λ v. number8 v.0 ++ (number8 v.1)) (λ v. (IsNumber v.0) × (IsNumber v.1)) (both {A = ℕ} {B = ℕ} (Any 7 ∷ []) (Any 7 ∷ []) number8 (λ v. number8 v) IsNumber (λ v. IsNumber v) (eight_lays) (eight_lays)))

completed_has : HasRecords layouts.completed
completed_has = record {
  valid = (omega arith, (omega arith, (tt, (tt, tt))));
  each = record_from layouts.completed completed_spelled completed_fit (λ v. Completed v.0 v.1) completed_lays (λ v h. refl) (λ v h. h);
}

abbrev acknowledged_values : Type 0
acknowledged_values = (List ℕ) × (ℕ)

abbrev acknowledged_spelled : acknowledged_values → List ℕ
acknowledged_spelled v = 54 ∷ (1 ∷ (name v.0 ++ (number8 v.1)))

abbrev acknowledged_fit : acknowledged_values → Type 0
acknowledged_fit v = (IsName v.0) × (IsNumber v.1)

acknowledged_lays : Lays layouts.acknowledged_layout acknowledged_values acknowledged_spelled acknowledged_fit
acknowledged_lays = behind_byte {A = (List ℕ) × (ℕ)} 54 (Exactly 1 ∷ Name ∷ Any 7 ∷ []) (λ v. 1 ∷ (name v.0 ++ (number8 v.1))) (λ v. (IsName v.0) × (IsNumber v.1)) (behind_byte {A = (List ℕ) × (ℕ)} 1 (Name ∷ Any 7 ∷ []) (λ v. name v.0 ++ (number8 v.1)) (λ v. (IsName v.0) × (IsNumber v.1)) (both {A = List ℕ} {B = ℕ} (Name ∷ []) (Any 7 ∷ []) name (λ v. number8 v) IsName (λ v. IsNumber v) (name_lays) (eight_lays)))

acknowledged_has : HasRecords layouts.acknowledged_layout
acknowledged_has = record {
  valid = (omega arith, (omega arith, (tt, (tt, tt))));
  each = record_from layouts.acknowledged_layout acknowledged_spelled acknowledged_fit (λ v. Acknowledged v.0 v.1) acknowledged_lays (λ v h. refl) (λ v h. h);
}

abbrev pad_stays_values : Type 0
pad_stays_values = (ℕ) × (List ℕ)

abbrev pad_stays_spelled : pad_stays_values → List ℕ
pad_stays_spelled v = 55 ∷ (number8 v.0 ++ (0 ∷ (text v.1)))

abbrev pad_stays_fit : pad_stays_values → Type 0
pad_stays_fit v = (IsNumber v.0) × ((AtMost 0) v.1)

pad_stays_lays : Lays layouts.pad_stays pad_stays_values pad_stays_spelled pad_stays_fit
pad_stays_lays = behind_byte {A = (ℕ) × (List ℕ)} 55 (Any 7 ∷ Exactly 0 ∷ Text 0 ∷ []) (λ v. number8 v.0 ++ (0 ∷ (text v.1))) (λ v. (IsNumber v.0) × ((AtMost 0) v.1)) (both {A = ℕ} {B = List ℕ} (Any 7 ∷ []) (Exactly 0 ∷ Text 0 ∷ []) number8 (λ v. 0 ∷ (text v)) IsNumber (λ v. (AtMost 0) v) (eight_lays) (behind_byte {A = List ℕ} 0 (Text 0 ∷ []) (λ v. text v) (λ v. (AtMost 0) v) (text_lays 0 small0)))

pad_stays_has : HasRecords layouts.pad_stays
pad_stays_has = record {
  valid = (omega arith, (tt, (omega arith, (omega arith, tt))));
  each = record_from layouts.pad_stays pad_stays_spelled pad_stays_fit (λ v. SyncPoint v.0 Stays) pad_stays_lays (λ v h. ap (λ (t : List ℕ). 55 ∷ (number8 v.0 ++ (0 ∷ text t))) (sym (nil_from_length v.1 (omega (arith, h.1))))) (λ v h. (h.0, tt));
}

abbrev pad_new_values : Type 0
pad_new_values = (ℕ) × (List ℕ)

abbrev pad_new_spelled : pad_new_values → List ℕ
pad_new_spelled v = 55 ∷ (number8 v.0 ++ (1 ∷ (text v.1)))

abbrev pad_new_fit : pad_new_values → Type 0
pad_new_fit v = (IsNumber v.0) × ((AtMost 65535) v.1)

pad_new_lays : Lays layouts.pad_new pad_new_values pad_new_spelled pad_new_fit
pad_new_lays = behind_byte {A = (ℕ) × (List ℕ)} 55 (Any 7 ∷ Exactly 1 ∷ Text 65535 ∷ []) (λ v. number8 v.0 ++ (1 ∷ (text v.1))) (λ v. (IsNumber v.0) × ((AtMost 65535) v.1)) (both {A = ℕ} {B = List ℕ} (Any 7 ∷ []) (Exactly 1 ∷ Text 65535 ∷ []) number8 (λ v. 1 ∷ (text v)) IsNumber (λ v. (AtMost 65535) v) (eight_lays) (behind_byte {A = List ℕ} 1 (Text 65535 ∷ []) (λ v. text v) (λ v. (AtMost 65535) v) (text_lays 65535 small65535)))

pad_new_has : HasRecords layouts.pad_new
pad_new_has = record {
  valid = (omega arith, (tt, (omega arith, (omega arith, tt))));
  each = record_from layouts.pad_new pad_new_spelled pad_new_fit (λ v. SyncPoint v.0 (New v.1)) pad_new_lays (λ v h. refl) (λ v h. (h.0, omega (arith, h.1)));
}

abbrev pad_ends_values : Type 0
pad_ends_values = (ℕ) × (List ℕ)

abbrev pad_ends_spelled : pad_ends_values → List ℕ
pad_ends_spelled v = 55 ∷ (number8 v.0 ++ (2 ∷ (text v.1)))

abbrev pad_ends_fit : pad_ends_values → Type 0
pad_ends_fit v = (IsNumber v.0) × ((AtMost 0) v.1)

pad_ends_lays : Lays layouts.pad_ends pad_ends_values pad_ends_spelled pad_ends_fit
pad_ends_lays = behind_byte {A = (ℕ) × (List ℕ)} 55 (Any 7 ∷ Exactly 2 ∷ Text 0 ∷ []) (λ v. number8 v.0 ++ (2 ∷ (text v.1))) (λ v. (IsNumber v.0) × ((AtMost 0) v.1)) (both {A = ℕ} {B = List ℕ} (Any 7 ∷ []) (Exactly 2 ∷ Text 0 ∷ []) number8 (λ v. 2 ∷ (text v)) IsNumber (λ v. (AtMost 0) v) (eight_lays) (behind_byte {A = List ℕ} 2 (Text 0 ∷ []) (λ v. text v) (λ v. (AtMost 0) v) (text_lays 0 small0)))

pad_ends_has : HasRecords layouts.pad_ends
pad_ends_has = record {
  valid = (omega arith, (tt, (omega arith, (omega arith, tt))));
  each = record_from layouts.pad_ends pad_ends_spelled pad_ends_fit (λ v. SyncPoint v.0 Ends) pad_ends_lays (λ v h. ap (λ (t : List ℕ). 55 ∷ (number8 v.0 ++ (2 ∷ text t))) (sym (nil_from_length v.1 (omega (arith, h.1))))) (λ v h. (h.0, tt));
}

abbrev checkpoint_values : Type 0
checkpoint_values = (ℕ) × ((ℕ) × ((ℕ) × (ℕ)))

abbrev checkpoint_spelled : checkpoint_values → List ℕ
checkpoint_spelled v = 64 ∷ (0 ∷ (number8 v.0 ++ (number8 v.1.0 ++ (number8 v.1.1.0 ++ (number8 v.1.1.1)))))

abbrev checkpoint_fit : checkpoint_values → Type 0
checkpoint_fit v = (IsNumber v.0) × ((IsNumber v.1.0) × ((IsNumber v.1.1.0) × (IsNumber v.1.1.1)))

checkpoint_lays : Lays layouts.checkpoint checkpoint_values checkpoint_spelled checkpoint_fit
checkpoint_lays = behind_byte {A = (ℕ) × ((ℕ) × ((ℕ) × (ℕ)))} 64 (Exactly 0 ∷ Any 7 ∷ Any 7 ∷ Any 7 ∷ Any 7 ∷ []) (λ v. 0 ∷ (number8 v.0 ++ (number8 v.1.0 ++ (number8 v.1.1.0 ++ (number8 v.1.1.1))))) (λ v. (IsNumber v.0) × ((IsNumber v.1.0) × ((IsNumber v.1.1.0) × (IsNumber v.1.1.1)))) (behind_byte {A = (ℕ) × ((ℕ) × ((ℕ) × (ℕ)))} 0 (Any 7 ∷ Any 7 ∷ Any 7 ∷ Any 7 ∷ []) (λ v. number8 v.0 ++ (number8 v.1.0 ++ (number8 v.1.1.0 ++ (number8 v.1.1.1)))) (λ v. (IsNumber v.0) × ((IsNumber v.1.0) × ((IsNumber v.1.1.0) × (IsNumber v.1.1.1)))) (both {A = ℕ} {B = (ℕ) × ((ℕ) × (ℕ))} (Any 7 ∷ []) (Any 7 ∷ Any 7 ∷ Any 7 ∷ []) number8 (λ v. number8 v.0 ++ (number8 v.1.0 ++ (number8 v.1.1))) IsNumber (λ v. (IsNumber v.0) × ((IsNumber v.1.0) × (IsNumber v.1.1))) (eight_lays) (both {A = ℕ} {B = (ℕ) × (ℕ)} (Any 7 ∷ []) (Any 7 ∷ Any 7 ∷ []) number8 (λ v. number8 v.0 ++ (number8 v.1)) IsNumber (λ v. (IsNumber v.0) × (IsNumber v.1)) (eight_lays) (both {A = ℕ} {B = ℕ} (Any 7 ∷ []) (Any 7 ∷ []) number8 (λ v. number8 v) IsNumber (λ v. IsNumber v) (eight_lays) (eight_lays)))))

checkpoint_has : HasRecords layouts.checkpoint
checkpoint_has = record {
  valid = (omega arith, (omega arith, (tt, (tt, (tt, (tt, tt))))));
  each = record_from layouts.checkpoint checkpoint_spelled checkpoint_fit (λ v. Checkpoint v.0 v.1.0 v.1.1.0 v.1.1.1) checkpoint_lays (λ v h. refl) (λ v h. h);
}

abbrev idle_terminal_values : Type 0
idle_terminal_values = (List ℕ) × ((ℕ) × ((ℕ) × ((Bool) × (List ℕ))))

abbrev idle_terminal_spelled : idle_terminal_values → List ℕ
idle_terminal_spelled v = 64 ∷ (1 ∷ (name v.0 ++ (number8 v.1.0 ++ (number8 v.1.1.0 ++ (flag v.1.1.1.0 ++ (0 ∷ (text v.1.1.1.1)))))))

abbrev idle_terminal_fit : idle_terminal_values → Type 0
idle_terminal_fit v = (IsName v.0) × ((IsNumber v.1.0) × ((IsNumber v.1.1.0) × ((AnyFlag v.1.1.1.0) × ((AtMost 0) v.1.1.1.1))))

idle_terminal_lays : Lays layouts.idle_terminal idle_terminal_values idle_terminal_spelled idle_terminal_fit
idle_terminal_lays = behind_byte {A = (List ℕ) × ((ℕ) × ((ℕ) × ((Bool) × (List ℕ))))} 64 (Exactly 1 ∷ Name ∷ Any 7 ∷ Any 7 ∷ Flag ∷ Exactly 0 ∷ Text 0 ∷ []) (λ v. 1 ∷ (name v.0 ++ (number8 v.1.0 ++ (number8 v.1.1.0 ++ (flag v.1.1.1.0 ++ (0 ∷ (text v.1.1.1.1))))))) (λ v. (IsName v.0) × ((IsNumber v.1.0) × ((IsNumber v.1.1.0) × ((AnyFlag v.1.1.1.0) × ((AtMost 0) v.1.1.1.1))))) (behind_byte {A = (List ℕ) × ((ℕ) × ((ℕ) × ((Bool) × (List ℕ))))} 1 (Name ∷ Any 7 ∷ Any 7 ∷ Flag ∷ Exactly 0 ∷ Text 0 ∷ []) (λ v. name v.0 ++ (number8 v.1.0 ++ (number8 v.1.1.0 ++ (flag v.1.1.1.0 ++ (0 ∷ (text v.1.1.1.1)))))) (λ v. (IsName v.0) × ((IsNumber v.1.0) × ((IsNumber v.1.1.0) × ((AnyFlag v.1.1.1.0) × ((AtMost 0) v.1.1.1.1))))) (both {A = List ℕ} {B = (ℕ) × ((ℕ) × ((Bool) × (List ℕ)))} (Name ∷ []) (Any 7 ∷ Any 7 ∷ Flag ∷ Exactly 0 ∷ Text 0 ∷ []) name (λ v. number8 v.0 ++ (number8 v.1.0 ++ (flag v.1.1.0 ++ (0 ∷ (text v.1.1.1))))) IsName (λ v. (IsNumber v.0) × ((IsNumber v.1.0) × ((AnyFlag v.1.1.0) × ((AtMost 0) v.1.1.1)))) (name_lays) (both {A = ℕ} {B = (ℕ) × ((Bool) × (List ℕ))} (Any 7 ∷ []) (Any 7 ∷ Flag ∷ Exactly 0 ∷ Text 0 ∷ []) number8 (λ v. number8 v.0 ++ (flag v.1.0 ++ (0 ∷ (text v.1.1)))) IsNumber (λ v. (IsNumber v.0) × ((AnyFlag v.1.0) × ((AtMost 0) v.1.1))) (eight_lays) (both {A = ℕ} {B = (Bool) × (List ℕ)} (Any 7 ∷ []) (Flag ∷ Exactly 0 ∷ Text 0 ∷ []) number8 (λ v. flag v.0 ++ (0 ∷ (text v.1))) IsNumber (λ v. (AnyFlag v.0) × ((AtMost 0) v.1)) (eight_lays) (both {A = Bool} {B = List ℕ} (Flag ∷ []) (Exactly 0 ∷ Text 0 ∷ []) flag (λ v. 0 ∷ (text v)) AnyFlag (λ v. (AtMost 0) v) (flag_lays) (behind_byte {A = List ℕ} 0 (Text 0 ∷ []) (λ v. text v) (λ v. (AtMost 0) v) (text_lays 0 small0)))))))

idle_terminal_has : HasRecords layouts.idle_terminal
idle_terminal_has = record {
  valid = (omega arith, (omega arith, (tt, (tt, (tt, (tt, (omega arith, (omega arith, tt))))))));
  each = record_from layouts.idle_terminal idle_terminal_spelled idle_terminal_fit (λ v. Terminal v.0 v.1.0 v.1.1.0 v.1.1.1.0 None) idle_terminal_lays (λ v h. ap (λ (t : List ℕ). 64 ∷ 1 ∷ (name v.0 ++ (number8 v.1.0 ++ (number8 v.1.1.0 ++ (flag v.1.1.1.0 ++ (0 ∷ text t)))))) (sym (nil_from_length v.1.1.1.1 (omega (arith, h.1.1.1.1))))) (λ v h. (h.0, (h.1.0, (h.1.1.0, (tt, tt)))));
}

abbrev conversing_terminal_values : Type 0
conversing_terminal_values = (List ℕ) × ((ℕ) × ((ℕ) × ((Bool) × ((List ℕ) × (List ℕ)))))

abbrev conversing_terminal_spelled : conversing_terminal_values → List ℕ
conversing_terminal_spelled v = 64 ∷ (1 ∷ (name v.0 ++ (number8 v.1.0 ++ (number8 v.1.1.0 ++ (flag v.1.1.1.0 ++ (1 ∷ (name v.1.1.1.1.0 ++ (text v.1.1.1.1.1))))))))

abbrev conversing_terminal_fit : conversing_terminal_values → Type 0
conversing_terminal_fit v = (IsName v.0) × ((IsNumber v.1.0) × ((IsNumber v.1.1.0) × ((AnyFlag v.1.1.1.0) × ((IsName v.1.1.1.1.0) × ((AtMost 65535) v.1.1.1.1.1)))))

conversing_terminal_lays : Lays layouts.conversing_terminal conversing_terminal_values conversing_terminal_spelled conversing_terminal_fit
conversing_terminal_lays = behind_byte {A = (List ℕ) × ((ℕ) × ((ℕ) × ((Bool) × ((List ℕ) × (List ℕ)))))} 64 (Exactly 1 ∷ Name ∷ Any 7 ∷ Any 7 ∷ Flag ∷ Exactly 1 ∷ Name ∷ Text 65535 ∷ []) (λ v. 1 ∷ (name v.0 ++ (number8 v.1.0 ++ (number8 v.1.1.0 ++ (flag v.1.1.1.0 ++ (1 ∷ (name v.1.1.1.1.0 ++ (text v.1.1.1.1.1)))))))) (λ v. (IsName v.0) × ((IsNumber v.1.0) × ((IsNumber v.1.1.0) × ((AnyFlag v.1.1.1.0) × ((IsName v.1.1.1.1.0) × ((AtMost 65535) v.1.1.1.1.1)))))) (behind_byte {A = (List ℕ) × ((ℕ) × ((ℕ) × ((Bool) × ((List ℕ) × (List ℕ)))))} 1 (Name ∷ Any 7 ∷ Any 7 ∷ Flag ∷ Exactly 1 ∷ Name ∷ Text 65535 ∷ []) (λ v. name v.0 ++ (number8 v.1.0 ++ (number8 v.1.1.0 ++ (flag v.1.1.1.0 ++ (1 ∷ (name v.1.1.1.1.0 ++ (text v.1.1.1.1.1))))))) (λ v. (IsName v.0) × ((IsNumber v.1.0) × ((IsNumber v.1.1.0) × ((AnyFlag v.1.1.1.0) × ((IsName v.1.1.1.1.0) × ((AtMost 65535) v.1.1.1.1.1)))))) (both {A = List ℕ} {B = (ℕ) × ((ℕ) × ((Bool) × ((List ℕ) × (List ℕ))))} (Name ∷ []) (Any 7 ∷ Any 7 ∷ Flag ∷ Exactly 1 ∷ Name ∷ Text 65535 ∷ []) name (λ v. number8 v.0 ++ (number8 v.1.0 ++ (flag v.1.1.0 ++ (1 ∷ (name v.1.1.1.0 ++ (text v.1.1.1.1)))))) IsName (λ v. (IsNumber v.0) × ((IsNumber v.1.0) × ((AnyFlag v.1.1.0) × ((IsName v.1.1.1.0) × ((AtMost 65535) v.1.1.1.1))))) (name_lays) (both {A = ℕ} {B = (ℕ) × ((Bool) × ((List ℕ) × (List ℕ)))} (Any 7 ∷ []) (Any 7 ∷ Flag ∷ Exactly 1 ∷ Name ∷ Text 65535 ∷ []) number8 (λ v. number8 v.0 ++ (flag v.1.0 ++ (1 ∷ (name v.1.1.0 ++ (text v.1.1.1))))) IsNumber (λ v. (IsNumber v.0) × ((AnyFlag v.1.0) × ((IsName v.1.1.0) × ((AtMost 65535) v.1.1.1)))) (eight_lays) (both {A = ℕ} {B = (Bool) × ((List ℕ) × (List ℕ))} (Any 7 ∷ []) (Flag ∷ Exactly 1 ∷ Name ∷ Text 65535 ∷ []) number8 (λ v. flag v.0 ++ (1 ∷ (name v.1.0 ++ (text v.1.1)))) IsNumber (λ v. (AnyFlag v.0) × ((IsName v.1.0) × ((AtMost 65535) v.1.1))) (eight_lays) (both {A = Bool} {B = (List ℕ) × (List ℕ)} (Flag ∷ []) (Exactly 1 ∷ Name ∷ Text 65535 ∷ []) flag (λ v. 1 ∷ (name v.0 ++ (text v.1))) AnyFlag (λ v. (IsName v.0) × ((AtMost 65535) v.1)) (flag_lays) (behind_byte {A = (List ℕ) × (List ℕ)} 1 (Name ∷ Text 65535 ∷ []) (λ v. name v.0 ++ (text v.1)) (λ v. (IsName v.0) × ((AtMost 65535) v.1)) (both {A = List ℕ} {B = List ℕ} (Name ∷ []) (Text 65535 ∷ []) name (λ v. text v) IsName (λ v. (AtMost 65535) v) (name_lays) (text_lays 65535 small65535))))))))

conversing_terminal_has : HasRecords layouts.conversing_terminal
conversing_terminal_has = record {
  valid = (omega arith, (omega arith, (tt, (tt, (tt, (tt, (omega arith, (tt, (omega arith, tt)))))))));
  each = record_from layouts.conversing_terminal conversing_terminal_spelled conversing_terminal_fit (λ v. Terminal v.0 v.1.0 v.1.1.0 v.1.1.1.0 (Some (record { code = v.1.1.1.1.0; pad = v.1.1.1.1.1 }))) conversing_terminal_lays (λ v h. refl) (λ v h. (h.0, (h.1.0, (h.1.1.0, (tt, (h.1.1.1.1.0, omega (arith, h.1.1.1.1.1)))))));
}

abbrev code_values : Type 0
code_values = (List ℕ) × ((Bool) × ((ℕ) × (ℕ)))

abbrev code_spelled : code_values → List ℕ
code_spelled v = 64 ∷ (2 ∷ (name v.0 ++ (flag v.1.0 ++ (number1 v.1.1.0 ++ (number1 v.1.1.1)))))

abbrev code_fit : code_values → Type 0
code_fit v = (IsName v.0) × ((AnyFlag v.1.0) × ((IsByte v.1.1.0) × (IsByte v.1.1.1)))

code_lays : Lays layouts.code code_values code_spelled code_fit
code_lays = behind_byte {A = (List ℕ) × ((Bool) × ((ℕ) × (ℕ)))} 64 (Exactly 2 ∷ Name ∷ Flag ∷ Any 0 ∷ Any 0 ∷ []) (λ v. 2 ∷ (name v.0 ++ (flag v.1.0 ++ (number1 v.1.1.0 ++ (number1 v.1.1.1))))) (λ v. (IsName v.0) × ((AnyFlag v.1.0) × ((IsByte v.1.1.0) × (IsByte v.1.1.1)))) (behind_byte {A = (List ℕ) × ((Bool) × ((ℕ) × (ℕ)))} 2 (Name ∷ Flag ∷ Any 0 ∷ Any 0 ∷ []) (λ v. name v.0 ++ (flag v.1.0 ++ (number1 v.1.1.0 ++ (number1 v.1.1.1)))) (λ v. (IsName v.0) × ((AnyFlag v.1.0) × ((IsByte v.1.1.0) × (IsByte v.1.1.1)))) (both {A = List ℕ} {B = (Bool) × ((ℕ) × (ℕ))} (Name ∷ []) (Flag ∷ Any 0 ∷ Any 0 ∷ []) name (λ v. flag v.0 ++ (number1 v.1.0 ++ (number1 v.1.1))) IsName (λ v. (AnyFlag v.0) × ((IsByte v.1.0) × (IsByte v.1.1))) (name_lays) (both {A = Bool} {B = (ℕ) × (ℕ)} (Flag ∷ []) (Any 0 ∷ Any 0 ∷ []) flag (λ v. number1 v.0 ++ (number1 v.1)) AnyFlag (λ v. (IsByte v.0) × (IsByte v.1)) (flag_lays) (both {A = ℕ} {B = ℕ} (Any 0 ∷ []) (Any 0 ∷ []) number1 (λ v. number1 v) IsByte (λ v. IsByte v) (one_lays) (one_lays)))))

code_has : HasRecords layouts.code
code_has = record {
  valid = (omega arith, (omega arith, (tt, (tt, (tt, (tt, tt))))));
  each = record_from layouts.code code_spelled code_fit (λ v. Code v.0 v.1.0 v.1.1.0 v.1.1.1) code_lays (λ v h. refl) (λ v h. h);
}

abbrev change_values : Type 0
change_values = (ℕ) × ((ℕ) × ((ℕ) × ((List ℕ) × (List ℕ))))

abbrev change_spelled : change_values → List ℕ
change_spelled v = 80 ∷ (number8 v.0 ++ (number1 v.1.0 ++ (number2 v.1.1.0 ++ (text v.1.1.1.0 ++ (text v.1.1.1.1)))))

abbrev change_fit : change_values → Type 0
change_fit v = (IsNumber v.0) × ((IsByte v.1.0) × ((IsTwo v.1.1.0) × (((AtMost 32000) v.1.1.1.0) × ((AtMost 32000) v.1.1.1.1))))

change_lays : Lays layouts.change change_values change_spelled change_fit
change_lays = behind_byte {A = (ℕ) × ((ℕ) × ((ℕ) × ((List ℕ) × (List ℕ))))} 80 (Any 7 ∷ Any 0 ∷ Any 1 ∷ Text 32000 ∷ Text 32000 ∷ []) (λ v. number8 v.0 ++ (number1 v.1.0 ++ (number2 v.1.1.0 ++ (text v.1.1.1.0 ++ (text v.1.1.1.1))))) (λ v. (IsNumber v.0) × ((IsByte v.1.0) × ((IsTwo v.1.1.0) × (((AtMost 32000) v.1.1.1.0) × ((AtMost 32000) v.1.1.1.1))))) (both {A = ℕ} {B = (ℕ) × ((ℕ) × ((List ℕ) × (List ℕ)))} (Any 7 ∷ []) (Any 0 ∷ Any 1 ∷ Text 32000 ∷ Text 32000 ∷ []) number8 (λ v. number1 v.0 ++ (number2 v.1.0 ++ (text v.1.1.0 ++ (text v.1.1.1)))) IsNumber (λ v. (IsByte v.0) × ((IsTwo v.1.0) × (((AtMost 32000) v.1.1.0) × ((AtMost 32000) v.1.1.1)))) (eight_lays) (both {A = ℕ} {B = (ℕ) × ((List ℕ) × (List ℕ))} (Any 0 ∷ []) (Any 1 ∷ Text 32000 ∷ Text 32000 ∷ []) number1 (λ v. number2 v.0 ++ (text v.1.0 ++ (text v.1.1))) IsByte (λ v. (IsTwo v.0) × (((AtMost 32000) v.1.0) × ((AtMost 32000) v.1.1))) (one_lays) (both {A = ℕ} {B = (List ℕ) × (List ℕ)} (Any 1 ∷ []) (Text 32000 ∷ Text 32000 ∷ []) number2 (λ v. text v.0 ++ (text v.1)) IsTwo (λ v. ((AtMost 32000) v.0) × ((AtMost 32000) v.1)) (two_lays) (both {A = List ℕ} {B = List ℕ} (Text 32000 ∷ []) (Text 32000 ∷ []) text (λ v. text v) (AtMost 32000) (λ v. (AtMost 32000) v) (text_lays 32000 small32000) (text_lays 32000 small32000)))))

change_has : HasRecords layouts.change
change_has = record {
  valid = (omega arith, (tt, (tt, (tt, (omega arith, (omega arith, tt))))));
  each = record_from layouts.change change_spelled change_fit (λ v. Change v.0 v.1.0 v.1.1.0 v.1.1.1.0 v.1.1.1.1) change_lays (λ v h. refl) (λ v h. h);
}

-- ---- all

all_messages : AllByRecursion HasRecords messages
all_messages = (input_has, (command_has, (reply_has, (discarded_has, tt))))

all_answers : AllByRecursion HasRecords answers
all_answers = (completed_has, (acknowledged_has, (pad_stays_has, (pad_new_has, (pad_ends_has, tt)))))

all_tables : AllByRecursion HasRecords tables
all_tables = (checkpoint_has, (idle_terminal_has, (conversing_terminal_has, (code_has, tt))))

-- a layout whose front the bytes are
pub record Fitting (missing : ℕ) (bytes : List ℕ) : Type 0 where
  pub layout : List Part
  pub has : HasRecords layout
  pub is : is_front missing layout bytes ≡ true

or_cases : (a b : Bool) → a || b ≡ true → (a ≡ true) ⊎ (b ≡ true)
or_cases true b is = inl refl
or_cases false b is = inr is

fitting_in : (n : ℕ) (bytes : List ℕ) (all : List (List Part)) → AllByRecursion HasRecords all → is_front_in n bytes all ≡ true → Fitting n bytes
fitting_in n bytes [] have is = absurd cc
fitting_in n bytes (layout ∷ others) have is = by (or_cases (is_front n layout bytes) (is_front_in n bytes others) is) (fitting_in n bytes others have.1) where
  by : (is_front n layout bytes ≡ true) ⊎ (is_front_in n bytes others ≡ true) → (is_front_in n bytes others ≡ true → Fitting n bytes) → Fitting n bytes
  by (inl here) later = record { layout = layout; has = have.0; is = here }
  by (inr there) later = later there

fitting : (n : ℕ) (bytes : List ℕ) → is_front_of_any n bytes ≡ true → Fitting n bytes
fitting n bytes is =
    by (or_cases (is_front_in n bytes messages || is_front_in n bytes answers || is_front_in n bytes tables) (is_front n layouts.change bytes) is) where
      first : (is_front_in n bytes messages ≡ true) ⊎ (is_front_in n bytes answers ≡ true) → Fitting n bytes
      first (inl here) = fitting_in n bytes messages all_messages here
      first (inr there) = fitting_in n bytes answers all_answers there

      second : (is_front_in n bytes messages || is_front_in n bytes answers ≡ true) ⊎ (is_front_in n bytes tables ≡ true) → Fitting n bytes
      second (inl here) = first (or_cases (is_front_in n bytes messages) (is_front_in n bytes answers) here)
      second (inr there) = fitting_in n bytes tables all_tables there

      by : (is_front_in n bytes messages || is_front_in n bytes answers || is_front_in n bytes tables ≡ true) ⊎ (is_front n layouts.change bytes ≡ true) → Fitting n bytes
      by (inl here) = second (or_cases (is_front_in n bytes messages || is_front_in n bytes answers) (is_front_in n bytes tables) here)
      by (inr there) = record { layout = layouts.change; has = change_has; is = there }

-- the place of a layout among others
in_place : (n : ℕ) (bytes : List ℕ) (all : List (List Part)) (place : ℕ) (layout : List Part) → slice_get all place ≡ Some layout → is_front n layout bytes ≡ true → is_front_in n bytes all ≡ true
in_place n bytes [] place layout at is = absurd cc
in_place n bytes (x ∷ others) zero layout at is =
    let e : x ≡ layout = cc in
    or_left (is_front n x bytes) (is_front_in n bytes others) (ap (λ (l : List Part). is_front n l bytes) e ∙ is)
in_place n bytes (x ∷ others) (suc place) layout at is = or_right (is_front n x bytes) (is_front_in n bytes others) (in_place n bytes others place layout at is)

module _ (n : ℕ) (bytes : List ℕ) where
  abbrev m : Bool
  m = is_front_in n bytes messages

  abbrev a : Bool
  a = is_front_in n bytes answers

  abbrev t : Bool
  t = is_front_in n bytes tables

  abbrev c : Bool
  c = is_front n layouts.change bytes

  in_messages : m ≡ true → is_front_of_any n bytes ≡ true
  in_messages is = or_left (m || a || t) c (or_left (m || a) t (or_left m a is))

  in_answers : a ≡ true → is_front_of_any n bytes ≡ true
  in_answers is = or_left (m || a || t) c (or_left (m || a) t (or_right m a is))

  in_tables : t ≡ true → is_front_of_any n bytes ≡ true
  in_tables is = or_left (m || a || t) c (or_right (m || a) t is)

  in_change : c ≡ true → is_front_of_any n bytes ≡ true
  in_change is = or_right (m || a || t) c is

-- a front of the content of a record is one of a layout
front_at : (bytes missing : List ℕ) (layout : List Part) (whole : List ℕ) → whole ≡ bytes ++ missing → is_text layout whole ≡ true → is_front (length missing) layout bytes ≡ true
front_at bytes missing layout whole same is = is_front_of layout bytes missing (ap (is_text layout) (sym same) ∙ is)

pub content_front : (r : Record) (bytes missing : List ℕ) → AreInRange r → record_content r ≡ bytes ++ missing → is_front_of_any (length missing) bytes ≡ true
content_front (Input unit id origin code number conversation segments) bytes missing h same =
    in_messages (length missing) bytes (in_place (length missing) bytes messages 0 layouts.input refl (front_at bytes missing layouts.input (record_content (Input unit id origin code number conversation segments)) same
    (text_from layouts.input input_spelled input_fit input_lays (unit, (id, (origin, (code, (number, (conversation, segments)))))) h)))
content_front (Command words) bytes missing h same =
    in_messages (length missing) bytes (in_place (length missing) bytes messages 1 layouts.command refl (front_at bytes missing layouts.command (record_content (Command words)) same
    (text_from layouts.command command_spelled command_fit command_lays words h)))
content_front (Reply unit terminal number segments) bytes missing h same =
    in_messages (length missing) bytes (in_place (length missing) bytes messages 2 layouts.reply refl (front_at bytes missing layouts.reply (record_content (Reply unit terminal number segments)) same
    (text_from layouts.reply reply_spelled reply_fit reply_lays (unit, (terminal, (number, segments))) h)))
content_front (Discarded unit id abend number) bytes missing h same =
    in_messages (length missing) bytes (in_place (length missing) bytes messages 3 layouts.discarded refl (front_at bytes missing layouts.discarded (record_content (Discarded unit id abend number)) same
    (text_from layouts.discarded discarded_spelled discarded_fit discarded_lays (unit, (id, (abend.number, number))) h)))
content_front (Completed unit id) bytes missing h same =
    in_answers (length missing) bytes (in_place (length missing) bytes answers 0 layouts.completed refl (front_at bytes missing layouts.completed (record_content (Completed unit id)) same
    (text_from layouts.completed completed_spelled completed_fit completed_lays (unit, id) h)))
content_front (Acknowledged terminal number) bytes missing h same =
    in_answers (length missing) bytes (in_place (length missing) bytes answers 1 layouts.acknowledged_layout refl (front_at bytes missing layouts.acknowledged_layout (record_content (Acknowledged terminal number)) same
    (text_from layouts.acknowledged_layout acknowledged_spelled acknowledged_fit acknowledged_lays (terminal, number) h)))
content_front (SyncPoint unit Stays) bytes missing h same =
    in_answers (length missing) bytes (in_place (length missing) bytes answers 2 layouts.pad_stays refl (front_at bytes missing layouts.pad_stays (record_content (SyncPoint unit Stays)) same
    (text_from layouts.pad_stays pad_stays_spelled pad_stays_fit pad_stays_lays (unit, []) (h.0, omega arith))))
content_front (SyncPoint unit (New pad)) bytes missing h same =
    in_answers (length missing) bytes (in_place (length missing) bytes answers 3 layouts.pad_new refl (front_at bytes missing layouts.pad_new (record_content (SyncPoint unit (New pad))) same
    (text_from layouts.pad_new pad_new_spelled pad_new_fit pad_new_lays (unit, pad) (h.0, omega (arith, h.1)))))
content_front (SyncPoint unit Ends) bytes missing h same =
    in_answers (length missing) bytes (in_place (length missing) bytes answers 4 layouts.pad_ends refl (front_at bytes missing layouts.pad_ends (record_content (SyncPoint unit Ends)) same
    (text_from layouts.pad_ends pad_ends_spelled pad_ends_fit pad_ends_lays (unit, []) (h.0, omega arith))))
content_front (Checkpoint checkpoint next_id next_unit steps) bytes missing h same =
    in_tables (length missing) bytes (in_place (length missing) bytes tables 0 layouts.checkpoint refl (front_at bytes missing layouts.checkpoint (record_content (Checkpoint checkpoint next_id next_unit steps)) same
    (text_from layouts.checkpoint checkpoint_spelled checkpoint_fit checkpoint_lays (checkpoint, (next_id, (next_unit, steps))) h)))
content_front (Terminal terminal last next stopped None) bytes missing h same =
    in_tables (length missing) bytes (in_place (length missing) bytes tables 1 layouts.idle_terminal refl (front_at bytes missing layouts.idle_terminal (record_content (Terminal terminal last next stopped None)) same
    (text_from layouts.idle_terminal idle_terminal_spelled idle_terminal_fit idle_terminal_lays (terminal, (last, (next, (stopped, [])))) (h.0, (h.1.0, (h.1.1.0, (tt, omega arith)))))))
content_front (Terminal terminal last next stopped (Some c)) bytes missing h same =
    in_tables (length missing) bytes (in_place (length missing) bytes tables 2 layouts.conversing_terminal refl (front_at bytes missing layouts.conversing_terminal (record_content (Terminal terminal last next stopped (Some c))) same
    (text_from layouts.conversing_terminal conversing_terminal_spelled conversing_terminal_fit conversing_terminal_lays (terminal, (last, (next, (stopped, (c.code, c.pad))))) (h.0, (h.1.0, (h.1.1.0, (tt, (h.1.1.1.1.0, omega (arith, h.1.1.1.1.1)))))))))
content_front (Code code stopped class priority) bytes missing h same =
    in_tables (length missing) bytes (in_place (length missing) bytes tables 3 layouts.code refl (front_at bytes missing layouts.code (record_content (Code code stopped class priority)) same
    (text_from layouts.code code_spelled code_fit code_lays (code, (stopped, (class, priority))) h)))
content_front (Change unit database slot before after) bytes missing h same =
    in_change (length missing) bytes (front_at bytes missing layouts.change (record_content (Change unit database slot before after)) same
    (text_from layouts.change change_spelled change_fit change_lays (unit, (database, (slot, (before, after)))) h))

-- ---- with the length in front

-- the same front, and the same rest
cons_is : (x h : ℕ) (xs hs : List ℕ) → x ∷ xs ≡ h ∷ hs → (x ≡ h) × (xs ≡ hs)
cons_is x h xs hs e = (cc, cc)

cut_from : (high low : ℕ) (tail : List ℕ) (size : ℕ) (r : Record) (missing : List ℕ) → high < 256 → low < 256 → size ≡ 256 * high + low → 0 < length missing → size ≡ 2 + length tail + length missing → AreInRange r → record_content r ≡ tail ++ missing → IsRecordCutOff (high ∷ low ∷ tail)
cut_from high low tail size r missing h l named some whole fits same =
    let long : record_length r ≡ 256 * high + low = omega (arith, ap (length {A = ℕ}) same, length-append tail missing, whole, named) in
    record {
      whole = r;
      is_record = record { fields = fits; short = omega (arith, long, h, l) };
      missing = missing;
      some = some;
      begins = ap (λ n. number2 n ++ record_content r) long ∙ ap (λ (t : List ℕ). t ++ record_content r) (two_is high low h l) ∙ ap (λ (t : List ℕ). high ∷ low ∷ t) same;
    }

pub cut_where : (high low : ℕ) (tail : List ℕ) (size : ℕ) → IsBytes (high ∷ low ∷ tail) → size ≡ 256 * high + low → 2 + length tail < size → is_front_of_any (size - (2 + length tail)) tail ≡ true → IsRecordCutOff (high ∷ low ∷ tail)
cut_where high low tail size are named more is = by (fitting n tail is) where
  n : ℕ
  n = size - (2 + length tail)

  made : (f : Fitting n tail) (m : Missing f.layout tail n) → IsBytes (tail ++ m.missing) → IsRecordCutOff (high ∷ low ∷ tail)
  made f m bytes =
      let c = f.has.each (tail ++ m.missing) bytes m.is in
      cut_from high low tail size c.whole m.missing (are 0) (are 1) named (omega (arith, m.size, more)) (omega (arith, m.size, more)) c.fits c.is

  by : Fitting n tail → IsRecordCutOff (high ∷ low ∷ tail)
  by f =
      let m = front_of n f.layout tail f.has.valid f.is in
      made f m (bytes_both tail m.missing (IsBytes-rest low tail (IsBytes-rest high (low ∷ tail) are)) m.are_bytes)

fronts_same : (high low : ℕ) (tail missing : List ℕ) (r : Record) (b : TwoBytes (record_length r)) → record_spelling r ≡ high ∷ low ∷ (tail ++ missing) → (b.high ≡ high) × (b.low ≡ low) × (record_content r ≡ tail ++ missing)
fronts_same high low tail missing r b same =
    let whole : b.high ∷ b.low ∷ record_content r ≡ high ∷ low ∷ (tail ++ missing) = ap (λ (t : List ℕ). t ++ record_content r) (sym b.is) ∙ same in
    let first = cons_is b.high high (b.low ∷ record_content r) (low ∷ (tail ++ missing)) whole in
    let second = cons_is b.low low (record_content r) (tail ++ missing) first.1 in
    (first.0, second.0, second.1)

pub where_cut : (high low : ℕ) (tail : List ℕ) (size : ℕ) → size ≡ 256 * high + low → IsRecordCutOff (high ∷ low ∷ tail) → (2 + length tail < size) × (is_front_of_any (size - (2 + length tail)) tail ≡ true)
where_cut high low tail size named c =
    let b = two_bytes (record_length c.whole) c.is_record.short in
    let same = fronts_same high low tail c.missing c.whole b c.begins in
    let long : size ≡ 2 + length tail + length c.missing = omega (arith, named, same.0, same.1, b.sum, ap (length {A = ℕ}) same.2, length-append tail c.missing) in
    let n : length c.missing ≡ size - (2 + length tail) = omega (arith, long) in
    (omega (arith, long, c.some), ap (λ k. is_front_of_any k tail) (sym n) ∙ content_front c.whole tail c.missing c.is_record.fields same.2)

-- ---- fewer than two bytes

-- a new pad, so long that the record has 14 bytes more than so many times 256
abbrev pad_record : ℕ → Record
pad_record high = SyncPoint 0 (New (replicate (256 * high) 32))

pad_length : (high : ℕ) → record_length (pad_record high) ≡ 256 * high + 14
pad_length high =
    let pad : List ℕ = replicate (256 * high) 32 in
    let size : length pad ≡ 256 * high = length-replicate {A = ℕ} (256 * high) 32 in
    omega (arith, size, eight 0 (1 ∷ text pad), text_length pad)

pad_is_record : (high : ℕ) → high < 256 → IsLogRecord (pad_record high)
pad_is_record high lt =
    let size : length (replicate (256 * high) 32) ≡ 256 * high = length-replicate {A = ℕ} (256 * high) 32 in
    is_record (pad_record high) (omega arith, omega (arith, size, lt)) (omega (arith, pad_length high, lt))

pad_spelled : (high : ℕ) → high < 256 → record_spelling (pad_record high) ≡ high ∷ 14 ∷ record_content (pad_record high)
pad_spelled high lt = ap (λ n. number2 n ++ record_content (pad_record high)) (pad_length high) ∙ ap (λ (t : List ℕ). t ++ record_content (pad_record high)) (two_is high 14 lt (omega arith))

pub none_cut : IsRecordCutOff []
none_cut = record { whole = pad_record 0; is_record = pad_is_record 0 (omega arith); missing = record_spelling (pad_record 0); some = omega (arith, ap (length {A = ℕ}) (pad_spelled 0 (omega arith))); begins = refl }

pub one_cut : (high : ℕ) → high < 256 → IsRecordCutOff (high ∷ [])
one_cut high lt = record { whole = pad_record high; is_record = pad_is_record high lt; missing = 14 ∷ record_content (pad_record high); some = omega arith; begins = pad_spelled high lt }

pub short_cut : (rest : List ℕ) → IsBytes rest → length rest < 2 → IsRecordCutOff rest
short_cut [] are short = none_cut
short_cut (b ∷ []) are short = one_cut b (are 0)
short_cut (b ∷ c ∷ rest) are short = absurd (omega (arith, short))

-- what is decided behind the length
pub decided : (high low : ℕ) (tail : List ℕ) (size : ℕ) → IsBytes tail → high < 256 → low < 256 → size ≡ 256 * high + low → 2 + length tail < size → (b : Bool) → b ≡ is_front_of_any (size - (2 + length tail)) tail → Decides b (IsRecordCutOff (high ∷ low ∷ tail))
decided high low tail size are h l named more b is =
    (λ e. cut_where high low tail size (bytes_cons high (low ∷ tail) h (bytes_cons low tail l are)) named more (sym is ∙ e), λ c. is ∙ (where_cut high low tail size named c).1)

pub decided_not : (high low : ℕ) (tail : List ℕ) (size : ℕ) → size ≡ 256 * high + low → size ≤ 2 + length tail → Decides false (IsRecordCutOff (high ∷ low ∷ tail))
decided_not high low tail size named few = (λ e. absurd cc, λ c. let w = where_cut high low tail size named c in absurd (omega (arith, w.0, few)))
