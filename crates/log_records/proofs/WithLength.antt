-- A record that is appended, with its length put in front.
use Rattle.std.proofs.Common.{◌≡◌, ℕ, ◌-◌, ◌<◌, ◌≤◌, ◌^◌, Bool, List, [], ◌∷◌, ◌++◌, length, ap, sym, subst, arith, Some, None, Result, Ok, Err}
use Rattle.std.specs.Result.{OnOk}
use Rattle.std.specs.Prelude.{Option}
use Rattle.model_messages.specs.declared.conversation.Conversation.{Conversation}
use Rattle.std.proofs.lemmas.List.{length-append}
use Rattle.log_records.specs.declared.record.Record.{Record}
use Rattle.log_records.specs.declared.record.Record.TheVariants.{SyncPoint, Terminal}
use Rattle.model_messages.specs.declared.conversation.PadChange.TheVariants.{Stays, New, Ends}
use Rattle.log_records.specs.RecordSpelling.{record_content, IsShort, IsShortPad, AreInRange, HasRoomForPad, IsLogRecord}
use Rattle.log_records.proofs.Lengths.{eight, one, text_length}

-- the length is a number of two bytes
pub is_short_from : (base before out : List ℕ) (r : Record) (start : ℕ) → before ≡ base ++ 0 ∷ 0 ∷ [] → out ≡ before ++ record_content r → start ≡ length base → IsLogRecord r → length out - start < 2 ^ 16
is_short_from base before out r start room is from is_record =
    omega (arith, is_record.short, from, ap (length {A = ℕ}) is, ap (length {A = ℕ}) room, length-append before (record_content r), length-append base (0 ∷ 0 ∷ []))

pub short_from : {T E : Type 0} (written : Result T E) (base before out : List ℕ) (r : Record) (start : ℕ) → before ≡ base ++ 0 ∷ 0 ∷ [] → start ≡ length base → OnOk written (out ≡ before ++ record_content r) → OnOk written (IsLogRecord r) → OnOk written (length out - start < 2 ^ 16)
short_from (Ok x) base before out r start room from is is_record = is_short_from base before out r start room is from is_record
short_from (Err e) base before out r start room from is is_record = tt

pub on_same : {T E : Type 0} (P : Type 0) (result written : Result T E) → result ≡ written → OnOk written P → OnOk result P
on_same {T} {E} P result written same p = subst (λ (r : Result T E). OnOk r P) (sym same) p

-- a sync point is short where its pad is
pub stays_short : (unit : ℕ) → IsShort (SyncPoint unit Stays)
stays_short unit = simp (eight, text_length) (omega arith)

pub ends_short : (unit : ℕ) → IsShort (SyncPoint unit Ends)
ends_short unit = simp (eight, text_length) (omega arith)

pub new_short : (unit : ℕ) (pad : List ℕ) → length pad ≤ 65521 → IsShort (SyncPoint unit (New pad))
new_short unit pad fits = simp (eight, text_length) (omega arith)

-- a terminal's record is short where its pad is
pub terminal_short : (terminal : List ℕ) (last next : ℕ) (stopped : Bool) (conversation : Option Conversation) → AreInRange (Terminal terminal last next stopped conversation) → HasRoomForPad conversation → IsShort (Terminal terminal last next stopped conversation)
terminal_short terminal last next stopped None h room =
    let most = h.0.1 in
    simp (eight, one, text_length, length-append {A = ℕ}) (omega arith)
terminal_short terminal last next stopped (Some c) h room =
    let most = h.0.1 in
    let code = h.1.1.1.1.0.1 in
    simp (eight, one, text_length, length-append {A = ℕ}) (omega arith)

pub short_pad : (conversation : Option Conversation) → HasRoomForPad conversation → IsShortPad conversation
short_pad None room = tt
short_pad (Some c) room = omega (arith, room)
