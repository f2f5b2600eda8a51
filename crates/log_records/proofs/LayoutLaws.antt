-- The fields of each record are read as they are spelled.
use Rattle.std.proofs.Common.{◌≡◌, ℕ, ◌<◌, ◌^◌, Bool, List, [], ◌∷◌, ◌++◌, Option, Ok, refl, arith}
use Rattle.log_records.specs.declared.record.Record.{Record}
use Rattle.log_records.specs.declared.record.Record.TheVariants.{Input, Command, Reply, Discarded, Completed, Acknowledged, SyncPoint, Checkpoint, Terminal, Code, Change}
use Rattle.model_messages.specs.declared.conversation.PadChange.{PadChange}
use Rattle.model_messages.specs.declared.conversation.Conversation.{Conversation}
use Rattle.log_records.specs.RecordSpelling.{record_content, AreInRange}
use Rattle.log_records.specs.RecordReader.{Reader, input_at, command_at, read_reply, discarded_at, completed_at, acknowledged_at, sync_point_at, checkpoint_at, read_terminal, read_code, read_change}
use Rattle.log_records.proofs.Takes.{IsBytes, Takes, Field, ◌and◌, made_takes, made_again}
use Rattle.log_records.proofs.FieldLaws.{byte_field, number2_field, number8_field, flag_field, abend_field, name_field, text_field, segs_field, pad_change_field, conversation_or_none_field}

pub small80 : 80 < 2 ^ 16
small80 = omega arith

pub small32000 : 32000 < 2 ^ 16
small32000 = omega arith

abbrev pub text_of_80 : Field (List ℕ)
text_of_80 = text_field 80 small80

abbrev pub text_of_32000 : Field (List ℕ)
text_of_32000 = text_field 32000 small32000

-- What is read behind this front is the content of a record whose fields are in range.
abbrev pub TakesContent : List ℕ → Reader Record → Type 0
TakesContent front read = (bytes : List ℕ) (x : Record × List ℕ) → IsBytes bytes → read bytes ≡ Ok x → Takes (front ++ bytes) (record_content x.0) x.1 × AreInRange x.0

abbrev pub input_values : Type 0
input_values = ℕ × (ℕ × (List ℕ × (List ℕ × (ℕ × (Bool × List (List ℕ))))))

abbrev pub input_of : input_values → Record
input_of v = Input v.0 v.1.0 v.1.1.0 v.1.1.1.0 v.1.1.1.1.0 v.1.1.1.1.1.0 v.1.1.1.1.1.1

abbrev pub input_fields : Field input_values
input_fields = number8_field and number8_field and name_field and name_field and number8_field and flag_field and segs_field

pub input_takes : TakesContent (0x01 ∷ []) input_at
unfolding input_at
input_takes = made_takes input_of input_fields (0x01 ∷ []) record_content AreInRange (λ v. refl) (λ v h. h)

pub input_again : (v : input_values) (rest : List ℕ) → input_fields.Fits v → input_at (input_fields.spell v ++ rest) ≡ Ok (input_of v, rest)
unfolding input_at
input_again = made_again input_of input_fields

abbrev pub command_values : Type 0
command_values = List ℕ

abbrev pub command_of : command_values → Record
command_of v = Command v

abbrev pub command_fields : Field command_values
command_fields = text_of_80

pub command_takes : TakesContent (0x02 ∷ []) command_at
unfolding command_at
command_takes = made_takes command_of command_fields (0x02 ∷ []) record_content AreInRange (λ v. refl) (λ v h. h)

pub command_again : (v : command_values) (rest : List ℕ) → command_fields.Fits v → command_at (command_fields.spell v ++ rest) ≡ Ok (command_of v, rest)
unfolding command_at
command_again = made_again command_of command_fields

abbrev pub reply_values : Type 0
reply_values = ℕ × (List ℕ × (ℕ × List (List ℕ)))

abbrev pub reply_of : reply_values → Record
reply_of v = Reply v.0 v.1.0 v.1.1.0 v.1.1.1

abbrev pub reply_fields : Field reply_values
reply_fields = number8_field and name_field and number8_field and segs_field

pub reply_takes : TakesContent (0x03 ∷ []) read_reply
unfolding read_reply
reply_takes = made_takes reply_of reply_fields (0x03 ∷ []) record_content AreInRange (λ v. refl) (λ v h. h)

pub reply_again : (v : reply_values) (rest : List ℕ) → reply_fields.Fits v → read_reply (reply_fields.spell v ++ rest) ≡ Ok (reply_of v, rest)
unfolding read_reply
reply_again = made_again reply_of reply_fields

abbrev pub discarded_values : Type 0
discarded_values = ℕ × (ℕ × (ℕ × ℕ))

abbrev pub discarded_of : discarded_values → Record
discarded_of v = Discarded v.0 v.1.0 (record { number = v.1.1.0 }) v.1.1.1

abbrev pub discarded_fields : Field discarded_values
discarded_fields = number8_field and number8_field and abend_field and number8_field

pub discarded_takes : TakesContent (0x07 ∷ []) discarded_at
unfolding discarded_at
discarded_takes = made_takes discarded_of discarded_fields (0x07 ∷ []) record_content AreInRange (λ v. refl) (λ v h. h)

pub discarded_again : (v : discarded_values) (rest : List ℕ) → discarded_fields.Fits v → discarded_at (discarded_fields.spell v ++ rest) ≡ Ok (discarded_of v, rest)
unfolding discarded_at
discarded_again = made_again discarded_of discarded_fields

abbrev pub completed_values : Type 0
completed_values = ℕ × ℕ

abbrev pub completed_of : completed_values → Record
completed_of v = Completed v.0 v.1

abbrev pub completed_fields : Field completed_values
completed_fields = number8_field and number8_field

pub completed_takes : TakesContent (0x36 ∷ 0 ∷ []) completed_at
unfolding completed_at
completed_takes = made_takes completed_of completed_fields (0x36 ∷ 0 ∷ []) record_content AreInRange (λ v. refl) (λ v h. h)

pub completed_again : (v : completed_values) (rest : List ℕ) → completed_fields.Fits v → completed_at (completed_fields.spell v ++ rest) ≡ Ok (completed_of v, rest)
unfolding completed_at
completed_again = made_again completed_of completed_fields

abbrev pub acknowledged_values : Type 0
acknowledged_values = List ℕ × ℕ

abbrev pub acknowledged_of : acknowledged_values → Record
acknowledged_of v = Acknowledged v.0 v.1

abbrev pub acknowledged_fields : Field acknowledged_values
acknowledged_fields = name_field and number8_field

pub acknowledged_takes : TakesContent (0x36 ∷ 1 ∷ []) acknowledged_at
unfolding acknowledged_at
acknowledged_takes = made_takes acknowledged_of acknowledged_fields (0x36 ∷ 1 ∷ []) record_content AreInRange (λ v. refl) (λ v h. h)

pub acknowledged_again : (v : acknowledged_values) (rest : List ℕ) → acknowledged_fields.Fits v → acknowledged_at (acknowledged_fields.spell v ++ rest) ≡ Ok (acknowledged_of v, rest)
unfolding acknowledged_at
acknowledged_again = made_again acknowledged_of acknowledged_fields

abbrev pub sync_point_values : Type 0
sync_point_values = ℕ × PadChange

abbrev pub sync_point_of : sync_point_values → Record
sync_point_of v = SyncPoint v.0 v.1

abbrev pub sync_point_fields : Field sync_point_values
sync_point_fields = number8_field and pad_change_field

pub sync_point_takes : TakesContent (0x37 ∷ []) sync_point_at
unfolding sync_point_at
sync_point_takes = made_takes sync_point_of sync_point_fields (0x37 ∷ []) record_content AreInRange (λ v. refl) (λ v h. h)

pub sync_point_again : (v : sync_point_values) (rest : List ℕ) → sync_point_fields.Fits v → sync_point_at (sync_point_fields.spell v ++ rest) ≡ Ok (sync_point_of v, rest)
unfolding sync_point_at
sync_point_again = made_again sync_point_of sync_point_fields

abbrev pub checkpoint_values : Type 0
checkpoint_values = ℕ × (ℕ × (ℕ × ℕ))

abbrev pub checkpoint_of : checkpoint_values → Record
checkpoint_of v = Checkpoint v.0 v.1.0 v.1.1.0 v.1.1.1

abbrev pub checkpoint_fields : Field checkpoint_values
checkpoint_fields = number8_field and number8_field and number8_field and number8_field

pub checkpoint_takes : TakesContent (0x40 ∷ 0 ∷ []) checkpoint_at
unfolding checkpoint_at
checkpoint_takes = made_takes checkpoint_of checkpoint_fields (0x40 ∷ 0 ∷ []) record_content AreInRange (λ v. refl) (λ v h. h)

pub checkpoint_again : (v : checkpoint_values) (rest : List ℕ) → checkpoint_fields.Fits v → checkpoint_at (checkpoint_fields.spell v ++ rest) ≡ Ok (checkpoint_of v, rest)
unfolding checkpoint_at
checkpoint_again = made_again checkpoint_of checkpoint_fields

abbrev pub terminal_values : Type 0
terminal_values = List ℕ × (ℕ × (ℕ × (Bool × Option Conversation)))

abbrev pub terminal_of : terminal_values → Record
terminal_of v = Terminal v.0 v.1.0 v.1.1.0 v.1.1.1.0 v.1.1.1.1

abbrev pub terminal_fields : Field terminal_values
terminal_fields = name_field and number8_field and number8_field and flag_field and conversation_or_none_field

pub terminal_takes : TakesContent (0x40 ∷ 1 ∷ []) read_terminal
unfolding read_terminal
terminal_takes = made_takes terminal_of terminal_fields (0x40 ∷ 1 ∷ []) record_content AreInRange (λ v. refl) (λ v h. h)

pub terminal_again : (v : terminal_values) (rest : List ℕ) → terminal_fields.Fits v → read_terminal (terminal_fields.spell v ++ rest) ≡ Ok (terminal_of v, rest)
unfolding read_terminal
terminal_again = made_again terminal_of terminal_fields

abbrev pub code_values : Type 0
code_values = List ℕ × (Bool × (ℕ × ℕ))

abbrev pub code_of : code_values → Record
code_of v = Code v.0 v.1.0 v.1.1.0 v.1.1.1

abbrev pub code_fields : Field code_values
code_fields = name_field and flag_field and byte_field and byte_field

pub code_takes : TakesContent (0x40 ∷ 2 ∷ []) read_code
unfolding read_code
code_takes = made_takes code_of code_fields (0x40 ∷ 2 ∷ []) record_content AreInRange (λ v. refl) (λ v h. h)

pub code_again : (v : code_values) (rest : List ℕ) → code_fields.Fits v → read_code (code_fields.spell v ++ rest) ≡ Ok (code_of v, rest)
unfolding read_code
code_again = made_again code_of code_fields

abbrev pub change_values : Type 0
change_values = ℕ × (ℕ × (ℕ × (List ℕ × List ℕ)))

abbrev pub change_of : change_values → Record
change_of v = Change v.0 v.1.0 v.1.1.0 v.1.1.1.0 v.1.1.1.1

abbrev pub change_fields : Field change_values
change_fields = number8_field and byte_field and number2_field and text_of_32000 and text_of_32000

pub change_takes : TakesContent (0x50 ∷ []) read_change
unfolding read_change
change_takes = made_takes change_of change_fields (0x50 ∷ []) record_content AreInRange (λ v. refl) (λ v h. h)

pub change_again : (v : change_values) (rest : List ℕ) → change_fields.Fits v → read_change (change_fields.spell v ++ rest) ≡ Ok (change_of v, rest)
unfolding read_change
change_again = made_again change_of change_fields
