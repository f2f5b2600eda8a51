-- How many bytes the records of a snapshot have, section by section.
use Rattle.std.proofs.Common.{◌≡◌, ℕ, ◌+◌, ◌*◌, ◌≤◌, List, [], ◌∷◌, ◌++◌, length, map, ◌∙◌, ap, arith, Some, None}
use Rattle.std.specs.Prelude.{Option, sum_by}
use Rattle.std.specs.List.{flat_map, AllByRecursion}
use Rattle.std.proofs.lemmas.List.{length-append}
use Rattle.std.proofs.lemmas.List.Sums.{sum_by-cons}
use Rattle.std.proofs.lemmas.List.Concat.{flat_map-cons, flat_map-append}
use Rattle.tm_types.specs.Segment.{segment_length, counted_bytes}
use Rattle.tm_types.specs.declared.message.Message.{Message}
use Rattle.tm_types.specs.declared.message.Reply.{Reply}
use Rattle.model_messages.specs.declared.conversation.Conversation.{Conversation}
use Rattle.model_messages.specs.declared.conversation.TerminalConversation.{TerminalConversation}
use Rattle.model_messages.specs.declared.replies.TerminalReplies.{TerminalReplies}
use Rattle.model_messages.specs.Room.{message_bytes, messages_bytes, reply_bytes, replies_bytes}
use Rattle.model_messages.specs.Outputs.{outputs_bytes}
use Rattle.model_machine.specs.declared.lasting.TerminalState.{TerminalState}
use Rattle.model_machine.specs.declared.lasting.CodeSetting.{CodeSetting}
use Rattle.log_records.specs.declared.record.Record.{Record}
use Rattle.log_records.specs.declared.record.Record.TheVariants.{Checkpoint, Terminal, Change}
use Rattle.log_records.specs.RecordSpelling.{number2, record_spelling, record_content, text, conversation_field, record_length, IsConversationSpelled, IsLogRecord}
use Rattle.log_records.proofs.FieldLaws.{number2_length, number8_length}
use Rattle.log_records.proofs.Lengths.{eight, one, text_length}
use Rattle.checkpointing.specs.SnapshotRecords.{terminal_records, code_record, message_record, reply_record, reply_records}

-- ---- bytes of records

abbrev pub size : List Record → ℕ
size records = length (flat_map record_spelling records)

pub size_both : (some more : List Record) → size (some ++ more) ≡ size some + size more
size_both some more = ap length (flat_map-append record_spelling some more) ∙ length-append (flat_map record_spelling some) (flat_map record_spelling more)

pub size_more : (r : Record) (records : List Record) → size (r ∷ records) ≡ record_length r + size records
size_more r records =
    ap length (flat_map-cons record_spelling r records)
    ∙ length-append (record_spelling r) (flat_map record_spelling records)
    ∙ ap (λ (k : ℕ). k + size records) (length-append (number2 (record_length r)) (record_content r) ∙ ap (λ (k : ℕ). k + length (record_content r)) (number2_length (record_length r)))

-- ---- valid records, one after another

pub front_valid : (some more : List Record) → AllByRecursion IsLogRecord (some ++ more) → AllByRecursion IsLogRecord some
front_valid [] more are = tt
front_valid (r ∷ some) more are = (are.0, front_valid some more are.1)

pub back_valid : (some more : List Record) → AllByRecursion IsLogRecord (some ++ more) → AllByRecursion IsLogRecord more
back_valid [] more are = are
back_valid (r ∷ some) more are = back_valid some more are.1

-- ---- fields

two_bytes : (n : ℕ) (t : List ℕ) → length (number2 n ++ t) ≡ 2 + length t
two_bytes n t = length-append (number2 n) t ∙ ap (λ (k : ℕ). k + length t) (number2_length n)

texts_size : (ts : List (List ℕ)) → length (flat_map text ts) ≤ sum_by segment_length ts
texts_size [] = omega arith
texts_size (t ∷ ts) =
    let whole : length (flat_map text (t ∷ ts)) ≡ length (text t) + length (flat_map text ts) = ap length (flat_map-cons text t ts) ∙ length-append (text t) (flat_map text ts) in
    omega (arith, whole, text_length t, texts_size ts, sum_by-cons segment_length t ts)

-- ---- records

pub counts_size : (checkpoint next unit steps : ℕ) → record_length (Checkpoint checkpoint next unit steps) ≤ 36
counts_size checkpoint next unit steps = simp (eight, number8_length) (omega arith)

-- a pad of a code has at most 994 bytes
abbrev pub IsShortPad : Option Conversation → Type 0
IsShortPad None = Unit {0}
IsShortPad (Some c) = length c.pad ≤ 994

conversation_size : (c : Option Conversation) → IsConversationSpelled c → IsShortPad c → length (conversation_field c) ≤ 1006
conversation_size None is short = let none = text_length [] in omega arith
conversation_size (Some c) is short =
    let code = is.0.1 in
    simp (two_bytes, length-append {A = ℕ}) (omega arith)

terminal_size : (t : TerminalState) (next : ℕ) (c : Option Conversation) → IsLogRecord (Terminal t.name t.last next t.stopped c) → IsShortPad c → record_length (Terminal t.name t.last next t.stopped c) ≤ 1036
terminal_size t next c is short =
    let last = conversation_size c is.fields.1.1.1.1 short in
    let name = is.fields.0.1 in
    simp (eight, one, length-append {A = ℕ}) (omega arith)

pub terminals_size : (ts : List TerminalState) (os : List TerminalReplies) (cs : List TerminalConversation) → AllByRecursion IsLogRecord (terminal_records ts os cs) → AllByRecursion (λ c. IsShortPad c.conversation) cs
    → size (terminal_records ts os cs) ≤ 1036 * length ts
terminals_size [] os cs valid short = omega arith
terminals_size (t ∷ ts) [] cs valid short = omega arith
terminals_size (t ∷ ts) (o ∷ os) [] valid short = omega arith
terminals_size (t ∷ ts) (o ∷ os) (c ∷ cs) valid short =
    omega (arith, size_more (Terminal t.name t.last o.next t.stopped c.conversation) (terminal_records ts os cs), terminal_size t o.next c.conversation valid.0 short.0, terminals_size ts os cs valid.1 short.1)

code_size : (c : CodeSetting) → IsLogRecord (code_record c) → record_length (code_record c) ≤ 16
code_size c is = let name = is.fields.0.1 in simp (one, length-append {A = ℕ}) (omega arith)

pub codes_size : (cs : List CodeSetting) → AllByRecursion IsLogRecord (map code_record cs) → size (map code_record cs) ≤ 16 * length cs
codes_size [] valid = omega arith
codes_size (c ∷ cs) valid = omega (arith, size_more (code_record c) (map code_record cs), code_size c valid.0, codes_size cs valid.1)

message_size : (m : Message) → IsLogRecord (message_record m) → record_length (message_record m) ≤ message_bytes m
message_size m is =
    let origin = is.fields.1.1.0.1 in
    let code = is.fields.1.1.1.0.1 in
    let texts = texts_size m.segments in
    simp (eight, one, length-append {A = ℕ}) (omega arith)

pub messages_size : (ms : List Message) → AllByRecursion IsLogRecord (map message_record ms) → size (map message_record ms) ≤ messages_bytes ms
messages_size [] valid = omega arith
messages_size (m ∷ ms) valid = omega (arith, size_more (message_record m) (map message_record ms), message_size m valid.0, messages_size ms valid.1, sum_by-cons message_bytes m ms)

reply_size : (name : List ℕ) (r : Reply) → IsLogRecord (reply_record name r) → record_length (reply_record name r) ≤ counted_bytes r.segments
reply_size name r is =
    let terminal = is.fields.1.0.1 in
    let texts = texts_size r.segments in
    simp (eight, length-append {A = ℕ}) (omega arith)

replies_size_of : (name : List ℕ) (rs : List Reply) → AllByRecursion IsLogRecord (map (reply_record name) rs) → size (map (reply_record name) rs) ≤ replies_bytes rs
replies_size_of name [] valid = omega arith
replies_size_of name (r ∷ rs) valid = omega (arith, size_more (reply_record name r) (map (reply_record name) rs), reply_size name r valid.0, replies_size_of name rs valid.1, sum_by-cons reply_bytes r rs)

pub replies_size : (os : List TerminalReplies) → AllByRecursion IsLogRecord (reply_records os) → size (reply_records os) ≤ outputs_bytes os
replies_size [] valid = omega arith
replies_size (o ∷ os) valid =
    let some : List Record = map (reply_record o.terminal) o.replies in
    omega (arith, size_both some (reply_records os), replies_size_of o.terminal o.replies (front_valid some (reply_records os) valid), replies_size os (back_valid some (reply_records os) valid), sum_by-cons (λ (t : TerminalReplies). replies_bytes t.replies) o os)

pub change_size : (unit database slot : ℕ) (before after : List ℕ) → record_length (Change unit database slot before after) ≡ 18 + length before + length after
change_size unit database slot before after = simp (eight, two_bytes, length-append {A = ℕ}) (omega arith)
