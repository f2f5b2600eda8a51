-- The first snapshot's records, and how long it is.
use Rattle.std.proofs.Common.{◌≡◌, ℕ, zero, suc, ◌+◌, ◌*◌, ◌<◌, ◌≤◌, false, List, [], ◌∷◌, ◌++◌, length, map, refl, sym, ◌∙◌, ap, subst, arith, None}
use Rattle.std.specs.List.{flat_map, AllByRecursion}
use Rattle.std.proofs.lemmas.List.{length-append, append-nil}
use Rattle.std.proofs.lemmas.List.Concat.{flat_map-cons}
use Rattle.std.proofs.lemmas.Option.{none-some, same_Some}
use Rattle.model_messages.specs.declared.conversation.TerminalConversation.{TerminalConversation}
use Rattle.model_messages.specs.Terminals.{without_conversation}
use Rattle.model_messages.specs.declared.replies.TerminalReplies.{TerminalReplies}
use Rattle.model_machine.specs.declared.lasting.TerminalState.{TerminalState}
use Rattle.model_messages.specs.Outputs.{fresh_terminal}
use Rattle.model_system.specs.declared.code.Code.{Code}
use Rattle.model_system.specs.declared.code_state.CodeState.{CodeState}
use Rattle.model_system.specs.System.{System}
use Rattle.model_machine.specs.Machine.{fresh_terminal_state, first_setting, setting_of}
use Rattle.system_types.specs.Codes.{first_state}
use Rattle.system_types.specs.ValidSystem.{IsSystem}
use Rattle.log_records.specs.declared.record.Record.{Record}
use Rattle.log_records.specs.declared.record.Record.TheVariants.{Checkpoint, Terminal}
use Rattle.log_records.specs.RecordSpelling.{record_spelling, record_length, record_content, number2, HasRoomForPad, IsLogRecord}
use Rattle.log_records.proofs.FieldLaws.{number2_length, number8_length}
use Rattle.log_records.proofs.Lengths.{eight, text_length}
use Rattle.checkpointing.specs.SnapshotRecords.{terminal_records, code_record, reply_records}
use Rattle.checkpointing.specs.SpelledRecords.{AddsSpelled, HaveRoom}
use Rattle.openings.specs.FirstImage.{first_records}

-- ---- the records

settings_first : (codes : List Code) → map setting_of (map first_state codes) ≡ map first_setting codes
settings_first [] = refl
settings_first (code ∷ codes) = ap (λ (l : List _). first_setting code ∷ l) (settings_first codes)

pub no_pads : (names : List (List ℕ)) → HaveRoom (map without_conversation names)
no_pads [] place t found = absurd (none-some t found)
no_pads (n ∷ names) zero t found = subst (λ (c : TerminalConversation). HasRoomForPad c.conversation) (same_Some (without_conversation n) t found) tt
no_pads (n ∷ names) (suc place) t found = no_pads names place t found

none_replied : (names : List (List ℕ)) → reply_records (map fresh_terminal names) ++ [] ≡ []
none_replied [] = refl
none_replied (n ∷ names) = none_replied names

-- the records that are written of the lists of the empty machine
pub spelled_first : (system : System) (ts : List TerminalState) (os : List TerminalReplies) (cs : List TerminalConversation) (states : List CodeState) (bytes : List ℕ)
    → ts ≡ map fresh_terminal_state system.terminals → os ≡ map fresh_terminal system.terminals → cs ≡ map without_conversation system.terminals → states ≡ map first_state system.codes
    → AddsSpelled (Checkpoint 1 1 1 0 ∷ (terminal_records ts os cs ++ map code_record (map setting_of states))) [] bytes → AddsSpelled (first_records system) [] bytes
spelled_first system ts os cs states bytes t o c are adds =
    let settings : map setting_of states ≡ map first_setting system.codes = ap (map setting_of) are ∙ settings_first system.codes in
    let codes : map code_record (map setting_of states) ≡ map code_record (map first_setting system.codes) ++ (reply_records (map fresh_terminal system.terminals) ++ []) =
    ap (map code_record) settings ∙ sym (append-nil (map code_record (map first_setting system.codes))) ∙ ap (λ (l : List Record). map code_record (map first_setting system.codes) ++ l) (sym (none_replied system.terminals)) in
    let terminals : terminal_records ts os cs ≡ terminal_records (map fresh_terminal_state system.terminals) (map fresh_terminal system.terminals) (map without_conversation system.terminals) =
    ap (λ (l : List TerminalState). terminal_records l os cs) t ∙ ap (λ (l : List TerminalReplies). terminal_records (map fresh_terminal_state system.terminals) l cs) o ∙ ap (λ (l : List TerminalConversation). terminal_records (map fresh_terminal_state system.terminals) (map fresh_terminal system.terminals) l) c in
    subst (λ (rs : List Record). AddsSpelled rs [] bytes)
    (ap (λ (l : List Record). Checkpoint 1 1 1 0 ∷ (l ++ map code_record (map setting_of states))) terminals
    ∙ ap (λ (l : List Record). Checkpoint 1 1 1 0 ∷ (terminal_records (map fresh_terminal_state system.terminals) (map fresh_terminal system.terminals) (map without_conversation system.terminals) ++ l)) codes) adds

-- ---- how long it is

spelled_length : (r : Record) → length (record_spelling r) ≡ 2 + length (record_content r)
spelled_length r = length-append (number2 (record_length r)) (record_content r) ∙ ap (λ (k : ℕ). k + length (record_content r)) (number2_length (record_length r))

more_length : (r : Record) (rs : List Record) → length (flat_map record_spelling (r ∷ rs)) ≡ 2 + length (record_content r) + length (flat_map record_spelling rs)
more_length r rs = ap length (flat_map-cons record_spelling r rs) ∙ length-append (record_spelling r) (flat_map record_spelling rs) ∙ ap (λ (k : ℕ). k + length (flat_map record_spelling rs)) (spelled_length r)

terminal_length : (n : List ℕ) → length n ≤ 8 → length (record_content (Terminal n 0 1 false None)) ≤ 31
terminal_length n short = simp (eight, text_length, length-append {A = ℕ}) (omega arith)

code_length : (code : Code) → length code.transaction.code ≤ 8 → length (record_content (code_record (first_setting code))) ≤ 14
code_length code short = simp (length-append {A = ℕ}) (omega arith)

counts_length : length (record_content (Checkpoint 1 1 1 0)) ≤ 34
counts_length = simp (eight, number8_length) (omega arith)

-- records, of which so many bytes stand before the last ones
record Before (bound : ℕ) (all more : List Record) : Type 0 where
  valid : AllByRecursion IsLogRecord more
  short : length (flat_map record_spelling all) ≤ bound + length (flat_map record_spelling more)

terminals_before : (names : List (List ℕ)) (more : List Record) → AllByRecursion IsLogRecord (terminal_records (map fresh_terminal_state names) (map fresh_terminal names) (map without_conversation names) ++ more)
    → Before (33 * length names) (terminal_records (map fresh_terminal_state names) (map fresh_terminal names) (map without_conversation names) ++ more) more
terminals_before [] more valid = record { valid = valid; short = omega arith }
terminals_before (n ∷ names) more valid =
    let rest = terminals_before names more valid.1 in
    let all : List Record = terminal_records (map fresh_terminal_state names) (map fresh_terminal names) (map without_conversation names) ++ more in
    record {
      valid = rest.valid;
      short = omega (arith, rest.short, more_length (Terminal n 0 1 false None) all, terminal_length n valid.0.fields.0.1);
    }

codes_before : (codes : List Code) (more : List Record) → AllByRecursion IsLogRecord (map code_record (map first_setting codes) ++ more) → Before (16 * length codes) (map code_record (map first_setting codes) ++ more) more
codes_before [] more valid = record { valid = valid; short = omega arith }
codes_before (code ∷ codes) more valid =
    let rest = codes_before codes more valid.1 in
    let all : List Record = map code_record (map first_setting codes) ++ more in
    record {
      valid = rest.valid;
      short = omega (arith, rest.short, more_length (code_record (first_setting code)) all, code_length code valid.0.fields.0.1);
    }

pub short_first : (system : System) (bytes : List ℕ) → IsSystem system → AddsSpelled (first_records system) [] bytes → length bytes ≤ 8192
short_first system bytes valid adds =
    let replies : List Record = (reply_records (map fresh_terminal system.terminals) ++ []) in
    let settings : List Record = map code_record (map first_setting system.codes) ++ replies in
    let states : List Record = terminal_records (map fresh_terminal_state system.terminals) (map fresh_terminal system.terminals) (map without_conversation system.terminals) ++ settings in
    let one = terminals_before system.terminals settings adds.valid.1 in
    let two = codes_before system.codes replies one.valid in
    let none : length (flat_map record_spelling replies) ≡ 0 = ap (λ (rs : List Record). length (flat_map record_spelling rs)) (none_replied system.terminals) in
    omega (arith, valid.few_terminals, valid.few_codes, ap (length {A = ℕ}) adds.bytes, more_length (Checkpoint 1 1 1 0) states, counts_length, one.short, two.short, none)

pub some_first : (system : System) (bytes : List ℕ) → AddsSpelled (first_records system) [] bytes → 0 < length bytes
some_first system bytes adds =
    let states : List Record = terminal_records (map fresh_terminal_state system.terminals) (map fresh_terminal system.terminals) (map without_conversation system.terminals) ++ (map code_record (map first_setting system.codes) ++ (reply_records (map fresh_terminal system.terminals) ++ [])) in
    omega (arith, ap (length {A = ℕ}) adds.bytes, more_length (Checkpoint 1 1 1 0) states)
