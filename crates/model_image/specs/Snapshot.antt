-- The records of a snapshot: what they say together, and the rules on them.
use Rattle.std.specs.Prelude.{ℕ, Bool, true, false, not, ◌&&◌, ◌||◌, nat_lt, nat_le, ◌==◌, List, [], ◌∷◌, ◌++◌, length, map, filter_map, Option, Some, None, position}
use Rattle.std.specs.List.{list_all, list_any}
use Rattle.std.specs.Str.{bytes_eq}
use Rattle.tm_types.specs.declared.message.Message.{Message}
use Rattle.model_system.specs.System.{System}
use Rattle.model_system.specs.Lists.{change_at}
use Rattle.model_messages.specs.declared.replies.TerminalReplies.{TerminalReplies}
use Rattle.model_messages.specs.Outputs.{with_terminal}
use Rattle.model_machine.specs.LastingSteps.{with_conversing}
use Rattle.model_machine.specs.Machine.{LastingState, terminal_place, empty_state}
use Rattle.log_records.specs.declared.record.Record.{Record}
use Rattle.log_records.specs.declared.record.Record.TheVariants.{Input, Reply, Checkpoint, Terminal, Code, Change}
use Rattle.model_image.specs.States.{is_system_terminal, is_small, is_next, wrong_values, wrong_ids, unknown_messages, wrong_replies, over_full}
use Rattle.model_image.specs.Slots.{is_image_of}

-- ---- what a snapshot says

abbrev pub snapshot_message : ℕ → List ℕ → List ℕ → Bool → List (List ℕ) → Message
snapshot_message id origin code conversation segments = record { id = id; origin = origin; code = code; conversation = conversation; segments = segments }

abbrev pub with_kept : ℕ → List (List ℕ) → TerminalReplies → TerminalReplies
with_kept number segments t = record t { replies = t.replies ++ record { number = number; segments = segments } ∷ [] }

-- What a record of a snapshot says of the state: its counts; a terminal; a code; one message more; one reply more.
abbrev pub with_record_told : Record → LastingState → LastingState
with_record_told (Checkpoint checkpoint next_id next_unit steps) lasting = record lasting { next_id = next_id; steps = steps }
with_record_told (Terminal name last next stopped conversation) lasting = record lasting {
  terminals = change_at lasting.terminals (terminal_place lasting.terminals name) (λ t. record t { last = last; stopped = stopped });
  outputs = with_terminal name (λ t. record t { next = next }) lasting.outputs;
  conversations = with_conversing name conversation lasting.conversations;
}
with_record_told (Code name stopped class priority) lasting = record lasting {
  codes = change_at lasting.codes (position (λ code. bytes_eq code.code name) lasting.codes) (λ c. record c { stopped = stopped; class = class; priority = priority });
}
with_record_told (Input unit id origin code number conversation segments) lasting = record lasting {
  messages = lasting.messages ++ snapshot_message id origin code conversation segments ∷ [];
}
with_record_told (Reply unit terminal number segments) lasting = record lasting {
  outputs = with_terminal terminal (with_kept number segments) lasting.outputs;
}
with_record_told _ lasting = lasting

abbrev pub with_records_told : List Record → LastingState → LastingState
with_records_told [] lasting = lasting
with_records_told (r ∷ records) lasting = with_records_told records (with_record_told r lasting)

-- the state of a snapshot, but for its rows
abbrev pub snapshot_state : System → List Record → LastingState
snapshot_state system records = with_records_told records (empty_state system)

-- ---- 11: which records there are, and their order

-- The counts stand first, then terminals, codes, messages, replies and changes; no other record is of a snapshot.
abbrev pub rank : Record → ℕ
rank (Checkpoint checkpoint next_id next_unit steps) = 0
rank (Terminal name last next stopped conversation) = 1
rank (Code name stopped class priority) = 2
rank (Input unit id origin code number conversation segments) = 3
rank (Reply unit terminal number segments) = 4
rank (Change unit database slot before after) = 5
rank _ = 6

abbrev pub are_ranked : ℕ → List Record → Bool
are_ranked least [] = true
are_ranked least (r ∷ records) = nat_le least (rank r) && nat_lt (rank r) 6 && are_ranked (rank r) records

-- the counts, and no others behind them
abbrev pub begins_with_counts : List Record → Bool
begins_with_counts [] = false
begins_with_counts (r ∷ records) = (rank r == 0) && are_ranked 1 records

-- messages and replies of a snapshot belong to no unit, and its messages have no number
abbrev pub is_of_no_unit : Record → Bool
is_of_no_unit (Input unit id origin code number conversation segments) = (unit == 0) && (number == 0)
is_of_no_unit (Reply unit terminal number segments) = unit == 0
is_of_no_unit _ = true

abbrev pub terminal_name : Record → Option (List ℕ)
terminal_name (Terminal name last next stopped conversation) = Some name
terminal_name _ = None

abbrev pub code_name : Record → Option (List ℕ)
code_name (Code name stopped class priority) = Some name
code_name _ = None

abbrev pub reply_terminal : Record → Option (List ℕ)
reply_terminal (Reply unit terminal number segments) = Some terminal
reply_terminal _ = None

abbrev pub are_same : List (List ℕ) → List (List ℕ) → Bool
are_same [] [] = true
are_same [] (name ∷ names) = false
are_same (name ∷ names) [] = false
are_same (name ∷ names) (other ∷ others) = bytes_eq name other && are_same names others

abbrev pub has_name : List (List ℕ) → List ℕ → Bool
has_name names name = list_any (λ other. bytes_eq other name) names

-- the names are those of the definition, each once, in another order
abbrev pub are_others_in_order : List (List ℕ) → List (List ℕ) → Bool
are_others_in_order names defined = not (are_same names defined) && (length names == length defined) && list_all (has_name names) defined

-- names that stand in the order of the definition, each as often as it likes; unknown ones are passed over
abbrev pub ascend_places : ℕ → List ℕ → Bool
ascend_places least [] = true
ascend_places least (place ∷ places) = nat_le least place && ascend_places place places

abbrev pub names_follow : List (List ℕ) → List (List ℕ) → Bool
names_follow defined names = ascend_places 0 (filter_map (λ name. position (λ other. bytes_eq other name) defined) names)

-- changes stand by unit, database and slot, each once
abbrev pub is_record_before : Record → Record → Bool
is_record_before (Change unit database slot before after) (Change unit2 database2 slot2 before2 after2) =
    nat_lt unit unit2 || ((unit == unit2) && (nat_lt database database2 || ((database == database2) && nat_lt slot slot2)))
is_record_before _ _ = true

abbrev pub ascend : List Record → Bool
ascend [] = true
ascend (r ∷ []) = true
ascend (r ∷ next ∷ records) = is_record_before r next && ascend (next ∷ records)

abbrev pub code_names : System → List (List ℕ)
code_names system = map (λ code. code.transaction.code) system.codes

abbrev pub out_of_order : System → List Record → Bool
out_of_order system records =
    not (begins_with_counts records && list_all is_of_no_unit records && names_follow system.terminals (filter_map reply_terminal records) && ascend records)
    || are_others_in_order (filter_map terminal_name records) system.terminals
    || are_others_in_order (filter_map code_name records) (code_names system)

-- ---- 12: terminals and codes are those of the definition, each once; numbers that are not of the state

abbrev pub wrong_record : Record → Bool
wrong_record (Checkpoint checkpoint next_id next_unit steps) = not (is_small checkpoint && is_next next_unit)
wrong_record _ = false

abbrev pub missing_or_twice : System → List Record → Bool
missing_or_twice system records =
    not (are_same (filter_map terminal_name records) system.terminals && are_same (filter_map code_name records) (code_names system)) || list_any wrong_record records

-- ---- 15: a reply belongs to a terminal
abbrev pub reply_of_none : System → List Record → Bool
reply_of_none system records = not (list_all (is_system_terminal system) (filter_map reply_terminal records))

-- ---- 17: changes are of slots, and their images are records

abbrev pub wrong_changes : System → List Record → Bool
wrong_changes system records = not (list_all (is_image_of system) records)

-- ---- all

abbrev pub snapshot_rules : System → List Record → List (ℕ × Bool)
snapshot_rules system records =
    let lasting = snapshot_state system records in
    (11, out_of_order system records)
    ∷ (12, missing_or_twice system records || wrong_values system lasting)
    ∷ (13, wrong_ids lasting)
    ∷ (14, unknown_messages system lasting)
    ∷ (15, wrong_replies lasting || reply_of_none system records)
    ∷ (16, over_full system lasting)
    ∷ (17, wrong_changes system records)
    ∷ []
