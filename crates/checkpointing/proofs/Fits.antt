-- A snapshot of a state that keeps the rules fits its area.
use Rattle.std.proofs.Common.{◌≡◌, ℕ, zero, suc, ◌+◌, ◌*◌, ◌/◌, ◌≤◌, ◌<◌, Bool, true, false, not, ◌&&◌, ◌||◌, List, [], ◌∷◌, ◌++◌, length, map, refl, sym, ◌∙◌, ap, arith, Some, None, nat_lt, cond, subst}
use Rattle.std.specs.Prelude.{Option, All, IfSome, find, take, drop, ◌==◌}
use Rattle.std.specs.Option.{option_map_or}
use Rattle.std.specs.List.{list_all, flat_map, AllByRecursion}
use Rattle.std.specs.Str.{bytes_eq}
use Rattle.std.proofs.lemmas.Option.{same_Some, none-some}
use Rattle.std.proofs.lemmas.List.{length-map}
use Rattle.std.proofs.lemmas.List.Elements.{All-head, All-tail}
use Rattle.std.proofs.lemmas.Bool.Decides.{nat_tests}
use Rattle.model_messages.specs.declared.conversation.Conversation.{Conversation}
use Rattle.model_messages.specs.declared.conversation.TerminalConversation.{TerminalConversation}
use Rattle.model_messages.specs.Pads.{code_field}
use Rattle.model_system.specs.declared.code.Code.{Code}
use Rattle.model_system.specs.Codes.{code_at}
use Rattle.model_system.specs.System.{System}
use Rattle.model_messages.specs.Room.{messages_bytes}
use Rattle.model_messages.specs.Outputs.{outputs_bytes}
use Rattle.model_machine.specs.Machine.{LastingState}
use Rattle.log_records.specs.declared.record.Record.{Record}
use Rattle.log_records.specs.declared.record.Record.TheVariants.{Checkpoint}
use Rattle.log_records.specs.RecordSpelling.{record_spelling, IsLogRecord, HasRoomForPad}
use Rattle.model_system.specs.Areas.{snapshot_area, most_sectors}
use Rattle.model_image.specs.States.{is_printable_byte, is_conversation, is_pad_of, has_right_pad, wrong_values, wrong_ids, unknown_messages, wrong_replies, over_full, breaks_a_rule, is_next, is_small, is_setting}
use Rattle.system_types.specs.ValidSystem.{IsSystem, IsPadLength}
use Rattle.checkpointing.specs.SnapshotRecords.{terminal_records, code_record, message_record, reply_records, snapshot_records, IsOfSystem}
use Rattle.image_law.specs.SegmentCounts.{AreSegmentsCounted}
use Rattle.checkpointing.specs.SpelledRecords.{HaveRoom, IsWritable}
use Rattle.checkpointing.proofs.Sizes.{size, size_both, size_more, front_valid, back_valid, IsShortPad, counts_size, terminals_size, codes_size, messages_size, replies_size}

-- ---- tests

both : (a b : Bool) → a && b ≡ true → (a ≡ true) × (b ≡ true)
both true true h = (refl, refl)
both true false h = absurd cc
both false b h = absurd cc

neither : (a b : Bool) → a || b ≡ false → (a ≡ false) × (b ≡ false)
neither false false h = (refl, refl)
neither false true h = absurd cc
neither true b h = absurd cc

not_false : (a : Bool) → not a ≡ false → a ≡ true
not_false true h = refl
not_false false h = absurd cc

not_below : (a b : ℕ) → nat_lt a b ≡ false → b ≤ a
not_below a b h = grind (arith, nat_tests)

same_number : (a b : ℕ) → (a == b) ≡ true → a ≡ b
same_number a b h = grind (arith, nat_tests)

-- ---- pads

found_by : (P : Code → Type 0) (b : Bool) (code : Code) (found : Option Code) → P code → IfSome found P → IfSome (cond b (Some code) found) P
found_by P true code found h rest = h
found_by P false code found h rest = rest

found_holds : (P : Code → Type 0) (p : Code → Bool) (codes : List Code) → All P codes → IfSome (find p codes) P
found_holds P p [] h = tt
found_holds P p (code ∷ codes) h = found_by P (p code) code (find p codes) (All-head P code codes h) (found_holds P p codes (All-tail P code codes h))

pad_of : (size most : ℕ) (c : Conversation) → most ≤ 1000 → size ≡ most → is_pad_of size c ≡ true → length c.pad ≤ 994
pad_of size most c low same is =
    let one = both (not (size == 0) && (length c.pad + 6 == size) && bytes_eq (take 8 c.pad) (code_field c.code)) (list_all is_printable_byte (drop 8 c.pad)) is in
    let two = both (not (size == 0) && (length c.pad + 6 == size)) (bytes_eq (take 8 c.pad) (code_field c.code)) one.0 in
    let three = both (not (size == 0)) (length c.pad + 6 == size) two.0 in
    omega (arith, low, same, same_number (length c.pad + 6) size three.1)

short_by : (c : Conversation) (code : Option Code) → IfSome code (λ code. IsPadLength code.transaction.scratch_pad) → option_map_or (λ code. is_pad_of code.transaction.scratch_pad c) code false ≡ true → length c.pad ≤ 994
short_by c None h is = absurd cc
short_by c (Some code) h is = pad_of code.transaction.scratch_pad code.transaction.scratch_pad c h.most refl is

short_pad : (system : System) (c : Option Conversation) → IsSystem system → option_map_or (is_conversation system) c true ≡ true → IsShortPad c
short_pad system None valid is = tt
short_pad system (Some c) valid is =
    short_by c (code_at system.codes c.code) (found_holds (λ code. IsPadLength code.transaction.scratch_pad) (λ code. bytes_eq code.transaction.code c.code) system.codes valid.pads) is

pub short_pads : (system : System) (cs : List TerminalConversation) → IsSystem system → list_all (has_right_pad system) cs ≡ true → AllByRecursion (λ c. IsShortPad c.conversation) cs
short_pads system [] valid is = tt
short_pads system (c ∷ cs) valid is =
    let parts = both (has_right_pad system c) (list_all (has_right_pad system) cs) is in
    (short_pad system c.conversation valid parts.0, short_pads system cs valid parts.1)

-- ---- what a sound state keeps

record IsKept (system : System) (state : LastingState) : Type 0 where
  pub pads : list_all (has_right_pad system) state.conversations ≡ true
  pub content : messages_bytes state.messages + outputs_bytes state.outputs ≤ system.qbytes

kept : (system : System) (state : LastingState) → breaks_a_rule system state ≡ false → IsKept system state
kept system state sound =
    let first = neither (wrong_values system state || wrong_ids state || unknown_messages system state || wrong_replies state) (over_full system state) sound in
    let second = neither (wrong_values system state || wrong_ids state || unknown_messages system state) (wrong_replies state) first.0 in
    let third = neither (wrong_values system state || wrong_ids state) (unknown_messages system state) second.0 in
    let fourth = neither (wrong_values system state) (wrong_ids state) third.0 in
    let values = not_false (is_next state.next_id && is_small state.steps && list_all (λ terminal. is_small terminal.last) state.terminals && list_all (λ terminal. is_next terminal.next) state.outputs && list_all is_setting state.codes && list_all (has_right_pad system) state.conversations) fourth.0 in
    record {
      pads = (both (is_next state.next_id && is_small state.steps && list_all (λ terminal. is_small terminal.last) state.terminals && list_all (λ terminal. is_next terminal.next) state.outputs && list_all is_setting state.codes) (list_all (has_right_pad system) state.conversations) values).1;
      content = not_below system.qbytes (messages_bytes state.messages + outputs_bytes state.outputs) first.1;
    }

-- ---- the whole

sectors_cover : (n : ℕ) → n ≤ (n + 4063) / 4064 * 4064
sectors_cover n = omega arith

whole_sectors : (bytes most : ℕ) → bytes ≤ most → bytes ≤ (most + 4063) / 4064 * 4064
whole_sectors bytes most h = omega (arith, h, sectors_cover most)

module _ (system : System) (state : LastingState) (checkpoint unit : ℕ) (changes : List Record) (defined : IsSystem system) (is : IsOfSystem system state) (sound : breaks_a_rule system state ≡ false)
    (valid : AllByRecursion IsLogRecord (snapshot_records checkpoint unit state changes)) (few : size changes ≤ 262144 * most_sectors system * length system.regions) where
  abbrev terminals : List Record
  terminals = terminal_records state.terminals state.outputs state.conversations

  abbrev codes : List Record
  codes = map code_record state.codes

  abbrev messages : List Record
  messages = map message_record state.messages

  abbrev replies : List Record
  replies = reply_records state.outputs

  -- so many bytes at most
  pub fits_bytes : length (flat_map record_spelling (snapshot_records checkpoint unit state changes)) ≤ system.qbytes + 262144 * most_sectors system * length system.regions + 131072
  fits_bytes =
      let keeps = kept system state sound in
      let behind_counts = valid.1 in
      let behind_terminals = back_valid terminals (codes ++ (messages ++ (replies ++ changes))) behind_counts in
      let behind_codes = back_valid codes (messages ++ (replies ++ changes)) behind_terminals in
      let behind_messages = back_valid messages (replies ++ changes) behind_codes in
      let count_terminals : length state.terminals ≡ length system.terminals = sym (length-map state.terminals (λ t. t.name)) ∙ ap length is.terminals in
      let count_codes : length state.codes ≡ length system.codes = sym (length-map state.codes (λ c. c.code)) ∙ ap length is.codes ∙ length-map system.codes (λ code. code.transaction.code) in
      omega (
        arith,
        size_more (Checkpoint checkpoint state.next_id unit state.steps) (terminals ++ (codes ++ (messages ++ (replies ++ changes)))),
        size_both terminals (codes ++ (messages ++ (replies ++ changes))),
        size_both codes (messages ++ (replies ++ changes)),
        size_both messages (replies ++ changes),
        size_both replies changes,
        counts_size checkpoint state.next_id unit state.steps,
        terminals_size state.terminals state.outputs state.conversations (front_valid terminals (codes ++ (messages ++ (replies ++ changes))) behind_counts) (short_pads system state.conversations defined keeps.pads),
        codes_size state.codes (front_valid codes (messages ++ (replies ++ changes)) behind_terminals),
        messages_size state.messages (front_valid messages (replies ++ changes) behind_codes),
        replies_size state.outputs (front_valid replies changes behind_messages),
        keeps.content,
        few,
        count_terminals,
        count_codes,
        defined.few_terminals,
        defined.few_codes,
      )

  -- and so they fit the sectors of the area
  pub fits : length (flat_map record_spelling (snapshot_records checkpoint unit state changes)) ≤ snapshot_area system * 4064
  fits = whole_sectors (length (flat_map record_spelling (snapshot_records checkpoint unit state changes))) (system.qbytes + 262144 * most_sectors system * length system.regions + 131072) fits_bytes

  pub some : 0 < length (flat_map record_spelling (snapshot_records checkpoint unit state changes))
  some = omega (
    arith,
    size_more (Checkpoint checkpoint state.next_id unit state.steps) (terminals ++ (codes ++ (messages ++ (replies ++ changes)))),
  )

-- ---- what can be spelled

room_of : (c : Option Conversation) → IsShortPad c → HasRoomForPad c
room_of None short = tt
room_of (Some c) short = omega (arith, short)

have_room : (cs : List TerminalConversation) → AllByRecursion (λ c. IsShortPad c.conversation) cs → HaveRoom cs
have_room [] short place t found = absurd (none-some {A = TerminalConversation} t found)
have_room (c ∷ cs) short zero t found = subst (λ (t : TerminalConversation). HasRoomForPad t.conversation) (same_Some c t found) (room_of c.conversation short.0)
have_room (c ∷ cs) short (suc place) t found = have_room cs short.1 place t found

-- a state that keeps the rules, whose messages and replies have 1 to 32 segments
pub writable : (system : System) (state : LastingState) → IsSystem system → IsOfSystem system state → breaks_a_rule system state ≡ false → AreSegmentsCounted state → IsWritable state
writable system state defined is sound counted = record {
  outputs =
      sym (length-map state.outputs (λ t. t.terminal)) ∙ ap length (is.outputs ∙ sym is.terminals) ∙ length-map state.terminals (λ t. t.name);
  conversations =
      sym (length-map state.conversations (λ t. t.terminal)) ∙ ap length (is.conversations ∙ sym is.terminals) ∙ length-map state.terminals (λ t. t.name);
  pads = have_room state.conversations (short_pads system state.conversations defined (kept system state sound).pads);
  counted = counted;
}
