-- What is read is spelled so, what is spelled so is read, and no spelling begins another.
use Rattle.std.proofs.Common.{◌≡◌, ℕ, ◌+◌, ◌≤◌, ◌<◌, ◌^◌, Bool, true, false, cond, eqb, List, [], ◌∷◌, ◌++◌, length, take, drop, Option, Some, None, Result, Ok, Err, refl, sym, ap, subst, ◌∙◌, append_assoc, length-take-le, arith}
use Rattle.std.specs.Int.{w16}
use Rattle.std.proofs.lemmas.Bool.{eqb-true}
use Rattle.std.proofs.lemmas.Bool.Decides.{nat_tests}
use Rattle.std.proofs.lemmas.List.{length-append, take_at, take-append-drop}
use Rattle.log_records.specs.declared.record.Record.{Record}
use Rattle.log_records.specs.declared.record.Record.TheVariants.{Input, Command, Reply, Discarded, Completed, Acknowledged, SyncPoint, Checkpoint, Terminal, Code, Change}
use Rattle.log_records.specs.RecordSpelling.{number2, record_content, record_length, record_spelling, AreInRange, IsLogRecord, SpellsLogRecord, IsConversationSpelled, IsShortPad, KeepsLimits, IsShort, IsEncodable}
use Rattle.model_messages.specs.declared.conversation.Conversation.{Conversation}
use Rattle.log_records.specs.RecordReader.{RecordFault, ◌>>=◌, Reader, read_byte, read_number, answered_of_kind_at, answered_at, snapshot_of_kind_at, snapshot_at, content_of_code_at, content_at, record_at, input_at, command_at, read_reply, discarded_at, completed_at, acknowledged_at, sync_point_at, checkpoint_at, read_terminal, read_code, read_change, unknown}
use Rattle.log_records.proofs.Takes.{IsBytes, bind_ok, passed, Takes, Takes-then}
use Rattle.log_records.proofs.FieldLaws.{byte_takes, number2_takes, number2_again, number2_length}
use Rattle.log_records.proofs.LayoutLaws.{TakesContent, input_takes, input_again, command_takes, command_again, reply_takes, reply_again, discarded_takes, discarded_again, completed_takes, completed_again, acknowledged_takes, acknowledged_again, sync_point_takes, sync_point_again, checkpoint_takes, checkpoint_again, terminal_takes, terminal_again, code_takes, code_again, change_takes, change_again}

abbrev TakesRecord : List ℕ → (Record × List ℕ) → Type 0
TakesRecord bytes x = Takes bytes (record_content x.0) x.1 × AreInRange x.0

-- one code of several
coded : (code k : ℕ) (read : Reader Record) (bytes : List ℕ) (x : Record × List ℕ) (others : Result (Record × List ℕ) RecordFault) (b : Bool) → eqb code k ≡ b → TakesContent (k ∷ []) read → IsBytes bytes
    → (others ≡ Ok x → TakesRecord (code ∷ bytes) x) → cond b (read bytes) others ≡ Ok x → TakesRecord (code ∷ bytes) x
coded code k read bytes x others true h here fits next e = subst (λ (c : ℕ). TakesRecord (c ∷ bytes) x) (sym (eqb-true code k h)) (here bytes x fits e)
coded code k read bytes x others false h here fits next e = next e

-- one kind of several
of_kind : (code kind k : ℕ) (read : Reader Record) (bytes : List ℕ) (x : Record × List ℕ) (others : Result (Record × List ℕ) RecordFault) (b : Bool) → eqb kind k ≡ b → TakesContent (code ∷ k ∷ []) read → IsBytes bytes
    → (others ≡ Ok x → TakesRecord (code ∷ kind ∷ bytes) x) → cond b (read bytes) others ≡ Ok x → TakesRecord (code ∷ kind ∷ bytes) x
of_kind code kind k read bytes x others true h here fits next e = subst (λ (c : ℕ). TakesRecord (code ∷ c ∷ bytes) x) (sym (eqb-true kind k h)) (here bytes x fits e)
of_kind code kind k read bytes x others false h here fits next e = next e

none_known : (bytes front : List ℕ) (x : Record × List ℕ) → unknown bytes ≡ Ok x → TakesRecord front x
none_known bytes front x e = absurd cc

abbrev either : ℕ → ℕ → Reader Record → Reader Record → Reader Record
either code k read others bytes = cond (eqb code k) (read bytes) (others bytes)

answered_of_kind_takes : (kind : ℕ) (bytes : List ℕ) (x : Record × List ℕ) → IsBytes bytes → answered_of_kind_at kind bytes ≡ Ok x → TakesRecord (0x36 ∷ kind ∷ bytes) x
unfolding answered_of_kind_at
answered_of_kind_takes kind bytes x fits e =
    of_kind 0x36 kind 0 completed_at bytes x (either kind 1 acknowledged_at unknown bytes) (eqb kind 0) refl completed_takes fits (λ e1.
    of_kind 0x36 kind 1 acknowledged_at bytes x (unknown bytes) (eqb kind 1) refl acknowledged_takes fits (none_known bytes (0x36 ∷ kind ∷ bytes) x) e1) e

answered_takes : TakesContent (0x36 ∷ []) answered_at
unfolding answered_at
answered_takes bytes x fits e =
    let u = bind_ok (read_byte bytes) (λ (kind : ℕ × List ℕ). answered_of_kind_at kind.0 kind.1) x e in
    let k = byte_takes bytes u.0 fits u.1 in
    let l = answered_of_kind_takes u.0.0 u.0.1 x k.0.rest_fits u.2 in
    (record { parts = ap (λ (t : List ℕ). 0x36 ∷ t) k.0.parts ∙ l.0.parts; rest_fits = l.0.rest_fits }, l.1)

snapshot_of_kind_takes : (kind : ℕ) (bytes : List ℕ) (x : Record × List ℕ) → IsBytes bytes → snapshot_of_kind_at kind bytes ≡ Ok x → TakesRecord (0x40 ∷ kind ∷ bytes) x
unfolding snapshot_of_kind_at
snapshot_of_kind_takes kind bytes x fits e =
    of_kind 0x40 kind 0 checkpoint_at bytes x (either kind 1 read_terminal (either kind 2 read_code unknown) bytes) (eqb kind 0) refl checkpoint_takes fits (λ e1.
    of_kind 0x40 kind 1 read_terminal bytes x (either kind 2 read_code unknown bytes) (eqb kind 1) refl terminal_takes fits (λ e2.
    of_kind 0x40 kind 2 read_code bytes x (unknown bytes) (eqb kind 2) refl code_takes fits (none_known bytes (0x40 ∷ kind ∷ bytes) x) e2) e1) e

snapshot_takes : TakesContent (0x40 ∷ []) snapshot_at
unfolding snapshot_at
snapshot_takes bytes x fits e =
    let u = bind_ok (read_byte bytes) (λ (kind : ℕ × List ℕ). snapshot_of_kind_at kind.0 kind.1) x e in
    let k = byte_takes bytes u.0 fits u.1 in
    let l = snapshot_of_kind_takes u.0.0 u.0.1 x k.0.rest_fits u.2 in
    (record { parts = ap (λ (t : List ℕ). 0x40 ∷ t) k.0.parts ∙ l.0.parts; rest_fits = l.0.rest_fits }, l.1)

content_of_code_takes : (code : ℕ) (bytes : List ℕ) (x : Record × List ℕ) → IsBytes bytes → content_of_code_at code bytes ≡ Ok x → TakesRecord (code ∷ bytes) x
unfolding content_of_code_at
content_of_code_takes code bytes x fits e =
    let o8 : Reader Record = either code 0x50 read_change unknown in
    let o7 : Reader Record = either code 0x40 snapshot_at o8 in
    let o6 : Reader Record = either code 0x37 sync_point_at o7 in
    let o5 : Reader Record = either code 0x36 answered_at o6 in
    let o4 : Reader Record = either code 0x07 discarded_at o5 in
    let o3 : Reader Record = either code 0x03 read_reply o4 in
    let o2 : Reader Record = either code 0x02 command_at o3 in
    coded code 0x01 input_at bytes x (o2 bytes) (eqb code 0x01) refl input_takes fits (λ e2.
    coded code 0x02 command_at bytes x (o3 bytes) (eqb code 0x02) refl command_takes fits (λ e3.
    coded code 0x03 read_reply bytes x (o4 bytes) (eqb code 0x03) refl reply_takes fits (λ e4.
    coded code 0x07 discarded_at bytes x (o5 bytes) (eqb code 0x07) refl discarded_takes fits (λ e5.
    coded code 0x36 answered_at bytes x (o6 bytes) (eqb code 0x36) refl answered_takes fits (λ e6.
    coded code 0x37 sync_point_at bytes x (o7 bytes) (eqb code 0x37) refl sync_point_takes fits (λ e7.
    coded code 0x40 snapshot_at bytes x (o8 bytes) (eqb code 0x40) refl snapshot_takes fits (λ e8.
    coded code 0x50 read_change bytes x (unknown bytes) (eqb code 0x50) refl change_takes fits (none_known bytes (code ∷ bytes) x) e8) e7) e6) e5) e4) e3) e2) e

content_takes : (bytes : List ℕ) (x : Record × List ℕ) → IsBytes bytes → content_at bytes ≡ Ok x → TakesRecord bytes x
unfolding content_at
content_takes bytes x fits e =
    let u = bind_ok (read_byte bytes) (λ (code : ℕ × List ℕ). content_of_code_at code.0 code.1) x e in
    let k = byte_takes bytes u.0 fits u.1 in
    let l = content_of_code_takes u.0.0 u.0.1 x k.0.rest_fits u.2 in
    (record { parts = k.0.parts ∙ l.0.parts; rest_fits = l.0.rest_fits }, l.1)

content_again : (r : Record) (rest : List ℕ) → AreInRange r → content_at (record_content r ++ rest) ≡ Ok (r, rest)
unfolding content_at content_of_code_at answered_at answered_of_kind_at snapshot_at snapshot_of_kind_at read_byte
content_again (Input unit id origin code number conversation segments) rest h = input_again (unit, (id, (origin, (code, (number, (conversation, segments)))))) rest h
content_again (Command words) rest h = command_again words rest h
content_again (Reply unit terminal number segments) rest h = reply_again (unit, (terminal, (number, segments))) rest h
content_again (Discarded unit id abend number) rest h = discarded_again (unit, (id, (abend.number, number))) rest h
content_again (Completed unit id) rest h = completed_again (unit, id) rest h
content_again (Acknowledged terminal number) rest h = acknowledged_again (terminal, number) rest h
content_again (SyncPoint unit pad) rest h = sync_point_again (unit, pad) rest h
content_again (Checkpoint checkpoint next_id next_unit lasting_steps) rest h = checkpoint_again (checkpoint, (next_id, (next_unit, lasting_steps))) rest h
content_again (Terminal terminal last_input next_output stopped conversation) rest h = terminal_again (terminal, (last_input, (next_output, (stopped, conversation)))) rest h
content_again (Code code stopped class priority) rest h = code_again (code, (stopped, (class, priority))) rest h
content_again (Change unit database slot before after) rest h = change_again (unit, (database, (slot, (before, after)))) rest h

equal_numbers : (a b : ℕ) → a ≡ b → eqb a b ≡ true
equal_numbers a b e = grind (arith, nat_tests)

named_length : (n whole rest tail content : ℕ) → n + rest ≡ whole → whole ≡ 2 + tail → tail ≡ content + rest → n ≡ 2 + content
named_length n whole rest tail content same first second = omega arith

left_over : (content rest whole : ℕ) → whole ≡ 2 + (content + rest) → (2 + content) + rest ≡ whole
left_over content rest whole e = omega arith

-- ---- Records

length_behind : (n : ℕ) (t : List ℕ) → length (number2 n ++ t) ≡ 2 + length t
length_behind n t = length-append (number2 n) t ∙ ap (λ (k : ℕ). k + length t) (number2_length n)

spelling_length : (r : Record) → length (record_spelling r) ≡ record_length r
spelling_length r = length_behind (record_length r) (record_content r)

abbrev found : Record → ℕ → Result (Record × ℕ) RecordFault
found r n = Ok (r, n)

found_is : (a b : Record × ℕ) → found a.0 a.1 ≡ found b.0 b.1 → a ≡ b
found_is a b e = cc

length_parts : (n : ℕ) (bytes t : List ℕ) → bytes ≡ number2 n ++ t → length bytes ≡ 2 + length t
length_parts n bytes t e = ap length e ∙ length_behind n t

length_both : (bytes a b : List ℕ) → bytes ≡ a ++ b → length bytes ≡ length a + length b
length_both bytes a b e = ap length e ∙ length-append a b

front_is : (bytes : List ℕ) (r : Record) (rest : List ℕ) (n : ℕ) → bytes ≡ record_spelling r ++ rest → n ≡ record_length r → take n bytes ≡ record_spelling r
front_is bytes r rest n whole named = ap (take n) whole ∙ take_at (record_spelling r) rest n (spelling_length r ∙ sym named)

pub record_takes : (bytes : List ℕ) (x : Record × ℕ) → IsBytes bytes → record_at bytes ≡ Ok x → (x.1 ≤ length bytes) × SpellsLogRecord (take x.1 bytes) x.0
unfolding record_at
record_takes bytes x fits e =
    let u = bind_ok (read_number w16 bytes) (λ (named : ℕ × List ℕ). content_at named.1 >>= λ found. cond (eqb (named.0 + length found.1) (length bytes)) (Ok (found.0, named.0)) (Err (4, length found.1))) x e in
    let w = bind_ok (content_at u.0.1) (λ (found : Record × List ℕ). cond (eqb (u.0.0 + length found.1) (length bytes)) (Ok (found.0, u.0.0)) (Err (4, length found.1))) x u.2 in
    let g = passed (eqb (u.0.0 + length w.0.1) (length bytes)) (4, length w.0.1) (w.0.0, u.0.0) x w.2 in
    let k = number2_takes bytes u.0 fits u.1 in
    let l = content_takes u.0.1 w.0 k.0.rest_fits w.1 in
    let both = (Takes-then bytes (number2 u.0.0) u.0.1 (record_content w.0.0) w.0.1 k.0 l.0).parts in
    let same : u.0.0 + length w.0.1 ≡ length bytes = eqb-true (u.0.0 + length w.0.1) (length bytes) g.0 in
    let first : length bytes ≡ 2 + length u.0.1 = length_parts u.0.0 bytes u.0.1 k.0.parts in
    let second : length u.0.1 ≡ length (record_content w.0.0) + length w.0.1 = length_both u.0.1 (record_content w.0.0) w.0.1 l.0.parts in
    let named : u.0.0 ≡ record_length w.0.0 = named_length u.0.0 (length bytes) (length w.0.1) (length u.0.1) (length (record_content w.0.0)) same first second in
    let whole : bytes ≡ record_spelling w.0.0 ++ w.0.1 = subst (λ (n : ℕ). bytes ≡ (number2 n ++ record_content w.0.0) ++ w.0.1) named both in
    let short : record_length w.0.0 < 2 ^ 16 = subst (λ (n : ℕ). n < 2 ^ 16) named k.1 in
    let front : take u.0.0 bytes ≡ record_spelling w.0.0 = front_is bytes w.0.0 w.0.1 u.0.0 whole named in
    subst (λ (y : Record × ℕ). (y.1 ≤ length bytes) × SpellsLogRecord (take y.1 bytes) y.0) g.1 (omega (arith, same), record { is_record = record { fields = l.1; short = short }; same = front })

pub record_again : (r : Record) (rest : List ℕ) → IsLogRecord r → record_at (record_spelling r ++ rest) ≡ Ok (r, record_length r)
unfolding record_at
record_again r rest h =
    let n = record_length r in
    let tail : List ℕ = record_content r ++ rest in
    let long : length (number2 n ++ tail) ≡ 2 + (length (record_content r) + length rest) = length_behind n tail ∙ ap (λ (k : ℕ). 2 + k) (length-append (record_content r) rest) in
    let same : eqb (n + length rest) (length (number2 n ++ tail)) ≡ true = equal_numbers (n + length rest) (length (number2 n ++ tail)) (left_over (length (record_content r)) (length rest) (length (number2 n ++ tail)) long) in
    ap record_at (append_assoc (number2 n) (record_content r) rest) ∙ rw (number2_again n tail h.short, content_again r rest h.fields, same) refl

-- where the first n bytes spell a record, reading finds it
pub spelled_again : (bytes : List ℕ) (r : Record) (n : ℕ) → n ≤ length bytes → SpellsLogRecord (take n bytes) r → record_at bytes ≡ Ok (r, n)
spelled_again bytes r n within h =
    let parts : bytes ≡ record_spelling r ++ drop n bytes = sym (take-append-drop n bytes) ∙ ap (λ (t : List ℕ). t ++ drop n bytes) h.same in
    let len : record_length r ≡ n = sym (spelling_length r) ∙ ap length (sym h.same) ∙ length-take-le n bytes within in
    ap record_at parts ∙ record_again r (drop n bytes) h.is_record ∙ ap (λ (k : ℕ). found r k) len

-- No spelling begins another.
pub one_spelling : (a b : List ℕ) (r s : Record) (x y : List ℕ) → SpellsLogRecord a r → SpellsLogRecord b s → a ++ x ≡ b ++ y → (a ≡ b) × (r ≡ s)
one_spelling a b r s x y h k e =
    let left : record_at (a ++ x) ≡ found r (record_length r) = ap (λ (t : List ℕ). record_at (t ++ x)) h.same ∙ record_again r x h.is_record in
    let right : record_at (b ++ y) ≡ found s (record_length s) = ap (λ (t : List ℕ). record_at (t ++ y)) k.same ∙ record_again s y k.is_record in
    let both : found r (record_length r) ≡ found s (record_length s) = sym left ∙ ap record_at e ∙ right in
    let same : r ≡ s = ap (λ (p : Record × ℕ). p.0) (found_is (r, record_length r) (s, record_length s) both) in
    (h.same ∙ ap record_spelling same ∙ sym k.same, same)

-- what is read is the only record that the bytes begin with
pub is_only : (bytes : List ℕ) (x : Record × ℕ) → record_at bytes ≡ Ok x → (r : Record) (n : ℕ) → n ≤ length bytes → SpellsLogRecord (take n bytes) r → (x.0 ≡ r) × (x.1 ≡ n)
is_only bytes x e r n within h =
    let same : x ≡ (r, n) = found_is x (r, n) (sym e ∙ spelled_again bytes r n within h) in
    (ap (λ (p : Record × ℕ). p.0) same, ap (λ (p : Record × ℕ). p.1) same)

-- where reading meets a fault, the bytes begin with no record
pub is_none : (bytes : List ℕ) (f : RecordFault) → record_at bytes ≡ Err f → (r : Record) (n : ℕ) → n ≤ length bytes → SpellsLogRecord (take n bytes) r → ⊥
is_none bytes f e r n within h = let both : Err f ≡ found r n = sym e ∙ spelled_again bytes r n within h in absurd cc

-- ---- What was read can be written

short_pad : (c : Option Conversation) → IsConversationSpelled c → IsShortPad c
short_pad None h = tt
short_pad (Some c) h = h.1

limits_kept : (r : Record) → AreInRange r → KeepsLimits r
limits_kept (Input unit id origin code number conversation segments) h = (h.1.1.1.1.1.1.0, h.1.1.1.1.1.1.1)
limits_kept (Command words) h = h
limits_kept (Reply unit terminal number segments) h = (h.1.1.1.0, h.1.1.1.1)
limits_kept (Discarded unit id abend number) h = h.1.1.0
limits_kept (Completed unit id) h = tt
limits_kept (Acknowledged terminal number) h = tt
limits_kept (SyncPoint unit pad) h = h.1
limits_kept (Checkpoint checkpoint next_id next_unit lasting_steps) h = tt
limits_kept (Terminal terminal last_input next_output stopped conversation) h = short_pad conversation h.1.1.1.1
limits_kept (Code code stopped class priority) h = tt
limits_kept (Change unit database slot before after) h = h.1.1.1

is_short : (r : Record) → record_length r < 2 ^ 16 → IsShort r
is_short (Input unit id origin code number conversation segments) h = tt
is_short (Command words) h = tt
is_short (Reply unit terminal number segments) h = tt
is_short (Discarded unit id abend number) h = tt
is_short (Completed unit id) h = tt
is_short (Acknowledged terminal number) h = tt
is_short (SyncPoint unit pad) h = h
is_short (Checkpoint checkpoint next_id next_unit lasting_steps) h = tt
is_short (Terminal terminal last_input next_output stopped conversation) h = h
is_short (Code code stopped class priority) h = tt
is_short (Change unit database slot before after) h = tt

pub encodable : (r : Record) → IsLogRecord r → IsEncodable r
encodable r h = record { limits = limits_kept r h.fields; short = is_short r h.short }
