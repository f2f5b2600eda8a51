-- Records that are appended, one after another.
use Rattle.std.proofs.Common.{◌≡◌, ℕ, zero, suc, ◌+◌, ◌≤◌, List, [], ◌∷◌, ◌++◌, length, drop, arith, refl, sym, ◌∙◌, ap, subst, Some, None, append_assoc, append-nil}
use Rattle.std.specs.Prelude.{slice_get}
use Rattle.std.specs.List.{flat_map, AllByRecursion}
use Rattle.std.proofs.lemmas.Option.{none-some}
use Rattle.std.proofs.lemmas.List.Concat.{flat_map-cons, flat_map-append}
use Rattle.model_messages.specs.declared.conversation.TerminalConversation.{TerminalConversation}
use Rattle.model_messages.specs.declared.replies.TerminalReplies.{TerminalReplies}
use Rattle.model_machine.specs.declared.lasting.TerminalState.{TerminalState}
use Rattle.log_records.specs.declared.record.Record.{Record}
use Rattle.log_records.specs.declared.record.Record.TheVariants.{Terminal}
use Rattle.log_records.specs.RecordSpelling.{record_spelling, IsLogRecord}
use Rattle.checkpointing.specs.SnapshotRecords.{terminal_records}
use Rattle.checkpointing.specs.SpelledRecords.{AddsSpelled}
use Rattle.log_records.proofs.Told.{all_both}
use Rattle.tm_types.proofs.Parted.{drop_more}

pub adds_none : (before : List ℕ) → AddsSpelled [] before before
adds_none before = record { bytes = sym (append-nil before); valid = tt }

pub adds_both : (some more : List Record) (before middle after : List ℕ) → AddsSpelled some before middle → AddsSpelled more middle after → AddsSpelled (some ++ more) before after
adds_both some more before middle after a b = record {
  bytes =
      b.bytes ∙ ap (λ (l : List ℕ). l ++ flat_map record_spelling more) a.bytes
      ∙ append_assoc before (flat_map record_spelling some) (flat_map record_spelling more)
      ∙ ap (λ (l : List ℕ). before ++ l) (sym (flat_map-append record_spelling some more));
  valid = all_both some more a.valid b.valid;
}

pub adds_one : (r : Record) (before after : List ℕ) → after ≡ before ++ record_spelling r → IsLogRecord r → AddsSpelled (r ∷ []) before after
adds_one r before after is valid = record {
  bytes = is ∙ ap (λ (l : List ℕ). before ++ l) (sym (flat_map-cons record_spelling r [] ∙ append-nil (record_spelling r)));
  valid = (valid, tt);
}

-- the sections of a snapshot, one after another
pub adds_sections : (counts : Record) (terminals codes messages replies changes : List Record) (a b c d e f g : List ℕ)
    → b ≡ a ++ record_spelling counts → IsLogRecord counts → AddsSpelled terminals b c → AddsSpelled codes c d → AddsSpelled messages d e → AddsSpelled replies e f → AddsSpelled changes f g
    → AddsSpelled (counts ∷ (terminals ++ (codes ++ (messages ++ (replies ++ changes))))) a g
adds_sections counts terminals codes messages replies changes a b c d e f g one valid two three four five six =
    adds_both (counts ∷ []) (terminals ++ (codes ++ (messages ++ (replies ++ changes)))) a b g (adds_one counts a b one valid)
    (adds_both terminals (codes ++ (messages ++ (replies ++ changes))) b c g two
    (adds_both codes (messages ++ (replies ++ changes)) c d g three
    (adds_both messages (replies ++ changes) d e g four (adds_both replies changes e f g five six))))

-- All that is to come comes to these records.
abbrev pub Comes : List Record → List Record → List ℕ → List ℕ → Type 0
Comes rest whole before now = (after : List ℕ) → AddsSpelled rest now after → AddsSpelled whole before after

pub comes_more : (r : Record) (rest all whole : List Record) (before now next : List ℕ) → all ≡ r ∷ rest → next ≡ now ++ record_spelling r → IsLogRecord r → Comes all whole before now → Comes rest whole before next
comes_more r rest all whole before now next is one valid comes after adds =
    comes after (subst (λ (l : List Record). AddsSpelled l now after) (sym is) (adds_both (r ∷ []) rest now next after (adds_one r now next one valid) adds))

-- the same where more than one record is added
pub comes_some : (some rest all whole : List Record) (before now next : List ℕ) → all ≡ some ++ rest → AddsSpelled some now next → Comes all whole before now → Comes rest whole before next
comes_some some rest all whole before now next is one comes after adds =
    comes after (subst (λ (l : List Record). AddsSpelled l now after) (sym is) (adds_both some rest now next after one adds))

-- nothing is to come any more
pub comes_end : (rest whole : List Record) (before now : List ℕ) → rest ≡ [] → Comes rest whole before now → AddsSpelled whole before now
comes_end rest whole before now none comes = comes now (subst (λ (l : List Record). AddsSpelled l now now) (sym none) (adds_none now))

pub drop_end : {X : Type 0} (xs : List X) (i : ℕ) → length xs ≤ i → drop i xs ≡ []
drop_end [] zero low = refl
drop_end [] (suc i) low = refl
drop_end (x ∷ xs) zero low = absurd (omega (arith, low))
drop_end (x ∷ xs) (suc i) low = drop_end xs i (omega (arith, low))

pub drop_beyond : {X : Type 0} (xs : List X) (i : ℕ) → slice_get xs i ≡ None → drop i xs ≡ []
drop_beyond [] zero none = refl
drop_beyond [] (suc i) none = refl
drop_beyond (x ∷ xs) zero none = absurd (none-some x (sym none))
drop_beyond (x ∷ xs) (suc i) none = drop_beyond xs i none

pub terminals_more : (ts : List TerminalState) (os : List TerminalReplies) (cs : List TerminalConversation) (i : ℕ) (t : TerminalState) (o : TerminalReplies) (c : TerminalConversation) → slice_get ts i ≡ Some t → slice_get os i ≡ Some o → slice_get cs i ≡ Some c
    → terminal_records (drop i ts) (drop i os) (drop i cs) ≡ Terminal t.name t.last o.next t.stopped c.conversation ∷ terminal_records (drop (i + 1) ts) (drop (i + 1) os) (drop (i + 1) cs)
terminals_more ts os cs i t o c a b d = rw (drop_more ts i t a, drop_more os i o b, drop_more cs i c d) refl

pub all_more : {X : Type 0} (P : X → Type 0) (xs : List X) (i : ℕ) (x : X) → slice_get xs i ≡ Some x → AllByRecursion P (drop i xs) → P x × AllByRecursion P (drop (i + 1) xs)
all_more P xs i x is all = let both = subst (λ (l : List _). AllByRecursion P l) (drop_more xs i x is) all in (both.0, both.1)
