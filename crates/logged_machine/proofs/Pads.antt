-- The pads of a machine's conversations are right by the rules of a state.
use Rattle.std.proofs.Common.{◌≡◌, ℕ, zero, suc, ◌+◌, ◌≤◌, Bool, true, false, not, ◌&&◌, List, [], ◌∷◌, length, take, drop, Option, Some, None, refl, ap, arith}
use Rattle.std.specs.Prelude.{IfSome, IsSomeAnd, IsTrue, ◌==◌}
use Rattle.std.specs.List.{list_all, AllByRecursion}
use Rattle.std.specs.Option.{option_map_or}
use Rattle.std.specs.Str.{bytes_eq}
use Rattle.std.proofs.lemmas.Bool.{eq-eqb, ne_eqb}
use Rattle.std.proofs.lemmas.Slice.Eq.{bytes_eq-Decides}
use Rattle.tm_types.specs.Segment.{is_printable}
use Rattle.model_messages.specs.declared.conversation.Conversation.{Conversation}
use Rattle.model_messages.specs.declared.conversation.TerminalConversation.{TerminalConversation}
use Rattle.model_messages.specs.Pads.{code_field}
use Rattle.model_system.specs.declared.code.Code.{Code}
use Rattle.model_system.specs.Codes.{code_at}
use Rattle.model_system.specs.System.{System}
use Rattle.model_image.specs.States as states
use Rattle.tm_machine.specs.Parts.{IsConversationOf}
use Rattle.disk_law.proofs.Touched.{both}

all_dropped : (n : ℕ) (bytes : List ℕ) → list_all is_printable bytes ≡ true → list_all states.is_printable_byte (drop n bytes) ≡ true
all_dropped zero bytes all = all
all_dropped (suc n) [] all = refl
all_dropped (suc n) (b ∷ bytes) all = all_dropped n bytes (second (is_printable b) (list_all is_printable bytes) all) where
  second : (p q : Bool) → p && q ≡ true → q ≡ true
  second true q h = h
  second false q h = absurd cc

pad_of_size : (size : ℕ) (c : Conversation) → 1 ≤ size → length c.pad + 6 ≡ size → take 8 c.pad ≡ code_field c.code → IsTrue (list_all is_printable c.pad) → states.is_pad_of size c ≡ true
pad_of_size size c some is front prints =
    both (not (size == 0) && (length c.pad + 6 == size) && bytes_eq (take 8 c.pad) (code_field c.code)) (list_all states.is_printable_byte (drop 8 c.pad))
    (both (not (size == 0) && (length c.pad + 6 == size)) (bytes_eq (take 8 c.pad) (code_field c.code))
    (both (not (size == 0)) (length c.pad + 6 == size) (ap not (ne_eqb size 0 (λ e. omega (arith, e, some)))) (eq-eqb (length c.pad + 6) size is))
    ((bytes_eq-Decides (take 8 c.pad) (code_field c.code)).1 front))
    (all_dropped 8 c.pad prints)

one_right : (system : System) (c : Conversation) → IsConversationOf system c → states.is_conversation system c ≡ true
one_right system c is = by (code_at system.codes c.code) is.size where
  by : (found : Option Code) → IsSomeAnd found (λ code. (1 ≤ code.transaction.scratch_pad) × (length c.pad + 6 ≡ code.transaction.scratch_pad)) → option_map_or (λ code. states.is_pad_of code.transaction.scratch_pad c) found false ≡ true
  by None some = absurd some
  by (Some code) some = pad_of_size code.transaction.scratch_pad c some.0 some.1 is.front is.prints

pub pads_right : (system : System) (all : List TerminalConversation) → AllByRecursion (λ t. IfSome t.conversation (IsConversationOf system)) all → list_all (states.has_right_pad system) all ≡ true
pads_right system [] are = refl
pads_right system (t ∷ all) are = both (states.has_right_pad system t) (list_all (states.has_right_pad system) all) (by t.conversation are.0) (pads_right system all are.1) where
  by : (c : Option Conversation) → IfSome c (IsConversationOf system) → option_map_or (states.is_conversation system) c true ≡ true
  by None is = refl
  by (Some c) is = one_right system c is
