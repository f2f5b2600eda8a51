-- The empty state keeps the rules, and a blank sector is no restart sector.
use Rattle.std.proofs.Common.{All, ◌≡◌, ℕ, ◌+◌, Bool, true, false, List, [], ◌∷◌, map, refl, ◌∙◌, ap, arith, Some, None, Ok, nat_lt}
use Rattle.std.specs.Prelude.{if◌then◌else◌}
use Rattle.std.specs.List.{list_all}
use Rattle.std.proofs.lemmas.Bool.{le-leb}
use Rattle.std.proofs.lemmas.Bool.Decides.{nat_tests}
use Rattle.std.proofs.lemmas.List.Elements.{All-head, All-tail}
use Rattle.tm_disk.specs.Sector.{blank}
use Rattle.model_messages.specs.Terminals.{without_conversation}
use Rattle.model_messages.specs.Outputs.{fresh_terminal, outputs_bytes}
use Rattle.model_messages.specs.Room.{replies_bytes}
use Rattle.model_system.specs.declared.code.Code.{Code}
use Rattle.std.proofs.lemmas.List.Sums.{sum_by-cons}
use Rattle.model_system.specs.System.{System}
use Rattle.model_machine.specs.Machine.{empty_state, fresh_terminal_state, first_setting}
use Rattle.restart_data.specs.Restart.{restart_of}
use Rattle.restart_data.specs.Rules.{first_broken, unless_rule_broken}
use Rattle.restart_data.specs.Restart.{restart_rules, fields_of}
use Rattle.restart_data.specs.Fields.{are_zeros}
use Rattle.restart_data.proofs.Zeros.{are_zeros-zeros}
use Rattle.model_image.specs.States.{is_small, is_next, has_right_pad, run_up_to, breaks_a_rule, is_setting}
use Rattle.checkpointing.specs.SnapshotRecords.{IsOfSystem}
use Rattle.system_types.specs.Definitions.{IsTransaction}
use Rattle.system_types.specs.ValidSystem.{IsSystem}
use Rattle.tm_disk.proofs.Zeros.{blank_is}

-- ---- the empty state keeps the rules

small_states : (ns : List (List ℕ)) → list_all (λ t. is_small t.last) (map fresh_terminal_state ns) ≡ true
small_states [] = refl
small_states (n ∷ ns) = small_states ns

next_outputs : (ns : List (List ℕ)) → list_all (λ t. is_next t.next) (map fresh_terminal ns) ≡ true
next_outputs [] = refl
next_outputs (n ∷ ns) = next_outputs ns

right_pads : (system : System) (ns : List (List ℕ)) → list_all (has_right_pad system) (map without_conversation ns) ≡ true
right_pads system [] = refl
right_pads system (n ∷ ns) = right_pads system ns

no_replies : (ns : List (List ℕ)) → list_all (λ t. run_up_to t.next t.replies) (map fresh_terminal ns) ≡ true
no_replies [] = refl
no_replies (n ∷ ns) = no_replies ns

no_bytes : (ns : List (List ℕ)) → outputs_bytes (map fresh_terminal ns) ≡ 0
no_bytes [] = refl
no_bytes (n ∷ ns) =
    let whole : outputs_bytes (map fresh_terminal (n ∷ ns)) ≡ replies_bytes [] + outputs_bytes (map fresh_terminal ns) = sum_by-cons (λ t. replies_bytes t.replies) (fresh_terminal n) (map fresh_terminal ns) in
    let none : replies_bytes [] ≡ 0 = refl in
    omega (arith, whole, none, no_bytes ns)

not_full : (n : ℕ) → nat_lt n 0 ≡ false
not_full n = grind (arith, nat_tests)

-- a code's first setting lies in its ranges
right_settings : (codes : List Code) → All (λ code. IsTransaction code.transaction) codes → list_all is_setting (map first_setting codes) ≡ true
right_settings [] right = refl
right_settings (code ∷ codes) right =
    let here : IsTransaction code.transaction = All-head (λ (code : Code). IsTransaction code.transaction) code codes right in
    rw (le-leb 1 code.transaction.class here.some_class, le-leb code.transaction.class 255 here.class, le-leb code.transaction.normal_priority 14 here.normal_priority)
    (right_settings codes (All-tail (λ (code : Code). IsTransaction code.transaction) code codes right))

pub empty_sound : (system : System) → IsSystem system → breaks_a_rule system (empty_state system) ≡ false
empty_sound system valid =
    rw (small_states system.terminals, next_outputs system.terminals, right_pads system system.terminals, no_replies system.terminals, no_bytes system.terminals, right_settings system.codes valid.transactions) (not_full system.qbytes)

named_states : (ns : List (List ℕ)) → map (λ t. t.name) (map fresh_terminal_state ns) ≡ ns
named_states [] = refl
named_states (n ∷ ns) = ap (λ (l : List (List ℕ)). n ∷ l) (named_states ns)

named_outputs : (ns : List (List ℕ)) → map (λ t. t.terminal) (map fresh_terminal ns) ≡ ns
named_outputs [] = refl
named_outputs (n ∷ ns) = ap (λ (l : List (List ℕ)). n ∷ l) (named_outputs ns)

named_conversations : (ns : List (List ℕ)) → map (λ t. t.terminal) (map without_conversation ns) ≡ ns
named_conversations [] = refl
named_conversations (n ∷ ns) = ap (λ (l : List (List ℕ)). n ∷ l) (named_conversations ns)

named_codes : (codes : List Code) → map (λ c. c.code) (map first_setting codes) ≡ map (λ code. code.transaction.code) codes
named_codes [] = refl
named_codes (c ∷ cs) = ap (λ (l : List (List ℕ)). c.transaction.code ∷ l) (named_codes cs)

pub empty_is : (system : System) → IsOfSystem system (empty_state system)
empty_is system = record {
  terminals = named_states system.terminals;
  outputs = named_outputs system.terminals;
  conversations = named_conversations system.terminals;
  codes = named_codes system.codes;
}

pub blank_restart : (most : ℕ) (single : Bool) → restart_of most single blank ≡ Ok None
unfolding restart_of
blank_restart most single =
    ap (λ (b : Bool). if b then Ok None else unless_rule_broken (first_broken (restart_rules most single blank)) (Some (fields_of blank))) (ap are_zeros blank_is ∙ are_zeros-zeros 4096)
