-- What holds of the changes of open units.
use Rattle.std.proofs.Common.{◌≡◌, ℕ, ◌≤◌, Bool, true, false, ◌&&◌, ◌||◌, List, [], ◌∷◌, ◌++◌, refl, ◌∙◌, ap, arith, nat_le, nat_lt, append-nil, Some, None}
use Rattle.std.specs.Prelude.{Option, filter_map}
use Rattle.std.specs.List.{list_all, list_any, cons_option, AllByRecursion}
use Rattle.std.proofs.lemmas.Bool.Decides.{nat_tests}
use Rattle.model_machine.specs.Machine.{LastingState}
use Rattle.log_records.specs.declared.record.Record.{Record}
use Rattle.log_records.specs.declared.record.Record.TheVariants.{Input, Command, Reply, Discarded, Completed, Acknowledged, SyncPoint, Checkpoint, Terminal, Code, Change}
use Rattle.model_image.specs.Snapshot.{rank, are_ranked, is_of_no_unit, wrong_record, with_record_told, with_records_told, terminal_name, code_name, reply_terminal}
use Rattle.checkpointing.specs.Changes.{IsChange}

-- a change tells nothing of the state, and has no place among other records
pub record Bare (r : Record) : Type 0 where
  pub ranked : rank r ≡ 5
  pub no_unit : is_of_no_unit r ≡ true
  pub counts : wrong_record r ≡ false
  pub untold : (lasting : LastingState) → with_record_told r lasting ≡ lasting
  pub no_terminal : terminal_name r ≡ None
  pub no_code : code_name r ≡ None
  pub no_reply : reply_terminal r ≡ None

bare : (r : Record) → IsChange r → Bare r
bare (Change unit database slot before after) is =
    record { ranked = refl; no_unit = refl; counts = refl; untold = λ lasting. refl; no_terminal = refl; no_code = refl; no_reply = refl }
bare (Input unit id origin code number conversation segments) is = absurd is
bare (Command text) is = absurd is
bare (Reply unit terminal number segments) is = absurd is
bare (Discarded unit id abend number) is = absurd is
bare (Completed unit id) is = absurd is
bare (Acknowledged terminal number) is = absurd is
bare (SyncPoint unit pad) is = absurd is
bare (Checkpoint checkpoint next_id next_unit steps) is = absurd is
bare (Terminal name last next stopped conversation) is = absurd is
bare (Code name stopped class priority) is = absurd is

pub changes_told : (changes : List Record) (lasting : LastingState) → AllByRecursion IsChange changes → with_records_told changes lasting ≡ lasting
changes_told [] lasting are = refl
changes_told (r ∷ changes) lasting are =
    ap (with_records_told changes) ((bare r are.0).untold lasting) ∙ changes_told changes lasting are.1

le_five : (k : ℕ) → k ≤ 5 → nat_le k 5 ≡ true
le_five k le = grind (arith, nat_tests)

five_last : (least n : ℕ) (more : Bool) → least ≤ 5 → n ≡ 5 → more ≡ true → nat_le least n && nat_lt n 6 && more ≡ true
five_last least n more low is h = rw (is, h, le_five least low) refl

pub changes_ranked : (least : ℕ) (changes : List Record) → least ≤ 5 → AllByRecursion IsChange changes → are_ranked least changes ≡ true
changes_ranked least [] low are = refl
changes_ranked least (r ∷ changes) low are =
    let here = (bare r are.0).ranked in
    five_last least (rank r) (are_ranked (rank r) changes) low here
    (ap (λ (k : ℕ). are_ranked k changes) here ∙ changes_ranked 5 changes (omega arith) are.1)

both_true : (a b : Bool) → a ≡ true → b ≡ true → a && b ≡ true
both_true a b h k = rw (h, k) refl

both_false : (a b : Bool) → a ≡ false → b ≡ false → a || b ≡ false
both_false a b h k = rw (h, k) refl

pub changes_no_unit : (changes : List Record) → AllByRecursion IsChange changes → list_all is_of_no_unit changes ≡ true
changes_no_unit [] are = refl
changes_no_unit (r ∷ changes) are = both_true (is_of_no_unit r) (list_all is_of_no_unit changes) (bare r are.0).no_unit (changes_no_unit changes are.1)

pub changes_count : (changes : List Record) → AllByRecursion IsChange changes → list_any wrong_record changes ≡ false
changes_count [] are = refl
changes_count (r ∷ changes) are = both_false (wrong_record r) (list_any wrong_record changes) (bare r are.0).counts (changes_count changes are.1)

-- ---- they have no names

none_more : (g : Record → Option (List ℕ)) (r : Record) (changes : List Record) → g r ≡ None → filter_map g changes ≡ [] → filter_map g (r ∷ changes) ≡ []
none_more g r changes none others = ap (λ (h : Option (List ℕ)). cons_option h (filter_map g changes)) none ∙ others

pub changes_no_terminal : (changes : List Record) → AllByRecursion IsChange changes → filter_map terminal_name changes ≡ []
changes_no_terminal [] are = refl
changes_no_terminal (r ∷ changes) are = none_more terminal_name r changes (bare r are.0).no_terminal (changes_no_terminal changes are.1)

pub changes_no_code : (changes : List Record) → AllByRecursion IsChange changes → filter_map code_name changes ≡ []
changes_no_code [] are = refl
changes_no_code (r ∷ changes) are = none_more code_name r changes (bare r are.0).no_code (changes_no_code changes are.1)

pub changes_no_reply : (changes : List Record) → AllByRecursion IsChange changes → filter_map reply_terminal changes ≡ []
changes_no_reply [] are = refl
changes_no_reply (r ∷ changes) are = none_more reply_terminal r changes (bare r are.0).no_reply (changes_no_reply changes are.1)

cons_both : (h : Option (List ℕ)) (some more : List (List ℕ)) → cons_option h (some ++ more) ≡ cons_option h some ++ more
cons_both None some more = refl
cons_both (Some n) some more = refl

named_both : (g : Record → Option (List ℕ)) (some more : List Record) → filter_map g (some ++ more) ≡ filter_map g some ++ filter_map g more
named_both g [] more = refl
named_both g (r ∷ some) more = ap (cons_option (g r)) (named_both g some more) ∙ cons_both (g r) (filter_map g some) (filter_map g more)

-- names of records in front of what has none
pub named_before : (g : Record → Option (List ℕ)) (some more : List Record) → filter_map g more ≡ [] → filter_map g (some ++ more) ≡ filter_map g some
named_before g some more none =
    named_both g some more ∙ ap (λ (l : List (List ℕ)). filter_map g some ++ l) none ∙ append-nil (filter_map g some)
