-- What the records of a unit keep, one after another.
use Rattle.std.proofs.Common.{◌≡◌, Bool, true, false, not, ◌&&◌, ◌||◌, List, [], ◌∷◌, ◌++◌, ℕ, ◌+◌, refl, sym, ◌∙◌, ap, subst, arith, Some, None}
use Rattle.std.specs.Prelude.{if◌then◌else◌, ◌==◌, Option}
use Rattle.std.specs.List.{list_any}
use Rattle.std.specs.Option.{option_map_or, option_map, option_and_then}
use Rattle.std.proofs.lemmas.Bool.{eqb-true, ne_eqb}
use Rattle.tm_types.specs.declared.message.Message.{Message}
use Rattle.model_messages.specs.declared.replies.TerminalReplies.{TerminalReplies}
use Rattle.model_messages.specs.Queue.{messages_of, has_id, queued_message}
use Rattle.model_messages.specs.Outputs.{with_terminal, with_reply, next_of}
use Rattle.model_system.specs.System.{System}
use Rattle.log_records.specs.declared.record.Record.{Record}
use Rattle.log_records.specs.declared.record.Record.TheVariants.{Input, Command, Reply, Discarded, Completed, Acknowledged, SyncPoint, Checkpoint, Terminal, Code, Change}
use Rattle.model_image.specs.States.{is_small, ascend_below, run_up_to}
use Rattle.model_image.specs.Snapshot.{snapshot_message}
use Rattle.image_records.specs.KeptState.{KeptState}
use Rattle.image_law.proofs.Bools.{first_of, second_of, not_of_false}
use Rattle.image_law.proofs.Lists.{all_more, all_filter}
use Rattle.image_law.proofs.Ordered.{ascend_more, ascend_filter, run_more, all_at}
use Rattle.log_replay.specs.ReplaySteps.{with_added, with_replied, with_gone, kept_replies, kept_switch, does, does_all, is_over}
use Rattle.log_replay.specs.ReplayRules.{KeepsRest, AreMessagesFree, has_no_holder}
use Rattle.log_replay.proofs.Orders.{not_small, next_not_small, any_stays, messages_more, messages_without}
use Rattle.tm_types.proofs.Truths.{both}
use Rattle.image_law.specs.StandingState.{is_run}

-- what replies, added messages and messages that go keep
module _ (P : KeptState → Type 0)
    (replying : (terminal : List ℕ) (segments : List (List ℕ)) (kept : KeptState) → P kept → P (with_replied terminal segments kept))
    (adding : (message : Message) (kept : KeptState) → message.id ≡ kept.next_id → P kept → P (with_added message kept))
    (going : (id : ℕ) (kept : KeptState) → P kept → P (with_gone id kept)) where
  replies_keeps : (terminal : List ℕ) (number : ℕ) (segments : List (List ℕ)) (kept new : KeptState) → kept_replies terminal number segments kept ≡ Some new → P kept → P new
  replies_keeps terminal number segments kept new is p = by_test (next_of terminal kept.outputs == number) is where
    by_test : (b : Bool) → (if b then Some (with_replied terminal segments kept) else None) ≡ Some new → P new
    by_test true is = let e : with_replied terminal segments kept ≡ new = cc in subst P e (replying terminal segments kept p)
    by_test false is = cc

  switches_keeps : (number : ℕ) (message : Message) (kept new : KeptState) → kept_switch number message kept ≡ Some new → P kept → P new
  switches_keeps number message kept new is p = by_test (kept.next_id == message.id) (number == 0) refl is where
    by_test : (a b : Bool) → kept.next_id == message.id ≡ a → (if a && b then Some (with_added message kept) else None) ≡ Some new → P new
    by_test true true same is =
        let e : with_added message kept ≡ new = cc in
        subst P e (adding message kept (sym (eqb-true kept.next_id message.id same)) p)
    by_test true false same is = cc
    by_test false b same is = cc

  goes_keeps : (id : ℕ) (kept new : KeptState) (o : Option Message) → option_map (λ _. with_gone id kept) o ≡ Some new → P kept → P new
  goes_keeps id kept new (Some message) is p = let e : with_gone id kept ≡ new = cc in subst P e (going id kept p)
  goes_keeps id kept new None is p = cc

  pub does_keeps : (r : Record) (kept new : KeptState) → does r kept ≡ Some new → P kept → P new
  does_keeps (Reply unit terminal number segments) kept new is p = replies_keeps terminal number segments kept new is p
  does_keeps (Input unit id origin code number conversation segments) kept new is p = switches_keeps number (snapshot_message id origin code conversation segments) kept new is p
  does_keeps (Completed unit id) kept new is p = goes_keeps id kept new (queued_message id kept.queues.queued) is p
  does_keeps (Command text) kept new is p = let e : kept ≡ new = cc in subst P e p
  does_keeps (Discarded unit id abend number) kept new is p = let e : kept ≡ new = cc in subst P e p
  does_keeps (Acknowledged terminal number) kept new is p = let e : kept ≡ new = cc in subst P e p
  does_keeps (SyncPoint unit pad) kept new is p = let e : kept ≡ new = cc in subst P e p
  does_keeps (Checkpoint checkpoint next_id next_unit steps) kept new is p = let e : kept ≡ new = cc in subst P e p
  does_keeps (Terminal name last next stopped conversation) kept new is p = let e : kept ≡ new = cc in subst P e p
  does_keeps (Code name stopped class priority) kept new is p = let e : kept ≡ new = cc in subst P e p
  does_keeps (Change unit database slot before after) kept new is p = let e : kept ≡ new = cc in subst P e p

  pub all_keep : (records : List Record) (kept new : KeptState) → does_all records kept ≡ Some new → P kept → P new
  all_keep [] kept new is p = let e : kept ≡ new = cc in subst P e p
  all_keep (r ∷ records) kept new is p = by_first (does r kept) refl is (λ next. all_keep records next new) where
    by_first : (o : Option KeptState) → does r kept ≡ o → option_and_then (does_all records) o ≡ Some new → ((next : KeptState) → does_all records next ≡ Some new → P next → P new) → P new
    by_first (Some next) first is later = later next is (does_keeps r kept next first p)
    by_first None first is later = cc

-- ---- numbers

abbrev pub IsOver : KeptState → Type 0
IsOver kept = is_over kept ≡ true

over_replied : (terminal : List ℕ) (segments : List (List ℕ)) (kept : KeptState) → IsOver kept → IsOver (with_replied terminal segments kept)
over_replied terminal segments kept over = by_id (not (is_small kept.next_id)) over where
  by_id : (b : Bool) → b || list_any not_small kept.outputs ≡ true → b || list_any not_small (with_terminal terminal (with_reply segments) kept.outputs) ≡ true
  by_id true over = refl
  by_id false over = any_stays terminal (with_reply segments) not_small kept.outputs (λ t is. next_not_small t.next is) over

over_added : (message : Message) (kept : KeptState) → message.id ≡ kept.next_id → IsOver kept → IsOver (with_added message kept)
over_added message kept same over = by_id (not (is_small kept.next_id)) refl over where
  or_true : (b : Bool) → b || true ≡ true
  or_true true = refl
  or_true false = refl

  by_id : (b : Bool) → not (is_small kept.next_id) ≡ b → b || list_any not_small kept.outputs ≡ true → not (is_small (kept.next_id + 1)) || list_any not_small kept.outputs ≡ true
  by_id true is over = ap (λ b. b || list_any not_small kept.outputs) (next_not_small kept.next_id is)
  by_id false is over = ap (λ b. not (is_small (kept.next_id + 1)) || b) over ∙ or_true (not (is_small (kept.next_id + 1)))

-- a number that may not be counted on stays so
pub over_all : (records : List Record) (kept new : KeptState) → does_all records kept ≡ Some new → IsOver kept → IsOver new
over_all = all_keep IsOver over_replied over_added (λ id kept over. over)

pub over_answer : (records : List Record) (kept : KeptState) → IsOver kept → option_map_or is_over (does_all records kept) true ≡ true
over_answer records kept over = by_answer (does_all records kept) refl where
  by_answer : (o : Option KeptState) → does_all records kept ≡ o → option_map_or is_over o true ≡ true
  by_answer (Some new) is = over_all records kept new is over
  by_answer None is = refl

-- ---- the rest

reply_runs : (segments : List (List ℕ)) (t : TerminalReplies) → is_run t ≡ true → is_run (with_reply segments t) ≡ true
reply_runs segments t is =
    let positive = first_of (not (t.next == 0)) (run_up_to t.next t.replies) is in
    both (not (t.next + 1 == 0)) (run_up_to (t.next + 1) (t.replies ++ record { number = t.next; segments = segments } ∷ [])) (not_of_false (t.next + 1 == 0) (ne_eqb (t.next + 1) 0 (λ e. omega (arith, e))))
    (run_more t.next t.replies (record { number = t.next; segments = segments }) refl positive (second_of (not (t.next == 0)) (run_up_to t.next t.replies) is))

pub rest_replied : (terminal : List ℕ) (segments : List (List ℕ)) (kept : KeptState) → KeepsRest kept → KeepsRest (with_replied terminal segments kept)
rest_replied terminal segments kept rest = record {
  settings = rest.settings;
  ascending = rest.ascending;
  runs = all_at is_run terminal (with_reply segments) kept.outputs rest.runs (reply_runs segments);
}

pub rest_added : (message : Message) (kept : KeptState) → message.id ≡ kept.next_id → KeepsRest kept → KeepsRest (with_added message kept)
rest_added message kept same rest = record {
  settings = rest.settings;
  runs = rest.runs;
  ascending = ap (ascend_below (kept.next_id + 1)) (messages_more kept.queues.queued message) ∙ ascend_more kept.next_id (messages_of kept.queues.queued) message rest.ascending same;
}

pub rest_gone : (id : ℕ) (kept : KeptState) → KeepsRest kept → KeepsRest (with_gone id kept)
rest_gone id kept rest = record {
  settings = rest.settings;
  runs = rest.runs;
  ascending = ap (ascend_below kept.next_id) (messages_without id kept.queues.queued) ∙ ascend_filter (λ message. not (message.id == id)) kept.next_id (messages_of kept.queues.queued) rest.ascending;
}

pub rest_does : (r : Record) (kept new : KeptState) → does r kept ≡ Some new → KeepsRest kept → KeepsRest new
rest_does = does_keeps KeepsRest rest_replied rest_added rest_gone

pub rest_all : (records : List Record) (kept new : KeptState) → does_all records kept ≡ Some new → KeepsRest kept → KeepsRest new
rest_all = all_keep KeepsRest rest_replied rest_added rest_gone

module _ (system : System) where
  pub free_added : (message : Message) (kept : KeptState) → message.id ≡ kept.next_id → AreMessagesFree system kept → AreMessagesFree system (with_added message kept)
  free_added message kept same free = record {
    limit = free.limit;
    holders = all_more has_no_holder kept.queues.queued (record { message = message; holder = None }) free.holders refl;
  }

  pub free_gone : (id : ℕ) (kept : KeptState) → AreMessagesFree system kept → AreMessagesFree system (with_gone id kept)
  free_gone id kept free = record {
    limit = free.limit;
    holders = all_filter has_no_holder (λ q. not (has_id id q)) kept.queues.queued free.holders;
  }

  pub free_all : (records : List Record) (kept new : KeptState) → does_all records kept ≡ Some new → AreMessagesFree system kept → AreMessagesFree system new
  free_all = all_keep (AreMessagesFree system) (λ terminal segments kept free. record { limit = free.limit; holders = free.holders }) free_added free_gone
