-- When the tables break no rule.
use Rattle.std.proofs.Common.{◌≡◌, Bool, true, false, not, ◌&&◌, ◌||◌, refl, sym, ◌∙◌, ap}
use Rattle.std.specs.Prelude.{◌==◌}
use Rattle.std.specs.List.{list_all}
use Rattle.model_system.specs.System.{System}
use Rattle.model_messages.specs.Queue.{messages_of}
use Rattle.model_image.specs.States.{is_small, is_next, is_setting, has_right_pad, ascend_below, run_up_to, over_full, breaks_a_rule}
use Rattle.image_records.specs.KeptState.{KeptState}
use Rattle.image_law.proofs.Bools.{second_of}
use Rattle.image_law.proofs.Lists.{all_imply}
use Rattle.log_replay.specs.ReplayRules.{lasting_in, are_right, KeepsRest}
use Rattle.image_law.specs.StandingState.{is_run}

rules : (a b k c f x : Bool) → not (not (a && b && c && true && true && f) || not true || not x || not true || k) ≡ (a && b && not k && c && f && x)
rules false b k c f x = refl
rules true false k c f x = refl
rules true true true false f x = refl
rules true true true true false x = refl
rules true true true true true false = refl
rules true true true true true true = refl
rules true true false false f x = refl
rules true true false true false x = refl
rules true true false true true false = refl
rules true true false true true true = refl

module _ (system : System) (kept : KeptState) (rest : KeepsRest kept) (numbers : list_all (λ t. is_next t.next) kept.outputs ≡ true) where
  runs : list_all (λ t. run_up_to t.next t.replies) kept.outputs ≡ true
  runs = all_imply is_run (λ t. run_up_to t.next t.replies) kept.outputs (λ t. second_of (not (t.next == 0)) (run_up_to t.next t.replies)) rest.runs

  pub sound_is : (counts room inputs pads messages : Bool) → counts ≡ (is_next kept.next_id && is_small kept.steps) → room ≡ not (over_full system (lasting_in system kept)) →
      inputs ≡ list_all (λ t. is_small t.last) kept.terminals → pads ≡ list_all (has_right_pad system) kept.conversations → messages ≡ are_right system kept →
      (counts && room && inputs && pads && messages) ≡ not (breaks_a_rule system (lasting_in system kept))
  sound_is counts room inputs pads messages counts_are room_is inputs_are pads_are messages_are =
      ap (λ b. b && room && inputs && pads && messages) counts_are
      ∙ ap (λ b. is_next kept.next_id && is_small kept.steps && b && inputs && pads && messages) room_is
      ∙ ap (λ b. is_next kept.next_id && is_small kept.steps && not (over_full system (lasting_in system kept)) && b && pads && messages) inputs_are
      ∙ ap (λ b. is_next kept.next_id && is_small kept.steps && not (over_full system (lasting_in system kept)) && list_all (λ t. is_small t.last) kept.terminals && b && messages) pads_are
      ∙ ap (λ b. is_next kept.next_id && is_small kept.steps && not (over_full system (lasting_in system kept)) && list_all (λ t. is_small t.last) kept.terminals && list_all (has_right_pad system) kept.conversations && b) messages_are
      ∙ sym (rules (is_next kept.next_id) (is_small kept.steps) (over_full system (lasting_in system kept)) (list_all (λ t. is_small t.last) kept.terminals) (list_all (has_right_pad system) kept.conversations) (are_right system kept))
      ∙ sym (given (list_all (λ t. is_next t.next) kept.outputs) (list_all is_setting kept.codes) (ascend_below kept.next_id (messages_of kept.queues.queued)) (list_all (λ t. run_up_to t.next t.replies) kept.outputs) numbers rest.settings rest.ascending runs)
    where
      given : (d e g j : Bool) → d ≡ true → e ≡ true → g ≡ true → j ≡ true →
          not (not (is_next kept.next_id && is_small kept.steps && list_all (λ t. is_small t.last) kept.terminals && d && e && list_all (has_right_pad system) kept.conversations) || not g || not (are_right system kept) || not j || over_full system (lasting_in system kept))
          ≡ not (not (is_next kept.next_id && is_small kept.steps && list_all (λ t. is_small t.last) kept.terminals && true && true && list_all (has_right_pad system) kept.conversations) || not true || not (are_right system kept) || not true || over_full system (lasting_in system kept))
      given d e g j isd ise isg isj = rw isd (rw ise (rw isg (rw isj refl)))
