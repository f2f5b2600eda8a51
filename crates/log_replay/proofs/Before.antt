-- What tables that break no rule keep, and when what a step leaves breaks one.
use Rattle.std.proofs.Common.{◌≡◌, Bool, true, false, not, ◌||◌, List, [], ◌∷◌, ◌<◌, ◌^◌, refl, sym, ◌∙◌, ap, arith, Some, None}
use Rattle.std.specs.Prelude.{Option, ◌==◌}
use Rattle.std.specs.List.{list_all, list_any}
use Rattle.std.specs.Option.{option_map_or, option_map}
use Rattle.std.proofs.lemmas.Bool.{ltb-true}
use Rattle.model_system.specs.System.{System}
use Rattle.model_messages.specs.declared.replies.TerminalReplies.{TerminalReplies}
use Rattle.model_machine.specs.Machine.{LastingState}
use Rattle.model_image.specs.States.{is_small, is_next, has_right_pad, run_up_to, breaks_a_rule}
use Rattle.image_records.specs.KeptState.{KeptState}
use Rattle.image_law.specs.SoundState.{IsSound}
use Rattle.image_law.proofs.Bools.{first_of, second_of}
use Rattle.image_law.proofs.SoundLaws.{is_sound}
use Rattle.image_law.proofs.Kept.{stands}
use Rattle.log_replay.specs.ReplaySteps.{is_over}
use Rattle.log_replay.specs.ReplayRules.{lasting_in, KeepsRest, IsOrderly, AreMessagesFree, AreSound, AreSmall, DoesStep, RecordLeaves}
use Rattle.log_replay.proofs.Orders.{not_small}
use Rattle.tm_types.proofs.Truths.{both}
use Rattle.image_law.specs.StandingState.{is_run}

small_from : (outputs : List TerminalReplies) → list_all (λ t. is_next t.next) outputs ≡ true → list_any not_small outputs ≡ false
small_from [] all = refl
small_from (t ∷ ts) all =
    let first = second_of (not (t.next == 0)) (is_small t.next) (first_of (is_next t.next) (list_all (λ t. is_next t.next) ts) all) in
    ap (λ b. not b || list_any not_small ts) first ∙ small_from ts (second_of (is_next t.next) (list_all (λ t. is_next t.next) ts) all)

pub numbers_from : (outputs : List TerminalReplies) → list_all is_run outputs ≡ true → list_any not_small outputs ≡ false → list_all (λ t. is_next t.next) outputs ≡ true
numbers_from [] runs small = refl
numbers_from (t ∷ ts) runs small =
    by_small (is_small t.next) refl small (numbers_from ts (second_of (is_run t) (list_all is_run ts) runs))
  where
    positive : not (t.next == 0) ≡ true
    positive = first_of (not (t.next == 0)) (run_up_to t.next t.replies) (first_of (is_run t) (list_all is_run ts) runs)

    by_small : (b : Bool) → is_small t.next ≡ b → not b || list_any not_small ts ≡ false → (list_any not_small ts ≡ false → list_all (λ t. is_next t.next) ts ≡ true) → list_all (λ t. is_next t.next) (t ∷ ts) ≡ true
    by_small true is small later =
        both (is_next t.next) (list_all (λ t. is_next t.next) ts) (both (not (t.next == 0)) (is_small t.next) positive is)
        (later small)
    by_small false is small later = cc

module _ (system : System) (kept : KeptState) (before : AreSound system kept) where
  s : IsSound system (lasting_in system kept)
  s = is_sound system (lasting_in system kept) before.sound

  pub rest_before : KeepsRest kept
  rest_before = record { settings = s.settings; ascending = s.ascending; runs = (stands system (lasting_in system kept) s).runs }

  pub numbers_before : list_all (λ t. is_next t.next) kept.outputs ≡ true
  numbers_before = s.fits.numbers

  pub small_before : AreSmall kept
  small_before = small_from kept.outputs s.fits.numbers

  pub orderly_before : IsOrderly kept
  orderly_before = record {
    ascending = s.ascending;
    small =
        ap (λ b. not b || list_any not_small kept.outputs) (second_of (not (kept.next_id == 0)) (is_small kept.next_id) s.fits.id) ∙ small_before;
  }

  pub inputs_before : list_all (λ t. is_small t.last) kept.terminals ≡ true
  inputs_before = s.fits.inputs

  pub pads_before : list_all (has_right_pad system) kept.conversations ≡ true
  pads_before = s.pads

  pub steps_before : kept.steps < 2 ^ 62
  steps_before = let less : kept.steps < 2000000000000000000 = ltb-true kept.steps 2000000000000000000 s.fits.counted in omega (arith, less)

-- a number that may not be counted on breaks a rule
over_breaks : (system : System) (kept : KeptState) → is_over kept ≡ true → breaks_a_rule system (lasting_in system kept) ≡ true
over_breaks system kept over = by_rule (breaks_a_rule system (lasting_in system kept)) refl where
  by_rule : (b : Bool) → breaks_a_rule system (lasting_in system kept) ≡ b → b ≡ true
  by_rule true is = refl
  by_rule false is = absurd (wrong (sym (small is) ∙ over)) where
    wrong : false ≡ true → ⊥
    wrong e = cc

    small : breaks_a_rule system (lasting_in system kept) ≡ false → is_over kept ≡ false
    small none =
        let s : IsSound system (lasting_in system kept) = is_sound system (lasting_in system kept) none in
        ap (λ b. not b || list_any not_small kept.outputs) (second_of (not (kept.next_id == 0)) (is_small kept.next_id) s.fits.id)
        ∙ small_from kept.outputs s.fits.numbers

module _ (system : System) (answer : Option LastingState) (step : Option KeptState) (lifted : answer ≡ option_map (lasting_in system) step) where
  -- a step that can't be done, or that leaves a number that may not be counted on
  pub refused : (new any : KeptState) → DoesStep step new false → RecordLeaves system answer any false
  refused new any over = ap (λ (o : Option LastingState). option_map_or (breaks_a_rule system) o true) lifted ∙ by_step step over where
    by_step : (o : Option KeptState) → option_map_or is_over o true ≡ true → option_map_or (breaks_a_rule system) (option_map (lasting_in system) o) true ≡ true
    by_step (Some kept) over = over_breaks system kept over
    by_step None over = refl

  -- a step that was done, and what it leaves was judged
  pub judged : (new : KeptState) → step ≡ Some new → AreMessagesFree system new → (fine : Bool) → fine ≡ not (breaks_a_rule system (lasting_in system new)) → RecordLeaves system answer new fine
  judged new is free fine right = by_rule fine (breaks_a_rule system (lasting_in system new)) refl right where
    there : answer ≡ Some (lasting_in system new)
    there = lifted ∙ ap (option_map (lasting_in system)) is

    by_rule : (fine b : Bool) → breaks_a_rule system (lasting_in system new) ≡ b → fine ≡ not b → RecordLeaves system answer new fine
    by_rule true false broken right = (there, broken, free)
    by_rule false true broken right = ap (λ (o : Option LastingState). option_map_or (breaks_a_rule system) o true) there ∙ broken
    by_rule true true broken right = cc
    by_rule false false broken right = cc
