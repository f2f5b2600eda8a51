use Rattle.std.proofs.Common.{ℕ, List, [], ◌∷◌, Some, sym, subst, ap, ◌∙◌}
use Rattle.std.specs.Option.{option_copied}
use Rattle.model_messages.specs.declared.conversation.PadChange.{PadChange}
use Rattle.model_machine.specs.LastingSteps.{dfs555i_text}
use Rattle.log_replay.specs.ReplaySteps.{with_gone, with_pad_at, with_told}
use Rattle.image_records.specs.KeptState.{KeptState}
use Rattle.log_replay.specs.ReplayRules.{IsOrderly, AreSmall}
use Rattle.log_replay.proofs.Stepped.{not_found, other_number, none_refused, discarded_is, discarded_over, discarded_small, orderly_away, counted_is, small_now}
use Rattle.log_replay.proofs.steps.discard.Goals as goal

pub returns-in_default-clause-done : goal.returns-in_default-clause-done
returns-in_default-clause-done c = not_found c.args.id c.args.abend c.args.number c.args.kept.now c.args.kept.now (sym c.found.ensures ∙ ap option_copied c.in_default.is)

pub returns-in_default-clause-small : goal.returns-in_default-clause-small
returns-in_default-clause-small c = small_now c.args.kept.now c.requires.orderly

pub returns-then-next-number-clause-done : goal.returns-then-next-number-clause-done
returns-then-next-number-clause-done c =
    none_refused _ c.args.kept.now
    (other_number c.args.id c.args.abend c.args.number c.args.kept.now c.in-Some.message.now (sym c.found.ensures ∙ ap option_copied c.in-Some.is)
    (λ e. c.if-next-number.true (c.next_of-next.ensures ∙ e)))

pub returns-then-next-number-clause-small : goal.returns-then-next-number-clause-small
returns-then-next-number-clause-small c = small_now c.args.kept.now c.requires.orderly

pub returns-then-not-is_small_after-clause-done : goal.returns-then-not-is_small_after-clause-done
returns-then-not-is_small_after-clause-done c =
    discarded_over c.args.id c.args.abend c.args.number c.args.kept.now c.in-Some.message.now (sym c.found.ensures ∙ ap option_copied c.in-Some.is) c.requires.orderly
    (sym c.next_of-next.ensures ∙ c.if-next-number.false) c.args.kept.now (sym c.is_small_after.ensures ∙ c.if-not-is_small_after.true)

pub returns-then-not-is_small_after-clause-small : goal.returns-then-not-is_small_after-clause-small
returns-then-not-is_small_after-clause-small c = small_now c.args.kept.now c.requires.orderly

pub tell-requires : goal.tell-requires
tell-requires c =
    subst IsOrderly
    (sym (c.put_away.ensures ∙ ap (λ (p : PadChange). with_gone c.args.id (with_pad_at (Some c.in-Some.message.now.origin) p c.args.kept.now)) c.discarded_pad-pad.ensures))
    (orderly_away c.args.id c.args.abend c.in-Some.message.now c.args.kept.now c.requires.orderly)

pub returns-clause-done : goal.returns-clause-done
returns-clause-done c =
    let m = c.in-Some.message.now in
    discarded_is c.args.id c.args.abend c.args.number c.args.kept.now m (sym c.found.ensures ∙ ap option_copied c.in-Some.is) (sym c.next_of-next.ensures ∙ c.if-next-number.false)
    ∙ ap (λ (k : KeptState). Some k)
    (sym (counted_is c.args.id c.args.abend m c.args.kept.now c.tell.new.kept c.count_to.new.kept
    (c.in_ok-tell.ensures ∙ ap (λ (s : List (List ℕ)). with_told m.origin s c.put_away.new.kept) c.in_ok-segments.ensures
    ∙ ap (with_told m.origin (dfs555i_text m.code c.args.abend ∷ [])) (c.put_away.ensures ∙ ap (λ (p : PadChange). with_gone c.args.id (with_pad_at (Some m.origin) p c.args.kept.now)) c.discarded_pad-pad.ensures))
    (c.count_to.ensures ∙ ap (λ n. record c.tell.new.kept { steps = n }) c.steps_after-steps.ensures)))

pub returns-clause-small : goal.returns-clause-small
returns-clause-small c =
    let m = c.in-Some.message.now in
    subst AreSmall
    (sym (counted_is c.args.id c.args.abend m c.args.kept.now c.tell.new.kept c.count_to.new.kept
    (c.in_ok-tell.ensures ∙ ap (λ (s : List (List ℕ)). with_told m.origin s c.put_away.new.kept) c.in_ok-segments.ensures
    ∙ ap (with_told m.origin (dfs555i_text m.code c.args.abend ∷ [])) (c.put_away.ensures ∙ ap (λ (p : PadChange). with_gone c.args.id (with_pad_at (Some m.origin) p c.args.kept.now)) c.discarded_pad-pad.ensures))
    (c.count_to.ensures ∙ ap (λ n. record c.tell.new.kept { steps = n }) c.steps_after-steps.ensures)))
    (discarded_small c.args.id c.args.abend c.args.number c.args.kept.now m (sym c.found.ensures ∙ ap option_copied c.in-Some.is) c.requires.orderly
    (sym c.next_of-next.ensures ∙ c.if-next-number.false) (sym c.is_small_after.ensures ∙ c.if-not-is_small_after.false))
