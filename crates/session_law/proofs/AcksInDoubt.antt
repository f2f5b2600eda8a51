-- A reply in the call of whose acknowledgement, or in the force behind it, the disk failed is never shown again, or is shown on.
use Rattle.std.proofs.Common.{◌≡◌, ◌≢◌, ◌⊎◌, inl, inr, ⊎_elim, ℕ, ◌+◌, ◌-◌, ◌≤◌, true, List, [], ◌∷◌, ◌++◌, Option, Some, None, refl, sym, ap, ◌∙◌, subst, arith, append_assoc}
use Rattle.std.specs.Prelude.{Result, Ok, slice_get}
use Rattle.std.specs.Option.{is_some, option_and_then, option_map_or}
use Rattle.tm_types.specs.declared.message.Reply.{Reply}
use Rattle.model_system.specs.System.{System}
use Rattle.model_messages.specs.declared.replies.TerminalReplies.{TerminalReplies}
use Rattle.model_messages.specs.Outputs.{first_number}
use Rattle.model_machine.specs.declared.entry.Acked.{Acked}
use Rattle.model_machine.specs.declared.entry.Acked.TheVariants.{Removed}
use Rattle.model_machine.specs.declared.entry.AckRefused.{AckRefused}
use Rattle.model_machine.specs.declared.entry.Entry.{Entry}
use Rattle.model_machine.specs.declared.entry.Entry.TheVariants.{Show, Acked as AckedEntry}
use Rattle.model_machine.specs.declared.entry.ShowAnswer.{ShowAnswer}
use Rattle.model_machine.specs.declared.entry.ShowAnswer.TheVariants.{Reply as Showed}
use Rattle.model_machine.specs.Machine.{LastingState, Moment, start_of, output_at, terminal_at}
use Rattle.model_machine.specs.MachineCalls.{ack_by, show_answer}
use Rattle.model_machine.specs.History.{May, AreSteps, after_entry, moment_after}
use Rattle.model_machine.proofs.Histories.{moment_after-append}
use Rattle.model_session.specs.Lives.{LifeState, AreLegal, life_moment, failed_force}
use Rattle.model_session.proofs.Kept.{all_rise, moment_parts, same_behind}
use Rattle.session_law.specs.ResentInputs.{shown_reply}
use Rattle.session_law.specs.SentAgain.{alone, AreLeft, AreBound, steps_of}
use Rattle.session_law.specs.ShownAgain.{IsAckInDoubt, IsShownOn, WasShown, SettlesAck, ShowsReplies}
use Rattle.session_law.proofs.Sessions.{all_keep, leaves_behind}
use Rattle.session_law.proofs.LifeEnds.{OpensWhole, OpensBefore, up_to, bound_to, front_steps, steps_behind, not_alone, opened_in_doubt, linked_behind, legal_behind, bound_behind, OpenedWith}
use Rattle.session_law.proofs.Replies.{Waits}
use Rattle.session_law.proofs.ShownAgain.{lives_wait, shown_on}
use Rattle.session_law.proofs.NumberedReplies.{IsFrom, IsNumbered, AreFrom, from_after, lives_higher, numbered_behind, begins_from, first_is, gone_then, gone_for_good}
use Rattle.session_law.proofs.StaysOrGone.{IsFirst, StaysOrGone, all_stay, shown_first, stays_here, stays_or_gone}

-- what an acknowledgement would remove is the first reply, and has its number
first_by : (number next : ℕ) (first : Option Reply) → is_some first ≡ true → number ≡ option_map_or (λ (r : Reply). r.number) first next → IsFirst number first
first_by number next None there is = cc
first_by number next (Some r) there is = record { reply = r; numbered = sym is; there = refl }

first_reply : (system : System) (terminal : List ℕ) (number : ℕ) (output : Option TerminalReplies) → ack_by output number ≡ Ok Removed → IsFirst number (option_and_then (λ (t : TerminalReplies). slice_get t.replies 0) output)
first_reply system terminal number None e = cc
first_reply system terminal number (Some t) e =
    let its = first_is terminal system number (Some t) t refl e in
    first_by number t.next (slice_get t.replies 0) its.1 its.0

above_itself : (number first : ℕ) → number ≡ first → number + 1 ≤ first → ⊥
above_itself number first same more = omega (arith, same, more)

-- where it would be removed its number isn't gone
not_gone_by : (system : System) (terminal : List ℕ) (number : ℕ) (output : Option TerminalReplies) → ack_by output number ≡ Ok Removed → ((t : TerminalReplies) → output ≡ Some t → IsFrom (number + 1) t) → ⊥
not_gone_by system terminal number None e gone = cc
not_gone_by system terminal number (Some t) e gone = above_itself number (first_number t) (first_is terminal system number (Some t) t refl e).0 (gone t refl).least

answer_is : (other : List ℕ) (a b : ShowAnswer) → Show other a ≡ Show other b → a ≡ b
answer_is other a b e = cc

acked_apart : (terminal : List ℕ) (number : ℕ) (answer : Result Acked AckRefused) → AckedEntry terminal number answer ≢ failed_force
acked_apart terminal number answer e = cc

module _ (system : System) (terminal : List ℕ) (number : ℕ) (life next : LifeState) (later : List LifeState) (linked : AreLeft system (life ∷ next ∷ later)) (legal : AreLegal system (life ∷ next ∷ later)) (bound : AreBound system (life ∷ next ∷ later)) (doubt : IsAckInDoubt system life terminal number) (begins : AreFrom terminal 0 life.opening) where
  abbrev entry : Entry
  entry = AckedEntry terminal number doubt.answer

  abbrev moment_then : Moment
  moment_then = life_moment system (alone life) doubt.before

  numbered_then : AreFrom terminal 0 moment_then.lasting
  numbered_then = from_after terminal 0 system doubt.before (start_of system life.opening) begins

  kept_gone : OpensWhole system life next doubt.before entry → SettlesAck system life (next ∷ later) terminal number doubt.before
  kept_gone opens =
      let behind : AreFrom terminal (number + 1) (after_entry system moment_then entry).lasting = gone_then terminal system number moment_then doubt.removes numbered_then in
      inl (opens.counted, lives_higher terminal system number (next ∷ later) (subst (AreFrom terminal (number + 1)) (sym opens.opening) behind) linked.1 legal.1)

  -- ---- its step is not kept

  first : IsFirst number (shown_reply terminal moment_then.lasting)
  first = first_reply system terminal number (output_at moment_then.lasting.outputs terminal) doubt.removes

  not_gone : AreFrom terminal (number + 1) moment_then.lasting → ⊥
  not_gone gone = not_gone_by system terminal number (output_at moment_then.lasting.outputs terminal) doubt.removes gone

  shown_on_by : Waits terminal first.reply next.opening → IsShownOn system terminal number moment_then (next ∷ later)
  shown_on_by waits = record {
    reply = first.reply;
    numbered = first.numbered;
    shown = first.there;
    waits = lives_wait terminal first.reply system (next ∷ later) waits linked.1;
  }

  module _ (opens : OpensBefore system life next doubt.before) where
    abbrev left_moment : Moment
    left_moment = life_moment system (alone life) opens.leaves.front

    along : moment_then ≡ moment_after system left_moment opens.leaves.rest
    along = ap (life_moment system (alone life)) opens.leaves.split ∙ moment_parts system (start_of system life.opening) opens.leaves.front opens.leaves.rest

    -- all steps before are kept
    all_kept : life.kept ≡ steps_of system life doubt.before → Waits terminal first.reply next.opening
    all_kept counted =
        ap (shown_reply terminal)
        (opens.leaves.left ∙ sym (same_behind system opens.leaves.rest left_moment
        (no_more next.opening.steps moment_then.lasting.steps life.opening.steps (moment_after system left_moment opens.leaves.rest).lasting.steps left_moment.lasting.steps
        (sym opens.leaves.counted ∙ counted) (all_rise system doubt.before (start_of system life.opening)) (ap (λ (m : Moment). m.lasting.steps) along) (ap (λ (s : LastingState). s.steps) opens.leaves.left)
        (all_rise system opens.leaves.front (start_of system life.opening))))
        ∙ sym (ap (λ (m : Moment). m.lasting) along))
        ∙ first.there
      where
        no_more : (left most opening behind front : ℕ) → left - opening ≡ most - opening → opening ≤ most → most ≡ behind → left ≡ front → opening ≤ front → behind ≤ front
        no_more left most opening behind front same least is at some = omega (arith, same, least, is, at, some)

    -- or the terminal was shown the reply before
    module _ (shown : WasShown terminal number doubt.before) where
      abbrev show : Entry
      show = Show terminal (Showed number)

      abbrev moment_shown : Moment
      moment_shown = life_moment system (alone life) shown.front

      may_show : May system moment_shown show
      may_show =
          (steps_behind system shown.front (show ∷ shown.rest) (start_of system life.opening)
          (subst (AreSteps system (start_of system life.opening)) shown.are
          (front_steps system legal.0.legal.steps legal.0.legal.last (start_of system life.opening) doubt.before entry doubt.after legal.0.legal.legal (sym legal.0.legal.all ∙ doubt.all)))).0

      here : IsFirst number (shown_reply terminal moment_shown.lasting)
      here =
          shown_first number (terminal_at moment_shown.lasting.terminals terminal) (output_at moment_shown.lasting.outputs terminal)
          (sym (answer_is terminal (Showed number) (show_answer moment_shown terminal) may_show.answer))

      abbrev Stays : LastingState → Type 0
      Stays lasting = StaysOrGone terminal here.reply lasting

      behind_show : Stays (life_moment system (alone life) (shown.front ++ show ∷ [])).lasting
      behind_show =
          subst (λ (m : Moment). Stays m.lasting) (sym (moment_after-append system (start_of system life.opening) shown.front show))
          (stays_or_gone terminal here.reply system show moment_shown
          (stays_here terminal here.reply moment_shown.lasting here.there (from_after terminal 0 system shown.front (start_of system life.opening) begins)))

      whole : doubt.before ≡ (shown.front ++ show ∷ []) ++ shown.rest
      whole = shown.are ∙ sym (append_assoc shown.front (show ∷ []) shown.rest)

      forced_show : (life_moment system (alone life) (shown.front ++ show ∷ [])).lasting.steps ≤ life.opening.steps + life.forced
      forced_show =
          bound_to system life shown.front (shown.rest ++ entry ∷ doubt.after) show bound.0
          (doubt.all ∙ ap (λ (es : List Entry). es ++ entry ∷ doubt.after) shown.are ∙ append_assoc shown.front (show ∷ shown.rest) (entry ∷ doubt.after))
          refl (not_alone shown.rest entry doubt.after (acked_apart terminal number doubt.answer))

      stays_next : Stays next.opening
      stays_next =
          leaves_behind Stays system (up_to life doubt.before) (shown.front ++ show ∷ []) shown.rest whole forced_show (all_stay terminal here.reply system shown.rest) behind_show life.kept next.opening opens.leaves

      stays_then : Stays moment_then.lasting
      stays_then =
          subst (λ (m : Moment). Stays m.lasting)
          (sym (ap (life_moment system (alone life)) whole ∙ moment_parts system (start_of system life.opening) (shown.front ++ show ∷ []) shown.rest))
          (all_keep Stays system shown.rest (life_moment system (alone life) (shown.front ++ show ∷ [])) (all_stay terminal here.reply system shown.rest) behind_show)

      gone_too : (lasting : LastingState) → AreFrom terminal (here.reply.number + 1) lasting → AreFrom terminal (number + 1) lasting
      gone_too lasting gone = subst (λ (n : ℕ). AreFrom terminal (n + 1) lasting) here.numbered gone

      waits_by : Stays next.opening → Stays moment_then.lasting → Waits terminal first.reply next.opening
      waits_by (inl (waits, from)) (inl (there, later_from)) = waits ∙ sym there ∙ first.there
      waits_by (inl (waits, from)) (inr gone) = absurd (not_gone (gone_too moment_then.lasting gone))
      waits_by (inr gone) there =
          absurd (not_gone (subst (λ (m : Moment). AreFrom terminal (number + 1) m.lasting) (sym along)
          (from_after terminal (number + 1) system opens.leaves.rest left_moment (subst (AreFrom terminal (number + 1)) opens.leaves.left (gone_too next.opening gone)))))

      was_shown : Waits terminal first.reply next.opening
      was_shown = waits_by stays_next stays_then

    lost_shown : SettlesAck system life (next ∷ later) terminal number doubt.before
    lost_shown = inr (opens.few, λ either. shown_on_by (by either)) where
      by : WasShown terminal number doubt.before ⊎ (life.kept ≡ steps_of system life doubt.before) → Waits terminal first.reply next.opening
      by (inl shown) = was_shown shown
      by (inr counted) = all_kept counted

  pub ack_settled : SettlesAck system life (next ∷ later) terminal number doubt.before
  ack_settled = ⊎_elim kept_gone lost_shown (opened_in_doubt system life next doubt.before doubt.after entry linked.0 doubt.all doubt.doubted)

-- ---- all of it

pub replies_shown : (system : System) (lives : List LifeState) → OpenedWith IsNumbered lives → AreLeft system lives → AreLegal system lives → AreBound system lives → ShowsReplies system lives
replies_shown system lives begins linked legal bound = record {
  again = λ before later life front rest terminal number reply split all few has.
      shown_on terminal reply system life later front rest number (linked_behind system before (life ∷ later) (subst (AreLeft system) split linked)) all few has;
  never = λ before later life front rest terminal number split all few.
      gone_for_good terminal system number life later front rest
      (linked_behind system before (life ∷ later) (subst (AreLeft system) split linked)) (legal_behind system before (life ∷ later) (subst (AreLegal system) split legal))
      (numbered_behind terminal system before (life ∷ later) (subst (OpenedWith (AreFrom terminal 0)) split (begins_from terminal lives begins)) (subst (AreLeft system) split linked)) all few;
  in_doubt = λ before later life next terminal number split doubt.
      ack_settled system terminal number life next later
      (linked_behind system before (life ∷ next ∷ later) (subst (AreLeft system) split linked)) (legal_behind system before (life ∷ next ∷ later) (subst (AreLegal system) split legal))
      (bound_behind system before (life ∷ next ∷ later) (subst (AreBound system) split bound)) doubt
      (numbered_behind terminal system before (life ∷ next ∷ later) (subst (OpenedWith (AreFrom terminal 0)) split (begins_from terminal lives begins)) (subst (AreLeft system) split linked));
}
