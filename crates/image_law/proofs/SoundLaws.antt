-- A state that breaks no rule is sound, and a sound one breaks none.
use Rattle.std.proofs.Common.{◌≡◌, Bool, true, false, not, ◌&&◌, ◌||◌, refl}
use Rattle.std.specs.List.{list_all}
use Rattle.model_system.specs.System.{System}
use Rattle.model_machine.specs.Machine.{LastingState}
use Rattle.model_image.specs.States.{is_small, is_next, is_setting, has_right_pad, ascend_below, is_message_known, are_alone, run_up_to, over_full, wrong_values, wrong_ids, unknown_messages, wrong_replies, breaks_a_rule}
use Rattle.image_law.specs.SoundState.{IsSound}
use Rattle.image_law.proofs.Bools.{first_of, second_of, neither_first, neither_second, not_false}

none_broken : (a b c d e f g h i j k : Bool) → a ≡ true → b ≡ true → c ≡ true → d ≡ true → e ≡ true → f ≡ true → g ≡ true → h ≡ true → i ≡ true → j ≡ true → k ≡ false →
    (not (a && b && c && d && e && f) || not g || not (h && i) || not j || k) ≡ false
none_broken a b c d e f g h i j k isa isb isc isd ise isf isg ish isi isj isk =
    rw isa (rw isb (rw isc (rw isd (rw ise (rw isf (rw isg (rw ish (rw isi (rw isj (rw isk refl))))))))))

module _ (system : System) (lasting : LastingState) where
  pub breaks_none : IsSound system lasting → breaks_a_rule system lasting ≡ false
  breaks_none s =
      none_broken (is_next lasting.next_id) (is_small lasting.steps) (list_all (λ terminal. is_small terminal.last) lasting.terminals)
      (list_all (λ terminal. is_next terminal.next) lasting.outputs) (list_all is_setting lasting.codes) (list_all (has_right_pad system) lasting.conversations)
      (ascend_below lasting.next_id lasting.messages) (list_all (is_message_known system lasting) lasting.messages) (are_alone lasting.messages)
      (list_all (λ terminal. run_up_to terminal.next terminal.replies) lasting.outputs) (over_full system lasting)
      s.fits.id s.fits.counted s.fits.inputs s.fits.numbers s.settings s.pads s.ascending s.known s.alone s.runs s.fits.room

  pub is_sound : breaks_a_rule system lasting ≡ false → IsSound system lasting
  is_sound none =
      let a = is_next lasting.next_id in
      let b = is_small lasting.steps in
      let c = list_all (λ terminal. is_small terminal.last) lasting.terminals in
      let d = list_all (λ terminal. is_next terminal.next) lasting.outputs in
      let e = list_all is_setting lasting.codes in
      let f = list_all (has_right_pad system) lasting.conversations in
      let h = list_all (is_message_known system lasting) lasting.messages in
      let i = are_alone lasting.messages in
      let values = wrong_values system lasting in
      let ids = wrong_ids lasting in
      let unknown = unknown_messages system lasting in
      let replies = wrong_replies lasting in
      let full = over_full system lasting in
      let four = neither_first (values || ids || unknown || replies) full none in
      let three = neither_first (values || ids || unknown) replies four in
      let two = neither_first (values || ids) unknown three in
      let right = not_false (a && b && c && d && e && f) (neither_first values ids two) in
      let to_e = first_of (a && b && c && d && e) f right in
      let to_d = first_of (a && b && c && d) e to_e in
      let to_c = first_of (a && b && c) d to_d in
      let to_b = first_of (a && b) c to_c in
      let messages = not_false (h && i) (neither_second (values || ids) unknown three) in
      record {
        fits = record {
          id = first_of a b to_b;
          counted = second_of a b to_b;
          inputs = second_of (a && b) c to_c;
          numbers = second_of (a && b && c) d to_d;
          room = neither_second (values || ids || unknown || replies) full none;
        };
        settings = second_of (a && b && c && d) e to_e;
        pads = second_of (a && b && c && d && e) f right;
        ascending = not_false (ascend_below lasting.next_id lasting.messages) (neither_second values ids two);
        known = first_of h i messages;
        alone = second_of h i messages;
        runs = not_false (list_all (λ terminal. run_up_to terminal.next terminal.replies) lasting.outputs) (neither_second (values || ids || unknown) replies four);
      }
