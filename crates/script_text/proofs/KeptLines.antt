-- Lines that were read keep the rules.
use Rattle.std.proofs.Common.{◌≡◌, ◌≤◌, ℕ, Bool, true, false, ◌&&◌, cond, List, [], ◌∷◌, Result, Ok, Err, refl}
use Rattle.std.specs.Prelude.{Option, IfOk, OnOk}
use Rattle.std.specs.List.{list_all}
use Rattle.tm_types.specs.Segment.{is_printable}
use Rattle.text_rows.specs.declared.pieces.Place.{Place}
use Rattle.text_rows.specs.declared.pieces.Place.TheVariants.{WordStart}
use Rattle.text_rows.specs.Lines.{printable_line}
use Rattle.text_rows.specs.LowestRule.{also}
use Rattle.text_rows.specs.Pieces.{parts, place_after, with_front, pieces_from, pieces}
use Rattle.model_system.specs.declared.statement.Statement.{Statement}
use Rattle.script_text.specs.GoodStatement.{are_all_printable, IsGood, IsStatementKept}
use Rattle.script_text.specs.Scripts.{script_words, statements_before}
use Rattle.script_text.specs.Statements.{has_label_word, label_in}
use Rattle.tm_types.proofs.Truths.{both_true, parts_true}

front_printable : (byte : ℕ) (ps : List (List ℕ)) → is_printable byte ≡ true → are_all_printable ps ≡ true → are_all_printable (with_front byte ps) ≡ true
front_printable byte [] e all = both_true (is_printable byte && true) true (both_true (is_printable byte) true e refl) refl
front_printable byte (p ∷ ps) e all =
    let both = parts_true (list_all is_printable p) (are_all_printable ps) all in
    both_true (is_printable byte && list_all is_printable p) (are_all_printable ps) (both_true (is_printable byte) (list_all is_printable p) e both.0) both.1

by_part : (b : Bool) (byte : ℕ) (here behind : List (List ℕ)) → is_printable byte ≡ true → are_all_printable here ≡ true → are_all_printable behind ≡ true → are_all_printable (cond b ([] ∷ here) (with_front byte behind)) ≡ true
by_part true byte here behind e h k = h
by_part false byte here behind e h k = front_printable byte behind e k

pieces_printable : (first place : Place) (text : List ℕ) → list_all is_printable text ≡ true → are_all_printable (pieces_from first place text) ≡ true
pieces_printable first place [] e = refl
pieces_printable first place (byte ∷ bytes) e =
    let both = parts_true (is_printable byte) (list_all is_printable bytes) e in
    by_part (parts place byte) byte (pieces_from first first bytes) (pieces_from first (place_after place byte) bytes) both.0 (pieces_printable first first bytes both.1) (pieces_printable first (place_after place byte) bytes both.1)

printable_by : (b : Bool) (rule : ℕ) → OnOk (cond {A = Result (Unit {0}) ℕ} b (Ok tt) (Err rule)) (b ≡ true)
printable_by true rule = refl
printable_by false rule = tt

on_ok : {P Q : Type 0} → (read : Result (Unit {0}) ℕ) → (P → Q) → OnOk read P → OnOk read Q
on_ok (Ok u) f p = f p
on_ok (Err rule) f p = tt

words_printable : (line : List ℕ) → OnOk (printable_line line) (are_all_printable (script_words line) ≡ true)
unfolding printable_line pieces
words_printable line = on_ok (cond (list_all is_printable line) (Ok tt) (Err 11)) (pieces_printable WordStart WordStart line) (printable_by (list_all is_printable line) 11)

module _ (places : List ℕ → Option ℕ) (here before : ℕ) (line : List ℕ) where
  kept_by : (read : Result Statement ℕ) (printable room : Result (Unit {0}) ℕ)
      → IfOk read (IsGood places here (script_words line) (has_label_word (script_words line)) (label_in (script_words line)))
      → OnOk printable (are_all_printable (script_words line) ≡ true) → OnOk room (statements_before before line ≤ 500)
      → IfOk (also (also read printable) room) (IsStatementKept places here before line)
  unfolding also
  kept_by (Ok statement) (Ok p) (Ok r) good plain few = record {
    allowed = good.allowed plain;
    placed = good.placed;
    kind = good.kind;
    label_is = good.label_is;
    room = few;
  }
  kept_by (Ok statement) (Ok p) (Err rule) good plain few = tt
  kept_by (Ok statement) (Err rule) (Ok r) good plain few = tt
  kept_by (Ok statement) (Err rule) (Err other) good plain few = tt
  kept_by (Err rule) (Ok p) (Ok r) good plain few = tt
  kept_by (Err rule) (Ok p) (Err other) good plain few = tt
  kept_by (Err rule) (Err other) (Ok r) good plain few = tt
  kept_by (Err rule) (Err other) (Err third) good plain few = tt

  pub kept_line : (read : Result Statement ℕ) (room : Result (Unit {0}) ℕ)
      → IfOk read (IsGood places here (script_words line) (has_label_word (script_words line)) (label_in (script_words line))) → OnOk room (statements_before before line ≤ 500)
      → IfOk (also (also read (printable_line line)) room) (IsStatementKept places here before line)
  kept_line read room good few = kept_by read (printable_line line) room good (words_printable line) few
