-- each line goes on from those before it
use Rattle.std.proofs.Common.{rules, ◌≡◌, ◌≤◌, ◌+◌, ◌-◌, ◌++◌, ◌∷◌, [], length, true, false, sym, ◌∙◌, ap, subst, refl, arith}
use Rattle.tm_edge.specs.Lines.{unread}
use Rattle.sysdef_text.specs.DefinitionEnd.{ends_definition, stays_inside, with_read_line}
use Rattle.tm_session.specs.ReadDefinition.{DefinitionSoFar, ReadsDefinition}
use Rattle.tm_session.specs.Outcome.{HasCause}
use Rattle.tm_session.proofs.Reading.{unread_cause}
use Rattle.tm_session.proofs.Opened.{reading_start, reading_next, reading_ends, reading_none, reading_stops, room_for}
use Rattle.tm_session.proofs.Taking.{back_same, back_twice, back_served}
use Rattle.tm_session.proofs.source.read_definition.Goals as goal

pub returns-in-Ok-None-clause-read : goal.returns-in-Ok-None-clause-read
returns-in-Ok-None-clause-read g c =
    reading_none (unread c.args.lines.now (g.S.Source.left c.args.source.now)) (unread c.loop-line.lines (g.S.Source.left c.loop-line.source)) (unread c.read_line.new.lines (g.S.Source.left c.read_line.new.source))
    c.loop-line.reader.lines c.loop-line.reader.inside c.loop-line.reader.room c.loop-line.invariant.so_far (rw c.in-Ok-None.field-0-is at c.in-Ok-None.ensures.line)

pub returns-in-Ok-None-clause-calm : goal.returns-in-Ok-None-clause-calm
returns-in-Ok-None-clause-calm g c = c.in-Ok-None.ensures.calm ∙ c.loop-line.invariant.count

pub returns-in-Err-clause-stops : goal.returns-in-Err-clause-stops
returns-in-Err-clause-stops g c =
    reading_stops c.in-Err.ended (unread c.args.lines.now (g.S.Source.left c.args.source.now)) (unread c.loop-line.lines (g.S.Source.left c.loop-line.source))
    c.loop-line.reader.lines c.loop-line.reader.inside c.loop-line.reader.room c.read_line.new.lines (g.S.Source.faults c.loop-line.source) (g.S.Source.faults c.read_line.new.source) c.loop-line.invariant.so_far c.in-Err.ensures.unread

pub returns-in-Err-clause-cause : goal.returns-in-Err-clause-cause
returns-in-Err-clause-cause g c =
    subst (λ r. HasCause c.in-Err.ended r (g.S.Source.faults c.read_line.new.source) 0 0) c.loop-line.invariant.count
    (unread_cause c.in-Err.ended (unread c.loop-line.lines (g.S.Source.left c.loop-line.source)) c.read_line.new.lines (g.S.Source.faults c.loop-line.source) (g.S.Source.faults c.read_line.new.source) 0 c.in-Err.ensures.unread)

pub returns-then-is_err-clause-cause : goal.returns-then-is_err-clause-cause
returns-then-is_err-clause-cause g c = (c.in-Ok-Some.ensures.calm ∙ c.loop-line.invariant.count, refl)

pub returns-then-is_err-clause-back : goal.returns-then-is_err-clause-back
returns-then-is_err-clause-back g c = back_twice _ _ _ c.loop-line.invariant.back (back_served _ _ _ c.in-Ok-Some.ensures.line)

pub returns-then-has_ended-clause-calm : goal.returns-then-has_ended-clause-calm
returns-then-has_ended-clause-calm g c = c.in-Ok-Some.ensures.calm ∙ c.loop-line.invariant.count

pub returns-then-has_ended-clause-back : goal.returns-then-has_ended-clause-back
returns-then-has_ended-clause-back g c = back_twice _ _ _ c.loop-line.invariant.back (back_served _ _ _ c.in-Ok-Some.ensures.line)

pub returns-then-has_ended-clause-read : goal.returns-then-has_ended-clause-read
returns-then-has_ended-clause-read g c =
    let added : c.add.new.self ≡ with_read_line c.in-Ok-Some.line c.loop-line.reader = search rules in
    let ends : ends_definition c.loop-line.reader.inside c.loop-line.reader.room c.in-Ok-Some.line ≡ true = sym (ap (λ r. r.ended) added) ∙ sym c.has_ended.ensures ∙ c.if-has_ended.true in
    subst (λ texts. ReadsDefinition (unread c.args.lines.now (g.S.Source.left c.args.source.now)) texts (unread c.read_line.new.lines (g.S.Source.left c.read_line.new.source))) (sym (ap (λ r. r.lines) added))
    (reading_ends (unread c.args.lines.now (g.S.Source.left c.args.source.now)) (unread c.loop-line.lines (g.S.Source.left c.loop-line.source)) (unread c.read_line.new.lines (g.S.Source.left c.read_line.new.source))
    c.loop-line.reader.lines c.in-Ok-Some.line c.loop-line.reader.inside c.loop-line.reader.room c.loop-line.invariant.so_far (rw c.in-Ok-Some.field-0-is at c.in-Ok-Some.ensures.line) ends)

pub loop-line-init : goal.loop-line-init
loop-line-init g c =
    record {
      so_far = rw c.new-reader.ensures (reading_start (unread c.args.lines.now (g.S.Source.left c.args.source.now)));
      open_end = ap (λ r. r.ended) c.new-reader.ensures;
      back = back_same _ _ refl;
      count = refl;
    }

pub loop-line-preserved : goal.loop-line-preserved
loop-line-preserved g c =
    let added : c.add.new.self ≡ with_read_line c.in-Ok-Some.line c.loop-line.reader = search rules in
    let goes : ends_definition c.loop-line.reader.inside c.loop-line.reader.room c.in-Ok-Some.line ≡ false = sym (ap (λ r. r.ended) added) ∙ sym c.has_ended.ensures ∙ c.if-has_ended.false in
    let next : DefinitionSoFar (unread c.args.lines.now (g.S.Source.left c.args.source.now)) (c.loop-line.reader.lines ++ c.in-Ok-Some.line ∷ []) (unread c.read_line.new.lines (g.S.Source.left c.read_line.new.source)) (stays_inside c.loop-line.reader.inside c.in-Ok-Some.line) (c.loop-line.reader.room - (length c.in-Ok-Some.line + 1)) =
    reading_next (unread c.args.lines.now (g.S.Source.left c.args.source.now)) (unread c.loop-line.lines (g.S.Source.left c.loop-line.source)) (unread c.read_line.new.lines (g.S.Source.left c.read_line.new.source))
    c.loop-line.reader.lines c.in-Ok-Some.line c.loop-line.reader.inside c.loop-line.reader.room c.loop-line.invariant.so_far (rw c.in-Ok-Some.field-0-is at c.in-Ok-Some.ensures.line) goes in
    record {
      so_far = subst (λ r. DefinitionSoFar (unread c.args.lines.now (g.S.Source.left c.args.source.now)) r.lines (unread c.read_line.new.lines (g.S.Source.left c.read_line.new.source)) r.inside r.room) (sym added) next;
      open_end = ap (λ r. r.ended) added ∙ goes;
      back = back_twice _ _ _ c.loop-line.invariant.back (back_served _ _ _ c.in-Ok-Some.ensures.line);
      count = c.in-Ok-Some.ensures.calm ∙ c.loop-line.invariant.count;
    }

pub loop-line-smaller : goal.loop-line-smaller
loop-line-smaller g c =
    let added : c.add.new.self ≡ with_read_line c.in-Ok-Some.line c.loop-line.reader = search rules in
    let goes : ends_definition c.loop-line.reader.inside c.loop-line.reader.room c.in-Ok-Some.line ≡ false = sym (ap (λ r. r.ended) added) ∙ sym c.has_ended.ensures ∙ c.if-has_ended.false in
    let room : length c.in-Ok-Some.line + 1 ≤ c.loop-line.reader.room = room_for c.loop-line.reader.inside c.loop-line.reader.room c.in-Ok-Some.line goes in
    let now : c.add.new.self.room ≡ c.loop-line.reader.room - (length c.in-Ok-Some.line + 1) = ap (λ r. r.room) added in
    omega arith
