use Rattle.std.proofs.Common.{◌≡◌, Some, None, length, sym, ap, ◌∙◌, arith, ◌≤◌}
use Rattle.std.specs.List.{slice_get}
use Rattle.std.specs.Option.{option_copied}
use Rattle.log_records.proofs.Kept.{behind, failed}
use Rattle.log_records.proofs.PutTexts.{none_past, written_more, each_more, written_all, each_all}
use Rattle.log_records.proofs.encoding.put_texts.Goals as goal

pub unreachable-requires : goal.unreachable-requires
unreachable-requires c =
    let none : slice_get c.args.segments.now c.loop-index.index ≡ None = sym c.get.ensures ∙ ap option_copied c.in_default.is in
    let past = none_past c.args.segments.now c.loop-index.index none in
    absurd (omega (arith, c.len-index-end.ensures))

pub loop-index-preserved : goal.loop-index-preserved
loop-index-preserved c =
    let ts = c.args.segments.now in
    let i = c.loop-index.index in
    let t = c.in-Some.segment.now in
    let here : slice_get ts i ≡ Some t = sym c.get.ensures ∙ ap option_copied c.in-Some.is in
    record {
      written = written_more c.args.out.now.items c.put_text.new.out.items c.loop-index.out.items ts i t c.text.result.now here c.text.ensures.value c.in_ok-put_text.ensures.ok c.loop-index.invariant.written;
      each = each_more ts i t here c.loop-index.invariant.each c.text.ensures.valid;
    }

pub returns : goal.returns
returns c =
    let past : length c.args.segments.now ≤ c.loop-index.index = omega (arith, c.len-index-end.ensures) in
    record {
      ok = written_all c.args.out.now.items c.loop-index.out.items c.args.segments.now c.loop-index.index past c.loop-index.invariant.written;
      valid = each_all c.args.segments.now c.loop-index.index past c.loop-index.invariant.each;
      kept = tt;
    }

pub returns-in_err-put_text-clause-kept : goal.returns-in_err-put_text-clause-kept
returns-in_err-put_text-clause-kept c =
    failed c.from_residual.result (behind _ c.args.out.now.items c.loop-index.out.items c.put_text.new.out.items c.loop-index.invariant.written c.in_err-put_text.ensures.kept)
