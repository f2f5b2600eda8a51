use Rattle.std.proofs.Common.{◌≡◌, ◌<◌, ◌^◌, ℕ, List, ◌++◌, length, ap, ◌∙◌, arith}
use Rattle.log_records.specs.RecordSpelling.{record_content, record_length}
use Rattle.log_records.proofs.Lengths.{is_short_enough, is_record, holds_on_ok}
use Rattle.log_records.proofs.encoding.encode.Goals as goal

pub overflow_cast-length : goal.overflow_cast-length
overflow_cast-length c =
    let same : c.put_content.new.out.items ≡ record_content c.args.value.now = c.in_ok-put_content.ensures.ok ∙ ap (λ (x : List ℕ). x ++ record_content c.args.value.now) c.new-content.ensures.items in
    let long = ap length same in
    let short : record_length c.args.value.now < 2 ^ 16 = is_short_enough c.args.value.now c.in_ok-put_content.ensures.valid c.requires.short in
    omega (arith, c.len.ensures)

pub overflow_add-length : goal.overflow_add-length
overflow_add-length c =
    let same : c.put_content.new.out.items ≡ record_content c.args.value.now = c.in_ok-put_content.ensures.ok ∙ ap (λ (x : List ℕ). x ++ record_content c.args.value.now) c.new-content.ensures.items in
    let long = ap length same in
    let short : record_length c.args.value.now < 2 ^ 16 = is_short_enough c.args.value.now c.in_ok-put_content.ensures.valid c.requires.short in
    omega (arith, c.len.ensures)

pub returns-clause-valid : goal.returns-clause-valid
returns-clause-valid c = holds_on_ok c.extend_from_slice-2.result (is_record c.args.value.now c.in_ok-put_content.ensures.valid c.requires.short)
