use Rattle.std.proofs.Common.{◌≡◌, ◌+◌, ◌-◌, ◌<◌, ◌≤◌, ◌++◌, ◌∷◌, [], Some, None, length, drop, sym, subst, ◌∙◌, arith}
use Rattle.model_data.specs.Record.{record_limit}
use Rattle.model_data.specs.RowsOfBytes.{last_path, next_row}
use Rattle.tm_types.specs.SegTypes.{IsHierarchy}
use Rattle.seg_rows.proofs.Decoding.{IsDecoded, decoded_none, decoded_more, decoded_all, refused_row, refused_length, refused_none, read_is, no_error, decodes_alone}
use Rattle.seg_rows.proofs.decode.decode_record.Goals as goal

pub loop-place-init : goal.loop-place-init
loop-place-init c = subst (λ image. IsDecoded c.args.dbd.now c.args.bytes.now image 0) (sym c.new-image.ensures) (decoded_none c.args.dbd.now c.args.bytes.now)

pub loop-place-preserved : goal.loop-place-preserved
loop-place-preserved c =
    let dbd = c.args.dbd.now in
    let bytes = c.args.bytes.now in
    let all : IsHierarchy dbd.types = c.as_slice-types.ensures.valid in
    let next : next_row dbd.types (last_path c.loop-place.image) (drop c.loop-place.place bytes) ≡ Some c.in-Some.row =
    read_is _ dbd.types _ (last_path c.loop-place.image) bytes c.loop-place.place c.in-Ok.row c.as_slice-types.ensures.value c.last_path.ensures c.in-Ok.ensures ∙ c.in-Some.is in
    let pushed : c.push.new.self ≡ c.loop-place.image ++ c.in-Some.row ∷ [] = no_error c.push.result (sym c.is_err.ensures.value ∙ c.if-is_err.false) c.push.ensures.ok in
    let fits : 1 + length c.in-Some.row.bytes ≤ record_limit dbd - c.loop-place.place =
    omega (arith, c.if-length-limit.false, c.len-length.ensures, c.record_limit-limit.ensures) in
    subst (λ image. IsDecoded dbd bytes image (c.loop-place.place + (1 + c.len-length.result))) (sym pushed)
    (subst (λ n. IsDecoded dbd bytes (c.loop-place.image ++ c.in-Some.row ∷ []) (c.loop-place.place + (1 + n))) (sym c.len-length.ensures)
    (decoded_more dbd all bytes c.loop-place.image c.loop-place.place c.loop-place.invariant c.in-Some.row next fits))

pub returns-in_default-clause-refused : goal.returns-in_default-clause-refused
returns-in_default-clause-refused c =
    let dbd = c.args.dbd.now in
    let bytes = c.args.bytes.now in
    let next : next_row dbd.types (last_path c.loop-place.image) (drop c.loop-place.place bytes) ≡ None =
    read_is _ dbd.types _ (last_path c.loop-place.image) bytes c.loop-place.place c.in-Ok.row c.as_slice-types.ensures.value c.last_path.ensures c.in-Ok.ensures ∙ c.in_default.is in
    refused_row dbd c.as_slice-types.ensures.valid bytes c.loop-place.image c.loop-place.place c.loop-place.invariant next c.loop-place-test.true

pub returns-in_default-clause-decoded : goal.returns-in_default-clause-decoded
returns-in_default-clause-decoded c rows spells =
    absurd ((returns-in_default-clause-refused c).1 (record { rows = rows; spells = spells }))

pub returns-then-length-limit-clause-refused : goal.returns-then-length-limit-clause-refused
returns-then-length-limit-clause-refused c =
    let dbd = c.args.dbd.now in
    let bytes = c.args.bytes.now in
    let next : next_row dbd.types (last_path c.loop-place.image) (drop c.loop-place.place bytes) ≡ Some c.in-Some.row =
    read_is _ dbd.types _ (last_path c.loop-place.image) bytes c.loop-place.place c.in-Ok.row c.as_slice-types.ensures.value c.last_path.ensures c.in-Ok.ensures ∙ c.in-Some.is in
    let past : record_limit dbd - c.loop-place.place < 1 + length c.in-Some.row.bytes =
    omega (arith, c.if-length-limit.true, c.len-length.ensures, c.record_limit-limit.ensures) in
    refused_length dbd c.as_slice-types.ensures.valid bytes c.loop-place.image c.loop-place.place c.loop-place.invariant c.in-Some.row next past c.loop-place-test.true

pub returns-then-length-limit-clause-decoded : goal.returns-then-length-limit-clause-decoded
returns-then-length-limit-clause-decoded c rows spells =
    absurd ((returns-then-length-limit-clause-refused c).1 (record { rows = rows; spells = spells }))

pub returns-then-is_empty-clause-refused : goal.returns-then-is_empty-clause-refused
returns-then-is_empty-clause-refused c =
    let none : c.loop-place.image ≡ [] = c.is_empty.ensures.0 c.if-is_empty.true in
    refused_none c.args.dbd.now c.args.bytes.now c.loop-place.place
    (subst (λ image. IsDecoded c.args.dbd.now c.args.bytes.now image c.loop-place.place) none c.loop-place.invariant) c.loop-place-test.false

pub returns-then-is_empty-clause-decoded : goal.returns-then-is_empty-clause-decoded
returns-then-is_empty-clause-decoded c rows spells =
    absurd ((returns-then-is_empty-clause-refused c).1 (record { rows = rows; spells = spells }))

pub returns-clause-spelled : goal.returns-clause-spelled
returns-clause-spelled c =
    decoded_all c.args.dbd.now c.as_slice-types.ensures.valid c.args.bytes.now c.loop-place.image c.loop-place.place c.loop-place.invariant c.loop-place-test.false
    (λ none. let t = c.is_empty.ensures.1 none in let f = c.if-is_empty.false in absurd (cc))

pub returns-clause-decoded : goal.returns-clause-decoded
returns-clause-decoded c = decodes_alone c.args.dbd.now c.as_slice-types.ensures.valid c.args.bytes.now c.loop-place.image (returns-clause-spelled c)
