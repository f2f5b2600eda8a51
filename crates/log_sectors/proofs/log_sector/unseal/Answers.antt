use Rattle.std.proofs.Common.{◌≡◌, List, ℕ, take, drop, ap, ◌∙◌, arith, refl}
use Rattle.std.proofs.lemmas.Bool.{false≢true}
use Rattle.log_sectors.specs.SealedSector.{used_of}
use Rattle.log_sectors.proofs.Sealing.{Cuts, cuts-opened, cuts-front, cuts-end, not_used, told_same, told_apart}
use Rattle.log_sectors.proofs.log_sector.unseal.Goals as goal
use Rattle.log_sectors.proofs.log_sector.unseal.Goals.{then-used-eq0-via-then-used-eq0, then-used-eq0-via-else-used-eq0+then-used-gt-PAYLOAD_BYTES, else-eq-via-then-eq+else-all_zero, else-eq-via-else-eq}

pub returns-then-used-eq0 : goal.returns-then-used-eq0
returns-then-used-eq0 c =
    let used : c.used-used.result ≡ used_of c.args.sector.now = c.used-used.ensures ∙ ap used_of c.bytes-bytes.ensures.value in
    not_used c.args.epoch c.args.sequence c.args.sector.now c.used-used.result used
    (λ some fits. elim c.then-used-eq0.branch [
      | then-used-eq0-via-then-used-eq0 w ↦ omega (arith, some, w.if-used-eq0.true)
      | then-used-eq0-via-else-used-eq0+then-used-gt-PAYLOAD_BYTES w ↦ omega (arith, fits, w.if-used-gt-PAYLOAD_BYTES.true)
    ])

pub returns-then-all_zero : goal.returns-then-all_zero
returns-then-all_zero c =
    let used : c.used-used.result ≡ used_of c.args.sector.now = c.used-used.ensures ∙ ap used_of c.bytes-bytes.ensures.value in
    let sector = c.args.sector.now in
    let rest : c.split_at.result.1.now ≡ drop 32 sector = c.split_at.ensures.back ∙ ap (λ (l : List ℕ). drop 32 l) c.bytes-bytes.ensures.value in
    let cuts : Cuts c.args.epoch c.args.sequence sector c.used-used.result c.split_at.result.0.now c.split_at-2.result.0.now c.split_at-2.result.1.now c.as_slice.result.now = record {
      used_is = used;
      front_is = c.split_at.ensures.front ∙ ap (λ (l : List ℕ). take 32 l) c.bytes-bytes.ensures.value;
      payload_is = c.split_at-2.ensures.front ∙ ap (λ (l : List ℕ). take c.used-used.result l) rest;
      end_is = c.split_at-2.ensures.back ∙ ap (λ (l : List ℕ). drop c.used-used.result l) rest;
      expected_is = c.as_slice.ensures ∙ c.header-expected.ensures;
    } in
    let zero_end = c.if-all_zero.ensures in
    cuts-opened c.args.epoch c.args.sequence sector c.used-used.result c.split_at.result.0.now c.split_at-2.result.0.now c.split_at-2.result.1.now c.as_slice.result.now cuts c.bytes-bytes.ensures.size (omega (arith, c.if-used-eq0.false)) (omega arith)
    (told_same c.split_at.result.0.now c.as_slice.result.now c.if-eq.ensures) (zero_end.0 refl)

pub returns-else-eq : goal.returns-else-eq
returns-else-eq c =
    let used : c.used-used.result ≡ used_of c.args.sector.now = c.used-used.ensures ∙ ap used_of c.bytes-bytes.ensures.value in
    let sector = c.args.sector.now in
    let rest : c.split_at.result.1.now ≡ drop 32 sector = c.split_at.ensures.back ∙ ap (λ (l : List ℕ). drop 32 l) c.bytes-bytes.ensures.value in
    let cuts : Cuts c.args.epoch c.args.sequence sector c.used-used.result c.split_at.result.0.now c.split_at-2.result.0.now c.split_at-2.result.1.now c.as_slice.result.now = record {
      used_is = used;
      front_is = c.split_at.ensures.front ∙ ap (λ (l : List ℕ). take 32 l) c.bytes-bytes.ensures.value;
      payload_is = c.split_at-2.ensures.front ∙ ap (λ (l : List ℕ). take c.used-used.result l) rest;
      end_is = c.split_at-2.ensures.back ∙ ap (λ (l : List ℕ). drop c.used-used.result l) rest;
      expected_is = c.as_slice.ensures ∙ c.header-expected.ensures;
    } in
    elim c.else-eq.branch [
      | else-eq-via-then-eq+else-all_zero w ↦ cuts-end c.args.epoch c.args.sequence sector c.used-used.result c.split_at.result.0.now c.split_at-2.result.0.now c.split_at-2.result.1.now c.as_slice.result.now cuts (λ zero. false≢true (let told = w.if-all_zero.ensures in told.1 zero))
      | else-eq-via-else-eq w ↦ cuts-front c.args.epoch c.args.sequence sector c.used-used.result c.split_at.result.0.now c.split_at-2.result.0.now c.split_at-2.result.1.now c.as_slice.result.now cuts (told_apart c.split_at.result.0.now c.as_slice.result.now w.if-eq.ensures)
    ]
