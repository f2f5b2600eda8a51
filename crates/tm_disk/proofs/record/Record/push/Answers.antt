use Rattle.std.proofs.Common.{◌≡◌, List, ℕ, [], ◌∷◌, ◌++◌, length, take, arith, sym, ◌∙◌, ap}
use Rattle.std.proofs.lemmas.List.{length-take-le}
use Rattle.tm_disk.specs.Record.{sector_of, writes_of, Recorded}
use Rattle.tm_disk.specs.Written.{Written}
use Rattle.tm_disk.specs.declared.record.KeptWrite.{KeptWrite}
use Rattle.tm_disk.proofs.Recording.{record-more}
use Rattle.tm_disk.proofs.record.Record.push.Goals as goal

pub returns-clause-ok : goal.returns-clause-ok
returns-clause-ok c =
    let old = c.self.inside in
    let bytes : List ℕ = old.bytes.items in
    let len : ℕ = c.kept_len-len.result in
    let more : List ℕ = take len c.bytes.result.now in
    let kept : KeptWrite = record { at = c.args.at; before = c.args.before; start = c.len-start.result; len = len } in
    let write : Written = record { at = c.args.at; content = c.args.content.now; before = c.args.before } in
    let size : length c.bytes.result.now ≡ 4096 = ap (length {A = ℕ}) c.bytes.ensures.value ∙ c.bytes.ensures.size in
    let items : c.push_reserved.new.self.items ≡ old.kept.items ++ kept ∷ [] = c.push_reserved.ensures.items ∙ ap (λ (l : List KeptWrite). l ++ kept ∷ []) c.reserve.ensures.items in
    let all : c.extend_from_slice.new.self.items ≡ bytes ++ more = c.in_ok-extend_from_slice.ensures.items in
    ap (λ l. writes_of l c.push_reserved.new.self.items) all
    ∙ ap (writes_of (bytes ++ more)) items
    ∙ record-more bytes more c.args.content.now old.kept.items kept c.self.invariant (omega (arith, c.len-start.ensures, old.bytes.ok)) (sym (length-take-le len c.bytes.result.now (omega (arith, size, c.kept_len-len.ensures.within))))
    (ap (λ l. sector_of (take len l)) c.bytes.ensures.value ∙ c.kept_len-len.ensures.zeros)
    ∙ ap (λ (r : Recorded). r.items ++ write ∷ []) c.self.view_is
