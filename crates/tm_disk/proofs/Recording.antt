-- One write more in the record.
use Rattle.std.proofs.Common.{◌≡◌, ℕ, suc, List, [], ◌∷◌, ◌++◌, length, take, drop, refl, ◌∙◌, ap, arith}
use Rattle.std.specs.Prelude.{All}
use Rattle.std.proofs.lemmas.List.{drop-append-le, take-append-le, length-drop, drop_at, take_all, map-append}
use Rattle.tm_disk.specs.Record.{sector_of, written_of, writes_of, StandsIn}
use Rattle.tm_disk.specs.Written.{Written}
use Rattle.tm_disk.specs.declared.record.KeptWrite.{KeptWrite}

kept-same : (bytes more : List ℕ) (k : KeptWrite) → StandsIn (length bytes) k → written_of (bytes ++ more) k ≡ written_of bytes k
kept-same bytes more k stands =
    ap (λ (l : List ℕ). record { at = k.at; content = sector_of l; before = k.before })
    (ap (take k.len) (drop-append-le k.start bytes more (omega (arith, stands.0)))
    ∙ take-append-le k.len (drop k.start bytes) more (omega (arith, stands.0, length-drop k.start bytes)))

all-same : (bytes more : List ℕ) (kept : List KeptWrite) → All (StandsIn (length bytes)) kept → writes_of (bytes ++ more) kept ≡ writes_of bytes kept
all-same bytes more [] all = refl
all-same bytes more (k ∷ kept) all =
    let here : StandsIn (length bytes) k = all 0 k (omega arith) in
    let rest : All (StandsIn (length bytes)) kept = λ i d lt. all (suc i) d (omega (arith, lt)) in
    ap (λ w. w ∷ writes_of (bytes ++ more) kept) (kept-same bytes more k here) ∙ ap (λ l. written_of bytes k ∷ l) (all-same bytes more kept rest)

last-is : (bytes more content : List ℕ) (k : KeptWrite) → k.start ≡ length bytes → k.len ≡ length more → sector_of more ≡ content → written_of (bytes ++ more) k ≡ record { at = k.at; content = content; before = k.before }
last-is bytes more content k start len is =
    ap (λ (l : List ℕ). record { at = k.at; content = l; before = k.before })
    (ap sector_of (ap (λ n. take k.len (drop n (bytes ++ more))) start ∙ ap (take k.len) (drop_at bytes more (length bytes) refl) ∙ take_all k.len more (omega (arith, len))) ∙ is)

pub record-more : (bytes more content : List ℕ) (kept : List KeptWrite) (k : KeptWrite) → All (StandsIn (length bytes)) kept → k.start ≡ length bytes → k.len ≡ length more → sector_of more ≡ content
    → writes_of (bytes ++ more) (kept ++ k ∷ []) ≡ writes_of bytes kept ++ record { at = k.at; content = content; before = k.before } ∷ []
record-more bytes more content kept k all start len is =
    map-append (written_of (bytes ++ more)) kept (k ∷ [])
    ∙ ap (λ l. l ++ written_of (bytes ++ more) k ∷ []) (all-same bytes more kept all)
    ∙ ap (λ (w : Written). writes_of bytes kept ++ w ∷ []) (last-is bytes more content k start len is)
