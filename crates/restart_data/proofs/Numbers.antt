-- The bytes of headers, from the bytes of their numbers.
use Rattle.std.proofs.Common.{◌≡◌, ℕ, List, [], ◌∷◌, get_or, length, refl, ◌∙◌, ap}
use Rattle.std.specs.Int.{w16, w32, w64, to_be_bytes}
use Rattle.restart_data.specs.Restart.{restart_front, restart_back}
use Rattle.restart_data.specs.Snapshot.{snapshot_header}

-- the bytes of a number of eight bytes, and of one of four, before others
abbrev pub eight : List ℕ → List ℕ → List ℕ
eight b rest =
    get_or b 0 0 ∷ get_or b 1 0 ∷ get_or b 2 0 ∷ get_or b 3 0 ∷ get_or b 4 0 ∷ get_or b 5 0 ∷ get_or b 6 0 ∷ get_or b 7 0 ∷ rest

abbrev pub four : List ℕ → List ℕ → List ℕ
four b rest = get_or b 0 0 ∷ get_or b 1 0 ∷ get_or b 2 0 ∷ get_or b 3 0 ∷ rest

abbrev pub two : List ℕ → List ℕ → List ℕ
two b rest = get_or b 0 0 ∷ get_or b 1 0 ∷ rest

pub restart_front_is : (e : List ℕ) (epoch snapshot log : ℕ) → e ≡ to_be_bytes w64 epoch → 73 ∷ 77 ∷ 83 ∷ 82 ∷ 0 ∷ 0 ∷ 0 ∷ 2 ∷ eight e (snapshot ∷ log ∷ 0 ∷ 0 ∷ []) ≡ restart_front epoch snapshot log
unfolding restart_front
restart_front_is e epoch snapshot log is =
    ap (λ (x : List ℕ). 73 ∷ 77 ∷ 83 ∷ 82 ∷ 0 ∷ 0 ∷ 0 ∷ 2 ∷ eight x (snapshot ∷ log ∷ 0 ∷ 0 ∷ [])) is

pub restart_back_is : (n s c t : List ℕ) (sectors sequence checkpoint text : ℕ) → n ≡ to_be_bytes w32 sectors → s ≡ to_be_bytes w64 sequence → c ≡ to_be_bytes w64 checkpoint → t ≡ to_be_bytes w32 text → four n (eight s (eight c (four t []))) ≡ restart_back sectors sequence checkpoint text
unfolding restart_back
restart_back_is n s c t sectors sequence checkpoint text is_n is_s is_c is_t =
    ap (λ (x : List ℕ). four x (eight s (eight c (four t [])))) is_n
    ∙ ap (λ (x : List ℕ). four (to_be_bytes w32 sectors) (eight x (eight c (four t [])))) is_s
    ∙ ap (λ (x : List ℕ). four (to_be_bytes w32 sectors) (eight (to_be_bytes w64 sequence) (eight x (four t [])))) is_c
    ∙ ap (λ (x : List ℕ). four (to_be_bytes w32 sectors) (eight (to_be_bytes w64 sequence) (eight (to_be_bytes w64 checkpoint) (four x [])))) is_t

pub snapshot_header_is : (c p u : List ℕ) (checkpoint place used : ℕ) → c ≡ to_be_bytes w64 checkpoint → p ≡ to_be_bytes w64 place → u ≡ to_be_bytes w16 used → 73 ∷ 77 ∷ 83 ∷ 83 ∷ 0 ∷ 0 ∷ 0 ∷ 0 ∷ eight c (eight p (two u (0 ∷ 0 ∷ 0 ∷ 0 ∷ 0 ∷ 0 ∷ []))) ≡ snapshot_header checkpoint place used
unfolding snapshot_header
snapshot_header_is c p u checkpoint place used is_c is_p is_u =
    let F : List ℕ → List ℕ → List ℕ → List ℕ = λ c p u. 73 ∷ 77 ∷ 83 ∷ 83 ∷ 0 ∷ 0 ∷ 0 ∷ 0 ∷ eight c (eight p (two u (0 ∷ 0 ∷ 0 ∷ 0 ∷ 0 ∷ 0 ∷ []))) in
    ap (λ (x : List ℕ). F x p u) is_c ∙ ap (λ (x : List ℕ). F (to_be_bytes w64 checkpoint) x u) is_p ∙ ap (λ (x : List ℕ). F (to_be_bytes w64 checkpoint) (to_be_bytes w64 place) x) is_u

pub length-restart_front : (epoch snapshot log : ℕ) → length (restart_front epoch snapshot log) ≡ 20
unfolding restart_front
length-restart_front epoch snapshot log = refl

pub length-restart_back : (sectors sequence checkpoint text : ℕ) → length (restart_back sectors sequence checkpoint text) ≡ 24
unfolding restart_back
length-restart_back sectors sequence checkpoint text = refl

pub length-snapshot_header : (checkpoint place used : ℕ) → length (snapshot_header checkpoint place used) ≡ 32
unfolding snapshot_header
length-snapshot_header checkpoint place used = refl
