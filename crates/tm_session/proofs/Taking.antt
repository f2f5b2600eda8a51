-- What is taken from a source is taken from its front.
use Rattle.std.proofs.Common.{◌≡◌, ℕ, List, [], ◌∷◌, ◌++◌, ◌+◌, take, sym, ◌∙◌, ap, refl, append_assoc}
use Rattle.std.proofs.lemmas.List.{take-append-drop}
use Rattle.std.specs.Prelude.{Option, Some, None}
use Rattle.tm_edge.specs.Lines.{ServesTold, line_size, unread}
use Rattle.tm_session.specs.declared.outcome.Ended.{Ended}
use Rattle.tm_session.specs.declared.outcome.Ended.TheVariants.{Done, Words, BadLine, BadCross, Down, Read, Write, Image, Memory, Limit, Spent}
use Rattle.tm_session.specs.Outcome.{IsTextBack, IsReadToEnd}

pub back_same : (old new : Option (List ℕ)) → new ≡ old → IsTextBack old new
back_same (Some bytes) (Some others) e = let same : others ≡ bytes = cc in ([], sym same)
back_same (Some bytes) None e = cc
back_same None new e = e

pub back_served : (old : Option (List ℕ)) (line : Option (List ℕ)) (new : Option (List ℕ)) → ServesTold old line new → IsTextBack old new
back_served (Some before) (Some text) (Some after) h =
    (take (line_size before + 1) before, sym (take-append-drop (line_size before + 1) before) ∙ ap (λ rest. take (line_size before + 1) before ++ rest) (sym h.rest))
back_served (Some before) None (Some after) h = ([], h.0 ∙ sym h.1)
back_served (Some before) line None h = absurd h
back_served None line new h = h

pub back_twice : (first second third : Option (List ℕ)) → IsTextBack first second → IsTextBack second third → IsTextBack first third
back_twice (Some a) (Some b) (Some c) (x, e) (y, f) = (x ++ y, e ∙ ap (λ r. x ++ r) f ∙ sym (append_assoc x y c))
back_twice (Some a) (Some b) None h k = absurd k
back_twice (Some a) None third h k = absurd h
back_twice None (Some b) third h k = cc
back_twice None None third h k = k

-- the bytes that a reader holds were taken too
pub back_held : (old : Option (List ℕ)) (held : List ℕ) (left : Option (List ℕ)) → IsTextBack old (unread held left) → IsTextBack old left
back_held (Some bytes) held (Some rest) (x, e) = (x ++ held, e ∙ sym (append_assoc x held rest))
back_held (Some bytes) held None h = absurd h
back_held None held (Some rest) h = cc
back_held None held None h = refl

none_left : (held rest : List ℕ) → held ++ rest ≡ [] → rest ≡ []
none_left [] rest h = h
none_left (b ∷ held) rest h = cc

pub whole_held : (ended : Ended) (held : List ℕ) (left : Option (List ℕ)) → IsReadToEnd ended (unread held left) → IsReadToEnd ended left
whole_held Done held (Some rest) h = none_left held rest h
whole_held Done held None h = h
whole_held (Words word rule) held left h = h
whole_held (BadLine line rule) held left h = h
whole_held (BadCross line rule) held left h = h
whole_held Spent held left h = h
whole_held (Image refusal) held left h = h
whole_held Down held (Some rest) h = none_left held rest h
whole_held Down held None h = h
whole_held Read held left h = h
whole_held Write held left h = h
whole_held Memory held left h = h
whole_held (Limit n) held left h = h

-- a reader that holds no byte at first
pub back_whole : (held : List ℕ) (old : Option (List ℕ)) (rest : List ℕ) (new : Option (List ℕ)) → held ≡ [] → IsTextBack (unread held old) (unread rest new) → IsTextBack old new
back_whole [] (Some bytes) rest new none h = back_held (Some bytes) rest new h
back_whole [] None rest new none h = back_held None rest new h
back_whole (b ∷ held) old rest new none h = cc
