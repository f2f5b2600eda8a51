use Rattle.std.proofs.Common.{◌≡◌, refl, ◌++◌, ◌+◌, [], replicate, List, ℕ, subst}
use Rattle.std.proofs.lemmas.List.{append_assoc, replicate-append-replicate}
use Rattle.tm_types.proofs.segment.Segments.push_empty.Goals as goal

-- empty texts behind empty texts
more_empty : (xs : List (List ℕ)) (m n : ℕ) → xs ++ replicate (m + n) [] ≡ xs ++ replicate m [] ++ replicate n []
more_empty xs m n = rw (append_assoc xs (replicate m []) (replicate n [])) (rw (replicate-append-replicate m n (let e : List ℕ = [] in e)) refl)

pub returns-in-Some-clause-ok : goal.returns-in-Some-clause-ok
returns-in-Some-clause-ok c =
    subst (λ xs. c.self.inside.items.items ++ replicate (c.self.inside.more + c.args.count) [] ≡ xs ++ replicate c.args.count [])
    c.self.view_is (more_empty c.self.inside.items.items c.self.inside.more c.args.count)
