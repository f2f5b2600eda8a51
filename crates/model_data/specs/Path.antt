-- Paths of segments, and hierarchic order.
use Rattle.std.specs.Prelude.{◌≡◌, ℕ, List, [], ◌∷◌, length, IsSomeAnd}
use Rattle.std.specs.declared.cmp.Ordering.{Ordering}
use Rattle.std.specs.Ordering.{nat_cmp, ordering_then}
use Rattle.std.specs.Cmp.Lexicographic.{slice_cmp}
use Rattle.tm_types.specs.declared.dbd.SegType.{SegType}
use Rattle.tm_types.specs.SegTypes.{type_at}

-- keys are compared by their bytes
abbrev pub key_cmp : List ℕ → List ℕ → Ordering
key_cmp a b = slice_cmp nat_cmp a b

-- the type goes before the key
abbrev pub pair_cmp : ℕ × List ℕ → ℕ × List ℕ → Ordering
pair_cmp p q = ordering_then (nat_cmp p.0 q.0) (key_cmp p.1 q.1)

-- hierarchic order: paths are compared pair by pair, and a prefix comes first
abbrev pub path_cmp : List (ℕ × List ℕ) → List (ℕ × List ℕ) → Ordering
path_cmp a b = slice_cmp pair_cmp a b

-- the key of the root, which is that of the record
abbrev pub root_of : List (ℕ × List ℕ) → List ℕ
root_of [] = []
root_of (p ∷ path) = p.1

-- the type of the segment to which a path leads; 0 is above the root
abbrev pub end_type : List (ℕ × List ℕ) → ℕ
end_type [] = 0
end_type (p ∷ []) = p.0
end_type (p ∷ q ∷ path) = end_type (q ∷ path)

-- the key of the segment to which a path leads
abbrev pub end_key : List (ℕ × List ℕ) → List ℕ
end_key [] = []
end_key (p ∷ []) = p.1
end_key (p ∷ q ∷ path) = end_key (q ∷ path)

-- the path of the parent, that without the last pair
abbrev pub parent_path : List (ℕ × List ℕ) → List (ℕ × List ℕ)
parent_path [] = []
parent_path (p ∷ []) = []
parent_path (p ∷ q ∷ path) = p ∷ parent_path (q ∷ path)

-- a segment of type t and key k may stand below one of this type
abbrev pub IsChild : List SegType → ℕ → ℕ × List ℕ → Type 0
IsChild types above p = IsSomeAnd (type_at types p.0) (λ s. (s.parent ≡ above) × (length p.1 ≡ s.key))

-- the path goes on from a segment of this type: each type's parent is the one before, and each key
-- has as many bytes as its type says
abbrev pub IsPathBelow : List SegType → ℕ → List (ℕ × List ℕ) → Type 0
IsPathBelow types above [] = Unit {0}
IsPathBelow types above (p ∷ path) = IsChild types above p × IsPathBelow types p.0 path

-- a path of the database goes down from above the root, and isn't empty
abbrev pub IsPath : List SegType → List (ℕ × List ℕ) → Type 0
IsPath types [] = ⊥
IsPath types (p ∷ path) = IsPathBelow types 0 (p ∷ path)
