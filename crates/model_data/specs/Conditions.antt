-- What holds of a call and of a position that a program may have.
use Rattle.std.specs.Prelude.{◌≡◌, ℕ, List, [], ◌∷◌, IfSome, IsSomeAnd, IsTrue}
use Rattle.std.specs.List.{list_all}
use Rattle.tm_types.specs.declared.dbd.SegType.{SegType}
use Rattle.tm_types.specs.declared.function.Function.{Function}
use Rattle.tm_types.specs.declared.function.Function.TheVariants.{ISRT}
use Rattle.tm_types.specs.declared.ssa.Ssa.{Ssa}
use Rattle.tm_types.specs.declared.ssa.KeyTest.{KeyTest}
use Rattle.tm_types.specs.declared.ssa.KeyTest.TheVariants.{Any, Equal, AtLeast}
use Rattle.tm_types.specs.Segment.{is_printable}
use Rattle.tm_types.specs.SegTypes.{type_at}
use Rattle.model_data.specs.Path.{IsPath}
use Rattle.model_data.specs.declared.call.DbCall.{DbCall}
use Rattle.model_data.specs.declared.call.Position.{Position}
use Rattle.model_data.specs.Search.{number_named}

-- the paths of a position are paths of the database
pub record IsPosition (types : List SegType) (at : Position) : Type 0 where
  pub position : IfSome at.position (IsPath types)
  pub parentage : IfSome at.parentage (IsPath types)
  pub hold : IfSome at.hold (IsPath types)

-- an argument asks for a key by `=`
abbrev pub AsksByKey : KeyTest → Type 0
AsksByKey Any = ⊥
AsksByKey (Equal x) = Unit {0}
AsksByKey (AtLeast x) = ⊥

-- an argument names a type whose parent is this one
abbrev pub NamesChild : List SegType → ℕ → Ssa → Type 0
NamesChild types above ssa = IsSomeAnd (type_at types (number_named types ssa.segment)) (λ s. s.parent ≡ above)

-- the arguments of an ISRT: one for each level from the root down, each by `=` but the last, which
-- is a name alone
abbrev pub AreInsertSsas : List SegType → ℕ → List Ssa → Type 0
AreInsertSsas types above [] = ⊥
AreInsertSsas types above (ssa ∷ []) = NamesChild types above ssa × (ssa.test ≡ Any)
AreInsertSsas types above (ssa ∷ next ∷ ssas) =
    NamesChild types above ssa × AsksByKey ssa.test × AreInsertSsas types (number_named types ssa.segment) (next ∷ ssas)

abbrev pub AreSsasOf : Function → List SegType → List Ssa → Type 0
AreSsasOf ISRT types ssas = AreInsertSsas types 0 ssas
AreSsasOf _ types ssas = Unit {0}

-- a call that a program may make: the arguments of an ISRT are in order, and its data is printable
pub record IsDbCall (types : List SegType) (call : DbCall) : Type 0 where
  pub ssas : AreSsasOf call.function types call.ssas
  pub area : IsTrue (list_all is_printable call.area)
