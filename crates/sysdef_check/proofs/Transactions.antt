-- The numbers of each code lie in their ranges.
use Rattle.std.proofs.Common.{ℕ, List, [], ◌∷◌, Option, Some, None, IfSome, All}
use Rattle.std.proofs.lemmas.List.Elements.{All-head, All-tail}
use Rattle.system_types.specs.declared.definition.Macro.{Macro}
use Rattle.system_types.specs.declared.definition.Macro.TheVariants.{Transaction}
use Rattle.system_types.specs.declared.definition.MacroLine.{MacroLine}
use Rattle.system_types.specs.Definitions.{IsInRange, IsTransaction}
use Rattle.sysdef_check.specs.Systems.{code_in, codes_in, psb_after}
use Rattle.sysdef_check.proofs.Made.{made_holds, none_holds}

code_in_range : (psb : Option (List ℕ)) (content : Macro) → IsInRange content → IfSome (code_in psb content) (λ code. IsTransaction code.transaction)
code_in_range None content h = tt
code_in_range (Some name) (Transaction transaction) h = h
code_in_range (Some name) _ h = tt

pub transactions_in_range : (lines : List MacroLine) (psb : Option (List ℕ)) → All (λ line. IsInRange line.content) lines → All (λ code. IsTransaction code.transaction) (codes_in psb lines)
transactions_in_range [] psb h = none_holds (λ code. IsTransaction code.transaction)
transactions_in_range (line ∷ lines) psb h =
    made_holds (λ code. IsTransaction code.transaction) (code_in psb line.content) (codes_in (psb_after psb line.content) lines)
    (code_in_range psb line.content (All-head (λ l. IsInRange l.content) line lines h)) (transactions_in_range lines (psb_after psb line.content) (All-tail (λ l. IsInRange l.content) line lines h))
