use Rattle.std.proofs.Common.{◌≡◌, true, false}
use Rattle.model_system.specs.declared.code.Code.{Code}
use Rattle.system_types.proofs.Indexed.{unnamed}
use Rattle.system_types.proofs.system.System.code_named.Goals as goal

pub returns-in-None-clause-value : goal.returns-in-None-clause-value
returns-in-None-clause-value c =
    rw (← c.self.view_is) (unnamed (λ (c : Code). c.transaction.code) c.args.word.now c.self.inside.parts.codes.items c.self.invariant.4 (λ named. let clash : false ≡ true = c.in-None.ensures.valid.1 named in cc))
