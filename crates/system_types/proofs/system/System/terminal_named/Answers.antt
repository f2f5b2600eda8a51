use Rattle.std.proofs.Common.{◌≡◌, ℕ, List, true, false}
use Rattle.system_types.proofs.Indexed.{unnamed}
use Rattle.system_types.proofs.system.System.terminal_named.Goals as goal

pub returns-in-None-clause-value : goal.returns-in-None-clause-value
returns-in-None-clause-value c =
    rw (← c.self.view_is) (unnamed (λ (name : List ℕ). name) c.args.word.now c.self.inside.parts.terminals.items c.self.invariant.5 (λ named. let clash : false ≡ true = c.in-None.ensures.valid.1 named in cc))
