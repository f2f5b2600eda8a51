-- Sessions, one behind another.
use Rattle.std.proofs.Common.{List, [], ◌∷◌, ◌++◌, sym, ◌∙◌, ap, subst, append_assoc, ℕ}
use Rattle.model_session.specs.Blocks.{Block}
use Rattle.model_session.specs.SessionState.{Setting, SessionState}
use Rattle.model_session.specs.Session.{AreServed}

-- blocks, and others from where they lead
pub served_on : (setting : Setting) (blocks others : List Block) (old mid new : SessionState) (first later : List ℕ)
    → AreServed setting blocks old mid first → AreServed setting others mid new later
    → AreServed setting (blocks ++ others) old new (first ++ later)
served_on setting [] others old mid new first later (here, empty) on =
    subst (λ m. AreServed setting others m new (first ++ later)) here (subst (λ t. AreServed setting others mid new (t ++ later)) (sym empty) on)
served_on setting (block ∷ blocks) others old mid new first later h on = record {
  mid = h.mid;
  first = h.first;
  later = h.later ++ later;
  here = h.here;
  printed = ap (λ t. t ++ later) h.printed ∙ append_assoc h.first h.later later;
  on = served_on setting blocks others h.mid mid new h.later later h.on on;
}
