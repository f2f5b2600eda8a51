use Rattle.std.proofs.Common.{◌≡◌, ◌++◌, take}
use Rattle.model_session.specs.Text.{segments_text}
use Rattle.session_text.proofs.reply.add_segments.Given as goal

abbrev pub invariant-loop-index : goal.invariant-loop-index
invariant-loop-index l = l.out.text ≡ l.fn.out.text ++ segments_text (take l.index l.segments)
