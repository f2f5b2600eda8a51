use Rattle.std.proofs.Common.{length}
use Rattle.lasting_state.proofs.sending.+send_all.Given as goal

-- the outputs that are left
abbrev pub decreases-send_all : goal.decreases-send_all
decreases-send_all l = length l.outputs.items
