use Rattle.pool_pass.proofs.tests.a_pass_waits_for_another.Given as goal

-- the table of the new pool
abbrev pub ghosts-taken_in_turn : goal.ghosts-taken_in_turn
ghosts-taken_in_turn g a = record { table = a.new.table }
