use Rattle.pool_pass.proofs.tests.a_thousand_calls_by_eight_passes.Given as goal

-- the table of the new pool
abbrev pub ghosts-served_by_eight : goal.ghosts-served_by_eight
ghosts-served_by_eight g a = record { table = a.new.table }
