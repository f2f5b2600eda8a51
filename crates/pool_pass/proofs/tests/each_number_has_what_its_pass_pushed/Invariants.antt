use Rattle.pool_pass.proofs.tests.each_number_has_what_its_pass_pushed.Given as goal

-- the table of the new pool
abbrev pub ghosts-served_by_three : goal.ghosts-served_by_three
ghosts-served_by_three g a = record { table = a.new.table }
