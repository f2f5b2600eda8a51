-- What is so where there was no room.
use Rattle.std.specs.Prelude.{Result, Ok, Err, IfErr}
use Rattle.log_records.specs.declared.untold.Untold.{Untold}
use Rattle.lasting_state.specs.UntoldSteps.{WhereFull}
use Rattle.lasting_state.proofs.Told.{where_full}

pub err_where : {A P Q : Type 0} (result : Result A Untold) → (P → Q) → IfErr result (WhereFull P) → IfErr result (WhereFull Q)
err_where (Ok value) f h = h
err_where (Err error) f h = where_full error f h
