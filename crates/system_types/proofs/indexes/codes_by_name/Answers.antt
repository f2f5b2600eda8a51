use Rattle.model_system.specs.declared.code.Code.{Code}
use Rattle.system_types.specs.Indexes.{has_code_name}
use Rattle.system_types.proofs.Indexed.{named_more, one_more}
use Rattle.system_types.proofs.indexes.codes_by_name.Goals as goal

pub loop-place-preserved : goal.loop-place-preserved
loop-place-preserved c = record {
  index = one_more has_code_name c.loop-place.index c.add_name.new.index c.args.codes.now c.loop-place.place c.index-codes-place.result c.loop-place-test.true c.index-codes-place.is c.loop-place.invariant.index c.in_ok-add_name.ensures.ok;
  named = named_more (λ (c : Code). c.transaction.code) c.args.codes.now c.loop-place.place c.index-codes-place.result c.loop-place-test.true c.index-codes-place.is c.loop-place.invariant.named c.in_ok-add_name.ensures.named;
}
