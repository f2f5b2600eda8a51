use Rattle.image_reading.proofs.Walk.{stops, goes_further}
use Rattle.image_reading.proofs.rest.is_front.Goals as goal

pub returns-in-None : goal.returns-in-None
returns-in-None c = stops c.args.missing c.args.layout.now c.args.bytes.now c.loop-byte.current c.loop-byte.place c.loop-byte.byte-index c.loop-byte.invariant c.loop-byte-test.true c.in-None.ensures

pub loop-byte-preserved : goal.loop-byte-preserved
loop-byte-preserved c =
    goes_further c.args.missing c.args.layout.now c.args.bytes.now c.loop-byte.current c.loop-byte.place c.loop-byte.byte-index c.loop-byte.invariant c.loop-byte-test.true c.in-Some.left c.in-Some.behind c.in-Some.ensures
