use Rattle.std.proofs.Common.{◌≡◌, map, take}
use Rattle.program_rows.specs.Isolation.{request_of}
use Rattle.program_rows.proofs.asked.requests_for.Given as goal

abbrev pub invariant-loop-need : goal.invariant-loop-need
invariant-loop-need l = l.requests.items ≡ map (request_of l.region l.number) (take l.need-index l.needs)
