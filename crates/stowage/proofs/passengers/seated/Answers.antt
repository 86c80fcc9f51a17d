-- What was made passed the test.
use Rattle.stowage.specs.Options.{when_so}
use Rattle.stowage.proofs.passengers.seated.Goals as goal

pub returns-then-seats-wheelchairs-le8 : goal.returns-then-seats-wheelchairs-le8
returns-then-seats-wheelchairs-le8 c = when_so _ _ _
