-- What was made passed the test.
use Rattle.stowage.specs.Options.{when_so}
use Rattle.stowage.proofs.parcels.lifted.Goals as goal

pub returns-then-kilograms-le900 : goal.returns-then-kilograms-le900
returns-then-kilograms-le900 c = when_so _ _ _
