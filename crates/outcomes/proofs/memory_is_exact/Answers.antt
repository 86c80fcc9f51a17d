-- Settled memory is exact for all rules.
use Rattle.outcomes.proofs.Exactly.{exact_of}
use Rattle.outcomes.proofs.memory_is_exact.Goals as goal

pub returns : goal.returns
returns g c = exact_of _
