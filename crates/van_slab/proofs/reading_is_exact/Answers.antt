-- Reading is exact for all rules.
use Rattle.van_slab.proofs.Exact.{exact_reading}
use Rattle.van_slab.proofs.reading_is_exact.Goals as goal

pub returns : goal.returns
returns g c = exact_reading _
