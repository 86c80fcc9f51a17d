-- Reading is bounded for all nodes.
use Rattle.van_slab.proofs.Bounds.{bounded_reading}
use Rattle.van_slab.proofs.reading_is_bounded.Goals as goal

pub returns : goal.returns
returns c = bounded_reading
