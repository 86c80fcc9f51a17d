-- Each slab is filled by a tree that is counted out.
use Rattle.orders.proofs.Sizes.{fills_slab}
use Rattle.orders.proofs.slab_is_filled.Goals as goal

pub returns : goal.returns
returns c = fills_slab
