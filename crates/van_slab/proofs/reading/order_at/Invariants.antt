-- The order that is looked for stands so many places on among the orders that are left; each turn reads an order.
use Rattle.std.proofs.Common.{◌≡◌, [], length}
use Rattle.std.specs.List.{slice_get}
use Rattle.van_slab.specs.Trails.{trails}
use Rattle.van_slab.specs.Reading.{trails_left}
use Rattle.van_slab.proofs.reading.order_at.Given as goal

abbrev pub invariant-loop-cost : goal.invariant-loop-cost
invariant-loop-cost l = slice_get (trails_left l.orders) l.left ≡ slice_get (trails [] l.slab) l.index

abbrev pub decreases-loop-cost : goal.decreases-loop-cost
decreases-loop-cost l = length (trails_left l.orders)
