-- What the best so far becomes with the orders that are left is what it becomes with all; each turn reads an order.
use Rattle.std.proofs.Common.{◌≡◌, [], None, length}
use Rattle.van_slab.specs.Trails.{trails}
use Rattle.van_slab.specs.Reading.{trails_left}
use Rattle.van_slab.proofs.Best.{running}
use Rattle.van_slab.proofs.reading.cheapest_order.Given as goal

abbrev pub invariant-loop-cost : goal.invariant-loop-cost
invariant-loop-cost l = running l.best (trails_left l.orders) ≡ running None (trails [] l.slab)

abbrev pub decreases-loop-cost : goal.decreases-loop-cost
decreases-loop-cost l = length (trails_left l.orders)
