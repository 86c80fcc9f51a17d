-- While no order ends, the same orders are left; each turn reads a node.
use Rattle.std.proofs.Common.{◌≡◌, length}
use Rattle.van_slab.specs.Trails.{trails}
use Rattle.van_slab.specs.Reading.{walked, trails_left}
use Rattle.van_slab.proofs.reading.OrdersIterator.next.Given as goal

abbrev pub invariant-loop-node : goal.invariant-loop-node
invariant-loop-node l = trails (walked l.self.trail) l.nodes ≡ trails_left l.fn.self

abbrev pub decreases-loop-node : goal.decreases-loop-node
decreases-loop-node l = length l.nodes
