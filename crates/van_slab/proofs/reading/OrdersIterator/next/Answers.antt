-- The order that ends here costs as much as its last node.
use Rattle.std.proofs.Common.{rules, sym, ap, ◌∙◌}
use Rattle.van_slab.specs.Trails.{trail_cost}
use Rattle.van_slab.specs.Reading.{walked}
use Rattle.van_slab.proofs.Told.{leaf_cost}
use Rattle.van_slab.proofs.reading.OrdersIterator.next.Goals as goal

pub returns-then-ends_order-clause-steps : goal.returns-then-ends_order-clause-steps
returns-then-ends_order-clause-steps c =
    (search rules, sym (ap trail_cost (c.enter.ensures.moved c.if-not-enter.false) ∙ leaf_cost (walked c.loop-node.self.trail) c.in-Some.node.now))
