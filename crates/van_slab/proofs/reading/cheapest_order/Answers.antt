-- With no order left, the best so far is the first order of least cost.
use Rattle.std.proofs.Common.{sym, ap, ◌∙◌}
use Rattle.van_slab.proofs.Best.{running, running_cheapest}
use Rattle.van_slab.proofs.reading.cheapest_order.Goals as goal

pub returns : goal.returns
returns c = sym (ap (running c.loop-cost.best) c.in_default.ensures.steps.0) ∙ c.loop-cost.invariant ∙ running_cheapest _
