-- Plan and price are determined, since the listed orders are exact.
use Rattle.orders.proofs.Plans.{determined}
use Rattle.orders.proofs.Theorems.{exact_orders}
use Rattle.orders.proofs.plan_and_price_are_determined.Goals as goal

pub returns : goal.returns
returns g c = determined _ (exact_orders _)
