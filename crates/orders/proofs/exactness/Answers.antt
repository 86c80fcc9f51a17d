-- What the tree's nodes list and show is exact for all rules.
use Rattle.orders.proofs.Nodes.{exact_nodes, exact_seconds}
use Rattle.orders.proofs.Theorems.{exact_orders}
use Rattle.orders.proofs.exactness.Goals as goal

pub returns : goal.returns
returns g c = record { orders = exact_orders _; nodes = exact_nodes _; seconds = exact_seconds _ }
