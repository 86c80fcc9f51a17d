-- The moves let no order in under lawful rules, as these are.
use Rattle.orders.proofs.Theorems.{moves}
use Rattle.orders.proofs.moves_let_no_order_in.Goals as goal

pub returns : goal.returns
returns g c = moves _ (record { roads = g.met.R.Roads.lawful c.args.roads.now; exchange = g.met.S.Stowage.exchange c.args.rule.now })
