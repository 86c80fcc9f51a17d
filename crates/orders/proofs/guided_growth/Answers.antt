-- Guided growth holds under lawful rules, as these are.
use Rattle.orders.proofs.Theorems.{guides}
use Rattle.orders.proofs.guided_growth.Goals as goal

pub returns : goal.returns
returns g c = guides _ (record { roads = g.met.R.Roads.lawful c.args.roads.now; exchange = g.met.S.Stowage.exchange c.args.rule.now })
