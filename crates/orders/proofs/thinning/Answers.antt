-- Thinning holds for all lawful rules, as these are.
use Rattle.orders.proofs.Theorems.{thins}
use Rattle.orders.proofs.thinning.Goals as goal

pub returns : goal.returns
returns g c = thins _ (record { roads = g.met.R.Roads.lawful c.args.roads.now; exchange = g.met.S.Stowage.exchange c.args.rule.now })
