-- The numbers of a walk fit under lawful rules, as these are.
use Rattle.orders.specs.Rules.{rules}
use Rattle.orders.proofs.Numbers.{numbers}
use Rattle.orders.proofs.numbers_fit.Goals as goal

pub returns : goal.returns
returns g c = numbers (rules g.R.Roads g.S.Stowage c.args.roads.now c.args.rule.now) (record { roads = g.met.R.Roads.lawful c.args.roads.now; exchange = g.met.S.Stowage.exchange c.args.rule.now })
