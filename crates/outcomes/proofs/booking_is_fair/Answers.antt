-- Booking is fair for all lawful rules, as these are.
use Rattle.outcomes.proofs.Fairly.{fair}
use Rattle.outcomes.proofs.booking_is_fair.Goals as goal

pub returns : goal.returns
returns g c = fair _ (record { roads = g.met.R.Roads.lawful c.args.roads.now; exchange = g.met.S.Stowage.exchange c.args.rule.now })
