-- Service takes no time.
use Rattle.std.proofs.Common.{sym}
use Rattle.orders.proofs.Steps.{departs_at_once}
use Rattle.growth.proofs.walk.departure.Goals as goal

pub returns : goal.returns
returns c = sym (departs_at_once c.args.second)
