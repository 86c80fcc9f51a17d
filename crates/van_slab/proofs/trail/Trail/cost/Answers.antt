-- The cost of a trail is that of its last node.
use Rattle.std.proofs.Common.{rules}
use Rattle.van_slab.specs.Reading.{walked}
use Rattle.van_slab.proofs.Told.{last_cost}
use Rattle.van_slab.proofs.trail.Trail.cost.Goals as goal

pub returns : goal.returns
returns c = last_cost (walked c.args.self.now) c.last.result c.map_or.result (search rules) (search rules)
