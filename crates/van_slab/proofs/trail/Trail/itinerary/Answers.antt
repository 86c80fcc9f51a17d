-- The itinerary tells the trail's nodes, and no more.
use Rattle.std.proofs.Common.{rules}
use Rattle.van_slab.specs.Reading.{walked}
use Rattle.van_slab.proofs.Told.{visits_told, told_of}
use Rattle.van_slab.proofs.trail.Trail.itinerary.Goals as goal

pub returns : goal.returns
returns c = told_of (walked c.args.self.now) c.cost.ensures (search rules) (visits_told (walked c.args.self.now) _ _ (λ i y q k. search rules) c.from_fn.ensures.items (search rules))
