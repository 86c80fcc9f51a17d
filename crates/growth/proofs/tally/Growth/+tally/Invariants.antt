-- The calls end with the open stops, and the turns join the tallies of the bookings.
use Rattle.std.proofs.Common.{drop}
use Rattle.orders.specs.Bookings.{stops}
use Rattle.growth.specs.Grounds.{rules_of}
use Rattle.growth.specs.Positions.{compact, walk_of}
use Rattle.growth.proofs.Tallies.{Tallied}
use Rattle.growth.proofs.tally.Growth.+tally.Given as goal

-- each call of a tally from within another has one open stop less
abbrev pub decreases-tally : goal.decreases-tally
decreases-tally g l = stops (compact l.self.now.position.bookings)

-- the tally so far, joined with that of the bookings yet to come, is the whole tally
abbrev pub invariant-loop-i : goal.invariant-loop-i
invariant-loop-i g l =
    Tallied (rules_of g.R.Roads g.S.Stowage l.self.ground)
    l.self.fresh l.self.old.now (walk_of l.self.position) (compact (drop l.i l.self.position.bookings)) l.count l.least
