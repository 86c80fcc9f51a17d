-- The loads that are stowed so far, and those yet to come.
use Rattle.std.proofs.Common.{◌≡◌, drop}
use Rattle.stowage.specs.Together.{stowed}
use Rattle.orders.specs.Bookings.{loads}
use Rattle.growth.specs.Positions.{compact}
use Rattle.growth.proofs.walk.stow_aboard.Given as goal

-- the loads yet to come, into the hold so far, end as all loads do from the empty hold
abbrev pub invariant-loop-booking : goal.invariant-loop-booking
invariant-loop-booking g l =
    stowed (g.S.Stowage.stow l.ground.rule.now) l.hold (loads (compact (drop l.booking-index l.bookings)))
    ≡ stowed (g.S.Stowage.stow l.ground.rule.now) (g.S.Stowage.empty l.ground.rule.now) (loads (compact l.bookings))
