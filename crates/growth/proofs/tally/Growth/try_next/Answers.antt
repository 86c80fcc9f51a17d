-- A stop to go on with is a root if an order goes on from it; else nothing grows from it.
use Rattle.growth.specs.Grounds.{rules_of}
use Rattle.growth.proofs.Turns.{nothing_grows, stuck_there, rooted_there}
use Rattle.growth.proofs.tally.Growth.try_next.Goals as goal

pub returns-in_err-least : goal.returns-in_err-least
returns-in_err-least g c =
    let self = c.args.self.now in
    let rules = rules_of g.R.Roads g.S.Stowage self.ground in
    nothing_grows rules self.fresh self.old.now self.position c.requires.sound c.args.i c.requires.within _ c.from_residual-in_err-least.ensures
    (stuck_there rules self.fresh self.old.now self.position c.requires.sound c.args.i c.requires.within c.in_ok-visit.field-0 c.in_ok-visit.ensures
    c.tally-below.result c.tally-below.ensures c.in_err-least.was)

pub returns : goal.returns
returns g c =
    let self = c.args.self.now in
    let rules = rules_of g.R.Roads g.S.Stowage self.ground in
    rooted_there rules self.fresh self.old.now self.position c.requires.sound c.args.i c.requires.within c.in_ok-visit.field-0 c.in_ok-visit.ensures
    c.in_ok-booking.booking c.in_ok-booking.was c.tally-below.result c.tally-below.ensures c.in_ok-least.least c.in_ok-least.was
