-- The walk begins with one frame that owes the whole row, and ends with none.
use Rattle.std.proofs.Common.{refl, subst, arith}
use Rattle.growth.specs.Grounds.{rules_of}
use Rattle.growth.specs.Frames.{AllStand}
use Rattle.growth.proofs.Stacks.{stand_under, stand_top, underway_first}
use Rattle.growth.proofs.tally.Growth.write.Goals as goal

pub loop-frame-init : goal.loop-frame-init
loop-frame-init g c =
    underway_first (rules_of g.R.Roads g.S.Stowage c.args.self.ground) c.args.self.fresh c.args.nodes.now (record { old = c.args.self.old; position = c.args.self.position; next = 0 })
    c.requires.sound refl c.new-stack.result.items c.push.new.self.items c.new-stack.ensures c.push.ensures.items

pub turn-count-requires-clause-under : goal.turn-count-requires-clause-under
turn-count-requires-clause-under g c = stand_under 0 c.pop.new.self.items c.in-Some.frame (subst (AllStand 0) c.in-Some.ensures.items c.loop-frame.invariant.stand)

pub turn-count-requires-clause-top : goal.turn-count-requires-clause-top
turn-count-requires-clause-top g c = stand_top _ 0 c.pop.new.self.items c.in-Some.frame (omega arith) (subst (AllStand 0) c.in-Some.ensures.items c.loop-frame.invariant.stand)
