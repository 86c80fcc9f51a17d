-- What is written and what the frames owe make the whole row; each turn stores a node or tries one booking more.
use Rattle.std.proofs.Common.{◌+◌, ◌*◌, length}
use Rattle.growth.specs.Grounds.{rules_of}
use Rattle.growth.specs.Positions.{walk_of}
use Rattle.growth.specs.Guides.{grown_row}
use Rattle.growth.specs.Frames.{owed, slack}
use Rattle.growth.proofs.Stacks.{Underway}
use Rattle.growth.proofs.tally.Growth.write.Given as goal

-- what is written and what is owed make the whole row together
abbrev pub invariant-loop-frame : goal.invariant-loop-frame
invariant-loop-frame g l =
    let rules = rules_of g.R.Roads g.S.Stowage l.self.ground in
    Underway rules l.self.fresh (grown_row rules l.self.fresh l.self.old.now (walk_of l.self.position)) l.initial.nodes l.stack.items l.nodes l.count

-- each turn stores a node or tries one booking more
abbrev pub decreases-loop-frame : goal.decreases-loop-frame
decreases-loop-frame g l = 6 * length (owed (rules_of g.R.Roads g.S.Stowage l.self.ground) l.self.fresh 1 l.stack.items) + slack l.stack.items
