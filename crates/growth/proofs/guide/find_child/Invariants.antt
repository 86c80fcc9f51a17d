-- The search goes from sibling to sibling.
use Rattle.std.proofs.Common.{◌≡◌, length}
use Rattle.orders.specs.Growth.{seek}
use Rattle.growth.proofs.guide.find_child.Given as goal

-- a seek from here on answers as one from the start
abbrev pub invariant-loop-node : goal.invariant-loop-node
invariant-loop-node l = seek (length l.rest) l.booking l.rest ≡ seek (length l.row) l.booking l.row

abbrev pub decreases-loop-node : goal.decreases-loop-node
decreases-loop-node l = length l.rest
