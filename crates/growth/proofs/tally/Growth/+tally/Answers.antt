-- Each turn adds the tally of one root, or nothing.
use Rattle.std.proofs.Common.{◌+◌, Some, refl, drop, arith, ◌∙◌}
use Rattle.growth.specs.Grounds.{rules_of}
use Rattle.growth.specs.Positions.{compact, walk_of}
use Rattle.growth.proofs.Tallies.{tally_nothing, tallied_same, tallied_more}
use Rattle.growth.proofs.Turns.{root_small, small_so_far, all_tried, stuck_there, rooted_there}
use Rattle.growth.proofs.tally.Growth.+tally.Goals as goal
use Rattle.growth.proofs.tally.Growth.+tally.Goals.{in_Some-branch+in-Some, in_Some-branch+in_default, in_default-branch}

pub returns-then-nothing_open : goal.returns-then-nothing_open
returns-then-nothing_open g t c =
    let self = c.args.self.now in
    tally_nothing (rules_of g.R.Roads g.S.Stowage self.ground) self.fresh self.old.now (walk_of self.position) c.if-nothing_open.ensures

pub overflow_add-count : goal.overflow_add-count
overflow_add-count g t c =
    let self = c.args.self.now in
    let rules = rules_of g.R.Roads g.S.Stowage self.ground in
    let x = c.in_Some-branch.ensures in
    let root = rooted_there rules self.fresh self.old.now self.position c.requires c.loop-i.i c.loop-i-test.true c.in_Some-branch.branch x x.booking x.its
    c.tally-below.result c.tally-below.ensures c.in-Some.cost c.in-Some.is in
    let few = root_small rules self.fresh self.old.now self.position _ root in
    omega arith

pub overflow_add-count-in-Some : goal.overflow_add-count-in-Some
overflow_add-count-in-Some g t c =
    let self = c.args.self.now in
    let rules = rules_of g.R.Roads g.S.Stowage self.ground in
    let x = c.in_Some-branch.ensures in
    let root = rooted_there rules self.fresh self.old.now self.position c.requires c.loop-i.i c.loop-i-test.true c.in_Some-branch.branch x x.booking x.its
    c.tally-below.result c.tally-below.ensures c.in-Some.cost c.in-Some.is in
    let few = root_small rules self.fresh self.old.now self.position _ root in
    let so_far = small_so_far rules self.fresh self.old.now self.position c.requires (compact (drop c.loop-i.i self.position.bookings)) c.loop-i.count c.loop-i.least c.loop-i.invariant in
    omega arith

pub loop-i-preserved : goal.loop-i-preserved
loop-i-preserved g t c =
    let self = c.args.self.now in
    let rules = rules_of g.R.Roads g.S.Stowage self.ground in
    let here = compact (drop c.loop-i.i self.position.bookings) in
    let next = compact (drop (c.loop-i.i + 1) self.position.bookings) in
    elim c.match-branch.branch [
      | in_Some-branch+in-Some w ↦
          (let x = w.in_Some-branch.ensures in
          let root = rooted_there rules self.fresh self.old.now self.position c.requires c.loop-i.i c.loop-i-test.true w.in_Some-branch.branch x x.booking x.its
          w.tally-below.result w.tally-below.ensures w.in-Some.cost w.in-Some.is in
          tallied_more rules self.fresh self.old.now (walk_of self.position) x.booking w.in_Some-branch.branch.visit.second here next (walk_of w.in_Some-branch.branch.visit.position) w.in_Some-branch.branch.old.now
          (record { count = w.tally-below.result.count; least = Some w.in-Some.cost }) root.below w.in-Some.cost refl root.stands
          c.loop-i.count c.match-branch.count c.loop-i.least c.match-branch.least w.count-is (w.least-is ∙ w.least_with-least.ensures) c.loop-i.invariant)
      | in_Some-branch+in_default w ↦
          tallied_same rules self.fresh self.old.now (walk_of self.position) here next
          c.loop-i.count c.match-branch.count c.loop-i.least c.match-branch.least
          (stuck_there rules self.fresh self.old.now self.position c.requires c.loop-i.i c.loop-i-test.true w.in_Some-branch.branch w.in_Some-branch.ensures
          w.tally-below.result w.tally-below.ensures w.in_default.is)
          w.count-is w.least-is c.loop-i.invariant
      | in_default-branch w ↦
          tallied_same rules self.fresh self.old.now (walk_of self.position) here next
          c.loop-i.count c.match-branch.count c.loop-i.least c.match-branch.least w.in_default-branch.ensures w.count-is w.least-is c.loop-i.invariant
    ]

pub returns : goal.returns
returns g t c =
    let self = c.args.self.now in
    all_tried (rules_of g.R.Roads g.S.Stowage self.ground) self.fresh self.old.now self.position c.requires
    c.loop-i.i c.loop-i.count c.loop-i.least c.if-nothing_open.ensures c.loop-i-test.false c.loop-i.invariant
