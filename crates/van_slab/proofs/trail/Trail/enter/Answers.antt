-- A node is written below the nodes above it, and is refused where it cannot follow.
use Rattle.std.proofs.Common.{◌≡◌, false, length, take, sym, arith}
use Rattle.std.proofs.lemmas.List.{length-take-le}
use Rattle.std.proofs.lemmas.Bool.{false≢true}
use Rattle.van_slab.specs.Trails.{follows}
use Rattle.van_slab.proofs.Entered.{can_follow, no_span, no_depth, too_far, too_deep, written}
use Rattle.van_slab.proofs.trail.Trail.enter.Goals as goal
use Rattle.van_slab.proofs.trail.Trail.enter.Goals.{then-node-eq0-via-then-node-eq0, then-node-eq0-via-else-node-eq0+then-depth-eq0, then-node-eq0-via-else-node-eq0+else-depth-eq0+then-depth-self, then-node-eq0-via-else-node-eq0+else-depth-eq0+else-depth-self+then-depth-gt-MOST_STOPS}

pub returns-then-node-eq0 : goal.returns-then-node-eq0
returns-then-node-eq0 c =
    let t = take c.args.self.now.stops c.args.self.now.nodes in
    let x = c.args.node in
    let e : length t ≡ c.args.self.now.stops = length-take-le _ c.args.self.now.nodes (omega arith) in
    let refused : follows t x ≡ false =
    elim c.then-node-eq0.branch [
      | then-node-eq0-via-then-node-eq0 w ↦ no_span t x w.if-node-eq0.true
      | then-node-eq0-via-else-node-eq0+then-depth-eq0 w ↦ no_depth t x w.if-depth-eq0.true
      | then-node-eq0-via-else-node-eq0+else-depth-eq0+then-depth-self w ↦ too_far t x (omega (arith, w.if-depth-self.true))
      | then-node-eq0-via-else-node-eq0+else-depth-eq0+else-depth-self+then-depth-gt-MOST_STOPS w ↦ too_deep t x w.if-depth-gt-MOST_STOPS.true
    ] in
    record { answer = sym refused; moved = λ z. absurd (false≢true z) }

pub returns : goal.returns
returns c =
    let t = take c.args.self.now.stops c.args.self.now.nodes in
    let e : length t ≡ c.args.self.now.stops = length-take-le _ c.args.self.now.nodes (omega arith) in record {
      answer = sym (can_follow t c.args.node (record { spans = omega arith; below = omega arith; near = omega arith; most = omega arith }));
      moved = λ z. written c.args.self.now.nodes c.args.self.now.stops c.args.node (omega arith) (omega arith) (omega arith);
    }
