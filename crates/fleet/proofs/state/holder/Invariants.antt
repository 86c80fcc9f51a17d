use Rattle.std.proofs.Common.{◌≡◌, drop}
use Rattle.fleet.specs.States.{holder_of}
use Rattle.fleet.proofs.state.holder.Given as goal

abbrev pub invariant-loop-i : goal.invariant-loop-i
invariant-loop-i l = holder_of l.n l.i (drop l.i l.vans) ≡ holder_of l.n 0 l.vans
