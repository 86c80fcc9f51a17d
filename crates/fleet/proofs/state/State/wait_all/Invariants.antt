use Rattle.std.proofs.Common.{◌≡◌}
use Rattle.fleet.specs.States.{waited}
use Rattle.fleet.proofs.Vans.{changed_to}
use Rattle.fleet.proofs.state.State.wait_all.Given as goal

abbrev pub invariant-loop-slot : goal.invariant-loop-slot
invariant-loop-slot l = l.slot-items ≡ changed_to (waited l.time) l.initial.slot-items l.slot-index
