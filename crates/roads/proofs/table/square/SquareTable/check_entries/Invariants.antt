-- No entry that was passed is bad.
use Rattle.roads.specs.Tables.{NoneBad}
use Rattle.roads.proofs.table.square.SquareTable.check_entries.Given as goal

abbrev pub invariant-loop-position : goal.invariant-loop-position
invariant-loop-position l = NoneBad l.self.places l.self.seconds.now l.position
