-- No shortcut was passed, and none is found before the loops are left.
use Rattle.std.proofs.Common.{◌≡◌, Ok}
use Rattle.roads.specs.Tables.{NoShortcut, table_trip}
use Rattle.roads.proofs.table.square.SquareTable.check_detours.Given as goal

abbrev pub invariant-triples : goal.invariant-triples
invariant-triples l = (l.detour ≡ Ok tt) × NoShortcut l.self.places (table_trip l.self.places l.self.seconds.now) l.from 0 0

abbrev pub invariant-loop-via : goal.invariant-loop-via
invariant-loop-via l = (l.detour ≡ Ok tt) × NoShortcut l.self.places (table_trip l.self.places l.self.seconds.now) l.from l.via 0

abbrev pub invariant-loop-to : goal.invariant-loop-to
invariant-loop-to l = (l.detour ≡ Ok tt) × NoShortcut l.self.places (table_trip l.self.places l.self.seconds.now) l.from l.via l.to
