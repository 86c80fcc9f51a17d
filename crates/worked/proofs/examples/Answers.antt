-- The rows hold.
use Rattle.std.proofs.Common.{refl}
use Rattle.worked.proofs.Rows.{rows_hold}
use Rattle.worked.proofs.examples.Goals as goal

pub returns : goal.returns
returns c = record { count = refl; each = rows_hold }
