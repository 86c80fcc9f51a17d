-- Defines which request a command stands for.
use Rattle.std.specs.Prelude.{vec_items}
use Rattle.console.specs.declared.command.Command.{Command}
use Rattle.console.specs.declared.command.Command.TheVariants as command
use Rattle.console.specs.Lines.{Asked, nothing, unclear, table, grid, rule, quote}

abbrev pub meaning : Command → Asked
meaning command.Nothing = nothing
meaning command.Unclear = unclear
meaning (command.Table places seconds) = table places (vec_items seconds)
meaning (command.Grid columns rows east south) = grid columns rows east south
meaning (command.Rule r) = rule r
meaning (command.Quote from to figures) = quote from to figures
