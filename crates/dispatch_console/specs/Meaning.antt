-- Defines which request a command stands for.
use Rattle.console.specs.Meaning as console
use Rattle.dispatch_console.specs.declared.command.Command.{Command}
use Rattle.dispatch_console.specs.declared.command.Command.TheVariants as command
use Rattle.dispatch_console.specs.Lines.{Asked, plain, help, nodes, make, call}

abbrev pub meaning : Command → Asked
meaning (command.Plain c) = plain (console.meaning c)
meaning command.Help = help
meaning (command.Nodes count) = nodes count
meaning (command.Make size) = make size
meaning (command.Call c) = call c
