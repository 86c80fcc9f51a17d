-- Defines what memory holds once a row of nodes is written to it.
use Rattle.std.specs.Prelude.{ℕ, ◌+◌, List, ◌++◌, length, take, drop}
use Rattle.orders.specs.declared.Node.{Node}

-- the memory with these nodes written from a place on
abbrev pub pasted : List Node → ℕ → List Node → List Node
pasted memory at xs = take at memory ++ (xs ++ drop (at + length xs) memory)
