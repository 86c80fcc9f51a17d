-- Defines what a line of the day asks for.
use Rattle.std.specs.Prelude.{ℕ, cond, List, Some, None, Option, nat_le, slice_index, option_map, option_and_then, unwrap_or}
use Rattle.text.specs.Fields.{field_of, rest_of}
use Rattle.text.specs.Numbers.{numbers_of}
use Rattle.console.specs.Lines as console
use Rattle.console.specs.Lines.{exactly, figures_at}
use Rattle.fleet.specs.declared.call.Call.{Call}
use Rattle.fleet.specs.declared.call.Call.TheVariants.{Clock, Join, Leave, Book, Bound, Served, Cancel, Plan, Order}
use Rattle.dispatch_console.specs.declared.command.Size.{Size}
use Rattle.dispatch_console.specs.declared.word.CallWord.{CallWord}
use Rattle.dispatch_console.specs.declared.word.CallWord.TheVariants as callword
use Rattle.dispatch_console.specs.declared.word.Word.{Word}
use Rattle.dispatch_console.specs.declared.word.Word.TheVariants as word
use Rattle.dispatch_console.specs.Words.{word_of}

-- what a line may ask for: what a day without a dispatcher knows too, and more
pub data Asked : Type 0 where
  plain : console.Asked → Asked
  help : Asked
  nodes : (count : ℕ) → Asked
  make : Size → Asked
  call : Call → Asked

-- at most 300,000 nodes
abbrev pub as_nodes : List ℕ → Option Asked
as_nodes n = option_and_then (λ count. cond (nat_le count 300000) (Some (nodes count)) None) (exactly 1 n (slice_index n 0))

-- a number of vans, and the open limit
abbrev pub as_make : List ℕ → Option Asked
as_make n = exactly 2 n (make (record { vans = slice_index n 0; open_limit = slice_index n 1 }))

-- the numbers of each call
abbrev pub as_call : CallWord → List ℕ → Option Call
as_call callword.Clock n = exactly 1 n (Clock (slice_index n 0))
as_call callword.Join n = exactly 3 n (Join (slice_index n 0) (slice_index n 1) (slice_index n 2))
as_call callword.Leave n = exactly 1 n (Leave (slice_index n 0))
as_call callword.Book n = exactly 9 n (Book (slice_index n 0) (slice_index n 1) (slice_index n 2) (figures_at 3 n))
as_call callword.Bound n = exactly 3 n (Bound (slice_index n 0) (slice_index n 1) (slice_index n 2))
as_call callword.Served n = exactly 3 n (Served (slice_index n 0) (slice_index n 1) (slice_index n 2))
as_call callword.Cancel n = exactly 1 n (Cancel (slice_index n 0))
as_call callword.Plan n = exactly 1 n (Plan (slice_index n 0))
as_call callword.Order n = exactly 2 n (Order (slice_index n 0) (slice_index n 1))

-- the word alone
abbrev pub as_help : Option (List ℕ) → Option Asked
as_help None = Some help
as_help (Some fields) = None

-- what a word asks for with the fields after it, if they are understood
abbrev pub worded : Word → Option (List ℕ) → Option Asked
worded word.Help rest = as_help rest
worded word.Nodes rest = option_and_then as_nodes (numbers_of rest)
worded word.Make rest = option_and_then as_make (numbers_of rest)
worded (word.Call w) rest = option_map call (option_and_then (as_call w) (numbers_of rest))

-- what a line asks for by the word that it begins with, else what it asks for on a day without a dispatcher; no word is empty
-- or begins with '#'
abbrev pub headed : Option Word → List ℕ → Asked
headed None line = plain (console.asked line)
headed (Some w) line = unwrap_or (worded w (rest_of line)) (plain console.unclear)

abbrev pub asked : List ℕ → Asked
asked line = headed (word_of (field_of line)) line
