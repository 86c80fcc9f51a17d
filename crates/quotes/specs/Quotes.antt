-- Defines what a booking would be promised, and which fault stands in its way.
use Rattle.std.specs.Prelude.{ℕ, cond, List, Some, None, Ok, Err, Option, Result, nat_lt}
use Rattle.roads.specs.Roads.{between}
use Rattle.stowage.specs.declared.BadFigure.{BadFigure}
use Rattle.stowage.specs.declared.Promise.{Promise}
use Rattle.quotes.specs.declared.QuoteFault.{QuoteFault}
use Rattle.quotes.specs.declared.QuoteFault.TheVariants.{Place, Figure}

-- a figure out of its range, by its position
abbrev pub figure_fault : BadFigure → QuoteFault
figure_fault bad = Figure bad.position

-- a promise, or the figure that stands in its way
abbrev pub figured : Result Promise BadFigure → Result Promise QuoteFault
figured (Ok p) = Ok p
figured (Err bad) = Err (figure_fault bad)

-- the promise over the direct road, or the first of the two that is no place
abbrev pub over : ℕ → (List ℕ → ℕ → Result Promise BadFigure) → ℕ → ℕ → List ℕ → Option ℕ → Result Promise QuoteFault
over places promise from to figures None = Err (Place (cond (nat_lt from places) to from))
over places promise from to figures (Some direct) = figured (promise figures direct)

-- what a booking from one place to another with these figures would be promised
abbrev pub quoted : ℕ → (ℕ → ℕ → ℕ) → (List ℕ → ℕ → Result Promise BadFigure) → ℕ → ℕ → List ℕ → Result Promise QuoteFault
quoted places trip promise from to figures = over places promise from to figures (between places trip from to)
