-- Defines what a booking would be promised, and how it is refused where nothing can be promised.
use Rattle.std.specs.Prelude.{ℕ, List, Ok, Err, Result}
use Rattle.stowage.specs.declared.BadFigure.{BadFigure}
use Rattle.stowage.specs.declared.Promise.{Promise}
use Rattle.quotes.specs.Quotes as quotes
use Rattle.quotes.specs.declared.QuoteFault.{QuoteFault}
use Rattle.quotes.specs.declared.QuoteFault.TheVariants.{Place, Figure}
use Rattle.fleet.specs.declared.refusal.Refusal.{Refusal}
use Rattle.fleet.specs.declared.refusal.Refusal.TheVariants.{NoSuchPlace, BadFigure as FigureRefusal}

-- the refusal by each fault
abbrev pub fault_refusal : QuoteFault → Refusal
fault_refusal (Place place) = NoSuchPlace place
fault_refusal (Figure position) = FigureRefusal position

-- a promise, or the refusal by its fault
abbrev pub or_refused : Result Promise QuoteFault → Result Promise Refusal
or_refused (Ok p) = Ok p
or_refused (Err fault) = Err (fault_refusal fault)

-- what a booking from one place to another with these figures would be promised
abbrev pub quoted : ℕ → (ℕ → ℕ → ℕ) → (List ℕ → ℕ → Result Promise BadFigure) → ℕ → ℕ → List ℕ → Result Promise Refusal
quoted places trip promise from to figures = or_refused (quotes.quoted places trip promise from to figures)
