-- Defines what stands on the desk, and what each request changes and is answered.
use Rattle.std.specs.Prelude.{◌≡◌, ℕ, ◌*◌, ◌⊎◌, List, Some, None, Option, Result}
use Rattle.std.specs.Option.{option_map}
use Rattle.roads.specs.GridOf.{grid_columns, grid_rows, grid_east, grid_south}
use Rattle.roads.specs.Grids.{grid_fault, grid_trip}
use Rattle.roads.specs.TableFaults.{Refuses}
use Rattle.roads.specs.TableOf.{table_places, table_entries}
use Rattle.roads.specs.Tables.{LawfulTable, table_trip}
use Rattle.roads.specs.declared.RoadFault.{RoadFault}
use Rattle.roads.specs.declared.any.AnyRoads.{AnyRoads}
use Rattle.roads.specs.declared.any.AnyRoads.TheVariants.{Table, Grid}
use Rattle.stowage.specs.Parcels.{parcel_promise}
use Rattle.stowage.specs.Passengers.{passenger_promise}
use Rattle.stowage.specs.declared.BadFigure.{BadFigure}
use Rattle.stowage.specs.declared.Promise.{Promise}
use Rattle.quotes.specs.Quotes.{quoted}
use Rattle.quotes.specs.declared.QuoteFault.{QuoteFault}
use Rattle.console.specs.declared.command.Rule.{Rule}
use Rattle.console.specs.declared.command.Rule.TheVariants.{Passengers, Parcels}
use Rattle.console.specs.declared.desk.Desk.{Desk}
use Rattle.console.specs.declared.desk.Site.{Site}
use Rattle.console.specs.declared.reply.Reply.{Reply}
use Rattle.console.specs.declared.reply.Reply.TheVariants.{Nothing, NotUnderstood, Done, Refused}
use Rattle.console.specs.Lines.{Asked, nothing, unclear, table, grid, rule, quote}
use Rattle.console.specs.Refusals.{road_refusal}
use Rattle.console.specs.Replies.{told}

-- roads, by the numbers that they were made of
pub data Laid : Type 0 where
  table_roads : (places : ℕ) → (seconds : List ℕ) → Laid
  grid_roads : (columns rows east south : ℕ) → Laid

abbrev pub laid : AnyRoads → Laid
laid (Table t) = table_roads (table_places t) (table_entries t)
laid (Grid g) = grid_roads (grid_columns g) (grid_rows g) (grid_east g) (grid_south g)

-- how many places they have
abbrev pub laid_places : Laid → ℕ
laid_places (table_roads places seconds) = places
laid_places (grid_roads columns rows east south) = columns * rows

-- the seconds from place to place
abbrev pub laid_trip : Laid → ℕ → ℕ → ℕ
laid_trip (table_roads places seconds) = table_trip places seconds
laid_trip (grid_roads columns rows east south) = grid_trip columns east south

-- what a rule promises
abbrev pub promise_of : Rule → List ℕ → ℕ → Result Promise BadFigure
promise_of Passengers = passenger_promise
promise_of Parcels = parcel_promise

-- the roads and the rule that stand, as far as they were given
pub record Setting : Type 0 where
  pub roads : Option Laid
  pub rule : Option Rule

abbrev pub setting : Desk → Setting
setting d = record { roads = option_map laid d.roads; rule = d.rule }

-- the desk before its first line
abbrev pub unset : Setting
unset = record { roads = None; rule = None }

-- roads and a rule that stand
pub record Standing : Type 0 where
  pub roads : Laid
  pub rule : Rule

abbrev pub standing : Site → Standing
standing x = record { roads = laid x.roads.now; rule = x.rule }

-- roads and rule, once both stand
abbrev pub both : Option Laid → Option Rule → Option Standing
both None r = None
both (Some l) None = None
both (Some l) (Some r) = Some (record { roads = l; rule = r })

abbrev pub stands : Setting → Option Standing
stands s = both s.roads s.rule

-- what a booking would be promised there
abbrev pub quoted_there : Standing → ℕ → ℕ → List ℕ → Result Promise QuoteFault
quoted_there x from to figures = quoted (laid_places x.roads) (laid_trip x.roads) (promise_of x.rule) from to figures

-- a quote is understood once roads and rule stand
abbrev pub quote_reply : Option Standing → ℕ → ℕ → List ℕ → Reply
quote_reply None from to figures = NotUnderstood
quote_reply (Some x) from to figures = told (quoted_there x from to figures)

-- sound roads take the place of those before them; unsound ones are refused, and change nothing
abbrev pub Lays : Setting → Laid → Type 0 → (RoadFault → Type 0) → Setting → Reply → Type 0
Lays s l Sound Faulty s' reply =
    (Sound × (s' ≡ record { roads = Some l; rule = s.rule }) × (reply ≡ Done))
    ⊎ ((f : RoadFault) × Faulty f × (s' ≡ s) × (reply ≡ Refused (road_refusal f)))

-- what a request leads to from what stands, and its reply
abbrev pub Obeys : Setting → Asked → Setting → Reply → Type 0
Obeys s nothing s' reply = (s' ≡ s) × (reply ≡ Nothing)
Obeys s unclear s' reply = (s' ≡ s) × (reply ≡ NotUnderstood)
Obeys s (table places seconds) s' reply = Lays s (table_roads places seconds) (LawfulTable places seconds) (Refuses places seconds) s' reply
Obeys s (grid columns rows east south) s' reply =
    Lays s (grid_roads columns rows east south) (grid_fault columns rows east south ≡ None) (λ f. grid_fault columns rows east south ≡ Some f) s' reply
Obeys s (rule r) s' reply = (s' ≡ record { roads = s.roads; rule = Some r }) × (reply ≡ Done)
Obeys s (quote from to figures) s' reply = (s' ≡ s) × (reply ≡ quote_reply (stands s) from to figures)
