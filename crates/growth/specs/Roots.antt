-- Defines the roots of a tree, one for each booking whose next stop stands in it.
use Rattle.std.specs.Prelude.{◌≡◌, ℕ, ◌+◌, List, drop, slice_index_or, Some, None, Option}
use Rattle.orders.specs.declared.Node.{Node}
use Rattle.orders.specs.declared.Booking.{Booking}
use Rattle.orders.specs.Rules.{Rules}
use Rattle.orders.specs.Growth.{guide_row}
use Rattle.orders.specs.Bookings.{number_of, stop_kind, stops}
use Rattle.orders.specs.Trees.{Tree, stop}
use Rattle.growth.specs.declared.walk.Position.{Position}
use Rattle.growth.specs.declared.guide.Fresh.{Fresh}
use Rattle.growth.specs.declared.tally.Branch.{Branch}
use Rattle.growth.specs.declared.tally.Root.{Root}
use Rattle.growth.specs.Positions.{compact, walk_of, Sound, Visited}
use Rattle.growth.specs.Guides.{new_to, grown, grown_from}
use Rattle.growth.specs.Surveys.{Tallies}

module _ (g : Rules) (fresh : Fresh) (old : List Node) (p : Position) (i : ℕ) where
  -- what grows from the i-th booking on, and from the next one on
  abbrev pub from_here : Tree
  from_here = grown_from g fresh old (walk_of p) (compact (drop i p.bookings))

  abbrev pub from_next : Tree
  from_next = grown_from g fresh old (walk_of p) (compact (drop (i + 1) p.bookings))

  -- the old tree has the i-th booking's next stop, which is visited next
  pub record LeadsOn (x : Branch) : Type 0 where
    pub booking : Booking
    pub its : slice_index_or p.bookings i None ≡ Some booking
    pub guided : guide_row (new_to fresh) (number_of booking) old ≡ Some x.old.now
    pub visited : Visited g p booking x.visit

  -- nothing grows from the i-th booking, or its next stop is one to go on with
  abbrev pub Branches : Option Branch → Type 0
  Branches None = from_here ≡ from_next
  Branches (Some x) = LeadsOn x

  -- the i-th booking's next stop is a root: beside it stand the roots of the next bookings, and below it grows what is told of
  pub record IsRoot (x : Root) : Type 0 where
    pub stands : from_here ≡ stop (number_of x.booking) (stop_kind x.booking) x.visit.second x.visit.position.cost (grown g fresh x.old.now (walk_of x.visit.position)) from_next
    pub sound : Sound x.visit.position
    pub fewer : stops (compact x.visit.position.bookings) + 1 ≡ stops (compact p.bookings)
    pub below : Tallies g fresh x.old.now (walk_of x.visit.position) (record { count = x.below; least = Some x.least })

  -- nothing grows from the i-th booking, or its next stop is a root
  abbrev pub Grows : Option Root → Type 0
  Grows None = from_here ≡ from_next
  Grows (Some x) = IsRoot x
