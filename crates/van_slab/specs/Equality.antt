-- Defines the test by which two itineraries are compared.
use Rattle.std.specs.Prelude.{Bool, ◌==◌}
use Rattle.std.specs.Ordering.{on, eq_of_both}
use lib.Pointwise.{pointwise}
use Rattle.van_slab.specs.declared.Visit.{Visit}
use Rattle.van_slab.specs.declared.Itinerary.{Itinerary}

-- visits with the same booking, kind and second
abbrev pub same_visit : Visit → Visit → Bool
same_visit = eq_of_both (on (λ v. v.booking) ◌==◌) (eq_of_both (on (λ v. v.kind) ◌==◌) (on (λ v. v.second) ◌==◌))

-- itineraries with the same cost, number of stops and visits
abbrev pub same_itinerary : Itinerary → Itinerary → Bool
same_itinerary = eq_of_both (on (λ r. r.cost) ◌==◌) (eq_of_both (on (λ r. r.stops) ◌==◌) (on (λ r. r.visits) (pointwise same_visit)))
