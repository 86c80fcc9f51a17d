-- Two itineraries with the same cost and number of stops are equal where their visits are.
use Rattle.std.proofs.Common.{◌≡◌, ap, arith}
use Rattle.van_slab.specs.declared.Itinerary.{Itinerary}
use Rattle.van_slab.proofs.Equal.{visits_decide}
use Rattle.van_slab.proofs.ItineraryPartialEq.eq.Goals as goal

pub returns-clause-decides : goal.returns-clause-decides
returns-clause-decides c =
    let d = visits_decide c.args.self.now.visits c.args.other.now.visits c.eq.result c.eq.ensures in
    let p : c.args.self.now.cost ≡ c.args.other.now.cost = omega arith in
    let q : c.args.self.now.stops ≡ c.args.other.now.stops = omega arith in
    (λ t i. record { cost = p i; stops = q i; visits = d.0 t i }, λ e. d.1 (ap (λ (r : Itinerary). r.visits) e))
