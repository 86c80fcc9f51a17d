-- Shows that the test by which itineraries are compared is an equivalence.
use Rattle.std.specs.Cmp.{IsEquivalence}
use Rattle.std.proofs.lemmas.Cmp.{nat_eq_equiv, on_equiv, and_equiv, lists_equiv}
use Rattle.van_slab.specs.declared.Visit.{Visit}
use Rattle.van_slab.specs.declared.Itinerary.{Itinerary}
use Rattle.van_slab.specs.Equality.{same_visit, same_itinerary}

same_visit_laws : IsEquivalence same_visit
same_visit_laws =
    and_equiv (on_equiv (λ (v : Visit). v.booking) nat_eq_equiv)
    (and_equiv (on_equiv (λ (v : Visit). v.kind) nat_eq_equiv) (on_equiv (λ (v : Visit). v.second) nat_eq_equiv))

pub same_itinerary_laws : IsEquivalence same_itinerary
same_itinerary_laws =
    and_equiv (on_equiv (λ (r : Itinerary). r.cost) nat_eq_equiv)
    (and_equiv (on_equiv (λ (r : Itinerary). r.stops) nat_eq_equiv) (on_equiv (λ (r : Itinerary). r.visits) (lists_equiv same_visit_laws)))
