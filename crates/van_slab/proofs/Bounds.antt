-- Shows that what is read of any nodes has one to eight stops.
use Rattle.std.proofs.Common.{◌≡◌, ◌-◌, Bool, true, false, cond, eqb, List, [], ◌∷◌, length, take, sym, refl, subst, inl, inr, arith, length-take}
use Rattle.std.specs.List.{slice_get}
use Rattle.std.proofs.lemmas.List.{length_push}
use Rattle.orders.specs.declared.Node.{Node}
use Rattle.orders.specs.Bookings.{In}
use Rattle.van_slab.specs.declared.Itinerary.{Itinerary}
use Rattle.van_slab.specs.Trails.{follows, trail_to, ended, trails, cheapest_trail, told}
use Rattle.van_slab.specs.Laws.{StopsFit, BoundedReading}
use Rattle.van_slab.proofs.Entered.{Follows, followed}
use Rattle.van_slab.proofs.Picked.{nth_in, cheapest_in, mapped_some}

trail_fits : (t : List Node) (x : Node) → Follows t x → StopsFit (length (trail_to t x))
trail_fits t x f =
    let before : List Node = take (x.depth - 1) t in
    let p = length_push before x in
    let m = length-take (x.depth - 1) t in
    record { some = omega arith; most = omega (arith, f.most) }

trails_fit : (xs t u : List Node) → In u (trails t xs) → StopsFit (length u)
trails_fit [] t u i = absurd i
trails_fit (x ∷ xs) t u i = by_follow (follows t x) refl (trails_fit xs (trail_to t x) u) i
  where
    by_end : Follows t x → (b : Bool) → (In u (trails (trail_to t x) xs) → StopsFit (length u)) →
        In u (cond b (trail_to t x ∷ trails (trail_to t x) xs) (trails (trail_to t x) xs)) → StopsFit (length u)
    by_end f true ih (inl e) = subst (λ (v : List Node). StopsFit (length v)) (sym e) (trail_fits t x f)
    by_end f true ih (inr j) = ih j
    by_end f false ih j = ih j

    by_follow : (b : Bool) → follows t x ≡ b → (In u (trails (trail_to t x) xs) → StopsFit (length u)) →
        In u (cond b (ended x (trail_to t x) (trails (trail_to t x) xs)) []) → StopsFit (length u)
    by_follow true e ih j = by_end (followed t x e) (eqb x.span 1) ih j
    by_follow false e ih j = absurd j

told_fits : (xs t : List Node) (r : Itinerary) → In t (trails [] xs) → r ≡ told t → StopsFit r.stops
told_fits xs t r i e = subst (λ (q : Itinerary). StopsFit q.stops) (sym e) (trails_fit xs [] t i)

pub bounded_reading : BoundedReading
bounded_reading = record {
  cheapest = λ xs r e. (let m = mapped_some told (cheapest_trail (trails [] xs)) r e in told_fits xs m.0 r (cheapest_in (trails [] xs) m.0 m.1) m.2);
  at = λ xs i r e. (let m = mapped_some told (slice_get (trails [] xs) i) r e in told_fits xs m.0 r (nth_in (trails [] xs) i m.0 m.1) m.2);
}
