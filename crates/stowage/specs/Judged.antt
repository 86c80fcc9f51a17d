-- What was promised passed every test, and so keeps within the week.
use Rattle.std.specs.Prelude.{◌≡◌, ℕ, ◌+◌, ◌*◌, ◌≤◌, min, Bool, true, false, List, [], ◌∷◌, Ok, Err, Result, refl}
use Rattle.std.proofs.Common.{subst, mul-le-mul_left, arith}
use Rattle.std.proofs.lemmas.Bool.{leb-true, and_parts}
use Rattle.std.specs.List.{AllByRecursion}
use Rattle.stowage.specs.declared.BadFigure.{BadFigure}
use Rattle.stowage.specs.declared.Promise.{Promise}
use Rattle.stowage.specs.Figures.{week, figure, judged}
use Rattle.stowage.specs.Laws.{Kept, Keeps}
use Rattle.stowage.specs.Parcels.{parcel_tests, parcel_promise}
use Rattle.stowage.specs.Passengers.{passenger_tests, passenger_promise}

judged_ok : (i : ℕ) (tests : List Bool) (q p : Promise) → judged i tests q ≡ Ok p → AllByRecursion (λ b. b ≡ true) tests × (q ≡ p)
judged_ok i [] q p e = (tt, let e' : ◌≡◌ {A = Result Promise BadFigure} (Ok q) (Ok p) = e in cc)
judged_ok i (true ∷ tests) q p e = let s = judged_ok (i + 1) tests q p e in ((refl, s.0), s.1)
judged_ok i (false ∷ tests) q p e =
    let e' : ◌≡◌ {A = Result Promise BadFigure} (Err (record { position = i })) (Ok p) = e in
    let z : ◌≡◌ {A = ℕ} 0 1 = cc in
    absurd (omega arith)

-- a ride limit is at most four times the longest trip
pub product_bound : (direct percent : ℕ) → direct ≤ 14400 → percent ≤ 300 → direct * percent ≤ 4320000
product_bound direct percent h k = let p = mul-le-mul_left direct k in omega arith

pub passengers_keep : Keeps passenger_promise
passengers_keep f direct p e =
    let s = judged_ok 1 (passenger_tests f) _ p e in
    let wait : figure 3 f + figure 4 f ≤ week = leb-true _ _ (and_parts _ _ s.0.1.1.1.0).1 in
    let percent = leb-true _ _ s.0.1.1.1.1.0 in
    let latest = leb-true _ _ s.0.1.1.1.1.1.0 in
    let b = product_bound (min direct 14400) (figure 5 f) (omega arith) percent in
    subst Kept s.1 (record { pickup = (omega arith, wait); dropoff = (omega arith, latest); ride = omega arith })

pub parcels_keep : Keeps parcel_promise
parcels_keep f direct p e =
    let s = judged_ok 1 (parcel_tests f) _ p e in
    let pickup = and_parts _ _ s.0.1.1.1.0 in
    let dropoff = and_parts _ _ s.0.1.1.1.1.1.0 in
    subst Kept s.1 (record {
      pickup = (leb-true _ _ pickup.0, leb-true _ _ pickup.1);
      dropoff = (leb-true _ _ dropoff.0, leb-true _ _ dropoff.1);
      ride = omega arith;
    })
