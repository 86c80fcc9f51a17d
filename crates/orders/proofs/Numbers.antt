-- Shows that the numbers along a walk stay in 32 bits.
use Rattle.std.proofs.Common.{ℕ, ◌+◌, ◌*◌, ◌<◌, ◌≤◌, List, [], ◌∷◌, length, arith}
use Rattle.orders.specs.declared.Booking.{Booking}
use Rattle.orders.specs.Rules.{Rules, Lawful}
use Rattle.orders.specs.Bookings.{next_stop}
use Rattle.orders.specs.Walks.{Walk, service, after}
use Rattle.orders.specs.Laws.{walked, Legs, Numbers}
use Rattle.orders.proofs.Steps.{departs_at_once}

-- a walk n stops after a van in range
pub record Bounded (n : ℕ) (w : Walk) : Type 0 where
  pub second : w.second ≤ 604800 + 14400 * n
  pub driven : w.driven ≤ w.second
  pub cost : w.cost ≤ w.second

module _ (g : Rules) (lawful : Lawful g) where
  pub bounded_after : (n : ℕ) (w : Walk) (b : Booking) → Bounded n w → w.place < g.places → (next_stop b).place < g.places →
      (next_stop b).window.opens ≤ 604800 → Bounded (n + 1) (after g w b)
  bounded_after n w b h here there opens =
      let leg = lawful.roads.short w.place (next_stop b).place here there in
      let s = departs_at_once (service g w b) in
      let d = h.driven in
      let c = h.cost in
      let t = h.second in
      record { second = omega arith; driven = omega arith; cost = omega arith }

  bounded_walk : (bs : List Booking) (n : ℕ) (w : Walk) → Bounded n w → Legs g w bs → Bounded (n + length bs) (walked g w bs)
  bounded_walk [] n w h l = record { second = let t = h.second in omega arith; driven = h.driven; cost = h.cost }
  bounded_walk (b ∷ bs) n w h l =
      let r = bounded_walk bs (n + 1) (after g w b) (bounded_after n w b h l.0 l.1 l.2) l.3 in
      record { second = let t = r.second in omega arith; driven = r.driven; cost = r.cost }

  pub numbers : Numbers g
  numbers w bs h few l =
      let r = bounded_walk bs 0 w (record { second = let k = h.week in omega arith; driven = h.driven; cost = h.cost }) l in
      let s = r.second in
      let d = r.driven in
      let c = r.cost in
      (omega arith, omega arith, omega arith)
