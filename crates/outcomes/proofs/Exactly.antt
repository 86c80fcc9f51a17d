-- Shows that settled node memory tells every van's valid orders.
use Rattle.std.proofs.Common.{◌≡◌, ℕ, zero, suc, ◌-◌, ◌≤◌, true, List, [], ◌∷◌, length, replicate, sym, refl, ap, ◌∙◌, subst, arith}
use Rattle.orders.specs.declared.Booking.{Booking}
use Rattle.orders.specs.declared.Node.{Node}
use Rattle.orders.specs.Bookings.{In, stops, Ascending}
use Rattle.orders.specs.Rules.{Rules}
use Rattle.orders.specs.Walks.{Walk, Timed}
use Rattle.orders.specs.Trees.{nodes, grow, kinetic_tree, tree_row, orders_of}
use Rattle.orders.specs.Listings.{OrdersAscend}
use Rattle.orders.specs.Slabs.{blank, slab}
use Rattle.orders.proofs.Nodes.{exact_nodes}
use Rattle.orders.proofs.Theorems.{exact_orders}
use Rattle.van_slab.specs.Trails.{trails}
use Rattle.van_slab.specs.Laws.{numbers, seconds, Shown, Open, slab_trails}
use Rattle.van_slab.proofs.Exact.{exact_reading}
use Rattle.fleet.specs.declared.state.State.{State}
use Rattle.fleet.specs.States.{van_walk}
use Rattle.fleet.specs.SoundTest.{is_sound}
use Rattle.fleet.proofs.Soundness.{sound_of, sound_at}
use Rattle.outcomes.specs.Settled.{slab_nodes, van_row, Settled}
use Rattle.outcomes.specs.Fairness.{orders_in, ExactSlab, Exact}

-- blanks list no order
no_trails : (n : ℕ) → trails [] (replicate n blank) ≡ []
no_trails zero = refl
no_trails (suc n) = refl

module _ (g : Rules) where
  -- with nothing open the tree is empty
  idle_row : (w : Walk) → w.bookings ≡ [] → tree_row g w ≡ []
  unfolding kinetic_tree grow
  idle_row w e = ap (λ bs. nodes 1 (grow g (stops bs) w)) e

  -- a walk that begins at a van with at most four open bookings, whose slab has so many nodes
  module _ (size : ℕ) (w : Walk) (no_cost : w.cost ≡ 0) (few : length w.bookings ≤ 4) where
    some_open : (b : Booking) (bs : List Booking) → w.bookings ≡ b ∷ bs → Open w
    some_open b bs e = record { some = let l = ap length e in omega arith; few = few }

    -- the slab lists the valid orders
    same_orders : (bs : List Booking) → w.bookings ≡ bs → orders_in bs (slab size (tree_row g w)) ≡ orders_of w bs (tree_row g w)
    same_orders [] e = ap (λ c. ([], c) ∷ []) (sym no_cost)
    same_orders (b ∷ bs) e = (exact_reading g).listed size w (some_open b bs e) ∙ ap (λ l. orders_of w l (tree_row g w)) e

    all_driven : (bs : List Booking) → w.bookings ≡ bs → (t : List Node) → In t (slab_trails g size w) → Shown g w 1 t × Timed g w (numbers t) (seconds t)
    all_driven [] e t i =
        absurd (subst (In t) (no_trails (size - 0)) (subst (λ xs. In t (trails [] (slab size xs))) (idle_row w e) i))
    all_driven (b ∷ bs) e t i = let o = some_open b bs e in ((exact_reading g).shown size w o t i, (exact_reading g).timed size w o t i)

    exact_slab : Ascending w.bookings → ExactSlab g size w (slab size (tree_row g w))
    exact_slab a =
        let same = same_orders w.bookings refl in
        record {
          lists = λ o cost. (
            λ i. ((exact_orders g).exactly w o cost).0 (subst (In (o, cost)) same i),
            λ v. subst (In (o, cost)) (sym same) (((exact_orders g).exactly w o cost).1 v),
          );
          once = subst OrdersAscend (sym same) ((exact_orders g).ascending w a);
          driven = all_driven w.bookings refl;
          row = tree_row g w;
          filled = refl;
          each = (exact_nodes g).each w;
          all = (exact_nodes g).all w;
          ascending = (exact_nodes g).ascending w a;
          spans = (exact_nodes g).spans w;
        }

  pub exact_of : (s : State) → is_sound s ≡ true → (nodes : List Node) → Settled g s nodes → Exact g s nodes
  exact_of s h nodes settled =
      let known = sound_of s h in
      let size : ℕ = slab_nodes s in
      record {
        on_duty = λ i w l at.
            let van = sound_at s known i w at in
            let few : length (van_walk w).bookings ≤ 4 = let m = van.its.few in let k = known.four in omega arith in
            subst (ExactSlab g size (van_walk w)) (sym (settled.each i l ∙ ap (λ o. slab size (van_row g o)) at))
            (exact_slab size (van_walk w) refl few van.its.ascending);
        off_duty = λ i l at.
            let all : size - 0 ≡ size = omega arith in
            settled.each i l ∙ ap (λ o. slab size (van_row g o)) at ∙ ap (λ n. replicate n blank) all;
        working = settled.work;
      }
