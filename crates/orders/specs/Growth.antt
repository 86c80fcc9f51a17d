-- Defines growing along an old tree: only stops that it has at that place are tried, and those of new bookings.
use Rattle.std.specs.Prelude.{◌≡◌, ℕ, zero, suc, ◌-◌, Bool, true, false, cond, List, [], ◌∷◌, length, take, drop, Some, None, Option, ◌==◌}
use Rattle.orders.specs.declared.Booking.{Booking}
use Rattle.orders.specs.declared.Node.{Node}
use Rattle.orders.specs.Rules.{Rules}
use Rattle.orders.specs.Bookings.{number_of, stops}
use Rattle.orders.specs.Walks.{Walk, service}
use Rattle.orders.specs.Trees.{Tree, empty, branch, step}

-- one booking alone is new to the old tree
abbrev pub only : ℕ → ℕ → Bool
only n m = n == m

-- no booking is new to it
abbrev pub nobody : ℕ → Bool
nobody n = false

-- every booking counts as new to it
abbrev pub anybody : ℕ → Bool
anybody n = true

-- a row of nodes is over: nothing is left, or a blank is next
abbrev pub Ended : List Node → Type 0
Ended [] = Unit {0}
Ended (x ∷ xs) = x.span ≡ 0

-- the nodes below the root of number n: from sibling to sibling by span, up to a span of 0; fuel is the row's length
abbrev pub seek : ℕ → ℕ → List Node → Option (List Node)
seek zero n xs = None
seek (suc fuel) n [] = None
seek (suc fuel) n (x ∷ xs) =
    cond (x.span == 0) None (cond (x.booking == n) (Some (take (x.span - 1) xs)) (seek fuel n (drop (x.span - 1) xs)))

-- where to look on in the old row after a stop of number n, if that is to be tried; a new booking does not move on in it
abbrev pub guide_row : (ℕ → Bool) → ℕ → List Node → Option (List Node)
guide_row new n old = cond (new n) (Some old) (seek (length old) n old)

module _ (g : Rules) {Old : Type 0} (hint : ℕ → Old → Option Old) where
  -- the trees of these bookings' next stops, as far as the old tree has a hint where to look on
  unfoldable pub guided_children : (Old → Walk → Tree) → Old → Walk → List Booking → Tree
  unfolding step
  guided_children grows old w [] = empty
  guided_children grows old w (b ∷ bs) =
      elim (hint (number_of b) old) [
        | Some on ↦ elim (step g w b) [ Some v ↦ branch b (service g w b) v v.bookings (grows on v) (guided_children grows old w bs) | None ↦ guided_children grows old w bs ]
        | None ↦ guided_children grows old w bs
      ]

  -- the tree that grows along the old one, to a depth at most
  unfoldable pub guided : ℕ → Old → Walk → Tree
  unfolding guided_children
  guided zero old w = empty
  guided (suc depth) old w = guided_children (guided depth) old w w.bookings

-- what grows from a walk along an old row of nodes
abbrev pub grown_along : Rules → (ℕ → Bool) → List Node → Walk → Tree
grown_along g new old w = guided g (guide_row new) (stops w.bookings) old w
