-- Shows how many nodes a tree has: along old nodes no more grow than anew, so a slab suffices.
use Rattle.std.proofs.Common.{◌≡◌, ℕ, zero, suc, ◌+◌, ◌*◌, ◌≤◌, List, [], ◌∷◌, length, Some, None, Option, refl, ap, ⊎_elim, arith, length-append}
use Rattle.orders.specs.declared.Booking.{Booking}
use Rattle.orders.specs.declared.Booking.TheVariants.{Waiting, Aboard}
use Rattle.orders.specs.declared.Node.{Node}
use Rattle.orders.specs.Rules.{Rules}
use Rattle.orders.specs.Bookings.{number_of, stops, Ascending}
use Rattle.orders.specs.Walks.{Walk, service, after}
use Rattle.orders.specs.Trees.{Tree, empty, stop, nodes, branch, children, grow, kinetic_tree}
use Rattle.orders.specs.Growth.{guide_row, guided_children, guided}
use Rattle.orders.specs.Slabs.{slab_size}
use Rattle.orders.proofs.Steps.{step_cases, children_some, children_none, guided_some, guided_none, guided_skip}
use Rattle.orders.proofs.Sizes.{fits_slab}
use Rattle.growth.specs.declared.walk.Position.{Position}
use Rattle.growth.specs.declared.guide.Fresh.{Fresh}
use Rattle.growth.specs.Positions.{compact, Sound}
use Rattle.growth.specs.Guides.{new_to, grown, grown_row}

-- how many stops stand in a tree
abbrev pub size : Tree → ℕ
size empty = 0
size (stop n k s c below beside) = 1 + size below + size beside

-- each stop is one node, at any depth
pub length_nodes : (t : Tree) (d : ℕ) → length (nodes d t) ≡ size t
length_nodes empty d = refl
length_nodes (stop n k s c below beside) d =
    let a = length-append (nodes (d + 1) below) (nodes d beside) in
    let b = length_nodes below (d + 1) in
    let c = length_nodes beside d in
    omega arith

module _ (b : Booking) (s : ℕ) (v : Walk) where
  beside_less : (bs : List Booking) (below beside : Tree) → size beside ≤ size (branch b s v bs below beside)
  beside_less [] below beside = omega arith
  beside_less (c ∷ cs) empty beside = omega arith
  beside_less (c ∷ cs) (stop n k t u x y) beside = omega arith

  branch_less : (bs : List Booking) (below below' beside beside' : Tree) → size below ≤ size below' → size beside ≤ size beside' → size (branch b s v bs below beside) ≤ size (branch b s v bs below' beside')
  branch_less [] below below' beside beside' h k = omega arith
  branch_less (c ∷ cs) empty below' beside beside' h k = let l = beside_less (c ∷ cs) below' beside' in omega arith
  branch_less (c ∷ cs) (stop n m t u x y) empty beside beside' h k = absurd (omega arith)
  branch_less (c ∷ cs) (stop n m t u x y) (stop n' m' t' u' x' y') beside beside' h k = omega arith

module _ (g : Rules) {Old : Type 0} (hint : ℕ → Old → Option Old) where
  module _ (grows : Old → Walk → Tree) (grows' : Walk → Tree) (less : (o : Old) (v : Walk) → size (grows o v) ≤ size (grows' v)) (old : Old) (w : Walk) where
    abbrev Less : List Booking → Type 0
    Less bs = size (guided_children g hint grows old w bs) ≤ size (children g grows' w bs)

    one_more : (b : Booking) (bs : List Booking) → Less bs → (o : Option Old) → hint (number_of b) old ≡ o → Less (b ∷ bs)
    one_more b bs ih None e =
        let p = ap size (guided_skip g hint grows old w b bs e) in
        ⊎_elim
        (λ t.
        (let q = ap size (children_some g grows' w b bs (after g w b) t.1) in
        let l = beside_less b (service g w b) (after g w b) (after g w b).bookings (grows' (after g w b)) (children g grows' w bs) in
        omega arith))
        (λ t. let q = ap size (children_none g grows' w b bs t.1) in omega arith)
        (step_cases g w b)
    one_more b bs ih (Some on) e = ⊎_elim
        (λ t.
        (let p = ap size (guided_some g hint grows old w b bs on (after g w b) e t.1) in
        let q = ap size (children_some g grows' w b bs (after g w b) t.1) in
        let l = branch_less b (service g w b) (after g w b) (after g w b).bookings (grows on (after g w b)) (grows' (after g w b)) (guided_children g hint grows old w bs) (children g grows' w bs) (less on (after g w b)) ih in
        omega arith))
        (λ t. let p = ap size (guided_none g hint grows old w b bs on e t.1) in let q = ap size (children_none g grows' w b bs t.1) in omega arith)
        (step_cases g w b)

    children_less : (bs : List Booking) → Less bs
    unfolding guided_children children
    children_less [] = omega arith
    children_less (b ∷ bs) = one_more b bs (children_less bs) (hint (number_of b) old) refl

  guided_less : (k : ℕ) (old : Old) (w : Walk) → size (guided g hint k old w) ≤ size (grow g k w)
  unfolding guided grow
  guided_less zero old w = omega arith
  guided_less (suc k) old w = children_less (guided g hint k) (grow g k) (guided_less k) old w w.bookings

compact_few : (bs : List (Option Booking)) → length (compact bs) ≤ length bs
compact_few [] = omega arith
compact_few (None ∷ bs) = let h = compact_few bs in omega arith
compact_few (Some b ∷ bs) = let h = compact_few bs in omega arith

stops_few : (bs : List Booking) → stops bs ≤ 2 * length bs
stops_few [] = omega arith
stops_few (Waiting pickup j ∷ bs) = let h = stops_few bs in omega arith
stops_few (Aboard since j ∷ bs) = let h = stops_few bs in omega arith

-- at most four bookings are open
pub few_open : (p : Position) → Sound p → length (compact p.bookings) ≤ 4
few_open p s = let a = compact_few p.bookings in let c = s.four in omega arith

-- and at most eight stops
pub eight_stops : (p : Position) → Sound p → stops (compact p.bookings) ≤ 8
eight_stops p s = let a = few_open p s in let b = stops_few (compact p.bookings) in omega arith

module _ (g : Rules) (fresh : Fresh) (old : List Node) where
  -- what grows along any nodes has no more nodes than the slab of so many bookings
  pub grown_fits : (k : ℕ) (w : Walk) → Ascending w.bookings → length w.bookings ≤ k → k ≤ 4 → length (grown_row g fresh old w) ≤ slab_size k
  unfolding kinetic_tree
  grown_fits k w a h l =
      let p = fits_slab g k w a h l in
      let q = guided_less g (guide_row (new_to fresh)) (stops w.bookings) old w in
      let r = length_nodes (kinetic_tree g w) 1 in
      let t = length_nodes (grown g fresh old w) 1 in
      omega arith
