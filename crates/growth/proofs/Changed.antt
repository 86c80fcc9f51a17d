-- Shows that what grows along old nodes that suffice is the whole tree.
use Rattle.std.proofs.Common.{◌≡◌, ℕ, ◌-◌, List, length, replicate, sym, ap, ◌∙◌}
use Rattle.orders.specs.declared.Node.{Node}
use Rattle.orders.specs.Rules.{Rules, Lawful}
use Rattle.orders.specs.Walks.{Walk}
use Rattle.orders.specs.Trees.{tree_row, kinetic_tree}
use Rattle.orders.specs.Slabs.{blank}
use Rattle.orders.specs.Growth.{Ended}
use Rattle.orders.proofs.Rows.{ended_blanks}
use Rattle.orders.proofs.Theorems.{guides}
use Rattle.growth.specs.declared.guide.Fresh.{Fresh}
use Rattle.growth.specs.Guides.{grown}
use Rattle.growth.specs.Changes.{Suffices, booked, clock, bound, served, anew}

module _ (g : Rules) (lawful : Lawful g) where
  -- the blanks of a slab behind the tree of u
  abbrev blanks : ℕ → Walk → List Node
  blanks size u = replicate (size - length (tree_row g u)) blank

  ended : (size : ℕ) (u : Walk) → Ended (blanks size u)
  ended size u = ended_blanks (size - length (tree_row g u))

  pub whole : (fresh : Fresh) (old : List Node) (w : Walk) → Suffices g fresh old w → grown g fresh old w ≡ kinetic_tree g w
  whole fresh old w (booked size u b o a n f e) =
      (λ i. grown g (f i) (o i) (e i)) ∙ (guides g lawful).booked u b a n (blanks size u) (ended size u) ∙ ap (kinetic_tree g) (sym e)
  whole fresh old w (clock size u second o a t f e) =
      (λ i. grown g (f i) (o i) (e i)) ∙ (guides g lawful).clock u second a t (blanks size u) (ended size u) ∙ ap (kinetic_tree g) (sym e)
  whole fresh old w (bound size u place second o a here there t f e) =
      (λ i. grown g (f i) (o i) (e i)) ∙ (guides g lawful).bound u place second a here there t (blanks size u) (ended size u) ∙ ap (kinetic_tree g) (sym e)
  whole fresh old w (served size u b second o a s f e) =
      (λ i. grown g (f i) (o i) (e i)) ∙ (guides g lawful).served u b second a s (blanks size u) (ended size u) ∙ ap (kinetic_tree g) (sym e)
  whole fresh old w (anew f) = (λ i. grown g (f i) old w) ∙ (guides g lawful).anew w old
