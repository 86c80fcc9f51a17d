-- Shows that a row of nodes that ends by a place is a row of what stands before that place.
use Rattle.std.proofs.Common.{◌≡◌, ℕ, ◌+◌, ◌-◌, ◌≤◌, List, take, drop, ap, ◌∙◌, arith}
use Rattle.std.proofs.lemmas.List.{take-take, drop-take}
use Rattle.orders.specs.declared.Node.{Node}
use Rattle.growth.specs.Guides.{row}

pub row_within : (memory : List Node) (place from to : ℕ) → from ≤ to → to ≤ place → row (take place memory) from to ≡ row memory from to
row_within memory place from to h l =
    ap (λ n. take (to - from) (drop from (take n memory))) (let e : place ≡ from + (place - from) = omega arith in e)
    ∙ ap (take (to - from)) (drop-take from (place - from) memory)
    ∙ take-take (to - from) (place - from) (drop from memory) (omega arith)
