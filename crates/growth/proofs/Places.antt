-- Shows how the slabs of several vans lie in memory, and that writing those of one van leaves the others alone.
use Rattle.std.proofs.Common.{◌≡◌, ℕ, ◌+◌, ◌*◌, ◌<◌, ◌≤◌, List, length, ⊎_elim, mul-le-mul_right, add-mul, one-mul, arith}
use Rattle.std.proofs.lemmas.Bool.{cases_lt}
use Rattle.orders.specs.declared.Node.{Node}
use Rattle.growth.specs.Guides.{row}
use Rattle.growth.specs.Slabs.{slabs_at, Laid, Replaced}

-- a slab ends where the next one begins
next_slab : (van size : ℕ) → (van + 1) * size ≡ van * size + size
next_slab van size = let a = add-mul van 1 size in let b = one-mul size in omega arith

-- so the slab of a van ends by that of any later one
pub earlier : (van other size : ℕ) → van < other → van * size + size ≤ other * size
earlier van other size h = let a = next_slab van size in let b = mul-le-mul_right {m = van + 1} {n = other} size (omega arith) in omega arith

pub laid : (van vans size : ℕ) (memory : List Node) → van < vans → (vans + 1) * size ≤ length memory → Laid memory (slabs_at van vans size)
laid van vans size memory h r = record { apart = earlier van vans size h; room = let a = next_slab vans size in omega arith }

-- another van's slab is as it was
pub other_slab : (memory xs after : List Node) (van vans size other : ℕ) → Replaced memory (slabs_at van vans size) xs after → other < vans → (other ≡ van → ⊥) →
    row after (other * size) (other * size + size) ≡ row memory (other * size) (other * size + size)
other_slab memory xs after van vans size other r h n = ⊎_elim
    (λ (k : other < van). r.before (other * size) (other * size + size) (omega arith) (earlier other van size k))
    (λ (k : van ≤ other). r.between (other * size) (other * size + size) (earlier van other size (omega arith)) (omega arith) (earlier other vans size h))
    (cases_lt other van)
