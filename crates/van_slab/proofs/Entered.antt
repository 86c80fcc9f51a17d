-- Shows when a node can follow a trail, and the trail to it.
use Rattle.std.proofs.Common.{◌≡◌, ℕ, ◌+◌, ◌-◌, ◌<◌, ◌≤◌, true, false, ltb, leb, List, [], ◌∷◌, ◌++◌, length, take, set, sym, ap, ◌∙◌, arith}
use Rattle.std.proofs.lemmas.List.{take_more_set, take-take}
use Rattle.std.proofs.lemmas.Bool.{lt-ltb, le-ltb, le-leb, lt-leb, and_from, and_left, and_right, and_parts, ltb-true, leb-true}
use Rattle.orders.specs.declared.Node.{Node}
use Rattle.van_slab.specs.Trails.{follows, trail_to}

-- x spans something, and stands at most one deeper, and at most eight deep
pub record Follows (t : List Node) (x : Node) : Type 0 where
  pub spans : 0 < x.span
  pub below : 0 < x.depth
  pub near : x.depth ≤ length t + 1
  pub most : x.depth ≤ 8

pub can_follow : (t : List Node) (x : Node) → Follows t x → follows t x ≡ true
can_follow t x f =
    and_from _ _ (lt-ltb 0 x.span f.spans) (and_from _ _ (lt-ltb 0 x.depth f.below) (and_from _ _ (le-leb x.depth (length t + 1) f.near) (le-leb x.depth 8 f.most)))

pub followed : (t : List Node) (x : Node) → follows t x ≡ true → Follows t x
followed t x e =
    let p = and_parts (ltb 0 x.span) _ e in
    let q = and_parts (ltb 0 x.depth) _ p.1 in
    let r = and_parts (leb x.depth (length t + 1)) _ q.1 in
    record { spans = ltb-true _ _ p.0; below = ltb-true _ _ q.0; near = leb-true _ _ r.0; most = leb-true _ _ r.1 }

module _ (t : List Node) (x : Node) where
  pub no_span : x.span ≡ 0 → follows t x ≡ false
  no_span e = and_left (ltb 0 x.span) _ (le-ltb 0 x.span (omega arith))

  pub no_depth : x.depth ≡ 0 → follows t x ≡ false
  no_depth e = and_right (ltb 0 x.span) _ (and_left (ltb 0 x.depth) _ (le-ltb 0 x.depth (omega arith)))

  pub too_far : length t + 1 < x.depth → follows t x ≡ false
  too_far h = and_right (ltb 0 x.span) _ (and_right (ltb 0 x.depth) _ (and_left (leb x.depth (length t + 1)) _ (lt-leb x.depth (length t + 1) h)))

  pub too_deep : 8 < x.depth → follows t x ≡ false
  too_deep h = and_right (ltb 0 x.span) _ (and_right (ltb 0 x.depth) _ (and_right (leb x.depth (length t + 1)) _ (lt-leb x.depth 8 h)))

-- the trail to x, where x is written below the nodes above it
pub written : (xs : List Node) (n : ℕ) (x : Node) → 0 < x.depth → x.depth ≤ n + 1 → x.depth ≤ length xs →
    take x.depth (set xs (x.depth - 1) x) ≡ trail_to (take n xs) x
written xs n x below near most =
    let e : x.depth ≡ x.depth - 1 + 1 = omega arith in
    ap (λ m. take m (set xs (x.depth - 1) x)) e
    ∙ take_more_set xs (x.depth - 1) x (omega arith)
    ∙ ap (λ u. u ++ (x ∷ [])) (sym (take-take (x.depth - 1) n xs (omega arith)))
