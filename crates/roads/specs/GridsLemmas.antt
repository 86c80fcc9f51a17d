-- Shows that the trips of a grid keep the laws of roads.
use Rattle.std.specs.Prelude.{ℕ, ◌+◌, ◌-◌, ◌*◌, ◌/◌, ◌%◌, ◌<◌, ◌≤◌}
use Rattle.std.proofs.Common.{mul-add, mul_comm, mul-zero, zero-mul, le-mul_of_pos_right, lt_of_mul-lt-mul_right, arith}
use Rattle.std.proofs.Math.Nat.{mul-sub, sub_self, lt_of_mul-lt-mul_left}
use Rattle.std.proofs.lemmas.Nat.{mul-le, div_below, mod_below}
use Rattle.roads.specs.Roads.{Lawful}
use Rattle.roads.specs.Grids.{apart, grid_trip}

-- a step's seconds times the distance keeps the law of the way round
scaled : (s a b c : ℕ) → s * apart a c ≤ s * apart a b + s * apart b c
scaled s a b c =
    omega (arith, mul-le s (apart a c) s (apart a b + apart b c) (omega arith) (omega arith), mul-add s (apart a b) (apart b c))

-- two numbers below n are at most n - 1 apart
apart_below : (n a b : ℕ) → a < n → b < n → apart a b ≤ n - 1
apart_below n a b p q = omega arith

-- w columns and h rows have less than w * h steps from corner to corner
steps : (w h : ℕ) → 0 < w → 0 < h → (w - 1) + (h - 1) < w * h
steps w h p q = omega (arith, mul-le 1 (h - 1) w (h - 1) p (omega arith), mul-sub w h 1, le-mul_of_pos_right w q)

-- a grid of w columns and h rows, with steps of e and s seconds
module _ (w h e s : ℕ) (some : 1 ≤ w * h) (few : w * h ≤ 64) (near : (e ≤ 200) × (s ≤ 200)) where
  wide : 0 < w
  wide = lt_of_mul-lt-mul_right h {m = 0} {n = w} (omega (arith, zero-mul h))

  high : 0 < h
  high = lt_of_mul-lt-mul_left w {m = 0} {n = h} (omega (arith, mul-zero w))

  column : (a : ℕ) → a % w < w
  column a = mod_below a w wide

  row : (a : ℕ) → a < w * h → a / w < h
  row a p = div_below a w h wide (omega (arith, mul_comm w h))

  short : (a b : ℕ) → a < w * h → b < w * h → grid_trip w e s a b ≤ 14400
  short a b p q =
      let x = apart_below w (a % w) (b % w) (column a) (column b) in
      let y = apart_below h (a / w) (b / w) (row a p) (row b q) in
      omega (arith, mul-le e (apart (a % w) (b % w)) 200 (w - 1) near.0 x, mul-le s (apart (a / w) (b / w)) 200 (h - 1) near.1 y, steps w h wide high)

  pub grid_lawful : Lawful (w * h) (grid_trip w e s)
  grid_lawful = record {
    few = (some, few);
    short = short;
    here = λ a p. simp (sub_self, mul-zero);
    direct = λ a b c p q r. omega (arith, scaled e (a % w) (b % w) (c % w), scaled s (a / w) (b / w) (c / w));
  }
