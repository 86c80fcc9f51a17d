-- Defines the laws that all roads keep, and the answer to "how long is the trip".
use Rattle.std.specs.Prelude.{◌≡◌, ℕ, ◌+◌, ◌<◌, ◌≤◌, cond, ◌&&◌, Some, None, Option, nat_lt}

-- the laws of `trip`, the seconds between places numbered below `places`
pub record Lawful (places : ℕ) (trip : ℕ → ℕ → ℕ) : Type 0 where
  -- there are 1 to 64 places
  pub few : (1 ≤ places) × (places ≤ 64)
  -- no trip takes more than four hours
  pub short : (a b : ℕ) → a < places → b < places → trip a b ≤ 14400
  -- a trip from a place to itself takes no time
  pub here : (a : ℕ) → a < places → trip a a ≡ 0
  -- no way round through another place is shorter than the trip
  pub direct : (a b c : ℕ) → a < places → b < places → c < places → trip a c ≤ trip a b + trip b c

-- the trip from a to b, where both are places
abbrev pub between : ℕ → (ℕ → ℕ → ℕ) → ℕ → ℕ → Option ℕ
between places trip a b = cond (nat_lt a places && nat_lt b places) (Some (trip a b)) None
