-- Defines a table of trips, `places` numbers to a row, and what can be wrong with it.
use Rattle.std.specs.Prelude.{◌≡◌, ℕ, ◌+◌, ◌*◌, ◌/◌, ◌%◌, ◌<◌, ◌≤◌, Bool, true, false, ◌&&◌, ◌||◌, List, length, ◌==◌, nat_lt, slice_index}
use Rattle.roads.specs.Roads.{Lawful}

-- the seconds from a to b: the entry in row a and column b
abbrev pub table_trip : ℕ → List ℕ → ℕ → ℕ → ℕ
table_trip places seconds a b = slice_index seconds (a * places + b)

-- there are 1 to 64 places, and an entry from each to each
pub record Square (places : ℕ) (seconds : List ℕ) : Type 0 where
  pub few : (1 ≤ places) × (places ≤ 64)
  pub full : length seconds ≡ places * places

-- the seconds at a position are too many, or not 0 from a place to itself
abbrev pub bad_entry : ℕ → ℕ → ℕ → Bool
bad_entry places position s = nat_lt 14400 s || (position / places == position % places && nat_lt 0 s)

-- the way from a to c through b is shorter than the trip
abbrev pub shortcut : (ℕ → ℕ → ℕ) → ℕ → ℕ → ℕ → Bool
shortcut trip a b c = nat_lt (trip a b + trip b c) (trip a c)

-- no entry before the position is bad
abbrev pub NoneBad : ℕ → List ℕ → ℕ → Type 0
NoneBad places seconds position = (k : ℕ) → k < position → bad_entry places k (slice_index seconds k) ≡ false

-- no shortcut stands before the one from a to c through b, in the order of a, then b, then c
pub record NoShortcut (places : ℕ) (trip : ℕ → ℕ → ℕ) (a b c : ℕ) : Type 0 where
  pub before_from : (x y z : ℕ) → x < a → y < places → z < places → shortcut trip x y z ≡ false
  pub before_via : (y z : ℕ) → y < b → z < places → shortcut trip a y z ≡ false
  pub before_to : (z : ℕ) → z < c → shortcut trip a b z ≡ false

-- the entry at the position is the first bad one
pub record FirstBad (places : ℕ) (seconds : List ℕ) (position : ℕ) : Type 0 where
  pub within : position < length seconds
  pub bad : bad_entry places position (slice_index seconds position) ≡ true
  pub none_before : NoneBad places seconds position

-- the shortcut from a to c through b is the first, by a, then b, then c
pub record FirstShortcut (places : ℕ) (trip : ℕ → ℕ → ℕ) (a b c : ℕ) : Type 0 where
  pub within : (a < places) × (b < places) × (c < places)
  pub shorter : shortcut trip a b c ≡ true
  pub none_before : NoShortcut places trip a b c

-- the table is square, and its trips keep the laws of roads
pub record LawfulTable (places : ℕ) (seconds : List ℕ) : Type 0 where
  pub square : Square places seconds
  pub lawful : Lawful places (table_trip places seconds)
