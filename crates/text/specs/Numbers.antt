-- Defines the numbers that fields write in decimal digits.
use Rattle.std.specs.Prelude.{ℕ, ◌+◌, ◌-◌, ◌*◌, ◌^◌, Bool, false, cond, not, ◌&&◌, List, [], ◌∷◌, length, Some, None, Option, ◌==◌, nat_le, nat_lt}
use Rattle.std.specs.List.{list_all}
use Rattle.std.specs.Option.{option_map}
use Rattle.text.specs.Fields.{fields_left}

-- A byte from `0` to `9`.
abbrev pub is_digit : ℕ → Bool
is_digit b = nat_le 48 b && nat_le b 57

-- Each byte is a digit.
abbrev pub all_digits : List ℕ → Bool
all_digits bs = list_all is_digit bs

-- The number that digits write after those that wrote n.
abbrev pub value_after : ℕ → List ℕ → ℕ
value_after n [] = n
value_after n (b ∷ bs) = value_after (n * 10 + (b - 48)) bs

-- The number that one or more digits write.
abbrev pub decimal : List ℕ → Option ℕ
decimal [] = None
decimal (b ∷ bs) = cond (all_digits (b ∷ bs)) (Some (value_after 0 (b ∷ bs))) None

-- The number, if it is below a limit.
abbrev pub below : ℕ → Option ℕ → Option ℕ
below limit None = None
below limit (Some n) = cond (nat_lt n limit) (Some n) None

-- The number that is written when the byte b follows the digits that wrote n, if b is a digit.
abbrev pub with_next : ℕ → ℕ → Option ℕ
with_next n b = cond (is_digit b) (Some (n * 10 + (b - 48))) None

-- A number of 1 to 10 digits that fits 32 bits.
abbrev pub number32 : List ℕ → Option ℕ
number32 bs = cond (nat_le (length bs) 10) (below (2 ^ 32) (decimal bs)) None

-- A zero in front of another digit.
abbrev pub needless_zero : List ℕ → Bool
needless_zero [] = false
needless_zero (b ∷ bs) = b == 48 && nat_lt 0 (length bs)

-- A number of 1 to 7 digits with no needless zero in front.
abbrev pub short_number : List ℕ → Option ℕ
short_number bs = cond (nat_le (length bs) 7 && not (needless_zero bs)) (decimal bs) None

-- A number in front of others, if all are there.
abbrev pub in_front : Option ℕ → Option (List ℕ) → Option (List ℕ)
in_front None ns = None
in_front (Some n) ns = option_map (λ more. n ∷ more) ns

-- The numbers that fields write, in order, if each writes one.
abbrev pub all_numbers : List (List ℕ) → Option (List ℕ)
all_numbers [] = Some []
all_numbers (f ∷ fs) = in_front (number32 f) (all_numbers fs)

-- The numbers in the fields of a rest, in order, if each field writes one.
abbrev pub numbers_of : Option (List ℕ) → Option (List ℕ)
numbers_of rest = all_numbers (fields_left rest)
