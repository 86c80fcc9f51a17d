-- Defines what is known of an open limit.
use Rattle.std.specs.Prelude.{◌≡◌, ℕ, Bool, true, ◌&&◌, nat_le}
use Rattle.van_slab.specs.declared.limit.OpenLimit.{OpenLimit}

-- how many bookings may be open at once
abbrev pub open_limit : OpenLimit → ℕ
open_limit limit = limit.value

-- a van may have 1 to 4 open bookings
abbrev pub is_limit : ℕ → Bool
is_limit k = nat_le 1 k && nat_le k 4

-- k is an open limit, and this is it
pub record LimitOf (k : ℕ) (limit : OpenLimit) : Type 0 where
  pub sound : is_limit k ≡ true
  pub same : open_limit limit ≡ k
