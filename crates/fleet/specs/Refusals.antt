-- Defines the number and the detail of each refusal.
use Rattle.std.specs.Prelude.{ℕ}
use Rattle.fleet.specs.declared.refusal.Refusal.{Refusal}
use Rattle.fleet.specs.declared.refusal.Refusal.TheVariants.{VanCount, OpenLimit, TooFewNodes, BeyondWeek, NoSuchVan, OnDuty, OffDuty, NoSuchPlace, TooEarly, HasBookings, BadNumber, AlreadyOpen, NotOpen, BadFigure, NoVan, Aboard, NotThere, DoesNotFit, NoOrder}

-- the number by which each refusal is known
abbrev pub refusal_number : Refusal → ℕ
refusal_number VanCount = 1
refusal_number OpenLimit = 2
refusal_number TooFewNodes = 3
refusal_number BeyondWeek = 7
refusal_number NoSuchVan = 8
refusal_number OnDuty = 9
refusal_number OffDuty = 10
refusal_number (NoSuchPlace place) = 11
refusal_number TooEarly = 12
refusal_number HasBookings = 13
refusal_number BadNumber = 14
refusal_number AlreadyOpen = 15
refusal_number NotOpen = 16
refusal_number (BadFigure position) = 17
refusal_number NoVan = 18
refusal_number Aboard = 19
refusal_number NotThere = 20
refusal_number DoesNotFit = 21
refusal_number NoOrder = 22

-- 0 but for a place and a figure
abbrev pub refusal_detail : Refusal → ℕ
refusal_detail VanCount = 0
refusal_detail OpenLimit = 0
refusal_detail TooFewNodes = 0
refusal_detail BeyondWeek = 0
refusal_detail NoSuchVan = 0
refusal_detail OnDuty = 0
refusal_detail OffDuty = 0
refusal_detail (NoSuchPlace place) = place
refusal_detail TooEarly = 0
refusal_detail HasBookings = 0
refusal_detail BadNumber = 0
refusal_detail AlreadyOpen = 0
refusal_detail NotOpen = 0
refusal_detail (BadFigure position) = position
refusal_detail NoVan = 0
refusal_detail Aboard = 0
refusal_detail NotThere = 0
refusal_detail DoesNotFit = 0
refusal_detail NoOrder = 0
