-- What every stowage rule keeps.
use Rattle.std.specs.Prelude.{◌≡◌, ℕ, ◌≤◌, List, Some, Ok, Option, Result}
use Rattle.stowage.specs.declared.BadFigure.{BadFigure}
use Rattle.stowage.specs.declared.Load.{Load}
use Rattle.stowage.specs.declared.Promise.{Promise}
use Rattle.stowage.specs.declared.Window.{Window}

-- two loads that a hold takes one after the other, it takes the other way round, to the same hold
abbrev pub Exchange : {Hold : Type 0} → (Hold → Load → Option Hold) → Type 0
Exchange {Hold} stow = (h x y : Hold) (a b : Load) → stow h a ≡ Some x → stow x b ≡ Some y → (z : Hold) × (stow h b ≡ Some z) × (stow z a ≡ Some y)

-- a window opens before it closes, and closes within the week of 604,800 seconds
abbrev pub InWeek : Window → Type 0
InWeek w = (w.opens ≤ w.closes) × (w.closes ≤ 604800)

pub record Kept (p : Promise) : Type 0 where
  pub pickup : InWeek p.pickup
  pub dropoff : InWeek p.dropoff
  pub ride : p.ride_limit ≤ 604800

-- each promise keeps its windows and its ride limit within the week
abbrev pub Keeps : (List ℕ → ℕ → Result Promise BadFigure) → Type 0
Keeps promise = (figures : List ℕ) (direct : ℕ) (p : Promise) → promise figures direct ≡ Ok p → Kept p
