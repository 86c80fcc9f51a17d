-- Defines what the frames of the walk still owe to the row, and what one turn keeps.
use Rattle.std.specs.Prelude.{◌≡◌, ℕ, ◌+◌, ◌-◌, ◌*◌, ◌<◌, ◌≤◌, List, [], ◌∷◌, ◌++◌, length}
use Rattle.orders.specs.declared.Node.{Node}
use Rattle.orders.specs.Rules.{Rules}
use Rattle.orders.specs.Bookings.{stops}
use Rattle.orders.specs.Trees.{nodes}
use Rattle.growth.specs.declared.guide.Fresh.{Fresh}
use Rattle.growth.specs.declared.grow.Frame.{Frame}
use Rattle.growth.specs.Positions.{compact, Sound}
use Rattle.growth.specs.Roots.{from_here}
use Rattle.growth.specs.Memory.{pasted}

-- a frame that stands on so many others, no more of which there are than stops served before it
pub record Stands (under : ℕ) (f : Frame) : Type 0 where
  pub sound : Sound f.position
  pub next : f.next ≤ 4
  pub deep : stops (compact f.position.bookings) + under ≤ 8

-- each frame stands on those before it, the first one on so many others
abbrev pub AllStand : ℕ → List Frame → Type 0
AllStand under [] = Unit {0}
AllStand under (f ∷ fs) = Stands under f × AllStand (under + 1) fs

module _ (g : Rules) (fresh : Fresh) where
  -- the nodes that a frame still owes, at their depth
  abbrev pub owes : ℕ → Frame → List Node
  owes depth f = nodes depth (from_here g fresh f.old.now f.position f.next)

  -- the nodes that all frames owe, in their order in the row: the top frame is the last one, and its nodes come first
  abbrev pub owed : ℕ → List Frame → List Node
  owed depth [] = []
  owed depth (f ∷ fs) = owed (depth + 1) fs ++ owes depth f

-- how many turns the frames take that store nothing
abbrev pub slack : List Frame → ℕ
slack [] = 0
slack (f ∷ fs) = slack fs + (5 - f.next)

-- one turn: what is written and what is owed make the same row together, and less is left to do
pub record Advanced (g : Rules) (fresh : Fresh) (fs : List Frame) (memory : List Node) (count : ℕ) (fs' : List Frame) (memory' : List Node) (count' : ℕ) : Type 0 where
  pub stand : AllStand 0 fs'
  pub whole : pasted memory' count' (owed g fresh 1 fs') ≡ pasted memory count (owed g fresh 1 fs)
  pub long : count' + length (owed g fresh 1 fs') ≡ count + length (owed g fresh 1 fs)
  pub falls : 6 * length (owed g fresh 1 fs') + slack fs' < 6 * length (owed g fresh 1 fs) + slack fs
