-- Defines the rules of a day: roads and a stowage rule, with what they keep.
use Rattle.std.specs.Prelude.{ℕ, Option}
use Rattle.roads.specs.declared.Roads.{Ghosts as Roads}
use Rattle.roads.specs.Roads.{Lawful as LawfulRoads}
use Rattle.stowage.specs.declared.Load.{Load}
use Rattle.stowage.specs.declared.Stowage.{Ghosts as Stowage}
use Rattle.stowage.specs.Laws.{Exchange}

-- how many places there are, the road seconds from place to place, the empty hold, and the hold with one load more, if it fits
pub record Rules : Type 1 where
  pub Hold : Type 0
  pub places : ℕ
  pub trip : ℕ → ℕ → ℕ
  pub empty : Hold
  pub stow : Hold → Load → Option Hold

-- the rules made of what roads and a stowage rule say of themselves
abbrev pub rules : {R S Hold : Type 0} → Roads R → Stowage S Hold → R → S → Rules
rules {Hold = Hold} roads stowage r s = record { Hold = Hold; places = roads.places r; trip = roads.trip r; empty = stowage.empty s; stow = stowage.stow s }

-- the roads keep their laws, and loads that fit one after the other fit the other way round
pub record Lawful (g : Rules) : Type 0 where
  pub roads : LawfulRoads g.places g.trip
  pub exchange : Exchange g.stow
