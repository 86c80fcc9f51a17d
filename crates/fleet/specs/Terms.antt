-- Defines the terms of a day: its rules, and what its stowage rule promises.
use Rattle.std.specs.Prelude.{ℕ, List, Result}
use Rattle.roads.specs.declared.Roads.{Ghosts as OfRoads}
use Rattle.stowage.specs.declared.BadFigure.{BadFigure}
use Rattle.stowage.specs.declared.Promise.{Promise}
use Rattle.stowage.specs.declared.Stowage.{Ghosts as OfStowage}
use Rattle.stowage.specs.Laws.{Keeps}
use Rattle.orders.specs.Rules.{Rules, Lawful}
use Rattle.growth.specs.declared.Ground.{Ground}
use Rattle.growth.specs.Grounds.{rules_of}

-- roads and stowing, and what six figures over so many direct seconds are promised
pub record Terms : Type 1 where
  pub rules : Rules
  pub promise : List ℕ → ℕ → Result Promise BadFigure

-- the terms of a ground, as its roads and its rule have them
abbrev pub terms_of : {R S Hold : Type 0} → OfRoads R → OfStowage S Hold → Ground R S → Terms
terms_of roads rule lent = record { rules = rules_of roads rule lent; promise = rule.promise lent.rule.now }

-- terms whose roads and rule keep their laws
pub record LawfulTerms (t : Terms) : Type 0 where
  pub rules : Lawful t.rules
  pub promise : Keeps t.promise
