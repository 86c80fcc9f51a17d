-- Defines the rules of a ground: what its roads and its stowage rule say of themselves.
use Rattle.roads.specs.declared.Roads.{Ghosts as OfRoads}
use Rattle.stowage.specs.declared.Stowage.{Ghosts as OfStowage}
use Rattle.orders.specs.Rules.{Rules, rules}
use Rattle.growth.specs.declared.Ground.{Ground}

-- places, trips, the empty hold and stowing, as the ground's roads and rule have them
abbrev pub rules_of : {R S Hold : Type 0} → OfRoads R → OfStowage S Hold → Ground R S → Rules
rules_of roads rule lent = rules roads rule lent.roads.now lent.rule.now
