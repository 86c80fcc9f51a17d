use Rattle.growth.specs.Grounds.{rules_of}
use Rattle.outcomes.specs.Settled.{PrunedTo}
use Rattle.dispatcher.proofs.dispatcher.Dispatcher.prune_waiting.Given as goal

abbrev pub invariant-loop-i : goal.invariant-loop-i
invariant-loop-i g l = PrunedTo (rules_of g.R.Roads g.S.Stowage l.self.ground) l.before l.self.state l.time l.initial.nodes l.i l.nodes
