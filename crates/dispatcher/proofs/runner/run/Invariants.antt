use Rattle.std.proofs.Common.{◌≡◌, take, drop}
use Rattle.growth.specs.Grounds.{rules_of}
use Rattle.fleet.specs.Terms.{terms_of}
use Rattle.outcomes.specs.Settled.{Settled}
use Rattle.outcomes.specs.Runs.{Run}
use Rattle.dispatcher.proofs.runner.run.Given as goal

abbrev pub invariant-loop-i : goal.invariant-loop-i
invariant-loop-i g l =
    (l.dispatcher.ground ≡ l.ground)
    × Settled (rules_of g.R.Roads g.S.Stowage l.ground) l.dispatcher.state l.nodes
    × Run (terms_of g.R.Roads g.S.Stowage l.ground) (record { state = l.initial.dispatcher.state; nodes = l.initial.nodes }) (take l.i l.calls) (take l.i l.answers) (record { state = l.dispatcher.state; nodes = l.nodes })
    × (drop l.i l.answers ≡ drop l.i l.initial.answers)
