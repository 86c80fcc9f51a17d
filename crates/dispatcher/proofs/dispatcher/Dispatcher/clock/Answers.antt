-- The clock moves on, and the trees of the vans that waited are pruned.
use Rattle.growth.specs.Grounds.{rules_of}
use Rattle.fleet.specs.States.{clock_call}
use Rattle.fleet.proofs.Soundness.{clock_sound}
use Rattle.outcomes.proofs.Acted.{changed_sound, changed}
use Rattle.outcomes.proofs.Clocked.{clock_written}
use Rattle.dispatcher.proofs.dispatcher.Dispatcher.clock.Goals as goal

pub invariant_of-self : goal.invariant_of-self
invariant_of-self g c =
    let s = c.args.self.now.state in
    record {
      sound = changed_sound s c.clock.new.self (clock_call s c.args.time) c.clock.result c.args.self.now.sound
          (λ q e. clock_sound s q c.args.self.now.sound c.args.time e) c.clock.ensures;
    }

pub returns-clause-nodes : goal.returns-clause-nodes
returns-clause-nodes g c =
    let s = c.args.self.now.state in
    let rules = rules_of g.R.Roads g.S.Stowage c.args.self.now.ground in
    let e = changed s c.clock.new.self (clock_call s c.args.time) c.clock.result tt c.clock.ensures c.in_ok-clock.was in
    clock_written rules s c.clock.new.self c.args.self.now.sound c.args.time e c.args.nodes.now c.in_ok-require_nodes.ensures.enough c.prune_waiting.new.nodes c.prune_waiting.ensures
