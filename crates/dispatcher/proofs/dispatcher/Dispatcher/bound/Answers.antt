-- The van is bound, and its tree is pruned.
use Rattle.growth.specs.Grounds.{rules_of}
use Rattle.fleet.specs.States.{bound_call}
use Rattle.fleet.proofs.Soundness.{sound_plainly, bound_sound}
use Rattle.outcomes.specs.Settled.{one_van}
use Rattle.outcomes.proofs.Acted.{changed_sound, changed, unchanged}
use Rattle.outcomes.proofs.Moved.{bound_written}
use Rattle.dispatcher.proofs.dispatcher.Dispatcher.bound.Goals as goal

-- what the call asks of the state
pub bound-requires : goal.bound-requires
bound-requires g c = sound_plainly c.args.self.now.state c.args.self.now.sound

pub invariant_of-self : goal.invariant_of-self
invariant_of-self g c =
    let s = c.args.self.now.state in
    let rules = rules_of g.R.Roads g.S.Stowage c.args.self.now.ground in
    record {
      sound = changed_sound s c.bound.new.self (bound_call s rules.places rules.trip c.args.van c.args.place c.args.time) c.bound.result c.args.self.now.sound
          (λ q e. bound_sound s q c.args.self.now.sound rules.places rules.trip c.args.van c.args.place c.args.time (g.met.R.Roads.lawful c.args.self.now.ground.roads.now).few.1 e) c.bound.ensures;
    }

pub returns-in_err-bound-clause-nodes : goal.returns-in_err-bound-clause-nodes
returns-in_err-bound-clause-nodes g c =
    let s = c.args.self.now.state in
    let rules = rules_of g.R.Roads g.S.Stowage c.args.self.now.ground in
    unchanged s c.bound.new.self rules c.args.nodes.now (one_van c.args.van) _ (bound_call s rules.places rules.trip c.args.van c.args.place c.args.time) c.bound.result _ c.bound.ensures c.in_err-bound.was

pub returns-clause-nodes : goal.returns-clause-nodes
returns-clause-nodes g c =
    let s = c.args.self.now.state in
    let rules = rules_of g.R.Roads g.S.Stowage c.args.self.now.ground in
    let e = changed s c.bound.new.self (bound_call s rules.places rules.trip c.args.van c.args.place c.args.time) c.bound.result tt c.bound.ensures c.in_ok-bound.was in
    bound_written rules s c.args.self.now.sound c.args.nodes.now c.prune_moved.new.nodes c.in_ok-require_nodes.ensures.enough c.prune_moved.auto.nodes c.args.van c.args.place c.args.time c.bound.new.self e c.prune_moved.ensures
