-- The van comes with nothing open, so that its slab stays blank.
use Rattle.std.proofs.Common.{◌≤◌, sym, subst}
use Rattle.growth.specs.Grounds.{rules_of}
use Rattle.fleet.specs.States.{join_call}
use Rattle.fleet.proofs.Soundness.{join_sound}
use Rattle.outcomes.specs.Settled.{untouched}
use Rattle.outcomes.proofs.Acted.{changed_sound, told_by}
use Rattle.outcomes.proofs.Moved.{join_written}
use Rattle.dispatcher.proofs.dispatcher.Dispatcher.join.Goals as goal

pub invariant_of-self : goal.invariant_of-self
invariant_of-self g c =
    let s = c.args.self.now.state in
    let few : c.places.result ≤ 64 = subst (λ n. n ≤ 64) (sym c.places.ensures) (g.met.R.Roads.lawful c.args.self.now.ground.roads.now).few.1 in
    record {
      sound = changed_sound s c.join.new.self (join_call s c.places.result c.args.van c.args.place c.args.time) c.join.result c.args.self.now.sound
          (λ q e. join_sound s q c.args.self.now.sound c.places.result c.args.van c.args.place c.args.time few e) c.join.ensures;
    }

pub returns-clause-nodes : goal.returns-clause-nodes
returns-clause-nodes g c =
    let s = c.args.self.now.state in
    let rules = rules_of g.R.Roads g.S.Stowage c.args.self.now.ground in
    told_by s c.join.new.self rules c.args.nodes.now untouched (join_call s c.places.result c.args.van c.args.place c.args.time) c.join.result c.join.ensures
    (λ e. join_written rules s c.args.self.now.sound c.args.nodes.now c.places.result c.args.van c.args.place c.args.time c.join.new.self e)
