-- The van goes with nothing open, so that its slab stays blank.
use Rattle.growth.specs.Grounds.{rules_of}
use Rattle.fleet.specs.States.{leave_call}
use Rattle.fleet.proofs.Soundness.{leave_sound}
use Rattle.outcomes.specs.Settled.{untouched}
use Rattle.outcomes.proofs.Acted.{changed_sound, told_by}
use Rattle.outcomes.proofs.Moved.{leave_written}
use Rattle.dispatcher.proofs.dispatcher.Dispatcher.leave.Goals as goal

pub invariant_of-self : goal.invariant_of-self
invariant_of-self g c =
    let s = c.args.self.now.state in
    record {
      sound = changed_sound s c.leave.new.self (leave_call s c.args.van) c.leave.result c.args.self.now.sound
          (λ q e. leave_sound s q c.args.self.now.sound c.args.van e) c.leave.ensures;
    }

pub returns-clause-nodes : goal.returns-clause-nodes
returns-clause-nodes g c =
    let s = c.args.self.now.state in
    let rules = rules_of g.R.Roads g.S.Stowage c.args.self.now.ground in
    told_by s c.leave.new.self rules c.args.nodes.now untouched (leave_call s c.args.van) c.leave.result c.leave.ensures
    (λ e. leave_written rules s c.args.self.now.sound c.args.nodes.now c.args.van c.leave.new.self e)
