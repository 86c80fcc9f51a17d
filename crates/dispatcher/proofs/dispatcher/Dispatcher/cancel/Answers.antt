-- The booking is gone, and the tree of its van grows anew.
use Rattle.std.proofs.Common.{sym, ◌∙◌}
use Rattle.growth.specs.Grounds.{rules_of}
use Rattle.fleet.specs.declared.refusal.Refusal.TheVariants.{NotOpen}
use Rattle.fleet.specs.States.{cancel_call}
use Rattle.fleet.proofs.Soundness.{sound_plainly, cancel_sound}
use Rattle.outcomes.proofs.Acted.{changed_sound, changed, was_some}
use Rattle.outcomes.proofs.Moved.{cancel_written, cancel_keeps}
use Rattle.dispatcher.proofs.dispatcher.Dispatcher.cancel.Goals as goal

-- what the call asks of the state
pub cancel-requires : goal.cancel-requires
cancel-requires g c = sound_plainly c.args.self.now.state c.args.self.now.sound

pub invariant_of-self : goal.invariant_of-self
invariant_of-self g c =
    let s = c.args.self.now.state in
    record {
      sound = changed_sound s c.cancel.new.self (cancel_call s c.args.number) c.cancel.result c.args.self.now.sound
          (λ q e. cancel_sound s c.args.self.now.sound c.args.number q e) c.cancel.ensures;
    }

pub renew-requires-clause-within : goal.renew-requires-clause-within
renew-requires-clause-within g c =
    let s = c.args.self.now.state in
    let rules = rules_of g.R.Roads g.S.Stowage c.args.self.now.ground in
    let e = changed s c.cancel.new.self (cancel_call s c.args.number) c.cancel.result tt c.cancel.ensures c.in_ok-cancel.was in
    let held = sym c.holder.ensures.value ∙ was_some c.holder.result NotOpen _ (sym c.ok_or.ensures.value ∙ c.in_ok-i.was) in
    (cancel_keeps rules s c.cancel.new.self c.args.self.now.sound c.args.number e c.in_ok-i.i _ held).0

pub returns-clause-nodes : goal.returns-clause-nodes
returns-clause-nodes g c =
    let s = c.args.self.now.state in
    let rules = rules_of g.R.Roads g.S.Stowage c.args.self.now.ground in
    let e = changed s c.cancel.new.self (cancel_call s c.args.number) c.cancel.result tt c.cancel.ensures c.in_ok-cancel.was in
    let held = sym c.holder.ensures.value ∙ was_some c.holder.result NotOpen _ (sym c.ok_or.ensures.value ∙ c.in_ok-i.was) in
    cancel_written rules s c.args.self.now.sound c.args.nodes.now c.renew.new.nodes c.in_ok-require_nodes.ensures.enough c.renew.auto.nodes c.args.number c.cancel.new.self e c.in_ok-i.i _ held c.renew.ensures
