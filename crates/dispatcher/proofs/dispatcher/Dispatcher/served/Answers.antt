-- The stop is served, and the van's tree is what stood below it, or grows anew.
use Rattle.std.proofs.Common.{arith}
use Rattle.orders.specs.Rules.{Lawful}
use Rattle.growth.specs.Grounds.{rules_of}
use Rattle.fleet.specs.States.{Service, served_call}
use Rattle.fleet.proofs.Soundness.{served_sound}
use Rattle.outcomes.specs.Settled.{one_van}
use Rattle.outcomes.proofs.Acted.{acted_sound, acted, idle}
use Rattle.outcomes.proofs.Moved.{served_written, served_keeps}
use Rattle.dispatcher.proofs.dispatcher.Dispatcher.served.Goals as goal

pub invariant_of-self : goal.invariant_of-self
invariant_of-self g c =
    let s = c.args.self.now.state in
    let rules = rules_of g.R.Roads g.S.Stowage c.args.self.now.ground in
    record {
      sound = acted_sound s c.served.new.self (served_call rules s c.args.van c.args.number c.args.time) c.served.result c.args.self.now.sound
          (λ q e. served_sound s q.0 c.args.self.now.sound rules c.args.van c.args.number c.args.time q.1 e) c.served.ensures;
    }

pub follow_service-requires : goal.follow_service-requires
follow_service-requires g c =
    let s = c.args.self.now.state in
    let rules = rules_of g.R.Roads g.S.Stowage c.args.self.now.ground in
    let room = c.in_ok-require_nodes.ensures.enough in
    let e = acted s c.served.new.self (served_call rules s c.args.van c.args.number c.args.time) c.served.result (c.in_ok-kind.kind, c.in_ok-kind.late, c.in_ok-kind.over) c.served.ensures c.in_ok-kind.was in
    let kept = served_keeps rules s c.served.new.self c.args.self.now.sound c.args.van c.args.number c.args.time _ e in
    record { within = kept.0; room = let f = kept.1 in omega arith }

pub returns-in_err-kind-clause-nodes : goal.returns-in_err-kind-clause-nodes
returns-in_err-kind-clause-nodes g c =
    let s = c.args.self.now.state in
    let rules = rules_of g.R.Roads g.S.Stowage c.args.self.now.ground in
    idle s c.served.new.self rules c.args.nodes.now (one_van c.args.van) _ (served_call rules s c.args.van c.args.number c.args.time) c.served.result _ c.served.ensures c.in_err-kind.was

pub returns-clause-nodes : goal.returns-clause-nodes
returns-clause-nodes g c =
    let s = c.args.self.now.state in
    let rules = rules_of g.R.Roads g.S.Stowage c.args.self.now.ground in
    let lawful : Lawful rules = record { roads = g.met.R.Roads.lawful c.args.self.now.ground.roads.now; exchange = g.met.S.Stowage.exchange c.args.self.now.ground.rule.now } in
    let told : Service = (c.in_ok-kind.kind, c.in_ok-kind.late, c.in_ok-kind.over) in
    let e = acted s c.served.new.self (served_call rules s c.args.van c.args.number c.args.time) c.served.result told c.served.ensures c.in_ok-kind.was in
    served_written rules s c.args.self.now.sound c.args.nodes.now c.follow_service.new.nodes c.in_ok-require_nodes.ensures.enough c.follow_service.auto.nodes lawful c.args.van c.args.number c.args.time c.served.new.self
    c.in_ok-kind.kind c.in_ok-kind.late c.in_ok-kind.over e c.follow_service.ensures
