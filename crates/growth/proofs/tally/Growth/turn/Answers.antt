-- A turn leaves a frame behind, passes over its next booking, or stores a node.
use Rattle.std.proofs.Common.{refl, ap, ◌∙◌, arith}
use Rattle.orders.specs.Bookings.{kind_number}
use Rattle.growth.specs.Grounds.{rules_of}
use Rattle.growth.proofs.Turns.{root_small}
use Rattle.growth.proofs.Stacks.{left_behind, passed_over, node_fits, stored}
use Rattle.growth.proofs.tally.Growth.turn.Goals as goal

pub returns-then-frame-eq4 : goal.returns-then-frame-eq4
returns-then-frame-eq4 g c =
    left_behind (rules_of g.R.Roads g.S.Stowage c.args.self.ground) c.args.self.fresh c.args.stack.now.items c.args.frame c.requires.under c.requires.top c.args.nodes.now c.args.count c.if-frame-eq4.true

pub returns-in_default : goal.returns-in_default
returns-in_default g c =
    passed_over (rules_of g.R.Roads g.S.Stowage c.args.self.ground) c.args.self.fresh c.args.stack.now.items c.args.frame c.requires.under c.requires.top c.args.nodes.now c.args.count c.if-frame-eq4.false
    c.in_default.ensures c.push.new.self.items c.push.ensures.items

pub overflow_add-nodes : goal.overflow_add-nodes
overflow_add-nodes g c =
    let few = root_small (rules_of g.R.Roads g.S.Stowage c.args.self.ground) c.args.self.fresh c.args.frame.old.now c.args.frame.position c.in-Some.root c.in-Some.ensures in
    omega arith

pub bounds-nodes-count : goal.bounds-nodes-count
bounds-nodes-count g c =
    node_fits (rules_of g.R.Roads g.S.Stowage c.args.self.ground) c.args.self.fresh c.args.stack.now.items c.args.frame c.requires.under c.requires.top c.args.nodes.now c.args.count c.if-frame-eq4.false
    c.in-Some.root c.in-Some.ensures _ _ _ refl refl refl c.requires.room

pub returns : goal.returns
returns g c =
    stored (rules_of g.R.Roads g.S.Stowage c.args.self.ground) c.args.self.fresh c.args.stack.now.items c.args.frame c.requires.under c.requires.top c.args.nodes.now c.args.count c.if-frame-eq4.false
    c.in-Some.root c.in-Some.ensures _ _ _ (c.len.ensures.value ∙ c.push.ensures.len) c.number.ensures (c.number-2.ensures ∙ ap kind_number c.kind.ensures) c.requires.room
    c.push.new.self.items c.push-2.new.self.items c.push.ensures.items c.push-2.ensures.items
