-- The van's tree grows in its slab.
use Rattle.std.proofs.Common.{◌-◌, sym, ◌∙◌}
use Rattle.growth.specs.Grounds.{rules_of}
use Rattle.outcomes.specs.Settled.{slab_at}
use Rattle.outcomes.proofs.Written.{ready, regrown_from, regrown_at}
use Rattle.dispatcher.proofs.dispatcher.Dispatcher.renew.Goals as goal

pub regrow-requires : goal.regrow-requires
regrow-requires g c =
    let all = ready c.args.self.now.state c.args.self.now.sound c.args.van c.requires.within c.in-Some.w (sym c.van.ensures ∙ c.in-Some.is) c.args.nodes.now c.requires.room
    c.slabs.result c.position.result c.slabs.ensures c.position.ensures in
    record { sound = all.0; laid = all.1; roomy = all.2 }

pub returns-in-Some : goal.returns-in-Some
returns-in-Some g c w e =
    let s = c.args.self.now.state in
    let rules = rules_of g.R.Roads g.S.Stowage c.args.self.now.ground in
    regrown_at rules s (c.args.van - 1) c.args.fresh (slab_at s c.args.nodes.now (c.args.van - 1)) _ c.in-Some.w w c.args.nodes.now c.regrow.new.nodes (sym c.van.ensures ∙ c.in-Some.is) e
    (regrown_from rules s c.args.fresh (λ l. l) c.args.nodes.now c.regrow.new.nodes (c.args.van - 1)
    c.slabs.result c.position.result c.in-Some.w c.slabs.ensures c.position.ensures c.regrow.ensures.replaced c.regrow.ensures.exact)
