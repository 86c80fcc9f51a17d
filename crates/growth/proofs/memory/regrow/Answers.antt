-- Along a slab that suffices the kinetic tree grows.
use Rattle.std.proofs.Common.{◌∙◌}
use Rattle.growth.specs.Grounds.{rules_of}
use Rattle.growth.specs.Slabs.{own_slab}
use Rattle.growth.proofs.Replacing.{own_before, work_fits_row, count_fits, regrown}
use Rattle.growth.proofs.memory.regrow.Goals as goal

pub write-count-requires-clause-fits : goal.write-count-requires-clause-fits
write-count-requires-clause-fits g c =
    work_fits_row (rules_of g.R.Roads g.S.Stowage c.args.ground) c.args.fresh c.args.position c.requires.sound c.args.nodes.now c.args.slabs c.requires.laid c.requires.roomy c.own_nodes.result.now
    c.split_at_mut-vans.result.1.now c.split_at_mut-vans.ensures.back

pub take_over-requires-clause-fits : goal.take_over-requires-clause-fits
take_over-requires-clause-fits g c =
    count_fits (rules_of g.R.Roads g.S.Stowage c.args.ground) c.args.fresh c.args.position c.requires.sound c.args.nodes.now c.args.slabs c.requires.laid c.requires.roomy c.own_nodes.result.now
    c.write-count.result c.write-count.ensures.count

pub returns : goal.returns
returns g c =
    let old = own_slab c.args.nodes.now c.args.slabs in
    let read = c.own_nodes.ensures ∙ own_before c.args.nodes.now c.args.slabs c.requires.laid c.split_at_mut-vans.result.0.now c.split_at_mut-vans.ensures.front in
    let all = regrown (rules_of g.R.Roads g.S.Stowage c.args.ground) c.args.fresh c.args.position c.requires.sound c.args.nodes.now c.args.slabs c.requires.laid c.requires.roomy c.own_nodes.result.now
    (record { roads = g.met.R.Roads.lawful c.args.ground.roads.now; exchange = g.met.S.Stowage.exchange c.args.ground.rule.now }) old read
    c.split_at_mut-vans.result.0.now c.split_at_mut-vans.result.1.now c.write-count.new.nodes c.take_over.new.nodes c.write-count.result
    c.split_at_mut-vans.ensures.front c.split_at_mut-vans.ensures.back c.write-count.ensures.written c.write-count.ensures.count c.take_over.ensures in
    record { replaced = all.0; count = all.1; exact = all.2 }
