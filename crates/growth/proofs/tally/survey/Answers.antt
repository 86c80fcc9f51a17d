-- The tally along a slab that suffices is that of the kinetic tree.
use Rattle.std.proofs.Common.{subst}
use Rattle.growth.specs.Grounds.{rules_of}
use Rattle.growth.specs.Positions.{walk_of}
use Rattle.growth.specs.Slabs.{own_slab}
use Rattle.growth.specs.Surveys.{Tallies}
use Rattle.growth.proofs.Surveyed.{surveys}
use Rattle.growth.proofs.tally.survey.Goals as goal

pub returns-clause-exact : goal.returns-clause-exact
returns-clause-exact g c =
    let rules = rules_of g.R.Roads g.S.Stowage c.args.ground in
    let tallies = subst (λ o. Tallies rules c.args.fresh o (walk_of c.args.position) c.tally.result) c.own_nodes.ensures c.tally.ensures in
    surveys rules (record { roads = g.met.R.Roads.lawful c.args.ground.roads.now; exchange = g.met.S.Stowage.exchange c.args.ground.rule.now })
    c.args.fresh (own_slab c.args.nodes.now c.args.slabs) (walk_of c.args.position) c.tally.result tallies
