-- The slab suffices for all rules.
use Rattle.orders.specs.Rules.{rules}
use Rattle.orders.proofs.Sizes.{fits_slab}
use Rattle.orders.proofs.slab_suffices.Goals as goal

pub returns : goal.returns
returns g c = fits_slab (rules g.R.Roads g.S.Stowage c.args.roads.now c.args.rule.now)
