use Rattle.std.proofs.Common.{◌≡◌, ◌-◌, get_or, None}
use Rattle.growth.specs.Grounds.{rules_of}
use Rattle.outcomes.specs.Settled.{slab_at}
use Rattle.outcomes.specs.Offers.{read_bid, best_of}
use Rattle.dispatcher.proofs.dispatcher.Dispatcher.best_offer.Given as goal

abbrev pub invariant-loop-van : goal.invariant-loop-van
invariant-loop-van g l =
    l.best ≡ best_of (λ i. read_bid (rules_of g.R.Roads g.S.Stowage l.self.ground) l.self.state l.booking (slab_at l.self.state l.nodes i) (get_or l.self.state.vans i None)) (l.van - 1)
