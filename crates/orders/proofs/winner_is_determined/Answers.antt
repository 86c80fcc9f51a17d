-- Offers have one winner.
use Rattle.orders.proofs.Plans.{one_winner}
use Rattle.orders.proofs.winner_is_determined.Goals as goal

pub returns : goal.returns
returns c = one_winner
