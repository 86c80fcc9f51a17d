use Rattle.std.proofs.Common.{◌≡◌, drop}
use Rattle.orders.specs.Bookings.{kind_number}
use Rattle.outcomes.specs.Offers.{second_of}
use Rattle.dispatcher.proofs.book.second_of.Given as goal

abbrev pub invariant-loop-visit : goal.invariant-loop-visit
invariant-loop-visit l = second_of l.booking (kind_number l.kind) (drop l.visit-index l.visits) ≡ second_of l.booking (kind_number l.kind) l.visits
