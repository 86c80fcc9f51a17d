-- Visit after visit is looked at.
use Rattle.std.proofs.Common.{sym, ◌∙◌}
use Rattle.orders.specs.Bookings.{kind_number}
use Rattle.outcomes.proofs.Booked.{stop_found, stop_later, stop_nowhere}
use Rattle.dispatcher.proofs.book.second_of.Goals as goal

pub returns-then-is_visit : goal.returns-then-is_visit
returns-then-is_visit c =
    stop_found c.args.booking (kind_number c.args.kind) c.args.visits.now c.loop-visit.visit-index _ c.loop-visit.invariant c.loop-visit-test.true (sym c.is_visit.ensures ∙ c.if-is_visit.true)

pub loop-visit-preserved : goal.loop-visit-preserved
loop-visit-preserved c =
    stop_later c.args.booking (kind_number c.args.kind) c.args.visits.now c.loop-visit.visit-index _ c.loop-visit.invariant c.loop-visit-test.true (sym c.is_visit.ensures ∙ c.if-is_visit.false)

pub returns : goal.returns
returns c = stop_nowhere c.args.booking (kind_number c.args.kind) c.args.visits.now c.loop-visit.visit-index _ c.loop-visit.invariant c.loop-visit-test.false
