-- Each way out of a step is what its walk's step answers.
use Rattle.std.proofs.Common.{refl, arith}
use Rattle.growth.specs.Grounds.{rules_of}
use Rattle.growth.proofs.Stepped.{not_visited, step_unknown, step_late, step_beyond, step_taken}
use Rattle.growth.proofs.walk.step.Goals as goal

pub returns-in_err-leg : goal.returns-in_err-leg
returns-in_err-leg g c =
    let rules = rules_of g.R.Roads g.S.Stowage c.args.ground in
    not_visited rules c.args.position.now c.args.i c.in_ok-booking.booking c.requires.sound c.in_ok-booking.was _ c.from_residual-in_err-leg.ensures
    (step_unknown rules c.args.position.now c.args.i c.in_ok-booking.booking c.requires.sound c.in_ok-booking.was
    c.next_stop-stop.result c.next_stop-stop.ensures c.in_err-leg.ensures)

pub returns-in_err-arrival : goal.returns-in_err-arrival
returns-in_err-arrival g c =
    let rules = rules_of g.R.Roads g.S.Stowage c.args.ground in
    not_visited rules c.args.position.now c.args.i c.in_ok-booking.booking c.requires.sound c.in_ok-booking.was _ c.from_residual-in_err-arrival.ensures
    (step_late rules c.args.position.now c.args.i c.in_ok-booking.booking c.requires.sound c.in_ok-booking.was
    c.next_stop-stop.result c.next_stop-stop.ensures c.in_ok-leg.leg c.in_ok-leg.ensures _ refl
    (let h = c.in_err-arrival.ensures in let k = c.next_stop-stop.type_inv in omega arith))

pub returns-then-second-stop : goal.returns-then-second-stop
returns-then-second-stop g c =
    let rules = rules_of g.R.Roads g.S.Stowage c.args.ground in
    not_visited rules c.args.position.now c.args.i c.in_ok-booking.booking c.requires.sound c.in_ok-booking.was _ refl
    (step_late rules c.args.position.now c.args.i c.in_ok-booking.booking c.requires.sound c.in_ok-booking.was
    c.next_stop-stop.result c.next_stop-stop.ensures c.in_ok-leg.leg c.in_ok-leg.ensures
    c.max-second.result (let h = c.in_ok-arrival.ensures in omega arith) c.if-second-stop.true)

pub returns-then-not-within_limits : goal.returns-then-not-within_limits
returns-then-not-within_limits g c =
    let rules = rules_of g.R.Roads g.S.Stowage c.args.ground in
    not_visited rules c.args.position.now c.args.i c.in_ok-booking.booking c.requires.sound c.in_ok-booking.was _ refl
    (step_beyond rules c.args.position.now c.args.i c.in_ok-booking.booking c.requires.sound c.in_ok-booking.was
    c.next_stop-stop.result c.next_stop-stop.ensures c.in_ok-leg.leg c.in_ok-leg.ensures
    c.max-second.result (let h = c.in_ok-arrival.ensures in omega arith) c.if-second-stop.false c.left.result c.left.ensures
    c.within_limits.result c.within_limits.ensures c.if-not-within_limits.true)

pub returns : goal.returns
returns g c =
    step_taken (rules_of g.R.Roads g.S.Stowage c.args.ground) c.args.position.now c.args.i c.in_ok-booking.booking c.requires.sound c.in_ok-booking.was
    c.next_stop-stop.result c.next_stop-stop.ensures c.in_ok-leg.leg c.in_ok-leg.ensures
    c.max-second.result (let h = c.in_ok-arrival.ensures in omega arith) c.if-second-stop.false c.left.result c.left.ensures
    c.within_limits.result c.within_limits.ensures c.if-not-within_limits.false c.departure.result c.departure.ensures
