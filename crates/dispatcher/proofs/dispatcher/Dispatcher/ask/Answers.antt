-- What a van asks is its bid.
use Rattle.std.proofs.Common.{◌≡◌, ◌-◌, true, Some, ap, ◌∙◌, arith, rules}
use Rattle.std.proofs.lemmas.Bool.{lt-ltb}
use Rattle.growth.specs.Grounds.{rules_of}
use Rattle.fleet.specs.States.{open_bookings, position_of, has_room, van_at}
use Rattle.fleet.proofs.Soundness.{sound_of, sound_at}
use Rattle.outcomes.specs.Settled.{slab_at}
use Rattle.outcomes.specs.Offers.{plan_in}
use Rattle.outcomes.proofs.Booked.{ask_sound, asked_least, asked_bid}
use Rattle.dispatcher.proofs.dispatcher.Dispatcher.ask.Goals as goal

pub survey-tally-requires-clause-sound : goal.survey-tally-requires-clause-sound
survey-tally-requires-clause-sound g c =
    let s = c.args.self.now.state in
    let w = c.in_ok-w.w in
    let on : van_at s c.args.van ≡ Some w = search rules in
    let known = sound_of s c.args.self.now.sound in
    let sound = sound_at s known (c.args.van - 1) w on in
    let count = c.open_count.ensures in
    let left = c.if-open_count-self.false in
    let four = known.four in
    let room : has_room s w ≡ true = lt-ltb _ _ (omega arith) in
    let at = c.position-with.ensures ∙ ap position_of (c.taking.ensures sound.its.packed (omega arith)) in
    ask_sound (rules_of g.R.Roads g.S.Stowage c.args.self.now.ground) s c.args.self.now.sound c.args.booking c.requires.new (c.args.van - 1) w on room c.position-with.result at

pub returns : goal.returns
returns g c =
    let s = c.args.self.now.state in
    let w = c.in_ok-w.w in
    let on : van_at s c.args.van ≡ Some w = search rules in
    let known = sound_of s c.args.self.now.sound in
    let sound = sound_at s known (c.args.van - 1) w on in
    let count = c.open_count.ensures in
    let left = c.if-open_count-self.false in
    let four = known.four in
    let room : has_room s w ≡ true = lt-ltb _ _ (omega arith) in
    let at = c.position-with.ensures ∙ ap position_of (c.taking.ensures sound.its.packed (omega arith)) in
    let rules_here = rules_of g.R.Roads g.S.Stowage c.args.self.now.ground in
    let least = asked_least rules_here s c.args.self.now.sound c.args.booking c.requires.new (c.args.van - 1) w on room c.args.nodes.now c.slabs.result c.position-with.result c.number.result c.survey-tally.result
    c.slabs.ensures at c.number.ensures c.survey-tally.ensures.tallies in
    let plan : Some c.in_ok-plan.plan ≡ plan_in (open_bookings w) (slab_at s c.args.nodes.now (c.args.van - 1)) = search rules in
    c.price_of.ensures
    ∙ asked_bid rules_here s c.args.self.now.sound c.args.booking c.requires.new (c.args.van - 1) w on room (slab_at s c.args.nodes.now (c.args.van - 1)) c.in_ok-plan.plan c.survey-tally.result.least plan least
