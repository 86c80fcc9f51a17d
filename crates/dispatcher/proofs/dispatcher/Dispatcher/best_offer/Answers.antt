-- Van after van is asked.
use Rattle.std.proofs.Common.{◌≡◌, ℕ, ◌+◌, ◌-◌, get_or, None, Option, sym, ap, ◌∙◌, arith, rules}
use Rattle.growth.specs.Grounds.{rules_of}
use Rattle.fleet.proofs.Soundness.{sound_of}
use Rattle.outcomes.specs.Settled.{slab_at}
use Rattle.outcomes.specs.Offers.{read_bid, best_of, better}
use Rattle.outcomes.proofs.Moved.{is_number_of_van}
use Rattle.outcomes.proofs.Booked.{best_more}
use Rattle.dispatcher.proofs.dispatcher.Dispatcher.best_offer.Goals as goal

pub overflow_add-van-end : goal.overflow_add-van-end
overflow_add-van-end g c = let most = (sound_of c.args.self.now.state c.args.self.now.sound).most in search rules

pub ask-requires-clause-within : goal.ask-requires-clause-within
ask-requires-clause-within g c =
    let s = c.args.self.now.state in
    let l = c.loop-van-test.true in
    is_number_of_van s c.loop-van.van c.loop-van.auto.van (omega arith) (sound_of s c.args.self.now.sound).most

pub loop-van-preserved : goal.loop-van-preserved
loop-van-preserved g c =
    let s = c.args.self.now.state in
    let v = c.loop-van.van in
    let one = c.loop-van.auto.van in
    let asks : ℕ → Option ℕ = λ i. read_bid (rules_of g.R.Roads g.S.Stowage c.args.self.now.ground) s c.args.booking (slab_at s c.args.nodes.now i) (get_or s.vans i None) in
    let number : v ≡ (v - 1) + 1 = omega arith in
    let next : (v - 1) + 1 ≡ (v + 1) - 1 = omega arith in
    c.better_of-best.ensures
    ∙ (λ j. better (c.loop-van.invariant j) (number j) (c.ask.ensures j))
    ∙ sym (best_more asks (v - 1)) ∙ ap (best_of asks) next
