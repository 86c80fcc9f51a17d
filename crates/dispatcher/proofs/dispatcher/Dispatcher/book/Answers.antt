-- The booking goes to the best offer, and waits there.
use Rattle.std.proofs.Common.{◌≡◌, true, Ok, Err, sym, refl, ap, ◌∙◌, subst, rules}
use Rattle.orders.specs.Rules.{Lawful}
use Rattle.fleet.specs.declared.refusal.Refusal.TheVariants.{NoVan}
use Rattle.fleet.specs.SoundTest.{is_sound}
use Rattle.fleet.specs.States.{Acts}
use Rattle.fleet.specs.Terms.{terms_of}
use Rattle.fleet.proofs.Ranges.{requested_sound}
use Rattle.fleet.proofs.Soundness.{taken_sound}
use Rattle.outcomes.specs.Offers.{told_booked, visits_of}
use Rattle.outcomes.specs.Outcomes.{book_call, told_plan, Given, Books}
use Rattle.outcomes.proofs.Acted.{was_some, was_none, goes_on}
use Rattle.outcomes.proofs.Booked.{offer_van, its_new, refused_by_all, given, still_van, book_written, book_told}
use Rattle.dispatcher.proofs.dispatcher.Dispatcher.book.Goals as goal

pub returns-in_err-offer-clause-state : goal.returns-in_err-offer-clause-state
returns-in_err-offer-clause-state g c settled =
    let s = c.args.self.now.state in
    let nodes = c.args.nodes.now in
    let t = terms_of g.R.Roads g.S.Stowage c.args.self.now.ground in
    let h = c.args.self.now.sound in
    let b = c.in_ok-booking.booking in
    let asked = sym c.request.ensures ∙ c.in_ok-booking.was in
    let room = c.in_ok-require_nodes.ensures.enough in
    let lawful : Lawful t.rules = record { roads = g.met.R.Roads.lawful c.args.self.now.ground.roads.now; exchange = g.met.S.Stowage.exchange c.args.self.now.ground.rule.now } in
    let none = sym c.best_offer.ensures ∙ was_none c.best_offer.result NoVan _ (sym c.ok_or.ensures.value ∙ c.in_err-offer.was) in
    let refused : c.from_residual-in_err-offer.result ≡ Err NoVan = search rules in
    subst (λ q. Acts q s s c.from_residual-in_err-offer.result)
    (sym (goes_on s _ _ room ∙ refused_by_all t lawful s h nodes nodes room refl c.args.number c.args.from c.args.to c.args.figures b asked none settled)) (refl, refused)

pub take-requires-clause-within : goal.take-requires-clause-within
take-requires-clause-within g c =
    let s = c.args.self.now.state in
    let nodes = c.args.nodes.now in
    let t = terms_of g.R.Roads g.S.Stowage c.args.self.now.ground in
    let h = c.args.self.now.sound in
    let b = c.in_ok-booking.booking in
    let asked = sym c.request.ensures ∙ c.in_ok-booking.was in
    let room = c.in_ok-require_nodes.ensures.enough in
    let o = c.in_ok-offer.offer in
    let won = sym c.best_offer.ensures ∙ was_some c.best_offer.result NoVan o (sym c.ok_or.ensures.value ∙ c.in_ok-offer.was) in
    (offer_van t.rules s h nodes b o won).1

pub invariant_of-self-2 : goal.invariant_of-self-2
invariant_of-self-2 g c =
    let s = c.args.self.now.state in
    let nodes = c.args.nodes.now in
    let t = terms_of g.R.Roads g.S.Stowage c.args.self.now.ground in
    let h = c.args.self.now.sound in
    let b = c.in_ok-booking.booking in
    let asked = sym c.request.ensures ∙ c.in_ok-booking.was in
    let room = c.in_ok-require_nodes.ensures.enough in
    let lawful : Lawful t.rules = record { roads = g.met.R.Roads.lawful c.args.self.now.ground.roads.now; exchange = g.met.S.Stowage.exchange c.args.self.now.ground.rule.now } in
    let o = c.in_ok-offer.offer in
    let won = sym c.best_offer.ensures ∙ was_some c.best_offer.result NoVan o (sym c.ok_or.ensures.value ∙ c.in_ok-offer.was) in
    let in_range = requested_sound t (g.met.S.Stowage.keeps c.args.self.now.ground.rule.now) lawful.roads.few.1 s c.args.number c.args.from c.args.to c.args.figures b asked in
    record { sound = subst (λ x. is_sound x ≡ true) (sym c.take.ensures) (taken_sound s h o.van b (offer_van t.rules s h nodes b o won).1 (λ w at. in_range w.driven) (its_new t lawful s h nodes nodes room refl c.args.number c.args.from c.args.to c.args.figures b asked)) }

pub renew-requires-clause-within : goal.renew-requires-clause-within
renew-requires-clause-within g c =
    let s = c.args.self.now.state in
    let nodes = c.args.nodes.now in
    let t = terms_of g.R.Roads g.S.Stowage c.args.self.now.ground in
    let h = c.args.self.now.sound in
    let b = c.in_ok-booking.booking in
    let asked = sym c.request.ensures ∙ c.in_ok-booking.was in
    let room = c.in_ok-require_nodes.ensures.enough in
    let lawful : Lawful t.rules = record { roads = g.met.R.Roads.lawful c.args.self.now.ground.roads.now; exchange = g.met.S.Stowage.exchange c.args.self.now.ground.rule.now } in
    let o = c.in_ok-offer.offer in
    let won = sym c.best_offer.ensures ∙ was_some c.best_offer.result NoVan o (sym c.ok_or.ensures.value ∙ c.in_ok-offer.was) in
    still_van t lawful s h nodes nodes room refl c.args.number c.args.from c.args.to c.args.figures b asked o won c.take.new.self c.take.ensures

pub told_plan-plan-requires-clause-within : goal.told_plan-plan-requires-clause-within
told_plan-plan-requires-clause-within g c =
    let s = c.args.self.now.state in
    let nodes = c.args.nodes.now in
    let t = terms_of g.R.Roads g.S.Stowage c.args.self.now.ground in
    let h = c.args.self.now.sound in
    let b = c.in_ok-booking.booking in
    let asked = sym c.request.ensures ∙ c.in_ok-booking.was in
    let room = c.in_ok-require_nodes.ensures.enough in
    let lawful : Lawful t.rules = record { roads = g.met.R.Roads.lawful c.args.self.now.ground.roads.now; exchange = g.met.S.Stowage.exchange c.args.self.now.ground.rule.now } in
    let o = c.in_ok-offer.offer in
    let won = sym c.best_offer.ensures ∙ was_some c.best_offer.result NoVan o (sym c.ok_or.ensures.value ∙ c.in_ok-offer.was) in
    still_van t lawful s h nodes nodes room refl c.args.number c.args.from c.args.to c.args.figures b asked o won c.take.new.self c.take.ensures

pub returns-clause-any : goal.returns-clause-any
returns-clause-any g c =
    let s = c.args.self.now.state in
    let nodes = c.args.nodes.now in
    let t = terms_of g.R.Roads g.S.Stowage c.args.self.now.ground in
    let h = c.args.self.now.sound in
    let b = c.in_ok-booking.booking in
    let asked = sym c.request.ensures ∙ c.in_ok-booking.was in
    let room = c.in_ok-require_nodes.ensures.enough in
    let lawful : Lawful t.rules = record { roads = g.met.R.Roads.lawful c.args.self.now.ground.roads.now; exchange = g.met.S.Stowage.exchange c.args.self.now.ground.rule.now } in
    let o = c.in_ok-offer.offer in
    let won = sym c.best_offer.ensures ∙ was_some c.best_offer.result NoVan o (sym c.ok_or.ensures.value ∙ c.in_ok-offer.was) in
    let told = c.told_booked.ensures ∙ ap (λ p. told_booked c.args.number o (visits_of p)) c.told_plan-plan.ensures in
    subst (λ q. Books q s c.take.new.self (Ok c.told_booked.result)) (sym (goes_on s _ _ room ∙ asked))
    (subst (λ a. Given s b c.take.new.self (Ok a)) (sym told)
    (given t lawful s h nodes c.renew.new.nodes room c.renew.auto.nodes c.args.number c.args.from c.args.to c.args.figures b asked o won c.take.new.self c.take.ensures c.args.number (visits_of (told_plan c.take.new.self c.renew.new.nodes o.van))))

pub returns-clause-state : goal.returns-clause-state
returns-clause-state g c settled =
    let s = c.args.self.now.state in
    let nodes = c.args.nodes.now in
    let t = terms_of g.R.Roads g.S.Stowage c.args.self.now.ground in
    let h = c.args.self.now.sound in
    let b = c.in_ok-booking.booking in
    let asked = sym c.request.ensures ∙ c.in_ok-booking.was in
    let room = c.in_ok-require_nodes.ensures.enough in
    let lawful : Lawful t.rules = record { roads = g.met.R.Roads.lawful c.args.self.now.ground.roads.now; exchange = g.met.S.Stowage.exchange c.args.self.now.ground.rule.now } in
    let o = c.in_ok-offer.offer in
    let won = sym c.best_offer.ensures ∙ was_some c.best_offer.result NoVan o (sym c.ok_or.ensures.value ∙ c.in_ok-offer.was) in
    let told = c.told_booked.ensures ∙ ap (λ p. told_booked c.args.number o (visits_of p)) c.told_plan-plan.ensures in
    let wrote = book_written t lawful s h nodes c.renew.new.nodes room c.renew.auto.nodes c.args.number c.args.from c.args.to c.args.figures b asked o won c.take.new.self c.take.ensures c.renew.ensures in
    subst (λ q. Acts q s c.take.new.self (Ok c.told_booked.result)) (sym (goes_on s _ _ room))
    (subst (λ a. Acts (book_call t s c.args.number c.args.from c.args.to c.args.figures) s c.take.new.self (Ok a)) (sym told)
    (book_told t lawful s h nodes c.renew.new.nodes room c.renew.auto.nodes c.args.number c.args.from c.args.to c.args.figures b asked o won c.take.new.self c.take.ensures settled wrote))

pub returns-clause-nodes : goal.returns-clause-nodes
returns-clause-nodes g c =
    let s = c.args.self.now.state in
    let nodes = c.args.nodes.now in
    let t = terms_of g.R.Roads g.S.Stowage c.args.self.now.ground in
    let h = c.args.self.now.sound in
    let b = c.in_ok-booking.booking in
    let asked = sym c.request.ensures ∙ c.in_ok-booking.was in
    let room = c.in_ok-require_nodes.ensures.enough in
    let lawful : Lawful t.rules = record { roads = g.met.R.Roads.lawful c.args.self.now.ground.roads.now; exchange = g.met.S.Stowage.exchange c.args.self.now.ground.rule.now } in
    let o = c.in_ok-offer.offer in
    let won = sym c.best_offer.ensures ∙ was_some c.best_offer.result NoVan o (sym c.ok_or.ensures.value ∙ c.in_ok-offer.was) in
    book_written t lawful s h nodes c.renew.new.nodes room c.renew.auto.nodes c.args.number c.args.from c.args.to c.args.figures b asked o won c.take.new.self c.take.ensures c.renew.ensures
