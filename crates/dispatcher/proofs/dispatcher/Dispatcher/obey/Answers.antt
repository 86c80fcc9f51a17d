-- Each call does what its own contract says.
use Rattle.std.proofs.Common.{◌≡◌, sym, refl, subst, rules}
use Rattle.fleet.specs.declared.call.Call.TheVariants as call
use Rattle.fleet.specs.declared.call.Report.TheVariants as report
use Rattle.fleet.specs.Terms.{terms_of}
use Rattle.outcomes.specs.Runs.{told, done, service, Does}
use Rattle.outcomes.proofs.Running.{does_acts, does_changes, does_book}
use Rattle.dispatcher.proofs.dispatcher.Dispatcher.obey.Goals as goal

pub returns-in-Join-clause-does : goal.returns-in-Join-clause-does
returns-in-Join-clause-does g c =
    let s = c.args.self.now.state in
    let t = terms_of g.R.Roads g.S.Stowage c.args.self.now.ground in
    let a = c.map-in-Join.result in
    let tells : a ≡ told done c.join.result = search rules in
    subst (λ x. Does t x s c.args.nodes.now a c.join.new.self.state c.args.nodes.now) (sym c.in-Join.is)
    (does_changes t (call.Join c.in-Join.van c.in-Join.place c.in-Join.time) s c.join.new.self.state c.args.nodes.now c.args.nodes.now a (λ x. x) _ c.join.result refl c.join.ensures.state c.join.ensures.nodes tells)

pub returns-in-Leave-clause-does : goal.returns-in-Leave-clause-does
returns-in-Leave-clause-does g c =
    let s = c.args.self.now.state in
    let t = terms_of g.R.Roads g.S.Stowage c.args.self.now.ground in
    let a = c.map-in-Leave.result in
    let tells : a ≡ told done c.leave.result = search rules in
    subst (λ x. Does t x s c.args.nodes.now a c.leave.new.self.state c.args.nodes.now) (sym c.in-Leave.is)
    (does_changes t (call.Leave c.in-Leave.van) s c.leave.new.self.state c.args.nodes.now c.args.nodes.now a (λ x. x) _ c.leave.result refl c.leave.ensures.state c.leave.ensures.nodes tells)

pub returns-in-Bound-clause-does : goal.returns-in-Bound-clause-does
returns-in-Bound-clause-does g c =
    let s = c.args.self.now.state in
    let t = terms_of g.R.Roads g.S.Stowage c.args.self.now.ground in
    let a = c.map-in-Bound.result in
    let tells : a ≡ told done c.bound.result = search rules in
    subst (λ x. Does t x s c.args.nodes.now a c.bound.new.self.state c.bound.new.nodes) (sym c.in-Bound.is)
    (does_changes t (call.Bound c.in-Bound.van c.in-Bound.place c.in-Bound.time) s c.bound.new.self.state c.args.nodes.now c.bound.new.nodes a (λ x. x) _ c.bound.result refl c.bound.ensures.state c.bound.ensures.nodes tells)

pub returns-in-Cancel-clause-does : goal.returns-in-Cancel-clause-does
returns-in-Cancel-clause-does g c =
    let s = c.args.self.now.state in
    let t = terms_of g.R.Roads g.S.Stowage c.args.self.now.ground in
    let a = c.map-in-Cancel.result in
    let tells : a ≡ told done c.cancel.result = search rules in
    subst (λ x. Does t x s c.args.nodes.now a c.cancel.new.self.state c.cancel.new.nodes) (sym c.in-Cancel.is)
    (does_changes t (call.Cancel c.in-Cancel.number) s c.cancel.new.self.state c.args.nodes.now c.cancel.new.nodes a (λ x. x) _ c.cancel.result refl c.cancel.ensures.state c.cancel.ensures.nodes tells)

pub returns-in-Served-clause-does : goal.returns-in-Served-clause-does
returns-in-Served-clause-does g c =
    let s = c.args.self.now.state in
    let t = terms_of g.R.Roads g.S.Stowage c.args.self.now.ground in
    let a = c.map-in-Served.result in
    let tells : a ≡ told service c.served.result = search rules in
    subst (λ x. Does t x s c.args.nodes.now a c.served.new.self.state c.served.new.nodes) (sym c.in-Served.is)
    (does_acts t (call.Served c.in-Served.van c.in-Served.number c.in-Served.time) s c.served.new.self.state c.args.nodes.now c.served.new.nodes a (λ x. x) service _ c.served.result refl c.served.ensures.state c.served.ensures.nodes tells)

pub returns-in-Book-clause-does : goal.returns-in-Book-clause-does
returns-in-Book-clause-does g c =
    let s = c.args.self.now.state in
    let t = terms_of g.R.Roads g.S.Stowage c.args.self.now.ground in
    let a = c.map-in-Book.result in
    let tells : a ≡ told report.Booked c.book.result = search rules in
    subst (λ x. Does t x s c.args.nodes.now a c.book.new.self.state c.book.new.nodes) (sym c.in-Book.is)
    (does_book t c.in-Book.number c.in-Book.from c.in-Book.to c.in-Book.figures s c.book.new.self.state c.args.nodes.now c.book.new.nodes a c.book.result c.book.ensures.any c.book.ensures.state c.book.ensures.nodes tells)
