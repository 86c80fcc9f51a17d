-- A booking's next stop is one to go on with if each step to it is taken; else nothing grows from it.
use Rattle.std.proofs.Common.{sym, refl}
use Rattle.growth.specs.Grounds.{rules_of}
use Rattle.growth.proofs.Turns.{no_branch, unguided, refused, leads_on}
use Rattle.growth.proofs.tally.Growth.branch.Goals as goal

pub returns-in_err-old : goal.returns-in_err-old
returns-in_err-old g c =
    let self = c.args.self.now in
    let rules = rules_of g.R.Roads g.S.Stowage self.ground in
    no_branch rules self.fresh self.old.now self.position c.requires.sound c.args.i c.requires.within _ c.from_residual-in_err-old.ensures
    (unguided rules self.fresh self.old.now self.position c.requires.sound c.args.i c.requires.within c.in_ok-booking.booking c.in_ok-booking.was c.number.result c.number.ensures
    (sym c.in_err-old.ensures))

pub returns-in_err-visit : goal.returns-in_err-visit
returns-in_err-visit g c =
    let self = c.args.self.now in
    let rules = rules_of g.R.Roads g.S.Stowage self.ground in
    no_branch rules self.fresh self.old.now self.position c.requires.sound c.args.i c.requires.within _ c.from_residual-in_err-visit.ensures
    (refused rules self.fresh self.old.now self.position c.requires.sound c.args.i c.requires.within c.in_ok-booking.booking c.in_ok-booking.was c.number.result c.number.ensures
    c.in_ok-old.old.now (sym c.in_ok-old.ensures) c.in_err-visit.ensures)

pub returns : goal.returns
returns g c =
    let self = c.args.self.now in
    let rules = rules_of g.R.Roads g.S.Stowage self.ground in
    leads_on rules self.fresh self.old.now self.position c.requires.sound c.args.i c.requires.within c.in_ok-booking.booking c.in_ok-booking.was c.number.result c.number.ensures
    c.in_ok-old.old.now (sym c.in_ok-old.ensures) c.in_ok-visit.visit c.in_ok-visit.ensures c.in_ok-old.old refl
