-- A load that does not fit leaves no hold, whatever comes after it.
use Rattle.std.proofs.Common.{◌≡◌, ℕ, ◌+◌, ◌<◌, List, ◌∷◌, length, get_or, drop, Some, None, Option, sym, ap, ◌∙◌}
use Rattle.std.proofs.lemmas.List.{drop_more}
use Rattle.stowage.specs.declared.Load.{Load}
use Rattle.stowage.specs.Together.{onward, stowed}
use Rattle.stowage.proofs.Together.{onward_none}
use Rattle.orders.specs.declared.Booking.{Booking}
use Rattle.orders.specs.declared.Booking.TheVariants.{Aboard}
use Rattle.orders.specs.declared.Journey.{Journey}
use Rattle.orders.specs.Bookings.{loads}
use Rattle.growth.specs.Positions.{compact}
use Rattle.growth.proofs.walk.stow_aboard.Goals as goal

unfit : {Hold : Type 0} (stow : Hold → Load → Option Hold) (h : Hold) (bs : List (Option Booking)) (i : ℕ) (b : Booking) (since : ℕ) (j : Journey) → i < length bs →
    get_or bs i None ≡ Some b → b ≡ Aboard since j → None ≡ stow h j.load → (r : Option Hold) → stowed stow h (loads (compact (drop i bs))) ≡ r → (o : Option Hold) → o ≡ None → o ≡ r
unfit stow h bs i b since j lt its aboard full r all o none =
    let rest = drop (i + 1) bs in
    none
    ∙ sym (onward_none stow (loads (compact rest)))
    ∙ ap (λ q. onward stow q (loads (compact rest))) full
    ∙ sym (ap (λ c. stowed stow h (loads (c ∷ compact rest))) aboard)
    ∙ sym (ap (λ q. stowed stow h (loads (compact (q ∷ rest)))) its)
    ∙ sym (ap (λ os. stowed stow h (loads (compact os))) (drop_more bs i None lt))
    ∙ all

pub returns-in_err-hold : goal.returns-in_err-hold
returns-in_err-hold g c =
    let aboard = c.in-Some-Aboard in
    let its = rw aboard.is at aboard.field-0-is in
    unfit (g.S.Stowage.stow c.args.ground.rule.now) c.loop-booking.hold c.args.bookings.now c.loop-booking.booking-index aboard.field-0 aboard.field-0-0 aboard.journey
    c.loop-booking-test.true aboard.is its c.in_err-hold.ensures _ c.loop-booking.invariant _ c.from_residual.ensures
