-- Shows what a booking's next stop adds to what grows along old nodes.
use Rattle.std.proofs.Common.{◌≡◌, ℕ, pred, ◌+◌, List, ◌∷◌, Some, None, sym, ap, ◌∙◌, arith}
use Rattle.orders.specs.declared.Booking.{Booking}
use Rattle.orders.specs.declared.Node.{Node}
use Rattle.orders.specs.Rules.{Rules}
use Rattle.orders.specs.Bookings.{number_of, stops}
use Rattle.orders.specs.Walks.{Walk, service}
use Rattle.orders.specs.Trees.{step, branch}
use Rattle.orders.specs.Growth.{guide_row, guided}
use Rattle.orders.proofs.Steps.{guided_some, guided_none, guided_skip}
use Rattle.growth.specs.declared.guide.Fresh.{Fresh}
use Rattle.growth.specs.Guides.{new_to, grown, grown_from}

module _ (g : Rules) (fresh : Fresh) (old : List Node) (w : Walk) (b : Booking) (n : ℕ) (n_is : n ≡ number_of b) where
  -- the old tree does not have the stop
  pub not_guided : guide_row (new_to fresh) n old ≡ None → (bs : List Booking) → grown_from g fresh old w (b ∷ bs) ≡ grown_from g fresh old w bs
  not_guided e bs = guided_skip g (guide_row (new_to fresh)) _ old w b bs (ap (λ m. guide_row (new_to fresh) m old) (sym n_is) ∙ e)

  module _ (on : List Node) (e : guide_row (new_to fresh) n old ≡ Some on) where
    -- the stop may not be served next
    pub not_allowed : step g w b ≡ None → (bs : List Booking) → grown_from g fresh old w (b ∷ bs) ≡ grown_from g fresh old w bs
    not_allowed s bs = guided_none g (guide_row (new_to fresh)) _ old w b bs on (ap (λ m. guide_row (new_to fresh) m old) (sym n_is) ∙ e) s

    -- the stop leads on
    pub led_on : (v : Walk) (second : ℕ) → step g w b ≡ Some v → second ≡ service g w b → stops v.bookings + 1 ≡ stops w.bookings → (bs : List Booking) →
        grown_from g fresh old w (b ∷ bs) ≡ branch b second v v.bookings (grown g fresh on v) (grown_from g fresh old w bs)
    led_on v second s t c bs =
        guided_some g (guide_row (new_to fresh)) _ old w b bs on v (ap (λ m. guide_row (new_to fresh) m old) (sym n_is) ∙ e) s
        ∙ ap (λ k. branch b (service g w b) v v.bookings (guided g (guide_row (new_to fresh)) k on v) (grown_from g fresh old w bs)) (let p : pred (stops w.bookings) ≡ stops v.bookings = omega arith in p)
        ∙ ap (λ x. branch b x v v.bookings (grown g fresh on v) (grown_from g fresh old w bs)) (sym t)
