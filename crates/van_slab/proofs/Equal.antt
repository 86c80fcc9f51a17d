-- Shows that visits, and lists of them, are equal just where their tests say so.
use Rattle.std.proofs.Common.{◌≡◌, Bool, List, Decides, ap}
use Rattle.std.proofs.lemmas.Bool.Decides.{Decides-eqb, Decides-and, Decides-like}
use Rattle.std.proofs.lemmas.Slice.Eq.{slice_eq-Decides}
use lib.Pointwise.{pointwise}
use Rattle.van_slab.specs.declared.Visit.{Visit}
use Rattle.van_slab.specs.Equality.{same_visit}

visit_decides : (x y : Visit) → Decides (same_visit x y) (x ≡ y)
visit_decides x y =
    Decides-like _
    (λ (p : (x.booking ≡ y.booking) × ((x.kind ≡ y.kind) × (x.second ≡ y.second))). λ i. record { booking = p.0 i; kind = p.1.0 i; second = p.1.1 i })
    (λ e. (ap (λ (v : Visit). v.booking) e, (ap (λ (v : Visit). v.kind) e, ap (λ (v : Visit). v.second) e)))
    (Decides-and _ _ (Decides-eqb x.booking y.booking) (Decides-and _ _ (Decides-eqb x.kind y.kind) (Decides-eqb x.second y.second)))

pub visits_decide : (xs ys : List Visit) (r : Bool) → r ≡ pointwise same_visit xs ys → Decides r (xs ≡ ys)
visits_decide = slice_eq-Decides visit_decides
