-- Shows that open bookings still ascend with one more, and with one less.
use Rattle.std.proofs.Common.{◌≡◌, ℕ, ◌+◌, ◌<◌, ◌≤◌, eqb, ltb, List, [], ◌∷◌, length, refl, ap, ◌∙◌, inl, inr, arith}
use Rattle.std.proofs.lemmas.Bool.{cond_both, cond-true, cond-false, ltb-true, ltb-false, eq-eqb, ne_eqb}
use Rattle.orders.specs.declared.Booking.{Booking}
use Rattle.orders.specs.Bookings.{number_of, insert, remove, Above, Ascending, New}

above_lower : (m n : ℕ) (bs : List Booking) → m ≤ n → Above n bs → Above m bs
above_lower m n [] h a = tt
above_lower m n (b ∷ bs) h a = (let k = a.0 in omega arith, above_lower m n bs h a.1)

insert_above : (n : ℕ) (b : Booking) (bs : List Booking) → n < number_of b → Above n bs → Above n (insert b bs)
insert_above n b [] h a = (h, tt)
insert_above n b (c ∷ cs) h a = cond_both (ltb (number_of b) (number_of c)) _ _ (Above n) (λ e. (h, a)) (λ e. (a.0, insert_above n b cs h a.1))

pub insert_ascending : (b : Booking) (bs : List Booking) → New b bs → Ascending bs → Ascending (insert b bs)
insert_ascending b [] new a = (tt, tt)
insert_ascending b (c ∷ cs) new a =
    cond_both (ltb (number_of b) (number_of c)) _ _ Ascending
    (λ e. let h = ltb-true (number_of b) (number_of c) e in ((h, above_lower (number_of b) (number_of c) cs (omega arith) a.0), a))
    (λ e. let h = ltb-false (number_of b) (number_of c) e in
    let k : number_of c ≡ number_of b → ⊥ = new c (inl refl) in
    (insert_above (number_of c) b cs (omega arith) a.0, insert_ascending b cs (λ x i. new x (inr i)) a.1))

pub insert_length : (b : Booking) (bs : List Booking) → length (insert b bs) ≡ length bs + 1
insert_length b [] = refl
insert_length b (c ∷ cs) =
    cond_both (ltb (number_of b) (number_of c)) _ _ (λ l. length l ≡ length (c ∷ cs) + 1) (λ e. omega arith) (λ e. let h = insert_length b cs in omega arith)

remove_above : (m n : ℕ) (bs : List Booking) → Above m bs → Above m (remove n bs)
remove_above m n [] a = tt
remove_above m n (b ∷ bs) a = cond_both (eqb (number_of b) n) _ _ (Above m) (λ e. a.1) (λ e. (a.0, remove_above m n bs a.1))

pub remove_ascending : (n : ℕ) (bs : List Booking) → Ascending bs → Ascending (remove n bs)
remove_ascending n [] a = tt
remove_ascending n (b ∷ bs) a =
    cond_both (eqb (number_of b) n) _ _ Ascending (λ e. a.1) (λ e. (remove_above (number_of b) n bs a.0, remove_ascending n bs a.1))

-- a booking that came and is cancelled leaves the bookings as they were
pub remove_insert : (b : Booking) (bs : List Booking) → New b bs → remove (number_of b) (insert b bs) ≡ bs
remove_insert b [] new = cond-true _ _ _ (eq-eqb (number_of b) (number_of b) refl)
remove_insert b (c ∷ cs) new =
    cond_both (ltb (number_of b) (number_of c)) _ _ (λ l. remove (number_of b) l ≡ c ∷ cs)
    (λ e. cond-true _ _ _ (eq-eqb (number_of b) (number_of b) refl))
    (λ e. cond-false _ _ _ (ne_eqb (number_of c) (number_of b) (new c (inl refl))) ∙ ap (λ l. c ∷ l) (remove_insert b cs (λ x i. new x (inr i))))
