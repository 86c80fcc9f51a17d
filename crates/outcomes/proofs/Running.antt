-- Shows that what each call does makes it a step of a run.
use Rattle.std.proofs.Common.{◌≡◌, ℕ, ◌+◌, ◌<◌, ◌≤◌, Bool, true, false, leb, ◌⊎◌, ◌↔◌, List, [], ◌∷◌, ◌++◌, length, get_or, take, drop, set, is_ok, Ok, Err, Result, sym, refl, ap, ◌∙◌, subst, inl, inr, arith}
use Rattle.std.proofs.lemmas.List.{take_more, take_more_set, drop-set-lt, drop-drop}
use Rattle.orders.specs.declared.Node.{Node}
use Rattle.orders.specs.Rules.{Lawful}
use Rattle.van_slab.specs.declared.Itinerary.{Itinerary}
use Rattle.fleet.specs.declared.call.Booked.{Booked}
use Rattle.fleet.specs.declared.call.Call.{Call}
use Rattle.fleet.specs.declared.call.Call.TheVariants.{Clock, Join, Leave, Book, Bound, Served, Cancel, Plan, Order}
use Rattle.fleet.specs.declared.call.Report.{Report}
use Rattle.fleet.specs.declared.call.Report.TheVariants as report
use Rattle.fleet.specs.declared.refusal.Refusal.{Refusal}
use Rattle.fleet.specs.declared.refusal.Refusal.TheVariants.{TooFewNodes}
use Rattle.fleet.specs.declared.state.State.{State}
use Rattle.fleet.specs.Answers.{Answer, answer_number, accepted}
use Rattle.fleet.specs.Refusals.{refusal_number}
use Rattle.fleet.specs.SoundTest.{is_sound}
use Rattle.fleet.specs.States.{check, requested, no_answer, Acts, Changes}
use Rattle.fleet.specs.Terms.{Terms}
use Rattle.fleet.proofs.Accepted as known
use Rattle.outcomes.specs.Settled.{needed, Settled, Writes, roomy_vans}
use Rattle.outcomes.specs.Outcomes.{with_nodes, best_offer, given_to, of_request, book_call, Books}
use Rattle.outcomes.specs.Fairness.{CanTake, Won, Fairly}
use Rattle.outcomes.specs.Runs
use Rattle.outcomes.proofs.Written.{unwritten}
use Rattle.outcomes.proofs.Acted.{goes_on, acts}
use Rattle.outcomes.proofs.Exactly.{exact_of}
use Rattle.outcomes.proofs.Fairly.{fair}

-- a call on the state, told as an answer
module _ {X : Type 0} (f : X → Report) (s s' : State) (r : Result X Refusal) where
  pub gives : (t : Bool) (o : Result (State × X) Refusal) → Acts (check t TooFewNodes o) s s' r → Runs.Gives (check t TooFewNodes (Runs.told_as f o)) s (Runs.told f r) s'
  gives true (Ok q) a = record { answer = ap (Runs.told f) a.1; state = a.0 }
  gives true (Err e) a = record { answer = ap (Runs.told f) a.1; state = a.0 }
  gives false o a = record { answer = ap (Runs.told f) a.1; state = a.0 }

  -- an answer that is no refusal tells that the call was accepted
  pub accepted_told : is_ok r ≡ accepted (Runs.told f r)
  accepted_told = by r
    where
      by : (y : Result X Refusal) → is_ok y ≡ accepted (Runs.told f y)
      by (Ok x) = refl
      by (Err e) = refl

-- the check for nodes comes first, whether or not there is something to tell
check_first : (t : Bool) (o : Result State Refusal) → no_answer (check t TooFewNodes o) ≡ check t TooFewNodes (no_answer o)
check_first true o = refl
check_first false o = refl

pub gives_done : (s s' : State) (r : Result (Unit {0}) Refusal) (t : Bool) (o : Result State Refusal) → Acts (no_answer (check t TooFewNodes o)) s s' r → Runs.Gives (check t TooFewNodes (Runs.told_as Runs.done (no_answer o))) s (Runs.told Runs.done r) s'
gives_done s s' r t o a = gives Runs.done s s' r t (no_answer o) (subst (λ q. Acts q s s' r) (check_first t o) a)

-- with nodes enough the outcome is that of the present state
pub gives_on : (s : State) (nodes : List Node) (o : Result (State × Report) Refusal) (a : Answer) (s' : State) → needed s ≤ length nodes → Runs.Gives (with_nodes s (length nodes) o) s a s' → Runs.Gives o s a s'
gives_on s nodes o a s' room g = subst (λ q. Runs.Gives q s a s') (goes_on s (length nodes) o room) g

-- a question that is read leaves the state
pub gives_read : (s : State) (o : Result Itinerary Refusal) (r : Result Itinerary Refusal) → r ≡ o → Runs.Gives (Runs.told_as report.Listed (Runs.of_state s o)) s (Runs.told report.Listed r) s
gives_read s (Ok x) r e = record { answer = ap (Runs.told report.Listed) e; state = refl }
gives_read s (Err x) r e = record { answer = ap (Runs.told report.Listed) e; state = refl }

-- a call that acts on the state as its own definition says, and is told so, does what it should
module _ (t : Terms) (c : Call) (s s' : State) (nodes nodes' : List Node) (a : Answer)
    (any : Runs.Gives (with_nodes s (length nodes) (Runs.outcome t s c)) s a s' → Runs.OnAnyNodes t s nodes c a s') where
  pub does_acts : {X : Type 0} (f : X → Report) → (o : Result (State × X) Refusal) (r : Result X Refusal) → Runs.told_as f o ≡ Runs.outcome t s c →
      Acts (with_nodes s (length nodes) o) s s' r → Writes t.rules s nodes (Runs.touched s c) (is_ok r) s' nodes' → a ≡ Runs.told f r → Runs.Does t c s nodes a s' nodes'
  does_acts f o r same acts wrote e =
      let all : Runs.Gives (with_nodes s (length nodes) (Runs.outcome t s c)) s a s' =
      subst (λ b. Runs.Gives (with_nodes s (length nodes) (Runs.outcome t s c)) s b s') (sym e)
      (subst (λ q. Runs.Gives (with_nodes s (length nodes) q) s (Runs.told f r) s') same (gives f s s' r (leb (needed s) (length nodes)) o acts)) in
      record {
        settled = λ x. gives_on s nodes (Runs.outcome t s c) a s' x.room all;
        any = any all;
        writes = subst (λ b. Writes t.rules s nodes (Runs.touched s c) b s' nodes') (accepted_told f s s' r ∙ ap accepted (sym e)) wrote;
      }

  pub does_changes : (o : Result State Refusal) (r : Result (Unit {0}) Refusal) → Runs.told_as Runs.done (no_answer o) ≡ Runs.outcome t s c →
      Changes (with_nodes s (length nodes) o) s s' r → Writes t.rules s nodes (Runs.touched s c) (is_ok r) s' nodes' → a ≡ Runs.told Runs.done r → Runs.Does t c s nodes a s' nodes'
  does_changes o r same changes wrote e =
      does_acts Runs.done (no_answer o) r same (subst (λ q. Acts q s s' r) (check_first (leb (needed s) (length nodes)) o) (acts (with_nodes s (length nodes) o) s s' r changes)) wrote e

-- so does book
pub does_book : (t : Terms) (n from to : ℕ) (figures : List ℕ) (s s' : State) (nodes nodes' : List Node) (a : Answer) (r : Result Booked Refusal) →
    Books (with_nodes s (length nodes) (requested t s n from to figures)) s s' r → (Settled t.rules s nodes → Acts (with_nodes s (length nodes) (book_call t s n from to figures)) s s' r) →
    Writes t.rules s nodes (roomy_vans s) (is_ok r) s' nodes' → a ≡ Runs.told report.Booked r → Runs.Does t (Book n from to figures) s nodes a s' nodes'
does_book t n from to figures s s' nodes nodes' a r books acts wrote e = record {
  settled = λ x. subst (λ b. Runs.Gives (Runs.outcome t s (Book n from to figures)) s b s') (sym e)
      (gives_on s nodes (Runs.outcome t s (Book n from to figures)) (Runs.told report.Booked r) s' x.room (gives report.Booked s s' r (leb (needed s) (length nodes)) (book_call t s n from to figures) (acts x)));
  any = (r, e, books);
  writes = subst (λ b. Writes t.rules s nodes (roomy_vans s) b s' nodes') (accepted_told report.Booked s s' r ∙ ap accepted (sym e)) wrote;
}

-- and so does a question, which writes nothing
pub does_read : (t : Terms) (c : Call) (s : State) (nodes : List Node) (a : Answer) (r o : Result Itinerary Refusal) → Runs.told_as report.Listed (Runs.of_state s o) ≡ Runs.outcome t s c →
    (Settled t.rules s nodes → r ≡ o) → a ≡ Runs.told report.Listed r → Runs.OnAnyNodes t s nodes c a s → Runs.Does t c s nodes a s nodes
does_read t c s nodes a r o same tells e any = record {
  settled = λ x. subst (λ q. Runs.Gives q s a s) same (subst (λ b. Runs.Gives (Runs.told_as report.Listed (Runs.of_state s o)) s b s) (sym e) (gives_read s o r (tells x)));
  any = any;
  writes = unwritten t.rules s nodes (Runs.touched s c) (accepted a);
}

-- where the answer is a refusal the state is left
module _ {X : Type 0} (f : X → Report) (s : State) where
  left_by : (o : Result (State × X) Refusal) → accepted (Runs.answer_of (Runs.told_as f o)) ≡ false → Runs.state_after s (Runs.told_as f o) ≡ s
  left_by (Ok q) e = absurd (let z : ◌≡◌ {A = ℕ} 0 1 = cc in omega arith)
  left_by (Err x) e = refl

refused_leaves : (t : Terms) (s : State) (c : Call) → accepted (Runs.answer_of (Runs.outcome t s c)) ≡ false → Runs.state_after s (Runs.outcome t s c) ≡ s
refused_leaves t s (Clock time) = left_by Runs.done s _
refused_leaves t s (Join van place time) = left_by Runs.done s _
refused_leaves t s (Leave van) = left_by Runs.done s _
refused_leaves t s (Book number from to figures) = left_by report.Booked s _
refused_leaves t s (Bound van place time) = left_by Runs.done s _
refused_leaves t s (Served van number time) = left_by Runs.service s _
refused_leaves t s (Cancel number) = left_by Runs.done s _
refused_leaves t s (Plan van) = left_by report.Listed s _
refused_leaves t s (Order van index) = left_by report.Listed s _

-- a booking is given fairly
module _ (t : Terms) (lawful : Lawful t.rules) (s : State) (h : is_sound s ≡ true) (n from to : ℕ) (figures : List ℕ) (a : Answer) (s' : State) where
  book_fair : Runs.Gives (Runs.outcome t s (Book n from to figures)) s a s' → Runs.FairAnswer t s (Book n from to figures) a s'
  book_fair gives b asked =
      let q = known.request_accepted t s n from to figures b asked in
      let e : book_call t s n from to figures ≡ given_to t.rules s b (best_offer t.rules s b) = ap (λ x. of_request x (λ y. given_to t.rules s y (best_offer t.rules s y))) asked in
      let won : Fairly t.rules s b (given_to t.rules s b (best_offer t.rules s b)) =
      subst (λ x. Fairly t.rules s x (given_to t.rules s x (best_offer t.rules s x))) (sym q.its) (fair t.rules lawful s h n from to q.promise q.new) in
      by (given_to t.rules s b (best_offer t.rules s b)) won (subst (λ x. Runs.Gives (Runs.told_as report.Booked x) s a s') e gives)
    where
      by : (r : Result (State × Booked) Refusal) → Fairly t.rules s b r → Runs.Gives (Runs.told_as report.Booked r) s a s' →
          ((answer_number a ≡ 18) ↔ ((v : ℕ) → CanTake t.rules s b v → ⊥)) × ((answer_number a ≡ 18) ⊎ ((x : Booked) × (a ≡ Ok (report.Booked x)) × Won t.rules s b s' x))
      by (Ok q) won g =
          let its = ap answer_number g.answer in
          let least = won.price.least_with.reached in (
            (λ m. absurd (omega arith), λ none. absurd (none q.1.van (won.van, won.below, (least.0, won.price.cost_with, least.1)))),
            inr (q.1, g.answer, subst (λ x. Won t.rules s b x q.1) (sym g.state) won),
          )
      by (Err f) won g =
          let its : answer_number a ≡ 18 = ap answer_number g.answer ∙ ap refusal_number won.0 in
          ((λ m. won.1, λ none. its), inl its)

pub fair_answer : (t : Terms) → Lawful t.rules → (s : State) → is_sound s ≡ true → (c : Call) (a : Answer) (s' : State) → Runs.Gives (Runs.outcome t s c) s a s' → Runs.FairAnswer t s c a s'
fair_answer t lawful s h (Clock time) a s' g = tt
fair_answer t lawful s h (Join van place time) a s' g = tt
fair_answer t lawful s h (Leave van) a s' g = tt
fair_answer t lawful s h (Book number from to figures) a s' g = book_fair t lawful s h number from to figures a s' g
fair_answer t lawful s h (Bound van place time) a s' g = tt
fair_answer t lawful s h (Served van number time) a s' g = tt
fair_answer t lawful s h (Cancel number) a s' g = tt
fair_answer t lawful s h (Plan van) a s' g = tt
fair_answer t lawful s h (Order van index) a s' g = tt

-- what a call does on settled nodes is a step
pub step_of : (t : Terms) → Lawful t.rules → (c : Call) (s : State) (nodes : List Node) (a : Answer) (s' : State) (nodes' : List Node) → is_sound s ≡ true → is_sound s' ≡ true → Settled t.rules s nodes → Runs.Does t c s nodes a s' nodes' →
    Runs.Step t (record { state = s; nodes = nodes }) c a (record { state = s'; nodes = nodes' })
step_of t lawful c s nodes a s' nodes' h h' settled does =
    let gives = does.settled settled in
    record {
      before = exact_of t.rules s h nodes settled;
      after = exact_of t.rules s' h' nodes' (does.writes.settled settled);
      by_state = gives;
      refused = λ e. (λ i. record { state = (gives.state ∙ refused_leaves t s c (sym (ap accepted gives.answer) ∙ e)) i; nodes = does.writes.refused e i });
      beyond = does.writes.beyond;
      fair = fair_answer t lawful s h c a s' gives;
    }

-- a run goes on by one more call
pub run_more : (t : Terms) {m m' m'' : Runs.Machine} {calls : List Call} {answers : List Answer} (c : Call) (a : Answer) → Runs.Run t m calls answers m' → Runs.Step t m' c a m'' → Runs.Run t m (calls ++ (c ∷ [])) (answers ++ (a ∷ [])) m''
run_more t c a Runs.stop step = Runs.next step Runs.stop
run_more t c a (Runs.next first rest) step = Runs.next first (run_more t c a rest step)

-- one turn of a run over a list: the next call's answer goes into its place
pub run_turn : (t : Terms) (m m' m'' : Runs.Machine) (calls : List Call) (answers : List Answer) (i : ℕ) (d : Call) (a : Answer) → i < length calls → i < length answers →
    Runs.Run t m (take i calls) (take i answers) m' → Runs.Step t m' (get_or calls i d) a m'' → Runs.Run t m (take (i + 1) calls) (take (i + 1) (set answers i a)) m''
run_turn t m m' m'' calls answers i d a p q run step =
    subst (λ cs. Runs.Run t m cs (take (i + 1) (set answers i a)) m'') (sym (take_more calls i d p))
    (subst (λ bs. Runs.Run t m (take i calls ++ (get_or calls i d ∷ [])) bs m'') (sym (take_more_set answers i a q)) (run_more t (get_or calls i d) a run step))

-- the places behind it stay
pub places_stay : (answers before : List Answer) (i : ℕ) (a : Answer) → drop i answers ≡ drop i before → drop (i + 1) (set answers i a) ≡ drop (i + 1) before
places_stay answers before i a e =
    drop-set-lt (i + 1) answers i a (omega arith) ∙ sym (drop-drop 1 i answers) ∙ ap (drop 1) e ∙ drop-drop 1 i before
