-- Shows what one turn of the walk does to the frames and to the memory, and where the turns begin and end.
use Rattle.std.proofs.Common.{◌≡◌, ℕ, suc, ◌+◌, ◌-◌, ◌<◌, ◌≤◌, List, [], ◌∷◌, ◌++◌, length, drop, set, Some, None, sym, refl, ap, ◌∙◌, subst, append_assoc, arith, length-append}
use Rattle.std.proofs.lemmas.List.{drop_all, append-nil}
use Rattle.orders.specs.declared.Node.{Node}
use Rattle.orders.specs.Rules.{Rules}
use Rattle.orders.specs.Bookings.{number_of, stop_kind}
use Rattle.orders.specs.Trees.{nodes}
use Rattle.growth.specs.declared.guide.Fresh.{Fresh}
use Rattle.growth.specs.declared.grow.Frame.{Frame}
use Rattle.growth.specs.declared.tally.Root.{Root}
use Rattle.growth.specs.Positions.{compact, walk_of, Sound}
use Rattle.growth.specs.Guides.{grown_at, grown_row, grown_from}
use Rattle.growth.specs.Roots.{Grows, IsRoot}
use Rattle.growth.specs.Frames.{Stands, AllStand, owes, owed, slack, Advanced}
use Rattle.growth.specs.Memory.{pasted}
use Rattle.growth.proofs.Counts.{eight_stops}
use Rattle.growth.proofs.Pasted.{pasted_one}
use Rattle.growth.proofs.Tallies.{grown_all, grown_nil, one_node}

-- a frame on top of those on the stack
stand_push : (n under : ℕ) (fs : List Frame) (f : Frame) → under + length fs ≡ n → AllStand under fs → Stands n f → AllStand under (fs ++ f ∷ [])
stand_push n under [] f e all top = (subst (λ k. Stands k f) (let z : n ≡ under = omega arith in z) top, tt)
stand_push n under (h ∷ fs) f e all top = (all.0, stand_push n (under + 1) fs f (omega arith) all.1 top)

pub stand_under : (under : ℕ) (fs : List Frame) (f : Frame) → AllStand under (fs ++ f ∷ []) → AllStand under fs
stand_under under [] f all = tt
stand_under under (h ∷ fs) f all = (all.0, stand_under (under + 1) fs f all.1)

pub stand_top : (n under : ℕ) (fs : List Frame) (f : Frame) → under + length fs ≡ n → AllStand under (fs ++ f ∷ []) → Stands n f
stand_top n under [] f e all = subst (λ k. Stands k f) (let z : under ≡ n = omega arith in z) all.0
stand_top n under (h ∷ fs) f e all = stand_top n (under + 1) fs f (omega arith) all.1

slack_push : (fs : List Frame) (f : Frame) → slack (fs ++ f ∷ []) ≡ slack fs + (5 - f.next)
slack_push [] f = omega arith
slack_push (h ∷ fs) f = let k = slack_push fs f in omega arith

module _ (g : Rules) (fresh : Fresh) where
  owed_push : (depth : ℕ) (fs : List Frame) (f : Frame) → owed g fresh depth (fs ++ f ∷ []) ≡ owes g fresh (depth + length fs) f ++ owed g fresh depth fs
  owed_push depth [] f = sym (append-nil (owes g fresh depth f)) ∙ ap (λ d. owes g fresh d f ++ []) (let e : depth ≡ depth + 0 = omega arith in e)
  owed_push depth (h ∷ fs) f =
      ap (λ l. l ++ owes g fresh depth h) (owed_push (depth + 1) fs f)
      ∙ append_assoc (owes g fresh (depth + 1 + length fs) f) (owed g fresh (depth + 1) fs) (owes g fresh depth h)
      ∙ ap (λ d. owes g fresh d f ++ (owed g fresh (depth + 1) fs ++ owes g fresh depth h)) (let e : depth + 1 + length fs ≡ depth + suc (length fs) = omega arith in e)

  -- a turn of the top frame
  module _ (fs : List Frame) (f : Frame) (under : AllStand 0 fs) (top : Stands (length fs) f) (memory : List Node) (count : ℕ) where
    -- the frame once its next booking is tried
    abbrev moved_on : Frame
    moved_on = record { old = f.old; position = f.position; next = f.next + 1 }

    -- all its bookings are tried
    pub left_behind : f.next ≡ 4 → Advanced g fresh (fs ++ f ∷ []) memory count fs memory count
    left_behind n =
        let none : owes g fresh (1 + length fs) f ≡ [] =
        ap (λ bs. nodes (1 + length fs) (grown_from g fresh f.old.now (walk_of f.position) (compact bs))) (drop_all f.next f.position.bookings (let h = top.sound.four in omega arith))
        ∙ ap (nodes (1 + length fs)) (grown_nil g fresh f.old.now (walk_of f.position)) in
        let same : owed g fresh 1 (fs ++ f ∷ []) ≡ owed g fresh 1 fs = owed_push 1 fs f ∙ ap (λ l. l ++ owed g fresh 1 fs) none in
        let long = ap length same in
        record {
          stand = under;
          whole = ap (pasted memory count) (sym same);
          long = omega arith;
          falls = let s = slack_push fs f in omega arith;
        }

    module _ (untried : f.next ≡ 4 → ⊥) where
      stand_on : AllStand 0 (fs ++ moved_on ∷ [])
      stand_on = stand_push (length fs) 0 fs moved_on (omega arith) under (record { sound = top.sound; next = let h = top.next in omega arith; deep = top.deep })

      -- the next booking gives nothing
      pub passed_over : Grows g fresh f.old.now f.position f.next None → (fs' : List Frame) → fs' ≡ fs ++ moved_on ∷ [] → Advanced g fresh (fs ++ f ∷ []) memory count fs' memory count
      passed_over same_tree fs' is =
          let same : owed g fresh 1 (fs ++ moved_on ∷ []) ≡ owed g fresh 1 (fs ++ f ∷ []) =
          owed_push 1 fs moved_on ∙ ap (λ t. nodes (1 + length fs) t ++ owed g fresh 1 fs) (sym same_tree) ∙ sym (owed_push 1 fs f) in
          let long = ap length same in
          subst (λ l. Advanced g fresh (fs ++ f ∷ []) memory count l memory count) (sym is) (record {
            stand = stand_on;
            whole = ap (pasted memory count) same;
            long = omega arith;
            falls = let h = top.next in let s = slack_push fs f in let s' = slack_push fs moved_on in omega arith;
          })

      -- the next booking's next stop is a root
      module _ (x : Root) (root : IsRoot g fresh f.old.now f.position f.next x) where
        -- the frame of what grows below it
        abbrev below : Frame
        below = record { old = x.old; position = x.visit.position; next = 0 }

        abbrev grown_below : List Node
        grown_below = grown_at g fresh (1 + length fs + 1) x.old.now (walk_of x.visit.position)

        module _ (depth n k : ℕ) (depth_is : depth ≡ length fs + 1) (n_is : n ≡ number_of x.booking) (k_is : k ≡ stop_kind x.booking) where
          abbrev node : Node
          node = record { booking = n; kind = k; depth = depth; span = 1 + x.below; second = x.visit.second; cost = x.visit.position.cost }

          same_depth : 1 + length fs ≡ depth
          same_depth = omega arith

          owing : owes g fresh (1 + length fs) f ≡ node ∷ (grown_below ++ owes g fresh (1 + length fs) moved_on)
          owing =
              one_node g fresh f.old.now (walk_of f.position) x.booking x.visit.second (compact (drop f.next f.position.bookings)) (compact (drop (f.next + 1) f.position.bookings))
              (walk_of x.visit.position) x.old.now (record { count = x.below; least = Some x.least }) root.below x.least refl root.stands (1 + length fs) n k n_is k_is
              ∙ (λ i. record { booking = n; kind = k; depth = same_depth i; span = 1 + x.below; second = x.visit.second; cost = x.visit.position.cost }
              ∷ (grown_below ++ owes g fresh (1 + length fs) moved_on))

          owed_then : owed g fresh 1 (fs ++ f ∷ []) ≡ node ∷ owed g fresh 1 ((fs ++ moved_on ∷ []) ++ below ∷ [])
          owed_then =
              owed_push 1 fs f
              ∙ ap (λ l. l ++ owed g fresh 1 fs) owing
              ∙ ap (λ l. node ∷ l) (append_assoc grown_below (owes g fresh (1 + length fs) moved_on) (owed g fresh 1 fs))
              ∙ ap (λ l. node ∷ (grown_below ++ l)) (sym (owed_push 1 fs moved_on))
              ∙ ap (λ t. node ∷ (nodes (1 + length fs + 1) t ++ owed g fresh 1 (fs ++ moved_on ∷ []))) (grown_all g fresh x.old.now (walk_of x.visit.position))
              ∙ ap (λ d. node ∷ (owes g fresh d below ++ owed g fresh 1 (fs ++ moved_on ∷ [])))
              (let l = length-append fs (moved_on ∷ []) in let e : 1 + length fs + 1 ≡ 1 + length (fs ++ moved_on ∷ []) = omega arith in e)
              ∙ ap (λ l. node ∷ l) (sym (owed_push 1 (fs ++ moved_on ∷ []) below))

          -- there is room in the memory for its node
          pub node_fits : count + length (owed g fresh 1 (fs ++ f ∷ [])) ≤ length memory → count < length memory
          node_fits room = let e = ap length owed_then in omega arith

          pub stored : count + length (owed g fresh 1 (fs ++ f ∷ [])) ≤ length memory → (fs' fs'' : List Frame) → fs' ≡ fs ++ moved_on ∷ [] → fs'' ≡ fs' ++ below ∷ [] →
              Advanced g fresh (fs ++ f ∷ []) memory count fs'' (set memory count node) (count + 1)
          stored room fs' fs'' is' is'' =
              let long = ap length owed_then in
              subst (λ l. Advanced g fresh (fs ++ f ∷ []) memory count l (set memory count node) (count + 1)) (sym (is'' ∙ ap (λ l. l ++ below ∷ []) is')) (record {
                stand = stand_push (length fs + 1) 0 (fs ++ moved_on ∷ []) below (let l = length-append fs (moved_on ∷ []) in omega arith) stand_on
                    (record { sound = root.sound; next = omega arith; deep = let h = top.deep in let k = root.fewer in omega arith });
                whole = pasted_one memory count node (owed g fresh 1 ((fs ++ moved_on ∷ []) ++ below ∷ [])) (node_fits room) ∙ ap (pasted memory count) (sym owed_then);
                long = omega arith;
                falls = let h = top.next in let s = slack_push fs f in let s' = slack_push fs moved_on in let t = slack_push (fs ++ moved_on ∷ []) below in omega arith;
              })

  -- the walk from its start up to a turn: what is written and what the frames owe make the whole row
  pub record Underway (row memory₀ : List Node) (fs : List Frame) (memory : List Node) (count : ℕ) : Type 0 where
    pub stand : AllStand 0 fs
    pub whole : pasted memory count (owed g fresh 1 fs) ≡ pasted memory₀ 0 row
    pub long : count + length (owed g fresh 1 fs) ≡ length row

  -- it begins with one frame
  pub underway_first : (memory : List Node) (f : Frame) → Sound f.position → f.next ≡ 0 → (none fs : List Frame) → none ≡ [] → fs ≡ none ++ f ∷ [] →
      Underway (grown_row g fresh f.old.now (walk_of f.position)) memory fs memory 0
  underway_first memory f sound start none fs is_none is =
      let row = grown_row g fresh f.old.now (walk_of f.position) in
      let same : owed g fresh 1 (f ∷ []) ≡ row =
      ap (λ i. nodes 1 (grown_from g fresh f.old.now (walk_of f.position) (compact (drop i f.position.bookings)))) start
      ∙ ap (nodes 1) (sym (grown_all g fresh f.old.now (walk_of f.position))) in
      let long = ap length same in
      subst (λ l. Underway row memory l memory 0) (sym (is ∙ ap (λ l. l ++ f ∷ []) is_none)) (record {
        stand = (record { sound = sound; next = omega arith; deep = let e = eight_stops f.position sound in omega arith }, tt);
        whole = ap (pasted memory 0) same;
        long = omega arith;
      })
