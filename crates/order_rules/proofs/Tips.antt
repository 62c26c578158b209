-- The placing order by tips is the best that obeys; with all parts on one tip it is the placing order by number.
use Prim.Native.Nat.{ℕ, zero, suc, ◌+◌, ◌<◌}
use native.Mathlib.Omega.{arith}
use native.Mathlib.Nat.{le_refl}
use mathlib.Core.Path.{◌≡◌, refl, ap, sym, ◌∙◌}
use mathlib.Core.Bool.{Bool, true, false, not, cond}
use mathlib.Core.List.{List, [], ◌∷◌, map}
use mathlib.Core.Option.{some}
use lib.Dec.{T, ltb, eqb, T_not, not_T}
use lib.ListN.{length, get_or, take, drop}
use lib.Seq.{get_or-take}
use Rattle.model.specs.Choice.{Mounted, bare, tip, is_on}
use Rattle.model.specs.Count.{each}
use Rattle.along.specs.Along as Along
use Rattle.order_rules.specs.declared.Part.{Part}
use Rattle.order_rules.specs.declared.Rule.{Rule}
use Rattle.order_rules.specs.Number.{number, comes_first}
use Rattle.order_rules.specs.Order.{Task, Obeys}
use Rattle.order_rules.specs.Prefer.{FirstBetter, end, better, same, Best}
use Rattle.order_rules.specs.Least.{choose_lowest, no_state, least_order}
use Rattle.order_rules.specs.Parts.{window_ok, task_of, placing_order}
use Rattle.order_rules.specs.Tips.{tip_at, is_ready, head_after, by_tip, choose_by_tip, order_by_tips, placing_by_tips}
use Rattle.order_rules.specs.Tips.{is_change, changes, head_at, BestByTips}
use Rattle.order_rules.proofs.Number.{number_cong}
use Rattle.order_rules.proofs.First.{passes_too, first_asym, on_alike, chooses_first}
use Rattle.order_rules.proofs.Best.{best-order, best_obeys, best_better}
use Rattle.order_rules.proofs.Agree.{best-alike}
use Rattle.order_rules.proofs.Parts.{last-below}

-- of the numbers below m + 1 that pass, the first one and the others
number_front : (f : ℕ → Bool) (m : ℕ) → number f (suc m) ≡ cond (f 0) 1 0 + number (λ i. f (suc i)) m
unfolding number
number_front f zero = omega arith
number_front f (suc m) = omega (arith, number_front f m)

module _ (tips : List ℕ) where
  -- THE BEST BY TIPS: at the first position where another order that obeys differs, this one has the preferred part
  pub order-by-tips : (mounted : Mounted) (t : Task) → ((i : ℕ) → i < t.size → t.last i < t.size)
      → Best (by_tip tips) (head_after tips) mounted t (order_by_tips tips mounted t)
  order-by-tips mounted t below = best-order (head_after tips) (chooses_first (is_ready tips)) mounted t below

  pub placing-by-tips : (parts : List Part) (rules : List Rule) (mounted : Mounted) → T (each (window_ok (length parts)) parts)
      → Best (by_tip tips) (head_after tips) mounted (task_of parts rules) (placing_by_tips parts rules tips mounted)
  unfolding placing_by_tips
  placing-by-tips parts rules mounted w = order-by-tips mounted (task_of parts rules) (last-below parts w)

  -- all parts on one tip: the order is the one by number, whatever is mounted
  order_one_tip : (t : Task) (mounted : Mounted) → ((i j : ℕ) → i < t.size → j < t.size → tip_at tips i ≡ tip_at tips j)
      → order_by_tips tips mounted t ≡ least_order t
  unfolding least_order
  order_one_tip t mounted one =
      best-alike (choose_by_tip tips) choose_lowest (head_after tips) no_state (λ _ _. Unit) t
      (λ head _ _ f. on_alike (is_ready tips head) f t.size (λ i j l k u. rw (one j i k l) u)) (λ _ _. tt) mounted tt tt

  pub placing_one_tip : (parts : List Part) (rules : List Rule) (mounted : Mounted)
      → ((i j : ℕ) → i < length parts → j < length parts → tip_at tips i ≡ tip_at tips j)
      → placing_by_tips parts rules tips mounted ≡ placing_order parts rules
  unfolding placing_by_tips placing_order
  placing_one_tip parts rules mounted one = order_one_tip (task_of parts rules) mounted one

  -- at the first position that differs, if the other order has a part on the tip of the head then the better one has
  first_ready : {head : Mounted} {a b : List ℕ} → FirstBetter (by_tip tips) (head_after tips) head a b → (p : ℕ) → p < length a
      → take p a ≡ take p b → T (is_ready tips (head_at tips head a p) (get_or b p 0)) → T (is_ready tips (head_at tips head a p) (get_or a p 0))
  unfolding comes_first
  first_ready end p l e u = absurd (omega arith)
  first_ready {head} (better {x = x} {y} h) zero l e u = passes_too (is_ready tips head x) (is_ready tips head y) (ltb x y) h u
  first_ready {head} (better {x = x} {y} h) (suc p) l e u =
      let q : x ≡ y = ap (λ r. get_or r 0 0) e in
      absurd (first_asym (is_ready tips head) x y h (rw q (rw q at h)))
  first_ready (same h) zero l e u = u
  first_ready (same h) (suc zero) l e u = first_ready h zero (omega arith) refl u
  first_ready (same h) (suc (suc p)) l e u = first_ready h (suc p) (omega arith) (ap (drop (suc zero)) e) u

  -- orders that begin alike have the same tip on the head
  head_alike : (mounted : Mounted) (a b : List ℕ) (p : ℕ) → take p a ≡ take p b → head_at tips mounted a p ≡ head_at tips mounted b p
  head_alike mounted a b zero e = refl
  head_alike mounted a b (suc p) e =
      ap (head_after tips) (sym (get_or-take (suc p) a p 0 (le_refl _)) ∙ ap (λ r. get_or r p 0) e ∙ get_or-take (suc p) b p 0 (le_refl _))

  -- a part that is not on the tip of the head changes it, unless the head is bare
  change_too : (head : Mounted) (x y : ℕ) → (T (is_ready tips head y) → T (is_ready tips head x))
      → T (is_change tips head x) → T (is_change tips head y)
  unfolding is_on
  change_too bare x y f u = u
  change_too (tip h) x y f u = not_T (eqb h (tip_at tips y)) (λ v. T_not (eqb h (tip_at tips x)) u (f v))

  -- A CHANGE IS NEEDED: where the best order changes the tip, each order that obeys and begins alike changes it there
  pub change_needed : {mounted : Mounted} {t : Task} {order other : List ℕ} → Best (by_tip tips) (head_after tips) mounted t (some order)
      → Obeys t other → (p : ℕ) → p < t.size → take p order ≡ take p other
      → T (is_change tips (head_at tips mounted order p) (get_or order p 0)) → T (is_change tips (head_at tips mounted other p) (get_or other p 0))
  change_needed {mounted} {order = order} {other} best o p l e u =
      let ready = first_ready (best_better best o) p (omega (arith, (best_obeys best).count)) e in
      rw (← head_alike mounted order other p e) (change_too (head_at tips mounted order p) (get_or order p 0) (get_or other p 0) ready u)

  pub best_by_tips : {mounted : Mounted} {t : Task} {order : List ℕ} → Best (by_tip tips) (head_after tips) mounted t (some order)
      → BestByTips t tips mounted order
  best_by_tips best = record { obeys = best_obeys best; better = λ other o. best_better best o; needed = λ other o. change_needed best o }

  -- the changes along a part and those after it
  pub changes_front : (mounted : Mounted) (x : ℕ) (order : List ℕ)
      → changes tips mounted (x ∷ order) ≡ cond (is_change tips mounted x) 1 0 + changes tips (head_after tips x) order
  unfolding Along.changes Along.changes_after
  changes_front bare x order = omega arith
  changes_front (tip h) x order = by (eqb h (tip_at tips x))
    where
      later : ℕ
      later = Along.changes_after (tip_at tips x) (map (tip_at tips) order)

      by : (b : Bool) → cond b 0 1 + later ≡ cond (not b) 1 0 + later
      by true = refl
      by false = refl

  -- and after the last part none
  pub changes_end : (mounted : Mounted) → changes tips mounted [] ≡ 0
  unfolding Along.changes Along.changes_after
  changes_end bare = refl
  changes_end (tip h) = refl

  -- the changes are as many as the positions at which the tip is changed
  pub changes_number : (mounted : Mounted) (order : List ℕ)
      → changes tips mounted order ≡ number (λ p. is_change tips (head_at tips mounted order p) (get_or order p 0)) (length order)
  unfolding number
  changes_number mounted [] = changes_end mounted
  changes_number mounted (x ∷ order) =
      let here : ℕ → Bool = λ p. is_change tips (head_at tips mounted (x ∷ order) p) (get_or (x ∷ order) p 0) in
      let later : ℕ → Bool = λ p. is_change tips (head_at tips (head_after tips x) order p) (get_or order p 0) in
      omega (
        arith,
        changes_front mounted x order,
        changes_number (head_after tips x) order,
        number_front here (length order),
        number_cong later (λ p. here (suc p)) (length order) (λ p _. after p),
      )
    where
      after : (p : ℕ) → is_change tips (head_at tips (head_after tips x) order p) (get_or order p 0)
          ≡ is_change tips (head_at tips mounted (x ∷ order) (suc p)) (get_or order p 0)
      after zero = refl
      after (suc p) = refl
