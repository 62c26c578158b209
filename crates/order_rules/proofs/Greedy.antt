-- The order chosen position by position obeys, and is better than any other that obeys where it first differs.
use Prim.Native.Nat.{ℕ, zero, suc, ◌+◌, ◌-◌, ◌≤◌, ◌<◌}
use native.Mathlib.Omega.{arith}
use mathlib.Core.Path.{◌≡◌}
use mathlib.Core.Logic.{◌↔◌, ◌⊎◌, ⊎_elim}
use mathlib.Core.Bool.{Bool, true, false, not, cond, ◌&&◌}
use mathlib.Core.List.{List, ◌∷◌}
use mathlib.Core.Option.{Option, none, some}
use lib.Dec.{T, ltb, leb, eqb, T_not, not_T, leb→le, le→leb, ltb→lt, eqb→eq}
use Rattle.model.proofs.Tests.{le_or_lt, cond_case, one_le, and_left, and_right, and_in, every_iff}
use Rattle.order_rules.specs.Number.{number, lowest, without}
use Rattle.order_rules.specs.Order.{Task, Ready, Completes, done, next}
use Rattle.order_rules.specs.Prefer.{Preference, Choice, FirstBetter, end, better, same, Chooses}
use Rattle.order_rules.specs.Least.{due, tight, is_free_part, fits, pick_by, prepend, greedy_by}
use Rattle.order_rules.proofs.Number.{number_le, number-without, lowest_passes}
use Rattle.order_rules.proofs.Obeys.{number-one_less}

module _ (t : Task) where
  free_iff : (left : ℕ → Bool) (x : ℕ)
      → T (is_free_part t left x) ↔ ((y : ℕ) → y < t.size → T (without x left y) → T (t.before y x) → ⊥)
  unfolding is_free_part
  free_iff left x =
      let both : ℕ → Bool = λ y. without x left y && t.before y x in
      let e = every_iff (λ y. not (both y)) t.size in (
        λ f y l u b. T_not (both y) (e.0 f y l) (and_in (without x left y) (t.before y x) u b),
        λ h. e.1 (λ y l. not_T (both y) (λ u.
            h y l (and_left (without x left y) (t.before y x) u) (and_right (without x left y) (t.before y x) u))),
      )

  -- a part that fits can stand there, and the other way round
  module _ (p : ℕ) (left : ℕ → Bool) (v x : ℕ) where
    pub fits_ready : x < t.size → T (fits t p left v x) → Ready t p left x × (t.last x ≤ v)
    unfolding fits
    fits_ready l f =
        let a = left x in
        let b = leb (t.first x) p in
        let c = leb p (t.last x) in
        let d = leb (t.last x) v in
        let abcd = and_left (a && b && c && d) (is_free_part t left x) f in
        let abc = and_left (a && b && c) d abcd in
        let ab = and_left (a && b) c abc in
        let ready : Ready t p left x = record {
          part = l;
          is_left = and_left a b ab;
          opens = leb→le _ _ (and_right a b ab);
          closes = leb→le _ _ (and_right (a && b) c abc);
          free = (free_iff left x).0 (and_right (a && b && c && d) (is_free_part t left x) f);
        } in
        (ready, leb→le _ _ (and_right (a && b && c) d abcd))

    pub ready_fits : Ready t p left x → t.last x ≤ v → T (fits t p left v x)
    unfolding fits
    ready_fits r h =
        let a = left x in
        let b = leb (t.first x) p in
        let c = leb p (t.last x) in
        let d = leb (t.last x) v in
        let ab = and_in a b r.is_left (le→leb _ _ r.opens) in
        let abcd = and_in (a && b && c) d (and_in (a && b) c ab (le→leb _ _ r.closes)) (le→leb _ _ h) in
        and_in (a && b && c && d) (is_free_part t left x) abcd ((free_iff left x).1 r.free)

  -- a part that is placed is due no more
  pub due-without : (left : ℕ → Bool) (x v : ℕ) → x < t.size → T (left x) → due t left v ≡ due t (without x left) v + cond (leb (t.last x) v) 1 0
  unfolding due
  due-without left x v l u = number-without left (λ i. leb (t.last i) v) x t.size l u

  -- the parts due at v or earlier have positions enough
  pub capacity : (v : ℕ) {p : ℕ} {left : ℕ → Bool} {order : List ℕ} → Completes t p left order → due t left v ≤ suc v - p
  unfolding due
  capacity v {left = left} (done e) =
      let is_due : ℕ → Bool = λ i. left i && leb (t.last i) v in
      omega (arith, number_le is_due left t.size (λ i _ u. and_left (left i) (leb (t.last i) v) u))
  capacity v {p} {left} (next {x = x} r c) =
      let e = due-without left x v r.part r.is_left in
      let h = capacity v c in
      ⊎_elim
      (λ k. omega (arith, one_le (leb (t.last x) v) true (λ _. tt)))
      (λ k. omega (arith, one_le (leb (t.last x) v) false (λ u. omega (arith, leb→le (t.last x) v u, r.closes))))
      (le_or_lt p v)

  module _ (below : (i : ℕ) → i < t.size → t.last i < t.size) where
    -- the part that an order has at p is due no later than the first position up to which all are taken
    pub head-due : {p y : ℕ} {left : ℕ → Bool} {other : List ℕ} → Ready t p left y → Completes t (suc p) (without y left) other
        → t.last y ≤ p + tight t p left
    unfolding tight
    head-due {p} {y} {left} r c =
        ⊎_elim (λ h. h)
        (λ h. absurd (omega (
          arith,
          eqb→eq (due t left (p + d)) (suc d) (lowest_passes full (t.size - p) (omega (arith, below y r.part))),
          due-without left y (p + d) r.part r.is_left,
          one_le (leb (t.last y) (p + d)) false (λ u. omega (arith, leb→le (t.last y) (p + d) u)),
          capacity (p + d) c,
        )))
        (le_or_lt (t.last y) (p + d))
      where
        full : ℕ → Bool
        full e = eqb (due t left (p + e)) (suc e)

        d : ℕ
        d = lowest full (t.size - p)

module _ {S : Type 0} {prefers : Preference S} {choose : Choice S} (after : ℕ → S) (law : Chooses prefers choose) (t : Task) where
  -- what each order is answered by: none, or an order that is better than it
  abbrev pub AtMost : S → Option (List ℕ) → List ℕ → Type 0
  AtMost s none other = Unit {0}
  AtMost s (some order) other = FirstBetter prefers after s order other

  -- the pick can stand at p
  pub pick_ready : (p : ℕ) (s : S) (left : ℕ → Bool) → pick_by choose t p s left < t.size
      → Ready t p left (pick_by choose t p s left) × (t.last (pick_by choose t p s left) ≤ p + tight t p left)
  unfolding pick_by
  pick_ready p s left l =
      let v = p + tight t p left in
      fits_ready t p left v (choose s (fits t p left v) t.size) l (law.passes s (fits t p left v) t.size l)

  -- where a part can stand at p and is due soon enough there is a pick, and it is that part or preferred to it
  module _ (p y : ℕ) (s : S) (left : ℕ → Bool) (r : Ready t p left y) (h : t.last y ≤ p + tight t p left) where
    pub pick_inside : pick_by choose t p s left < t.size
    unfolding pick_by
    pick_inside =
        let v = p + tight t p left in
        law.inside s (fits t p left v) t.size y r.part (ready_fits t p left v y r h)

    pick_first : (pick_by choose t p s left ≡ y) ⊎ T (prefers s (pick_by choose t p s left) y)
    unfolding pick_by
    pick_first =
        let v = p + tight t p left in
        law.first s (fits t p left v) t.size y r.part (ready_fits t p left v y r h)

  -- where there is an answer, it completes
  abbrev pub Sound : ℕ → (ℕ → Bool) → Option (List ℕ) → Type 0
  Sound p left none = Unit {0}
  Sound p left (some order) = Completes t p left order

  -- one part more in front
  put : (p x : ℕ) (left : ℕ → Bool) (r : Option (List ℕ)) → Ready t p left x → Sound (suc p) (without x left) r → Sound p left (prepend x r)
  unfolding prepend
  put p x left none q s = tt
  put p x left (some order) q s = next q s

  -- the order chosen completes
  pub greedy_completes : (k p : ℕ) (s : S) (left : ℕ → Bool) → number left t.size ≡ k → Sound p left (greedy_by choose after t k p s left)
  unfolding greedy_by
  greedy_completes zero p s left e = done e
  greedy_completes (suc k) p s left e =
      let x = pick_by choose t p s left in
      cond_case (Sound p left) (ltb x t.size)
      (λ l.
      let r = (pick_ready p s left (ltb→lt x t.size l)).0 in
      put p x left (greedy_by choose after t k (suc p) (after x) (without x left)) r
      (greedy_completes k (suc p) (after x) (without x left) (omega (arith, number-one_less left x t.size r.part r.is_left))))
      (λ _. tt)

  -- a part that is preferred in front, or the same part and then what is better after it
  at-most-step : (s : S) (x y : ℕ) (rest : ℕ → Option (List ℕ)) (other : List ℕ) → (x ≡ y) ⊎ T (prefers s x y)
      → AtMost (after y) (rest y) other → AtMost s (prepend x (rest x)) (y ∷ other)
  unfolding prepend
  at-most-step s x y rest other c h = ⊎_elim (λ q. rw q (equal (rest y) h)) (λ b. first b (rest x)) c
    where
      equal : (r : Option (List ℕ)) → AtMost (after y) r other → AtMost s (prepend y r) (y ∷ other)
      equal none h = tt
      equal (some order) h = same h

      first : T (prefers s x y) → (r : Option (List ℕ)) → AtMost s (prepend x r) (y ∷ other)
      first b none = tt
      first b (some order) = better b

  -- the order chosen is better than any order that completes
  pub greedy_best : ((i : ℕ) → i < t.size → t.last i < t.size) → (k p : ℕ) (s : S) (left : ℕ → Bool) → number left t.size ≡ k
      → {other : List ℕ} → Completes t p left other → AtMost s (greedy_by choose after t k p s left) other
  unfolding greedy_by
  greedy_best below zero p s left e c = end
  greedy_best below (suc k) p s left e (done z) = absurd (omega arith)
  greedy_best below (suc k) p s left e (next {x = y} {order = other} r c) =
      let x = pick_by choose t p s left in
      cond_case (λ a. AtMost s a (y ∷ other)) (ltb x t.size)
      (λ l.
      let n = number-one_less left y t.size r.part r.is_left in
      at-most-step s x y (λ z. greedy_by choose after t k (suc p) (after z) (without z left)) other (pick_first p y s left r (head-due t below r c))
      (greedy_best below k (suc p) (after y) (without y left) (omega arith) c))
      (λ _. tt)
