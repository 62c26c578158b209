-- The search for the lowest candidate that no other part left is to precede.
use Prim.Native.Nat.{ℕ, ◌^◌, ◌≤◌, ◌<◌}
use native.Mathlib.Omega.{arith}
use mathlib.Core.Path.{◌≡◌, refl, ap, ◌∙◌}
use mathlib.Core.Logic.{◌≢◌, ⊎_elim}
use mathlib.Core.Bool.{Bool, true, false, not, cond, ◌&&◌}
use mathlib.Core.List.{List}
use lib.Dec.{T, ltb, eqb, ltb→lt, T_not, not_T, eqb→eq, eqb_refl}
use lib.ListN.{set, replicate, length-set, length-replicate}
use Rattle.model.proofs.Tests.{le_or_lt, and_left, and_right, and_in, same_test, true_T, false_T, false_not, cond_case}
use Rattle.order_rules.specs.Number.{number, without}
use Rattle.order_rules.proofs.Number.{number_but, without-left, without_differs, without_in}
use Rattle.flat_order.specs.declared.sets.PartSet.{PartSet}
use Rattle.flat_order.specs.Sets.{has_part, single, joined, removed, met, apart, no_parts, IsLowest}
use Rattle.flat_order.specs.Flat.{row_at, is_pick, Held, IsFirst}
use Rattle.flat_order.proofs.Members.{has-single, has-joined, has-met, has-removed, apart_none, apart_if, some_or, or_first, or_second}
use Rattle.flat_order.proofs.Lasts.{first-none}
use Rattle.flat_order.proofs.Below.{row-set}
use Rattle.flat_order.proofs.Settled.{left-without}

-- of the candidates `start` that the search begins with, each from the lowest of `among` on is still to be tried: it is one of `among`
pub record Onward (start among : PartSet) : Type 0 where
  pub rest : (x i : ℕ) → IsLowest among x → x ≤ i → T (has_part start i) → T (has_part among i)

pub onward_none : (start : PartSet) → Onward start start
onward_none start = record { rest = λ x i is l t. t }

-- x is the lowest of the candidates still to be tried
module _ (rest : PartSet) (x : ℕ) (is : IsLowest rest x) where
  keeps : (i : ℕ) → T (has_part (removed rest (single x)) i) → T (has_part rest i) × (x ≢ i)
  keeps i t =
      let u : T (without x (has_part rest) i) = rw (left-without rest x i) at t in
      (without-left (has_part rest) x i u, without_differs (has_part rest) x i u)

  stays : (i : ℕ) → T (has_part rest i) → x ≢ i → T (has_part (removed rest (single x)) i)
  stays i t d = rw (left-without rest x i) (without_in (has_part rest) x i t d)

  -- the next candidate that is tried is after it
  pub trying_later : (y : ℕ) → x < 128 → IsLowest (removed rest (single x)) y → x < y
  trying_later y l next =
      ⊎_elim
      (λ h. let (t, d) = keeps y (next.found (omega arith)) in
      ⊎_elim (λ k. absurd (d (omega arith))) (λ k. absurd (omega (arith, is.least y t))) (le_or_lt x y))
      (λ h. h)
      (le_or_lt y x)

  pub onward_more : (start : PartSet) → x < 128 → Onward start rest → Onward start (removed rest (single x))
  onward_more start l s = record {
    rest = λ y i next k t.
        let later = trying_later y l next in
        stays i (s.rest x i is (omega arith) t) (λ z. omega arith);
  }

module _ (all left : PartSet) (rows : List PartSet) where
  abbrev free : ℕ → Bool
  free x = apart (row_at rows x) (removed left (single x))

  pick_in : (x : ℕ) → T (has_part all x) → T (free x) → T (is_pick all left rows x)
  unfolding is_pick
  pick_in x t u = and_in (has_part all x) (free x) t u

  pub pick-among : (x : ℕ) → T (is_pick all left rows x) → T (has_part all x)
  unfolding is_pick
  pick-among x t = and_left (has_part all x) (free x) t

  pick_free : (x : ℕ) → T (is_pick all left rows x) → T (free x)
  unfolding is_pick
  pick_free x t = and_right (has_part all x) (free x) t

  -- a part that is ready is picked first: it is one of the candidates that are ready
  pub pick-on : (on : PartSet) (x : ℕ) → is_pick (met all on) left rows x ≡ (is_pick all left rows x && has_part on x)
  unfolding is_pick
  pick-on on x = ap (λ b. b && free x) (has-met all on x) ∙ swap (has_part all x) (has_part on x) (free x)
    where
      swap : (a b c : Bool) → (a && b && c) ≡ (a && c && b)
      swap false b c = refl
      swap true false false = refl
      swap true false true = refl
      swap true true false = refl
      swap true true true = refl

  -- the candidates still to be tried: each that can be picked is one of them
  pub record Trying (rest : PartSet) : Type 0 where
    pub tried : (i : ℕ) → T (is_pick all left rows i) → T (has_part rest i)
    pub part : (i : ℕ) → T (has_part rest i) → T (has_part all i)

  module _ (rest : PartSet) (s : Trying rest) where
    pub trying_found : (x : ℕ) → x < 128 → IsLowest rest x → free x ≡ true → IsFirst (is_pick all left rows) x
    trying_found x l is e = record {
      passes = pick_in x (s.part x (is.found l)) (rw e tt);
      least = λ y t. is.least y (s.tried y t);
    }

    pub trying_more : (x : ℕ) → free x ≡ false → Trying (removed rest (single x))
    trying_more x e = record {
      tried = λ i t. rw (left-without rest x i) (without_in (has_part rest) x i (s.tried i t)
          (λ z. let f : T (free x) = rw (← z) at (pick_free i t) in rw e at f));
      part = λ i t. s.part i (without-left (has_part rest) x i (rw (left-without rest x i) at t));
    }

    pub trying_all : ((x : ℕ) → T (has_part rest x) → ⊥) → (x : ℕ) → T (is_pick all left rows x) → ⊥
    trying_all none x t = none x (s.tried x t)

-- a set without one of its parts has fewer
pub fewer_parts : (rest : PartSet) (x : ℕ) → x < 128 → IsLowest rest x → number (has_part (removed rest (single x))) 128 < number (has_part rest) 128
fewer_parts rest x l is =
    let less = removed rest (single x) in
    let on : has_part rest x ≡ true = true_T (has_part rest x) (is.found l) in
    let off : has_part less x ≡ false = false_T (has_part less x) (not_T (has_part less x) (λ t.
    without_differs (has_part rest) x x (rw (left-without rest x x) at t) refl)) in
    let k = number_but (has_part less) (has_part rest) x 128 l (λ i m d. same_test (has_part less i) (has_part rest i)
    (λ t. without-left (has_part rest) x i (rw (left-without rest x i) at t))
    (λ t. rw (left-without rest x i) (without_in (has_part rest) x i t d))) in
    omega (arith, rw (off, on) at k)

-- ---- the parts that wait

module _ (left waiting : PartSet) (rows noted : List PartSet) (h : Held left waiting rows noted) where
  -- a part that waits is no pick
  not_pick : (among : PartSet) (x : ℕ) → T (has_part waiting x) → T (is_pick among left rows x) → ⊥
  not_pick among x t u =
      let (b, m, w) = h.each x t in
      let row = row_at rows x in
      let others = removed left (single x) in
      let k : T (has_part row b && has_part others b) = rw (has-met row others b) at m in
      apart_none row others (pick_free among left rows x u) b (and_left (has_part row b) (has_part others b) k)
      (and_right (has_part row b) (has_part others b) k)

  -- so the search leaves out those that wait
  pub trying_none : (among : PartSet) → Trying among left rows (removed among waiting)
  trying_none among = record {
    tried = λ i u. rw (has-removed among waiting i) (and_in (has_part among i) (not (has_part waiting i)) (pick-among among left rows i u)
        (not_T (has_part waiting i) (λ t. not_pick among i t u)));
    part = λ i t. and_left (has_part among i) (not (has_part waiting i)) (rw (has-removed among waiting i) at t);
  }

  -- part x waits for part b
  module _ (x b : ℕ) (m : T (has_part (met (row_at rows x) (removed left (single x))) b)) where
    pub b_left : T (has_part left b)
    b_left =
        let others = removed left (single x) in
        let row = row_at rows x in
        let o = and_right (has_part row b) (has_part others b) (rw (has-met row others b) at m) in
        without-left (has_part left) x b (rw (left-without left x b) at o)

    pub held_more : Held left (joined waiting (single x)) rows (set noted b (joined (row_at noted b) (single x)))
    held_more =
        let row = joined (row_at noted b) (single x) in
        let at : (c y : ℕ) → has_part (row_at (set noted b row) c) y ≡ has_part (cond (eqb b c) row (row_at noted c)) y =
        λ c y. ap (λ s. has_part s y) (row-set noted b c row (h.places b b_left)) in
        let kept : (c y : ℕ) → T (has_part (row_at noted c) y) → T (has_part (row_at (set noted b row) c) y) =
        λ c y t. rw (at c y) (cond_case (λ s. T (has_part s y)) (eqb b c)
        (λ u. rw (has-joined (row_at noted b) (single x) y)
        (or_first (has_part (row_at noted b) y) (has_part (single x) y) (rw (← eqb→eq b c u) at t)))
        (λ _. t)) in
        record {
          places = λ y t. omega (arith, length-set noted b row, h.places y t);
          each = λ y t. some_or (has_part waiting y) (has_part (single x) y) (rw (has-joined waiting (single x) y) at t)
              (λ u. let (c, v, w) = h.each y u in (c, v, kept c y w))
              (λ u. let e = eqb→eq x y (rw (has-single x y) at u) in
              rw (← e) (
                b,
                m,
                rw (at b x, true_T (eqb b b) (eqb_refl b), has-joined (row_at noted b) (single x) x)
                    (or_second (has_part (row_at noted b) x) (has_part (single x) x) (rw (has-single x x) (eqb_refl x))),
              ));
        }

  -- part x is placed: those that wait for it wait no more
  pub held_less : (x : ℕ) → Held (removed left (single x)) (removed waiting (row_at noted x)) rows noted
  held_less x = record {
    places = λ y t. h.places y (without-left (has_part left) x y (rw (left-without left x y) at t));
    each = λ y t.
        let freed = row_at noted x in
        let k : T (has_part waiting y && not (has_part freed y)) = rw (has-removed waiting freed y) at t in
        let (b, m, w) = h.each y (and_left (has_part waiting y) (not (has_part freed y)) k) in
        let row = row_at rows y in
        let q : T (has_part row b && has_part (removed left (single y)) b) = rw (has-met row (removed left (single y)) b) at m in
        let o : T (without y (has_part left) b) = rw (left-without left y b) at
        (and_right (has_part row b) (has_part (removed left (single y)) b) q) in
        let d : x ≢ b = λ e. T_not (has_part freed y) (and_right (has_part waiting y) (not (has_part freed y)) k) (rw e w) in
        let l : T (has_part (removed left (single x)) b) =
        rw (left-without left x b) (without_in (has_part left) x b (without-left (has_part left) y b o) d) in
        let less = removed left (single x) in
        let r : T (has_part (removed less (single y)) b) =
        rw (left-without less y b) (without_in (has_part less) y b l (without_differs (has_part left) y b o)) in (
          b,
          rw (has-met row (removed less (single y)) b)
              (and_in (has_part row b) (has_part (removed less (single y)) b) (and_left (has_part row b) (has_part (removed left (single y)) b) q) r),
          w,
        );
  }

pub held_none : (left : PartSet) (rows : List PartSet) (places : ℕ) → ((x : ℕ) → T (has_part left x) → x < places)
    → Held left no_parts rows (replicate places no_parts)
held_none left rows places inside = record {
  places = λ x t. omega (arith, length-replicate {A = PartSet} places no_parts, inside x t);
  each = λ x t. absurd (let v : T (ltb x 0) = rw (first-none x) at t in omega (arith, ltb→lt x 0 v));
}

-- the parts left that are to precede x tell whether x is free
module _ (left : PartSet) (rows : List PartSet) (x : ℕ) where
  abbrev row : PartSet
  row = row_at rows x

  abbrev others : PartSet
  others = removed left (single x)

  pub is_free : (met row others).low < 2 ^ 64 → (met row others).high < 2 ^ 64 → ((y : ℕ) → T (has_part
      (met row others) y) → ⊥) → apart row others ≡ true
  unfolding met
  is_free k l none = true_T (apart row others) (apart_if row others k l (λ y m t u.
      none y (rw (has-met row others y) (and_in (has_part row y) (has_part others y) t u))))

  pub not_free : (b : ℕ) → T (has_part (met row others) b) → apart row others ≡ false
  not_free b h = false_not (apart row others) (λ t.
      let m : T (has_part row b && has_part others b) = rw (has-met row others b) at h in
      apart_none row others t b (and_left (has_part row b) (has_part others b) m) (and_right (has_part row b) (has_part others b) m))
