-- A table that is at least the score of each set at each of its tips bounds every valid plan.
use Prim.Native.Nat.{ℕ, zero, suc, ◌+◌, ◌*◌, ◌-◌, ◌^◌, ◌≤◌, ◌<◌}
use native.Mathlib.Omega.{arith}
use native.Mathlib.Nat.{mul-le-mul_left}
use mathlib.Core.Path.{◌≡◌, refl, ap, subst, sym, ◌∙◌}
use mathlib.Core.Logic.{⊎_elim}
use mathlib.Core.Bool.{not}
use mathlib.Core.List.{List, [], ◌∷◌}
use store.Seg.{eqb_same}
use lib.Dec.{T, T_not, ltb, eqb, ltb→lt, lt→ltb}
use lib.ListN.{length}
use borrow.Author.Tests.{lt-ltb, le-ltb, ne_eqb}
use Rattle.model.specs.Count.{count, All, lowest_at}
use Rattle.model.specs.Plan.{has, occ, uses, Domain, Valid, pairs, choose2}
use Rattle.model.proofs.Tests.{le_or_lt, test}
use Rattle.model.proofs.Lists.{all_map, length-select}
use Rattle.model.proofs.Mix.{Mix, mix_select, count_mix, length_mix}
use Rattle.model.proofs.Pairs.{choose2_square, shared, pairs_mix, part_once}
use Rattle.model.proofs.Largest.{largest_ge, lowest_attains}
use Rattle.model.proofs.Sets.{has-below, some_tip}
use Rattle.model.proofs.Valid.{valid_length, valid_none, valid_mix, uses-none, rest-free}
use Rattle.subset_rules.specs.Subsets.{size, tips_used, lying, gain}
use Rattle.subset_rules.specs.Chains.{Dominates}
use Rattle.subset_rules.proofs.Drop.{drop_lt, rank-more, rank_less, size-drop, size_zero}
use Rattle.subset_rules.proofs.Lying.{held, held-rest, held_none, held_own, lying-drop}

pub gain-none : (price : ℕ) → gain price 0 ≡ price
unfolding gain
gain-none price = refl

pub gain_some : (price p : ℕ) → 0 < p → gain price p ≡ choose2 p
unfolding gain
gain_some price p l = rw (ne_eqb p 0 (λ e. omega arith))

-- a plan that uses no tip has no line
unused_empty : (plan : List ℕ) → ((t : ℕ) → uses plan t ≤ 0) → length plan ≡ 0
unfolding uses count
unused_empty [] h = refl
unused_empty (t ∷ plan) h = absurd (omega (arith, rw (eqb_same t) at (h t)))

module _ {p q plan : List ℕ} (x : Mix p q plan) where
  used_part : (t : ℕ) → T (ltb 0 (uses q t)) → T (ltb 0 (uses plan t))
  unfolding uses
  used_part t h = lt→ltb 0 (uses plan t) (omega (arith, ltb→lt 0 (uses q t) h, count_mix (eqb t) x))

  -- a part of a plan uses no more tips than the plan
  tips-part : (m : ℕ) → tips_used m q ≤ tips_used m plan
  unfolding tips_used
  tips-part m = rank-more _ _ m used_part

  -- and fewer where it does not use a tip of the plan
  tips_fewer : (m c : ℕ) → c < m → uses q c ≡ 0 → 0 < uses plan c → tips_used m q < tips_used m plan
  unfolding tips_used
  tips_fewer m c l z s = rank_less _ _ c m l (le-ltb 0 (uses q c) (omega arith)) (lt-ltb 0 (uses plan c) s) used_part

module _ {m : ℕ} {lines : List ℕ} (price : ℕ) (ds : All (Domain m) lines) where
  -- a tip of the set that no tip is used more than
  peak : (u : ℕ) {plan : List ℕ} → 0 < u → u < 2 ^ m → Valid (held m lines u) plan
      → (t : ℕ) × T (has u t) × ((v : ℕ) → uses plan v ≤ uses plan t)
  peak u {plan} some b v =
      ⊎_elim
      (λ h. (c, h, top))
      (λ n. let (t, h, _) = some_tip (record { some = some; below = b }) in (t, h, λ x. omega (arith, top x, free c n)))
      (test (has u c))
    where
      c : ℕ
      c = lowest_at (uses plan) m

      free : (x : ℕ) → T (not (has u x)) → uses plan x ≡ 0
      free x n = uses-none x (all_map (λ s own g. T_not (has u x) n (own x g)) (held_own ds u)) v

      top : (x : ℕ) → uses plan x ≤ uses plan c
      top x =
          ⊎_elim
          (λ h. omega (arith, largest_ge (uses plan) m x (has-below m u x b h), lowest_attains (uses plan) m))
          (λ n. omega (arith, free x n))
          (test (has u x))

  module _ (D : ℕ → ℕ) (dom : Dominates price (lying m lines) m D) where
    -- the score of a plan of the lines within u is at most D
    abbrev Bounded : ℕ → List ℕ → Type 0
    Bounded u plan = pairs plan + price * size m u ≤ D u + price * tips_used m plan

    -- the lines that allow the tip used most are moved to it
    step : (u : ℕ) {plan : List ℕ} → 0 < u → u < 2 ^ m → Valid (held m lines u) plan
        → ((w : ℕ) (part : List ℕ) → w < u → Valid (held m lines w) part → Bounded w part)
        → Bounded u plan
    unfolding occ
    step u {plan} some b v ih =
        let (t, h, most) = peak u some b v in
        let (p, q, x, y, n) = valid_mix (mix_select (λ s. has s t) (held m lines u)) v in
        let w = u - 2 ^ t in
        let taken : length p ≡ lying m lines u - lying m lines w =
        valid_length x ∙ length-select (λ s. has s t) (held m lines u) ∙ sym (lying-drop ds u t h) in
        let free : uses q t ≡ 0 = rest-free t (held m lines u) y in
        let bound : gain price (length p) + D w ≤ D u = rw taken (dom u t b h) in
        let left : Bounded w q = ih w q (drop_lt u t h) (subst (λ l. Valid l q) (held-rest ds u t h) y) in
        let sizes : price * size m u ≡ price * suc (size m w) = ap (λ k. price * k) (size-drop m u t b h) in
        let one : pairs p + shared p q ≤ choose2 (length p) = part_once t n free most in
        ⊎_elim
        (λ z.
        let e : length p ≡ 0 = omega arith in
        omega (arith, pairs_mix n, choose2_square 0, rw e at one, rw (e, gain-none price) at bound, mul-le-mul_left price (tips-part n m)))
        (λ l. omega (
          arith,
          pairs_mix n,
          rw (gain_some price (length p) l) at bound,
          mul-le-mul_left price (tips_fewer n m t (has-below m u t b h) free (busy t n most l)),
        ))
        (le_or_lt (length p) 0)
      where
        busy : {p q : List ℕ} (t : ℕ) → Mix p q plan → ((c : ℕ) → uses plan c ≤ uses plan t) → 0 < length p → 0 < uses plan t
        busy t n most l =
            ⊎_elim
            (λ z. absurd (omega (arith, length_mix n, unused_empty plan (λ c. omega (arith, most c)))))
            (λ s. s)
            (le_or_lt (uses plan t) 0)

    bounded : (k u : ℕ) {plan : List ℕ} → u < k → u < 2 ^ m → Valid (held m lines u) plan → Bounded u plan
    bounded zero u l b v = absurd (omega arith)
    bounded (suc k) zero l b v = omega (arith, valid_none (held_none ds) v, ap (λ n. price * n) (size_zero m))
    bounded (suc k) (suc u) l b v = step (suc u) (omega arith) b v (λ w part g. bounded k w (omega arith) (omega arith))

    -- THE BOUND, for the lines within u
    pub dominated : (u : ℕ) {plan : List ℕ} → u < 2 ^ m → Valid (held m lines u) plan
        → pairs plan + price * size m u ≤ D u + price * tips_used m plan
    dominated u b v = bounded (suc u) u (omega arith) b v
