-- The Junior's tips: the most pairs of all plans on one tip or two, the lowest u and then the lowest v on a tie.
use Prim.Native.Nat.{ℕ, ◌+◌, ◌*◌, ◌/◌, ◌%◌, ◌≤◌, ◌<◌}
use native.Mathlib.Omega.{arith}
use native.Mathlib.Nat.{div-add-mod', div-lt_iff_lt-mul, mod-lt, mul-le-mul_right}
use mathlib.Core.Path.{◌≡◌, refl, ap}
use mathlib.Core.Logic.{◌↔◌, ◌⊎◌, inl, inr, ⊎_elim}
use mathlib.Core.List.{List}
use lib.Arith.{digits_lt, digits_div, digits_mod}
use lib.Dec.{T, ltb, ltb→lt, lt→ltb}
use Rattle.model.specs.Plan.{Valid, uses, pairs}
use Rattle.model.proofs.Tests.{le_or_lt, true_T, cond_case}
use Rattle.model.proofs.Lists.{all_map}
use Rattle.model.proofs.Largest.{largest_ge, lowest_lt, lowest_attains, lowest-first}
use Rattle.holder_rules.specs.Holders.{serves, two_plan, is_choice, score, chosen, is_served, OnTips}
use Rattle.holder_rules.proofs.Two.{Served, serves_iff, served_swap, two_on}
use Rattle.holder_rules.proofs.Choice.{choice_iff, one_choice, kinds, covered}

-- numbers in two digits are in the order of the first digit, and then of the second
lex : (m u v x y : ℕ) → y < m → u * m + v ≤ x * m + y → (u < x) ⊎ ((u ≡ x) × (v ≤ y))
lex m u v x y b h = ⊎_elim (λ p. inr (level p (le_or_lt u x))) inl (le_or_lt x u)
  where
    level : x ≤ u → (u ≤ x) ⊎ (x < u) → (u ≡ x) × (v ≤ y)
    level p (inl q) =
        let e : u ≡ x = omega arith in
        (e, omega (arith, ap (λ z. z * m) e))
    level p (inr q) = absurd (omega (arith, mul-le-mul_right m q))

-- what is shown of the placements
pub record Placed (m : ℕ) (lines : List ℕ) (u v : ℕ) : Type 0 where
  pub rack : v < m
  pub served : Served lines u v
  pub tips : OnTips u v (two_plan lines u v)
  pub most : {x y : ℕ} {other : List ℕ} → y < m → Valid lines other → OnTips x y other → pairs other ≤ pairs (two_plan lines u v)
  pub lowest : {x y : ℕ} {other : List ℕ} → y < m → Valid lines other → OnTips x y other
      → pairs other ≡ pairs (two_plan lines u v) → (u < x) ⊎ ((u ≡ x) × (v ≤ y))

module _ {m : ℕ} (lines : List ℕ) (some : 0 < m) where
  score-of : (x y : ℕ) → y < m → T (is_choice lines x y) → score m lines (x * m + y) ≡ 1 + pairs (two_plan lines x y)
  unfolding score
  score-of x y b c = rw (digits_div x b, digits_mod x b, true_T (is_choice lines x y) c)

  pub score_pos : (k : ℕ) → 0 < score m lines k → T (is_choice lines (k / m) (k % m)) × (score m lines k ≡ 1 + pairs (two_plan lines (k / m) (k % m)))
  unfolding score
  score_pos k =
      let c = is_choice lines (k / m) (k % m) in
      let p = pairs (two_plan lines (k / m) (k % m)) in
      cond_case (λ x. 0 < x → T c × (x ≡ 1 + p)) c (λ t _. (t, refl)) (λ _ h. absurd (omega arith))

  chosen_lt : chosen m lines < m * m
  unfolding chosen
  chosen_lt = lowest_lt (score m lines) (m * m) (omega (arith, digits_lt some some))

  abbrev best : ℕ
  best = score m lines (chosen m lines)

  -- no choice has more pairs
  choice_le : (x y : ℕ) → x < m → y < m → T (is_choice lines x y) → 1 + pairs (two_plan lines x y) ≤ best
  unfolding chosen
  choice_le x y a b c =
      let f = score m lines in
      omega (arith, score-of x y b c, largest_ge f (m * m) (x * m + y) (digits_lt a b), lowest_attains f (m * m))

  -- SERVED exactly when some two tips of the rack serve every line
  pub served_iff : T (is_served m lines) ↔ ((u v : ℕ) × (u < m) × (v < m) × T (serves lines u v))
  unfolding is_served
  served_iff = (into, λ (u, v, a, b, s). lt→ltb 0 best (ordered u v a b ((serves_iff lines u v).0 s)))
    where
      into : T (ltb 0 best) → (u v : ℕ) × (u < m) × (v < m) × T (serves lines u v)
      into t =
          let k = chosen m lines in
          let (c, e) = score_pos k (ltb→lt 0 best t) in
          let (l, a, f) = (choice_iff lines (k / m) (k % m)).0 c in
          (k / m, k % m, (div-lt_iff_lt-mul some).1 chosen_lt, mod-lt k some, (serves_iff lines (k / m) (k % m)).1 a)

      up : (x y : ℕ) → x < y → y < m → Served lines x y → 0 < best
      up x y l b s =
          ⊎_elim (λ a. omega (arith, choice_le x x (omega arith) (omega arith) (one_choice x a).0))
          (⊎_elim (λ a. omega (arith, choice_le y y b b (one_choice y a).0)) (λ c. omega (arith, choice_le x y (omega arith) b c)))
          (kinds x y l s)

      ordered : (u v : ℕ) → u < m → v < m → Served lines u v → 0 < best
      ordered u v a b s =
          ⊎_elim
          (λ h. ⊎_elim (λ g. level (omega arith)) (λ g. up v u g a (served_swap u v s)) (le_or_lt u v))
          (λ h. up u v h b s)
          (le_or_lt v u)
        where
          level : u ≡ v → 0 < best
          level e = omega (arith, choice_le u u a a (one_choice u (all_map (λ x. ⊎_elim (λ t. t) (λ t. rw e t)) s)).0)

  -- the tips for the placements, where some tips serve every line
  pub placed : T (is_served m lines) → Placed m lines (chosen m lines / m) (chosen m lines % m)
  unfolding is_served chosen
  placed t = record {
    served = known.1;
    rack = mod-lt k some;
    tips = record { ordered = known.0; on = two_on lines u v; used = known.2 };
    most = λ {x} {y} b w o. ⊎_elim
        (λ (c, l). omega (arith, choice_le x y (omega (arith, o.ordered)) b c, top.1))
        (λ (z, d, c, l). omega (arith, choice_le z z d d c, top.1))
        (covered b w o);
    lowest = λ {x} {y} b w o e. ⊎_elim
        (λ (c, l). lex m u v x y b (⊎_elim (λ h. omega (arith, div-add-mod' k m))
        (λ h. absurd (omega (arith, lowest-first (score m lines) (m * m) (x * m + y) h, score-of x y b c, top.1))) (le_or_lt k (x * m + y))))
        (λ (z, d, c, l). absurd (omega (arith, choice_le z z d d c, top.1)))
        (covered b w o);
  }
    where
      k : ℕ
      k = chosen m lines

      u : ℕ
      u = k / m

      v : ℕ
      v = k % m

      top : T (is_choice lines u v) × (score m lines k ≡ 1 + pairs (two_plan lines u v))
      top = score_pos k (ltb→lt 0 best t)

      known : (u ≤ v) × Served lines u v × (u < v → (0 < uses (two_plan lines u v) u) × (0 < uses (two_plan lines u v) v))
      known = (choice_iff lines u v).0 top.0
