-- What the plan's call answers and leaves, from the tips that were chosen.
use Prim.Native.Nat.{ℕ, ◌+◌, ◌*◌, ◌/◌, ◌%◌, ◌<◌}
use native.Mathlib.Omega.{arith}
use mathlib.Core.Path.{◌≡◌, refl, ap}
use mathlib.Core.Bool.{Bool, true, false, cond}
use mathlib.Core.List.{List}
use borrow.Author.Tests.{lt-ltb, le-ltb}
use Rattle.std.specs.Prelude.{Some, None}
use Rattle.model.specs.Plan.{pairs}
use Rattle.model.proofs.Tests.{T_true}
use Rattle.placements.specs.Repeated.{repeated}
use Rattle.placements.specs.Good.{GoodLines}
use Rattle.holder_rules.specs.Holders.{gathered, to_first, two_plan, is_choice, is_served, score, chosen}
use Rattle.holder_rules.specs.Holders.{line_plan, first_tip, second_tip, junior_plan}
use Rattle.holder_rules.proofs.Junior.{junior_score, junior_rack}
use Rattle.junior.specs.declared.Tips.{Tips}
use Rattle.junior.specs.Found.{tips_on, score_is, tips_of, found_of, plan_of}
use Rattle.junior.proofs.Choice.{tips_with, score_on}

-- what tips that are a choice are
record On (lines : List ℕ) (u v : ℕ) (tips : Tips) : Type 0 where
  u_is : tips.found.u ≡ u
  v_is : tips.found.v ≡ v
  first_is : tips.first ≡ to_first lines u v

tips_are : (lines : List ℕ) (u v : ℕ) {tips : Tips} → Some tips ≡ tips_on lines u v → On lines u v tips
unfolding tips_on
tips_are lines u v {tips} e = by (is_choice lines u v) e
  where
    by : (c : Bool) → Some tips ≡ cond c (Some (tips_with (pairs (two_plan lines u v)) u v (to_first lines u v))) None → On lines u v tips
    by true q =
        let t : tips ≡ tips_with (pairs (two_plan lines u v)) u v (to_first lines u v) = cc in
        record { u_is = ap (λ x. x.found.u) t; v_is = ap (λ x. x.found.v) t; first_is = ap (λ x. x.first) t }
    by false q = absurd (cc)

module _ {m : ℕ} {qs lines : List ℕ} (good : GoodLines m qs lines) where
  score_of : score_is (tips_of m qs lines) ≡ score m (repeated qs lines) (chosen m (repeated qs lines))
  unfolding tips_of first_tip second_tip
  score_of =
      let k = chosen m (repeated qs lines) in
      let some = good.some in
      let e : k / m * m + k % m ≡ k = omega arith in
      rw e at (score_on (repeated qs lines) (k / m) (k % m) {m = m} (omega arith))

  -- no tips serve every line
  module _ (z : None ≡ tips_of m qs lines) where
    unserved : is_served m (repeated qs lines) ≡ false
    unfolding is_served score_is
    unserved = le-ltb 0 (score m (repeated qs lines) (chosen m (repeated qs lines))) (omega (arith, score_of, ap score_is z))

    pub answer-none : None ≡ found_of m qs lines
    unfolding found_of
    answer-none = rw unserved refl

    pub plan_none : (old : List ℕ) → old ≡ plan_of m qs lines old
    unfolding plan_of
    plan_none old = rw unserved refl

  -- some do
  module _ {tips : Tips} (found : Some tips ≡ tips_of m qs lines) where
    served : is_served m (repeated qs lines) ≡ true
    unfolding is_served score_is
    served = lt-ltb 0 (score m (repeated qs lines) (chosen m (repeated qs lines))) (omega (arith, score_of, ap score_is found))

    on : On (repeated qs lines) (first_tip m qs lines) (second_tip m qs lines) tips
    unfolding tips_of
    on = tips_are (repeated qs lines) (first_tip m qs lines) (second_tip m qs lines) found

    pub tips-inside : (tips.found.u < m) × (tips.found.v < m)
    tips-inside =
        let (l, b) = junior_rack good (T_true served) in
        (omega (arith, on.u_is, on.v_is), omega (arith, on.v_is))

    pub answer_some : Some tips.found ≡ found_of m qs lines
    unfolding found_of score_is
    answer_some = rw (served, on.u_is, on.v_is) (ap (λ p. Some (record { pairs = p; u = first_tip m qs lines; v = second_tip m qs lines }))
        (omega (arith, junior_score good (T_true served), score_of, ap score_is found)))

    pub plan_some : (old : List ℕ)
        → cond tips.first (gathered lines tips.found.u tips.found.v) (gathered lines tips.found.v tips.found.u) ≡ plan_of m qs lines old
    unfolding plan_of junior_plan line_plan
    plan_some old = rw (served, on.u_is, on.v_is, on.first_is) refl
