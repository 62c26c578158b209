-- Tips as a choice, and their score.
use Prim.Native.Nat.{ℕ, ◌+◌, ◌*◌, ◌<◌}
use native.Mathlib.Omega.{arith}
use mathlib.Core.Path.{◌≡◌, refl, sym, ◌∙◌}
use mathlib.Core.Bool.{Bool, true, false, cond}
use mathlib.Core.List.{List}
use lib.Arith.{digits_div, digits_mod}
use Rattle.std.specs.Prelude.{Option, Some, None}
use Rattle.model.specs.Plan.{pairs}
use Rattle.holder_rules.specs.Holders.{to_first, two_plan, is_choice, score}
use Rattle.junior.specs.declared.Tips.{Tips}
use Rattle.junior.specs.Found.{tips_on, score_is}

abbrev pub tips_with : ℕ → ℕ → ℕ → Bool → Tips
tips_with p u v first = record { found = record { pairs = p; u = u; v = v }; first = first }

module _ (lines : List ℕ) (u v : ℕ) where
  -- the score of the tips is that of their number
  pub score_on : {m : ℕ} → v < m → score_is (tips_on lines u v) ≡ score m lines (u * m + v)
  unfolding score tips_on score_is
  score_on b = rw (digits_div u b, digits_mod u b) (by (is_choice lines u v))
    where
      by : (c : Bool) → score_is (cond c (Some (tips_with (pairs (two_plan lines u v)) u v (to_first lines u v))) None)
          ≡ cond c (1 + pairs (two_plan lines u v)) 0
      by true = refl
      by false = refl

-- no score: no choice
pub none_scored : (o : Option Tips) → score_is o ≡ 0 → o ≡ None
unfolding score_is
none_scored None e = refl
none_scored (Some t) e = absurd (omega arith)

module _ (lines : List ℕ) (u v : ℕ) where
  pub none_on : {m : ℕ} → v < m → score m lines (u * m + v) ≡ 0 → None ≡ tips_on lines u v
  none_on b z = sym (none_scored (tips_on lines u v) (score_on lines u v b ∙ z))

  -- a score: the tips with the pairs that it tells
  pub some_on : {m p : ℕ} {first : Bool} → v < m → score m lines (u * m + v) ≡ 1 + p → first ≡ to_first lines u v
      → Some (tips_with p u v first) ≡ tips_on lines u v
  unfolding tips_on score_is
  some_on {p = p} b e f = rw f (by (is_choice lines u v) (rw (← (score_on lines u v b)) at e))
    where
      by : (c : Bool) → score_is (cond c (Some (tips_with (pairs (two_plan lines u v)) u v (to_first lines u v))) None) ≡ 1 + p
          → Some (tips_with p u v (to_first lines u v))
          ≡ cond c (Some (tips_with (pairs (two_plan lines u v)) u v (to_first lines u v))) None
      by true q = let n : p ≡ pairs (two_plan lines u v) = omega arith in rw n
      by false q = absurd (omega arith)
