-- The search so far: of the numbers of tips below k, the largest score and the lowest number that has it.
use Prim.Native.Nat.{ℕ, zero, suc, ◌+◌, ◌*◌, ◌/◌, ◌%◌, ◌≤◌, ◌<◌}
use native.Mathlib.Omega.{arith}
use native.Mathlib.Nat.{le_refl}
use native.Mathlib.Numerals.{add-one}
use mathlib.Core.Path.{◌≡◌, refl, sym, ap, ◌∙◌}
use mathlib.Core.Logic.{⊎_elim}
use Rattle.std.specs.Prelude.{Option, None}
use mathlib.Core.List.{List}
use lib.Arith.{digits_lt, digits_div, digits_mod}
use Rattle.model.specs.Count.{largest, lowest_at}
use Rattle.model.proofs.Tests.{le_or_lt}
use Rattle.model.proofs.Largest.{largest-more, lowest-stays, lowest_moves, lowest_attains, lowest-largest}
use Rattle.placements.specs.Repeated.{repeated}
use Rattle.holder_rules.specs.Holders.{score, chosen, first_tip, second_tip}
use Rattle.holder_rules.proofs.Counts.{score-below}
use Rattle.junior.specs.declared.Tips.{Tips}
use Rattle.junior.specs.Found.{tips_on, score_is, tips_of}
use Rattle.junior.proofs.Choice.{score_on, none_scored}

-- of the numbers of tips below k, the choice with the largest score, and of these the lowest number
pub record Sought (m : ℕ) (qs sets : List ℕ) (k : ℕ) (best : Option Tips) : Type 0 where
  pub most : score_is best ≡ largest (score m (repeated qs sets)) k
  pub is : let j = lowest_at (score m (repeated qs sets)) k in 0 < k → best ≡ tips_on (repeated qs sets) (j / m) (j % m)

module _ (m : ℕ) (qs sets : List ℕ) where
  pub sought_none : Sought m qs sets 0 None
  unfolding largest score_is
  sought_none = record { most = refl; is = λ l. absurd (omega arith) }

  abbrev pub f : ℕ → ℕ
  f = score m (repeated qs sets)

  -- the score of number k is that of its tips
  score_at : (k : ℕ) → 0 < m → score_is (tips_on (repeated qs sets) (k / m) (k % m)) ≡ f k
  score_at k some =
      let e : k / m * m + k % m ≡ k = omega arith in
      rw e at (score_on (repeated qs sets) (k / m) (k % m) {m = m} (omega arith))

  -- a number whose score is no larger
  pub sought_stays : {k : ℕ} {best : Option Tips} → 0 < m → Sought m qs sets k best → f k ≤ score_is best → Sought m qs sets (k + 1) best
  unfolding largest lowest_at
  sought_stays {k} {best} some h l = record {
    most = omega (arith, h.most, largest-more f k);
    is = λ _. at k h l;
  }
    where
      at : (k : ℕ) → Sought m qs sets k best → f k ≤ score_is best
          → let j = lowest_at f (k + 1) in best ≡ tips_on (repeated qs sets) (j / m) (j % m)
      at zero h l =
          let z : score_is best ≡ 0 = h.most in
          let first : lowest_at f (0 + 1) ≡ 0 = lowest-stays f zero (le_refl _) in
          rw first (none_scored best z ∙ sym (none_scored (tips_on (repeated qs sets) (0 / m) (0 % m)) (omega (arith, score_at 0 some))))
      at (suc k) h l =
          rw (add-one, lowest-stays f (suc k) (omega (arith, h.most, lowest_attains f (suc k)))) (h.is (omega arith))

  -- the number of u and v, whose score is larger
  pub sought_moves : {best next : Option Tips} (u v : ℕ) → v < m → Sought m qs sets (u * m + v) best → next ≡ tips_on (repeated qs sets) u v
      → score_is best < score_is next → Sought m qs sets (u * m + v + 1) next
  unfolding lowest_at
  sought_moves {best} {next} u v b h e l =
      let s : score_is next ≡ f (u * m + v) = ap score_is e ∙ score_on (repeated qs sets) u v b in
      let j : lowest_at f (u * m + v + 1) ≡ u * m + v = rw add-one (moves (u * m + v) (omega (arith, h.most))) in
      record {
        most = omega (arith, h.most, largest-more f (u * m + v));
        is = λ _. rw (j, digits_div u b, digits_mod u b) e;
      }
    where
      -- below the first number there is none, and it is the lowest whatever its score
      moves : (k : ℕ) → largest f k < f k → lowest_at f (suc k) ≡ k
      moves zero l = lowest-stays f zero (le_refl _)
      moves (suc k) l = lowest_moves f (suc k) (omega (arith, lowest-largest f (suc k) (omega arith)))

  -- the number of u and v, which are no choice
  pub sought_same : {best : Option Tips} (u v : ℕ) → v < m → Sought m qs sets (u * m + v) best → None ≡ tips_on (repeated qs sets) u v
      → Sought m qs sets (u * m + v + 1) best
  unfolding score_is
  sought_same u v b h e = sought_stays (omega arith) h (omega (arith, ap score_is e, score_on (repeated qs sets) u v b))

  -- the number of u and v, if its choice is better
  pub sought_next : {best next new : Option Tips} (u v : ℕ) → v < m → Sought m qs sets (u * m + v) best → next ≡ tips_on (repeated qs sets) u v
      → (score_is next ≤ score_is best → new ≡ best) → (score_is best < score_is next → new ≡ next) → Sought m qs sets (u * m + v + 1) new
  sought_next {best} {next} u v b h e stays moves =
      ⊎_elim
      (λ l. rw (stays l) (sought_stays (omega arith) h (omega (arith, ap score_is e, score_on (repeated qs sets) u v b))))
      (λ l. rw (moves l) (sought_moves u v b h e l))
      (le_or_lt (score_is next) (score_is best))

  -- the numbers of u and a lower tip after it are passed over
  pub sought_skip : {best : Option Tips} (u j : ℕ) → u < m → j ≤ u → Sought m qs sets (u * m) best → Sought m qs sets (u * m + j) best
  sought_skip {best} u zero l b h =
      let e : u * m + 0 ≡ u * m = omega arith in
      rw e h
  sought_skip {best} u (suc j) l b h =
      let e : u * m + suc j ≡ u * m + j + 1 = omega arith in
      rw e (sought_stays (omega arith) (sought_skip u j l (omega arith) h)
      (omega (arith, score-below {m = m} (repeated qs sets) u j (omega arith) (omega arith))))

  -- after the last number
  pub sought_all : {best : Option Tips} → 0 < m → Sought m qs sets (m * m) best → best ≡ tips_of m qs sets
  unfolding tips_of first_tip second_tip chosen
  sought_all some h = h.is (omega (arith, digits_lt some some))
