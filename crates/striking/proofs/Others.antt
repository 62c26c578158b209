-- The sums of the other lines are those of all lines without one.
use Prim.Native.Nat.{ℕ, ◌+◌, ◌/◌, ◌%◌, ◌≤◌, ◌<◌}
use native.Mathlib.Omega.{arith}
use mathlib.Core.Path.{◌≡◌, ap, ◌∙◌}
use mathlib.Core.Bool.{Bool, ◌&&◌}
use mathlib.Core.List.{List}
use lib.Dec.{ltb}
use lib.ListN.{length, get_or, length-replicate}
use Rattle.model.specs.Limits.{most_placements}
use Rattle.model.specs.Plan.{Domain}
use Rattle.model.specs.Interval.{low, high}
use Rattle.model.proofs.ListOf.{list_of-at, list_of_cong}
use Rattle.model.proofs.Mix.{count_mix, length_mix}
use Rattle.model.proofs.Run.{low-high, high-below}
use Rattle.placements.specs.Repeated.{repeated}
use Rattle.placements.proofs.Good.{good_placements}
use Rattle.placements.proofs.Repeated.{all-repeated}
use Rattle.spans.specs.Spans.{sums_width, sums_size, below, sums, RunSums}
use Rattle.spans.proofs.Below.{length-sums, sums_at}
use Rattle.spans.proofs.Read.{placed_sums}
use Rattle.intervals.proofs.Read.{meets}
use Rattle.goal_rules.specs.Goal.{without, others}
use Rattle.model.proofs.Append.{count-replicate}
use Rattle.goal_rules.proofs.Without.{mix_repeated, all_without}
use Rattle.ranks.specs.Runs.{FullRuns}
use Rattle.striking.specs.Striking.{own_at, sums_without, Removable, Counted}

-- the sums of all lines
pub all-sums : {m : ℕ} {qs sets xs : List ℕ} → FullRuns m qs sets → xs ≡ sums m (repeated qs sets) → RunSums m 0 (repeated qs sets) xs
all-sums f e = placed_sums f.good f.runs e

-- of a line's tips among these it can be read which intervals meet them
pub counted : {m q s : ℕ} {lines xs : List ℕ} → RunSums m q lines xs → Domain m s → Counted m q s xs
counted {s = s} k d = record {
  own = omega (arith, k.few);
  meeting = λ a w e p r. meets k (low s) (high s) a w e (low-high k.good.most d) (high-below k.good.most d) (omega arith) (omega arith);
}

module _ {m : ℕ} {qs sets : List ℕ} (r : FullRuns m qs sets) (i : ℕ) (l : i < length sets) where
  -- what line i adds at a place, and what the others have there
  at_place : (x y : ℕ)
      → below (repeated qs sets) x y ≡ own_at (low (get_or sets i 0)) (high (get_or sets i 0)) (get_or qs i 0) x y + below (others qs sets i) x y
  unfolding below own_at
  at_place x y =
      let f : ℕ → Bool = λ s. ltb (low s) x && ltb (high s) y in
      omega (arith, count_mix f (mix_repeated qs sets i r.good.same l), count-replicate f (get_or qs i 0) (get_or sets i 0))

  sum-at : (k : ℕ) → k < sums_size m → get_or (sums m (repeated qs sets)) k 0 ≡ below (repeated qs sets) (k / sums_width m) (k % sums_width m)
  unfolding sums
  sum-at k h = list_of-at _ (sums_size m) k h

  -- no sum goes below zero
  pub removable : Removable m (sums m (repeated qs sets)) (get_or sets i 0) (get_or qs i 0)
  removable = record {
    size = length-sums m (repeated qs sets);
    covers = λ x y h g. omega (arith, sums_at m (repeated qs sets) x y h g, at_place x y);
  }

  -- THE SUMS OF THE OTHERS
  pub without-line : sums_without m (sums m (repeated qs sets)) (get_or sets i 0) (get_or qs i 0) ≡ sums m (others qs sets i)
  unfolding sums_without sums
  without-line = list_of_cong _ _ (sums_size m) (λ k h. omega (arith, sum-at k h, at_place (k / sums_width m) (k % sums_width m)))

  -- with the line's own quantity they are few, and they are unbroken runs
  pub rest-sums : {ss xs : List ℕ} → ss ≡ sums m (repeated qs sets) → xs ≡ sums_without m ss (get_or sets i 0) (get_or qs i 0)
      → RunSums m (get_or qs i 0) (others qs sets i) xs
  rest-sums e f =
      let few : length (others qs sets i) + get_or qs i 0 ≤ most_placements = omega (
        arith,
        (good_placements r.good).few,
        length_mix (mix_repeated qs sets i r.good.same l),
        length-replicate {A = ℕ} (get_or qs i 0) (get_or sets i 0),
      ) in
      let q = get_or qs i 0 in
      let s = get_or sets i 0 in record {
        good = record {
          some = r.good.some;
          most = r.good.most;
          few = omega (arith, few);
          domains = all-repeated (without i qs) (all_without i r.good.domains);
        };
        runs = all-repeated (without i qs) (all_without i r.runs);
        few = few;
        summed = f ∙ ap (λ ys. sums_without m ys s q) e ∙ without-line;
      }
