-- What is read from the sums of lines: the counts of each interval.
use Prim.Native.Nat.{ℕ, ◌+◌, ◌≤◌, ◌<◌}
use native.Mathlib.Omega.{arith}
use mathlib.Core.Path.{◌≡◌}
use mathlib.Core.List.{List}
use lib.Dec.{T}
use lib.ListN.{length}
use Rattle.model.specs.Limits.{most_tips, most_placements}
use Rattle.model.specs.Count.{All}
use Rattle.model.specs.Interval.{any, is_run, inside, Line}
use Rattle.model.proofs.Run.{run-lines}
use Rattle.placements.specs.Repeated.{repeated}
use Rattle.placements.specs.Good.{GoodLines}
use Rattle.placements.proofs.Repeated.{all-repeated}
use Rattle.placements.proofs.Good.{good_placements}
use Rattle.spans.specs.Spans.{sums, inside_by, Ready, RunSums}
use Rattle.spans.proofs.Below.{below_le, below_mono, sums_at, summed, inside_by-inside}

-- no count by the sums is above the number of lines
inside_le : (m : ℕ) (lines : List ℕ) (a w c : ℕ) → a + w ≤ m → a ≤ c → c < a + w → inside_by m (sums m lines) a w c ≤ length lines
unfolding inside_by
inside_le m lines a w c e f g = omega (
  arith,
  sums_at m lines (c + 1) (a + w) (omega arith) (omega arith),
  sums_at m lines a c (omega arith) (omega arith),
  sums_at m lines a (a + w) (omega arith) (omega arith),
  below_mono lines a c (a + w) (omega arith),
  below_le lines (c + 1) (a + w),
)

-- THE SUMS OF FEW LINES can be read
pub ready : (m q : ℕ) (lines : List ℕ) {xs : List ℕ} → m ≤ most_tips → length lines + q ≤ most_placements → xs ≡ sums m lines → Ready m q xs
ready m q lines narrow few e = rw e (record {
  rack = narrow;
  summed = λ a w c e f g. summed m lines a w c e f g (omega (arith, few));
  few = λ a w c e f g. omega (arith, few, inside_le m lines a w c e f g);
})

-- the sums of the placements of good lines that are unbroken runs
pub placed_sums : {m : ℕ} {qs sets xs : List ℕ} → GoodLines m qs sets → All (λ s. T (is_run s)) sets → xs ≡ sums m (repeated qs sets)
    → RunSums m 0 (repeated qs sets) xs
placed_sums {qs = qs} good runs e = record {
  good = good_placements good;
  runs = all-repeated qs runs;
  few = omega (arith, (good_placements good).few);
  summed = e;
}

module _ {m q : ℕ} {lines xs : List ℕ} (k : RunSums m q lines xs) where
  pub run_ready : Ready m q xs
  run_ready = ready m q lines k.good.most k.few k.summed

  -- lines where any tip may be chosen
  pub run_lines : All (Line any m) lines
  run_lines = run-lines k.good.most k.good.domains k.runs

  -- FOUR PLACES of the sums tell how many of the lines lying within the interval allow tip c
  pub inside_is : (a w c : ℕ) → a + w ≤ m → a ≤ c → c < a + w → inside_by m xs a w c ≡ inside lines a w c
  inside_is a w c e f g = rw k.summed (inside_by-inside m lines a w c e f g k.good.most k.good.domains k.runs)
