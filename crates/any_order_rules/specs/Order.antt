-- Rules that hide the order of the placements: what they give depends on how many placements pass each test, and on nothing else.
use Rattle.std.specs.Prelude.{ℕ, ◌≡◌, Bool, List, length}
use Rattle.model.specs.Count.{count, each}
use Rattle.model.specs.Plan.{pairs}
use Rattle.model.specs.Choice.{Mounted}
use Rattle.model.specs.CommonTip.{top, W, margin}
use Rattle.model.specs.Greedy.{quick_tip, quick_plan}
use Rattle.model.specs.Interval.{named, is_run_of, C, best_tip, table}
use Rattle.model.specs.Renumber.{rank}
use Rattle.placements.specs.Keep.{kept_q}
use Rattle.subset_rules.specs.Subsets.{tips_used, exact_tip, exact_plan}
use Rattle.subset_rules.specs.Table.{exact_table}

-- as many elements of one list pass a test as of the other, whatever the test is
abbrev pub SameCounts : List ℕ → List ℕ → Type 0
SameCounts xs ys = (f : ℕ → Bool) → count f xs ≡ count f ys

-- the rule gives the same for lists with the same counts
abbrev pub Hides : {A : Type 0} → (List ℕ → A) → Type 0
Hides rule = (xs ys : List ℕ) → SameCounts xs ys → rule xs ≡ rule ys

-- every rule of tip sharing hides the order; the tip of a line depends on its set and the counts, and what it keeps on its quantity too
pub record OrderHidden (m k : ℕ) (mounted : Mounted) : Type 0 where
  pub lengths : Hides {A = ℕ} length
  pub tops : Hides (top m)
  pub tips : Hides (W m)
  pub margins : Hides (λ lines. margin m lines k)
  pub kept : (q s : ℕ) → Hides (λ lines. kept_q m lines k q s)
  pub quick_tips : (s : ℕ) → Hides (λ lines. quick_tip mounted m lines s)
  pub quick-pairs : Hides (λ lines. pairs (quick_plan mounted m lines))
  pub best_tips : (s : ℕ) → Hides (λ lines. best_tip mounted m lines s)
  pub best-pairs : Hides (λ lines. C lines 0 m)
  pub tables : Hides (table m)
  pub runs : Hides (λ lines. each (is_run_of (named lines)) lines)

-- and so does exact sharing at a price for each tip
pub record ExactHidden (m : ℕ) (mounted : Mounted) (price : ℕ) : Type 0 where
  pub names : Hides (λ lines. rank (named lines) m)
  pub tips : (s : ℕ) → Hides (λ lines. exact_tip mounted price m lines s)
  pub plan_pairs : Hides (λ lines. pairs (exact_plan mounted price m lines))
  pub used : Hides (λ lines. tips_used m (exact_plan mounted price m lines))
  pub tables : Hides (exact_table price m)
