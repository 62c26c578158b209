-- THE EXACT RULE: at a price for each tip that is used, no valid plan of any board is better than the exact plan.
use Prim.Native.Nat.{ℕ, ◌+◌, ◌*◌, ◌^◌, ◌≤◌, ◌<◌}
use native.Mathlib.Omega.{arith}
use mathlib.Core.Path.{◌≡◌, ap, subst, sym, ◌∙◌, fun_ext}
use mathlib.Core.Bool.{Bool}
use mathlib.Core.List.{List, map}
use lib.Dec.{T, ltb}
use Rattle.model.specs.Count.{count, All}
use Rattle.model.specs.Plan.{has, occ, Domain, Valid, pairs}
use Rattle.model.specs.Choice.{Mounted}
use Rattle.model.specs.Greedy.{first}
use Rattle.model.specs.Interval.{named}
use Rattle.model.specs.Renumber.{names}
use Rattle.model.proofs.Lists.{all_map}
use Rattle.model.proofs.Names.{has-names, names_lt}
use Rattle.model.proofs.Rank.{rank_le}
use Rattle.model.proofs.Run.{named_own}
use Rattle.model.proofs.Sets.{set_same}
use Rattle.model.proofs.Valid.{valid_map}
use Rattle.subset_rules.specs.Subsets.{size, tips_used, lying, score, order, exact_tip, exact_plan}
use Rattle.subset_rules.specs.Chains.{pairs_by, used_by}
use Rattle.subset_rules.proofs.Lying.{held, held_all}
use Rattle.subset_rules.proofs.Dominate.{dominated}
use Rattle.subset_rules.proofs.Attain.{Laid, laid}
use Rattle.subset_rules.proofs.Score.{score_zero, score_dominates, order-picked}

-- a plan is at least as good as another at a price for each tip used
abbrev pub AtLeastAsGood : ℕ → ℕ → List ℕ → List ℕ → Type 0
AtLeastAsGood price m plan other = pairs other + price * tips_used m plan ≤ pairs plan + price * tips_used m other

-- each line lies within the set of the named tips
pub names_own : (lines : List ℕ) → All (λ s. (t : ℕ) → T (has s t) → T (has (names lines) t)) lines
names_own lines = all_map (λ s h t g. rw (has-names lines t) (h t g)) (named_own lines)

module _ (mounted : Mounted) (price : ℕ) {m : ℕ} {lines : List ℕ} (ds : All (Domain m) lines) where
  abbrev z : ℕ → ℕ
  z = lying m lines

  abbrev all-names : names lines < 2 ^ m
  all-names = names_lt m (all_map (λ s d. d.below) ds)

  abbrev tips : List ℕ
  tips = order mounted price z m m (names lines)

  whole : held m lines (names lines) ≡ lines
  whole = held_all ds (names lines) (names_own lines)

  laid-all : Laid price ds (score price z m) (score_zero price z m) tips (names lines)
  laid-all =
      laid price ds (score price z m) (score_zero price z m) all-names (order-picked price z m mounted m (names lines) all-names (rank_le _ m))

  -- each line is given a tip of its own
  pub exact_own : All (λ s. T (has s (exact_tip mounted price m lines s))) lines
  unfolding exact_tip
  exact_own = subst (All (λ s. T (has s (first tips s)))) whole laid-all.own

  -- the exact plan is valid
  pub exact_valid : Valid lines (exact_plan mounted price m lines)
  unfolding exact_plan
  exact_valid = valid_map _ exact_own

  -- it attains the score of the named tips
  pub exact_score : pairs (exact_plan mounted price m lines) + price * size m (names lines)
      ≡ score price (lying m lines) m (names lines) + price * tips_used m (exact_plan mounted price m lines)
  unfolding exact_plan exact_tip
  exact_score =
      subst (λ l. pairs (map (first tips) l) + price * size m (names lines)
      ≡ score price z m (names lines) + price * tips_used m (map (first tips) l))
      whole laid-all.sum

  -- its pairs and its tips, tip by tip
  pub exact_pairs : pairs (exact_plan mounted price m lines)
      ≡ pairs_by (lying m lines) (order mounted price (lying m lines) m m (names lines)) (names lines)
  unfolding exact_plan exact_tip
  exact_pairs = subst (λ l. pairs (map (first tips) l) ≡ pairs_by z tips (names lines)) whole laid-all.shared

  pub exact_used : tips_used m (exact_plan mounted price m lines)
      ≡ used_by (lying m lines) (order mounted price (lying m lines) m m (names lines)) (names lines)
  unfolding exact_plan exact_tip
  exact_used = subst (λ l. tips_used m (map (first tips) l) ≡ used_by z tips (names lines)) whole laid-all.used

  -- no valid plan has more
  pub score-bounds : {plan : List ℕ} → Valid lines plan
      → pairs plan + price * size m (names lines) ≤ score price (lying m lines) m (names lines) + price * tips_used m plan
  score-bounds {plan} v =
      dominated price ds (score price z m) (score_dominates price z m) (names lines) all-names (subst (λ l. Valid l plan) (sym whole) v)

  pub exact : {plan : List ℕ} → Valid lines plan → AtLeastAsGood price m (exact_plan mounted price m lines) plan
  exact v = omega (arith, exact_score, score-bounds v)

-- ---- the order of the lines is hidden

module _ (xs ys : List ℕ) (h : (f : ℕ → Bool) → count f xs ≡ count f ys) where
  pub lying_hides : (m : ℕ) → lying m xs ≡ lying m ys
  unfolding lying
  lying_hides m = fun_ext (λ u. h _)

  names_hides : names xs ≡ names ys
  unfolding named occ
  names_hides = set_same (names xs) (names ys) (λ t. has-names xs t ∙ ap (ltb 0) (h (λ x. has x t)) ∙ sym (has-names ys t))

  -- the tip of a line depends on its set and on how many lines pass each test, and so not on the order of the lines
  pub exact_hides : (mounted : Mounted) (price m s : ℕ) → exact_tip mounted price m xs s ≡ exact_tip mounted price m ys s
  unfolding exact_tip
  exact_hides mounted price m s = rw (lying_hides m, names_hides)
