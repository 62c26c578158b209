-- Exact sharing with quantities: the exact rule, the pairs of best sharing without a price, and the fewest tips at a high price.
use Prim.Native.Nat.{ℕ, ◌+◌, ◌*◌, ◌-◌, ◌≤◌, ◌<◌}
use native.Mathlib.Omega.{arith}
use native.Mathlib.Nat.{mul-le-mul_left, le_of_mul-le-mul_left}
use mathlib.Core.Path.{◌≡◌, ap, subst, sym, ◌∙◌}
use mathlib.Core.Logic.{⊎_elim}
use mathlib.Core.List.{List, map}
use lib.Dec.{T, eqb}
use lib.ListN.{length, get_or, length-map}
use Rattle.model.specs.Count.{All}
use Rattle.model.specs.Limits.{most_placements, most_pairs}
use Rattle.model.specs.Plan.{uses, Domain, Valid, pairs}
use Rattle.model.specs.Choice.{Mounted, bare}
use Rattle.model.specs.Interval.{named, is_run_of, C}
use Rattle.model.proofs.Tests.{le_or_lt}
use Rattle.model.specs.Greedy.{first}
use Rattle.model.specs.Renumber.{names}
use Rattle.model.proofs.Lists.{get_d_map}
use Rattle.model.proofs.Names.{has-names}
use Rattle.model.proofs.Sets.{set_same}
use Rattle.model.proofs.Valid.{valid_length}
use Rattle.placements.specs.Repeated.{total, repeated}
use Rattle.placements.proofs.Repeated.{repeated-map, all-repeated}
use Rattle.placements.proofs.Valid.{valid_repeated, valid_once}
use Rattle.placements.proofs.Named.{some_placement, named-repeated}
use Rattle.placements.specs.Plans.{quick_plan_q}
use Rattle.placements.proofs.Plans.{quick_half_placements, best_valid_lines, best-pairs-placements, best-placements}
use Rattle.placements.proofs.Bound.{pairs_bound}
use Rattle.subset_rules.specs.Subsets.{tips_used, lying, order, exact_tip, exact_plan, exact_plan_q}
use Rattle.subset_rules.specs.Exact.{most_price, capped, ExactShared, FewestTips}
use Rattle.subset_rules.specs.Chains.{pairs_by, used_by}
use Rattle.subset_rules.proofs.Drop.{rank_cong}
use Rattle.subset_rules.proofs.Exact.{exact_valid, exact, exact_pairs, exact_used}

-- the placements use the tips that the lines do
pub tips-repeated : (m : ℕ) {qs : List ℕ} → All (λ q. 1 ≤ q) qs → (plan : List ℕ) → length qs ≡ length plan
    → tips_used m (repeated qs plan) ≡ tips_used m plan
unfolding tips_used uses
tips-repeated m os plan e = rank_cong _ _ m (λ t _. some_placement (eqb t) os plan e)

-- the exact plan, repeated, is the exact plan of the placements
pub exact_repeated : (mounted : Mounted) (price m : ℕ) (qs sets : List ℕ)
    → repeated qs (exact_plan_q mounted price m qs sets) ≡ exact_plan mounted price m (repeated qs sets)
unfolding exact_plan_q exact_plan
exact_repeated mounted price m qs sets = repeated-map _ qs sets

pub length_exact : (mounted : Mounted) (price m : ℕ) (qs sets : List ℕ) → length (exact_plan_q mounted price m qs sets) ≡ length sets
unfolding exact_plan_q
length_exact mounted price m qs sets = length-map sets _

-- lines with equal sets are on equal tips
pub exact_equal : (mounted : Mounted) (price m : ℕ) (qs sets : List ℕ) (i j : ℕ) → i < length sets → j < length sets
    → get_or sets i 0 ≡ get_or sets j 0 → get_or (exact_plan_q mounted price m qs sets) i 0 ≡ get_or (exact_plan_q mounted price m qs sets) j 0
unfolding exact_plan_q
exact_equal mounted price m qs sets i j h g e =
    get_d_map _ 0 0 sets i h ∙ ap (exact_tip mounted price m (repeated qs sets)) e ∙ sym (get_d_map _ 0 0 sets j g)

-- the placements name the tips that the lines do
pub names-repeated : {qs : List ℕ} → All (λ q. 1 ≤ q) qs → (sets : List ℕ) → length qs ≡ length sets
    → names (repeated qs sets) ≡ names sets
names-repeated {qs} os sets e =
    set_same (names (repeated qs sets)) (names sets)
    (λ t. has-names (repeated qs sets) t ∙ named-repeated os sets e t ∙ sym (has-names sets t))

module _ {m : ℕ} {sets : List ℕ} (ds : All (Domain m) sets) {qs : List ℕ} (os : All (λ q. 1 ≤ q) qs) (e : length qs ≡ length sets) where
  -- THE EXACT RULE for placements, whatever is mounted
  pub exact_shared : (mounted : Mounted) (price : ℕ) → ExactShared price m qs sets (exact_plan_q mounted price m qs sets)
  exact_shared mounted price =
      let plan = exact_plan_q mounted price m qs sets in
      let size = length_exact mounted price m qs sets in
      let ours = exact_repeated mounted price m qs sets in
      record {
        valid = valid_once os sets plan e size (rw ours (exact_valid mounted price (all-repeated qs ds)));
        best = λ {other} v.
            let better = exact mounted price (all-repeated qs ds) (valid_repeated qs v) in
            omega (
              arith,
              subst (λ l. pairs (repeated qs other) + price * tips_used m l ≤ pairs l + price * tips_used m (repeated qs other)) (sym ours) better,
              ap (λ n. price * n) (tips-repeated m os plan (omega arith)),
              ap (λ n. price * n) (tips-repeated m os other (omega (arith, valid_length v))),
            );
      }

  -- no more than twice the pairs of quick sharing, whatever is mounted for either
  pub exact_half : (mounted on : Mounted) (price : ℕ)
      → pairs (repeated qs (exact_plan_q mounted price m qs sets)) ≤ 2 * pairs (repeated qs (quick_plan_q on m qs sets))
  exact_half mounted on price = quick_half_placements on ds qs (exact_shared mounted price).valid

  module _ (mounted : Mounted) (price : ℕ) where
    abbrev z : ℕ → ℕ
    z = lying m (repeated qs sets)

    -- the plan by the tips of the named set
    pub exact_by : exact_plan_q mounted price m qs sets ≡ map (first (order mounted price (lying m (repeated qs sets)) m m (names sets))) sets
    unfolding exact_plan_q exact_tip
    exact_by = ap (λ u. map (first (order mounted price z m m u)) sets) (names-repeated os sets e)

    -- its pairs and its tips, tip by tip
    pub exact_pairs-by : pairs (repeated qs (exact_plan_q mounted price m qs sets))
        ≡ pairs_by (lying m (repeated qs sets)) (order mounted price (lying m (repeated qs sets)) m m (names sets)) (names sets)
    exact_pairs-by =
        ap pairs (exact_repeated mounted price m qs sets)
        ∙ exact_pairs mounted price (all-repeated qs ds)
        ∙ ap (λ u. pairs_by z (order mounted price z m m u) u) (names-repeated os sets e)

    pub exact_used_by : tips_used m (exact_plan_q mounted price m qs sets)
        ≡ used_by (lying m (repeated qs sets)) (order mounted price (lying m (repeated qs sets)) m m (names sets)) (names sets)
    exact_used_by =
        sym (tips-repeated m os (exact_plan_q mounted price m qs sets) (omega (arith, length_exact mounted price m qs sets)))
        ∙ ap (tips_used m) (exact_repeated mounted price m qs sets)
        ∙ exact_used mounted price (all-repeated qs ds)
        ∙ ap (λ u. used_by z (order mounted price z m m u) u) (names-repeated os sets e)

  -- WITHOUT A PRICE: on a board of runs the pairs are those of best sharing
  pub exact_runs : (mounted : Mounted) → m ≤ 64 → All (λ s. T (is_run_of (named sets) s)) sets
      → pairs (repeated qs (exact_plan_q mounted 0 m qs sets)) ≡ C (repeated qs sets) 0 m
  exact_runs mounted narrow rs =
      let x = exact_shared mounted 0 in
      omega (
        arith,
        x.best (best_valid_lines bare ds os e narrow rs),
        best-placements bare ds os e narrow rs x.valid,
        best-pairs-placements bare ds os e narrow rs,
      )

-- without a price no valid plan has more pairs
pub exact_most : {m : ℕ} {qs sets plan other : List ℕ} → ExactShared 0 m qs sets plan → Valid sets other
    → pairs (repeated qs other) ≤ pairs (repeated qs plan)
exact_most x v = omega (arith, x.best v)

-- A HIGHER PRICE uses no more tips, and has no more pairs
pub price_trades : {low high m : ℕ} {qs sets plan plan' : List ℕ} → low < high → ExactShared low m qs sets plan → ExactShared high m qs sets plan'
    → (tips_used m plan' ≤ tips_used m plan) × (pairs (repeated qs plan') ≤ pairs (repeated qs plan))
price_trades {low} {high} {m} {qs} {sets} {plan} {plan'} l x y = (fewer, omega (arith, x.best y.valid, mul-le-mul_left low fewer))
  where
    more : ℕ
    more = high - low

    both : more * tips_used m plan' ≤ more * tips_used m plan
    both =
        let e : high ≡ low + (high - low) = omega arith in
        omega (arith, x.best y.valid, rw e at (y.best x.valid))

    fewer : tips_used m plan' ≤ tips_used m plan
    fewer = le_of_mul-le-mul_left both (omega arith)

-- a price above the pairs of any plan
module _ {price m : ℕ} {qs sets plan : List ℕ} (e : length qs ≡ length sets) (few : total qs ≤ most_placements) (high : most_pairs < price)
    (x : ExactShared price m qs sets plan) where
  all-pairs : {other : List ℕ} → Valid sets other → pairs (repeated qs other) < price
  all-pairs {other} v = omega (arith, pairs_bound qs other (omega (arith, valid_length v)) few)

  -- FEWEST TIPS FIRST
  pub fewest-first : FewestTips m qs sets plan
  fewest-first = record { fewest = less; most = λ v l. omega (arith, x.best v, mul-le-mul_left price l) }
    where
      less : {other : List ℕ} → Valid sets other → tips_used m plan ≤ tips_used m other
      less {other} v =
          ⊎_elim
          (λ l. l)
          (λ l. absurd (omega (arith, x.best v, mul-le-mul_left price l, all-pairs x.valid)))
          (le_or_lt (tips_used m plan) (tips_used m other))

  -- so a higher price gives nothing better
  pub dearer : (more : ℕ) → price ≤ more → ExactShared more m qs sets plan
  dearer more h = record {
    valid = x.valid;
    best = λ {other} v.
        ⊎_elim
        (λ l. omega (arith, fewest-first.most v l, mul-le-mul_left more (fewest-first.fewest v)))
        (λ l. omega (arith, all-pairs v, mul-le-mul_left more l))
        (le_or_lt (tips_used m other) (tips_used m plan));
  }

-- THE PROMISE at the price as given: the cap is above the pairs of any plan
pub exact-capped : {m : ℕ} {qs sets plan : List ℕ} → All (Domain m) sets → All (λ q. 1 ≤ q) qs → length qs ≡ length sets
    → total qs ≤ most_placements → (mounted : Mounted) (price : ℕ) → plan ≡ exact_plan_q mounted (capped price) m qs sets
    → ExactShared price m qs sets plan
exact-capped {m} {qs} {sets} {plan} ds os e few mounted price laid =
    let x : ExactShared (capped price) m qs sets plan =
    subst (ExactShared (capped price) m qs sets) (sym laid) (exact_shared ds os e mounted (capped price)) in
    ⊎_elim
    (λ l. let q : capped price ≡ price = omega arith in subst (λ n. ExactShared n m qs sets plan) q x)
    (λ l. dearer e few (omega arith) x price (omega arith))
    (le_or_lt price most_price)
