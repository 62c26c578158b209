-- EVERY RULE OF TIP SHARING HIDES THE ORDER of the placements.
use Prim.Native.Nat.{ℕ, zero, suc, ◌+◌, ◌-◌, ◌*◌, ◌/◌, ◌%◌, ◌<◌}
use native.Mathlib.Omega.{arith}
use mathlib.Core.Path.{◌≡◌, refl, ap, ap₂, sym, ◌∙◌}
use mathlib.Core.Bool.{not, ◌&&◌}
use mathlib.Core.List.{List, [], ◌∷◌, map}
use lib.Dec.{ltb, leb, eqb}
use lib.ListN.{length}
use Rattle.model.specs.Count.{each, All, none, more}
use Rattle.model.specs.Plan.{has, occ, uses, pairs, choose2}
use Rattle.model.specs.Choice.{Mounted}
use Rattle.model.specs.CommonTip.{top, W, margin}
use Rattle.model.specs.Greedy.{busiest, rest, rounds, quick_tip, quick_plan}
use Rattle.model.specs.Interval.{named, is_run_of, lies, inside, C, best_tip, table}
use Rattle.model.proofs.Lists.{all, all_map, count_map, count_cong}
use Rattle.model.proofs.Largest.{largest_cong}
use Rattle.model.proofs.Sets.{set_of_cong}
use Rattle.model.proofs.ListOf.{list_of_cong}
use Rattle.model.proofs.Choice.{choice_cong}
use Rattle.model.proofs.Cong.{each_cong, tip_cong, run_cong, most_cong, pick_cong}
use Rattle.placements.specs.Keep.{V, scarce, kept_q}
use Rattle.placements.proofs.PairSum.{sum_cong, pairs-sum}
use Rattle.any_order_rules.specs.Order.{Hides, OrderHidden}
use Rattle.any_order_rules.proofs.Counts.{length_hides, each_hides, select-counts}

occ_hides : (t : ℕ) → Hides (λ lines. occ lines t)
unfolding occ
occ_hides t xs ys h = h (λ s. has s t)

-- ---- common tip and keep

top_hides : (m : ℕ) → Hides (top m)
unfolding top
top_hides m xs ys h = largest_cong (occ xs) (occ ys) m (λ t _. occ_hides t xs ys h)

W_hides : (m : ℕ) → Hides (W m)
unfolding W
W_hides m xs ys h = set_of_cong _ _ m (λ t _. ap₂ (λ n k. ltb 0 n && eqb n k) (occ_hides t xs ys h) (top_hides m xs ys h))

margin_hides : (m k : ℕ) → Hides (λ lines. margin m lines k)
unfolding margin
margin_hides m k xs ys h = rw (top_hides m xs ys h, length_hides xs ys h)

common_hides : (m k : ℕ) → Hides (λ lines. V m lines k)
unfolding V
common_hides m k xs ys h = set_of_cong _ _ m (λ t _. ap₂ (λ n o. ltb 0 o && leb n (o + k)) (length_hides xs ys h) (occ_hides t xs ys h))

kept_hides : (m k q s : ℕ) → Hides (λ lines. kept_q m lines k q s)
unfolding kept_q scarce
kept_hides m k q s xs ys h = rw (top_hides m xs ys h, length_hides xs ys h, common_hides m k xs ys h)

-- ---- quick sharing

-- a number above each element
above : (xs : List ℕ) → (n : ℕ) × All (λ x. x < n) xs
above [] = (0, none)
above (x ∷ xs) = let (n, ls) = above xs in (x + n + 1, more {x = x} (omega arith) (all_map (λ y l. omega arith) ls))

-- the pairs of a plan are settled by how often it uses each tip
pub pairs-by-uses : (p q : List ℕ) → ((t : ℕ) → uses p t ≡ uses q t) → pairs p ≡ pairs q
pairs-by-uses p q h =
    let (n, ls) = above p in
    let (k, ms) = above q in
    pairs-sum (n + k) (all_map (λ x l. omega arith) ls)
    ∙ sum_cong _ _ (n + k) (λ t _. ap choose2 (h t))
    ∙ sym (pairs-sum (n + k) (all_map (λ x l. omega arith) ms))

-- a plan by a rule for each set uses each tip as often
pub uses_mapped : (tip : List ℕ → ℕ → ℕ) → ((s : ℕ) → Hides (λ lines. tip lines s)) → (t : ℕ) → Hides (λ lines. uses (map (tip lines) lines) t)
unfolding uses
uses_mapped tip hides t xs ys h =
    count_map (eqb t) (tip xs) xs
    ∙ h (λ s. eqb t (tip xs s))
    ∙ count_cong (all (λ s. ap (eqb t) (hides s xs ys h)) ys)
    ∙ sym (count_map (eqb t) (tip ys) ys)

module _ (mounted : Mounted) (m : ℕ) where
  busiest_hides : Hides (λ lines. busiest mounted lines m)
  unfolding busiest
  busiest_hides xs ys h = choice_cong mounted (occ xs) (occ ys) m (λ t _. occ_hides t xs ys h)

  -- the rounds take the same tips
  rounds_hides : (k : ℕ) → Hides (rounds mounted k m)
  unfolding rounds
  rounds_hides zero xs ys h = refl
  rounds_hides (suc k) [] [] h = refl
  rounds_hides (suc k) [] (y ∷ ys) h = absurd (omega (arith, length_hides [] (y ∷ ys) h))
  rounds_hides (suc k) (x ∷ xs) [] h = absurd (omega (arith, length_hides (x ∷ xs) [] h))
  rounds_hides (suc k) (x ∷ xs) (y ∷ ys) h =
      let t = busiest mounted (y ∷ ys) m in
      let e : busiest mounted (x ∷ xs) m ≡ t = busiest_hides (x ∷ xs) (y ∷ ys) h in
      rw (e, rounds_hides k (rest (x ∷ xs) t) (rest (y ∷ ys) t) (select-counts (λ s. not (has s t)) (x ∷ xs) (y ∷ ys) h))

  quick_hides : (s : ℕ) → Hides (λ lines. quick_tip mounted m lines s)
  unfolding quick_tip
  quick_hides s xs ys h = rw (length_hides xs ys h, rounds_hides (length ys) xs ys h)

  -- as many placements are on each tip
  uses_hides : (t : ℕ) → Hides (λ lines. uses (quick_plan mounted m lines) t)
  unfolding quick_plan
  uses_hides = uses_mapped (quick_tip mounted m) quick_hides

  quick_pairs_hides : Hides (λ lines. pairs (quick_plan mounted m lines))
  quick_pairs_hides xs ys h = pairs-by-uses (quick_plan mounted m xs) (quick_plan mounted m ys) (λ t. uses_hides t xs ys h)

-- ---- best sharing

pub named_hides : (t : ℕ) → Hides (λ lines. named lines t)
unfolding named
named_hides t xs ys h = ap (ltb 0) (occ_hides t xs ys h)

inside_hides : (a w c : ℕ) → Hides (λ lines. inside lines a w c)
unfolding inside
inside_hides a w c xs ys h = h (λ s. lies a w s && has s c)

C_hides : (a w : ℕ) → Hides (λ lines. C lines a w)
unfolding C
C_hides a w xs ys h =
    most_cong (named xs) (named ys) xs ys (λ t. named_hides t xs ys h) (λ a w c. inside_hides a w c xs ys h) w a w

table_hides : (m : ℕ) → Hides (table m)
unfolding table
table_hides m xs ys h = list_of_cong _ _ (m * m) (λ k _. C_hides (k / m) (k % m + 1 - k / m) xs ys h)

best_hides : (mounted : Mounted) (m s : ℕ) → Hides (λ lines. best_tip mounted m lines s)
unfolding best_tip
best_hides mounted m s xs ys h =
    let same = pick_cong (named xs) (named ys) xs ys (λ t. named_hides t xs ys h) (λ a w c. inside_hides a w c xs ys h) mounted in
    tip_cong _ _ same m 0 m s

-- a set is a run on one list exactly when it is on the other
runs_hides : Hides (λ lines. each (is_run_of (named lines)) lines)
runs_hides xs ys h =
    each_cong _ _ xs (run_cong (named xs) (named ys) (λ t. named_hides t xs ys h)) ∙ each_hides (is_run_of (named ys)) xs ys h

-- THE ORDER IS HIDDEN, whatever rack, k and mounted tip are
pub order_hidden : (m k : ℕ) (mounted : Mounted) → OrderHidden m k mounted
order_hidden m k mounted = record {
  lengths = length_hides;
  tops = top_hides m;
  tips = W_hides m;
  margins = margin_hides m k;
  kept = kept_hides m k;
  quick_tips = quick_hides mounted m;
  quick-pairs = quick_pairs_hides mounted m;
  best_tips = best_hides mounted m;
  best-pairs = C_hides 0 m;
  tables = table_hides m;
  runs = runs_hides;
}
