-- The plan by the counts of the lines, where their tips are below m.
use Prim.Native.Nat.{ℕ, ◌-◌, ◌^◌, ◌≤◌, ◌<◌}
use native.Mathlib.Omega.{arith}
use mathlib.Core.Path.{◌≡◌, refl, ap, sym, ◌∙◌}
use mathlib.Core.List.{List, [], ◌∷◌, map}
use lib.ListN.{length}
use Rattle.model.specs.Limits.{most_placements, most_tips}
use Rattle.model.specs.Count.{All, list_of}
use Rattle.model.specs.Plan.{pairs}
use Rattle.model.specs.Choice.{Mounted}
use Rattle.model.specs.Greedy.{first}
use Rattle.model.specs.Renumber.{names}
use Rattle.model.proofs.Lists.{all_map}
use Rattle.model.proofs.Names.{names_lt}
use Rattle.model.proofs.Rank.{rank_le}
use Rattle.placements.specs.Repeated.{repeated}
use Rattle.placements.proofs.Repeated.{length-repeated, all-repeated}
use Rattle.placements.proofs.Bound.{pairs_bound}
use Rattle.subset_rules.specs.Subsets.{tips_used, lying, order, exact_plan_q}
use Rattle.subset_rules.specs.Chains.{pairs_by, used_by}
use Rattle.subset_rules.proofs.Attain.{picked_chain}
use Rattle.subset_rules.proofs.Score.{order-picked}
use Rattle.subset_rules.proofs.Placements.{exact_by, exact_pairs-by, exact_used_by, length_exact}
use Rattle.subset_table.specs.Counting.{NarrowLines}
use Rattle.subset_table.specs.Scores.{at}
use Rattle.subset_table.proofs.Scores.{counts-at, lines_counted, order_cong}
use Rattle.exact.specs.Leaf.{Summable}
use Rattle.exact.proofs.Picks.{order_below}

module _ (y z : ℕ → ℕ) (m : ℕ) (same : (u : ℕ) → u < 2 ^ m → y u ≡ z u) where
  pairs_cong : (tips : List ℕ) (u : ℕ) → u < 2 ^ m → pairs_by y tips u ≡ pairs_by z tips u
  unfolding pairs_by
  pairs_cong [] u b = refl
  pairs_cong (t ∷ tips) u b =
      let w = u - 2 ^ t in
      let l : w < 2 ^ m = omega arith in
      rw (same u b, same w l, pairs_cong tips w l)

  used_cong : (tips : List ℕ) (u : ℕ) → u < 2 ^ m → used_by y tips u ≡ used_by z tips u
  unfolding used_by
  used_cong [] u b = refl
  used_cong (t ∷ tips) u b =
      let w = u - 2 ^ t in
      let l : w < 2 ^ m = omega arith in
      rw (same u b, same w l, used_cong tips w l)

module _ {m : ℕ} {qs sets counts : List ℕ} (g : NarrowLines m qs sets) (e : counts ≡ list_of (lying m (repeated qs sets)) (2 ^ m)) where
  abbrev z : ℕ → ℕ
  z = lying m (repeated qs sets)

  pub few_lines : length (repeated qs sets) ≤ most_placements
  few_lines = omega (arith, length-repeated qs sets g.same, g.few)

  same : (u : ℕ) → u < 2 ^ m → at counts u ≡ lying m (repeated qs sets) u
  same = counts-at g.narrow few_lines (all-repeated qs g.domains) e

  pub all_below : names sets < 2 ^ m
  all_below = names_lt m (all_map (λ s d. d.below) g.domains)

  -- tips picked by the counts are those of the lines
  module _ (mounted : Mounted) (price : ℕ) {tips : List ℕ} (t : tips ≡ order mounted price (at counts) m m (names sets)) where
    tips_are : tips ≡ order mounted price z m m (names sets)
    tips_are = t ∙ order_cong price (at counts) z m same mounted m (names sets) all_below

    pub tips_below : All (λ t. t < most_tips) tips
    tips_below = rw t (all_map (λ t l. omega (arith, l, g.narrow)) (order_below mounted price (at counts) m m (names sets) all_below))

    abbrev ours : List ℕ
    ours = exact_plan_q mounted price m qs sets

    pub pairs_are : pairs_by (at counts) tips (names sets) ≡ pairs (repeated qs (exact_plan_q mounted price m qs sets))
    pairs_are =
        pairs_cong (at counts) z m same tips (names sets) all_below
        ∙ ap (λ l. pairs_by z l (names sets)) tips_are
        ∙ sym (exact_pairs-by g.domains g.placed g.same mounted price)

    pub used_are : used_by (at counts) tips (names sets) ≡ tips_used m (exact_plan_q mounted price m qs sets)
    used_are =
        used_cong (at counts) z m same tips (names sets) all_below
        ∙ ap (λ l. used_by z l (names sets)) tips_are
        ∙ sym (exact_used_by g.domains g.placed g.same mounted price)

    pub tips_summable : Summable counts (names sets) tips
    tips_summable = record {
      m = m;
      counted = lines_counted g.narrow few_lines (all-repeated qs g.domains) e;
      inside = all_below;
      chain = rw t (picked_chain (order-picked price (at counts) m mounted m (names sets) all_below (rank_le _ m)));
      few = rw pairs_are (pairs_bound qs ours (omega (arith, g.same, length_exact mounted price m qs sets)) g.few);
    }

    pub plan_laid : {plan : List ℕ} → plan ≡ map (first tips) sets → plan ≡ exact_plan_q mounted price m qs sets
    plan_laid p = p ∙ ap (λ l. map (first l) sets) tips_are ∙ sym (exact_by g.domains g.placed g.same mounted price)
