-- Exact sharing with quantities on the board renumbered: the sets are renumbered, and the quantities stay.
use Prim.Native.Nat.{ℕ, ◌≤◌}
use native.Mathlib.Omega.{arith}
use mathlib.Core.Path.{◌≡◌, ap, sym, ◌∙◌, fun_ext}
use mathlib.Core.Bool.{Bool}
use mathlib.Core.List.{List, [], ◌∷◌, map}
use lib.Dec.{T}
use lib.ListN.{length}
use Rattle.model.specs.Count.{All, none, more}
use Rattle.model.specs.Plan.{has, Domain, Valid, line, pairs}
use Rattle.model.specs.Choice.{Mounted}
use Rattle.model.specs.Interval.{named}
use Rattle.model.specs.Renumber.{rank, tip_at, ranks, renumbered, rank_on}
use Rattle.model.proofs.Lists.{all_map, all_both, map_cong, map-map}
use Rattle.model.proofs.Sets.{has-below}
use Rattle.model.proofs.Rank.{tip-rank}
use Rattle.model.proofs.Run.{named_own}
use Rattle.model.proofs.RenumberBoard.{length-renumbered}
use Rattle.placements.specs.Repeated.{repeated}
use Rattle.placements.proofs.Repeated.{all-repeated}
use Rattle.placements.proofs.Named.{named-repeated}
use Rattle.placements.proofs.Renumbered.{renumbered-repeated}
use Rattle.subset_rules.specs.Subsets.{tips_used, exact_tip, exact_plan_q}
use Rattle.subset_rules.proofs.Renumbered.{tip-ranks, pairs-ranks, used_ranks}
use Rattle.subset_rules.proofs.Placements.{exact_repeated, length_exact, exact_shared, tips-repeated}

-- a plan by a rule that is valid has each line on a tip of its own
valid_own : (g : ℕ → ℕ) (lines : List ℕ) → Valid lines (map g lines) → All (λ s. T (has s (g s))) lines
valid_own g [] v = none
valid_own g (s ∷ lines) (line h v) = more h (valid_own g lines v)

module _ {m : ℕ} {sets : List ℕ} (narrow : m ≤ 64) (ds : All (Domain m) sets) {qs : List ℕ} (os : All (λ q. 1 ≤ q) qs)
    (e : length qs ≡ length sets) (mounted : Mounted) (price : ℕ) where
  abbrev N : ℕ → Bool
  N = named sets

  abbrev sets' : List ℕ
  sets' = renumbered (named sets) m sets

  abbrev placed : All (Domain m) (repeated qs sets)
  placed = all-repeated qs ds

  same-named : named (repeated qs sets) ≡ named sets
  same-named = fun_ext (named-repeated os sets e)

  abbrev plan' : List ℕ
  plan' = exact_plan_q (rank_on N mounted) price (rank N m) qs sets'

  abbrev tip : ℕ → ℕ
  tip = exact_tip mounted price m (repeated qs sets)

  tip_is : (s : ℕ) → exact_tip (rank_on N mounted) price (rank N m) (repeated qs sets') (ranks N m s) ≡ rank N (tip s)
  tip_is s = rw (same-named, renumbered-repeated N m qs sets) at (tip-ranks narrow placed mounted price s)

  own : All (λ s. T (has s (tip s))) sets
  unfolding exact_plan_q
  own = valid_own tip sets (exact_shared ds os e mounted price).valid

  -- THE PLAN: each line is on the tip whose rank it has on the board renumbered
  pub plan-renumbered : exact_plan_q mounted price m qs sets
      ≡ map (tip_at (named sets) m) (exact_plan_q (rank_on (named sets) mounted) price (rank (named sets) m) qs (renumbered (named sets) m sets))
  unfolding exact_plan_q renumbered
  plan-renumbered =
      map_cong (all_map (λ s (d, (o, h)).
      sym (ap (tip_at N m) (tip_is s) ∙ tip-rank N m (tip s) (has-below m s (tip s) d.below h) (o (tip s) h)))
      (all_both ds (all_both (named_own sets) own)))
      ∙ sym (map-map (λ s. tip_at N m (exact_tip (rank_on N mounted) price (rank N m) (repeated qs (map (ranks N m) sets)) s)) (ranks N m) sets)
      ∙ sym (map-map (tip_at N m) (exact_tip (rank_on N mounted) price (rank N m) (repeated qs (map (ranks N m) sets))) (map (ranks N m) sets))

  -- THE PAIRS, and how many tips are used
  pub pairs-renumbered : pairs (repeated qs
      (exact_plan_q (rank_on (named sets) mounted) price (rank (named sets) m) qs (renumbered (named sets) m sets)))
      ≡ pairs (repeated qs (exact_plan_q mounted price m qs sets))
  pairs-renumbered =
      ap pairs (exact_repeated (rank_on N mounted) price (rank N m) qs sets')
      ∙ (rw (same-named, renumbered-repeated N m qs sets) at (pairs-ranks narrow placed mounted price))
      ∙ ap pairs (sym (exact_repeated mounted price m qs sets))

  pub used_renumbered : tips_used (rank (named sets) m)
      (exact_plan_q (rank_on (named sets) mounted) price (rank (named sets) m) qs (renumbered (named sets) m sets))
      ≡ tips_used m (exact_plan_q mounted price m qs sets)
  used_renumbered =
      sym (tips-repeated (rank N m) os plan' (omega (
        arith,
        length_exact (rank_on N mounted) price (rank N m) qs sets',
        length-renumbered N m sets,
      )))
      ∙ ap (tips_used (rank N m)) (exact_repeated (rank_on N mounted) price (rank N m) qs sets')
      ∙ (rw (same-named, renumbered-repeated N m qs sets) at (used_ranks narrow placed mounted price))
      ∙ ap (tips_used m) (sym (exact_repeated mounted price m qs sets))
      ∙ tips-repeated m os (exact_plan_q mounted price m qs sets) (omega (arith, length_exact mounted price m qs sets))
