-- On the board renumbered each tip is named, so any tip may be chosen, and its best plan gives that of the board.
use Prim.Native.Nat.{ℕ, zero, suc, ◌+◌, ◌-◌, ◌≤◌, ◌<◌}
use native.Mathlib.Omega.{arith}
use mathlib.Core.Path.{◌≡◌, refl, ap, sym, ◌∙◌}
use mathlib.Core.Bool.{Bool}
use mathlib.Core.List.{List, map}
use lib.Dec.{T, lt→ltb, ltb→lt}
use Rattle.model.specs.Count.{All, lowest_at}
use Rattle.model.specs.Plan.{occ, Domain}
use Rattle.model.specs.Choice.{Mounted, from}
use Rattle.model.specs.Interval.{any, named, is_run_of, most_of, C, worth, pick_of, plan_for, tip_by, best_tip, best_plan}
use Rattle.model.specs.Renumber.{rank, tip_at, ranks, renumbered, rank_on}
use Rattle.model.proofs.Lists.{all, map_cong, count_map, count_cong}
use Rattle.model.proofs.Choice.{choice_lt, choice-favour, choice_cong}
use Rattle.model.proofs.Most.{worth_ok}
use Rattle.model.proofs.Best.{C-any}
use Rattle.model.proofs.Rank.{tip-at}
use Rattle.model.proofs.Renumber.{has-ranks}
use Rattle.model.proofs.RenumberBoard.{best-ranks}

-- as many lines have the rank of a tip as have the tip
pub occ-ranks : (ok : ℕ → Bool) (m : ℕ) (lines : List ℕ) (c : ℕ) → c < m → T (ok c)
    → occ (renumbered ok m lines) (rank ok c) ≡ occ lines c
unfolding occ renumbered
occ-ranks ok m lines c l o = count_map _ (ranks ok m) lines ∙ count_cong (all (λ s. has-ranks ok m s c l o) lines)

-- each tip of the board renumbered is named
pub all_named : (m : ℕ) (lines : List ℕ) (j : ℕ) → j < rank (named lines) m → T (named (renumbered (named lines) m lines) j)
unfolding named
all_named m lines j l =
    let (b, o, e) = tip-at (named lines) m j l in
    let f = rw e at (occ-ranks (named lines) m lines (tip_at (named lines) m j) b o) in
    lt→ltb 0 (occ (renumbered (named lines) m lines) j) (omega (arith, ltb→lt 0 (occ lines (tip_at (named lines) m j)) o))

module _ (mounted : Mounted) (lines : List ℕ) where
  -- a pick of an interval of named tips is a pick of any
  pick_full : (a w : ℕ) → ((i : ℕ) → i < w → T (named lines (a + i)))
      → pick_of mounted (named lines) lines a w ≡ pick_of mounted any lines a w
  unfolding pick_of C
  pick_full a w h =
      choice_cong (from a mounted) _ _ w (λ i l.
      worth_ok (named lines) lines (C lines) a w i (h i l)
      ∙ omega (arith, C-any lines a i, C-any lines (a + i + 1) (w - (i + 1)))
      ∙ sym (worth_ok any lines (most_of any lines) a w i tt))

  pick_le : (ok : ℕ → Bool) (a w : ℕ) → pick_of mounted ok lines a w ≤ w
  unfolding pick_of lowest_at
  pick_le ok a zero = omega (arith, choice-favour (from a mounted) (worth ok (most_of ok lines) lines a 0) 0)
  pick_le ok a (suc n) = omega (arith, choice_lt (worth ok (most_of ok lines) lines a (suc n)) (from a mounted) (suc n) (omega arith))

  module _ (m : ℕ) (full : (c : ℕ) → c < m → T (named lines c)) where
    tip_full : (k a w s : ℕ) → (0 < w → a + w ≤ m)
        → tip_by (pick_of mounted any lines) k a w s ≡ tip_by (pick_of mounted (named lines) lines) k a w s
    unfolding tip_by
    tip_full zero a w s h = refl
    tip_full (suc k) a w s h =
        let i = pick_of mounted any lines a w in
        rw (
          pick_full a w (λ j l. full (a + j) (omega (arith, h (omega arith)))),
          tip_full k a i s (λ p. let q = pick_le any a w in omega (arith, h (omega arith))),
          tip_full k (a + i + 1) (w - (i + 1)) s (λ p. omega (arith, h (omega arith))),
        )

    -- where each tip is named, sets are on the tips that they have where any may be chosen
    pub plan_full : (sets : List ℕ) → plan_for mounted any m lines sets ≡ map (best_tip mounted m lines) sets
    unfolding best_tip
    plan_full sets = map_cong (all (λ s. tip_full m 0 m s (λ _. omega arith)) sets)

-- THE BEST PLAN is that of the board renumbered, each rank replaced by its tip
pub best-renumbered : {m : ℕ} {lines : List ℕ} → m ≤ 64 → All (Domain m) lines → All (λ s. T (is_run_of (named lines) s)) lines
    → (mounted : Mounted)
    → best_plan mounted m lines
    ≡ map (tip_at (named lines) m) (best_plan (rank_on (named lines) mounted) (rank (named lines) m) (renumbered (named lines) m lines))
unfolding best_plan
best-renumbered {m} {lines} narrow ds rs mounted =
    let N = named lines in
    let lines' = renumbered N m lines in
    best-ranks narrow ds rs mounted ∙ ap (map (tip_at N m)) (plan_full (rank_on N mounted) lines' (rank N m) (all_named m lines) lines')
