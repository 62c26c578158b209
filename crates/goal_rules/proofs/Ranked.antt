-- A board renumbered: the ranks of the goal's tips are the goal's tips of the board renumbered.
use Prim.Native.Nat.{ℕ, zero, suc, ◌+◌, ◌≤◌, ◌<◌}
use native.Mathlib.Omega.{arith}
use mathlib.Core.Path.{◌≡◌, refl, ap, ap₂, sym, ◌∙◌}
use mathlib.Core.Bool.{Bool, not, ◌&&◌}
use mathlib.Core.List.{List, ◌∷◌, ◌++◌, map}
use lib.Dec.{T, T_not, leb}
use lib.ListN.{length, get_or, take, drop, replicate}
use borrow.Author.Tests.{lt-ltb}
use Rattle.std.proofs.lemmas.List.{map-append, take-map, drop-map}
use Rattle.model.specs.Count.{All}
use Rattle.model.specs.Plan.{has, occ}
use Rattle.model.specs.Interval.{named, C}
use Rattle.model.specs.Renumber.{rank, tip_at, ranks, renumbered, width, Fits}
use Rattle.model.proofs.Tests.{same_test}
use Rattle.model.proofs.Lists.{all_map, count_none, get_d_map}
use Rattle.model.proofs.Sets.{has-set_of, set_same}
use Rattle.model.proofs.Best.{C_of, C-any}
use Rattle.model.proofs.Rank.{rank_lt, tip-at, width_end}
use Rattle.model.proofs.Renumber.{has-ranks, ranks-tip, named-fits}
use Rattle.model.proofs.RenumberBest.{most-ranks}
use Rattle.placements.specs.Repeated.{repeated}
use Rattle.placements.specs.Good.{GoodLines}
use Rattle.placements.proofs.Repeated.{all-repeated}
use Rattle.placements.proofs.Renumbered.{renumbered-repeated}
use Rattle.goal_rules.specs.Goal.{only, without, others, joined, reach, goal_tips}
use Rattle.model.proofs.Append.{all_append, all_replicate}
use Rattle.goal_rules.proofs.Without.{all_without}
use Rattle.goal_rules.proofs.Only.{has-only, only-has, only_domain}

module _ (ok : ℕ → Bool) (m : ℕ) where
  -- lines whose tips are ok have the pairs of the lines renumbered
  pairs-fits : m ≤ 64 → {lines : List ℕ} → All (Fits ok m) lines → C lines 0 m ≡ C (renumbered ok m lines) 0 (rank ok m)
  unfolding rank occ
  pairs-fits narrow {lines} fs =
      sym (C_of lines ok free 0 m)
      ∙ (rw whole at (most-ranks narrow fs 0 m (omega arith)))
      ∙ sym (C-any (renumbered ok m lines) 0 (rank ok m))
    where
      free : (c : ℕ) → T (not (ok c)) → occ lines c ≡ 0
      free c n = count_none (λ s. has s c) (all_map (λ s f h. T_not (ok c) n (f.own c h)) fs)

      whole : width ok 0 m ≡ rank ok m
      whole = let e : 0 + m ≡ m = omega arith in omega (arith, width_end ok 0 m, ap (rank ok) e)

  -- the set of one tip renumbered is that of its rank
  ranks-only : (t : ℕ) → t < m → T (ok t) → ranks ok m (only t) ≡ only (rank ok t)
  ranks-only t l o = set_same (ranks ok m (only t)) (only (rank ok t)) (λ j.
      same_test (has (ranks ok m (only t)) j) (has (only (rank ok t)) j)
      (λ h. let (b, g) = ranks-tip ok m (only t) j h in
      let e : rank ok t ≡ j = ap (rank ok) (sym (only-has t (tip_at ok m j) g)) ∙ (tip-at ok m j b).2 in
      rw (← e) (has-only (rank ok t)))
      (λ h. rw (only-has (rank ok t) j h, has-ranks ok m (only t) t l o) (has-only t)))

  map-replicate : (q x : ℕ) → map (ranks ok m) (replicate q x) ≡ replicate q (ranks ok m x)
  map-replicate zero x = refl
  map-replicate (suc q) x = ap (λ xs. ranks ok m x ∷ xs) (map-replicate q x)

  joined-ranks : (rest : List ℕ) (q t : ℕ) → t < m → T (ok t) → renumbered ok m (joined rest q t) ≡ joined (renumbered ok m rest) q (rank ok t)
  unfolding renumbered
  joined-ranks rest q t l o =
      map-append (ranks ok m) (replicate q (only t)) rest
      ∙ ap (λ xs. xs ++ map (ranks ok m) rest) (map-replicate q (only t) ∙ ap (replicate q) (ranks-only t l o))

  others-ranks : (qs sets : List ℕ) (i : ℕ) → renumbered ok m (others qs sets i) ≡ others qs (renumbered ok m sets) i
  unfolding renumbered
  others-ranks qs sets i =
      renumbered-repeated ok m (without i qs) (without i sets)
      ∙ ap (repeated (without i qs)) (map-append (ranks ok m) (take i sets) (drop (suc i) sets)
      ∙ ap₂ ◌++◌ (sym (take-map (ranks ok m) i sets)) (sym (drop-map (ranks ok m) (suc i) sets)))

module _ {m : ℕ} {qs sets : List ℕ} (good : GoodLines m qs sets) where
  abbrev N : ℕ → Bool
  N = named sets

  abbrev sets' : List ℕ
  sets' = renumbered (named sets) m sets

  module _ (i t : ℕ) (below : t < m) (own : T (named sets t)) where
    abbrev q : ℕ
    q = get_or qs i 0

    fits : All (Fits (named sets) m) (joined (others qs sets i) q t)
    fits = all_append
        (all_replicate q (only t) (record { domain = only_domain below; own = λ c h. rw (only-has t c h) own }))
        (all-repeated (without i qs) (all_without i (named-fits good.domains)))

    reach-ranks : reach m (others qs sets i) q t ≡ reach (rank (named sets) m) (others qs sets' i) q (rank (named sets) t)
    reach-ranks =
        pairs-fits N m good.most fits
        ∙ ap (λ xs. C xs 0 (rank N m)) (joined-ranks N m (others qs sets i) q t below own
        ∙ ap (λ rest. joined rest q (rank N t)) (others-ranks N m qs sets i))

    -- THE GOAL'S TIPS by their ranks
    pub tips-ranks : (K : ℕ) → i < length sets
        → has (goal_tips (rank (named sets) m) qs (renumbered (named sets) m sets) K i) (rank (named sets) t) ≡ has (goal_tips m qs sets K i) t
    unfolding goal_tips renumbered
    tips-ranks K l =
        let line : get_or sets' i 0 ≡ ranks N m (get_or sets i 0) = get_d_map (ranks N m) 0 0 sets i l in
        rw (
          has-set_of (λ u. has (get_or sets i 0) u && leb K (reach m (others qs sets i) q u)) m t,
          has-set_of (λ u. has (get_or sets' i 0) u && leb K (reach (rank N m) (others qs sets' i) q u)) (rank N m) (rank N t),
          lt-ltb t m below,
          lt-ltb (rank N t) (rank N m) (rank_lt N t m own below),
          line,
          has-ranks N m (get_or sets i 0) t below own,
          sym reach-ranks,
        ) refl
