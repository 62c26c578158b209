-- The table of the board, from the numbers of the board renumbered.
use Prim.Native.Nat.{ℕ, ◌^◌, ◌≤◌, ◌<◌}
use native.Mathlib.Omega.{arith}
use mathlib.Core.Path.{◌≡◌, ap, ap₂, sym, ◌∙◌, fun_ext}
use mathlib.Core.Logic.{⊎_elim}
use mathlib.Core.Bool.{Bool, ◌&&◌}
use mathlib.Core.List.{List, ◌++◌}
use lib.Dec.{ltb}
use lib.ListN.{length}
use borrow.Author.Tests.{lt-ltb, le-ltb}
use Rattle.model.specs.Count.{count, All}
use Rattle.model.specs.Plan.{has, occ, Domain}
use Rattle.model.specs.Interval.{named}
use Rattle.model.specs.Renumber.{rank, tip_at, ranks, renumbered}
use Rattle.model.proofs.Tests.{le_or_lt, true_T, false_not, and_left, and_right}
use Rattle.model.proofs.ListOf.{list_of_cong}
use Rattle.model.proofs.Rank.{tip-at}
use Rattle.model.proofs.Renumber.{named-fits}
use Rattle.model.proofs.Sets.{has-below, has-set_of, set_same, set_of_lt}
use Rattle.placements.specs.Repeated.{repeated}
use Rattle.placements.proofs.Named.{named-repeated}
use Rattle.placements.proofs.Renumbered.{renumbered-repeated}
use Rattle.placements.proofs.Repeated.{all-repeated}
use Rattle.subset_rules.specs.Subsets.{lying, score}
use Rattle.subset_rules.specs.Table.{tips_at, exact_table, rank_table}
use Rattle.subset_rules.proofs.Exact.{lying_hides}
use Rattle.subset_rules.proofs.Renumbered.{Owned, lying-ranks, score-ranks}

module _ (ok : ℕ → Bool) (m u : ℕ) where
  has-tips_at : (t : ℕ) → has (tips_at ok m u) t ≡ (ltb t m && (ok t && has u (rank ok t)))
  unfolding tips_at
  has-tips_at t = has-set_of (λ v. ok v && has u (rank ok v)) m t

  tips_at_lt : tips_at ok m u < 2 ^ m
  unfolding tips_at
  tips_at_lt = set_of_lt (λ v. ok v && has u (rank ok v)) m

  -- the set at a place has tips of the rack that are ok
  owned_at : Owned ok m (tips_at ok m u)
  owned_at = record {
    below = tips_at_lt;
    own = λ t h.
        and_left (ok t) (has u (rank ok t)) (and_right (ltb t m) (ok t && has u (rank ok t)) (rw (has-tips_at t) at h));
  }

  -- their ranks are the place
  ranks_at : u < 2 ^ rank ok m → ranks ok m (tips_at ok m u) ≡ u
  unfolding ranks
  ranks_at b = set_same _ _ (λ j.
      has-set_of (λ i. has (tips_at ok m u) (tip_at ok m i)) (rank ok m) j ∙ ⊎_elim (past j) (inside j) (le_or_lt (rank ok m) j))
    where
      past : (j : ℕ) → rank ok m ≤ j → (ltb j (rank ok m) && has (tips_at ok m u) (tip_at ok m j)) ≡ has u j
      past j p = rw (le-ltb j (rank ok m) p, false_not (has u j) (λ h. omega (arith, has-below (rank ok m) u j b h)))

      inside : (j : ℕ) → j < rank ok m → (ltb j (rank ok m) && has (tips_at ok m u) (tip_at ok m j)) ≡ has u j
      inside j p =
          let (l, o, q) = tip-at ok m j p in
          rw (lt-ltb j (rank ok m) p, has-tips_at (tip_at ok m j), lt-ltb (tip_at ok m j) m l, true_T (ok (tip_at ok m j)) o, q)

-- THE TABLE of the lines has the numbers of the lines renumbered
pub table-ranks : (price : ℕ) {m : ℕ} {lines : List ℕ} → m ≤ 64 → All (Domain m) lines
    → rank_table price (rank (named lines) m) (renumbered (named lines) m lines) ≡ exact_table price m lines
unfolding exact_table
table-ranks price {m} {lines} narrow ds = ap₂ (λ x y. x ++ y) (list_of_cong _ _ (2 ^ r) counts) (list_of_cong _ _ (2 ^ r) scores)
  where
    N : ℕ → Bool
    N = named lines

    r : ℕ
    r = rank (named lines) m

    counts : (u : ℕ) → u < 2 ^ r → lying r (renumbered N m lines) u ≡ lying m lines (tips_at N m u)
    counts u b =
        ap (lying r (renumbered N m lines)) (sym (ranks_at N m u b)) ∙ lying-ranks N narrow (named-fits ds) (owned_at N m u)

    scores : (u : ℕ) → u < 2 ^ r
        → score price (lying r (renumbered N m lines)) r u ≡ score price (lying m lines) m (tips_at N m u)
    scores u b =
        ap (score price (lying r (renumbered N m lines)) r) (sym (ranks_at N m u b))
        ∙ score-ranks N narrow (named-fits ds) price (owned_at N m u)

-- and so for placements, where the sets are renumbered and the quantities stay
pub table-renumbered : (price : ℕ) {m : ℕ} {sets : List ℕ} → m ≤ 64 → All (Domain m) sets → {qs : List ℕ} → All (λ q. 1 ≤ q) qs
    → length qs ≡ length sets
    → rank_table price (rank (named sets) m) (repeated qs (renumbered (named sets) m sets)) ≡ exact_table price m (repeated qs sets)
table-renumbered price {m} {sets} narrow ds {qs} os e =
    let same : named (repeated qs sets) ≡ named sets = fun_ext (named-repeated os sets e) in
    rw (same, renumbered-repeated (named sets) m qs sets) at (table-ranks price narrow (all-repeated qs ds))

-- ---- the order of the lines is hidden

pub exact_table-hides : (price m : ℕ) (xs ys : List ℕ) → ((f : ℕ → Bool) → count f xs ≡ count f ys)
    → exact_table price m xs ≡ exact_table price m ys
unfolding exact_table named occ
exact_table-hides price m xs ys h =
    let same : named xs ≡ named ys = fun_ext (λ t. ap (ltb 0) (h (λ s. has s t))) in
    rw (same, lying_hides xs ys h m)
