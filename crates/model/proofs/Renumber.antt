-- A board renumbered: each line is a set of ranks, its lowest and highest tip are ranks, and as many lines of an interval allow a tip.
use Prim.Native.Nat.{ℕ, ◌+◌, ◌≤◌, ◌<◌}
use native.Mathlib.Omega.{arith}
use mathlib.Core.Path.{◌≡◌, ap₂, ◌∙◌}
use mathlib.Core.Logic.{◌↔◌}
use mathlib.Core.Bool.{Bool, ◌&&◌}
use mathlib.Core.List.{List}
use lib.Dec.{T, ltb, ltb→lt}
use borrow.Author.Tests.{lt-ltb}
use Rattle.model.specs.Count.{first_fail, All}
use Rattle.model.specs.Plan.{has, Domain}
use Rattle.model.specs.Interval.{low, high, named, is_run_of, is_run, lies, inside}
use Rattle.model.specs.Renumber.{rank, tip_at, ranks, renumbered, width, Fits}
use Rattle.model.proofs.Tests.{same_test, and_left, and_right}
use Rattle.model.proofs.Lists.{all_map, all_both, all-mapped, count_map, count_cong, fail_map, fail_cong}
use Rattle.model.proofs.Sets.{has-below, has_some, set_of_lt, has-set_of, some_tip}
use Rattle.model.proofs.Run.{named_own, low_le, le_high, low-tip, high-tip, high-below, run_iff, run_of_iff}
use Rattle.model.proofs.Interval.{span, in_span}
use Rattle.model.proofs.Rank.{rank_mono, rank_le, rank_lt, lt_rank, le_rank, tip-at, tip-rank, width_end}

module _ (ok : ℕ → Bool) (m : ℕ) where
  -- the tip of rank j is in the set renumbered exactly when it is in the set
  pub has-ranks : (s t : ℕ) → t < m → T (ok t) → has (ranks ok m s) (rank ok t) ≡ has s t
  unfolding ranks
  has-ranks s t l o =
      rw (has-set_of (λ j. has s (tip_at ok m j)) (rank ok m) (rank ok t), lt-ltb (rank ok t) (rank ok m) (rank_lt ok t m o l), tip-rank ok m t l o)

  -- a tip of the set renumbered is the rank of a tip of the set
  pub ranks-tip : (s j : ℕ) → T (has (ranks ok m s) j) → (j < rank ok m) × T (has s (tip_at ok m j))
  unfolding ranks
  ranks-tip s j h =
      let t = rw (has-set_of (λ i. has s (tip_at ok m i)) (rank ok m) j) at h in
      (ltb→lt j (rank ok m) (and_left (ltb j (rank ok m)) _ t), and_right (ltb j (rank ok m)) _ t)

module _ {ok : ℕ → Bool} {m s : ℕ} (narrow : m ≤ 64) (f : Fits ok m s) where
  pub ranks_domain : Domain (rank ok m) (ranks ok m s)
  unfolding ranks
  ranks_domain =
      let (t, h, l) = some_tip f.domain in
      record { some = has_some (ranks ok m s) (rank ok t) (rw (has-ranks ok m s t l (f.own t h)) h); below = set_of_lt _ (rank ok m) }

  narrower : rank ok m ≤ 64
  narrower = omega (arith, rank_le ok m)

  -- the set renumbered has the rank of each tip of the set, and for each of its tips the set has the tip of that rank
  ranked : (t : ℕ) → T (has s t) → T (has (ranks ok m s) (rank ok t))
  ranked t h = rw (has-ranks ok m s t (has-below m s t f.domain.below h) (f.own t h)) h

  unranked : (j : ℕ) → T (has (ranks ok m s) j) → (t : ℕ) × T (has s t) × (rank ok t ≡ j)
  unranked j h =
      let (l, g) = ranks-tip ok m s j h in
      (tip_at ok m j, g, (tip-at ok m j l).2)

  -- the lowest and the highest tip renumbered
  pub low-ranks : low (ranks ok m s) ≡ rank ok (low s)
  low-ranks =
      let d = ranks_domain in
      let (t, h, e) = unranked (low (ranks ok m s)) (low-tip narrower d) in
      omega (arith, low_le (ranks ok m s) (rank ok (low s)) (ranked (low s) (low-tip narrow f.domain)), rank_mono ok (low s) t (low_le s t h))

  pub high-ranks : high (ranks ok m s) ≡ rank ok (high s)
  high-ranks =
      let d = ranks_domain in
      let (t, h, e) = unranked (high (ranks ok m s)) (high-tip narrower d).0 in
      omega (
        arith,
        le_high narrower d (rank ok (high s)) (ranked (high s) (high-tip narrow f.domain).0),
        rank_mono ok t (high s)
            (le_high narrow f.domain t h),
      )

  -- a line lies within an interval exactly when it does so renumbered
  pub lies-ranks : (a w : ℕ) → lies (rank ok a) (width ok a w) (ranks ok m s) ≡ lies a w s
  lies-ranks a w =
      same_test (lies (rank ok a) (width ok a w) (ranks ok m s)) (lies a w s)
      (λ t. let (p, q) = span (rank ok a) (width ok a w) (ranks ok m s) t in
      in_span a w s (le_rank ok a (low s) (f.own (low s) (low-tip narrow f.domain)) (omega (arith, low-ranks)))
      (lt_rank ok (high s) (a + w) (omega (arith, high-ranks, width_end ok a w))))
      (λ t. let (p, q) = span a w s t in
      in_span (rank ok a) (width ok a w) (ranks ok m s) (omega (arith, low-ranks, rank_mono ok a (low s) p))
      (omega (arith, high-ranks, width_end ok a w, rank_lt ok (high s) (a + w) (f.own (high s) (high-tip narrow f.domain).0) q)))

  -- a line is a run among the tips that are ok exactly when it is an unbroken run renumbered
  pub run-ranks : T (is_run_of ok s) ↔ T (is_run (ranks ok m s))
  run-ranks = (
    λ r. (run_iff narrower ranks_domain).1 (λ j l h.
        let (b, o, e) = tip-at ok m j (omega (arith, high-below narrower ranks_domain)) in
        let t = tip_at ok m j in
        let x = le_rank ok (low s) t o (omega (arith, low-ranks)) in
        let y = le_rank ok t (high s) (f.own (high s) (high-tip narrow f.domain).0) (omega (arith, high-ranks)) in
        rw e at (ranked t ((run_of_iff narrow f.domain ok).0 r t o x y))),
    λ r. (run_of_iff narrow f.domain ok).1 (λ c o l h.
        let b : c < m = omega (arith, high-below narrow f.domain) in
        rw (has-ranks ok m s c b o) at ((run_iff narrower ranks_domain).0 r (rank ok c)
        (omega (arith, low-ranks, rank_mono ok (low s) c l)) (omega (arith, high-ranks, rank_mono ok c (high s) h)))),
  )

module _ {ok : ℕ → Bool} {m : ℕ} {lines : List ℕ} (narrow : m ≤ 64) (fs : All (Fits ok m) lines) where
  -- as many lines of an interval allow a tip as do so renumbered
  pub inside-ranks : (a w c : ℕ) → c < m → T (ok c)
      → inside (renumbered ok m lines) (rank ok a) (width ok a w) (rank ok c) ≡ inside lines a w c
  unfolding inside renumbered
  inside-ranks a w c l o =
      count_map _ (ranks ok m) lines ∙ count_cong (all_map (λ s f. ap₂ ◌&&◌ (lies-ranks narrow f a w) (has-ranks ok m s c l o)) fs)

  pub renumbered_domains : All (Domain (rank ok m)) (renumbered ok m lines)
  unfolding renumbered
  renumbered_domains = all-mapped (ranks ok m) (all_map (λ s. ranks_domain narrow) fs)

  -- the first line that is no run among the tips that are ok is the first that is no unbroken run renumbered
  pub fail_ranks : first_fail is_run (renumbered ok m lines) ≡ first_fail (is_run_of ok) lines
  unfolding renumbered
  fail_ranks =
      let same = all_map (λ s f. same_test (is_run (ranks ok m s)) (is_run_of ok s) (run-ranks narrow f).1 (run-ranks narrow f).0) fs in
      fail_map is_run (ranks ok m) lines ∙ fail_cong same

  -- RUNS AMONG THE TIPS THAT ARE OK ARE UNBROKEN RUNS RENUMBERED
  pub renumbered_runs : All (λ s. T (is_run_of ok s)) lines → All (λ s. T (is_run s)) (renumbered ok m lines)
  unfolding renumbered
  renumbered_runs rs = all-mapped (ranks ok m) (all_map (λ s (f, r). (run-ranks narrow f).0 r) (all_both fs rs))

-- the tips of each line are named
pub named-fits : {m : ℕ} {lines : List ℕ} → All (Domain m) lines → All (Fits (named lines) m) lines
named-fits {m} {lines} ds = all_map (λ s (d, o). record { domain = d; own = o }) (all_both ds (named_own lines))
