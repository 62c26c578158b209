-- The sums count right at a named tip: there a run of the named tips is as the unbroken run with its ends, and the sums see the ends only.
use Rattle.std.proofs.Common.{◌≡◌, ℕ, ◌+◌, ◌/◌, ◌%◌, ◌<◌, ◌≤◌, Bool, ◌&&◌, T, ltb}
use Rattle.std.proofs.Common.{leb, List, map, ◌∙◌, lt_of_lt_of_le, le_antisymm, arith, le→leb, lt→ltb, leb→le, pow_mono}
use Rattle.model.specs.Limits.{most_tips}
use Rattle.model.specs.Count.{All}
use Rattle.model.specs.Plan.{has, Domain}
use Rattle.model.specs.CommonTip.{set_of}
use Rattle.model.specs.Interval.{low, high, is_run, Line, lies, inside}
use Rattle.model.proofs.Tests.{and_left, and_right, and_in, same_test}
use Rattle.model.proofs.Lists.{all_map, all-mapped, count_map, count_cong}
use Rattle.model.proofs.ListOf.{list_of_cong}
use Rattle.model.proofs.Sets.{has-set_of, has_some, set_of_lt}
use Rattle.model.proofs.Run.{low_le, low-tip, high-tip, high-below, le_high, low-high, run_iff}
use Rattle.spans.specs.Spans.{sums_width, sums_size, below, sums, inside_by}
use Rattle.spans.proofs.Below.{inside_by-inside}

-- t is from the lowest to the highest tip of s
abbrev between : ℕ → ℕ → Bool
between s t = leb (low s) t && leb t (high s)

-- the unbroken run with the ends of s
filled : ℕ → ℕ
filled s = set_of (between s) most_tips

-- what is known of a line in the largest rack
module _ {s : ℕ} (d : Domain most_tips s) where
  in_filled : (t : ℕ) → low s ≤ t → t ≤ high s → T (has (filled s) t)
  unfolding filled
  in_filled t p q = rw (has-set_of (between s) most_tips t) (and_in (ltb t most_tips) (between s t)
      (lt→ltb t most_tips (omega (arith, high-below (omega arith) d)))
      (and_in (leb (low s) t) (leb t (high s)) (le→leb (low s) t p) (le→leb t (high s) q)))

  filled_in : (t : ℕ) → T (has (filled s) t) → (low s ≤ t) × (t ≤ high s)
  unfolding filled
  filled_in t h =
      let b = and_right (ltb t most_tips) (between s t) (rw (has-set_of (between s) most_tips t) at h) in
      (leb→le (low s) t (and_left (leb (low s) t) (leb t (high s)) b), leb→le t (high s) (and_right (leb (low s) t) (leb t (high s)) b))

  filled_domain : Domain most_tips (filled s)
  unfolding filled
  filled_domain = record {
    some = has_some (filled s) (low s) (in_filled (low s) (omega arith) (low-high (omega arith) d));
    below = set_of_lt (between s) most_tips;
  }

  -- the same ends
  filled-low : low (filled s) ≡ low s
  filled-low = le_antisymm
      (low_le (filled s) (low s) (in_filled (low s) (omega arith) (low-high (omega arith) d)))
      (filled_in (low (filled s)) (low-tip (omega arith) filled_domain)).0

  filled-high : high (filled s) ≡ high s
  filled-high = le_antisymm
      (filled_in (high (filled s)) (high-tip (omega arith) filled_domain).0).1
      (le_high (omega arith) filled_domain (high s) (in_filled (high s) (low-high (omega arith) d) (omega arith)))

  filled-run : T (is_run (filled s))
  filled-run = (run_iff (omega arith) filled_domain).1 (λ c p q. in_filled c (omega (arith, filled-low)) (omega (arith, filled-high)))

module _ {ok : ℕ → Bool} {m : ℕ} (lines : List ℕ) (narrow : m ≤ most_tips) (ls : All (Line ok m) lines) where
  wide : All (λ s. Line ok m s × Domain most_tips s) lines
  wide = all_map (λ s l. (l, record { some = l.domain.some; below = lt_of_lt_of_le l.domain.below (pow_mono narrow) })) ls

  -- the same sums
  sums-filled : sums m (map filled lines) ≡ sums m lines
  unfolding sums below
  sums-filled = list_of_cong _ _ (sums_size m) (λ k _.
      count_map (λ s. ltb (low s) (k / sums_width m) && ltb (high s) (k % sums_width m)) filled lines
      ∙ count_cong (all_map (λ s (_, d). rw (filled-low d, filled-high d)) wide))

  -- the same count at a tip that is ok
  inside-filled : (a w c : ℕ) → T (ok c) → inside (map filled lines) a w c ≡ inside lines a w c
  unfolding inside lies
  inside-filled a w c o =
      count_map (λ s. lies a w s && has s c) filled lines
      ∙ count_cong (all_map (λ s (l, d). rw (
        filled-low d,
        filled-high d,
        same_test (has (filled s) c) (has s c)
            (λ h. let e = filled_in d c h in l.run c o e.0 e.1)
            (λ h. in_filled d c (low_le s c h) (le_high (omega arith) d c h)),
      )) wide)

  -- FOUR PLACES of the sums tell how many of the lines lying within the interval allow tip c, a tip that is ok
  pub inside_by_ok : (a w c : ℕ) → a + w ≤ m → a ≤ c → c < a + w → T (ok c) → inside_by m (sums m lines) a w c ≡ inside lines a w c
  inside_by_ok a w c e f g o = rw (← sums-filled)
      (inside_by-inside m (map filled lines) a w c e f g {n = most_tips} (omega arith)
      (all-mapped filled (all_map (λ s (_, d). filled_domain d) wide)) (all-mapped filled (all_map (λ s (_, d). filled-run d) wide))
      ∙ inside-filled a w c o)
