-- Keep within k for lines of one placement, as in the base: pruning keeps exactly the consistent tips, Theorem 1 of source 000.
use Prim.Native.Nat.{ℕ, ◌+◌, ◌^◌, ◌≤◌, ◌<◌}
use native.Mathlib.Omega.{arith}
use mathlib.Core.Path.{◌≡◌, refl, subst}
use mathlib.Core.Logic.{◌↔◌, ◌≢◌, ⊎_elim}
use mathlib.Core.Bool.{Bool, true, false, not, cond}
use mathlib.Core.List.{List, map}
use lib.ListN.{length, get_or, set, length-set, length-map}
use lib.Seq.{get_or-set_same}
use lib.Dec.{T, T_not, not_T, eqb, eqb→eq, eqb_refl}
use lib.Bits.{bit_and}
use store.Seg.{eqb_same}
use Rattle.model.specs.Count.{All, lowest_at}
use Rattle.model.specs.Plan.{has, occ, uses, Domain}
use Rattle.model.specs.Choice.{bare}
use Rattle.model.specs.Greedy.{busiest}
use Rattle.model.specs.CommonTip.{top, W, covers, narrowed, most_used, off}
use Rattle.model.specs.Before.{prune_before, Supported, Exact}
use Rattle.model.proofs.Tests.{test, true_T, false_T, eqb_T, cond_case, one_le, one_T}
use Rattle.model.proofs.Lists.{all, all-mapped, all-at, all_get_d, get_d_map, map_cong, count_pos, count_set}
use Rattle.model.proofs.Largest.{largest_ge, lowest_lt, lowest_attains}
use Rattle.model.proofs.Sets.{has_some, covers_or, covers_iff, covers_and}
use Rattle.model.proofs.Occ.{occ_le, top_le, busiest_lt}
use Rattle.model.proofs.Valid.{valid_at, valid_length, valid_set, uses_le_at}
use Rattle.model.proofs.CommonTip.{W_iff, W_lt, gather, gather_valid, gather-uses, within_iff}
use Rattle.model.proofs.Before.{kept-before}

-- keep in today's words: at margin zero, n = top + k, a line that has all of W keeps only W
unfoldable kept : ℕ → List ℕ → ℕ → ℕ → ℕ
kept m lines k s = cond (eqb (length lines) (top m lines + k)) (narrowed m (W m lines) s) s

module _ {m : ℕ} {lines : List ℕ} (k : ℕ) (some : 0 < m) (ds : All (Domain m) lines) where
  module _ (i t : ℕ) (l : i < length lines) where
    abbrev s : ℕ
    s = get_or lines i 0

    -- with line i on t, at most k lines do not allow w
    abbrev Enough : ℕ → Type 0
    Enough w = length lines + cond (has s w) 1 0 ≤ occ lines w + cond (eqb w t) 1 0 + k

    -- t is consistent if it is in the set of line i, and enough lines allow some w
    supported : (w : ℕ) → w < m → T (has s t) → Enough w → Supported m lines k i t
    unfolding most_used uses
    supported w u own b =
        let g = gather m w lines in
        let v = gather_valid ds w in
        let e : length g ≡ length lines = valid_length v in
        let near : off m (set g i t) ≤ k = omega (
          arith,
          length-set g i t,
          count_set (eqb w) 0 t g i (omega arith),
          gather-uses ds w,
          one_le (eqb w (get_or g i 0)) (has s w) (λ y. rw (eqb→eq w (get_or g i 0) y) (valid_at v i l)),
          largest_ge (uses (set g i t)) m w u,
        ) in
        (set g i t, valid_set v i t own, near, get_or-set_same g i t 0 (omega arith))

    -- and only if
    consistent : Supported m lines k i t → T (has s t) × (w : ℕ) × (w < m) × Enough w
    unfolding most_used
    consistent (plan, v, h, e) =
        let w = lowest_at (uses plan) m in (
          rw e at (valid_at v i l),
          w,
          lowest_lt (uses plan) m some,
          omega (arith, valid_length v, lowest_attains (uses plan) m, rw e at (uses_le_at v i w l)),
        )

    -- THEOREM 1 for line i and tip t
    exact_at : length lines ≤ top m lines + k → T (has (kept m lines k s) t) ↔ Supported m lines k i t
    unfolding kept narrowed occ
    exact_at b = ⊎_elim (λ z. ⊎_elim (whole z) (lacks z) (covers_or m s (W m lines) (W_lt m lines))) above (test at_zero)
      where
        at_zero : Bool
        at_zero = eqb (length lines) (top m lines + k)

        exactly : T at_zero → length lines ≡ top m lines + k
        exactly = eqb→eq (length lines) (top m lines + k)

        sub : T (covers m s (W m lines)) → (u : ℕ) → T (has (W m lines) u) → T (has s u)
        sub = (covers_iff m s (W m lines) (W_lt m lines)).0

        Goal : Type 0
        Goal = T (has (kept m lines k s) t) ↔ Supported m lines k i t

        -- a set that stays is right where enough lines apart from line i allow some tip w
        stays : (w : ℕ) → w < m → length lines + cond (has s w) 1 0 ≤ occ lines w + k → kept m lines k s ≡ s → Goal
        stays w u h e = rw e (λ y. supported w u y (omega arith), λ p. (consistent p).0)

        -- the margin is above zero
        above : T (not at_zero) → Goal
        above z =
            let w = busiest bare lines m in
            let ne : length lines ≢ top m lines + k = λ e. T_not at_zero z (eqb_T (length lines) (top m lines + k) e) in
            stays w (busiest_lt bare m lines some) (omega (arith, top_le bare m lines, one_le (has s w) true (λ _. tt))) (rw (false_T at_zero z))

        -- at zero, the line lacks a tip u of W
        lacks : T at_zero → (u : ℕ) × T (has (W m lines) u) × T (not (has s u)) → Goal
        lacks z (u, a, n) =
            let (below, pos, full) = (W_iff m lines u).0 a in
            let not-all = not_T (covers m s (W m lines)) (λ c. T_not (has s u) n (sub c u a)) in
            let lacking = one_le (has s u) false (T_not (has s u) n) in
            stays u below (omega (arith, exactly z)) (rw (true_T at_zero z, false_T (covers m s (W m lines)) not-all))

        -- at zero, the line has all of W: the tip u that a plan with line i on t uses most is in W, and so line i is on u
        in_W : T at_zero → T (covers m s (W m lines)) → Supported m lines k i t → T (has (W m lines) t)
        in_W z c q =
            let (own, u, below, h) = consistent q in
            let here = one_le (eqb u t) (has s u) (λ y. rw (eqb→eq u t y) own) in
            let full : occ lines u ≡ top m lines = omega (arith, exactly z, occ_le ds u) in
            let pos : 0 < occ lines u = omega (arith, occ_le ds t, count_pos (λ x. has x t) 0 lines i l own) in
            let w = (W_iff m lines u).1 (below, pos, full) in
            rw (← (eqb→eq u t (one_T (eqb u t) (omega (arith, exactly z, one_le true (has s u) (λ _. sub c u w)))))) w

        whole : T at_zero → bit_and s (W m lines) ≡ W m lines → Goal
        whole z e =
            let c : T (covers m s (W m lines)) = rw (covers_and m s (W m lines) (W_lt m lines), e) (eqb_refl (W m lines)) in
            rw (true_T at_zero z, true_T (covers m s (W m lines)) c) (
              λ h.
                  let (below, pos, full) = (W_iff m lines t).0 h in
                  supported t below (sub c t h) (rw (eqb_same t) (omega (arith, exactly z, one_le (has s t) true (λ _. tt)))),
              in_W z c,
            )

  module _ (b : length lines ≤ top m lines + k) where
    -- a kept set holds a tip of some plan within k, so it is not empty
    kept_domain : (i : ℕ) → i < length lines → Domain m (kept m lines k (get_or lines i 0))
    unfolding kept narrowed
    kept_domain i l =
        let (plan, v, h) = (within_iff some ds k).1 b in
        let t = get_or plan i 0 in
        let s = get_or lines i 0 in
        let w = W m lines in
        record {
          some = has_some (kept m lines k s) t ((exact_at i t l b).1 (plan, v, h, refl));
          below =
              let own : s < 2 ^ m = (all-at 0 ds i l).below in
              let small : narrowed m w s < 2 ^ m = cond_case (λ x. x < 2 ^ m) (covers m s w) (λ _. W_lt m lines) (λ _. own) in
              cond_case (λ x. x < 2 ^ m) (eqb (length lines) (top m lines + k)) (λ _. small) (λ _. own);
        }

    exact_mapped : Exact m lines k (map (kept m lines k) lines)
    exact_mapped = record {
      same_length = length-map lines f;
      domains = all-mapped f (all_get_d 0 lines kept_domain);
      own = λ i t l h. (consistent i t l ((exact_at i t l b).0 (rw (at i l) at h))).0;
      exact = λ i t l. rw (at i l) (exact_at i t l b);
    }
      where
        f : ℕ → ℕ
        f = kept m lines k

        at : (i : ℕ) → i < length lines → get_or (map f lines) i 0 ≡ f (get_or lines i 0)
        at = get_d_map f 0 0 lines

    -- EXACTNESS: the pruned sets hold the consistent tips and no other
    pub prune_exact : Exact m lines k (prune_before m lines k)
    unfolding prune_before kept
    prune_exact = subst (Exact m lines k) (map_cong (all (kept-before m lines k) lines)) exact_mapped
