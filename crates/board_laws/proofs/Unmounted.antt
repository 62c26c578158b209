-- WITHOUT A MOUNTED TIP BOTH PLANS ARE AS BEFORE, for every quantity and with holes in the rack: what they were is written in specs/Unmounted.
use Prim.Native.Nat.{ℕ, zero, suc, ◌+◌, ◌*◌, ◌-◌, ◌/◌, ◌%◌, ◌≤◌, ◌<◌}
use native.Mathlib.Omega.{arith}
use native.Mathlib.Nat.{le_refl}
use mathlib.Core.Path.{◌≡◌, refl, sym, ap, subst, ◌∙◌}
use mathlib.Core.Logic.{⊎_elim}
use mathlib.Core.Bool.{Bool, not, cond, ◌&&◌}
use mathlib.Core.List.{List}
use lib.Dec.{T, T_not, not_T, ltb, leb, eqb, eqb→eq, leb→le, le→leb}
use lib.ListN.{length}
use Rattle.model.specs.Count.{All, count, lowest_at}
use Rattle.model.specs.Plan.{has, choose2, Domain}
use Rattle.model.specs.Choice.{bare, choice, from}
use Rattle.model.specs.Greedy.{quick_tip}
use Rattle.model.specs.Interval.{low, high, named, is_run_of, lies, Line, split, most_of, C, tip_by, worth, pick_of, best_tip, table}
use Rattle.model.specs.Before.{numbers, low_before, high_before, pairs_by}
use Rattle.model.proofs.Tests.{test, same_test, eqb_T, and_left, and_right, and_in}
use Rattle.model.proofs.Lists.{all, all_map, map_cong, count_none, count_pos, fail_cong}
use Rattle.model.proofs.ListOf.{length-list_of, list_of-at, list_of_cong}
use Rattle.model.proofs.Largest.{largest_cong, lowest-first}
use Rattle.model.proofs.Run.{low-high, low-tip, high-below, run_of_iff, named-lines}
use Rattle.model.proofs.Interval.{span, in_span, by_sides}
use Rattle.model.proofs.Most.{counted, most-counted, most_zero, worth_ok, pick_attains}
use Rattle.model.proofs.Before.{greatest_is, lowest_of_is, quick_tip_is, low-before, high-before, taken_inside}
use Rattle.placements.specs.Repeated.{repeated}
use Rattle.placements.specs.Good.{GoodLines}
use Rattle.placements.specs.Plans.{quick_plan_q, best_plan_q}
use Rattle.placements.proofs.Repeated.{all-repeated}
use Rattle.placements.proofs.Named.{named-repeated}
use Rattle.refusal.specs.Told.{Refusal}
use Rattle.refusal.specs.Refusal.{or_else, when, refuse_at, scan}
use Rattle.refusal.proofs.Laws.{or_same}
use Rattle.call_refusals.specs.Calls.{plan_refusal, best_refusal}
use Rattle.call_refusals.specs.Before.{quick_refusal_before}
use Rattle.call_refusals.proofs.Calls.{plan_none}
use Rattle.board_laws.specs.Unmounted.{lacks_named, is_named_run, best_refusal_unmounted}
use Rattle.board_laws.specs.Unmounted.{quick_unmounted, named_most, named_C, named_pick, named_tip, best_unmounted, named_table}

-- QUICK SHARING, for any lines
pub quick-unmounted : (m : ℕ) (qs sets : List ℕ) → quick_plan_q bare m qs sets ≡ quick_unmounted m qs sets
unfolding quick_plan_q quick_tip quick_unmounted
quick-unmounted m qs sets =
    let placements = repeated qs sets in
    map_cong (all (λ s. sym (quick_tip_is (length placements) m placements s)) sets)

-- ---- best sharing

-- a run of the named tips
run_unmounted : {m : ℕ} (lines : List ℕ) {s : ℕ} → m ≤ 64 → Domain m s → is_run_of (named lines) s ≡ is_named_run lines s
unfolding is_named_run lacks_named named
run_unmounted {m} lines {s} narrow d = same_test (is_run_of (named lines) s) (eqb (count lacks (numbers 64)) 0) to from
  where
    N : ℕ → Bool
    N = named lines

    between : ℕ → Bool
    between c = leb (low_before s) c && leb c (high_before s)

    lacks : ℕ → Bool
    lacks c = N c && (between c && not (has s c))

    to : T (is_run_of (named lines) s) → T (eqb (count lacks (numbers 64)) 0)
    to r = eqb_T (count lacks (numbers 64)) 0 (count_none lacks (all (λ c t.
        let u = and_right (N c) (between c && not (has s c)) t in
        let b = and_left (between c) (not (has s c)) u in
        let l = leb→le (low_before s) c (and_left (leb (low_before s) c) (leb c (high_before s)) b) in
        let h = leb→le c (high_before s) (and_right (leb (low_before s) c) (leb c (high_before s)) b) in
        T_not (has s c) (and_right (between c) (not (has s c)) u)
        ((run_of_iff narrow d N).0 r c (and_left (N c) (between c && not (has s c)) t)
        (omega (arith, l, low-before narrow d)) (omega (arith, h, high-before narrow d)))) (numbers 64)))

    from : T (eqb (count lacks (numbers 64)) 0) → T (is_run_of (named lines) s)
    from e = (run_of_iff narrow d N).1 (λ c o l h. ⊎_elim (λ x. x) (λ x.
        let b : c < 64 = omega (arith, high-below narrow d) in
        let inner = and_in (leb (low_before s) c) (leb c (high_before s))
        (le→leb (low_before s) c (omega (arith, low-before narrow d))) (le→leb c (high_before s) (omega (arith, high-before narrow d))) in
        let t = and_in (N c) (between c && not (has s c)) o (and_in (between c) (not (has s c)) inner x) in
        absurd (omega (
          arith,
          eqb→eq (count lacks (numbers 64)) 0 e,
          count_pos lacks 0 (numbers 64) c (omega (arith, length-list_of (λ k. k) 64))
              (subst (λ k. T (lacks k)) (sym (list_of-at (λ k. k) 64 c b)) t),
        )))
        (test (has s c)))

-- THE REFUSALS of best sharing, where the lines are good unless the state refuses
pub refusal_unmounted : (r : Refusal) {m : ℕ} {lines : List ℕ} → (r.number ≡ 0 → (m ≤ 64) × All (Domain m) lines) → (room places : ℕ)
    → best_refusal r m lines room places ≡ best_refusal_unmounted r m lines room places
unfolding best_refusal best_refusal_unmounted plan_refusal quick_refusal_before scan
refusal_unmounted r {m} {lines} good room places =
    or_same (plan_refusal r (length lines) room) (λ z.
    let (narrow, ds) = good ((plan_none r (length lines) room z).0) in
    ap (λ i. or_else (when (ltb places (m * m)) 5) (refuse_at 25 i (length lines)))
    (fail_cong (all_map (λ s d. run_unmounted lines narrow d) ds)))

module _ {m : ℕ} {lines : List ℕ} (narrow : m ≤ 64) (ds : All (Domain m) lines) where
  abbrev N : ℕ → Bool
  N = named lines

  abbrev D : ℕ → ℕ → ℕ
  D = most_of N lines

  named-most : (k a e : ℕ) → e - a ≤ k → named_most k lines a e ≡ D a (e - a)
  unfolding named_most named
  named-most zero a e h =
      let z : e - a ≡ 0 = omega arith in
      rw z (sym (most_zero N lines a))
  named-most (suc k) a e h =
      let w = e - a in
      greatest_is (λ i. cond (N (a + i)) (pairs_by (named_most k lines) lines a e (a + i)) 0) w
      ∙ largest_cong _ (counted N lines D a w) w (λ i l.
      let x : a + i - a ≡ i = omega arith in
      let y : e - (a + i + 1) ≡ w - (i + 1) = omega arith in
      let left = rw x at (named-most k a (a + i) (omega arith)) in
      let right = rw y at (named-most k (a + i + 1) e (omega arith)) in
      ap (λ n. cond (N (a + i)) n 0) (omega (arith, ap choose2 (taken_inside narrow ds a e w (a + i) (omega arith)), left, right)))
      ∙ sym (most-counted N lines a w)

  pub named-C : (a e : ℕ) → D a (e - a) ≡ named_C lines a e
  unfolding named_C
  named-C a e = sym (named-most (e - a) a e (le_refl _))

  pub named-table : table m lines ≡ named_table m lines
  unfolding table named_table C
  named-table = list_of_cong _ _ (m * m) (λ k _. named-C (k / m) (k % m + 1))

  -- the pairs of an interval split at one of its tips
  split_same : (a e i : ℕ) → i < e - a → pairs_by (named_C lines) lines a e (a + i) ≡ split D lines a (e - a) i
  split_same a e i l =
      let w = e - a in
      let x : a + i - a ≡ i = omega arith in
      let y : e - (a + i + 1) ≡ w - (i + 1) = omega arith in
      let left = rw x at (named-C a (a + i)) in
      let right = rw y at (named-C (a + i + 1) e) in
      omega (arith, ap choose2 (taken_inside narrow ds a e w (a + i) (omega arith)), left, right)

  -- where the pick is a named tip that attains the most, it is the lowest such
  pick_same : (a e : ℕ) →
      let i = pick_of bare N lines a (e - a) in
      i < e - a → T (N (a + i)) → split D lines a (e - a) i ≡ D a (e - a) → named_pick lines a e ≡ a + i
  unfolding named_pick pick_of choice from named
  pick_same a e l o q =
      let w = e - a in
      let f = worth N D lines a w in
      let i = lowest_at f w in
      let top : pairs_by (named_C lines) lines a e (a + i) ≡ named_C lines a e = split_same a e i l ∙ q ∙ named-C a e in
      ap (λ n. a + n) (lowest_of_is _ w i l
      (and_in (N (a + i)) (eqb (pairs_by (named_C lines) lines a e (a + i)) (named_C lines a e)) o (eqb_T _ _ top))
      (λ t h. not_T (N (a + t) && eqb (pairs_by (named_C lines) lines a e (a + t)) (named_C lines a e)) (λ y.
      let own = and_left (N (a + t)) (eqb (pairs_by (named_C lines) lines a e (a + t)) (named_C lines a e)) y in
      let tied = eqb→eq _ (named_C lines a e) (and_right (N (a + t)) (eqb (pairs_by (named_C lines) lines a e (a + t)) (named_C lines a e)) y) in
      omega (
        arith,
        tied,
        split_same a e t (omega arith),
        named-C a e,
        q,
        lowest-first f w t h,
        worth_ok N lines D a w t own,
        worth_ok N lines D a w i o,
      ))))

  module _ {s : ℕ} (line : Line N m s) where
    -- THE TIP of a line of an interval
    tip_same : (k a e : ℕ) → e - a ≤ k → e ≤ m → T (lies a (e - a) s) → named_tip k lines a e s ≡ tip_by (pick_of bare N lines) k a (e - a) s
    unfolding named_tip tip_by
    tip_same zero a e h b t = refl
    tip_same (suc k) a e h b t =
        ⊎_elim (λ (l, o, q). go l o q (tip_same k))
        (λ (f, z).
        let own = line.fits (low s) (low-tip narrow line.domain) in
        absurd (f (low s) (inner.0) (omega (arith, inner, low-high narrow line.domain)) own))
        (pick_attains N lines bare a (e - a))
      where
        inner : (a ≤ low s) × (high s < a + (e - a))
        inner = span a (e - a) s t

        i : ℕ
        i = pick_of bare N lines a (e - a)

        go : i < e - a → T (N (a + i)) → split D lines a (e - a) i ≡ D a (e - a)
            → ((a e : ℕ) → e - a ≤ k → e ≤ m → T (lies a (e - a) s) → named_tip k lines a e s ≡ tip_by (pick_of bare N lines) k a (e - a) s)
            → named_tip (suc k) lines a e s ≡ tip_by (pick_of bare N lines) (suc k) a (e - a) s
        go l o q ih =
            let w = e - a in
            let d = inner in
            let x : a + i - a ≡ i = omega arith in
            let y : e - (a + i + 1) ≡ w - (i + 1) = omega arith in
            rw (pick_same a e l o q, high-before narrow line.domain) (by_sides line (a + i) o (λ u v. u ≡ v) refl
            (λ p. rw x at (ih a (a + i) (omega arith) (omega arith) (rw x (in_span a i s (d.0) p))))
            (λ p. rw y at (ih (a + i + 1) e (omega arith) b (rw y (in_span (a + i + 1) (w - (i + 1)) s (omega arith) (omega arith))))))

-- BEST SHARING, for lines that are runs of the named tips
pub best-unmounted : {m : ℕ} {qs sets : List ℕ} → GoodLines m qs sets → All (λ s. T (is_run_of (named sets) s)) sets
    → best_plan_q bare m qs sets ≡ best_unmounted m qs sets
unfolding best_plan_q best_tip best_unmounted
best-unmounted {m} {qs} {sets} g rs =
    map_cong (all_map (λ s l. sym (own s l)) (named-lines g.most g.domains rs))
  where
    placements : List ℕ
    placements = repeated qs sets

    -- the placements name the tips that the lines name
    placed : (s : ℕ) → Line (named sets) m s → Line (named placements) m s
    placed s l =
        let same = named-repeated g.placed sets g.same in
        record {
          domain = l.domain;
          run = λ c o. l.run c (subst T (same c) o);
          fits = λ c h. subst T (sym (same c)) (l.fits c h);
        }

    own : (s : ℕ) → Line (named sets) m s → named_tip m placements 0 m s ≡ tip_by (pick_of bare (named placements) placements) m 0 m s
    own s l =
        let z : m - 0 ≡ m = omega arith in
        rw z at (tip_same g.most (all-repeated qs g.domains) (placed s l) m 0 m (omega arith) (le_refl m)
        (rw z (in_span 0 m s (omega arith) (omega (arith, high-below g.most (l.domain))))))
