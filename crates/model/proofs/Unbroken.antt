-- BOARDS KEEP THEIR PLANS: without a mounted tip the plan is the one that may choose any tip, as RULES 3.7 has it for unbroken runs.
use Prim.Native.Nat.{ℕ, zero, suc, ◌+◌, ◌-◌, ◌≤◌, ◌<◌, zero-le}
use native.Mathlib.Omega.{arith}
use native.Mathlib.Nat.{le_refl}
use mathlib.Core.Path.{◌≡◌, refl, ap, sym, ◌∙◌}
use mathlib.Core.Logic.{⊎_elim}
use mathlib.Core.Bool.{Bool, not}
use mathlib.Core.List.{List}
use lib.Dec.{T, T_not, not_T}
use borrow.Author.Tests.{le-ltb}
use Rattle.model.specs.Count.{All, lowest_at}
use Rattle.model.specs.Plan.{has, choose2, Domain}
use Rattle.model.specs.Choice.{bare, choice, from}
use Rattle.model.specs.Interval.{any, low, high, named, is_run_of, is_run, lies, inside, split}
use Rattle.model.specs.Interval.{C, worth, pick_of, plan_of, tip_by, best_tip, best_plan, Line, Idle}
use Rattle.model.specs.Renumber.{rank, width}
use Rattle.model.proofs.Tests.{le_or_lt, test, false_T, cond_case}
use Rattle.model.proofs.Lists.{all_map, all_both, map_cong}
use Rattle.model.proofs.Pairs.{choose2_square}
use Rattle.model.proofs.Largest.{largest_ge, lowest_lt, lowest_attains, lowest-first, lowest-only}
use Rattle.model.proofs.Run.{low_le, low-high, low-tip, high-below, run_of_run, named-lines}
use Rattle.model.proofs.Interval.{span, in_span, by_sides}
use Rattle.model.proofs.Most.{worth_ok, pick_attains}
use Rattle.model.proofs.AllTips.{inside-none, unnamed_none, most-left}
use Rattle.model.proofs.Best.{pick-any}
use Rattle.model.proofs.Rank.{rank_idle, width_end}
use Rattle.model.proofs.RenumberPlan.{tip-ranks}

module _ (lines : List ℕ) where
  abbrev N : ℕ → Bool
  N = named lines

  -- the lowest tip of all, less a, at which the split is largest
  abbrev pub old_pick : ℕ → ℕ → ℕ
  old_pick a w = lowest_at (split (C lines) lines a w) w

  pub old-pick : (a w : ℕ) → pick_of bare any lines a w ≡ old_pick a w
  unfolding choice from
  old-pick a w = pick-any lines bare a w

  -- if it is named it is the pick
  same_pick : (a w : ℕ) → 0 < w → T (N (a + old_pick a w)) → pick_of bare N lines a w ≡ old_pick a w
  unfolding pick_of choice from C worth
  same_pick a w p o =
      let f = split (C lines) lines a w in
      let g = worth N (C lines) lines a w in
      let i = lowest_at f w in
      let l : i < w = lowest_lt f w p in
      let e : g i ≡ suc (f i) = worth_ok N lines (C lines) a w i o in
      lowest-only g w i l
      (λ t h. omega (arith, e, less t, largest_ge f w t h, lowest_attains f w))
      (λ t h. omega (arith, e, less t, lowest-first f w t h))
    where
      less : (t : ℕ) → worth N (C lines) lines a w t ≤ suc (split (C lines) lines a w t)
      less t = cond_case (λ x. x ≤ suc (split (C lines) lines a w t)) (N (a + t)) (λ _. le_refl _) (λ _. zero-le)

  -- if it is not, no tip before it is
  idle_before : (a w : ℕ) → 0 < w → T (not (N (a + old_pick a w))) → Idle N a (old_pick a w + 1)
  unfolding C
  idle_before a w p n c x y o =
      ⊎_elim
      (λ q. let e : c ≡ a + i = omega arith in T_not (N (a + i)) n (rw e at o))
      (λ q. ⊎_elim (λ (l, o, e). lower (pick_of bare N lines a i) l e) (λ (f, z). f c x q o) (pick_attains N lines bare a i))
      (le_or_lt (a + i) c)
    where
      f : ℕ → ℕ
      f = split (C lines) lines a w

      i : ℕ
      i = lowest_at f w

      lower : (j : ℕ) → j < i → split (C lines) lines a i j ≡ C lines a i → ⊥
      lower j l e =
          let z : inside lines a w (a + i) ≡ 0 = inside-none lines a w (a + i) (unnamed_none lines (a + i) n) in
          omega (arith, lowest-first f w j l, most-left N lines a w i j (lowest_lt f w p) l e, ap choose2 z, choose2_square 0)

module _ {m : ℕ} {lines : List ℕ} (narrow : m ≤ 64) (ls : All (Line (named lines) m) lines) {s : ℕ} (l : Line (named lines) m s) where
  abbrev old : ℕ → ℕ → ℕ → ℕ → ℕ
  old = tip_by (pick_of bare any lines)

  abbrev new : ℕ → ℕ → ℕ → ℕ → ℕ
  new = tip_by (pick_of bare (named lines) lines)

  -- a line of an interval lies past its first tips if they are not named
  past : (a w i : ℕ) → T (lies a w s) → Idle (named lines) a (i + 1) → T (lies (a + i + 1) (w - (i + 1)) s)
  past a w i t f =
      let (x, y) = span a w s t in
      let p : a + i + 1 ≤ low s = ⊎_elim (λ q. q) (λ q. absurd (f (low s) x (omega arith) (l.fits (low s) (low-tip narrow l.domain))))
      (le_or_lt (a + i + 1) (low s)) in
      in_span (a + i + 1) (w - (i + 1)) s p (omega (arith, low-high narrow l.domain))

  -- the first tips of an interval do not count if they are not named
  skip : (j a w i : ℕ) → w ≤ j → i < w → a + w ≤ m → T (lies a w s) → Idle (named lines) a (i + 1)
      → new j a w s ≡ new j (a + i + 1) (w - (i + 1)) s
  skip j a w i h p b t f =
      let N = named lines in
      let x : a + (i + 1) ≡ a + i + 1 = omega arith in
      let y : a + i + 1 + (w - (i + 1)) ≡ a + w = omega arith in
      let e : rank N (a + i + 1) ≡ rank N a = rw x at (rank_idle N a (i + 1) f) in
      let d : width N (a + i + 1) (w - (i + 1)) ≡ width N a w = omega
      (arith, width_end N (a + i + 1) (w - (i + 1)), width_end N a w, ap (rank N) y) in
      tip-ranks narrow ls bare l j (width N a w) a w h (le_refl _) b t
      ∙ sym (rw (e, d) at (tip-ranks narrow ls bare l j (width N a w) (a + i + 1) (w - (i + 1)) (omega arith) (omega arith) (omega arith)
      (past a w i t f)))

  -- THE TIP of a line is the same if any tip may be chosen
  tip-any : (k j a w : ℕ) → w ≤ k → w ≤ j → a + w ≤ m → T (lies a w s) → old k a w s ≡ new j a w s
  unfolding tip_by
  tip-any zero j a w h g b t = absurd (omega (arith, span a w s t, low-high narrow l.domain))
  tip-any (suc k) j a w h g b t = ⊎_elim (λ o. go j g o (tip-any k)) (λ n. gone n (tip-any k)) (test (named lines (a + old_pick lines a w)))
    where
      i : ℕ
      i = old_pick lines a w

      e : (a ≤ low s) × (high s < a + w)
      e = span a w s t

      some : 0 < w
      some = omega (arith, e, low-high narrow l.domain)

      p : i < w
      p = lowest_lt (split (C lines) lines a w) w some

      Same : Type 0
      Same = (j a w : ℕ) → w ≤ k → w ≤ j → a + w ≤ m → T (lies a w s) → old k a w s ≡ new j a w s

      go : (j : ℕ) → w ≤ j → T (named lines (a + i)) → Same → old (suc k) a w s ≡ new j a w s
      go zero g o ih = absurd (omega (arith, some))
      go (suc j) g o ih =
          let q = p in
          let d = e in
          rw (old-pick lines a w, same_pick lines a w some o) (by_sides l (a + i) o (λ x y. x ≡ y) refl
          (λ x. ih j a i (omega arith) (omega arith) (omega arith) (in_span a i s d.0 x))
          (λ x. ih j (a + i + 1) (w - (i + 1)) (omega arith) (omega arith) (omega arith)
          (in_span (a + i + 1) (w - (i + 1)) s (omega arith) (omega arith))))

      gone : T (not (named lines (a + i))) → Same → old (suc k) a w s ≡ new j a w s
      gone n ih =
          let q = p in
          let f = idle_before lines a w some n in
          let x = past a w i t f in
          let y = span (a + i + 1) (w - (i + 1)) s x in
          let free : T (not (has s (a + i))) = not_T (has s (a + i)) (λ u. omega (arith, low_le s (a + i) u)) in
          rw (old-pick lines a w, false_T (has s (a + i)) free, le-ltb (high s) (a + i) (omega (arith, low-high narrow l.domain)))
          (ih j (a + i + 1) (w - (i + 1)) (omega arith) (omega arith) (omega arith) x ∙ sym (skip j a w i g q b t f))

module _ {m : ℕ} {lines : List ℕ} (narrow : m ≤ 64) where
  -- without a mounted tip the best plan is the one that may choose any tip
  pub plan_any : All (Line (named lines) m) lines → best_plan bare m lines ≡ plan_of bare any m lines
  unfolding best_plan best_tip
  plan_any ls =
      map_cong (all_map (λ s l. sym (tip-any narrow ls l m m 0 m (omega arith) (omega arith) (omega arith)
      (in_span 0 m s (omega arith) (omega (arith, high-below narrow l.domain))))) ls)

  module _ (ds : All (Domain m) lines) (rs : All (λ s. T (is_run s)) lines) where
    -- UNBROKEN RUNS are runs
    pub unbroken_runs : All (λ s. T (is_run_of (named lines) s)) lines
    unbroken_runs = all_map (λ s (d, r). run_of_run narrow d (named lines) r) (all_both ds rs)

    -- and keep their plan
    pub unbroken_plan : best_plan bare m lines ≡ plan_of bare any m lines
    unbroken_plan = plan_any (named-lines narrow ds unbroken_runs)
