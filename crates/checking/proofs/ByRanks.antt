-- The claim and the bounds of a table by the table of the named tips, with the lines renumbered.
use Rattle.std.proofs.Common.{◌≡◌, ℕ, ◌+◌, ◌-◌, ◌<◌, ◌≤◌, Bool, true, false, ◌&&◌, eqb}
use Rattle.std.proofs.Common.{T, List, map, ap, sym, refl, arith}
use Rattle.model.specs.Count.{All}
use Rattle.model.specs.Plan.{has}
use Rattle.model.specs.Interval.{named, split, Dominates}
use Rattle.model.specs.Renumber.{names as names_of, rank, tip_at, renumbered, width, Fits}
use Rattle.model.proofs.Tests.{same_test, true_T}
use Rattle.model.proofs.Rank.{rank_ok, rank_mono, rank_lt, le_rank, tip-at, width_end}
use Rattle.model.proofs.Renumber.{inside-ranks}
use Rattle.model.proofs.RenumberBest.{place, back, behind}
use Rattle.model.proofs.RenumberFull.{all_named}
use Rattle.placements.specs.Repeated.{repeated}
use Rattle.placements.proofs.Repeated.{all-repeated}
use Rattle.placements.proofs.Renumbered.{renumbered-repeated}
use Rattle.goal_rules.specs.Check.{entry, bounds}
use Rattle.goal_rules.proofs.Check.{bounds_iff}
use Rattle.ranks.specs.Listed.{Ranks, run_by}
use Rattle.ranks.specs.Runs.{NamedRuns, FullRuns, RunsOf}
use Rattle.ranks.proofs.Runs.{fits, same_names, full_ranks, renumbered-by, size_is, full-named}
use Rattle.checking.specs.Checking.{table_ok}
use Rattle.checking.specs.Spread.{is_spread, Gathered}
use Rattle.checking.proofs.Spread.{entries}

module _ {m : ℕ} {qs sets : List ℕ} (n : NamedRuns m qs sets) where
  abbrev N : ℕ → Bool
  N = named sets

  abbrev r : ℕ
  r = rank (named sets) m

  abbrev sets' : List ℕ
  sets' = renumbered (named sets) m sets

  abbrev placed : List ℕ
  placed = repeated qs sets

  abbrev placed' : List ℕ
  placed' = repeated qs (renumbered (named sets) m sets)

  few-tips : m ≤ 64
  few-tips = n.good.most

  fit : All (Fits (named sets) m) (repeated qs sets)
  fit = all-repeated qs (fits n)

  module _ (tab own : List ℕ)
      (same : (a w : ℕ) → a + w ≤ m → entry m tab a w ≡ entry (rank (named sets) m) own (rank (named sets) a) (width (named sets) a w)) where
    -- each split at a named tip is the split at its rank
    split_same : (a w i : ℕ) → a + w ≤ m → i < w → T (N (a + i))
        → split (entry r own) placed' (rank N a) (width N a w) (width N a i) ≡ split (entry m tab) placed a w i
    split_same a w i b l o =
        let x = same a i (omega arith) in
        let y = same (a + i + 1) (w - (i + 1)) (omega arith) in
        rw (
          ← renumbered-repeated N m qs sets,
          width_end N a i,
          sym (rank_ok N (a + i) o),
          behind few-tips fit a w i l o,
          inside-ranks few-tips fit a w (a + i) (omega arith) o,
        ) (omega (arith, x, y))

    ranks_from : Dominates N m placed (entry m tab) → Dominates (named sets') r placed' (entry r own)
    ranks_from d a' w' i' b l o =
        let a = tip_at N m a' in
        let z = tip_at N m (a' + w' - 1) in
        let (a-below, a-own, a-rank) = tip-at N m a' (omega arith) in
        let (z-below, z-own, z-rank) = tip-at N m (a' + w' - 1) (omega arith) in
        let w = z + 1 - a in
        let from : a ≤ z = le_rank N a z z-own (omega (arith, a-rank, z-rank)) in
        let end : a + w ≡ z + 1 = omega arith in
        let wide : width N a w ≡ w' = omega (arith, width_end N a w, ap (rank N) end, rank_ok N z z-own, a-rank, z-rank) in
        let (i, h, own-tip, e) = back few-tips fit a w i' (omega arith) (omega (arith, wide)) in
        let s = d a w i (omega arith) h own-tip in
        rw (e, wide, a-rank) at (rw (← split_same a w i (omega arith) h own-tip, same a w (omega arith)) at s)

    ranks_to : Dominates (named sets') r placed' (entry r own) → Dominates N m placed (entry m tab)
    ranks_to d a w i b l o =
        let inner = place few-tips fit a w i l o in
        let end : rank N a + width N a w ≤ r = omega (arith, width_end N a w, rank_mono N (a + w) m b) in
        let s = d (rank N a) (width N a w) (width N a i) end inner (all_named m sets (rank N a + width N a i) (omega arith)) in
        rw (split_same a w i b l o, ← same a w b) at s

    bounds-ranks : bounds (named sets') r placed' own ≡ bounds N m placed tab
    bounds-ranks =
        let here = bounds_iff N m placed tab in
        let there = bounds_iff (named sets') r placed' own in
        same_test _ _ (λ x. here.1 (ranks_to (there.0 x))) (λ x. there.1 (ranks_from (here.0 x)))

    whole-ranks : entry m tab 0 m ≡ entry r own 0 r
    unfolding rank
    whole-ranks =
        let e : 0 + m ≡ m = omega arith in
        let z : width N 0 m ≡ r = omega (arith, width_end N 0 m, ap (rank N) e) in
        rw z at (same 0 m (omega arith))

    -- THE TABLE OF THE NAMED TIPS is accepted where the table is
    ok-ranks : (claim : ℕ) → table_ok r qs sets' claim own ≡ table_ok m qs sets claim tab
    unfolding table_ok
    ok-ranks claim = rw (whole-ranks, bounds-ranks) refl

  and-true : (b : Bool) → (b && true) ≡ b
  and-true true = refl
  and-true false = refl

  -- WHERE NO TIP IS NAMED the entry of the rack is all that is asked
  pub ok-none : {set count : ℕ} → set ≡ names_of sets → count ≡ rank (has set) m → count ≡ 0 → (claim : ℕ) (tab : List ℕ)
      → table_ok m qs sets claim tab ≡ eqb (entry m tab 0 m) claim
  unfolding table_ok
  ok-none s e z claim tab =
      let none : bounds N m placed tab ≡ true
      = true_T _ ((bounds_iff N m placed tab).1 (λ a w i b l o. absurd (omega (arith, rank_lt N (a + i) m o (omega arith), size_is n s e, z)))) in
      rw none (and-true (eqb (entry m tab 0 m) claim))

  -- ---- what a call finds: the tips listed, the lines renumbered by the list, and the numbers of the named tips gathered
  module _ {set count : ℕ} (s : set ≡ names_of sets) (e : count ≡ rank (has set) m)
      {list out : List ℕ} (p : Ranks (has set) m list) (o : out ≡ map (run_by list) sets) where
    pub full-out : 0 < count → FullRuns count qs out
    full-out some =
        let r = size_is n s e in
        rw (r, renumbered-by n s p o) (full_ranks n (omega (arith, r, some)))

    pub runs-out : 0 < count → RunsOf (names_of out) out
    runs-out some = record { runs = full-named (full-out some); all = refl }

    pub ok-out : {tab own : List ℕ} → T (is_spread set m tab) → Gathered set m count tab own count 0 → (claim : ℕ)
        → table_ok count qs out claim own ≡ table_ok m qs sets claim tab
    ok-out {tab} {own} t g claim =
        let same = rw (same_names n s, size_is n s e) at (entries set m tab t e g) in
        rw (size_is n s e, renumbered-by n s p o) (ok-ranks tab own same claim)
