-- What a board's best sharing is by the board renumbered, whose lines are unbroken runs: its pairs, its table and its plan.
use Prim.Native.Nat.{ℕ, ◌+◌, ◌-◌, ◌*◌, ◌≤◌, ◌<◌}
use native.Mathlib.Omega.{arith}
use mathlib.Core.Path.{◌≡◌, ap, sym, ◌∙◌}
use mathlib.Core.Logic.{⊎_elim}
use mathlib.Core.Bool.{Bool, cond}
use mathlib.Core.List.{List, map, ◌∷◌}
use lib.Dec.{T, ltb}
use lib.ListN.{length, get_or, length-map}
use borrow.Author.Tests.{lt-ltb, le-ltb}
use Rattle.model.specs.Count.{All, none, more}
use Rattle.model.specs.Plan.{Domain}
use Rattle.model.specs.Choice.{Mounted}
use Rattle.model.specs.Interval.{any, named, is_run_of, C, pick_of, plan_of, tip_by, best_tip, best_plan, table, Line}
use Rattle.model.specs.Renumber.{rank, tip_at, ranks, renumbered, rank_on, width}
use Rattle.model.proofs.Tests.{le_or_lt}
use Rattle.model.proofs.Lists.{all_map, all-at, map_cong, map-map}
use Rattle.model.proofs.Sets.{some_tip}
use Rattle.model.proofs.Run.{high-below, named_own, named-lines}
use Rattle.model.proofs.Interval.{in_span}
use Rattle.model.proofs.Best.{C_zero, C-any}
use Rattle.model.proofs.Table.{table_at}
use Rattle.model.proofs.Rank.{rank_mono, rank_lt, lt_rank, width_end}
use Rattle.model.proofs.Renumber.{named-fits}
use Rattle.model.proofs.RenumberBest.{most-ranks}
use Rattle.model.proofs.RenumberPlan.{tip-ranks}

-- all tips renumbered
whole : (ok : ℕ → Bool) (m : ℕ) → width ok 0 m ≡ rank ok m
unfolding width rank
whole ok m =
    let e : 0 + m ≡ m = omega arith in
    rw e (omega arith)

-- as many lines
pub length-renumbered : (ok : ℕ → Bool) (m : ℕ) (lines : List ℕ) → length (renumbered ok m lines) ≡ length lines
unfolding renumbered
length-renumbered ok m lines = length-map lines (ranks ok m)

-- a board with lines names a tip
pub rank_some : {m : ℕ} {lines : List ℕ} → All (Domain m) lines → 0 < length lines → 0 < rank (named lines) m
rank_some none p = absurd (omega arith)
rank_some {m} (more {x = s} {xs = lines} d ds) p =
    let (t, h, l) = some_tip d in
    omega (arith, rank_lt (named (s ∷ lines)) t m (all-at 0 (named_own (s ∷ lines)) 0 (omega arith) t h) l)

-- a plan is that of the board renumbered, each rank replaced by its tip
pub plan-ranks : {ok : ℕ → Bool} {m : ℕ} {lines : List ℕ} → m ≤ 64 → All (Line ok m) lines → (mounted : Mounted)
    → plan_of mounted ok m lines ≡ map (tip_at ok m) (plan_of (rank_on ok mounted) any (rank ok m) (renumbered ok m lines))
unfolding renumbered rank
plan-ranks {ok} {m} {lines} narrow ls mounted =
    let e = whole ok m in
    map_cong (all_map (λ s l. rw e at (tip-ranks narrow ls mounted l m (rank ok m) 0 m (omega arith) (omega arith) (omega arith)
    (in_span 0 m s (omega arith) (omega (arith, high-below narrow l.domain))))) ls)
    ∙ sym (ap (map (tip_at ok m)) (map-map tip' (ranks ok m) lines) ∙ map-map (tip_at ok m) (λ s. tip' (ranks ok m s)) lines)
  where
    tip' : ℕ → ℕ
    tip' = tip_by (pick_of (rank_on ok mounted) any (renumbered ok m lines)) (rank ok m) 0 (rank ok m)

module _ {m : ℕ} {lines : List ℕ} (narrow : m ≤ 64) (ds : All (Domain m) lines) where
  abbrev N : ℕ → Bool
  N = named lines

  abbrev lines' : List ℕ
  lines' = renumbered N m lines

  -- C OF AN INTERVAL is C of the interval renumbered
  pub C-ranks : (a w : ℕ) → a + w ≤ m → C lines a w ≡ C (renumbered (named lines) m lines) (rank (named lines) a) (width (named lines) a w)
  unfolding C
  C-ranks a w b = most-ranks narrow (named-fits ds) a w b ∙ sym (C-any lines' (rank N a) (width N a w))

  -- THE PAIRS
  pub pairs-ranks : C lines 0 m ≡ C (renumbered (named lines) m lines) 0 (rank (named lines) m)
  unfolding rank
  pairs-ranks = rw (whole N m) at (C-ranks 0 m (omega arith))

  -- the table of the board renumbered, at the ranks
  abbrev cell' : ℕ → ℕ → ℕ
  cell' a b = get_or (table (rank N m) lines') (rank N a * rank N m + (rank N (b + 1) - 1)) 0

  -- an interval without a named tip, and one with some
  no_cell : (a b : ℕ) → b < m → rank N (b + 1) ≤ rank N a → C lines a (b + 1 - a) ≡ cond (ltb (rank N a) (rank N (b + 1))) (cell' a b) 0
  no_cell a b g p =
      let w = b + 1 - a in
      rw (le-ltb (rank N a) (rank N (b + 1)) p) (⊎_elim
      (λ q. let z : w ≡ 0 = omega arith in rw z (C_zero lines a))
      (λ q. let e : a + w ≡ b + 1 = omega arith in
      let z : width N a w ≡ 0 = omega (arith, width_end N a w, ap (rank N) e) in
      C-ranks a w (omega arith) ∙ rw z (C_zero lines' (rank N a)))
      (le_or_lt (b + 1) a))

  some_cell : (a b : ℕ) → b < m → rank N a < rank N (b + 1) → C lines a (b + 1 - a) ≡ cond (ltb (rank N a) (rank N (b + 1))) (cell' a b) 0
  some_cell a b g p =
      let w = b + 1 - a in
      let q = lt_rank N a (b + 1) p in
      let e : a + w ≡ b + 1 = omega arith in
      let n : rank N (b + 1) ≤ rank N m = rank_mono N (b + 1) m (omega arith) in
      let z : width N a w ≡ rank N (b + 1) - 1 + 1 - rank N a = omega (arith, width_end N a w, ap (rank N) e) in
      rw (lt-ltb (rank N a) (rank N (b + 1)) p, table_at (rank N m) lines' (rank N a) (rank N (b + 1) - 1) (omega arith) (omega arith), ← z)
      (C-ranks a w (omega arith))

  -- THE TABLE: the place of tips a and b is that of the ranks of the first and the last named tip between them; 0 where there is none
  pub table-ranks : (a b : ℕ) → a < m → b < m → get_or (table m lines) (a * m + b) 0
      ≡ cond (ltb (rank (named lines) a) (rank (named lines) (b + 1)))
      (get_or (table (rank (named lines) m) (renumbered (named lines) m lines))
      (rank (named lines) a * rank (named lines) m + (rank (named lines) (b + 1) - 1)) 0) 0
  table-ranks a b h g = table_at m lines a b h g ∙ ⊎_elim (no_cell a b g) (some_cell a b g) (le_or_lt (rank N (b + 1)) (rank N a))

  module _ (rs : All (λ s. T (is_run_of (named lines) s)) lines) where
    -- THE PLAN: each line is on the tip whose rank it has on the board renumbered
    pub best-ranks : (mounted : Mounted) → best_plan mounted m lines
        ≡ map (tip_at (named lines) m) (plan_of (rank_on (named lines) mounted) any (rank (named lines) m) (renumbered (named lines) m lines))
    unfolding best_plan best_tip
    best-ranks mounted = plan-ranks narrow (named-lines narrow ds rs) mounted
