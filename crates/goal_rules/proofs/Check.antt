-- What is accepted is a best plan, and the best plan with its count and table is accepted.
use Prim.Native.Nat.{ℕ, zero, suc, ◌+◌, ◌-◌, ◌≤◌}
use native.Mathlib.Omega.{arith}
use mathlib.Core.Path.{◌≡◌, ap, sym, ◌∙◌}
use mathlib.Core.Logic.{◌↔◌}
use mathlib.Core.Bool.{Bool, ◌&&◌}
use mathlib.Core.List.{List, [], ◌∷◌}
use lib.Dec.{T, leb→le, le→leb}
use Rattle.model.specs.Count.{All, every}
use Rattle.model.specs.Plan.{has, Valid, empty, line, pairs}
use Rattle.model.specs.Choice.{Mounted, bare}
use Rattle.model.specs.Interval.{Line, named, is_run_of, C, table, Dominates}
use Rattle.model.proofs.Tests.{and_left, and_right, and_in, imply_in, imply_out, every_iff}
use Rattle.model.proofs.Valid.{valid_length}
use Rattle.model.proofs.Dominate.{dominated}
use Rattle.model.proofs.Best.{C_zero}
use Rattle.model.proofs.Run.{named-lines}
use Rattle.model.proofs.Table.{table_at}
use Rattle.placements.specs.Repeated.{repeated}
use Rattle.placements.specs.Good.{GoodLines}
use Rattle.placements.specs.Plans.{best_plan_q}
use Rattle.placements.proofs.Repeated.{all-repeated}
use Rattle.placements.proofs.Valid.{valid_repeated}
use Rattle.placements.proofs.Plans.{best-pairs-placements, best_valid_lines}
use Rattle.goal_rules.specs.Check.{is_valid, entry, at_tip, bounds, Accepted}
use Rattle.goal_rules.proofs.Solved.{C_solved}

-- the test passes exactly for a valid plan
pub valid_iff : (lines plan : List ℕ) → T (is_valid lines plan) ↔ Valid lines plan
unfolding is_valid
valid_iff [] [] = (λ _. empty, λ _. tt)
valid_iff [] (t ∷ plan) = (λ x. absurd x, λ v. absurd (omega (arith, valid_length v)))
valid_iff (s ∷ lines) [] = (λ x. absurd x, λ v. absurd (omega (arith, valid_length v)))
valid_iff (s ∷ lines) (t ∷ plan) = (
  λ x. line (and_left (has s t) (is_valid lines plan) x) ((valid_iff lines plan).0 (and_right (has s t) (is_valid lines plan) x)),
  back (valid_iff lines plan).1,
)
  where
    back : (Valid lines plan → T (is_valid lines plan)) → Valid (s ∷ lines) (t ∷ plan) → T (has s t && is_valid lines plan)
    back f (line h v) = and_in (has s t) (is_valid lines plan) h (f v)

-- the test of the table passes exactly where it is at least each split
pub bounds_iff : (ok : ℕ → Bool) (m : ℕ) (lines tab : List ℕ) → T (bounds ok m lines tab) ↔ Dominates ok m lines (entry m tab)
unfolding bounds
bounds_iff ok m lines tab = (
  λ x a w i b l g.
      let y = (every_iff (λ c. every (λ v. every (at c v) v) (m - c + 1)) m).0 x a (omega arith) in
      let z = (every_iff (λ v. every (at a v) v) (m - a + 1)).0 y w (omega arith) in
      leb→le _ _ (imply_out (ok (a + i)) _ ((every_iff (at a w) w).0 z i l) g),
  λ d. (every_iff (λ c. every (λ v. every (at c v) v) (m - c + 1)) m).1 (λ a p.
      (every_iff (λ v. every (at a v) v) (m - a + 1)).1 (λ w r.
      (every_iff (at a w) w).1 (λ i l. imply_in (ok (a + i)) _ (λ g. le→leb _ _ (d a w i (omega arith) l g))))),
)
  where
    at : ℕ → ℕ → ℕ → Bool
    at = at_tip ok m lines tab

-- the table of C has the entries of C
pub entry-table : (m : ℕ) (lines : List ℕ) (a w : ℕ) → a + w ≤ m → entry m (table m lines) a w ≡ C lines a w
unfolding entry
entry-table m lines a zero b = sym (C_zero lines a)
entry-table m lines a (suc w) b =
    let e : a + w + 1 - a ≡ suc w = omega arith in
    table_at m lines a (a + w) (omega arith) (omega arith) ∙ ap (C lines a) e

module _ {m : ℕ} {qs sets : List ℕ} (good : GoodLines m qs sets) (rs : All (λ s. T (is_run_of (named sets) s)) sets) where
  -- the placements are runs of the tips that the lines name
  placed : All (Line (named sets) m) (repeated qs sets)
  placed = all-repeated qs (named-lines good.most good.domains rs)

  -- WHAT IS ACCEPTED is a best plan: no valid plan has more placement pairs
  pub accepted_best : {plan : List ℕ} {claim : ℕ} {tab : List ℕ} → Accepted m qs sets plan claim tab
      → {other : List ℕ} → Valid sets other → pairs (repeated qs other) ≤ pairs (repeated qs plan)
  accepted_best {tab} a v =
      omega (arith, dominated good.most placed (entry m tab) a.bounded (valid_repeated qs v), a.whole, a.counted)

  -- OUR OWN best plan, count and table are accepted, whatever is mounted
  pub own_accepted : (mounted : Mounted)
      → Accepted m qs sets (best_plan_q mounted m qs sets) (C (repeated qs sets) 0 m) (table m (repeated qs sets))
  own_accepted mounted = record {
    own = best_valid_lines mounted good.domains good.placed good.same good.most rs;
    counted = sym (best-pairs-placements mounted good.domains good.placed good.same good.most rs);
    whole = at 0 m (omega arith);
    bounded = λ a w i b l g. omega (
      arith,
      at a w b,
      at a i (omega arith),
      at (a + i + 1) (w - (i + 1)) (omega arith),
      (C_solved bare m (repeated qs sets) placed).bounds a w i b l g,
    );
  }
    where
      at : (a w : ℕ) → a + w ≤ m → entry m (table m (repeated qs sets)) a w ≡ C (repeated qs sets) a w
      at = entry-table m (repeated qs sets)
