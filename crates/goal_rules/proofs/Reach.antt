-- Reach is the most pairs: some plan has as many, and no valid plan has more.
use Prim.Native.Nat.{ℕ, zero, suc, ◌≤◌, ◌<◌}
use mathlib.Core.Path.{◌≡◌, refl, ap, ap₂, sym, ◌∙◌}
use mathlib.Core.Bool.{Bool}
use mathlib.Core.List.{List, [], ◌∷◌, ◌++◌, map, map-append}
use lib.Dec.{T}
use lib.ListN.{replicate}
use Rattle.model.specs.Count.{All, none, more}
use Rattle.model.specs.Plan.{has, Valid, line, pairs}
use Rattle.model.specs.Choice.{bare}
use Rattle.model.specs.Interval.{Line, C, tip_by}
use Rattle.model.proofs.Attain.{plan_valid, plan_pairs}
use Rattle.model.proofs.Dominate.{dominated}
use Rattle.goal_rules.specs.Goal.{only, joined, reach}
use Rattle.goal_rules.specs.Tables.{Solved, Most}
use Rattle.model.proofs.Append.{all_left, all_right, valid_append, valid_replicate}
use Rattle.goal_rules.proofs.Only.{has-only, only-has}
use Rattle.goal_rules.proofs.Solved.{C_solved}
use Rattle.goal_rules.proofs.Joined.{joined-lines}

-- a plan by a rule gives each line a tip of its own
pub own_map : (g : ℕ → ℕ) (lines : List ℕ) → Valid lines (map g lines) → All (λ s. T (has s (g s))) lines
own_map g [] v = none
own_map g (s ∷ lines) (line h v) = more h (own_map g lines v)

-- the line that has t alone is on t
on_tip : (g : ℕ → ℕ) (q t : ℕ) → All (λ s. T (has s (g s))) (replicate q (only t)) → map g (replicate q (only t)) ≡ replicate q t
on_tip g zero t ps = refl
on_tip g (suc q) t (more p ps) = ap₂ ◌∷◌ (only-has t (g (only t)) p) (on_tip g q t ps)

-- REACH is the most pairs of a valid plan of the other lines with q placements more on tip t
pub reach-most : {ok : ℕ → Bool} {m : ℕ} {rest : List ℕ} → m ≤ 64 → All (Line ok m) rest → (q t : ℕ) → t < m → T (ok t)
    → Most rest q t (reach m rest q t)
reach-most {ok} {m} {rest} narrow ls q t l g = record {
  reached = (rule, all_right fixed rest own, ap pairs (sym placed) ∙ plan_pairs narrow lines x.picks);
  bound = λ v. dominated narrow lines (C (joined rest q t)) x.bounds (valid_append (valid_replicate q (only t) t (has-only t)) v);
}
  where
    fixed : List ℕ
    fixed = replicate q (only t)

    lines : All (Line ok m) (fixed ++ rest)
    lines = joined-lines narrow ls q t l g

    x : Solved ok m (fixed ++ rest) (C (fixed ++ rest))
    x = C_solved bare m (fixed ++ rest) lines

    rule : ℕ → ℕ
    rule = tip_by x.pick m 0 m

    own : All (λ s. T (has s (rule s))) (fixed ++ rest)
    own = own_map rule (fixed ++ rest) (plan_valid narrow lines x.picks)

    placed : map rule (fixed ++ rest) ≡ replicate q t ++ map rule rest
    placed = map-append rule fixed rest ∙ ap (λ p. p ++ map rule rest) (on_tip rule q t (all_left fixed rest own))
