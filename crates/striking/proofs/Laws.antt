-- Where nothing is refused the struck sets hold exactly the tips that meet the goal; 34 exactly when no valid plan meets it.
use Prim.Native.Nat.{ℕ, ◌≤◌, ◌<◌}
use native.Mathlib.Omega.{arith}
use mathlib.Core.Path.{◌≡◌, ap, sym}
use mathlib.Core.Logic.{◌↔◌, ⊎_elim}
use mathlib.Core.List.{List, []}
use lib.Dec.{T}
use Rattle.model.specs.Count.{All}
use Rattle.model.specs.Plan.{Valid, pairs}
use Rattle.model.specs.Interval.{named, is_run_of, C}
use Rattle.model.proofs.Tests.{le_or_lt}
use Rattle.placements.specs.Repeated.{repeated}
use Rattle.placements.specs.Good.{GoodLines}
use Rattle.goal_rules.specs.Goal.{strike, Struck}
use Rattle.goal_rules.proofs.Strike.{missed_iff, strike_runs}
use Rattle.striking.specs.Striking.{goal_refusal}
use Rattle.striking.proofs.Kept.{goal_missed, goal-met}

module _ {m : ℕ} {qs sets : List ℕ} (good : GoodLines m qs sets) (rs : All (λ s. T (is_run_of (named sets) s)) sets) (K : ℕ) where
  missed : C (repeated qs sets) 0 m < K → (goal_refusal m qs sets K).number ≡ 34
  missed h = ap (λ r. r.number) (sym (goal_missed m qs sets K [] h).0)

  met : K ≤ C (repeated qs sets) 0 m → (goal_refusal m qs sets K).number ≡ 0
  met h = ap (λ r. r.number) (sym (goal-met m qs sets K [] h).0)

  -- STRUCK exactly, where nothing is refused
  pub struck_exact : (goal_refusal m qs sets K).number ≡ 0 → Struck m qs sets K (strike m qs sets K)
  struck_exact z = ⊎_elim (strike_runs good rs K) (λ h. absurd (omega (arith, z, missed h))) (le_or_lt K (C (repeated qs sets) 0 m))

  -- 34 exactly when no valid plan has K placement pairs
  pub refused_iff : ((goal_refusal m qs sets K).number ≡ 34) ↔ ((plan : List ℕ) → Valid sets plan → pairs (repeated qs plan) < K)
  refused_iff = (
    λ e. ⊎_elim (λ h. absurd (omega (arith, e, met h))) (missed_iff good rs K).0 (le_or_lt K (C (repeated qs sets) 0 m)),
    λ f. missed ((missed_iff good rs K).1 f),
  )
