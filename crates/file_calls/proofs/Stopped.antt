-- What the calls give for a file that reading refuses.
use Prim.Native.Nat.{ℕ}
use mathlib.Core.Path.{◌≡◌, refl, sym, ap, ◌∙◌}
use mathlib.Core.Bool.{Bool, true, false, cond}
use mathlib.Core.List.{List, []}
use lib.Dec.{eqb}
use lib.IntN.{pos}
use lib.ListN.{length}
use Rattle.model.specs.Choice.{Mounted}
use Rattle.refusal.specs.Told.{Refusal}
use Rattle.refusal.specs.declared.Refused.{Refused}
use Rattle.refusal.specs.Reasons.{told_of}
use Rattle.refusal.proofs.Laws.{reason_not_0}
use Rattle.job.specs.Job.{read_refusal}
use Rattle.call_refusals.proofs.Calls.{plan_first, best_first, mounted_earlier}
use Rattle.call_refusals.proofs.Junior.{junior_first}
use Rattle.line_calls.proofs.CommonTip.{common_refused}
use Rattle.line_calls.proofs.Plans.{quick_refused, best-refused}
use Rattle.line_calls.proofs.KeepWithin.{keep-stopped}
use Rattle.line_calls.proofs.Checked.{check_first}
use Rattle.line_calls.proofs.JobFile.{write_stopped}
use Rattle.line_calls.proofs.PairGoal.{asked_earlier, goal-stopped}
use Rattle.line_calls.proofs.JuniorPlan.{junior_refused}
use Rattle.line_calls.proofs.AlongPlan.{along_refused}
use Rattle.line_calls.proofs.ExactPlan.{exact_first, exact_refused}
use Rattle.file_calls.specs.Outcomes.{twos_complement, refused_outcome}
use Rattle.file_calls.specs.Calls.{common_in, keep_in, keep_file_in, quick_in, quick_plan_in, best_in, best_plan_in, best_table_in, check_in}
use Rattle.file_calls.specs.Goal.{goal_in, goal_file_in}
use Rattle.file_calls.specs.Junior.{junior_in, junior_plan_in, JuniorRuleOf}
use Rattle.file_calls.specs.Along.{along_in, along_plan_in}
use Rattle.file_calls.specs.Exact.{exact_in, exact_plan_in, exact_cells_in}
use Rattle.file_calls.specs.Rules.{CommonRuleOf, HalfRuleOf, BestRuleOf, CheckRuleOf}
use Rattle.file_calls.proofs.ReadLines.{common-in, check-in, quick-in, along-in, exact-in, best-in}
use Rattle.file_calls.proofs.KeptFile.{keep-in}
use Rattle.file_calls.proofs.GoalFile.{goal-in}
use Rattle.file_calls.proofs.JuniorIn.{junior-in}

-- a refusal of writing gives no margin, and only 26 has one
no_margin : (b : Bool) → cond b 0 (twos_complement (pos 0)) ≡ twos_complement (pos 0)
unfolding twos_complement
no_margin true = refl
no_margin false = refl

module _ (file : List ℕ) (e : Refused) (r : told_of e ≡ read_refusal file) where
  abbrev d : Refusal
  d = told_of e

  n : d.number ≡ 0 → ⊥
  n = reason_not_0 e.reason

  pub common_read : (refused_outcome e 0 ≡ common_in file) × CommonRuleOf file (refused_outcome e 0)
  common_read = let (p, rule) = common_refused d 0 [] [] n in common-in file r (λ z. absurd (n z)) p rule

  pub check_read : (plan : List ℕ) (claim : ℕ) (tab : List ℕ)
      → (refused_outcome e 0 ≡ check_in file plan claim tab) × CheckRuleOf file plan claim tab (refused_outcome e 0)
  check_read plan claim tab =
      let p = check_first d 0 [] [] plan claim tab (best_first d n 0 [] (length plan) (length tab)) n in
      check-in file r (λ z. absurd (n z)) (λ z. absurd (n z)) plan claim tab p

  pub quick_read : (mounted : Mounted) (plan : List ℕ)
      → (refused_outcome e 0 ≡ quick_in file mounted (length plan))
      × ((plan ≡ quick_plan_in file mounted plan) × HalfRuleOf file plan (refused_outcome e 0))
  quick_read mounted plan =
      let (p, (q, rule)) = quick_refused d 0 mounted [] [] plan {n = 0} (plan_first d n 0 (length plan)) (λ _. refl) n in
      quick-in file r (λ z. absurd (n z)) mounted (mounted_earlier d 0 mounted n) plan p q rule

  pub along_read : (mounted : Mounted) (plan : List ℕ)
      → (refused_outcome e 0 ≡ along_in file mounted (length plan)) × (plan ≡ along_plan_in file mounted plan)
  along_read mounted plan =
      let (p, q) = along_refused d mounted [] [] plan {n = 0} (plan_first d n 0 (length plan)) (λ _. refl) n in
      along-in file r (λ z. absurd (n z)) mounted (mounted_earlier d 0 mounted n) plan p q

  pub exact_read : (mounted : Mounted) (price : ℕ) (plan cells : List ℕ)
      → (refused_outcome e 0 ≡ exact_in file mounted price (length plan) (length cells))
      × ((plan ≡ exact_plan_in file mounted price plan (length cells)) × (cells ≡ exact_cells_in file mounted price (length plan) cells))
  exact_read mounted price plan cells =
      let (p, (q, t)) = exact_refused d 0 mounted price [] [] plan cells (exact_first d 0 [] (length plan) (length cells) n) n in
      exact-in file r (λ z. absurd (n z)) mounted (mounted_earlier d 0 mounted n) price plan cells p q t

  pub best_read : (mounted : Mounted) (plan cells : List ℕ)
      → (refused_outcome e 0 ≡ best_in file mounted (length plan) (length cells))
      × ((plan ≡ best_plan_in file mounted plan (length cells))
      × ((cells ≡ best_table_in file mounted (length plan) cells) × BestRuleOf file plan (refused_outcome e 0)))
  best_read mounted plan cells =
      let (p, (q, (t, rule))) = best-refused d 0 mounted [] [] plan cells (best_first d n 0 [] (length plan) (length cells)) n in
      best-in file r (λ z. absurd (n z)) mounted (mounted_earlier d 0 mounted n) plan cells p q t rule

  pub junior_read : (plan : List ℕ)
      → (refused_outcome e 0 ≡ junior_in file (length plan))
      × ((plan ≡ junior_plan_in file plan) × JuniorRuleOf file (length plan) plan (refused_outcome e 0))
  junior_read plan =
      let (p, (q, rule)) = junior_refused d 0 [] [] plan (junior_first d n 0 0 (length plan)) n in
      junior-in file r (λ z. absurd (n z)) (λ z. absurd (n z)) plan p q

  pub keep_read : (k : ℕ) (out : List ℕ)
      → (refused_outcome e (twos_complement (pos 0)) ≡ keep_in file k (length out)) × (out ≡ keep_file_in file k out)
  keep_read k out =
      let (p, _) = keep-stopped d 0 [] [] k [] n in
      let (f, g) = write_stopped d 0 [] [] out n in
      let (o, b) = keep-in file r {m = 0} {qs = []} {sets = []} (λ z. absurd (n z)) (λ z. absurd (n z)) k p {last = []} (λ z. absurd (n z)) out f g in
      (ap (refused_outcome e) (sym (no_margin (eqb d.number 11))) ∙ o, b)

  pub goal_read : (K : ℕ) (out : List ℕ) → (refused_outcome e 0 ≡ goal_in file K (length out)) × (out ≡ goal_file_in file K out)
  goal_read K out =
      let (p, _) = goal-stopped d 0 [] [] K [] (asked_earlier d [] n) n in
      let (f, g) = write_stopped d 0 [] [] out n in
      goal-in file r {m = 0} {qs = []} {sets = []} (λ z. absurd (n z)) (λ z. absurd (n z)) K p {last = []} (λ z. absurd (n z)) out f g
