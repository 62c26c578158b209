-- The refusal of each call is the one that its cases tell, after cases that tell the earlier refusal.
use Prim.Native.Nat.{ℕ, ◌+◌, ◌*◌, ◌<◌}
use native.Mathlib.Omega.{arith}
use mathlib.Core.Path.{◌≡◌, refl, sym, subst}
use mathlib.Core.Logic.{◌↔◌}
use mathlib.Core.Bool.{Bool, true, false, not, cond}
use mathlib.Core.List.{List, [], ◌∷◌, ◌++◌}
use lib.Dec.{T, ltb, eqb}
use lib.ListN.{length, take}
use lib.Seq.{length-take-le}
use Rattle.model.specs.Limits.{most_lines, most_placements}
use Rattle.model.specs.Plan.{is_empty, in_rack, pairs}
use Rattle.model.specs.Choice.{Mounted}
use Rattle.model.specs.CommonTip.{margin}
use Rattle.model.specs.Interval.{named, is_run_of, C}
use Rattle.placements.specs.Repeated.{repeated}
use Rattle.placements.specs.Good.{GoodLines}
use Rattle.goal_rules.specs.Check.{is_valid}
use Rattle.goal_rules.proofs.Strike.{missed_iff}
use Rattle.holder_rules.specs.Holders.{is_served}
use Rattle.job.specs.Job.{file_length, line_number, version_for}
use Rattle.refusal.specs.Told.{Refusal}
use Rattle.refusal.specs.Refusal.{none, refuse, or_else, when}
use Rattle.refusal.proofs.Laws.{scan-none}
use Rattle.refusal.specs.declared.Reason.TheVariants.{RackSize, EmptyLine, TipOutside, ShortPlan, ShortTable, ShortOutput, ZeroQuantity}
use Rattle.refusal.specs.declared.Reason.TheVariants.{MountedOutside, RacksDiffer, ForeignTip, WrongClaim, TooManyLines, NoRun, NoPlan}
use Rattle.refusal.specs.declared.Reason.TheVariants.{TooManyPlacements, NoTwoTips, WrongTable, GoalMissed, TooManyNamed}
use Rattle.cases.specs.Cases.{Case, Told, plain, placed}
use Rattle.cases.proofs.Laws.{told_or, told_when, told_scan, or_assoc, or_nothing}
use Rattle.call_refusals.specs.Calls.{add_refusal, is_negative, keep_refusal, is_outside, mounted_refusal}
use Rattle.call_refusals.specs.Calls.{plan_refusal, run_refusal, best_refusal, write_refusal}
use Rattle.call_refusals.specs.Junior as Asked
use Rattle.call_refusals.specs.Junior.{junior_lines, junior_tips}
use Rattle.call_refusals.proofs.Calls.{best_none}
use Rattle.checking.specs.Checking.{claim_refusal, table_ok, check_refusal}
use Rattle.striking.specs.Striking.{goal_refusal}
use Rattle.subset_rules.specs.Exact.{most_named}
use Rattle.subset_rules.specs.Table.{table_places}
use Rattle.line_calls.specs.Lines.{check_of}
use Rattle.line_calls.specs.Exact.{count_named, exact_refusal}
use Rattle.line_calls.specs.Goal.{goal_asked, goal_of}
use Rattle.line_calls.specs.Junior.{junior_refusal}
use Rattle.panel.specs.Panel.{merge_refusal}
use Rattle.call_cases.specs.State.{line_cases}
use Rattle.call_cases.specs.Calls.{OffRack, Broken, add_cases, keep_cases, goal_cases, mounted_cases, plan_cases, best_cases, check_cases}
use Rattle.call_cases.specs.Calls.{junior_cases, exact_cases, write_cases, merge_cases}
use Rattle.call_cases.proofs.Tests.{less_iff, unlike_iff, equal_iff, rack_iff, outside_iff, run_iff, foreign_iff, table_iff}
use Rattle.call_cases.proofs.Tests.{within_iff, served_iff}

-- 2, 3 or 15 of one line
pub line_told : (m s q : ℕ) → Told (line_cases m s q) (refuse (line_number m s q))
unfolding line_number or_else
line_told m s q =
    let empty = when (is_empty s) 2 in
    let outside = when (not (in_rack m s)) 3 in
    let unplaced = when (eqb q 0) 15 in
    subst (Told (line_cases m s q)) (grouped (is_empty s) (not (in_rack m s)) (eqb q 0))
    (told_or empty (or_else outside unplaced) _ _ (told_when EmptyLine (is_empty s) (equal_iff s 0)) (λ _.
    told_or outside unplaced _ _ (told_when TipOutside (not (in_rack m s)) (rack_iff m s)) (λ _.
    told_when ZeroQuantity (eqb q 0) (equal_iff q 0))))
  where
    grouped : (a b c : Bool) → or_else (when a 2) (or_else (when b 3) (when c 15)) ≡ refuse (cond a 2 (cond b 3 (cond c 15 0)))
    grouped true b c = refl
    grouped false true c = refl
    grouped false false true = refl
    grouped false false false = refl

-- ---- the calls, after an earlier refusal that its cases tell

module _ (earlier : Refusal) (cs : List Case) (before : Told cs earlier) where
  -- 16
  pub mounted_told : (m : ℕ) (mounted : Mounted) → Told (cs ++ mounted_cases m mounted) (mounted_refusal earlier m mounted)
  unfolding mounted_refusal
  mounted_told m mounted = by (is_outside m mounted) (outside_iff m mounted)
    where
      by : (b : Bool) → T b ↔ OffRack m mounted
          → Told (cs ++ mounted_cases m mounted) (cond {A = Refusal} b (or_else earlier (refuse 16)) earlier)
      by true g = told_or earlier (refuse 16) cs _ before (λ _. told_when MountedOutside true g)
      by false g =
          subst (Told (cs ++ mounted_cases m mounted)) (or_nothing cs earlier before)
          (told_or earlier none cs _ before (λ _. told_when MountedOutside false g))

  -- 4
  pub plan_told : (n room : ℕ) → Told (cs ++ plan_cases n room) (plan_refusal earlier n room)
  unfolding plan_refusal
  plan_told n room =
      told_or earlier (when (ltb room n) 4) cs _ before (λ _. told_when ShortPlan (ltb room n) (less_iff room n))

  -- 4, 35 and 5
  pub exact_told : (m : ℕ) (lines : List ℕ) (room places : ℕ)
      → Told (cs ++ exact_cases m lines room places) (exact_refusal earlier m lines room places)
  unfolding exact_refusal plan_refusal
  exact_told m lines room places =
      let n = length lines in
      let r = count_named m lines in
      let short = when (ltb room n) 4 in
      let many = when (ltb most_named r) 35 in
      let few = when (ltb places (table_places r)) 5 in
      subst (Told (cs ++ exact_cases m lines room places)) (sym (or_assoc earlier short (or_else many few)))
      (told_or earlier (or_else short (or_else many few)) cs _ before (λ _.
      told_or short (or_else many few) _ _ (told_when ShortPlan (ltb room n) (less_iff room n)) (λ _.
      told_or many few _ _ (told_when TooManyNamed (ltb most_named r) (less_iff most_named r)) (λ _.
      told_when ShortTable (ltb places (table_places r)) (less_iff places (table_places r))))))

  -- 11
  pub write_told : (qs lines : List ℕ) (room : ℕ)
      → Told (cs ++ write_cases qs lines room) (write_refusal earlier (version_for qs) (length lines) room)
  unfolding write_refusal
  write_told qs lines room =
      let bytes = file_length (version_for qs) (length lines) in
      told_or earlier (when (ltb room bytes) 11) cs _ before (λ _. told_when ShortOutput (ltb room bytes) (less_iff room bytes))

  -- 24, then 2, 3 or 15, then 30
  pub add_told : (m n t s q : ℕ) → Told (cs ++ add_cases m n t s q) (add_refusal earlier m n t s q)
  unfolding add_refusal
  add_told m n t s q =
      let full = when (eqb n most_lines) 24 in
      let line = refuse (line_number m s q) in
      let over = when (ltb most_placements (t + q)) 30 in
      told_or earlier (or_else full (or_else line over)) cs _ before (λ _.
      told_or full (or_else line over) _ _ (told_when TooManyLines (eqb n most_lines) (equal_iff n most_lines)) (λ _.
      told_or line over _ _ (line_told m s q) (λ _.
      told_when TooManyPlacements (ltb most_placements (t + q)) (less_iff most_placements (t + q)))))

  -- 17, 24 and 30
  pub merge_told : (m o lines placements : ℕ) → Told (cs ++ merge_cases m o lines placements) (merge_refusal earlier m o lines placements)
  unfolding merge_refusal
  merge_told m o lines placements =
      let differ = when (not (eqb m o)) 17 in
      let long = when (ltb most_lines lines) 24 in
      let over = when (ltb most_placements placements) 30 in
      told_or earlier (or_else differ (or_else long over)) cs _ before (λ _.
      told_or differ (or_else long over) _ _ (told_when RacksDiffer (not (eqb m o)) (unlike_iff m o)) (λ _.
      told_or long over _ _ (told_when TooManyLines (ltb most_lines lines) (less_iff most_lines lines)) (λ _.
      told_when TooManyPlacements (ltb most_placements placements) (less_iff most_placements placements))))

  module _ {m : ℕ} {qs lines : List ℕ} (good : earlier.number ≡ 0 → GoodLines m qs lines) where
    -- 26
    pub keep_told : (k : ℕ) → Told (cs ++ keep_cases m qs lines k) (keep_refusal earlier (margin m (repeated qs lines) k))
    unfolding keep_refusal
    keep_told k =
        let below = is_negative (margin m (repeated qs lines) k) in
        told_or earlier (when below 26) cs _ before (λ z. told_when NoPlan below (within_iff (good z) k))

    -- 25
    run_told : earlier.number ≡ 0 → Told (placed NoRun (Broken lines) ∷ []) (run_refusal lines)
    run_told z = let g = good z in told_scan NoRun (is_run_of (named lines)) lines (run_iff g.most g.domains)

    -- 25 and 34
    pub goal_told : (K : ℕ) → Told (cs ++ goal_cases qs lines K) (goal_of earlier m qs lines K)
    unfolding goal_of goal_asked goal_refusal
    goal_told K =
        let most = C (repeated qs lines) 0 m in
        let run = run_refusal lines in
        let missed = when (ltb most K) 34 in
        let (there, back) = less_iff most K in
        subst (Told (cs ++ goal_cases qs lines K)) (sym (or_assoc earlier run missed))
        (told_or earlier (or_else run missed) cs _ before (λ z.
        told_or run missed _ _ (run_told z) (λ y.
        let runs = scan-none (is_run_of (named lines)) (λ _. 25) lines (λ _ e. omega arith) y in
        let (misses, meets) = missed_iff (good z) runs K in
        told_when GoalMissed (ltb most K) (λ t. misses (there t), λ f. back (meets f)))))

    -- 24, 1, 4 and 31
    pub junior_told : (room : ℕ) → Told (cs ++ junior_cases m lines room) (junior_refusal earlier m qs lines room)
    unfolding junior_refusal Asked.junior_refusal
    junior_told room =
        let n = length lines in
        let long = when (ltb junior_lines n) 24 in
        let wide = when (ltb junior_tips m) 1 in
        let short = when (ltb room n) 4 in
        let unserved = when (not (is_served m (repeated qs lines))) 31 in
        subst (Told (cs ++ junior_cases m lines room)) (sym (or_assoc earlier (or_else long (or_else wide short)) unserved))
        (told_or earlier (or_else (or_else long (or_else wide short)) unserved) cs _ before (λ z.
        told_or (or_else long (or_else wide short)) unserved
        (plain TooManyLines (junior_lines < n) ∷ plain RackSize (junior_tips < m) ∷ plain ShortPlan (room < n) ∷ []) _
        (told_or long (or_else wide short) _ _ (told_when TooManyLines (ltb junior_lines n) (less_iff junior_lines n)) (λ _.
        told_or wide short _ _ (told_when RackSize (ltb junior_tips m) (less_iff junior_tips m)) (λ _.
        told_when ShortPlan (ltb room n) (less_iff room n))))
        (λ _. told_when NoTwoTips (not (is_served m (repeated qs lines))) (served_iff (good z)))))

    -- 4, 5 and 25
    pub best_told : (room places : ℕ) → Told (cs ++ best_cases m lines room places) (best_refusal earlier m lines room places)
    unfolding best_refusal plan_refusal
    best_told room places =
        let short = when (ltb room (length lines)) 4 in
        let few = when (ltb places (m * m)) 5 in
        let run = run_refusal lines in
        subst (Told (cs ++ best_cases m lines room places)) (sym (or_assoc earlier short (or_else few run)))
        (told_or earlier (or_else short (or_else few run)) cs _ before (λ z.
        told_or short (or_else few run) _ _ (told_when ShortPlan (ltb room (length lines)) (less_iff room (length lines))) (λ _.
        told_or few run _ _ (told_when ShortTable (ltb places (m * m)) (less_iff places (m * m))) (λ _.
        run_told z))))

    -- and then 19, 20 and 33
    pub check_told : (plan : List ℕ) (claim : ℕ) (tab : List ℕ)
        → Told (cs ++ best_cases m lines (length plan) (length tab) ++ check_cases m qs lines (take (length lines) plan) claim tab)
        (check_of earlier m qs lines plan claim tab)
    unfolding check_of check_refusal claim_refusal
    check_told plan claim tab =
        let asked = best_refusal earlier m lines (length plan) (length tab) in
        let front = take (length lines) plan in
        let count = pairs (repeated qs front) in
        let foreign = when (not (is_valid lines front)) 19 in
        let claimed = when (not (eqb claim count)) 20 in
        let tabled = when (not (table_ok m qs lines claim tab)) 33 in
        told_or asked (or_else (or_else foreign claimed) tabled) _ _ (best_told (length plan) (length tab)) (λ z.
        let bytes = (best_none earlier m lines (length plan) (length tab) z).bytes in
        let all = foreign_iff lines front (length-take-le (length lines) plan bytes) in
        told_or (or_else foreign claimed) tabled _ _
        (told_or foreign claimed _ _ (told_when ForeignTip (not (is_valid lines front)) all)
        (λ _. told_when WrongClaim (not (eqb claim count)) (unlike_iff claim count)))
        (λ _. told_when WrongTable (not (table_ok m qs lines claim tab)) (table_iff m qs lines claim tab)))
