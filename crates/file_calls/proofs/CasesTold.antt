-- What the calls on job files refuse is what their cases tell.
use Prim.Native.Nat.{ℕ, ◌+◌}
use mathlib.Core.Path.{◌≡◌, sym, subst}
use mathlib.Core.List.{List, ◌++◌}
use lib.ListN.{length}
use Rattle.model.specs.Choice.{Mounted}
use Rattle.model.specs.CommonTip.{margin}
use Rattle.placements.specs.Repeated.{total, repeated}
use Rattle.placements.specs.Keep.{prune_q}
use Rattle.job.specs.Job.{rack_in, sets_in, quantities_in, read_refusal}
use Rattle.job.proofs.Reading.{read_good}
use Rattle.cases.specs.Cases.{Told}
use Rattle.cases.proofs.Laws.{told_or}
use Rattle.call_refusals.specs.Calls.{keep_refusal}
use Rattle.call_refusals.proofs.Calls.{mounted_none}
use Rattle.line_calls.specs.Lines.{common_of, keep_of, quick_of, best_of, write_of}
use Rattle.line_calls.specs.Junior.{junior_of}
use Rattle.line_calls.specs.Along.{along_of}
use Rattle.line_calls.specs.Exact.{exact_of}
use Rattle.panel.specs.Panel.{merge_of, alone_of}
use Rattle.call_cases.specs.Calls.{mounted_cases}
use Rattle.call_cases.proofs.Calls as Of
use Rattle.call_cases.proofs.Reading.{read_told}
use Rattle.file_calls.specs.Outcomes.{Outcome}
use Rattle.file_calls.specs.Calls.{read_in, common_in, keep_in, mounted_in, quick_in, best_in, check_in}
use Rattle.file_calls.specs.Goal.{goal_refusal_in, struck_in, goal_in}
use Rattle.file_calls.specs.Junior.{junior_in}
use Rattle.file_calls.specs.Along.{along_in}
use Rattle.file_calls.specs.Exact.{exact_in}
use Rattle.file_calls.specs.Panel.{reads_refusal, merge_refusal_in, merge_of_files, alone_in}
use Rattle.file_calls.specs.Cases.{read_cases, keep_cases, goal_cases, quick_cases, best_cases, check_cases, junior_cases}
use Rattle.file_calls.specs.Cases.{along_cases, exact_cases, reads_cases, merge_cases, alone_cases}

module _ (file : List ℕ) where
  pub header_told : {o : Outcome} → o ≡ read_in file → Told (read_cases file) o.refusal
  unfolding read_in
  header_told e = subst (λ x. Told (read_cases file) x.refusal) (sym e) (read_told file)

  pub common_told : {o : Outcome} → o ≡ common_in file → Told (read_cases file) o.refusal
  unfolding common_in common_of
  common_told e = subst (λ x. Told (read_cases file) x.refusal) (sym e) (read_told file)

  pub keep_told : (k room : ℕ) {o : Outcome} → o ≡ keep_in file k room → Told (keep_cases file k room) o.refusal
  unfolding keep_in keep_of write_of
  keep_told k room e =
      let kept = keep_refusal (read_refusal file) (margin (rack_in file) (repeated (quantities_in file) (sets_in file)) k) in
      let pruned = prune_q (rack_in file) (quantities_in file) (sets_in file) k in
      subst (λ x. Told (keep_cases file k room) x.refusal) (sym e)
      (Of.write_told kept _ (Of.keep_told (read_refusal file) (read_cases file) (read_told file) (read_good file) k) (quantities_in file) pruned room)

  pub goal_told : (K room : ℕ) {o : Outcome} → o ≡ goal_in file K room → Told (goal_cases file K room) o.refusal
  unfolding goal_in write_of
  goal_told K room e =
      let struck = Of.goal_told (read_refusal file) (read_cases file) (read_told file) (read_good file) K in
      subst (λ x. Told (goal_cases file K room) x.refusal) (sym e)
      (Of.write_told (goal_refusal_in file K) _ struck (quantities_in file) (struck_in file K) room)

  module _ (mounted : Mounted) where
    mounted_told : Told (read_cases file ++ mounted_cases (rack_in file) mounted) (mounted_in file mounted)
    mounted_told = Of.mounted_told (read_refusal file) (read_cases file) (read_told file) (rack_in file) mounted

    pub quick_told : (room : ℕ) {o : Outcome} → o ≡ quick_in file mounted room → Told (quick_cases file mounted room) o.refusal
    unfolding quick_in quick_of
    quick_told room e =
        subst (λ x. Told (quick_cases file mounted room) x.refusal) (sym e)
        (Of.plan_told (mounted_in file mounted) _ mounted_told (length (sets_in file)) room)

    pub along_told : (room : ℕ) {o : Outcome} → o ≡ along_in file mounted room → Told (along_cases file mounted room) o.refusal
    unfolding along_in along_of
    along_told room e =
        subst (λ x. Told (along_cases file mounted room) x.refusal) (sym e)
        (Of.plan_told (mounted_in file mounted) _ mounted_told (length (sets_in file)) room)

    pub exact_told : (price room places : ℕ) {o : Outcome} → o ≡ exact_in file mounted price room places
        → Told (exact_cases file mounted room places) o.refusal
    unfolding exact_in exact_of
    exact_told price room places e =
        subst (λ x. Told (exact_cases file mounted room places) x.refusal) (sym e)
        (Of.exact_told (mounted_in file mounted) _ mounted_told (rack_in file) (sets_in file) room places)

    pub best_told : (room places : ℕ) {o : Outcome} → o ≡ best_in file mounted room places
        → Told (best_cases file mounted room places) o.refusal
    unfolding best_in best_of
    best_told room places e =
        subst (λ x. Told (best_cases file mounted room places) x.refusal) (sym e)
        (Of.best_told (mounted_in file mounted) _ mounted_told
        (λ z. read_good file ((mounted_none (read_refusal file) (rack_in file) mounted z).0)) room places)

  pub check_told : (plan : List ℕ) (claim : ℕ) (tab : List ℕ) {o : Outcome} → o ≡ check_in file plan claim tab
      → Told (check_cases file plan claim tab) o.refusal
  unfolding check_in
  check_told plan claim tab e =
      subst (λ x. Told (check_cases file plan claim tab) x.refusal) (sym e)
      (Of.check_told (read_refusal file) (read_cases file) (read_told file) (read_good file) plan claim tab)

  pub junior_told : (room : ℕ) {o : Outcome} → o ≡ junior_in file room → Told (junior_cases file room) o.refusal
  unfolding junior_in junior_of
  junior_told room e =
      subst (λ x. Told (junior_cases file room) x.refusal) (sym e)
      (Of.junior_told (read_refusal file) (read_cases file) (read_told file) (read_good file) room)

-- of two files
module _ (first second : List ℕ) where
  reads_told : Told (reads_cases first second) (reads_refusal first second)
  reads_told = told_or (read_refusal first) (read_refusal second) _ _ (read_told first) (λ _. read_told second)

  pub merge_told : (room : ℕ) {o : Outcome} → o ≡ merge_of_files first second room → Told (merge_cases first second room) o.refusal
  unfolding merge_of_files write_of merge_of
  merge_told room e =
      let lines = length (sets_in first) + length (sets_in second) in
      let placements = total (quantities_in first) + total (quantities_in second) in
      let joined = Of.merge_told (reads_refusal first second) _ reads_told (rack_in first) (rack_in second) lines placements in
      subst (λ x. Told (merge_cases first second room) x.refusal) (sym e)
      (Of.write_told (merge_refusal_in first second) _ joined (quantities_in first ++ quantities_in second) (sets_in first ++ sets_in second) room)

  pub alone_told : (room : ℕ) {o : Outcome} → o ≡ alone_in first second room → Told (alone_cases first second room) o.refusal
  unfolding alone_in alone_of
  alone_told room e =
      subst (λ x. Told (alone_cases first second room) x.refusal) (sym e)
      (Of.plan_told (reads_refusal first second) _ reads_told (length (sets_in first) + length (sets_in second)) room)
