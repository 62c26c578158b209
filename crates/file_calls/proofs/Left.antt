-- Of a call on a file: the pairs that it tells are few. The table that best sharing leaves has the most pairs of each interval, and the check accepts
-- what it leaves.
use Prim.Native.Nat.{ℕ, ◌≤◌}
use mathlib.Core.Path.{◌≡◌, ap}
use mathlib.Core.List.{List}
use lib.ListN.{length}
use Rattle.model.specs.Limits.{most_pairs}
use Rattle.model.specs.Choice.{Mounted}
use Rattle.placements.specs.Good.{GoodLines}
use Rattle.refusal.proofs.Laws.{or_none}
use Rattle.job.specs.Job.{rack_in, sets_in, quantities_in, read_refusal}
use Rattle.job.proofs.Reading.{read_good}
use Rattle.call_refusals.proofs.Calls.{mounted_none}
use Rattle.line_calls.proofs.Left as Lines
use Rattle.line_calls.proofs.AlongPlan as AlongLines
use Rattle.line_calls.proofs.ExactPlan as ExactLines
use Rattle.panel.proofs.Few as Panel
use Rattle.file_calls.specs.Outcomes.{Outcome}
use Rattle.file_calls.specs.Calls.{mounted_in, quick_in, best_in, best_plan_in, best_table_in, check_outcome, check_in}
use Rattle.file_calls.specs.Rules.{TableRuleOf, CheckAcceptsOf}
use Rattle.file_calls.specs.Junior.{junior_in}
use Rattle.file_calls.specs.Along.{along_in, along_plan_in, AlongRuleOf}
use Rattle.file_calls.specs.Exact.{exact_in, exact_plan_in, ExactRuleOf}
use Rattle.file_calls.specs.Panel.{reads_refusal, alone_in}

module _ (file : List ℕ) where
  abbrev m : ℕ
  m = rack_in file

  abbrev qs : List ℕ
  qs = quantities_in file

  abbrev lines : List ℕ
  lines = sets_in file

  pub junior_few : (plan : List ℕ) {o : Outcome} → o ≡ junior_in file (length plan) → o.first ≤ most_pairs
  unfolding junior_in
  junior_few plan e = rw e (Lines.junior_few (read_refusal file) m qs lines (read_good file) plan)

  module _ (mounted : Mounted) where
    good_mounted : (mounted_in file mounted).number ≡ 0 → GoodLines m qs lines
    good_mounted z = read_good file (mounted_none (read_refusal file) m mounted z).0

    pub quick_few : (room : ℕ) {o : Outcome} → o ≡ quick_in file mounted room → o.first ≤ most_pairs
    unfolding quick_in
    quick_few room e = rw e (Lines.quick_few (mounted_in file mounted) m qs lines good_mounted mounted room)

    -- what the plan along the list leaves keeps its rule
    pub along_holds : (plan : List ℕ) {o : Outcome} {last : List ℕ} → o ≡ along_in file mounted (length plan)
        → last ≡ along_plan_in file mounted plan → AlongRuleOf file mounted last o × (o.second ≤ most_pairs)
    unfolding along_in along_plan_in
    along_holds plan e p = rw (e, p) (AlongLines.along_holds (mounted_in file mounted) mounted qs lines plan good_mounted)

    -- and what exact sharing leaves
    pub exact_holds : (price : ℕ) (plan cells : List ℕ) {o : Outcome} {last : List ℕ}
        → o ≡ exact_in file mounted price (length plan) (length cells) → last ≡ exact_plan_in file mounted price plan (length cells)
        → ExactRuleOf file price last o × (o.first ≤ most_pairs)
    unfolding exact_in exact_plan_in
    exact_holds price plan cells e p =
        rw (e, p) (ExactLines.exact_holds (mounted_in file mounted) m mounted price qs lines plan cells good_mounted)

    module _ (plan cells : List ℕ) {o : Outcome} (e : o ≡ best_in file mounted (length plan) (length cells)) where
      pub best_few : o.first ≤ most_pairs
      unfolding best_in
      best_few = rw e (Lines.best_few (mounted_in file mounted) m qs lines good_mounted (length plan) (length cells))

      module _ {table : List ℕ} (t : table ≡ best_table_in file mounted (length plan) cells) where
        pub best_entries : TableRuleOf file table o
        unfolding best_in best_table_in
        best_entries = rw (e, t) (Lines.best_entries (mounted_in file mounted) m qs lines good_mounted (length plan) cells)

        pub best_checked : {laid : List ℕ} → laid ≡ best_plan_in file mounted plan (length cells) → CheckAcceptsOf file laid table o
        unfolding best_in best_table_in best_plan_in check_in
        best_checked p =
            rw (e, t, p) (λ z. ap check_outcome (Lines.best_checked (read_refusal file) m qs lines (read_good file) mounted plan cells z))

pub alone_few : (first second : List ℕ) (room : ℕ) {o : Outcome} → o ≡ alone_in first second room → (o.first ≤ most_pairs) × (o.second ≤ most_pairs)
unfolding alone_in
alone_few first second room e =
    rw e (Panel.alone_few (reads_refusal first second) (rack_in first) (quantities_in first) (sets_in first) (rack_in second) (quantities_in second)
    (sets_in second)
    (λ z. let (x, y) = or_none (read_refusal first) (read_refusal second) z in (read_good first x, read_good second y)) room)
