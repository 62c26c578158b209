-- The report made of what the calls answer to good lines, where each plan has a byte a line.
use Prim.Native.Nat.{ℕ, ◌*◌, ◌-◌}
use mathlib.Core.Path.{◌≡◌, refl, sym, ap, ◌∙◌}
use mathlib.Core.Bool.{Bool, true, false}
use mathlib.Core.List.{List, ◌++◌, append-nil}
use native.Mathlib.Omega.{arith}
use native.Mathlib.Nat.{le_refl}
use lib.Dec.{T, eqb}
use lib.ListN.{length, drop, drop_of_length-le}
use borrow.Author.Tests.{eqb-true, ne_eqb, le-ltb}
use Rattle.model.specs.Count.{each}
use Rattle.model.specs.Plan.{pairs}
use Rattle.model.specs.Choice.{bare}
use Rattle.model.specs.CommonTip.{top, W}
use Rattle.model.specs.Interval.{named, is_run_of, C}
use Rattle.model.proofs.Lists.{each_iff}
use Rattle.model.proofs.Tests.{true_T, same_test}
use Rattle.placements.specs.Repeated.{total, repeated}
use Rattle.placements.specs.Plans.{quick_plan_q, best_plan_q}
use Rattle.placements.specs.Good.{GoodLines}
use Rattle.std.specs.Prelude.{Option, Result, Ok, Err, IsOk, is_some, unwrap_or}
use Rattle.std.specs.Result.{result_ok}
use Rattle.refusal.specs.declared.Refused.{Refused}
use Rattle.refusal.specs.Reasons.{reason_number, refusal_of, count_in}
use Rattle.refusal.specs.Refusal.{none, accepts, or_else}
use Rattle.refusal.proofs.Laws.{scan-none, scan_passes, reason_not_0}
use Rattle.call_refusals.specs.Calls.{plan_refusal, run_refusal, best_refusal}
use Rattle.call_refusals.proofs.Calls.{best-run}
use Rattle.line_calls.specs.Answers.{CommonAnswer}
use Rattle.line_calls.specs.Answers.{PlanAnswer, plan_told}
use Rattle.line_calls.specs.Lines.{common_of, quick_of, quick_buffer, best_of, best_buffer}
use Rattle.report.specs.Report.{Facts, pairs_text, line_text, line_at, best_text, report_of}
use Rattle.file_report.specs.Summary.{all_runs, facts_of, BestTold}

-- a plan with a byte a line is a whole buffer
whole : (lines new old : List ℕ) → length old ≡ length lines → new ++ drop (length lines) old ≡ new
whole lines new old e = rw (drop_of_length-le old {i = length lines} (omega (arith, e))) (append-nil new)

-- no line is refused for being no run exactly where each is one
runs_each : (lines : List ℕ) → accepts (run_refusal lines) ≡ all_runs lines
runs_each lines =
    let run = is_run_of (named lines) in
    same_test (accepts (run_refusal lines)) (each run lines)
    (λ t. (each_iff run lines).1 (scan-none run (λ _. 25) lines (λ _ e. omega (arith, e)) (eqb-true _ 0 (true_T _ t))))
    (λ t. rw (scan_passes run (λ _. 25) lines ((each_iff run lines).0 t)) tt)

module _ {m : ℕ} {qs lines : List ℕ} (good : GoodLines m qs lines) where
  pub common_is : {r : CommonAnswer} → r ≡ common_of none m qs lines
      → (r.off ≡ total qs - top m (repeated qs lines)) × (r.tips ≡ W m (repeated qs lines))
  unfolding common_of
  common_is e = rw e (refl, refl)

  module _ (old : List ℕ) (size : length old ≡ length lines) where
    -- the plan buffer is not too short
    plan_long : plan_refusal none (length lines) (length old) ≡ none
    unfolding plan_refusal or_else
    plan_long = rw (le-ltb (length old) (length lines) (omega (arith, size))) refl

    -- so quick sharing has a value
    pub quick_ok : (r : Result ℕ Refused) → plan_told r ≡ quick_of none m bare qs lines (length old) → IsOk r
    unfolding quick_of
    quick_ok (Ok x) e = refl
    quick_ok (Err r) e = absurd (reason_not_0 r.reason (ap (λ a. a.refusal.number) e ∙ ap (λ a. a.number) plan_long))

    pub quick_is : {r : PlanAnswer} {out : List ℕ} → r ≡ quick_of none m bare qs lines (length old)
        → out ≡ quick_buffer none m bare qs lines old
        → (r.pairs ≡ pairs (repeated qs (quick_plan_q bare m qs lines))) × (out ≡ quick_plan_q bare m qs lines)
    unfolding quick_of quick_buffer
    quick_is e f = rw (e, f, plan_long) (refl, whole lines (quick_plan_q bare m qs lines) old size)

    -- for best sharing too: what is left to refuse is a line that is no run
    best-left : best_refusal none m lines (length old) (m * m) ≡ run_refusal lines
    best-left = sym (best-run none refl m lines (length old) (m * m) (omega (arith, size)) (le_refl (m * m)))

    pub best_is : {r : PlanAnswer} {out : List ℕ}
        → r ≡ best_of none m qs lines (length old) (m * m) → out ≡ best_buffer none m bare qs lines old (m * m)
        → BestTold m qs lines (eqb r.refusal.number 0) r.pairs out
    unfolding best_of best_buffer
    best_is e f = rw (e, f, best-left) (record {
      runs_are = runs_each lines;
      pairs_are = λ t. rw (true_T (accepts (run_refusal lines)) t) refl;
      plan_is = λ t. rw (true_T (accepts (run_refusal lines)) t) (whole lines (best_plan_q bare m qs lines) old size);
    })

-- what is known of a result is known of its value, where it has one
pub best_ok : (r : Result ℕ Refused) {o : Option ℕ} → o ≡ result_ok r → {m : ℕ} {qs lines out : List ℕ}
    → BestTold m qs lines (eqb (refusal_of r).number 0) (count_in r) out → BestTold m qs lines (is_some o) (unwrap_or o 0) out
best_ok (Ok x) e told = rw e told
best_ok (Err r) e {m} {qs} {lines} {out} told =
    let refused = ne_eqb (reason_number r.reason) 0 (reason_not_0 r.reason) in
    let none_told : BestTold m qs lines false 0 out = rw refused at told in
    rw e none_told

-- what is reported of lines of which best sharing answers these pairs and this plan
facts : ℕ → List ℕ → List ℕ → Bool → ℕ → List ℕ → Facts
facts m qs lines runs shared plan = record {
  rack = m;
  off = total qs - top m (repeated qs lines);
  tips = W m (repeated qs lines);
  quick_pairs = pairs (repeated qs (quick_plan_q bare m qs lines));
  runs = runs;
  best_pairs = shared;
  quick = quick_plan_q bare m qs lines;
  best = plan;
}

-- without runs they are not printed
without_runs : (m : ℕ) (qs lines : List ℕ) (x y : ℕ) (plan other : List ℕ)
    → report_of (facts m qs lines false x plan) ≡ report_of (facts m qs lines false y other)
unfolding facts report_of pairs_text line_at line_text best_text
without_runs m qs lines x y plan other = refl

pub same_report : (m : ℕ) (qs lines : List ℕ) {o w x y : ℕ} {runs : Bool} {quick best : List ℕ}
    → (o ≡ total qs - top m (repeated qs lines)) × (w ≡ W m (repeated qs lines))
    → (x ≡ pairs (repeated qs (quick_plan_q bare m qs lines))) × (quick ≡ quick_plan_q bare m qs lines)
    → BestTold m qs lines runs y best
    → report_of (record { rack = m; off = o; tips = w; quick_pairs = x; runs = runs; best_pairs = y; quick = quick; best = best })
    ≡ report_of (facts_of m qs lines)
unfolding facts facts_of
same_report m qs lines {y = y} {runs = runs} {best = best} (e, f) (g, h) told =
    rw (e, f, g, h, ← told.runs_are) (by runs told.pairs_are told.plan_is)
  where
    by : (t : Bool) → (T t → y ≡ C (repeated qs lines) 0 m) → (T t → best ≡ best_plan_q bare m qs lines)
        → report_of (facts m qs lines t y best) ≡ report_of (facts m qs lines t (C (repeated qs lines) 0 m) (best_plan_q bare m qs lines))
    by true p q = rw (p tt, q tt)
    by false p q = without_runs m qs lines _ _ _ _
