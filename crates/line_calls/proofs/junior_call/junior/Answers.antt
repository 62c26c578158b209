use mathlib.Core.Path.{◌≡◌, sym, ap, ◌∙◌}
use lib.Seq.{length-take-le}
use Rattle.std.proofs.Common.{ℕ, List, ◌++◌, length, take, drop}
use Rattle.std.specs.Prelude.{Option, Some, None, Result}
use Rattle.std.specs.Option.{ok_or}
use Rattle.placements.specs.Good.{GoodLines}
use Rattle.refusal.specs.Refusal.{none}
use Rattle.refusal.specs.Reasons.{refusal_of}
use Rattle.refusal.specs.declared.Reason.TheVariants.{NoTwoTips}
use Rattle.refusal.specs.declared.Refused.{Refused}
use Rattle.refusal.proofs.Laws.{err_of, reason_not_0}
use Rattle.call_refusals.proofs.Junior.{junior_none, junior_few}
use Rattle.junior.specs.declared.Found.{Found}
use Rattle.junior.specs.Found.{found_of, plan_of}
use Rattle.line_calls.specs.Answers.{junior_told}
use Rattle.line_calls.specs.Junior.{junior_of, junior_buffer, JuniorRule}
use Rattle.line_calls.proofs.JuniorPlan.{asked, junior_refused, junior_found, junior_missed}
use Rattle.line_calls.proofs.junior_call.junior.Goals as goal

pub returns-in_err-junior_refusal : goal.returns-in_err-junior_refusal
returns-in_err-junior_refusal c =
    let a = c.args in
    let e = c.in_err-junior_refusal.field-0.0 in
    let same = err_of _ e c.from_residual.ensures in
    let (answer, (plan, rule)) =
    junior_refused none a.lines.rack a.lines.quantities.now a.lines.sets.now a.plan.now
    (rw c.len-count.ensures at c.in_err-junior_refusal.ensures) (reason_not_0 e.reason) in
    rw same (record { answer = answer; plan = plan; rule = rule })

pub slice_bounds-plan_lines-end : goal.slice_bounds-plan_lines-end
slice_bounds-plan_lines-end c = (junior_none none _ _ _ (ap (λ r. r.number) (sym c.in_ok-junior_refusal.ensures))).1

pub slice_bounds-plan_lines-end-2 : goal.slice_bounds-plan_lines-end-2
slice_bounds-plan_lines-end-2 c = sym (length-take-le _ _ (junior_none none _ _ _ (ap (λ r. r.number) (sym c.in_ok-junior_refusal.ensures))).1)

pub plan_lines-requires : goal.plan_lines-requires
plan_lines-requires c =
    let asked = ap (λ r. r.number) (sym c.in_ok-junior_refusal.ensures) in
    let few = junior_few none _ _ _ asked in
    record {
      size = length-take-le _ _ (junior_none none _ _ _ asked).1 ∙ c.len-count.ensures;
      short = rw c.len-count.ensures at few.0;
      narrow = few.1;
    }

-- what is answered and left where the tips are sought: the plan that is found, or none
module _ (m : ℕ) (qs lines old : List ℕ) (asked_none : (asked none m qs lines old).number ≡ 0) (good : GoodLines m qs lines)
    {n : ℕ} (size : n ≡ length lines) {out : List ℕ} (plan : out ≡ plan_of m qs lines (take n old)) where
  abbrev answered : Result Found Refused → Type 0
  answered r =
      (junior_told r ≡ junior_of none m qs lines (length old))
      × ((out ++ drop n old ≡ junior_buffer none m qs lines old)
      × JuniorRule (asked none m qs lines old).number qs lines (out ++ drop n old) (refusal_of r).number
      (junior_told r).pairs (junior_told r).u (junior_told r).v)

  by_found : (found : Option Found) → found ≡ found_of m qs lines → answered (ok_or found (record { reason = NoTwoTips; place = 0 }))
  by_found (Some found) is = junior_found none m qs lines old asked_none good size plan is
  by_found None is = junior_missed none m qs lines old asked_none good size plan is

pub returns : goal.returns
returns c =
    let a = c.args in
    let asked_none = rw c.len-count.ensures at (ap (λ r. r.number) (sym c.in_ok-junior_refusal.ensures)) in
    let found = c.plan_lines.ensures in
    let (answer, (plan, rule)) =
    by_found a.lines.rack a.lines.quantities.now a.lines.sets.now a.plan.now asked_none a.lines.good
    c.len-count.ensures found.plan c.plan_lines.result found.answer in
    rw (c.ok_or.ensures.value, c.at.ensures) (record { answer = answer; plan = plan; rule = rule })
