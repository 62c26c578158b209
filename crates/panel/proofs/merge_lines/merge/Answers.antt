use Prim.Native.Nat.{◌+◌}
use mathlib.Core.Path.{sym, ap, ap₂, ◌∙◌}
use native.Mathlib.Omega.{arith}
use Rattle.std.proofs.Common.{length, drop, length-append, length-drop}
use Rattle.refusal.specs.Refusal.{none}
use Rattle.refusal.proofs.Laws.{told_err}
use Rattle.panel.specs.Panel.{merge_refusal, merge_of}
use Rattle.panel.proofs.Merged.{merge_none}
use Rattle.panel.proofs.merge_lines.merge.Goals as goal

pub returns-in_err-merge_refusal-clause-answer : goal.returns-in_err-merge_refusal-clause-answer
unfolding merge_of
returns-in_err-merge_refusal-clause-answer c =
    let a = c.args in
    told_err _ _ c.from_residual.ensures
    ∙ c.in_err-merge_refusal.ensures
    ∙ ap₂ (λ n t. merge_refusal none a.first.rack a.second.rack n t) (ap₂ ◌+◌ c.len-count.ensures c.len.ensures)
    (ap₂ ◌+◌ c.total.ensures c.total-2.ensures)

-- the lines of both are few
pub slice_bounds-copy_from_slice-end-3 : goal.slice_bounds-copy_from_slice-end-3
slice_bounds-copy_from_slice-end-3 c =
    let few = (merge_none none _ _ _ _ (ap (λ r. r.number) (sym c.in_ok-merge_refusal.ensures))).lines_few in
    let front = c.copy_from_slice.new.self in
    let n = c.len-count.result in
    omega (arith, few, length-append front (drop n c.args.sets.now), length-drop n c.args.sets.now, ap length c.copy_from_slice.ensures.after)

pub returns-clause-answer : goal.returns-clause-answer
unfolding merge_of
returns-clause-answer c =
    let a = c.args in
    c.in_ok-merge_refusal.ensures
    ∙ ap₂ (λ n t. merge_refusal none a.first.rack a.second.rack n t) (ap₂ ◌+◌ c.len-count.ensures c.len.ensures)
    (ap₂ ◌+◌ c.total.ensures c.total-2.ensures)
