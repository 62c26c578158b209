use mathlib.Core.Path.{◌≡◌, ◌∙◌}
use native.Mathlib.Omega.{arith}
use lib.ListN.{replicate, length-replicate}
use lib.Seq.{length-take-le}
use Rattle.std.proofs.Common.{ℕ, List, length, take, ◌≤◌}
use Rattle.model.specs.Limits.{most_lines}
use Rattle.line_calls.proofs.Plans.{bare_none}
use Rattle.file_report.proofs.Answers.{common_is, quick_ok, quick_is, same_report}
use Rattle.file_report.proofs.write_lines.Goals as goal

abbrev zeros : List ℕ
zeros = replicate most_lines 0

-- the part of it that has a byte a line
part : (n : ℕ) → n ≤ most_lines → length (take n zeros) ≡ n
part n h = length-take-le n zeros (omega (arith, h, length-replicate {A = ℕ} most_lines 0))

pub unwrap-pairs-requires : goal.unwrap-pairs-requires
unwrap-pairs-requires c =
    let good = c.args.lines.good in
    let n = c.len-count.result in
    let size = part n (omega (arith, good.few-lines, c.len-count.ensures)) ∙ c.len-count.ensures in
    quick_ok good (take n zeros) size c.quick.result (rw (bare_none c.args.lines.rack) at c.quick.ensures.answer)

pub returns : goal.returns
returns c =
    let l = c.args.lines in
    let n = c.len-count.result in
    let off = common_is l.good c.common-common.ensures.answer in
    let answer = rw (c.unwrap-pairs.ensures, bare_none l.rack) at c.quick.ensures.answer in
    let size = part n (omega (arith, l.good.few-lines, c.len-count.ensures)) ∙ c.len-count.ensures in
    let pairs = quick_is l.good (take n zeros) size answer (rw (bare_none l.rack) at c.quick.ensures.plan) in
    rw (← (same_report l.rack l.quantities.now l.sets.now off pairs c.best_lines-shared.ensures)) c.write_report.ensures
