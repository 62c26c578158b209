use Rattle.line_calls.proofs.Plans.{bare_none}
use Rattle.file_report.proofs.Answers.{best_is, best_ok}
use Rattle.file_report.proofs.best_lines.Goals as goal

pub returns : goal.returns
returns c =
    let laid = c.best_plan.ensures in
    let l = c.args.lines in
    let good = l.good in
    best_ok c.best_plan.result c.ok.ensures.value
    (best_is good c.args.plan.now c.requires (rw (bare_none l.rack) at laid.answer) (rw (bare_none l.rack) at laid.plan))
