use Rattle.text.specs.Text.{joined}
use Rattle.text.specs.Buffer.{Put}
use Rattle.report.specs.Report.{tip_text}
use Rattle.report.proofs.put_tips.Given as goal

abbrev pub invariant-loop-tip : goal.invariant-loop-tip
invariant-loop-tip l = Put l.initial.out l.at (joined (tip_text l.tips) l.tip) l.next l.out
