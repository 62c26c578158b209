use Rattle.std.proofs.Common.{length}
use Rattle.text.specs.Text.{joined}
use Rattle.text.specs.Buffer.{Put}
use Rattle.report.specs.Report.{line_at}
use Rattle.report.proofs.put_lines.Given as goal

abbrev pub invariant-loop-i : goal.invariant-loop-i
invariant-loop-i l = Put l.initial.out l.at (joined (line_at l.quick l.runs l.best) (length l.yielded)) l.next l.out
