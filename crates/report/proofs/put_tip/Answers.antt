use Rattle.std.proofs.Common.{sym}
use Rattle.text.proofs.Buffer.{start}
use Rattle.report.specs.Report.{tip_text}
use Rattle.report.proofs.put_tip.Goals as goal

pub returns : goal.returns
unfolding tip_text
returns c = rw (sym c.if-has_tip.ensures) start
