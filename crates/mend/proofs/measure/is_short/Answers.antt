use Rattle.std.proofs.Common.{arith}
use Rattle.mend_rules.proofs.Files.{read_few}
use Rattle.mend.proofs.measure.is_short.Goals as goal

pub most_report-requires : goal.most_report-requires
most_report-requires c = omega (arith, c.args.file.count_is, read_few c.args.file.bytes.now)
