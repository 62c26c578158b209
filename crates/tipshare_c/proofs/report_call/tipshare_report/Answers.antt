use Rattle.tipshare_c.proofs.CasesTold.{report_told}
use Rattle.tipshare_c.proofs.report_call.tipshare_report.Goals as goal

pub returns-clause-cases : goal.returns-clause-cases
returns-clause-cases c = report_told c.args.file.now c.args.out.now _ _ c.summarize.ensures.text
