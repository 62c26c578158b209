use Rattle.file_calls.proofs.CasesTold.{common_told}
use Rattle.file_calls.proofs.common_call.common_outcome.Goals as goal

pub returns-then-is_plain-clause-cases : goal.returns-then-is_plain-clause-cases
returns-then-is_plain-clause-cases c = common_told c.args.file.now c.plain_common.ensures.outcome

pub returns-else-is_plain-clause-cases : goal.returns-else-is_plain-clause-cases
returns-else-is_plain-clause-cases c = common_told c.args.file.now c.counted_common.ensures.outcome
