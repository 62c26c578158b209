use Rattle.std.proofs.Common.{sym}
use Rattle.mend.proofs.There.{start_long}
use Rattle.mend.proofs.read.Started.open.Goals as goal

pub overflow_sub-whole : goal.overflow_sub-whole
overflow_sub-whole c = start_long c.args.file.now (sym c.in_ok-header.ensures.refusal)
