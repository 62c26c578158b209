use Rattle.std.proofs.Common.{length}
use lib.Dec.{leb→le}
use Rattle.job_read.proofs.ReadLines.{few_room}
use Rattle.job_read.proofs.reading.is_short.Goals as goal

pub returns : goal.returns
returns c = λ t. few_room c.args.file.now (leb→le (length c.args.file.now) 584 t)
