use Rattle.std.proofs.Common.{rules}
use Rattle.job_read.proofs.ReadLines.{most_room}
use Rattle.job_read.proofs.reading.RoomOf+MOST.read.Goals as goal

pub read_short-requires : goal.read_short-requires
read_short-requires c = (search rules, most_room c.args.file.now)
