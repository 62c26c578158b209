use native.Mathlib.Omega.{arith}
use mathlib.Core.Path.{◌≡◌, ap}
use lib.ListN.{take}
use lib.Seq.{take_all}
use Rattle.job.specs.Job.{number_at, number_of}
use Rattle.job.proofs.Numbers.{number_eight}
use Rattle.job_read.proofs.set_at_once.Goals as goal

pub returns : goal.returns
unfolding number_at
returns c =
    let bytes = c.args.bytes.now in
    let whole : number_of (take 8 bytes) ≡ number_of bytes = ap number_of (take_all 8 bytes (omega arith)) in
    omega (arith, number_eight bytes 0 (omega arith), whole)
