use mathlib.Core.Path.{refl, sym, ap}
use native.Mathlib.Omega.{arith}
use Rattle.job_read.proofs.ReadLines.{first_good, given_read}
use Rattle.job_read.proofs.reading.RoomOf.read_short.Goals as goal

pub shared_whole_as_front-sets : goal.shared_whole_as_front-sets
shared_whole_as_front-sets g c =
    omega (arith, (given_read c.in_ok-read.ensures.lines c.in_ok-read.ensures.refusal).room refl, c.read_front.auto.sets)

pub invariant_of-result : goal.invariant_of-result
invariant_of-result g c =
    record { good = first_good c.in_ok-read.ensures.lines (ap (λ r. r.number) (sym c.in_ok-read.ensures.refusal)) }
