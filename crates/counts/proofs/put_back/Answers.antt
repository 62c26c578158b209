use mathlib.Core.Path.{ap, ◌∙◌}
use Rattle.std.proofs.Common.{arith}
use Rattle.std.specs.Int.{w64, swap_bytes}
use Rattle.model.proofs.Lists.{all_get_d}
use Rattle.model.proofs.Loops.{mapped-more, mapped-all}
use Rattle.counts.specs.Counts.{count_at}
use Rattle.counts.proofs.Swapped.{count_at-swapped}
use Rattle.counts.proofs.put_back.Goals as goal

pub loop-plane-preserved : goal.loop-plane-preserved
loop-plane-preserved c =
    rw (c.swap_bytes.ensures, c.loop-plane.invariant, mapped-more (swap_bytes w64) c.args.planes.now c.loop-plane.plane-index (omega arith))

pub returns : goal.returns
returns c =
    let old = c.args.planes.now in
    let all = c.loop-plane.invariant ∙ mapped-all (swap_bytes w64) old c.loop-plane.plane-index (omega arith) in
    let small = all_get_d 0 old (λ i l. c.fits-planes i) in
    record { planes = all; counts = λ t. ap (λ l. count_at l t) all ∙ count_at-swapped t small }
