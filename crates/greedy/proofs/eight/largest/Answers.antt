use Rattle.std.proofs.Common.{arith, rules, ◌≡◌, max, refl}
use Rattle.model.specs.Count.{largest}
use Rattle.model.proofs.Largest.{largest-more}
use Rattle.greedy.specs.Eight.{count_in}
use Rattle.greedy.proofs.eight.largest.Goals as goal

pub loop-count-init : goal.loop-count-init
unfolding largest
loop-count-init c = refl

pub loop-count-preserved : goal.loop-count-preserved
loop-count-preserved c =
    let at = c.loop-count in
    let f = count_in c.args.counts.now in
    let e : c.max-most.result ≡ max at.most (f at.count-index) = search rules in
    omega (arith, at.invariant, e, largest-more f at.count-index)
