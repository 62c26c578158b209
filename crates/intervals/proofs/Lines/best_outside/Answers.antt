use Rattle.std.proofs.Common.{◌≡◌, ◌+◌, ◌-◌, ℕ, refl, arith}
use Rattle.model.specs.Count.{largest}
use Rattle.model.proofs.Largest.{largest-more}
use Rattle.intervals.specs.Outer.{before_by, behind_by}
use Rattle.intervals.proofs.Lines.best_outside.Goals as goal

pub loop-j-init : goal.loop-j-init
unfolding largest
loop-j-init c = refl

pub loop-j-preserved : goal.loop-j-preserved
loop-j-preserved c =
    let s = c.args.self.now in
    let f : ℕ → ℕ = before_by s.m s.sums.now c.args.inner.now c.args.outer.now c.args.of.first c.args.of.width in
    omega (arith, c.max-best.ensures, c.outside_at.ensures, largest-more f c.loop-j.j)

pub loop-k-init : goal.loop-k-init
unfolding largest
loop-k-init c =
    let e : c.loop-j.j ≡ c.args.self.now.m - (c.args.of.first + c.args.of.width) = omega arith in
    omega (arith, rw e at c.loop-j.invariant)

pub loop-k-preserved : goal.loop-k-preserved
loop-k-preserved c =
    let s = c.args.self.now in
    let f : ℕ → ℕ = behind_by s.m s.sums.now c.args.inner.now c.args.outer.now c.args.of.first c.args.of.width in
    omega (arith, c.max-best-in-loop-k.ensures, c.outside_at-in-loop-k.ensures, largest-more f c.loop-k.k)
