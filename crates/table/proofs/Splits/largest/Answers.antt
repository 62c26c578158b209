use Rattle.std.proofs.Common.{ℕ, ◌≡◌, ◌+◌, ◌-◌, ◌*◌, length, arith}
use Rattle.model.specs.Count.{largest}
use Rattle.model.proofs.Largest.{largest-more}
use Rattle.table.specs.Cells.{split_at}
use Rattle.table.proofs.Splits.largest.Goals as goal

pub loop-k-init : goal.loop-k-init
unfolding largest
loop-k-init c = (c.requires, omega arith)

pub loop-k-preserved : goal.loop-k-preserved
loop-k-preserved c =
    let s = c.args.self.now in
    let f : ℕ → ℕ = split_at s.base s.allows.now s.sums.now s.lefts.now s.rights.now in
    let i = 2 * c.loop-k.k in
    let e : i + 1 + 1 ≡ 2 * (c.loop-k.k + 1) = omega arith in
    (omega arith, omega (arith, largest-more f i, rw e at (largest-more f (i + 1))))

pub returns-then-n-eq1 : goal.returns-then-n-eq1
returns-then-n-eq1 c =
    let s = c.args.self.now in
    let f : ℕ → ℕ = split_at s.base s.allows.now s.sums.now s.lefts.now s.rights.now in
    let i = 2 * c.loop-k.k in
    let e : i + 1 ≡ length s.allows.now = omega arith in
    let last : i ≡ length s.allows.now - 1 = omega arith in
    omega (arith, rw (← last) at c.at-then-n-eq1.ensures.value, rw e at (largest-more f i))
