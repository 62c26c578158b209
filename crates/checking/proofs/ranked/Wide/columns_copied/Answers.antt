use Rattle.std.proofs.Common.{◌≡◌, ℕ, ◌+◌, ◌-◌, ◌*◌, Bool, ◌||◌, ◌==◌, refl, arith}
use Rattle.model.specs.Count.{every}
use Rattle.model.specs.Plan.{has}
use Rattle.checking.specs.Spread.{cell, columns_copied}
use Rattle.checking.proofs.Bounds.{every_next}
use Rattle.checking.proofs.ranked.Wide.columns_copied.Goals as goal

pub loop-b-init : goal.loop-b-init
unfolding every
loop-b-init c =
    let none : c.args.a + 1 - (c.args.a + 1) ≡ 0 = omega arith in
    rw none (record { few = search arith; counted = refl })

pub loop-b-preserved : goal.loop-b-preserved
loop-b-preserved c =
    let s = c.args.self.now in
    let a = c.args.a in
    let at = c.loop-b in
    let passed = at.b - (a + 1) in
    let agrees : ℕ → Bool
    = λ j. has s.names (a + 1 + j) || (cell s.m s.table.now a (a + 1 + j) == cell s.m s.table.now a (a + j)) in
    let place : a + 1 + passed ≡ at.b = omega arith in
    let before : a * s.m + at.b - 1 ≡ a * s.m + (a + passed) = omega arith in
    let more : at.b + 1 - (a + 1) ≡ passed + 1 = omega arith in
    let one : (c.lacks-lacking.result == 0) ≡ agrees passed
    = rw (place, ← before, ← c.has_tip-is_named.ensures) c.lacks-lacking.ensures.test in
    rw more (record {
      few = omega (arith, c.lacks-lacking.ensures.few, at.invariant.few);
      counted = every_next agrees passed at.lacking c.lacks-lacking.result at.invariant.counted one;
    })

pub returns : goal.returns
unfolding columns_copied
returns c = let e : c.loop-b.b ≡ c.args.self.now.m = omega arith in rw e at c.loop-b.invariant.counted
