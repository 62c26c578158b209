use Rattle.std.proofs.Common.{◌≡◌, ℕ, ◌+◌, ◌-◌, Bool, ◌==◌, refl, arith}
use Rattle.std.proofs.lemmas.Bool.Decides.{nat_tests}
use Rattle.model.specs.Count.{every}
use Rattle.checking.specs.Spread.{cell, row_copied}
use Rattle.checking.proofs.Bounds.{every_next}
use Rattle.checking.proofs.Spread.{row_after}
use Rattle.checking.proofs.ranked.Wide.row_copied.Goals as goal

pub loop-b-init : goal.loop-b-init
unfolding every
loop-b-init c =
    let none : c.args.a + 1 - (c.args.a + 1) ≡ 0 = omega arith in
    rw none (record { few = search arith; counted = refl })

pub loop-b-preserved : goal.loop-b-preserved
loop-b-preserved c =
    let s = c.args.self.now in
    let a = c.args.a in
    let at = c.loop-b in
    let passed = at.b - (a + 1) in
    let agrees : ℕ → Bool = λ j. cell s.m s.table.now a (a + 1 + j) == cell s.m s.table.now (a + 1) (a + 1 + j) in
    let place : a + 1 + passed ≡ at.b = omega arith in
    let more : at.b + 1 - (a + 1) ≡ passed + 1 = omega arith in
    let one : (c.from-lacking.result == 0) ≡ agrees passed
    = rw (c.from-lacking.ensures, place, row_after s.m a) (grind (arith, nat_tests)) in
    rw more (record {
      few = rw c.from-lacking.ensures (grind (arith, nat_tests));
      counted = every_next agrees passed at.lacking c.from-lacking.result at.invariant.counted one;
    })

pub returns : goal.returns
unfolding row_copied
returns c = let e : c.loop-b.b ≡ c.args.self.now.m = omega arith in rw e at c.loop-b.invariant.counted
