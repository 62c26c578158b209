use Rattle.std.proofs.Common.{◌≡◌, ◌+◌, arith}
use Rattle.text.proofs.Buffer.{start, copied}
use Rattle.text.proofs.put_word.Goals as goal

pub loop-i-preserved : goal.loop-i-preserved
loop-i-preserved c =
    let e : c.args.at + c.loop-i.i + 1 ≡ c.args.at + (c.loop-i.i + 1) = omega arith in
    rw (← e) (copied c.args.word.now c.loop-i.i c.loop-i-test.true (omega arith) (omega arith) c.loop-i.invariant)

pub loop-i-init : goal.loop-i-init
loop-i-init c =
    let e : c.args.at + 0 ≡ c.args.at = omega arith in
    rw e start
