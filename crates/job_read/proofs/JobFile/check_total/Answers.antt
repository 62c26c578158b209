use mathlib.Core.Path.{◌≡◌, refl, ◌∙◌}
use mathlib.Core.Bool.{true, false}
use native.Mathlib.Omega.{arith}
use borrow.Author.Tests.{lt-ltb, le-ltb}
use Rattle.std.proofs.Common.{◌<◌}
use Rattle.job.specs.Job.{count_in}
use Rattle.job.proofs.Reading.{over_in, over_next}
use Rattle.job_read.proofs.JobFile.check_total.Goals as goal

pub returns-then-left-quantity : goal.returns-then-left-quantity
returns-then-left-quantity c =
    let file = c.args.self.bytes.now in
    let here : c.loop-i.i < count_in file = omega (arith, c.args.self.header_is.count-is) in
    let passed = lt-ltb c.loop-i.left c.from-quantity.result c.if-left-quantity.true in
    let over : over_in file ≡ c.loop-i.i =
    over_next file c.loop-i.i c.loop-i.left c.from-quantity.result true here (c.from-quantity.ensures ∙ c.line-quantity.ensures.quantity) passed
    c.loop-i.invariant in
    rw (c.at.ensures, lt-ltb (over_in file) (count_in file) (omega (arith, over, here)), over) refl

pub loop-i-preserved : goal.loop-i-preserved
loop-i-preserved c =
    let file = c.args.self.bytes.now in
    let here : c.loop-i.i < count_in file = omega (arith, c.args.self.header_is.count-is) in
    let within = le-ltb c.loop-i.left c.from-quantity.result c.if-left-quantity.false in
    over_next file c.loop-i.i c.loop-i.left c.from-quantity.result false here (c.from-quantity.ensures ∙ c.line-quantity.ensures.quantity) within
    c.loop-i.invariant
