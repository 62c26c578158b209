use Rattle.std.proofs.Common.{drop_of_length-le, arith, ◌∙◌}
use mathlib.Core.List.{append-nil}
use Rattle.std.proofs.lemmas.List.{take_all}
use Rattle.model.specs.Plan.{prefer}
use Rattle.model.proofs.Loops.{map_more}
use Rattle.holder_rules.specs.Holders.{gathered}
use Rattle.junior.proofs.lay_lines.Goals as goal

pub loop-i-preserved : goal.loop-i-preserved
loop-i-preserved c =
    let more = map_more (prefer c.args.tip (λ s. c.args.other)) c.args.lines.now c.args.plan.now c.loop-i.i (omega arith) (omega arith) in
    rw (c.tip_for.ensures, c.loop-i.invariant) more

pub returns : goal.returns
unfolding gathered
returns c =
    let all = take_all c.loop-i.i c.args.lines.now (omega arith) in
    c.loop-i.invariant ∙ rw (all, drop_of_length-le c.args.plan.now {i = c.loop-i.i} (omega arith), append-nil)
