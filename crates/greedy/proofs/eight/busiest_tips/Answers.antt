use Rattle.std.proofs.Common.{refl, sym, ◌∙◌}
use Rattle.counts.proofs.Read.{busy_none, busy_some}
use Rattle.greedy.specs.Eight.{count_in}
use Rattle.greedy.proofs.eight.busiest_tips.Goals as goal

pub returns-then-most-eq0-clause-tips : goal.returns-then-most-eq0-clause-tips
returns-then-most-eq0-clause-tips c = sym (busy_none (count_in c.args.counts.now) 8 0 refl)

pub returns-clause-tips : goal.returns-clause-tips
returns-clause-tips c =
    let f = count_in c.args.counts.now in
    rw c.from.ensures (c.tips_with.ensures ∙ sym (busy_some f 8 c.largest-most.result c.if-most-eq0.false))
