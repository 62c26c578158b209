use Rattle.std.proofs.Common.{sym, refl, ◌∙◌, arith}
use Rattle.goal_rules.specs.Check.{entry}
use Rattle.intervals.proofs.Entry.{entry_some}
use Rattle.intervals.proofs.entry_at.Goals as goal

pub returns-then-w-eq0-clause-entry : goal.returns-then-w-eq0-clause-entry
unfolding entry
returns-then-w-eq0-clause-entry c = rw c.if-w-eq0.true refl

pub returns-clause-entry : goal.returns-clause-entry
returns-clause-entry c = c.from.ensures ∙ sym (entry_some c.args.m c.args.table.now c.args.a c.args.w (omega arith))
