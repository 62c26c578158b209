use Rattle.std.proofs.Common.{◌≡◌, ◌-◌, sym, ◌∙◌, ⊎_elim, arith}
use Rattle.model.proofs.Tests.{le_or_lt}
use Rattle.striking.proofs.live.Live.widest_from.Goals as goal

pub returns-then-has-clause-past : goal.returns-then-has-clause-past
returns-then-has-clause-past c = λ v h g. c.loop-w.invariant v h (omega arith)

pub loop-w-preserved : goal.loop-w-preserved
loop-w-preserved c = λ v h g. ⊎_elim
    (λ p. c.loop-w.invariant v h p)
    (λ p. let e : v ≡ c.loop-w.w - 1 = omega arith in rw e (sym c.has.ensures ∙ c.if-has.false))
    (le_or_lt c.loop-w.w v)

pub returns-clause-past : goal.returns-clause-past
returns-clause-past c = λ v h g. c.loop-w.invariant v h (omega arith)
