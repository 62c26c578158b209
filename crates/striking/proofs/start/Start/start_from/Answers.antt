use Rattle.std.proofs.Common.{◌≡◌, ◌+◌, false, ⊎_elim, rules, arith}
use Rattle.model.proofs.Tests.{le_or_lt}
use Rattle.model.proofs.Run.{low-high, high-below}
use Rattle.striking.specs.Early.{leaves_by}
use Rattle.striking.proofs.Early.{leaves-none}
use Rattle.striking.proofs.Ranges.{none_from_any}
use Rattle.striking.proofs.start.Start.start_from.Goals as goal

pub overflow_add-highest : goal.overflow_add-highest
overflow_add-highest c =
    let line = c.args.self.now.line in
    record { fits = omega (arith, c.highest.ensures, high-below line.lines.ready.rack line.domain, line.lines.ready.rack) }

pub overflow_sub-highest : goal.overflow_sub-highest
overflow_sub-highest c =
    let line = c.args.self.now.line in
    omega (arith, c.highest.ensures, low-high line.lines.ready.rack line.domain)

pub returns : goal.returns
returns c = λ e w t x.
    let s = c.args.self.now in
    let line = s.line in
    ⊎_elim
    (λ p. leaves-none line.lines.m line.lines.sums.now line.inner.now line.upper.now s.quantity line.set s.low s.high line.goal c.args.a w t
    (c.widest_live-widest.ensures.past w x.ends (omega arith)))
    (λ p. none_from_any _ _ c.any.result
    (λ v. leaves_by line.lines.m line.lines.sums.now line.inner.now line.upper.now s.quantity line.set s.low s.high line.goal c.args.a v t ≡ false)
    c.any.ensures.ran (λ v q k. search rules) e w (omega (arith, c.highest.ensures, x.to)) (omega arith))
    (le_or_lt (c.widest_live-widest.result + 1) w)
