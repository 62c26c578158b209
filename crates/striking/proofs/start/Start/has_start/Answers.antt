use Rattle.std.proofs.Common.{◌≡◌, ℕ, false, rules, arith}
use Rattle.model.proofs.Run.{low-high, high-below}
use Rattle.goal_rules.specs.Tables.{Whole}
use Rattle.striking.specs.Early.{leaves_by}
use Rattle.striking.proofs.Ranges.{none_from_any}
use Rattle.striking.proofs.start.Start.has_start.Goals as goal

pub overflow_add-lowest : goal.overflow_add-lowest
overflow_add-lowest c =
    let line = c.args.self.now.line in
    let rack = line.lines.ready.rack in
    record { fits = omega (arith, c.lowest.ensures, low-high rack line.domain, high-below rack line.domain, rack) }

pub returns : goal.returns
returns c = λ e a w t x.
    let s = c.args.self.now in
    let line = s.line in
    none_from_any _ _ c.any.result
    (λ b. (v u : ℕ) → Whole line.lines.m line.set b v
    → leaves_by line.lines.m line.lines.sums.now line.inner.now line.upper.now s.quantity line.set s.low s.high line.goal b v u ≡ false)
    c.any.ensures.ran (λ b q k. search rules) e a (omega arith) (omega (arith, c.lowest.ensures, x.from)) w t x
