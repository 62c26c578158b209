use Rattle.std.proofs.Common.{◌≡◌, false, refl, sym, ◌∙◌, rules, arith}
use Rattle.striking.specs.Early.{starts_by, leaves_by}
use Rattle.striking.proofs.Ranges.{none_from_any}
use Rattle.striking.proofs.Early.{leaves_none}
use Rattle.striking.proofs.start.Start.start_in.Goals as goal

pub returns-then-not-is_live : goal.returns-then-not-is_live
unfolding leaves_by
returns-then-not-is_live c = λ _ t. rw (sym c.is_live.ensures ∙ c.if-not-is_live.true) refl

pub returns : goal.returns
returns c = λ e.
    let s = c.args.self.now in
    let line = s.line in
    leaves_none line.lines.m line.lines.sums.now line.inner.now line.upper.now s.quantity s.low s.high line.goal c.args.of.first c.args.of.width
    line.lines.ready.rack line.domain (λ t l h.
    none_from_any _ _ c.any.result
    (λ u. starts_by line.lines.m line.lines.sums.now line.inner.now line.upper.now s.quantity line.set s.low s.high line.goal
    c.args.of.first c.args.of.width u ≡ false)
    c.any.ensures.ran (λ x q k. search rules) e t (omega (arith, c.lowest.ensures)) (omega (arith, c.highest.ensures)))
