use Rattle.std.proofs.Common.{◌≡◌, ◌*◌, ◌%◌, ◌^◌, ◌<◌, ℕ, Bool, sym, ◌∙◌, arith}
use lib.Pow.{pow-lt}
use Rattle.model.proofs.Run.{high-below}
use Rattle.striking.specs.Striking.{ends_by}
use Rattle.striking.proofs.Kept.{tips-before, tips-after, bit_kept, bit_left}
use Rattle.striking.proofs.reach.Reach.ended_tips.Goals.{then-ends_at, else-ends_at}
use Rattle.striking.proofs.reach.Reach.ended_tips.Goals as goal

pub overflow_add-highest : goal.overflow_add-highest
overflow_add-highest c =
    record { fits = omega (arith, c.highest.ensures, high-below c.args.self.now.lines.ready.rack c.requires.domain) }

pub loop-t-init : goal.loop-t-init
loop-t-init c =
    let s = c.args.self.now in
    sym (tips-before s.lines.m s.lines.sums.now s.inner.now s.lines.added c.args.set s.goal c.args.outside c.args.of.first
    c.args.of.width _ (omega (arith, c.min-begin.ensures, c.max.ensures, c.lowest.ensures)))

pub loop-t-preserved : goal.loop-t-preserved
loop-t-preserved c =
    let s = c.args.self.now in
    let f : ℕ → Bool
    = ends_by s.lines.m s.lines.sums.now s.inner.now s.lines.added c.args.set s.goal c.args.outside c.args.of.first c.args.of.width in
    let below : 2 ^ c.loop-t.t < 2 ^ 64 = pow-lt {j = 64} (omega (arith, c.min-end.ensures, s.lines.ready.rack)) in
    let bit : 1 * 2 ^ c.loop-t.t % 2 ^ 64 ≡ 2 ^ c.loop-t.t = omega arith in
    elim c.if-ends_at.branch [
      | then-ends_at w ↦ rw (w.kept-is, bit, c.loop-t.invariant) (bit_kept f c.loop-t.t (sym c.ends_at.ensures ∙ w.if-ends_at.true))
      | else-ends_at w ↦ rw (w.kept-is, c.loop-t.invariant) (bit_left f c.loop-t.t (sym c.ends_at.ensures ∙ w.if-ends_at.false))
    ]

pub returns : goal.returns
returns c =
    let s = c.args.self.now in
    let after = tips-after s.lines.m s.lines.sums.now s.inner.now s.lines.added c.args.set s.goal c.args.outside c.args.of.first
    c.args.of.width s.lines.ready.rack c.requires.domain c.loop-t.t (omega (arith, c.min-end.ensures, c.highest.ensures)) in
    c.loop-t.invariant ∙ after
