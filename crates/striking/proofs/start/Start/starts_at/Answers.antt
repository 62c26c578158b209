use Rattle.std.proofs.Common.{refl, sym, ◌∙◌}
use Rattle.striking.specs.Early.{starts_by}
use Rattle.striking.proofs.start.Start.starts_at.Goals as goal

pub returns-then-not-has_tip : goal.returns-then-not-has_tip
unfolding starts_by
returns-then-not-has_tip c = rw (sym c.has_tip.ensures ∙ c.if-not-has_tip.true) refl

pub returns : goal.returns
unfolding starts_by
returns c =
    let most = c.from-2.ensures ∙ c.max-most.ensures in
    rw (
      sym c.has_tip.ensures ∙ c.if-not-has_tip.false,
      c.from-3.ensures,
      c.entry_at-outside.ensures.entry,
      c.parted_at.ensures.parted,
      c.from.ensures,
      most,
      c.before_most.ensures.most,
      c.behind_most.ensures.most,
    ) refl
