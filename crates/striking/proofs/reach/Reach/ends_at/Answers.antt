use Rattle.std.proofs.Common.{refl, sym, ◌∙◌}
use Rattle.striking.specs.Striking.{ends_by}
use Rattle.striking.proofs.Kept.{le-leb}
use Rattle.striking.proofs.reach.Reach.ends_at.Goals as goal

pub returns-then-not-has_tip : goal.returns-then-not-has_tip
unfolding ends_by
returns-then-not-has_tip c =
    rw (le-leb c.args.of.first c.args.t c.requires.from, sym c.has_tip.ensures ∙ c.if-not-has_tip.true) refl

pub returns : goal.returns
unfolding ends_by
returns c =
    let some = le-leb c.args.of.first c.args.t c.requires.from in
    rw (some, sym c.has_tip.ensures ∙ c.if-not-has_tip.false, c.from.ensures, c.split_at-split.ensures.split) refl
