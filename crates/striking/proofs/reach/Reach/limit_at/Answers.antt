use Rattle.std.proofs.Common.{◌*◌, ap₂, ◌∙◌, arith}
use Rattle.striking.specs.Striking.{limit_by}
use Rattle.striking.proofs.reach.Reach.limit_at.Goals as goal

pub meeting_at-requires : goal.meeting_at-requires
meeting_at-requires c = rw (c.lowest-l.ensures, c.highest-h.ensures) (c.args.self.now.counted.meeting c.args.of.first c.args.of.width
    c.requires.inside c.requires.from c.requires.to)

pub returns : goal.returns
unfolding limit_by
returns c = rw (← c.lowest-l.ensures, ← c.highest-h.ensures) (omega (
  arith,
  c.entry_at-inside.ensures.entry,
  c.from-own.ensures,
  c.pairs_among.ensures,
  ap₂ ◌*◌ c.from.ensures (c.from-2.ensures ∙ c.meeting_at.ensures.meeting),
))
