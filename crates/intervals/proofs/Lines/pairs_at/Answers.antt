use Rattle.std.proofs.Common.{◌∙◌}
use Rattle.intervals.specs.Splits.{pairs_by}
use Rattle.intervals.proofs.Lines.pairs_at.Goals as goal

pub inside_at-inside-requires : goal.inside_at-inside-requires
inside_at-inside-requires c =
    c.args.self.now.ready.summed c.args.of.first c.args.of.width c.args.c c.requires.inside c.requires.from c.requires.to

pub returns-clause-pairs : goal.returns-clause-pairs
unfolding pairs_by
returns-clause-pairs c = rw (← c.inside_at-inside.ensures) (c.from.ensures ∙ c.pairs_among.ensures)
